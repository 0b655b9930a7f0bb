use Rattle.std.proofs.Common.{◌≡◌, Some, sym, rules}
use Rattle.ranges.proofs.First.{first_found}
use Rattle.slips.specs.declared.fault.SlipFault.TheVariants.{Piece}
use Rattle.slips.specs.Verdict.{unless, piece_good}
use Rattle.slip_laws.proofs.Tested.{all_held}
use Rattle.slip_check.specs.Shaped.{problem_of, view_of}
use Rattle.slip_check.proofs.shaped.ShapedSlip.check_pieces.Goals as goal

pub piece_cost-requires-clause-below : goal.piece_cost-requires-clause-below
piece_cost-requires-clause-below g c = all_held (piece_good (problem_of c.args.self.now) (view_of c.args.self.now)) Piece c.loop-u.u c.loop-u.invariant.0

pub returns-in_err-piece_cost-clause-fault : goal.returns-in_err-piece_cost-clause-fault
returns-in_err-piece_cost-clause-fault g c =
    let p = problem_of c.args.self.now in
    let s = view_of c.args.self.now in
    let here : unless (piece_good p s c.loop-u.u) (Piece c.loop-u.u) ≡ Some c.in_err-piece_cost.field-0.0 = search rules in
    let told = sym (first_found (λ u. unless (piece_good p s u) (Piece u)) c.loop-u.u p.size c.in_err-piece_cost.field-0.0 (search rules) c.loop-u.invariant.0 here) in
    search rules
