use Rattle.std.proofs.Common.{◌≡◌, ◌*◌, ◌≤◌, None}
use Rattle.ranges.specs.First.{first_below}
use Rattle.ranges.specs.Sums.{sum_below}
use Rattle.slips.specs.declared.fault.SlipFault.TheVariants.{Piece}
use Rattle.slips.specs.Verdict.{unless, piece_good}
use Rattle.slip_check.specs.Tables.{lead_cost}
use Rattle.slip_check.specs.Shaped.{problem_of, view_of}
use Rattle.slip_check.proofs.shaped.ShapedSlip.check_pieces.Given as goal

abbrev pub invariant-loop-u : goal.invariant-loop-u
invariant-loop-u g l =
    (first_below (λ u. unless (piece_good (problem_of l.self) (view_of l.self) u) (Piece u)) l.u ≡ None)
    × (l.total ≡ sum_below l.u (lead_cost (problem_of l.self) (view_of l.self)))
    × (l.total ≤ 1000000 * l.u)
