use Rattle.std.proofs.Common.{not, eqb, sym, ap, ◌∙◌, arith}
use Rattle.slips.specs.View.{parent}
use Rattle.slip_check.specs.Shaped.{view_of}
use Rattle.slip_check.specs.Tables.{holds_up}
use Rattle.slip_check.proofs.WaysUp.{above_few, climb_same, up_none, ends_at}
use Rattle.slip_check.proofs.Nesting.{nested_rises}
use Rattle.slip_check.proofs.priced.PricedSlip.is_inside.Goals as goal

pub loop-at-preserved : goal.loop-at-preserved
loop-at-preserved g c =
    let s = view_of c.args.self.now.shaped in
    let rises = nested_rises s c.args.self.now.good_groups in
    let few = above_few (parent s c.loop-at.at) s.count c.loop-at.at (rises c.loop-at.at (omega arith) c.loop-at.invariant.0) in
    let same = climb_same (parent s) s.count rises c.loop-at.at c.args.h (omega arith) c.loop-at.invariant.0 c.if-at-h.true in
    rw c.parent_of-at.ensures (few, same ∙ c.loop-at.invariant.1)

pub returns-then-at-ne0 : goal.returns-then-at-ne0
returns-then-at-ne0 g c =
    let s = view_of c.args.self.now.shaped in
    ends_at (parent s) s.count (nested_rises s c.args.self.now.good_groups) c.loop-at.at c.args.h (omega arith) c.loop-at.invariant.0 (omega arith) ∙ c.loop-at.invariant.1

pub returns-else-at-ne0 : goal.returns-else-at-ne0
returns-else-at-ne0 g c =
    let s = view_of c.args.self.now.shaped in
    ap (λ x. not (eqb x 0)) c.if-at-ne0.false ∙ (sym (ap (λ x. holds_up s x c.args.h) c.if-at-ne0.false ∙ up_none (parent s) s.count c.args.h) ∙ c.loop-at.invariant.1)
