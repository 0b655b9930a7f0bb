use Rattle.std.proofs.Common.{◌≡◌, suc, ◌+◌, sym, ap, ◌∙◌, arith}
use Rattle.slips.specs.View.{parent, worth}
use Rattle.slip_check.specs.Shaped.{view_of}
use Rattle.slip_check.specs.Tables.{holds_up, prices_between}
use Rattle.slip_check.proofs.Nesting.{nested_rises}
use Rattle.slip_check.proofs.Betweens.{steps_left, steps_right, none_between, rank}
use Rattle.slip_check.proofs.priced.PricedSlip.prices_between.Goals as goal

pub loop-left-preserved-then-is_lower : goal.loop-left-preserved-then-is_lower
loop-left-preserved-then-is_lower g c =
    let s = view_of c.args.self.now.shaped in
    let n = s.count in
    let t = steps_left (parent s) (worth s) n (nested_rises s c.args.self.now.good_groups) c.loop-left.left c.loop-left.right c.loop-left.invariant.left_few c.loop-left.invariant.right_few c.loop-left-test.true (sym c.is_lower.ensures ∙ c.if-is_lower.true) in
    let up = c.parent_of-left.ensures in
    let w = c.price_of-sum.ensures.value in
    let r : rank n c.parent_of-left.result ≡ rank n (parent s c.loop-left.left) = ap (rank n) up in
    record {
      left_few = rw up t.few;
      right_few = c.loop-left.invariant.right_few;
      rest = ap (λ x. prices_between s x c.loop-left.right + (c.loop-left.sum + c.price_of-sum.result)) up ∙ omega (arith, t.left);
      bound = omega (arith, t.falls, c.price_of-sum.ensures.bound);
    }

pub loop-left-preserved : goal.loop-left-preserved
loop-left-preserved g c =
    let s = view_of c.args.self.now.shaped in
    let n = s.count in
    let t = steps_right (parent s) (worth s) n (nested_rises s c.args.self.now.good_groups) c.loop-left.left c.loop-left.right c.loop-left.invariant.left_few c.loop-left.invariant.right_few c.loop-left-test.true (sym c.is_lower.ensures ∙ c.if-is_lower.false) in
    let up = c.parent_of-right.ensures in
    let w = c.price_of-sum-else-is_lower.ensures.value in
    let r : rank n c.parent_of-right.result ≡ rank n (parent s c.loop-left.right) = ap (rank n) up in
    record {
      left_few = c.loop-left.invariant.left_few;
      right_few = rw up t.few;
      rest = ap (λ x. prices_between s c.loop-left.left x + (c.loop-left.sum + c.price_of-sum-else-is_lower.result)) up ∙ omega (arith, t.right);
      bound = omega (arith, t.falls, c.price_of-sum-else-is_lower.ensures.bound);
    }

pub returns-clause-value : goal.returns-clause-value
returns-clause-value g c =
    let s = view_of c.args.self.now.shaped in
    let none = ap (λ x. prices_between s x c.loop-left.right) c.loop-left-test.false ∙ none_between s.count (λ k. holds_up s c.loop-left.right (suc k)) (λ k. worth s (suc k)) in
    omega (arith, none, c.loop-left.invariant.rest)
