use Rattle.std.proofs.Common.{◌≡◌, ◌+◌, ◌||◌, ltb, ap, refl, rules}
use Rattle.std.proofs.lemmas.Bool.{lt-ltb, le-ltb}
use Rattle.std.proofs.lemmas.Result.{err_from_is_err_and}
use Rattle.std.specs.Result.{result_err}
use Rattle.slips.specs.declared.fault.SlipFault.TheVariants.{Group}
use Rattle.slips.specs.View.{group_at}
use Rattle.slips.specs.Verdict.{unless, blank_group, rest_fault, group_good}
use Rattle.slip_check.specs.Shaped.{view_of}
use Rattle.ranges.proofs.Chains.{tried_from, tried}
use Rattle.slip_check.proofs.OrderOfTests.{records_by}
use Rattle.slip_check.proofs.shaped.ShapedSlip.check_group_records.Goals as goal
use Rattle.slip_check.proofs.shaped.ShapedSlip.check_group_records.Goals.{After-try_for_each}

-- the records above the count
rest : (g : _) (c : After-try_for_each g) → result_err c.try_for_each.result ≡ rest_fault (view_of c.args.self.now)
rest g c =
    let s = view_of c.args.self.now in
    tried_from _ _ (λ k. unless (ltb k s.count || blank_group (group_at s k)) (Group (k + 1))) s.count 127 c.try_for_each.result _ c.try_for_each.ensures.runs c.count-count.ensures refl
    (λ k l. ap (λ b. unless (b || blank_group (group_at s k)) (Group (k + 1))) (lt-ltb k s.count l))
    (λ a v f called. search rules)
    (λ x v l called. let past = le-ltb x s.count l in search rules)

pub returns-in_err-try_for_each : goal.returns-in_err-try_for_each
returns-in_err-try_for_each g c =
    let e = err_from_is_err_and c.from_residual-in_err-try_for_each.result c.from_residual-in_err-try_for_each.ensures.1 in
    let r = rest g (goal.at.returns-in_err-try_for_each g c).After-try_for_each in
    rw (e.1, e.2, records_by (view_of c.args.self.now) (rw c.count-count.ensures at c.in_ok-unless.ensures), ← r, c.in_err-try_for_each.was)

pub returns : goal.returns
returns g c =
    let s = view_of c.args.self.now in
    let r = rest g (goal.at.returns g c).After-try_for_each in
    rw (records_by s (rw c.count-count.ensures at c.in_ok-unless.ensures), ← r, c.in_ok-try_for_each.was)
    (tried _ _ (λ k. unless (group_good s k) (Group (k + 1))) s.count c.try_for_each-2.result _ c.try_for_each-2.ensures.runs refl c.count-count.ensures (λ x v f called. search rules))
