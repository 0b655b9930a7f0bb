use Rattle.std.proofs.Common.{suc, ◌+◌, add-one, refl, rules}
use Rattle.slips.specs.declared.fault.SlipFault.TheVariants.{Group}
use Rattle.slips.specs.Groups.{inside}
use Rattle.slips.specs.System.{live_in}
use Rattle.slips.specs.Verdict.{unless, odd_three}
use Rattle.slip_check.specs.Shaped.{problem_of, view_of}
use Rattle.ranges.proofs.Chains.{tried}
use Rattle.slip_check.proofs.priced.PricedSlip.check_odd.Goals as goal

pub returns : goal.returns
returns g c =
    let p = problem_of c.args.self.now.shaped in
    let s = view_of c.args.self.now.shaped in
    tried _ _ (λ k. unless (odd_three (live_in p (inside s (suc k)))) (Group (k + 1))) s.count c.try_for_each.result _ c.try_for_each.ensures.runs refl c.count.ensures (λ x v f called. search (rules, add-one))
