use Rattle.std.proofs.Common.{refl, rules}
use Rattle.slips.specs.Verdict.{apart_good}
use Rattle.slip_check.specs.Shaped.{problem_of, view_of}
use Rattle.ranges.proofs.Chains.{all_ran}
use Rattle.slip_check.proofs.shaped.ShapedSlip.is_row_apart.Goals as goal

pub returns : goal.returns
returns g c =
    let p = problem_of c.args.self.now in
    all_ran _ _ (apart_good p (view_of c.args.self.now) c.args.u) p.size c.all.result _ c.all.ensures.runs refl c.size.ensures (λ x v f called. search rules)
