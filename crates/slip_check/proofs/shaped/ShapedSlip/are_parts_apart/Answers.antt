use Rattle.std.proofs.Common.{refl, rules}
use Rattle.slip_check.specs.Shaped.{problem_of, view_of}
use Rattle.slip_check.specs.Tables.{row_apart}
use Rattle.ranges.proofs.Chains.{all_ran}
use Rattle.slip_check.proofs.shaped.ShapedSlip.are_parts_apart.Goals as goal

pub returns : goal.returns
returns g c =
    let p = problem_of c.args.self.now in
    all_ran _ _ (row_apart p (view_of c.args.self.now)) p.size c.all.result _ c.all.ensures.runs refl c.size.ensures (λ x v f called. search rules)
