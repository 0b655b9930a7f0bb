use Rattle.std.proofs.Common.{refl, rules}
use Rattle.slips.specs.View.{group_at}
use Rattle.slips.specs.Verdict.{blank_group}
use Rattle.slip_check.specs.Shaped.{view_of}
use Rattle.ranges.proofs.Chains.{all_ran}
use Rattle.slip_check.proofs.shaped.ShapedSlip.are_groups_blank.Goals as goal

pub returns : goal.returns
returns g c =
    let s = view_of c.args.self.now in
    all_ran _ _ (λ k. blank_group (group_at s k)) 127 c.all.result _ c.all.ensures.runs refl refl (λ x v f called. search rules)
