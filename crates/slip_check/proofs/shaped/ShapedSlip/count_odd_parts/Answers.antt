use Rattle.std.proofs.Common.{suc, ◌%◌, eqb, refl, rules}
use Rattle.ranges.proofs.Chains.{counted}
use Rattle.slips.specs.View.{group}
use Rattle.slips.specs.Gaps.{part_size}
use Rattle.slip_check.specs.Shaped.{problem_of, view_of}
use Rattle.slip_check.proofs.shaped.ShapedSlip.count_odd_parts.Goals as goal

pub returns : goal.returns
returns g c =
    let p = problem_of c.args.self.now in
    let s = view_of c.args.self.now in
    counted _ _ (λ j. eqb (part_size p (group s) (suc j) % 2) 1) 256 c.count.result _ _ c.count.ensures.runs c.filter.ensures.runs refl c.from.ensures (λ x b f called. search rules)
