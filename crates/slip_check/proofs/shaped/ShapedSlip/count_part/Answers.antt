use Rattle.std.proofs.Common.{◌&&◌, eqb, refl, rules}
use Rattle.ranges.proofs.Chains.{counted}
use Rattle.slips.specs.View.{group}
use Rattle.slip_check.specs.Shaped.{problem_of, view_of}
use Rattle.slip_check.proofs.shaped.ShapedSlip.count_part.Goals as goal

pub returns : goal.returns
returns g c =
    let p = problem_of c.args.self.now in
    let s = view_of c.args.self.now in
    counted _ _ (λ u. p.live u && eqb (group s u) c.args.part) p.size c.count.result _ _ c.count.ensures.runs c.filter.ensures.runs refl c.size.ensures (λ x b f called. search rules)
