use Rattle.std.proofs.Common.{refl, rules}
use Rattle.ranges.proofs.Chains.{counted}
use Rattle.slip_check.specs.Shaped.{problem_of, view_of}
use Rattle.slip_check.specs.Tables.{leaves}
use Rattle.slip_check.proofs.priced.PricedSlip.count_leaving.Goals as goal

pub returns : goal.returns
returns g c =
    let p = problem_of c.args.self.now.shaped in
    counted _ _ (leaves p (view_of c.args.self.now.shaped) c.args.h) p.size c.count.result _ _ c.count.ensures.runs c.filter.ensures.runs refl c.size.ensures (λ x b f called. search rules)
