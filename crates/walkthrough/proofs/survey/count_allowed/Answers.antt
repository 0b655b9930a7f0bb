use Rattle.std.proofs.Common.{refl, arith, rules}
use Rattle.ranges.proofs.Sums.{count_bound}
use Rattle.ranges.proofs.Chains.{summed, sums_low}
use Rattle.walkthrough.specs.Survey.{allows, row_allowed}
use Rattle.walkthrough.proofs.survey.count_allowed.Goals as goal

pub sum-requires-clause-fits : goal.sum-requires-clause-fits
sum-requires-clause-fits g c u seen from =
    let t = g.B.CostBook.means c.args.book.now in
    let few = (g.met.B.CostBook.sound c.args.book.now).few in
    let low = sums_low _ _ (λ i. row_allowed t i t.count) t.count 256 _ _ c.map.ensures.runs refl (search rules) (λ x y f called. search rules) (λ k. let r = count_bound t.count (allows t k) in omega arith) u seen from in
    omega arith

pub returns : goal.returns
returns g c =
    let t = g.B.CostBook.means c.args.book.now in
    summed _ _ (λ i. row_allowed t i t.count) t.count c.sum.result _ _ (c.sum.ensures.runs (search rules)) c.map.ensures.runs refl (search rules) (λ x y f called. search rules)
