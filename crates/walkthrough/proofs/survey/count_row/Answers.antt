use Rattle.std.proofs.Common.{rules, refl}
use Rattle.ranges.proofs.Chains.{counted}
use Rattle.walkthrough.specs.Survey.{allows}
use Rattle.walkthrough.proofs.survey.count_row.Goals as goal

pub returns : goal.returns
returns g c =
    counted _ _ (allows (g.B.CostBook.means c.args.book.now) c.args.i) c.args.count c.count.result _ _ c.count.ensures.runs c.filter.ensures.runs refl refl (λ x b f called. search rules)
