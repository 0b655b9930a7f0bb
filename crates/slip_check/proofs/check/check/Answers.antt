use Rattle.slips.specs.View.{view}
use Rattle.slip_check.proofs.check.check.Goals as goal

pub returns-clause-law : goal.returns-clause-law
returns-clause-law g c = c.verdicts_by_law.ensures (g.B.CostBook.means c.args.book.now) c.args.marks.now (view c.args.slip.now) (g.met.B.CostBook.sound c.args.book.now)
