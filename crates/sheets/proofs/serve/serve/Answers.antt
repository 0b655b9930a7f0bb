use Rattle.std.proofs.Common.{refl}
use Rattle.sheets.proofs.Serving.{given_as, checked, reopened}
use Rattle.sheets.proofs.serve.serve.Goals as goal

pub returns-in-Open-OnOpen-clause-served : goal.returns-in-Open-OnOpen-clause-served
returns-in-Open-OnOpen-clause-served g c = given_as g.B.CostBook.means c.in-Open-OnOpen.is-0 c.in-Open-OnOpen.is-1 c.serve_open-after.ensures.served

pub returns-in-Closed-Reopen-clause-served : goal.returns-in-Closed-Reopen-clause-served
returns-in-Closed-Reopen-clause-served g c =
    given_as g.B.CostBook.means c.in-Closed-Reopen.is-0 c.in-Closed-Reopen.is-1
    (reopened g.B.CostBook.means refl (record { view = refl; back = refl }) c.reopen.ensures.number c.reopen.ensures.counts refl)

pub returns-in-Closed-Check-clause-served : goal.returns-in-Closed-Check-clause-served
returns-in-Closed-Check-clause-served g c =
    given_as g.B.CostBook.means c.in-Closed-Check.is-0 c.in-Closed-Check.is-1
    (checked g.B.CostBook.means (g.met.B.CostBook.sound c.in-Closed-Check.book.now) refl c.into-answer.ensures c.check.ensures.answer)
