use Rattle.std.proofs.Common.{refl, rules}
use Rattle.sheets.proofs.Serving.{without_docket, with_docket}
use Rattle.sheets.proofs.serve.serve_open.Goals.{in-Post, in-Take, in-Strike, in-Decline, in-Restore}
use Rattle.sheets.proofs.serve.serve_open.Goals as goal

pub returns-clause-served : goal.returns-clause-served
returns-clause-served g c =
    let means = g.B.CostBook.means in
    elim c.match-call.branch [
      | in-Post w ↦ rw (w.answer-is, w.sheet-is, w.marks-is, w.queue-is) (without_docket means w.in-Post.is refl refl w.into-answer.ensures w.post.ensures.did)
      | in-Take w ↦ rw (w.answer-is, w.sheet-is, w.marks-is, w.queue-is) (without_docket means w.in-Take.is refl refl w.into-answer-in-Take.ensures w.take.ensures.did)
      | in-Strike w ↦
          rw (w.answer-is, w.sheet-is, w.marks-is, w.queue-is)
          (with_docket means w.strike.result w.in-Strike.is refl refl w.into-answer-in-Strike.ensures w.strike.ensures.did w.strike.ensures.back)
      | in-Decline w ↦
          rw (w.answer-is, w.sheet-is, w.marks-is, w.queue-is)
          (with_docket means w.decline.result w.in-Decline.is refl refl w.into-answer-in-Decline.ensures w.decline.ensures.did w.decline.ensures.back)
      | in-Restore w ↦ rw (w.answer-is, w.sheet-is, w.marks-is, w.queue-is) (without_docket means w.in-Restore.is refl refl w.into-answer-in-Restore.ensures w.restore.ensures.did)
    ]

pub returns-in-Ok-clause-served : goal.returns-in-Ok-clause-served
returns-in-Ok-clause-served g c = without_docket g.B.CostBook.means c.in-Close.is refl refl (record { view = refl; back = refl }) c.in-Ok.ensures.did

pub returns-in-Err-clause-served : goal.returns-in-Err-clause-served
returns-in-Err-clause-served g c = without_docket g.B.CostBook.means c.in-Close.is refl refl (record { view = search rules; back = refl }) c.in-Err.ensures.did
