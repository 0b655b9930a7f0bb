use Rattle.std.proofs.Common.{◌+◌, length, sym, ap, ◌∙◌, add-one}
use Rattle.std.proofs.lemmas.Result.{err_from_is_err_and}
use Rattle.ranges.proofs.First.{first_found, first_more}
use Rattle.list_book.specs.Lines.{line, before, line_fault, fault_at}
use Rattle.list_book.proofs.list.calls.check_lines.Goals as goal

pub returns-in_err-check_line : goal.returns-in_err-check_line
returns-in_err-check_line c =
    let p = err_from_is_err_and c.from_residual.result c.from_residual.ensures.1 in
    let ls = c.args.lines.now in
    let k = c.loop-k.k in
    let here = c.in_err-check_line.ensures ∙ ap (λ b. line_fault c.args.count (k + 1) b (line ls k)) c.loop-k.invariant.0 in
    rw (p.1, p.2) (sym (first_found (fault_at c.args.count ls) k (length ls) _ c.loop-k-test.true c.loop-k.invariant.1 (sym here)))

pub loop-k-preserved : goal.loop-k-preserved
loop-k-preserved c =
    let ls = c.args.lines.now in
    let k = c.loop-k.k in
    let here = c.in_ok-check_line.ensures ∙ ap (λ b. line_fault c.args.count (k + 1) b (line ls k)) c.loop-k.invariant.0 in
    (sym (ap (before ls) (add-one k)), first_more (fault_at c.args.count ls) k c.loop-k.invariant.1 (sym here))
