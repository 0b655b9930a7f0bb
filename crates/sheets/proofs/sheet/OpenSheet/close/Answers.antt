use Rattle.std.proofs.Common.{sym, ◌∙◌}
use Rattle.std.proofs.lemmas.List.{nil_from_length}
use Rattle.queue.specs.Waiting.{waiting}
use Rattle.sheet_register.proofs.Keeping.{settles}
use Rattle.sheet_register.proofs.Steps.{close_busy, closes}
use Rattle.sheets.proofs.Agreeing.{memory_agreed}
use Rattle.sheets.proofs.sheet.OpenSheet.close.Goals as goal

pub returns-then-self-ne0 : goal.returns-then-self-ne0
returns-then-self-ne0 c =
    let a = memory_agreed c.args.self c.args.marks.now c.args.queue.now (sym c.if-not-agrees.ensures) in
    record { did = close_busy a c.then-self-ne0.either; settled = tt }

pub returns : goal.returns
returns c =
    let qs = waiting c.args.queue.now in
    let a = memory_agreed c.args.self c.args.marks.now c.args.queue.now (sym c.if-not-agrees.ensures) in
    let none = c.if-self-ne0.false in
    let none_out = c.if-self-ne0-2.false in
    record { did = closes a none none_out; settled = settles c.args.marks.now qs (nil_from_length qs (a.waiting ∙ none)) (a.marks.taken ∙ none_out) }
