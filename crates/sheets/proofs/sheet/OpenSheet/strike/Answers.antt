use Rattle.std.proofs.Common.{set, ap, ◌∙◌, arith}
use Rattle.sheet_register.specs.Memory.{struck}
use Rattle.sheet_register.proofs.Steps.{marks_are, docket_fits, struck_by}
use Rattle.sheets.specs.Views.{docket_view}
use Rattle.sheets.proofs.Agreeing.{memory_agreed}
use Rattle.sheets.proofs.sheet.OpenSheet.strike.Goals as goal

pub overflow_add-self : goal.overflow_add-self
overflow_add-self c =
    let e = c.in_ok-piece.ensures in
    let a = memory_agreed c.args.self.now c.args.marks.now c.args.queue.now e.agrees in
    let few = docket_fits a c.args.self.now.number (docket_view c.args.docket) e.out in
    omega (arith, ap (λ v. v.counts.struck) e.spent)

pub returns : goal.returns
returns c =
    let e = c.in_ok-piece.ensures in
    let a = memory_agreed c.args.self.now c.args.marks.now c.args.queue.now e.agrees in
    let marked = c.set_mark.ensures ∙ ap (λ p. set c.args.marks.now p struck) e.piece in
    record { did = marks_are marked (struck_by a (docket_view c.args.docket) e.out e.spent); back = tt }
