use Rattle.std.proofs.Common.{sym}
use Rattle.sheet_register.proofs.Steps.{docket_some, docket_inside}
use Rattle.sheets.specs.Views.{docket_view}
use Rattle.sheets.proofs.Agreeing.{memory_agreed}
use Rattle.sheets.proofs.sheet.OpenSheet.spend.Goals as goal

pub overflow_sub-self : goal.overflow_sub-self
overflow_sub-self c =
    let a = memory_agreed c.args.self.now c.args.marks.now c.args.queue.now (sym c.if-not-agrees.ensures) in
    docket_some a c.args.self.now.number (docket_view c.args.docket) (sym c.if-not-is_out.ensures)

pub returns-clause-inside : goal.returns-clause-inside
returns-clause-inside c =
    let a = memory_agreed c.args.self.now c.args.marks.now c.args.queue.now (sym c.if-not-agrees.ensures) in
    docket_inside a c.args.self.now.number (docket_view c.args.docket) (sym c.if-not-is_out.ensures)
