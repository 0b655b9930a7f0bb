use Rattle.std.proofs.Common.{sym}
use Rattle.sheet_register.proofs.Steps.{marks_are, struck_some, restored}
use Rattle.sheets.proofs.Agreeing.{memory_agreed}
use Rattle.sheets.proofs.sheet.OpenSheet.restore.Goals as goal

pub overflow_sub-self : goal.overflow_sub-self
overflow_sub-self c =
    let a = memory_agreed c.args.self.now c.args.marks.now c.args.queue.now (sym c.if-not-agrees.ensures) in
    struck_some a c.args.piece (sym c.if-not-has_mark.ensures)

pub returns : goal.returns
returns c =
    let a = memory_agreed c.args.self.now c.args.marks.now c.args.queue.now (sym c.if-not-agrees.ensures) in
    record { did = marks_are c.set_mark.ensures (restored a c.args.piece (sym c.if-not-has_mark.ensures)) }
