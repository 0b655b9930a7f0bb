use Rattle.std.proofs.Common.{length, sym, refl, ap, arith}
use Rattle.sheet_register.proofs.Steps.{marks_are, take_stale, take_given, taken_fits}
use Rattle.sheets.proofs.Agreeing.{memory_agreed}
use Rattle.sheets.proofs.sheet.OpenSheet.take.Goals as goal

pub returns-then-not-has_mark : goal.returns-then-not-has_mark
returns-then-not-has_mark c =
    let a = memory_agreed c.args.self.now c.args.marks.now c.args.queue.now (sym c.if-not-agrees.ensures) in
    let p = c.in-Some.ensures in
    record { did = take_stale a c.in-Some.request _ p.after (sym c.if-not-has_mark.ensures) refl (ap length p.records) c.len-self.ensures; records = p.records }

pub overflow_add-self : goal.overflow_add-self
overflow_add-self c =
    let a = memory_agreed c.args.self.now c.args.marks.now c.args.queue.now (sym c.if-not-agrees.ensures) in
    let b = taken_fits a c.in-Some.request _ c.in-Some.ensures.after (sym c.if-not-has_mark.ensures) in
    omega arith

pub returns : goal.returns
returns c =
    let a = memory_agreed c.args.self.now c.args.marks.now c.args.queue.now (sym c.if-not-agrees.ensures) in
    let p = c.in-Some.ensures in
    record {
      did = marks_are c.set_mark.ensures (take_given a c.in-Some.request _ p.after (sym c.if-not-has_mark.ensures) refl (ap length p.records) c.len-self.ensures);
      records = p.records;
    }
