use Rattle.std.proofs.Common.{set, ap, ◌∙◌}
use Rattle.sheet_register.specs.Memory.{free}
use Rattle.sheet_register.proofs.Steps.{marks_are, declined_by}
use Rattle.sheets.specs.Views.{docket_view}
use Rattle.sheets.proofs.Agreeing.{memory_agreed}
use Rattle.sheets.proofs.sheet.OpenSheet.decline.Goals as goal

pub returns : goal.returns
returns c =
    let e = c.in_ok-piece.ensures in
    let a = memory_agreed c.args.self.now c.args.marks.now c.args.queue.now e.agrees in
    let marked = c.set_mark.ensures ∙ ap (λ p. set c.args.marks.now p free) e.piece in
    record { did = marks_are marked (declined_by a (docket_view c.args.docket) e.out e.spent); back = tt }
