use Rattle.std.proofs.Common.{◌∙◌}
use Rattle.sheets.proofs.MarkBytes.{is_ok-reads}
use Rattle.sheets.proofs.memory.is_mark.Goals as goal

pub returns : goal.returns
returns c = c.is_ok.ensures.value ∙ is_ok-reads _ _ c.try_from.ensures
