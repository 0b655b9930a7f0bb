-- What memory that agrees with an open sheet is.
use Rattle.std.proofs.Common.{◌≡◌, ℕ, true, List}
use Rattle.queue.specs.declared.Queue.{Queue}
use Rattle.queue.specs.Waiting.{waiting}
use Rattle.sheet_register.specs.declared.request.Request.{Request}
use Rattle.sheet_register.specs.Memory.{agrees}
use Rattle.sheet_register.proofs.Agreement.{Agreed, agreed}
use Rattle.sheets.specs.declared.sheet.OpenSheet.{OpenSheet}
use Rattle.sheets.specs.Views.{open_view}

pub memory_agreed : (s : OpenSheet) (ms : List ℕ) (q : Queue Request) → agrees (open_view s).counts ms (waiting q) ≡ true → Agreed (open_view s).counts ms (waiting q)
memory_agreed s ms q e = agreed (open_view s).counts ms (waiting q) e
