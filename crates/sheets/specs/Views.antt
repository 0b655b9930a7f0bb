-- Sheets, dockets and the memory of a call as the register speaks of them.
use Rattle.std.specs.Prelude.{ℕ, ◌-◌, true, false, List}
use Rattle.queue.specs.declared.Queue.{Queue}
use Rattle.queue.specs.Waiting.{waiting, room}
use Rattle.sheet_register.specs.declared.request.Request.{Request}
use Rattle.sheet_register.specs.Calls.{DocketView, Memory}
use Rattle.sheet_register.specs.Runs.{SheetView, State}
use Rattle.sheets.specs.declared.sheet.Docket.{Docket}
use Rattle.sheets.specs.declared.sheet.OpenSheet.{OpenSheet}
use Rattle.sheets.specs.declared.sheet.ClosedSheet.{ClosedSheet}

abbrev pub docket_view : Docket → DocketView
docket_view d = record { sheet = d.sheet; piece = d.piece }

abbrev pub open_view : OpenSheet → SheetView
open_view s = record { number = s.number; counts = record { pieces = s.pieces; taken = s.taken; struck = s.struck; waiting = s.waiting }; is_open = true }

-- a sheet that counts one docket less
abbrev pub one_less : SheetView → SheetView
one_less s =
    record {
      number = s.number;
      counts = record { pieces = s.counts.pieces; taken = s.counts.taken - 1; struck = s.counts.struck; waiting = s.counts.waiting };
      is_open = s.is_open;
    }

-- a closed sheet counts no docket out and no request waiting
abbrev pub closed_view : ClosedSheet → SheetView
closed_view s = record { number = s.number; counts = record { pieces = s.pieces; taken = 0; struck = s.struck; waiting = 0 }; is_open = false }

abbrev pub memory : List ℕ → Queue Request → Memory
memory ms q = record { marks = ms; waiting = waiting q; room = room q }

-- a sheet with these marks and these requests as its own memory
abbrev pub state : SheetView → List ℕ → List Request → State
state s ms qs = record { sheet = s; marks = ms; waiting = qs }
