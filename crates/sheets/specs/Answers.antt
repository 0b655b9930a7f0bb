-- What each call gives back, as the register speaks of it.
use Rattle.std.specs.Prelude.{List, [], ◌∷◌, Ok, Err, Result}
use Rattle.books.specs.declared.refusal.Refusal.{Refusal}
use Rattle.sheet_register.specs.Calls.{Answer, accepted, given, stale, refused}
use Rattle.sheet_register.specs.Runs.{SheetView}
use Rattle.sheets.specs.declared.sheet.ClosedSheet.{ClosedSheet}
use Rattle.sheets.specs.declared.sheet.Docket.{Docket}
use Rattle.sheets.specs.declared.sheet.OpenSheet.{OpenSheet}
use Rattle.sheets.specs.declared.faults.HandedBack.{HandedBack}
use Rattle.sheet_faults.specs.declared.TakeFault.{TakeFault}
use Rattle.sheet_faults.specs.declared.DocketCause.{DocketCause}
use Rattle.sheet_faults.specs.declared.CloseCause.{CloseCause}
use Rattle.sheets.specs.declared.sheet.open.Taken.{Taken}
use Rattle.sheet_faults.specs.Faults.{take_refusal, docket_refusal, close_refusal}
use Rattle.sheets.specs.Views.{docket_view, open_view, closed_view}

-- a call that gives nothing but that it was accepted
abbrev pub answer : {F : Type 0} → (F → Refusal) → Result (Unit {0}) F → Answer
answer told (Ok u) = accepted
answer told (Err f) = refused (told f)

abbrev pub drawn : Taken → Answer
drawn (Taken.Given d) = given (docket_view d)
drawn (Taken.Stale q) = stale q

abbrev pub take_answer : Result Taken TakeFault → Answer
take_answer (Ok t) = drawn t
take_answer (Err f) = refused (take_refusal f)

abbrev pub docket_told : HandedBack Docket DocketCause → Refusal
docket_told f = docket_refusal f.cause

-- the docket that comes back
abbrev pub docket_back : Result (Unit {0}) (HandedBack Docket DocketCause) → List Docket
docket_back (Ok u) = []
docket_back (Err f) = f.value ∷ []

abbrev pub close_answer : Result ClosedSheet (HandedBack OpenSheet CloseCause) → Answer
close_answer (Ok s) = accepted
close_answer (Err f) = refused (close_refusal f.cause)

-- the sheet that a close leaves, closed or open
abbrev pub left_by : Result ClosedSheet (HandedBack OpenSheet CloseCause) → SheetView
left_by (Ok s) = closed_view s
left_by (Err f) = open_view f.value
