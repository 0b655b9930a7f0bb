-- Runs: calls in a row on one sheet, each as its contract says it.
use Rattle.std.specs.Prelude.{◌≡◌, ℕ, Bool, true, false, cond, ◌⊎◌, List, [], ◌∷◌}
use Rattle.books.specs.Table.{Table, Sound}
use Rattle.slips.specs.View.{View}
use Rattle.sheet_register.specs.declared.request.Request.{Request}
use Rattle.sheet_register.specs.Memory.{Counts, counted, agrees}
use Rattle.sheet_register.specs.Calls.{Memory, CallOnOpen, Call, on_open, check, reopen, Answer}
use Rattle.sheet_register.specs.Calls.{accepted, is_refused, answer_by, fits, marks_after, waiting_after, open_after}
use Rattle.sheet_register.specs.Register.{allows}

-- a sheet, by its numbers
pub record SheetView : Type 0 where
  pub number : ℕ
  pub counts : Counts
  pub is_open : Bool

-- What a call on an open sheet did: its answer, the sheet after it, and the memory after it. A refusal leaves sheet and memory as they were.
pub record Did (call : CallOnOpen) (s : SheetView) (m : Memory) (a : Answer) (s' : SheetView) (m' : Memory) : Type 0 where
  pub answer : a ≡ answer_by s.number s.counts m.marks m.waiting (on_open call m)
  pub number : s'.number ≡ s.number
  pub counts : s'.counts ≡ cond (is_refused a) s.counts (counted m'.marks m'.waiting)
  pub is_open : s'.is_open ≡ cond (is_refused a) true (open_after call)
  pub marks : m'.marks ≡ cond (is_refused a) m.marks (marks_after call m.marks m.waiting)
  pub waiting : m'.waiting ≡ cond (is_refused a) m.waiting (waiting_after call m.waiting)
  pub room : m'.room ≡ m.room

-- a sheet with the memory that is its own
pub record State : Type 0 where
  pub sheet : SheetView
  pub marks : List ℕ
  pub waiting : List Request

-- One call. Its memory is the sheet's own, or such that 11 holds; and nothing but the call writes the sheet's own.
pub data Move (w : State) : Call → Answer → State → Type 0 where
  with_own : {call : CallOnOpen} {m : Memory} {a : Answer} {w' : State} (m' : Memory) → m.marks ≡ w.marks → m.waiting ≡ w.waiting
      → Did call w.sheet m a w'.sheet m' → w'.marks ≡ m'.marks → w'.waiting ≡ m'.waiting → Move w (on_open call m) a w'
  with_other : {call : CallOnOpen} {m : Memory} {a : Answer} {w' : State} (m' : Memory) → agrees w.sheet.counts m.marks m.waiting ≡ false
      → Did call w.sheet m a w'.sheet m' → w'.marks ≡ w.marks → w'.waiting ≡ w.waiting → Move w (on_open call m) a w'
  checking : {t : Table} {ms : List ℕ} {v : View} {a : Answer} {w' : State} → Sound t → (ms ≡ w.marks) ⊎ (fits w.sheet.counts t ms ≡ false)
      → a ≡ answer_by w.sheet.number w.sheet.counts ms w.waiting (check t ms v) → w' ≡ w → Move w (check t ms v) a w'
  reopening : {w' : State} → w'.sheet.number ≡ w.sheet.number → w'.sheet.counts ≡ w.sheet.counts → w'.sheet.is_open ≡ true
      → w'.marks ≡ w.marks → w'.waiting ≡ w.waiting → Move w reopen accepted w'

pub record Event : Type 0 where
  pub call : Call
  pub answer : Answer

-- calls that the sheet, as it then stands, allows, one after the other
pub data Run : State → List Event → State → Type 0 where
  done : {w : State} → Run w [] w
  next : {w w' w'' : State} {e : Event} {es : List Event} → allows w.sheet.is_open e.call ≡ true → Move w e.call e.answer w' → Run w' es w''
      → Run w (e ∷ es) w''
