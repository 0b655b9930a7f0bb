-- What a list of calls did: each was a move of one run of the sheet or came back, and the law over runs holds of all of them.
use Rattle.std.specs.Prelude.{◌≡◌, ℕ, ◌+◌, ◌<◌, List, [], ◌∷◌, ◌++◌, length}
use Rattle.books.specs.Table.{Table}
use Rattle.sheet_register.specs.Calls.{Memory}
use Rattle.sheet_register.specs.Register.{Register}
use Rattle.sheet_register.specs.Runs.{SheetView, Event, Run}
use Rattle.sheet_register.specs.Law.{Kept, Held}
use Rattle.sheets.specs.declared.serve.Sheet.{Sheet}
use Rattle.sheets.specs.declared.serve.Call.{Call}
use Rattle.sheets.specs.declared.serve.Answer.{Answer}
use Rattle.sheets.specs.Views.{state}
use Rattle.sheets.specs.Served.{Served, moved, came_back, call_view}

-- the event of a call that the sheet allows; none of one that came back
abbrev pub events_of : {B : Type 0} {means : B → Table} {s s' : SheetView} {m m' : Memory} {c : Call B} {r : Answer B}
    → Served means s m c r s' m' → List Event
events_of {means = means} {m = m} {c = c} (moved a e may own other back) = record { call = call_view means m c; answer = a } ∷ []
events_of (came_back shut r s m) = []

-- calls in a row with their answers, and the events that they were
pub data Made {B : Type 0} (means : B → Table) (s : SheetView) (m : Memory) : List (Call B) → List (Answer B) → List Event → SheetView → Memory → Type 0 where
  none : Made means s m [] [] [] s m
  more : {cs : List (Call B)} {rs : List (Answer B)} {es : List Event} {s₁ s₂ : SheetView} {m₁ m₂ : Memory} (c : Call B) (r : Answer B)
      → Made means s m cs rs es s₁ m₁ → (x : Served means s₁ m₁ c r s₂ m₂) → Made means s m (cs ++ c ∷ []) (rs ++ r ∷ []) (es ++ events_of x) s₂ m₂

-- these calls, with these answers: a run of the sheet, which keeps to whatever register the sheet and its memory were kept by
pub record Ran {B : Type 0} (means : B → Table) (s : SheetView) (m : Memory) (calls : List (Call B)) (answers : List (Answer B))
    (s' : SheetView) (m' : Memory) : Type 0 where
  pub events : List Event
  pub made : Made means s m calls answers events s' m'
  pub run : Run (state s m.marks m.waiting) events (state s' m'.marks m'.waiting)
  pub held : (g : Register) → Kept g (state s m.marks m.waiting) → Held g events (state s' m'.marks m'.waiting)

-- all calls were made, and their answers stand behind those that were there
pub record AllMade {B : Type 0} (means : B → Table) (s : SheetView) (m : Memory) (calls calls' : List (Call B))
    (answers answers' : List (Answer B)) (s' : SheetView) (m' : Memory) : Type 0 where
  pub none_left : calls' ≡ []
  pub new : List (Answer B)
  pub answered : answers' ≡ answers ++ new
  pub ran : Ran means s m calls new s' m'

-- no call was made and nothing changed, since the answers, which have room for so many, found no memory for as many more as there are calls
pub record NoneMade {B : Type 0} (s s' : Sheet) (m m' : Memory) (calls calls' : List (Call B)) (answers answers' : List (Answer B)) (room : ℕ) : Type 0 where
  pub same_sheet : s' ≡ s
  pub same_memory : m' ≡ m
  pub same_calls : calls' ≡ calls
  pub same_answers : answers' ≡ answers
  pub no_room : room < length answers + length calls
