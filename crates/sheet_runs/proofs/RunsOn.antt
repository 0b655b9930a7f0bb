-- One call more at the end of a run.
use Rattle.std.proofs.Common.{◌≡◌, true, List, [], ◌∷◌, ◌++◌, sym, subst, append-nil}
use Rattle.books.specs.Table.{Table}
use Rattle.sheet_register.specs.Calls.{Memory}
use Rattle.sheet_register.specs.Register.{allows}
use Rattle.sheet_register.specs.Runs.{SheetView, State, Event, Move, Run, done, next}
use Rattle.sheet_register.specs.Law.{RunsByLaw}
use Rattle.sheets.specs.declared.serve.Call.{Call}
use Rattle.sheets.specs.declared.serve.Answer.{Answer}
use Rattle.sheets.specs.Views.{state}
use Rattle.sheets.specs.Served.{Served, moved, came_back}
use Rattle.sheet_runs.specs.Ran.{events_of, none, more, Ran}

run_push : {w w₁ w₂ : State} {es : List Event} (e : Event) → Run w es w₁ → allows w₁.sheet.is_open e.call ≡ true → Move w₁ e.call e.answer w₂ → Run w (es ++ e ∷ []) w₂
run_push e done a m = next a m done
run_push e (next b n r) a m = next b n (run_push e r a m)

module _ {B : Type 0} (means : B → Table) (by_law : RunsByLaw) where
  run_served : {w : State} {es : List Event} {s s' : SheetView} {m m' : Memory} {c : Call B} {r : Answer B} → Run w es (state s m.marks m.waiting) → (x : Served means s m c r s' m') → Run w (es ++ events_of x) (state s' m'.marks m'.waiting)
  run_served p (moved a e may own other back) = run_push _ p may own
  run_served {w = w} {es = es} {s' = s'} {m' = m'} p (came_back shut r s m) = subst (λ l. Run w l (state s' m'.marks m'.waiting)) (sym (append-nil es)) (subst (λ v. Run w es v) (λ i. state (sym s i) (sym m i).marks (sym m i).waiting) p)

  pub ran_none : (s : SheetView) (m : Memory) → Ran means s m [] [] s m
  ran_none s m = record { events = []; made = none; run = done; held = λ g k. by_law g _ k [] _ done }

  pub ran_more : {s s₁ s₂ : SheetView} {m m₁ m₂ : Memory} {cs : List (Call B)} {rs : List (Answer B)} (c : Call B) (r : Answer B) → Ran means s m cs rs s₁ m₁ → Served means s₁ m₁ c r s₂ m₂ → Ran means s m (cs ++ c ∷ []) (rs ++ r ∷ []) s₂ m₂
  ran_more c r p x =
      let run = run_served p.run x in
      record { events = p.events ++ events_of x; made = more c r p.made x; run = run; held = λ g k. by_law g _ k _ _ run }
