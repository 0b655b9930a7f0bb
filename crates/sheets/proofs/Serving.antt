-- One call for any call, from the contracts of the calls.
use Rattle.std.proofs.Common.{◌≡◌, Bool, true, false, cond, not, List, [], ◌∷◌, IfErr, Ok, Err, Result, sym, refl, ap, ◌∙◌, subst, inl, inr, Bor}
use Rattle.std.proofs.lemmas.Bool.{false≢true, not-true}
use Rattle.books.specs.Table.{Table, Sound}
use Rattle.slips.specs.declared.slip.Slip.{Slip}
use Rattle.slips.specs.View.{view}
use Rattle.sheet_faults.specs.declared.DocketCause.{DocketCause}
use Rattle.sheet_register.specs.Calls.{Memory, check, accepted, is_refused, answer_by}
use Rattle.sheet_register.specs.Calls.{Answer as Told}
use Rattle.sheet_register.specs.Runs.{SheetView, Did, with_own, with_other, checking, reopening}
use Rattle.sheets.specs.declared.sheet.Docket.{Docket}
use Rattle.sheets.specs.declared.faults.HandedBack.{HandedBack}
use Rattle.sheets.specs.declared.serve.Sheet.{Sheet}
use Rattle.sheets.specs.declared.serve.OpenCall.{OpenCall}
use Rattle.sheets.specs.declared.serve.Call.{Call}
use Rattle.sheets.specs.declared.serve.Answer.{Answer}
use Rattle.sheets.specs.Answers.{answer, docket_told, docket_back}
use Rattle.sheets.specs.Served.{Served, Tells, sheet_view, moved, open_call, docket_of}

cond_same : {X : Type 0} (b : Bool) (x : X) → cond b x x ≡ x
cond_same true x = refl
cond_same false x = refl

docket_returned : (r : Result (Unit {0}) (HandedBack Docket DocketCause)) (d : Docket) → IfErr r (λ f. f.value ≡ d) → docket_back r ≡ cond (is_refused (answer docket_told r)) (d ∷ []) []
docket_returned (Ok u) d e = refl
docket_returned (Err f) d e = ap (λ x. x ∷ []) e

module _ {B : Type 0} (means : B → Table) where
  pub given_as : {x y : Sheet} {s' : SheetView} {m m' : Memory} {c d : Call B} {r : Answer B} → x ≡ y → c ≡ d → Served means (sheet_view y) m d r s' m' → Served means (sheet_view x) m c r s' m'
  given_as {x = x} {s' = s'} {m = m} {m' = m'} {d = d} {r = r} e f z = subst (λ y. Served means (sheet_view x) m y r s' m') (sym f) (subst (λ y. Served means (sheet_view y) m d r s' m') (sym e) z)

  on_open : {s s' : SheetView} {m m' : Memory} (c : OpenCall) {a : Told} {r : Answer B} {ds : List Docket} → s.is_open ≡ true → Tells r a ds → Did (open_call c) s m a s' m' → ds ≡ cond (is_refused a) (docket_of c) [] → Served means s m (Call.OnOpen c) r s' m'
  on_open {m' = m'} c {a = a} may t d back =
      moved a t.view may (with_own m' refl refl d refl refl) (λ ms qs z. with_other m' (not-true _ z) d refl refl) (t.back ∙ back)

  -- a call that is handed no docket
  pub without_docket : {s s' : SheetView} {m m' : Memory} {x c : OpenCall} {a : Told} {r : Answer B} → x ≡ c → docket_of c ≡ [] → s.is_open ≡ true → Tells r a [] → Did (open_call c) s m a s' m' → Served means s m (Call.OnOpen x) r s' m'
  without_docket {s = s} {s' = s'} {m = m} {m' = m'} {c = c} {a = a} {r = r} is none may t d =
      subst (λ y. Served means s m (Call.OnOpen y) r s' m') (sym is)
      (on_open c may t d (sym (ap (λ ds. cond (is_refused a) ds []) none ∙ cond_same (is_refused a) [])))

  -- a call that is handed one
  pub with_docket : {s s' : SheetView} {m m' : Memory} {x c : OpenCall} {r : Answer B} {d : Docket} (p : Result (Unit {0}) (HandedBack Docket DocketCause)) → x ≡ c → docket_of c ≡ d ∷ [] → s.is_open ≡ true → Tells r (answer docket_told p) (docket_back p) → Did (open_call c) s m (answer docket_told p) s' m' → IfErr p (λ f. f.value ≡ d) → Served means s m (Call.OnOpen x) r s' m'
  with_docket {s = s} {s' = s'} {m = m} {m' = m'} {c = c} {r = r} {d = d} p is one may t did back =
      subst (λ y. Served means s m (Call.OnOpen y) r s' m') (sym is)
      (on_open c may t did (docket_returned p d back ∙ sym (ap (λ ds. cond (is_refused (answer docket_told p)) ds []) one)))

  pub checked : {s : SheetView} {m : Memory} {b : Bor B} {p : Bor Slip} {a : Told} {r : Answer B} → Sound (means b.now) → s.is_open ≡ false → Tells r a [] → ((qs : _) → a ≡ answer_by s.number s.counts m.marks qs (check (means b.now) m.marks (view p.now))) → Served means s m (Call.Check b p) r s m
  checked {m = m} {a = a} sound shut t right =
      moved a t.view (ap not shut) (checking sound (inl refl) (right m.waiting) refl) (λ ms qs z. checking sound (inr (not-true _ z)) (right qs) refl)
      (t.back ∙ sym (cond_same (is_refused a) []))

  pub reopened : {s s' : SheetView} {m : Memory} {r : Answer B} → s.is_open ≡ false → Tells r accepted [] → s'.number ≡ s.number → s'.counts ≡ s.counts → s'.is_open ≡ true → Served means s m Call.Reopen r s' m
  reopened shut t n k o = moved accepted t.view (ap not shut) (reopening n k o refl refl) (λ ms qs z. absurd (false≢true z)) t.back
