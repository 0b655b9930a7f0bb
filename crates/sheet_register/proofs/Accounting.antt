-- What one call does to the account of withdrawals, and what calls in a row do.
use Rattle.std.proofs.Common.{◌≡◌, ℕ, ◌+◌, ◌<◌, Bool, true, false, cond, ◌&&◌, eqb, ltb, ◌≢◌, List, [], ◌∷◌, ◌++◌, map, length, set, Some, None, Option, sym, refl, ap, ◌∙◌, subst, ⊎_elim, append_assoc, append-nil, arith}
use Rattle.std.proofs.lemmas.List.{map-append, get_or-set_same, get_or-set_other}
use Rattle.std.proofs.lemmas.List.Sums.{sum_by-cons, sum_by-append}
use Rattle.std.proofs.lemmas.Bool.{and_parts, true≢false, false≢true, cases_eq, eq-eqb, ne_eqb, eqb-true, ltb-true, cond-true, cond-false}
use Rattle.books.specs.declared.refusal.Refusal.{Refusal}
use Rattle.slips.specs.declared.fault.SlipFault.{SlipFault}
use Rattle.sheet_register.specs.declared.request.Request.{Request}
use Rattle.sheet_register.specs.Memory.{free, taken, struck, mark, marked}
use Rattle.sheet_register.specs.Calls.{CallOnOpen, post, take, strike, decline, restore, close, Answer, accepted, given, stale, refused, is_refused, disagreed, is_out, nothing, told, open_answer, marks_after, waiting_after}
use Rattle.sheet_register.specs.Register.{Register}
use Rattle.sheet_register.specs.Runs.{Event}
use Rattle.sheet_register.specs.Law.{posts, spends, if_accepted, takes, gives, times, out_for, gathered, Accounts}
use Rattle.sheet_register.proofs.Marks.{inside}
use Rattle.sheet_register.proofs.Keeping.{Lawful, both_passed, passed}

abbrev pieces : List Request → List ℕ
pieces qs = map (λ q. q.piece) qs

times_one : (p k : ℕ) → times p (k ∷ []) ≡ cond (eqb k p) 1 0
times_one p k = let s = sum_by-cons (λ x. cond (eqb x p) 1 0) k [] in omega arith

-- a write over the mark of piece k, in what is out for piece p
out_set : (ms : List ℕ) (k x : ℕ) (a b : Bool) → k < length ms → eqb (mark ms k) taken ≡ a → eqb x taken ≡ b → (p : ℕ) → out_for ms p + cond (eqb k p) (cond b 1 0) 0 ≡ cond (eqb k p) (cond a 1 0) 0 + out_for (set ms k x) p
out_set ms k x a b l e f p =
    ⊎_elim
    (λ (z : k ≡ p).
    let t = eq-eqb k p z in
    let u : ◌≡◌ {A = ℕ} (cond (eqb k p) (cond b 1 0) 0) (cond b 1 0) = cond-true _ _ _ t in
    let v : ◌≡◌ {A = ℕ} (cond (eqb k p) (cond a 1 0) 0) (cond a 1 0) = cond-true _ _ _ t in
    let here : out_for ms p ≡ cond a 1 0 = ap (out_for ms) (sym z) ∙ ap (λ y. cond y 1 0) e in
    let there : out_for (set ms k x) p ≡ cond b 1 0 = ap (out_for (set ms k x)) (sym z) ∙ ap (λ y. cond (eqb y taken) 1 0) (get_or-set_same ms k x free l) ∙ ap (λ y. cond y 1 0) f in
    omega arith)
    (λ (z : k ≡ p → ⊥).
    let t = ne_eqb k p z in
    let u : ◌≡◌ {A = ℕ} (cond (eqb k p) (cond b 1 0) 0) 0 = cond-false _ _ _ t in
    let v : ◌≡◌ {A = ℕ} (cond (eqb k p) (cond a 1 0) 0) 0 = cond-false _ _ _ t in
    let other : p ≢ k = λ y. z (sym y) in
    let there : out_for (set ms k x) p ≡ out_for ms p = ap (λ y. cond (eqb y taken) 1 0) (get_or-set_other ms k p x free other) in
    omega arith)
    (cases_eq k p)

-- the account of one call on an open sheet
pub record Account (ms : List ℕ) (qs : List Request) (call : CallOnOpen) (a : Answer) : Type 0 where
  pub requests : pieces qs ++ posts call ≡ takes a ++ pieces (waiting_after call qs)
  pub each_once : (p : ℕ) → out_for ms p + times p (gives a) ≡ times p (spends call) + out_for (marks_after call ms qs) p

both_plain : (b x : Bool) (r s : Refusal) → is_refused (cond b (cond x accepted (refused r)) (refused s)) ≡ false → cond b (cond x accepted (refused r)) (refused s) ≡ accepted
both_plain true true r s e = refl
both_plain true false r s e = absurd (true≢false e)
both_plain false x r s e = absurd (true≢false e)

plain : (b : Bool) (r : Refusal) → is_refused (cond b accepted (refused r)) ≡ false → cond b accepted (refused r) ≡ accepted
plain true r e = refl
plain false r e = absurd (true≢false e)

-- a call that answers no more than that it was accepted
account_plain : (ms : List ℕ) (qs : List Request) (call : CallOnOpen) → pieces qs ++ posts call ≡ pieces (waiting_after call qs) → ((p : ℕ) → out_for ms p ≡ times p (spends call) + out_for (marks_after call ms qs) p) → Account ms qs call accepted
account_plain ms qs call e f = record { requests = e; each_once = λ p. let z = f p in omega arith }

other_taken : (x m : ℕ) → x ≡ m → (m ≡ 1 → ⊥) → eqb x taken ≡ false
other_taken x m e f = ne_eqb _ _ (λ z. f (sym e ∙ z))

spent_once : (ms : List ℕ) (k x : ℕ) → mark ms k ≡ 1 → eqb x taken ≡ false → (p : ℕ) → out_for ms p ≡ times p (k ∷ []) + out_for (set ms k x) p
spent_once ms k x e f p =
    let s = out_set ms k x true false (inside ms k 1 e (λ z. omega arith)) (eq-eqb _ _ e) f p in
    let z : ◌≡◌ {A = ℕ} (cond (eqb k p) 0 0) 0 = elim (eqb k p) as (λ b. ◌≡◌ {A = ℕ} (cond b 0 0) 0) [ true ↦ refl | false ↦ refl ] in
    let o = times_one p k in
    omega arith

account_take : (n : ℕ) (ms : List ℕ) (q : Request) (qs : List Request) → q.piece < length ms → (f : Bool) → eqb (mark ms q.piece) free ≡ f → Account ms (q ∷ qs) take (cond (eqb (mark ms q.piece) free) (given (record { sheet = n; piece = q.piece })) (stale q))
account_take n ms q qs l true e = record {
  requests = append-nil _ ∙ ap (λ y. takes y ++ pieces qs) (sym (cond-true _ _ _ e));
  each_once = λ p.
      let k = q.piece in
      let s = out_set ms k taken false true l (other_taken _ 0 (eqb-true _ _ e) (λ z. omega arith)) refl p in
      let z : ◌≡◌ {A = ℕ} (cond (eqb k p) 0 0) 0 = elim (eqb k p) as (λ b. ◌≡◌ {A = ℕ} (cond b 0 0) 0) [ true ↦ refl | false ↦ refl ] in
      let o = times_one p k in
      let x : times p (gives (cond (eqb (mark ms k) free) (given (record { sheet = n; piece = k })) (stale q))) ≡ times p (k ∷ []) = ap (λ y. times p (gives y)) (cond-true _ _ _ e) in
      let y : out_for (cond (eqb (mark ms k) free) (set ms k taken) ms) p ≡ out_for (set ms k taken) p = ap (λ v. out_for v p) (cond-true _ _ _ e) in
      omega arith;
}
account_take n ms q qs l false e = record {
  requests = append-nil _ ∙ ap (λ y. takes y ++ pieces qs) (sym (cond-false _ _ _ e));
  each_once = λ p.
      let k = q.piece in
      let x : times p (gives (cond (eqb (mark ms k) free) (given (record { sheet = n; piece = k })) (stale q))) ≡ times p [] = ap (λ y. times p (gives y)) (cond-false _ _ _ e) in
      let y : out_for (cond (eqb (mark ms k) free) (set ms k taken) ms) p ≡ out_for ms p = ap (λ v. out_for v p) (cond-false _ _ _ e) in
      omega arith;
}

pub account_of : (call : CallOnOpen) (n : ℕ) (ms : List ℕ) (qs : List Request) (room : ℕ) → Lawful ms qs → is_refused (open_answer call n ms qs room) ≡ false → Account ms qs call (open_answer call n ms qs room)
account_of (post q) n ms qs room l e =
    subst (Account ms qs (post q)) (sym (both_plain (ltb q.piece (length ms)) (ltb (length qs) room) _ _ e))
    (account_plain ms qs (post q) (sym (map-append (λ q. q.piece) qs (q ∷ []))) (λ p. omega arith))
account_of take n ms [] room l e = absurd (true≢false e)
account_of take n ms (q ∷ qs) room l e = account_take n ms q qs (ltb-true _ _ (and_parts _ _ l.named).0) _ refl
account_of (strike d) n ms qs room l e =
    subst (Account ms qs (strike d)) (sym (plain (is_out n ms d) _ e))
    (account_plain ms qs (strike d) (append-nil _) (spent_once ms d.piece struck (eqb-true _ _ (and_parts _ _ (passed (is_out n ms d) _ e)).1) refl))
account_of (decline d) n ms qs room l e =
    subst (Account ms qs (decline d)) (sym (plain (is_out n ms d) _ e))
    (account_plain ms qs (decline d) (append-nil _) (spent_once ms d.piece free (eqb-true _ _ (and_parts _ _ (passed (is_out n ms d) _ e)).1) refl))
account_of (restore k) n ms qs room l e =
    let t = both_passed (ltb k (length ms)) (eqb (mark ms k) struck) _ _ e in
    subst (Account ms qs (restore k)) (sym (both_plain (ltb k (length ms)) (eqb (mark ms k) struck) _ _ e))
    (account_plain ms qs (restore k) (append-nil _)
    (λ p.
    let s = out_set ms k free false false (ltb-true _ _ t.0) (other_taken _ 2 (eqb-true _ _ t.1) (λ z. omega arith)) refl p in
    let z : ◌≡◌ {A = ℕ} (cond (eqb k p) 0 0) 0 = elim (eqb k p) as (λ b. ◌≡◌ {A = ℕ} (cond b 0 0) 0) [ true ↦ refl | false ↦ refl ] in
    omega arith))
account_of close n ms qs room l e =
    subst (Account ms qs close) (sym (plain (nothing qs && eqb (marked taken ms) 0) _ e)) (account_plain ms qs close (append-nil _) (λ p. omega arith))

-- an event that posts, takes, gives and spends nothing, and leaves marks and requests
pub idle : (g g' : Register) (e : Event) → g'.marks ≡ g.marks → g'.waiting ≡ g.waiting → if_accepted posts e ≡ [] → if_accepted spends e ≡ [] → takes e.answer ≡ [] → gives e.answer ≡ [] → Accounts g (e ∷ []) g'
idle g g' e m w a b c d = record {
  requests = ap (λ x. pieces g.waiting ++ (x ++ [])) a ∙ append-nil _ ∙ ap pieces (sym w) ∙ ap (λ x. (x ++ []) ++ pieces g'.waiting) (sym c);
  each_once = λ p.
      let x : times p (gives e.answer ++ []) ≡ times p [] = ap (λ y. times p (y ++ [])) d in
      let y : times p (if_accepted spends e ++ []) ≡ times p [] = ap (λ y. times p (y ++ [])) b in
      let z : out_for g'.marks p ≡ out_for g.marks p = ap (λ v. out_for v p) m in
      omega arith;
}

-- an event that is a call of which the account is known
pub one_account : (g g' : Register) (e : Event) (call : CallOnOpen) → Account g.marks g.waiting call e.answer → if_accepted posts e ≡ posts call → if_accepted spends e ≡ spends call → g'.marks ≡ marks_after call g.marks g.waiting → g'.waiting ≡ waiting_after call g.waiting → Accounts g (e ∷ []) g'
one_account g g' e call a b c m w = record {
  requests =
      ap (λ x. pieces g.waiting ++ x) (append-nil (if_accepted posts e) ∙ b) ∙ a.requests ∙ ap (λ x. takes e.answer ++ pieces x) (sym w)
      ∙ ap (λ x. x ++ pieces g'.waiting) (sym (append-nil (takes e.answer)));
  each_once = λ p.
      let x = a.each_once p in
      let y : times p (gives e.answer ++ []) ≡ times p (gives e.answer) = ap (times p) (append-nil (gives e.answer)) in
      let z : times p (if_accepted spends e ++ []) ≡ times p (spends call) = ap (times p) (append-nil (if_accepted spends e) ∙ c) in
      let o : out_for g'.marks p ≡ out_for (marks_after call g.marks g.waiting) p = ap (λ v. out_for v p) m in
      omega arith;
}

pub refused_idle : (a : Answer) → is_refused a ≡ true → (takes a ≡ []) × (gives a ≡ [])
refused_idle accepted e = absurd (false≢true e)
refused_idle (given d) e = absurd (false≢true e)
refused_idle (stale q) e = absurd (false≢true e)
refused_idle (refused r) e = (refl, refl)

told_idle : (o : Option SlipFault) → (takes (told o) ≡ []) × (gives (told o) ≡ [])
told_idle None = (refl, refl)
told_idle (Some f) = (refl, refl)

pub checked_idle : (b : Bool) (o : Option SlipFault) → (takes (cond b (told o) disagreed) ≡ []) × (gives (cond b (told o) disagreed) ≡ [])
checked_idle true o = told_idle o
checked_idle false o = (refl, refl)

-- two accounts in a row
pub accounts_join : (g g₁ g₂ : Register) (e : Event) (es : List Event) → Accounts g (e ∷ []) g₁ → Accounts g₁ es g₂ → Accounts g (e ∷ es) g₂
accounts_join g g₁ g₂ e es a b = record {
  requests =
      let P = if_accepted posts e in
      let T = takes e.answer in
      let one : pieces g.waiting ++ P ≡ T ++ pieces g₁.waiting = ap (λ x. pieces g.waiting ++ x) (sym (append-nil P)) ∙ a.requests ∙ ap (λ x. x ++ pieces g₁.waiting) (append-nil T) in
      sym (append_assoc (pieces g.waiting) P _) ∙ ap (λ x. x ++ gathered (if_accepted posts) es) one ∙ append_assoc T (pieces g₁.waiting) _ ∙ ap (λ x. T ++ x) b.requests ∙ sym (append_assoc T _ _);
  each_once = λ p.
      let x = a.each_once p in
      let y = b.each_once p in
      let f = λ (k : ℕ). cond (eqb k p) 1 0 in
      let d1 = sum_by-append f (gives e.answer) [] in
      let d2 = sum_by-append f (gives e.answer) (gathered (λ e. gives e.answer) es) in
      let s1 = sum_by-append f (if_accepted spends e) [] in
      let s2 = sum_by-append f (if_accepted spends e) (gathered (if_accepted spends) es) in
      omega arith;
}

pub accounts_none : (g : Register) → Accounts g [] g
accounts_none g = record { requests = append-nil _; each_once = λ p. omega arith }
