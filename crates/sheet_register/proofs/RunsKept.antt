-- Along every run the sheet and its memory are as the register says.
use Rattle.std.proofs.Common.{◌≡◌, ℕ, Bool, true, false, cond, ◌&&◌, eqb, ltb, ◌⊎◌, List, [], ◌∷◌, ◌++◌, map, length, Some, None, Option, sym, refl, ap, ◌∙◌, subst, ⊎_elim, append-nil, arith}
use Rattle.std.proofs.lemmas.Bool.{true≢false, cases_Bool, cases_eq, ne_eqb, cond-true, cond-false, and_from, eq-eqb}
use Rattle.books.specs.declared.refusal.Refusal.{Refusal}
use Rattle.books.specs.Table.{Table, Sound}
use Rattle.slips.specs.declared.fault.SlipFault.{SlipFault}
use Rattle.slips.specs.declared.fault.SlipFault.TheVariants.{Shape, Piece, Group, Prices, Crossing, Total, Gap}
use Rattle.slips.specs.View.{View}
use Rattle.slips.specs.Verdict.{verdict}
use Rattle.slips.specs.Worth.{VerdictsByLaw}
use Rattle.sheet_register.specs.declared.request.Request.{Request}
use Rattle.sheet_register.specs.Memory.{free, taken, struck, mark, marked, counted, agrees}
use Rattle.sheet_register.specs.Calls.{Memory, CallOnOpen, post, take, strike, decline, restore, close, Call, on_open, check, reopen, Answer, accepted, given, stale, refused, disagreed, is_refused, is_out, nothing, told, fits, open_answer, answer_by, marks_after, waiting_after}
use Rattle.sheet_register.specs.Register.{Register, opening, right_answer, changed, fed, allows}
use Rattle.sheet_register.specs.Runs.{State, Did, Move, with_own, with_other, checking, reopening, Event, done, next}
use Rattle.sheet_register.specs.Law.{Kept, Judged, Accounts, takes, gives, after, RunsByLaw, ClosesByLaw, withdrawn, out_for}
use Rattle.sheet_register.proofs.Marks.{none_marked, inside, free_only}
use Rattle.sheet_register.proofs.Agreement.{agreed, marks_agreeing}
use Rattle.sheet_register.proofs.Keeping.{lawful, agrees_after, settled_after}
use Rattle.sheet_register.proofs.Accounting.{Account, account_of, one_account, idle, refused_idle, checked_idle, accounts_join, accounts_none}

abbrev number_of : Answer → ℕ
number_of accepted = 0
number_of (given d) = 0
number_of (stale q) = 0
number_of (refused r) = r.number

two : (b : Bool) (r : Refusal) → (r.number ≡ 11 → ⊥) → number_of (cond b accepted (refused r)) ≡ 11 → ⊥
two true r f e = omega arith
two false r f e = f e

three : (b x : Bool) (r s : Refusal) → (r.number ≡ 11 → ⊥) → (s.number ≡ 11 → ⊥) → number_of (cond b (cond x accepted (refused r)) (refused s)) ≡ 11 → ⊥
three true x r s f h e = two x r f e
three false x r s f h e = h e

either : (b : Bool) (x y : Answer) → number_of x ≡ 0 → number_of y ≡ 0 → number_of (cond b x y) ≡ 11 → ⊥
either true x y f h e = omega (arith, f)
either false x y f h e = omega (arith, h)

-- no cause of a call's own is 11
own_number : (call : CallOnOpen) (n : ℕ) (ms : List ℕ) (qs : List Request) (room : ℕ) → number_of (open_answer call n ms qs room) ≡ 11 → ⊥
own_number (post q) n ms qs room e = three (ltb q.piece (length ms)) (ltb (length qs) room) _ _ (λ z. omega arith) (λ z. omega arith) e
own_number take n ms [] room e = omega arith
own_number take n ms (q ∷ qs) room e = either (eqb (mark ms q.piece) free) _ _ refl refl e
own_number (strike d) n ms qs room e = two (is_out n ms d) _ (λ z. omega arith) e
own_number (decline d) n ms qs room e = two (is_out n ms d) _ (λ z. omega arith) e
own_number (restore p) n ms qs room e = three (ltb p (length ms)) (eqb (mark ms p) struck) _ _ (λ z. omega arith) (λ z. omega arith) e
own_number close n ms qs room e = two (nothing qs && eqb (marked taken ms) 0) _ (λ z. omega arith) e

told_number : (o : Option SlipFault) → number_of (told o) ≡ 11 → ⊥
told_number None e = omega arith
told_number (Some Shape) e = omega arith
told_number (Some (Piece u)) e = omega arith
told_number (Some (Group h)) e = omega arith
told_number (Some (Prices u v)) e = omega arith
told_number (Some (Crossing h)) e = omega arith
told_number (Some Total) e = omega arith
told_number (Some Gap) e = omega arith

cond_same : {X : Type 0} (b : Bool) (x : X) → cond b x x ≡ x
cond_same true x = refl
cond_same false x = refl

passes : (b : Bool) (o : Option SlipFault) → cond b (told o) disagreed ≡ accepted → o ≡ None
passes true None e = refl
passes true (Some f) e = let z : ◌≡◌ {A = ℕ} 0 1 = cc in absurd (omega arith)
passes false o e = let z : ◌≡◌ {A = ℕ} 0 1 = cc in absurd (omega arith)

-- one call: the sheet is kept, its answer is right, and the account of withdrawals goes on
record Stepped (g : Register) (e : Event) (w' : State) : Type 0 where
  kept : Kept (fed g e.call) w'
  judged : Judged g e
  accounts : Accounts g (e ∷ []) (fed g e.call)

abbrev call_event : Call → Answer → Event
call_event c a = record { call = c; answer = a }

module _ (g : Register) (w : State) (k : Kept g w) where
  module _ (call : CallOnOpen) (m : Memory) (a : Answer) (right : a ≡ right_answer g (on_open call m)) where
    abbrev e : Event
    e = call_event (on_open call m) a

    -- with its own memory a call answers by its own causes
    by_own : agrees (counted g.marks g.waiting) m.marks m.waiting ≡ true → a ≡ open_answer call g.number g.marks g.waiting m.room
    by_own y = right ∙ cond-true _ _ _ y

    judged_open : Judged g e
    judged_open = record {
      right = right;
      not_disagreed = λ p q z.
          let own : agrees (counted g.marks g.waiting) m.marks m.waiting ≡ true = (λ i. agrees (counted g.marks g.waiting) (p i) (q i)) ∙ k.agreed in
          own_number call g.number g.marks g.waiting m.room (ap number_of (sym (by_own own)) ∙ ap number_of z);
      shown = tt;
    }

    stays : is_refused a ≡ true → fed g (on_open call m) ≡ g
    stays t = cond-true _ _ _ (sym (ap is_refused right) ∙ t)

    goes : is_refused a ≡ false → fed g (on_open call m) ≡ changed g (on_open call m)
    goes t = cond-false _ _ _ (sym (ap is_refused right) ∙ t)

    refused_accounts : is_refused a ≡ true → Accounts g (e ∷ []) (fed g (on_open call m))
    refused_accounts t =
        let i = refused_idle a t in
        idle g _ e (ap (λ x. x.marks) (stays t)) (ap (λ x. x.waiting) (stays t)) (cond-true _ _ _ t) (cond-true _ _ _ t) i.0 i.1

    accepted_accounts : agrees (counted g.marks g.waiting) m.marks m.waiting ≡ true → is_refused a ≡ false → Accounts g (e ∷ []) (fed g (on_open call m))
    accepted_accounts y t =
        let here = by_own y in
        let acc : Account g.marks g.waiting call a = subst (Account g.marks g.waiting call) (sym here) (account_of call g.number g.marks g.waiting m.room (lawful _ _ k.agreed) (sym (ap is_refused here) ∙ t)) in
        one_account g _ e call acc (cond-false _ _ _ t) (cond-false _ _ _ t) (ap (λ x. x.marks) (goes t)) (ap (λ x. x.waiting) (goes t))

    module _ (w' : State) (number : w'.sheet.number ≡ w.sheet.number) where
      -- a refusal leaves the sheet and its memory
      refused_kept : is_refused a ≡ true → w'.sheet.counts ≡ w.sheet.counts → w'.sheet.is_open ≡ w.sheet.is_open → w'.marks ≡ w.marks → w'.waiting ≡ w.waiting → Kept (fed g (on_open call m)) w'
      refused_kept t c o p q =
          subst (λ v. Kept v w') (sym (stays t)) (record {
            number = number ∙ k.number;
            marks = p ∙ k.marks;
            waiting = q ∙ k.waiting;
            is_open = o ∙ k.is_open;
            counts = c ∙ k.counts;
            agreed = k.agreed;
            closed = k.closed;
          })

  own_moved : (call : CallOnOpen) (m m' : Memory) (a : Answer) (w' : State) → g.is_open ≡ true → m.marks ≡ w.marks → m.waiting ≡ w.waiting → Did call w.sheet m a w'.sheet m' → w'.marks ≡ m'.marks → w'.waiting ≡ m'.waiting → Stepped g (call_event (on_open call m) a) w'
  own_moved call m m' a w' is p q d x y =
      let ms : m.marks ≡ g.marks = p ∙ k.marks in
      let qs : m.waiting ≡ g.waiting = q ∙ k.waiting in
      let right : a ≡ right_answer g (on_open call m) = d.answer ∙ (λ i. answer_by (k.number i) (k.counts i) (ms i) (qs i) (on_open call m)) in
      let own : agrees (counted g.marks g.waiting) m.marks m.waiting ≡ true = (λ i. agrees (counted g.marks g.waiting) (ms i) (qs i)) ∙ k.agreed in
      let here = by_own call m a right own in
      ⊎_elim
      (λ (t : is_refused a ≡ true). record {
        kept = refused_kept call m a right w' d.number t (d.counts ∙ cond-true _ _ _ t) (d.is_open ∙ cond-true _ _ _ t ∙ sym is ∙ sym k.is_open) (x ∙ d.marks ∙ cond-true _ _ _ t ∙ p) (y ∙ d.waiting ∙ cond-true _ _ _ t ∙ q);
        judged = judged_open call m a right;
        accounts = refused_accounts call m a right t;
      })
      (λ (t : is_refused a ≡ false).
      let f : is_refused (open_answer call g.number g.marks g.waiting m.room) ≡ false = sym (ap is_refused here) ∙ t in
      let ms' : m'.marks ≡ marks_after call g.marks g.waiting = d.marks ∙ cond-false _ _ _ t ∙ (λ i. marks_after call (ms i) (qs i)) in
      let qs' : m'.waiting ≡ waiting_after call g.waiting = d.waiting ∙ cond-false _ _ _ t ∙ ap (waiting_after call) qs in
      record {
        kept = subst (λ v. Kept v w') (sym (goes call m a right t)) (record {
          number = d.number ∙ k.number;
          marks = x ∙ ms';
          waiting = y ∙ qs';
          is_open = d.is_open ∙ cond-false _ _ _ t;
          counts = d.counts ∙ cond-false _ _ _ t ∙ (λ i. counted (ms' i) (qs' i));
          agreed = agrees_after call g.number g.marks g.waiting m.room k.agreed f;
          closed = settled_after call g.number g.marks g.waiting m.room f;
        });
        judged = judged_open call m a right;
        accounts = accepted_accounts call m a right own t;
      })
      (cases_Bool (is_refused a))

  other_moved : (call : CallOnOpen) (m m' : Memory) (a : Answer) (w' : State) → g.is_open ≡ true → agrees w.sheet.counts m.marks m.waiting ≡ false → Did call w.sheet m a w'.sheet m' → w'.marks ≡ w.marks → w'.waiting ≡ w.waiting → Stepped g (call_event (on_open call m) a) w'
  other_moved call m m' a w' is z d x y =
      let z' : agrees (counted g.marks g.waiting) m.marks m.waiting ≡ false = sym (ap (λ c. agrees c m.marks m.waiting) k.counts) ∙ z in
      let eleven : a ≡ disagreed = d.answer ∙ cond-false _ _ _ z in
      let right : a ≡ right_answer g (on_open call m) = eleven ∙ sym (cond-false _ _ _ z') in
      let t : is_refused a ≡ true = ap is_refused eleven in
      record {
        kept = refused_kept call m a right w' d.number t (d.counts ∙ cond-true _ _ _ t) (d.is_open ∙ cond-true _ _ _ t ∙ sym is ∙ sym k.is_open) x y;
        judged = judged_open call m a right;
        accounts = refused_accounts call m a right t;
      }

  module _ (by_law : VerdictsByLaw) (t : Table) (sound : Sound t) (ms : List ℕ) (v : View) (a : Answer) where
    same_fit : fits w.sheet.counts t ms ≡ fits (counted g.marks g.waiting) t ms
    same_fit = ap (λ c. fits c t ms) k.counts

    right_check : (ms ≡ w.marks) ⊎ (fits w.sheet.counts t ms ≡ false) → a ≡ answer_by w.sheet.number w.sheet.counts ms w.waiting (check t ms v) → a ≡ right_answer g (check t ms v)
    right_check lent e =
        ⊎_elim
        (λ (p : ms ≡ w.marks). e ∙ (λ i. cond (same_fit i) (told (verdict t ((p ∙ k.marks) i) v)) disagreed))
        (λ (z : fits w.sheet.counts t ms ≡ false). e ∙ cond-false _ _ _ z ∙ sym (cond-false _ _ _ (sym same_fit ∙ z)))
        lent

    own_fits : ms ≡ g.marks → t.count ≡ length g.marks → fits (counted g.marks g.waiting) t ms ≡ true
    own_fits p q =
        let b = agreed (counted g.marks g.waiting) g.marks g.waiting k.agreed in
        ap (fits (counted g.marks g.waiting) t) p ∙ and_from _ _ (marks_agreeing _ _ b.marks) (eq-eqb _ _ q)

    judged_check : a ≡ right_answer g (check t ms v) → Judged g (call_event (check t ms v) a)
    judged_check right = record {
      right = right;
      not_disagreed = λ p q z. told_number (verdict t g.marks v) (ap number_of (sym (right ∙ cond-true _ _ _ (own_fits p q))) ∙ ap number_of z);
      shown = λ z.
          let l = by_law t g.marks v sound in
          let none = passes (fits (counted g.marks g.waiting) t ms) (verdict t g.marks v) (sym right ∙ z) in
          (λ one. l.priced_least one none, λ two. l.gap_barren two none);
    }

    checked : (w' : State) → a ≡ right_answer g (check t ms v) → w' ≡ w → Stepped g (call_event (check t ms v) a) w'
    checked w' right s =
        let still : fed g (check t ms v) ≡ g = cond_same _ g in
        let i = checked_idle (fits (counted g.marks g.waiting) t ms) (verdict t g.marks v) in
        record {
          kept = subst (λ x. Kept x w') (sym still) (subst (Kept g) (sym s) k);
          judged = judged_check right;
          accounts = idle g _ (call_event (check t ms v) a) (ap (λ x. x.marks) still) (ap (λ x. x.waiting) still) refl refl (ap takes right ∙ i.0) (ap gives right ∙ i.1);
        }

  reopened : (w' : State) → w'.sheet.number ≡ w.sheet.number → w'.sheet.counts ≡ w.sheet.counts → w'.sheet.is_open ≡ true → w'.marks ≡ w.marks → w'.waiting ≡ w.waiting → Stepped g (call_event reopen accepted) w'
  reopened w' n c o p q = record {
    kept = record { number = n ∙ k.number; marks = p ∙ k.marks; waiting = q ∙ k.waiting; is_open = o; counts = c ∙ k.counts; agreed = k.agreed; closed = λ z. absurd (true≢false z) };
    judged = record { right = refl; not_disagreed = λ z. let y : ◌≡◌ {A = ℕ} 0 11 = ap number_of z in omega arith; shown = tt };
    accounts = idle g _ (call_event reopen accepted) refl refl refl refl refl refl;
  }

  stepped : VerdictsByLaw → (c : Call) (a : Answer) (w' : State) → allows w.sheet.is_open c ≡ true → Move w c a w' → Stepped g (call_event c a) w'
  stepped by_law c a w' may (with_own {call = call} {m = m} m' p q d x y) = own_moved call m m' a w' (sym k.is_open ∙ may) p q d x y
  stepped by_law c a w' may (with_other {call = call} {m = m} m' z d x y) = other_moved call m m' a w' (sym k.is_open ∙ may) z d x y
  stepped by_law c a w' may (checking {t = t} {ms = ms} {v = v} sound lent e s) = checked by_law t sound ms v a w' (right_check by_law t sound ms v a lent e) s
  stepped by_law c a w' may (reopening n k o p q) = reopened w' n k o p q

pub law : VerdictsByLaw → RunsByLaw
law by_law g w k [] w' done = record { kept = k; judged = tt; accounts = accounts_none g }
law by_law g w k (e ∷ es) w' (next {w' = v} may m r) =
    let s = stepped g w k by_law e.call e.answer v may m in
    let h = law by_law (fed g e.call) v s.kept es w' r in
    record { kept = h.kept; judged = (s.judged, h.judged); accounts = accounts_join g _ _ e es s.accounts h.accounts }

-- no docket is out of a piece whose mark is not 1
none_out : (ms : List ℕ) (p : ℕ) → marked taken ms ≡ 0 → out_for ms p ≡ 0
none_out ms p e =
    ⊎_elim
    (λ (z : mark ms p ≡ 1). absurd (none_marked taken ms p e (inside ms p 1 z (λ y. omega arith)) z))
    (λ (z : mark ms p ≡ 1 → ⊥). ap (λ b. cond b 1 0) (ne_eqb _ _ z))
    (cases_eq (mark ms p) 1)

pub closes_by_law : VerdictsByLaw → ClosesByLaw
closes_by_law by_law number pieces w k es w' r closed =
    let g = opening number pieces in
    let h = law by_law g w k es w' r in
    let s = h.kept.closed (sym h.kept.is_open ∙ closed) in (
      h.accounts.requests ∙ ap (λ x. withdrawn es ++ map (λ q. q.piece) x) s.none_waits ∙ append-nil (withdrawn es),
      λ p.
          let a = h.accounts.each_once p in
          let b = none_out g.marks p (free_only taken refl pieces) in
          let c = none_out (after g es).marks p s.none_out in
          omega arith,
    )
