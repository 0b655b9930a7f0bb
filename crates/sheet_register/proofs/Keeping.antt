-- A call that is not refused leaves memory that agrees with its own counts, and a close leaves nothing open.
use Rattle.std.proofs.Common.{◌≡◌, ℕ, ◌≤◌, Bool, true, false, cond, ◌&&◌, eqb, ltb, List, [], ◌∷◌, length, set, replicate, sym, refl, ap, ◌∙◌, arith, length-set}
use lib.ListN.{length-replicate}
use Rattle.std.proofs.lemmas.Bool.{and_parts, true≢false, false≢true, eqb-true, leb-true, ltb-true}
use Rattle.books.specs.declared.refusal.Refusal.{Refusal}
use Rattle.sheet_register.specs.declared.request.Request.{Request}
use Rattle.sheet_register.specs.Memory.{free, taken, struck, mark, marked, each, counted, agrees}
use Rattle.sheet_register.specs.Calls.{CallOnOpen, post, take, strike, decline, restore, close, accepted, refused, is_refused, nothing, open_answer, marks_after, waiting_after, open_after}
use Rattle.sheet_register.specs.Register.{opening}
use Rattle.sheet_register.specs.Law.{Settled, Kept}
use Rattle.sheet_register.proofs.Marks.{each_set, each_push, each_replicate, none_marked, free_only}
use Rattle.sheet_register.proofs.Agreement.{agreed, agreeing, same_counts}

-- each mark is lawful, and each request names a piece
pub record Lawful (ms : List ℕ) (qs : List Request) : Type 0 where
  pub marks : each (λ m. ltb m 3) ms ≡ true
  pub named : each (λ q. ltb q.piece (length ms)) qs ≡ true

pub lawful : (ms : List ℕ) (qs : List Request) → agrees (counted ms qs) ms qs ≡ true → Lawful ms qs
lawful ms qs e = let a = agreed (counted ms qs) ms qs e in record { marks = a.marks.lawful; named = a.named }

pub own_agrees : (ms : List ℕ) (qs : List Request) → Lawful ms qs → agrees (counted ms qs) ms qs ≡ true
own_agrees ms qs l = agreeing (counted ms qs) ms qs (record { marks = record { pieces = refl; lawful = l.marks; taken = refl; struck = refl }; waiting = refl; named = l.named })

lawful_set : (ms : List ℕ) (qs : List Request) (p m : ℕ) → ltb m 3 ≡ true → Lawful ms qs → Lawful (set ms p m) qs
lawful_set ms qs p m f l = record { marks = each_set _ ms p m l.marks f; named = ap (λ n. each (λ q. ltb q.piece n) qs) (length-set ms p m) ∙ l.named }

lawful_either : (b : Bool) (xs ms : List ℕ) (qs : List Request) → Lawful xs qs → Lawful ms qs → Lawful (cond b xs ms) qs
lawful_either true xs ms qs s t = s
lawful_either false xs ms qs s t = t

-- what is not refused passed its tests
pub both_passed : (b x : Bool) (r s : Refusal) → is_refused (cond b (cond x accepted (refused r)) (refused s)) ≡ false → (b ≡ true) × (x ≡ true)
both_passed true true r s e = (refl, refl)
both_passed true false r s e = absurd (true≢false e)
both_passed false x r s e = absurd (true≢false e)

pub passed : (b : Bool) (r : Refusal) → is_refused (cond b accepted (refused r)) ≡ false → b ≡ true
passed true r e = refl
passed false r e = absurd (true≢false e)

lawful_after : (call : CallOnOpen) (n : ℕ) (ms : List ℕ) (qs : List Request) (room : ℕ) → Lawful ms qs → is_refused (open_answer call n ms qs room) ≡ false → Lawful (marks_after call ms qs) (waiting_after call qs)
lawful_after (post q) n ms qs room l e = record { marks = l.marks; named = each_push _ qs q l.named (both_passed (ltb q.piece (length ms)) (ltb (length qs) room) _ _ e).0 }
lawful_after take n ms [] room l e = l
lawful_after take n ms (q ∷ qs) room l e =
    let t : Lawful ms qs = record { marks = l.marks; named = (and_parts _ _ l.named).1 } in
    lawful_either (eqb (mark ms q.piece) free) _ ms qs (lawful_set ms qs q.piece taken refl t) t
lawful_after (strike d) n ms qs room l e = lawful_set ms qs d.piece struck refl l
lawful_after (decline d) n ms qs room l e = lawful_set ms qs d.piece free refl l
lawful_after (restore p) n ms qs room l e = lawful_set ms qs p free refl l
lawful_after close n ms qs room l e = l

pub agrees_after : (call : CallOnOpen) (n : ℕ) (ms : List ℕ) (qs : List Request) (room : ℕ) → agrees (counted ms qs) ms qs ≡ true → is_refused (open_answer call n ms qs room) ≡ false → agrees (counted (marks_after call ms qs) (waiting_after call qs)) (marks_after call ms qs) (waiting_after call qs) ≡ true
agrees_after call n ms qs room a e = own_agrees (marks_after call ms qs) (waiting_after call qs) (lawful_after call n ms qs room (lawful ms qs a) e)

none : (qs : List Request) → nothing qs ≡ true → qs ≡ []
none [] e = refl
none (q ∷ qs) e = absurd (false≢true e)

-- a mark of at most 1 that is not 1
zero_mark : (x : ℕ) → x ≤ 1 → (x ≡ 1 → ⊥) → x ≡ 0
zero_mark x l f = omega arith

pub settles : (ms : List ℕ) (qs : List Request) → qs ≡ [] → marked taken ms ≡ 0 → Settled ms qs
settles ms qs e f = record {
  none_waits = e;
  none_out = f;
  live_free = λ p t. let a = and_parts _ _ t in zero_mark (mark ms p) (leb-true _ _ a.1) (none_marked taken ms p f (ltb-true _ _ a.0));
}

pub settled_after : (call : CallOnOpen) (n : ℕ) (ms : List ℕ) (qs : List Request) (room : ℕ) → is_refused (open_answer call n ms qs room) ≡ false → open_after call ≡ false → Settled (marks_after call ms qs) (waiting_after call qs)
settled_after (post q) n ms qs room e f = absurd (true≢false f)
settled_after take n ms qs room e f = absurd (true≢false f)
settled_after (strike d) n ms qs room e f = absurd (true≢false f)
settled_after (decline d) n ms qs room e f = absurd (true≢false f)
settled_after (restore p) n ms qs room e f = absurd (true≢false f)
settled_after close n ms qs room e f = let a = and_parts _ _ (passed (nothing qs && eqb (marked taken ms) 0) _ e) in settles ms qs (none qs a.0) (eqb-true _ _ a.1)

-- as an accepted opening leaves it
pub opened_kept : (number pieces n : ℕ) (ms : List ℕ) (qs : List Request) → n ≡ pieces → ms ≡ replicate pieces free → qs ≡ [] → Kept (opening number pieces) (record { sheet = record { number = number; counts = record { pieces = n; taken = 0; struck = 0; waiting = 0 }; is_open = true }; marks = ms; waiting = qs })
opened_kept number pieces n ms qs m e f = record {
  number = refl;
  marks = e;
  waiting = f;
  is_open = refl;
  counts = sym (same_counts (length-replicate pieces free ∙ sym m) (free_only taken refl pieces) (free_only struck refl pieces) refl);
  agreed = own_agrees (replicate pieces free) [] (record { marks = each_replicate (λ m. ltb m 3) pieces free refl; named = refl });
  closed = λ z. absurd (true≢false z);
}
