-- What each call on an open sheet does, over plain values: its refusals, and where it is not refused the memory and the counts after it.
use Rattle.std.proofs.Common.{◌≡◌, ℕ, ◌+◌, ◌-◌, ◌<◌, ◌≤◌, Bool, true, false, cond, ◌&&◌, eqb, ltb, ◌⊎◌, List, [], ◌∷◌, ◌++◌, length, set, sym, refl, ap, ◌∙◌, subst, ⊎_elim, arith, length-set}
use Rattle.std.proofs.lemmas.List.Sums.{count_by-le-length}
use Rattle.std.proofs.lemmas.Bool.{and_left, and_right, and_from, and_parts, eq-eqb, eqb-true, ne_eqb, cond-true, cond-false, lt-ltb, le-ltb, ltb-true}
use Rattle.books.specs.declared.refusal.Refusal.{Refusal}
use Rattle.books.specs.Refusals.{told_plain, told_naming, told_naming_two}
use Rattle.sheet_register.specs.declared.request.Request.{Request}
use Rattle.sheet_register.specs.Memory.{free, taken, struck, mark, marked, Counts, counted}
use Rattle.sheet_register.specs.Calls.{DocketView, Memory, CallOnOpen, post, take, strike, decline, restore, close, on_open, Answer, accepted, given, stale, refused, is_out, nothing, open_answer, answer_by, marks_after, waiting_after}
use Rattle.sheet_register.specs.Runs.{SheetView, Did}
use Rattle.sheet_register.proofs.Marks.{marked_set, inside}
use Rattle.sheet_register.proofs.Agreement.{same_counts, Agreed, agreeing, first_named}

-- an open sheet, by its numbers
abbrev pub opened : ℕ → Counts → SheetView
opened n c = record { number = n; counts = c; is_open = true }

pub nothing_none : (qs : List Request) → length qs ≡ 0 → nothing qs ≡ true
nothing_none [] e = refl
nothing_none (q ∷ qs) e = absurd (omega arith)

nothing_some : (qs : List Request) → (length qs ≡ 0 → ⊥) → nothing qs ≡ false
nothing_some [] e = absurd (e refl)
nothing_some (q ∷ qs) e = refl

-- the same with marks that are equal
pub marks_are : {call : CallOnOpen} {s s' : SheetView} {m : Memory} {a : Answer} {xs ys : List ℕ} {qs : List Request} {room : ℕ} → ys ≡ xs → Did call s m a s' (record { marks = xs; waiting = qs; room = room }) → Did call s m a s' (record { marks = ys; waiting = qs; room = room })
marks_are {call = call} {s = s} {s' = s'} {m = m} {a = a} {qs = qs} {room = room} e d = subst (λ zs. Did call s m a s' (record { marks = zs; waiting = qs; room = room })) (sym e) d

-- one mark is not another
other_mark : (x m k : ℕ) → x ≡ m → (m ≡ k → ⊥) → eqb x k ≡ false
other_mark x m k e f = ne_eqb _ _ (λ z. f (sym e ∙ z))

refuses : (n : ℕ) (c : Counts) (m : Memory) (call : CallOnOpen) (r : Refusal) → refused r ≡ answer_by n c m.marks m.waiting (on_open call m) → Did call (opened n c) m (refused r) (opened n c) m
refuses n c m call r e = record { answer = e; number = refl; counts = refl; is_open = refl; marks = refl; waiting = refl; room = refl }

module _ {c : Counts} {ms : List ℕ} {qs : List Request} (a : Agreed c ms qs) where
  -- a write over the mark of a piece: how many are then taken, and how many struck
  taken_after : (p x : ℕ) (b d : Bool) → p < length ms → eqb (mark ms p) taken ≡ b → eqb x taken ≡ d → marked taken (set ms p x) + cond b 1 0 ≡ c.taken + cond d 1 0
  taken_after p x b d l e f = let s = marked_set taken ms p x b d l e f in omega (arith, a.marks.taken)

  struck_after : (p x : ℕ) (b d : Bool) → p < length ms → eqb (mark ms p) struck ≡ b → eqb x struck ≡ d → marked struck (set ms p x) + cond b 1 0 ≡ c.struck + cond d 1 0
  struck_after p x b d l e f = let s = marked_set struck ms p x b d l e f in omega (arith, a.marks.struck)

  -- counts after a write over a mark agree with the marks
  counts_after : {t k w : ℕ} (qs' : List Request) (p x : ℕ) → t ≡ marked taken (set ms p x) → k ≡ marked struck (set ms p x) → w ≡ length qs' → ◌≡◌ {A = Counts} (record { pieces = c.pieces; taken = t; struck = k; waiting = w }) (counted (set ms p x) qs')
  counts_after qs' p x t k w = same_counts (sym (length-set ms p x ∙ a.marks.pieces)) t k w

  -- the mark of a piece that is struck, and of one whose docket is out
  module _ (p : ℕ) (e : (ltb p (length ms) && eqb (mark ms p) struck) ≡ true) where
    pub struck_some : 1 ≤ c.struck
    struck_some =
        let b = and_parts _ _ e in
        let s = struck_after p free true false (ltb-true _ _ b.0) b.1 refl in
        omega arith

  module _ (n : ℕ) (d : DocketView) (held : is_out n ms d ≡ true) where
    was_taken : mark ms d.piece ≡ 1
    was_taken = eqb-true _ _ (and_parts _ _ held).1

    pub docket_inside : d.piece < length ms
    docket_inside = inside ms d.piece 1 was_taken (λ z. omega arith)

    one_less_taken : (x : ℕ) → eqb x taken ≡ false → marked taken (set ms d.piece x) ≡ c.taken - 1
    one_less_taken x f = let s = taken_after d.piece x true false docket_inside (eq-eqb _ _ was_taken) f in omega arith

    pub docket_some : 1 ≤ c.taken
    docket_some = let s = taken_after d.piece free true false docket_inside (eq-eqb _ _ was_taken) refl in omega arith

    struck_with : (x : ℕ) → marked struck (set ms d.piece x) ≡ c.struck + cond (eqb x struck) 1 0
    struck_with x = let s = struck_after d.piece x false (eqb x struck) docket_inside (other_mark _ 1 2 was_taken (λ z. omega arith)) refl in omega arith

    pub docket_fits : c.struck + 1 ≤ length ms
    docket_fits =
        let s = struck_with struck in
        let b = count_by-le-length (λ x. eqb x struck) (set ms d.piece struck) in
        omega (arith, length-set ms d.piece struck)

  module _ (q : Request) (rest : List Request) (first : qs ≡ q ∷ rest) where
    first_inside : q.piece < length ms
    first_inside = let k = first_named c.pieces qs q rest a.named first in omega (arith, a.marks.pieces)

    one_more_taken : eqb (mark ms q.piece) free ≡ true → marked taken (set ms q.piece taken) ≡ c.taken + 1
    one_more_taken t =
        let s = taken_after q.piece taken false true first_inside (other_mark _ 0 1 (eqb-true _ _ t) (λ z. omega arith)) refl in
        omega arith

    pub taken_fits : (ltb q.piece (length ms) && eqb (mark ms q.piece) free) ≡ true → c.taken + 1 ≤ length ms
    taken_fits t =
        let s = one_more_taken (and_parts (ltb q.piece (length ms)) _ t).1 in
        let b = count_by-le-length (λ x. eqb x taken) (set ms q.piece taken) in
        omega (arith, length-set ms q.piece taken)

  below : (q : Request) → q.piece < c.pieces → ltb q.piece (length ms) ≡ true
  below q l = let k : q.piece < length ms = omega (arith, a.marks.pieces) in lt-ltb _ _ k

  module _ (n room : ℕ) where
    abbrev m : Memory
    m = record { marks = ms; waiting = qs; room = room }

    own : (call : CallOnOpen) (x : Answer) → x ≡ open_answer call n ms qs room → x ≡ answer_by n c ms qs (on_open call m)
    own call x e = e ∙ sym (cond-true _ _ _ (agreeing c ms qs a))

  module _ {n room : ℕ} where
    module _ (q : Request) where
      pub post_outside : c.pieces ≤ q.piece → Did (post q) (opened n c) (m n room) (refused (told_naming 8 q.piece)) (opened n c) (m n room)
      post_outside l =
          let past : length ms ≤ q.piece = omega (arith, a.marks.pieces) in
          refuses n c (m n room) (post q) _ (own n room (post q) _ (sym (cond-false _ _ _ (le-ltb _ _ past))))

      pub post_full : q.piece < c.pieces → (length qs < room → ⊥) → Did (post q) (opened n c) (m n room) (refused (told_plain 12)) (opened n c) (m n room)
      post_full l full =
          let past : room ≤ length qs = omega arith in
          refuses n c (m n room) (post q) _ (own n room (post q) _ (sym (cond-true _ _ _ (below q l) ∙ cond-false _ _ _ (le-ltb _ _ past))))

      pub posted : q.piece < c.pieces → length qs < room → {qs' : List Request} {room' w : ℕ} → qs' ≡ qs ++ q ∷ [] → room' ≡ room → w ≡ length qs' → Did (post q) (opened n c) (m n room) accepted (opened n (record { pieces = c.pieces; taken = c.taken; struck = c.struck; waiting = w })) (record { marks = ms; waiting = qs'; room = room' })
      posted l free_room e f g = record {
        answer = own n room (post q) _ (sym (cond-true _ _ _ (below q l) ∙ cond-true _ _ _ (lt-ltb _ _ free_room)));
        number = refl;
        counts = same_counts (sym a.marks.pieces) (sym a.marks.taken) (sym a.marks.struck) g;
        is_open = refl;
        marks = refl;
        waiting = e;
        room = f;
      }

    module _ (q : Request) (rest : List Request) (first : qs ≡ q ∷ rest) where
      pub take_stale : (ltb q.piece (length ms) && eqb (mark ms q.piece) free) ≡ false → {qs' : List Request} {room' w : ℕ} → qs' ≡ rest → room' ≡ room → w ≡ length qs' → Did take (opened n c) (m n room) (stale q) (opened n (record { pieces = c.pieces; taken = c.taken; struck = c.struck; waiting = w })) (record { marks = ms; waiting = qs'; room = room' })
      take_stale t e f g =
          let k = first_inside q rest first in
          let not_free = sym (ap (λ b. b && eqb (mark ms q.piece) free) (lt-ltb q.piece (length ms) k)) ∙ t in
          record {
            answer = own n room take _ (sym (ap (λ x. open_answer take n ms x room) first ∙ cond-false _ _ _ not_free));
            number = refl;
            counts = same_counts (sym a.marks.pieces) (sym a.marks.taken) (sym a.marks.struck) g;
            is_open = refl;
            marks = sym (ap (marks_after take ms) first ∙ cond-false _ _ _ not_free);
            waiting = e ∙ sym (ap (waiting_after take) first);
            room = f;
          }

      pub take_given : (ltb q.piece (length ms) && eqb (mark ms q.piece) free) ≡ true → {qs' : List Request} {room' w : ℕ} → qs' ≡ rest → room' ≡ room → w ≡ length qs' → Did take (opened n c) (m n room) (given (record { sheet = n; piece = q.piece })) (opened n (record { pieces = c.pieces; taken = c.taken + 1; struck = c.struck; waiting = w })) (record { marks = set ms q.piece taken; waiting = qs'; room = room' })
      take_given t e f g =
          let was_free : eqb (mark ms q.piece) free ≡ true = (and_parts (ltb q.piece (length ms)) _ t).1 in
          let s = struck_after q.piece taken false false (first_inside q rest first) (other_mark _ 0 2 (eqb-true _ _ was_free) (λ z. omega arith)) refl in
          let k : c.struck ≡ marked struck (set ms q.piece taken) = omega arith in
          record {
            answer = own n room take _ (sym (ap (λ x. open_answer take n ms x room) first ∙ cond-true _ _ _ was_free));
            number = refl;
            counts = counts_after _ q.piece taken (sym (one_more_taken q rest first was_free)) k g;
            is_open = refl;
            marks = sym (ap (marks_after take ms) first ∙ cond-true _ _ _ was_free);
            waiting = e ∙ sym (ap (waiting_after take) first);
            room = f;
          }

    -- a docket is spent: the sheet, which counts one docket less by then, and what it counts besides
    module _ (d : DocketView) (held : is_out n ms d ≡ true) {v : SheetView} (spent : v ≡ opened n (record { pieces = c.pieces; taken = c.taken - 1; struck = c.struck; waiting = c.waiting })) where
      pub struck_by : Did (strike d) (opened n c) (m n room) accepted (record { number = v.number; counts = record { pieces = v.counts.pieces; taken = v.counts.taken; struck = v.counts.struck + 1; waiting = v.counts.waiting }; is_open = v.is_open }) (record { marks = set ms d.piece struck; waiting = qs; room = room })
      struck_by = record {
        answer = own n room (strike d) _ (sym (cond-true _ _ _ held));
        number = ap (λ v. v.number) spent;
        counts =
            ap (λ (v : SheetView). record { pieces = v.counts.pieces; taken = v.counts.taken; struck = v.counts.struck + 1; waiting = v.counts.waiting }) spent
            ∙ counts_after qs d.piece struck (sym (one_less_taken n d held struck refl)) (sym (struck_with n d held struck)) (sym a.waiting);
        is_open = ap (λ v. v.is_open) spent;
        marks = refl;
        waiting = refl;
        room = refl;
      }

      pub declined_by : Did (decline d) (opened n c) (m n room) accepted v (record { marks = set ms d.piece free; waiting = qs; room = room })
      declined_by =
          let s = struck_with n d held free in
          let k : c.struck ≡ marked struck (set ms d.piece free) = omega arith in
          record {
            answer = own n room (decline d) _ (sym (cond-true _ _ _ held));
            number = ap (λ v. v.number) spent;
            counts = ap (λ v. v.counts) spent ∙ counts_after qs d.piece free (sym (one_less_taken n d held free refl)) k (sym a.waiting);
            is_open = ap (λ v. v.is_open) spent;
            marks = refl;
            waiting = refl;
            room = refl;
          }

    pub restored : (p : ℕ) → (ltb p (length ms) && eqb (mark ms p) struck) ≡ true → Did (restore p) (opened n c) (m n room) accepted (opened n (record { pieces = c.pieces; taken = c.taken; struck = c.struck - 1; waiting = c.waiting })) (record { marks = set ms p free; waiting = qs; room = room })
    restored p e =
        let b = and_parts _ _ e in
        let l = ltb-true _ _ b.0 in
        let s = taken_after p free false false l (other_mark _ 2 1 (eqb-true _ _ b.1) (λ z. omega arith)) refl in
        let f = struck_after p free true false l b.1 refl in
        let t : c.taken ≡ marked taken (set ms p free) = omega arith in
        let k : c.struck - 1 ≡ marked struck (set ms p free) = omega arith in
        record {
          answer = own n room (restore p) _ (sym (cond-true _ _ _ b.0 ∙ cond-true _ _ _ b.1));
          number = refl;
          counts = counts_after qs p free t k (sym a.waiting);
          is_open = refl;
          marks = refl;
          waiting = refl;
          room = refl;
        }

    pub close_busy : (c.waiting ≡ 0 → ⊥) ⊎ ((c.waiting ≡ 0) × (c.taken ≡ 0 → ⊥)) → Did close (opened n c) (m n room) (refused (told_naming_two 16 c.waiting c.taken)) (opened n c) (m n room)
    close_busy e =
        let test : (nothing qs && eqb (marked taken ms) 0) ≡ false =
        ⊎_elim
        (λ w. and_left _ _ (nothing_some qs (λ z. w (sym a.waiting ∙ z))))
        (λ w. and_right (nothing qs) _ (ne_eqb _ _ (λ z. w.1 (sym a.marks.taken ∙ z))))
        e
        in
        refuses n c (m n room) close _ (own n room close _ (sym (cond-false _ _ _ test ∙ (λ i. refused (told_naming_two 16 (a.waiting i) (a.marks.taken i))))))

    pub closes : c.waiting ≡ 0 → c.taken ≡ 0 → Did close (opened n c) (m n room) accepted (record { number = n; counts = record { pieces = c.pieces; taken = 0; struck = c.struck; waiting = 0 }; is_open = false }) (m n room)
    closes w t =
        let test = and_from _ _ (nothing_none qs (a.waiting ∙ w)) (eq-eqb _ _ (a.marks.taken ∙ t)) in
        record {
          answer = own n room close _ (sym (cond-true _ _ _ test));
          number = refl;
          counts = same_counts (sym a.marks.pieces) (sym (a.marks.taken ∙ t)) (sym a.marks.struck) (sym (a.waiting ∙ w));
          is_open = refl;
          marks = refl;
          waiting = refl;
          room = refl;
        }
