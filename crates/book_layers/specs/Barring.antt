-- How a row of pairs changes as one pair comes or goes, and that a bar layer keeps the law of a book.
use Rattle.std.specs.Prelude.{◌≡◌, ℕ, zero, suc, ◌+◌, ◌<◌, ◌≤◌, Bool, true, false, cond, not, ◌&&◌, ◌||◌, List, [], ◌∷◌, ◌++◌, length, drop, Some, None, Option, ◌==◌, refl}
use Rattle.std.proofs.Common.{sym, ap, ◌∙◌, arith}
use Rattle.std.proofs.lemmas.List.{at_drop_more, at_drop_all, length_push}
use Rattle.std.proofs.lemmas.List.Edits.{length-remove}
use Rattle.std.proofs.lemmas.Bool.{and_parts, eqb-true, cond-true, cond-false, or_left, and_left, not_from_true}
use Rattle.std.proofs.lemmas.Bool.Decides.{nat_tests}
use Rattle.std.specs.List.{remove}
use Rattle.books.specs.Table.{Table, Sound}
use Rattle.book_layers.specs.declared.pair.Pair.{Pair}
use Rattle.book_layers.specs.Pairs.{pair_of, pair_at, same_pair, is_pair, has, held, apart}
use Rattle.book_layers.specs.Bars.{bar_table, same_two, Adds, Drops, Other, BarsOnly, LiftsOnly}

-- a search that comes to place k
pub held_more : (ps : List Pair) (k i j : ℕ) → k < length ps → held (drop k ps) i j ≡ (is_pair (pair_at ps k) i j || held (drop (k + 1) ps) i j)
held_more ps k i j h = at_drop_more (λ xs. held xs i j) ps k (record { lower = 0; higher = 0 }) h

-- a search that has passed every place
pub held_all : (ps : List Pair) (k i j : ℕ) → length ps ≤ k → held (drop k ps) i j ≡ false
held_all ps k i j h = at_drop_all (λ xs. held xs i j) ps k h

-- a row with one pair more
has_push : (ps : List Pair) (p q : Pair) → has (ps ++ p ∷ []) q ≡ (same_pair q p || has ps q)
has_push [] p q = grind (arith, nat_tests)
has_push (x ∷ ps) p q = let e = has_push ps p q in grind (arith, nat_tests)

-- a row has what stands at its places
has_place : (ps : List Pair) (k : ℕ) → k < length ps → has ps (pair_at ps k) ≡ true
has_place [] k h = absurd (omega arith)
has_place (p ∷ ps) zero h = grind (arith, nat_tests)
has_place (p ∷ ps) (suc k) h = let e = has_place ps k (omega arith) in grind (arith, nat_tests)

-- a pair by its parts
abbrev made : ℕ → ℕ → Pair
made l h = record { lower = l; higher = h }

-- same pairs are equal
same_from : (p q : Pair) → same_pair p q ≡ true → p ≡ q
same_from p q e =
    let both = and_parts (p.lower == q.lower) (p.higher == q.higher) e in
    ap (λ x. made x p.higher) (eqb-true _ _ both.0) ∙ ap (made q.lower) (eqb-true _ _ both.1)

-- a row has a pair or not, whichever of two same pairs is asked for
has_same : (ps : List Pair) (p q : Pair) → same_pair p q ≡ true → has ps p ≡ has ps q
has_same ps p q e = ap (has ps) (same_from p q e)

-- a row of pairs that differ, without one of its places
has_removed : (ps : List Pair) (k : ℕ) (q : Pair) → k < length ps → apart ps ≡ true → has (remove ps k) q ≡ (not (same_pair q (pair_at ps k)) && has ps q)
has_removed [] k q h a = absurd (omega arith)
has_removed (p ∷ ps) zero q h a = let s = has_same ps p q in grind (arith, nat_tests)
has_removed (p ∷ ps) (suc k) q h a =
    let sub : apart ps ≡ true = grind (arith, nat_tests) in
    let rest = has_removed ps k q (omega arith) sub in
    let there = has_place ps k (omega arith) in
    let s = has_same ps p (pair_at ps k) in
    grind (arith, nat_tests)

-- a row without one of its places has no two the same
pub apart_removed : (ps : List Pair) (k : ℕ) → k < length ps → apart ps ≡ true → apart (remove ps k) ≡ true
apart_removed [] k h a = absurd (omega arith)
apart_removed (p ∷ ps) zero h a = grind (arith, nat_tests)
apart_removed (p ∷ ps) (suc k) h a =
    let sub : apart ps ≡ true = grind (arith, nat_tests) in
    let rest = apart_removed ps k (omega arith) sub in
    let gone = has_removed ps k p (omega arith) sub in
    grind (arith, nat_tests)

-- nor has one with a pair more that it did not have
pub apart_push : (ps : List Pair) (q : Pair) → has ps q ≡ false → apart ps ≡ true → apart (ps ++ q ∷ []) ≡ true
apart_push [] q n a = refl
apart_push (p ∷ ps) q n a =
    let rest = apart_push ps q (grind (arith, nat_tests)) (grind (arith, nat_tests)) in
    let more = has_push ps q p in
    grind (arith, nat_tests)

-- one pair more, which the row did not have
pub adds_push : (ps : List Pair) (i j : ℕ) → held ps i j ≡ false → Adds ps (ps ++ pair_of i j ∷ []) i j
adds_push ps i j n = record {
  holds = λ a b. has_push ps (pair_of i j) (pair_of a b);
  number = length_push ps (pair_of i j) ∙ sym (cond-false (held ps i j) (length ps) (length ps + 1) n);
}

-- one place less, at which the pair stood
pub drops_removed : (ps : List Pair) (k i j : ℕ) → k < length ps → is_pair (pair_at ps k) i j ≡ true → apart ps ≡ true → Drops ps (remove ps k) i j
drops_removed ps k i j h is a =
    let e = same_from (pair_at ps k) (pair_of i j) is in
    let there : held ps i j ≡ true = ap (has ps) (sym e) ∙ has_place ps k h in
    record {
      holds = λ a' b. rw e at (has_removed ps k (pair_of a' b) h a);
      number = ap (λ b. length (remove ps k) + cond b 1 0) there ∙ length-remove ps k h;
    }

-- the pair itself, the pair turned, and any other
here : (i j : ℕ) → same_two i j i j ≡ true
here i j = grind (arith, nat_tests)

turned : (i j : ℕ) → same_two j i i j ≡ true
turned i j = grind (arith, nat_tests)

elsewhere : (a b i j : ℕ) → Other a b i j → same_two a b i j ≡ false
elsewhere a b i j o = grind (arith, nat_tests)

-- what a bar changes
pub adds_law : (t : Table) (ps qs : List Pair) (i j : ℕ) → Adds ps qs i j → BarsOnly (bar_table t ps) (bar_table t qs) i j
adds_law t ps qs i j m = record {
  count = refl;
  here = (cond-true _ _ _ (m.holds i j ∙ or_left _ _ (here i j)), cond-true _ _ _ (m.holds j i ∙ or_left _ _ (turned i j)));
  elsewhere = λ a b o. let e = elsewhere a b i j o in let h = m.holds a b in grind (arith, nat_tests);
}

-- what a lifted bar changes
pub drops_law : (t : Table) (ps qs : List Pair) (i j : ℕ) → Drops ps qs i j → LiftsOnly t (bar_table t ps) (bar_table t qs) i j
drops_law t ps qs i j m = record {
  count = refl;
  here = (
    cond-false _ _ _ (m.holds i j ∙ and_left _ _ (not_from_true _ (here i j))),
    cond-false _ _ _ (m.holds j i ∙ and_left _ _ (not_from_true _ (turned i j))),
  );
  elsewhere = λ a b o. let e = elsewhere a b i j o in let h = m.holds a b in grind (arith, nat_tests);
}

-- the order of two pieces does not matter to a row
held_turned : (ps : List Pair) (i j : ℕ) → held ps i j ≡ held ps j i
held_turned ps i j = has_same ps (pair_of i j) (pair_of j i) (turned j i)

-- what is none below is none above, and a cost above is the cost below
cond_none : (b : Bool) (o : Option ℕ) → o ≡ None → cond b None o ≡ None
cond_none b o e = grind (arith, nat_tests)

cond_some : (b : Bool) (o : Option ℕ) (c : ℕ) → cond b None o ≡ Some c → o ≡ Some c
cond_some b o c e = grind (arith, nat_tests)

-- a layer of bars over a book is a book
pub bar_sound : (t : Table) (ps : List Pair) → Sound t → Sound (bar_table t ps)
bar_sound t ps s = record {
  few = s.few;
  even = λ i j. let h = held_turned ps i j in let e = s.even i j in cc;
  same = λ i. cond_none (held ps i i) (t.cost i i) (s.same i);
  outside = λ i j o. cond_none (held ps i j) (t.cost i j) (s.outside i j o);
  low = λ i j c e. s.low i j c (cond_some (held ps i j) (t.cost i j) c e);
}
