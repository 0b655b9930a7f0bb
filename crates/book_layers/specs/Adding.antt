-- What a surcharge adds, end by end, and that a surcharge layer keeps the law of a book.
use Rattle.std.specs.Prelude.{◌≡◌, ℕ, ◌+◌, ◌*◌, ◌≤◌, min, Bool, true, false, cond, List, Some, None, Ok, Option, ◌≢◌, slice_set, refl}
use Rattle.std.proofs.Common.{ap, ◌∙◌, arith, mul-le-mul}
use Rattle.std.proofs.lemmas.List.{get_or-set_other}
use Rattle.std.proofs.lemmas.Bool.Decides.{nat_tests}
use Rattle.std.specs.Option.{option_map}
use Rattle.books.specs.Limits.{most_cost}
use Rattle.books.specs.Table.{Table, Sound}
use Rattle.books.specs.Asked.{asked}
use Rattle.book_layers.specs.Surcharges.{marked, ends_marked, surcharged, Surcharges, PieceOnly}

-- a cost with an amount on top
abbrev dearer : ℕ → Option ℕ → Option ℕ
dearer x o = option_map (λ c. min (c + x) most_cost) o

-- nothing on top of a cost within the limit
dearer_none : (o : Option ℕ) → ((c : ℕ) → o ≡ Some c → c ≤ most_cost) → dearer 0 o ≡ o
dearer_none None low = refl
dearer_none (Some c) low = let h = low c refl in ap Some (omega arith)

-- no cost passes the limit
dearer_low : (x : ℕ) (o : Option ℕ) (c : ℕ) → dearer x o ≡ Some c → c ≤ most_cost
dearer_low x None c e = grind (arith, nat_tests)
dearer_low x (Some b) c e = grind (arith, nat_tests)

-- what the ends of a pair add
ends_are : (ms : List Bool) (amount i j : ℕ) (b d : Bool) (x : ℕ) → marked ms i ≡ b → marked ms j ≡ d → amount * (cond b 1 0 + cond d 1 0) ≡ x → amount * ends_marked ms i j ≡ x
ends_are ms amount i j b d x p q e = cc

-- a surcharge, end by end
pub surcharges : (t : Table) (amount : ℕ) (ms : List Bool) → Sound t → Surcharges (surcharged t amount ms) t amount ms
surcharges t amount ms s = record {
  count = refl;
  barred = λ i j e. ap (dearer (amount * ends_marked ms i j)) e;
  unmarked = λ i j p q. ap (λ x. dearer x (t.cost i j)) (ends_are ms amount i j false false 0 p q (omega arith)) ∙ dearer_none (t.cost i j) (s.low i j);
  one_end = λ i j c p q e. let x = ends_are ms amount i j true false amount p q (omega arith) in grind arith;
  other_end = λ i j c p q e. let x = ends_are ms amount i j false true amount p q (omega arith) in grind arith;
  both_ends = λ i j c p q e. let x = ends_are ms amount i j true true (amount + amount) p q (omega arith) in grind arith;
}

-- a surcharge layer over a book is a book
pub surcharge_sound : (t : Table) (amount : ℕ) (ms : List Bool) → Sound t → Sound (surcharged t amount ms)
surcharge_sound t amount ms s = record {
  few = s.few;
  even = λ i j.
      let x : ends_marked ms i j ≡ ends_marked ms j i = omega arith in
      ap (λ e. dearer (amount * e) (t.cost i j)) x ∙ ap (dearer (amount * ends_marked ms j i)) (s.even i j);
  same = λ i. ap (dearer (amount * ends_marked ms i i)) (s.same i);
  outside = λ i j o. ap (dearer (amount * ends_marked ms i j)) (s.outside i j o);
  low = λ i j c e. dearer_low (amount * ends_marked ms i j) (t.cost i j) c e;
}

-- a mark that is written, or refused, leaves the others
mark_other : (ms ns : List Bool) (p a : ℕ) (ok b : Bool) → ns ≡ cond ok (slice_set ms p b) ms → (a ≢ p) → marked ns a ≡ marked ms a
mark_other ms ns p a true b e n = ap (λ xs. marked xs a) e ∙ get_or-set_other ms p a b false n
mark_other ms ns p a false b e n = ap (λ xs. marked xs a) e

-- so that no pair but those of the piece changes
pub piece_only : (t u : Table) (amount after : ℕ) (ms ns : List Bool) (p : ℕ) (ok b : Bool) → u ≡ t → after ≡ amount → ns ≡ cond ok (slice_set ms p b) ms → PieceOnly (surcharged t amount ms) (surcharged u after ns) p
piece_only t u amount after ms ns p ok b e f m = λ x y n o.
    let k = mark_other ms ns p x ok b m n in
    let l = mark_other ms ns p y ok b m o in
    let same : after * ends_marked ns x y ≡ amount * ends_marked ms x y = cc in
    ap (λ w. dearer w (u.cost x y)) same ∙ ap (λ v. dearer (amount * ends_marked ms x y) (v.cost x y)) e

-- a cost that a book answers is within the limit
pub asked_low : (t : Table) (i j c : ℕ) (o : Option ℕ) → Sound t → o ≡ Some c → Ok o ≡ asked t i j → c ≤ most_cost
asked_low t i j c o s is e = s.low i j c (grind (arith, nat_tests))

-- so that its sum with what the ends add fits
pub sum_low : (c amount ends : ℕ) → c ≤ most_cost → amount ≤ most_cost → ends ≤ 2 → c + amount * ends ≤ 3000000
sum_low c amount ends h k l = let p = mul-le-mul k l in omega arith
