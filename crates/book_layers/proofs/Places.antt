-- What it says of a row of pairs that a place is found for a pair, or none.
use Rattle.std.proofs.Common.{◌≡◌, ℕ, ◌<◌, true, false, not, List, [], ◌∷◌, length, is_some, Some, None, refl, sym, ap, ◌∙◌, arith}
use Rattle.std.specs.List.{position, position_or_len}
use Rattle.std.proofs.lemmas.List.Sums.{prefix_len_stops}
use Rattle.std.proofs.lemmas.Bool.Decides.{nat_tests}
use Rattle.book_layers.specs.declared.pair.Pair.{Pair}
use Rattle.book_layers.specs.Pairs.{pair_of, pair_at, same_pair, has}

-- a row has a pair where one of its places is found for it
is_some-position : (ps : List Pair) (q : Pair) → is_some (position (λ p. same_pair p q) ps) ≡ has ps q
is_some-position [] q = refl
is_some-position (p ∷ ps) q = grind (arith, nat_tests, is_some-position ps q)

pub no_place : (ps : List Pair) (q : Pair) → None ≡ position (λ p. same_pair p q) ps → has ps q ≡ false
no_place ps q e = sym (is_some-position ps q) ∙ ap is_some (sym e)

-- what stands at the place that is found
pub record IsPlace (ps : List Pair) (q : Pair) (k : ℕ) : Type 0 where
  pub within : k < length ps
  pub same : same_pair (pair_at ps k) q ≡ true
  pub there : has ps q ≡ true

pub found_place : (ps : List Pair) (q : Pair) (k : ℕ) → Some k ≡ position (λ p. same_pair p q) ps → IsPlace ps q k
found_place ps q k e =
    let n = position_or_len (λ p. same_pair p q) ps in
    let is : k ≡ n = grind (arith, nat_tests) in
    let within : n < length ps = grind (arith, nat_tests) in
    let stops = prefix_len_stops (λ p. not (same_pair p q)) ps (pair_of 0 0) within in
    record { within = omega arith; same = rw is (grind (arith, nat_tests)); there = sym (is_some-position ps q) ∙ ap is_some (sym e) }
