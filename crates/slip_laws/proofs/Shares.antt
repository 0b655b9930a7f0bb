-- The shares of a slip: a share is that of two mates, either order has the same, none is negative, and each live piece of a pairing has one.
use Rattle.std.proofs.Common.{◌≡◌, ℕ, zero, suc, ◌<◌, Bool, true, false, cond, not, ◌&&◌, eqb, ◌≢◌, ℤ, pos, ◌+ℤ◌, ◌≤ℤ◌, is_some, sym, refl, ap, ◌∙◌, arith}
use Rattle.std.proofs.lemmas.Bool.Decides.{nat_tests, same_from_decides}
use Rattle.std.proofs.lemmas.Int.{ints}
use Rattle.std.proofs.lemmas.Bool.{both_ways, false_from_ne_true}
use Rattle.ranges.specs.Sums.{sum_below, count_below}
use Rattle.ranges.proofs.Single.{sum_single}
use Rattle.slips.specs.Problem.{Problem, Live, Allowed, Pairing}
use Rattle.slips.specs.View.{View, mate}
use Rattle.slips.specs.System.{sum_int_below, mates, share}
use Rattle.slip_laws.proofs.Fair.{Fair}

-- sums of natural numbers, as integers
pub sum_int_natural : (n : ℕ) (f : ℕ → ℤ) (g : ℕ → ℕ) → ((k : ℕ) → k < n → f k ≡ pos (g k)) → sum_int_below n f ≡ pos (sum_below n g)
sum_int_natural zero f g h = refl
sum_int_natural (suc n) f g h =
    let a = sum_int_natural n f g (λ k l. h k (omega arith)) in
    let b = h n (omega arith) in
    ap (λ z. z +ℤ f n) a ∙ ap (λ z. pos (sum_below n g) +ℤ z) b

one_or_none : (b : Bool) → cond b (pos 1) (pos 0) ≡ pos (cond b 1 0)
one_or_none true = refl
one_or_none false = refl

-- two mates, over plain numbers
mates_parts : (lu lv some : Bool) (u v mu mv : ℕ) → (lu && (lv && (not (eqb u v) && (eqb mu v && (eqb mv u && some))))) ≡ true
    → (lu ≡ true) × (lv ≡ true) × (u ≢ v) × (mu ≡ v) × (mv ≡ u) × (some ≡ true)
mates_parts lu lv some u v mu mv e = (grind (arith, nat_tests), grind (arith, nat_tests), grind (arith, nat_tests), grind (arith, nat_tests), grind (arith, nat_tests), grind (arith, nat_tests))

mates_whole : (lu lv some : Bool) (u v mu mv : ℕ) → lu ≡ true → lv ≡ true → u ≢ v → mu ≡ v → mv ≡ u → some ≡ true
    → (lu && (lv && (not (eqb u v) && (eqb mu v && (eqb mv u && some))))) ≡ true
mates_whole lu lv some u v mu mv a b n c d e = grind (arith, nat_tests)

-- what two mates are
pub record Mates (p : Problem) (s : View) (u v : ℕ) : Type 0 where
  pub first : p.live u ≡ true
  pub second : p.live v ≡ true
  pub other : u ≢ v
  pub there : mate s u ≡ v
  pub back : mate s v ≡ u
  pub allowed : Allowed p u v

pub mates_is : (p : Problem) (s : View) (u v : ℕ) → mates p s u v ≡ true → Mates p s u v
mates_is p s u v e =
    let h = mates_parts (p.live u) (p.live v) (is_some (p.cost u v)) u v (mate s u) (mate s v) e in
    record { first = h.0; second = h.1; other = h.2; there = h.3; back = h.4; allowed = h.5 }

pub mates_from : (p : Problem) (s : View) (u v : ℕ) → Mates p s u v → mates p s u v ≡ true
mates_from p s u v m = mates_whole (p.live u) (p.live v) (is_some (p.cost u v)) u v (mate s u) (mate s v) m.first m.second m.other m.there m.back m.allowed

-- a share is that of mates
shared : (b : Bool) → cond b (pos 1) (pos 0) ≢ pos 0 → b ≡ true
shared true h = refl
shared false h = absurd (h refl)

pub share_is : (p : Problem) (s : View) (u v : ℕ) → share p s u v ≢ pos 0 → Mates p s u v
share_is p s u v h = mates_is p s u v (shared (mates p s u v) h)

pub share_from : (p : Problem) (s : View) (u v : ℕ) → Mates p s u v → share p s u v ≢ pos 0
share_from p s u v m e =
    let a : pos 1 ≡ pos 0 = sym (ap (λ b. cond b (pos 1) (pos 0)) (mates_from p s u v m)) ∙ e in
    let z : ◌≡◌ {A = ℕ} 1 0 = cc in omega arith

pub share_natural : (p : Problem) (s : View) (u v : ℕ) → pos 0 ≤ℤ share p s u v
share_natural p s u v = let e = one_or_none (mates p s u v) in omega (arith, ints)

-- either order of two mates
mates_turned : (p : Problem) (s : View) → Fair p → (u v : ℕ) → mates p s u v ≡ true → mates p s v u ≡ true
mates_turned p s fair u v e =
    let m = mates_is p s u v e in
    mates_from p s v u (record { first = m.second; second = m.first; other = λ q. m.other (sym q); there = m.back; back = m.there; allowed = ap is_some (fair.even v u) ∙ m.allowed })

same_tests : (a b : Bool) → (a ≡ true → b ≡ true) → (b ≡ true → a ≡ true) → a ≡ b
same_tests a b f g = same_from_decides a b (f, g) ((λ e. e), (λ e. e))

pub either_order : (p : Problem) (s : View) → Fair p → (u v : ℕ) → share p s u v ≡ share p s v u
either_order p s fair u v =
    ap (λ b. cond b (pos 1) (pos 0)) (same_tests (mates p s u v) (mates p s v u) (mates_turned p s fair u v) (mates_turned p s fair v u))

-- the shares of a piece, counted
pub row_is : (p : Problem) (s : View) (u : ℕ) → sum_int_below p.size (share p s u) ≡ pos (count_below p.size (mates p s u))
row_is p s u = sum_int_natural p.size (share p s u) (λ v. cond (mates p s u v) 1 0) (λ v h. one_or_none (mates p s u v))

-- where the mates are a pairing
module _ (p : Problem) (s : View) (pairing : Pairing p (mate s)) where
  pub mates_at : (u : ℕ) → Live p u → mates p s u (mate s u) ≡ true
  mates_at u l =
      mates_from p s u (mate s u)
      (record { first = l.marked; second = (pairing.lives u l).marked; other = λ e. pairing.other u l (sym e); there = refl; back = pairing.back u l; allowed = pairing.allowed u l })

  pub mates_off : (u v : ℕ) → v ≢ mate s u → mates p s u v ≡ false
  mates_off u v n = false_from_ne_true (mates p s u v) (λ e. n (sym (mates_is p s u v e).there))

  pub mates_struck : (u v : ℕ) → p.live u ≡ false → mates p s u v ≡ false
  mates_struck u v l = false_from_ne_true (mates p s u v) (λ e. both_ways (p.live u) l (mates_is p s u v e).first)

  -- each live piece has one mate
  one_mate : (u : ℕ) → Live p u → count_below p.size (mates p s u) ≡ 1
  one_mate u l =
      sum_single p.size (λ v. cond (mates p s u v) 1 0) (mate s u) (pairing.lives u l).below (λ v h n. ap (λ b. cond b 1 0) (mates_off u v n))
      ∙ ap (λ b. cond b 1 0) (mates_at u l)

  pub each_once : (u : ℕ) → Live p u → sum_int_below p.size (share p s u) ≡ pos 1
  each_once u l = row_is p s u ∙ ap pos (one_mate u l)
