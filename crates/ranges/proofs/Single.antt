-- Sums with at most one term that is not 0, and what a sum that is not 0 has.
use Rattle.std.proofs.Common.{◌≡◌, ℕ, zero, suc, ◌<◌, Bool, true, false, cond, ◌≢◌, sym, refl, ap, ⊎_elim, arith}
use Rattle.std.proofs.lemmas.Bool.{cases_eq}
use Rattle.ranges.specs.Sums.{sum_below, count_below}
use Rattle.ranges.proofs.Sums.{sum_zero}

-- terms that are all 0 but the one at j
pub sum_single : (n : ℕ) (f : ℕ → ℕ) (j : ℕ) → j < n → ((k : ℕ) → k < n → k ≢ j → f k ≡ 0) → sum_below n f ≡ f j
sum_single zero f j h o = absurd (omega arith)
sum_single (suc n) f j h o =
    ⊎_elim
    (λ (q : j ≡ n). let a = sum_zero n f (λ k l. o k (omega arith) (λ e. omega arith)) in let b = ap f q in omega arith)
    (λ (q : j ≡ n → ⊥). let a = sum_single n f j (omega arith) (λ k l. o k (omega arith)) in let b = o n (omega arith) (λ e. q (sym e)) in omega arith)
    (cases_eq j n)

-- a sum that is not 0 has a term that is not 0
pub sum_has : (n : ℕ) (f : ℕ → ℕ) → sum_below n f ≢ 0 → (k : ℕ) × (k < n) × (f k ≢ 0)
sum_has zero f h = absurd (h refl)
sum_has (suc n) f h =
    ⊎_elim
    (λ (q : f n ≡ 0). let r = sum_has n f (λ e. h (omega arith)) in (r.0, omega (arith, r.1), r.2))
    (λ (q : f n ≡ 0 → ⊥). (n, omega arith, q))
    (cases_eq (f n) 0)

counted : (b : Bool) → ◌≢◌ {A = ℕ} (cond b 1 0) 0 → b ≡ true
counted true h = refl
counted false h = absurd (h refl)

-- a count that is not 0 has one that is true
pub count_has : (n : ℕ) (p : ℕ → Bool) → count_below n p ≢ 0 → (k : ℕ) × (k < n) × (p k ≡ true)
count_has n p h = let r = sum_has n (λ k. cond (p k) 1 0) h in (r.0, r.1, counted (p r.0) r.2)
