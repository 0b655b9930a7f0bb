-- What a test of all numbers below a bound says of each, and what makes it hold.
use Rattle.std.proofs.Common.{◌≡◌, ℕ, zero, suc, ◌<◌, Bool, true, false, ◌&&◌, refl, ap, ◌∙◌, ⊎_elim, arith}
use mathlib.Core.Bool.{and-false}
use Rattle.std.proofs.lemmas.Bool.{cases_eq, and_parts, and_from}
use Rattle.ranges.specs.Every.{all_below}

-- what holds of all holds of each
pub all_is : (n : ℕ) (p : ℕ → Bool) → all_below n p ≡ true → (k : ℕ) → k < n → p k ≡ true
all_is zero p e k h = absurd (omega arith)
all_is (suc n) p e k h =
    let b = and_parts (all_below n p) (p n) e in
    ⊎_elim (λ (q : k ≡ n). ap p q ∙ b.1) (λ (q : k ≡ n → ⊥). all_is n p b.0 k (omega arith)) (cases_eq k n)

-- what holds of each holds of all
pub all_from : (n : ℕ) (p : ℕ → Bool) → ((k : ℕ) → k < n → p k ≡ true) → all_below n p ≡ true
all_from zero p h = refl
all_from (suc n) p h = and_from (all_below n p) (p n) (all_from n p (λ k l. h k (omega arith))) (h n (omega arith))

-- one that fails
pub all_broken : (p : ℕ → Bool) (k n : ℕ) → k < n → p k ≡ false → all_below n p ≡ false
all_broken p k zero h e = absurd (omega arith)
all_broken p k (suc n) h e =
    ⊎_elim
    (λ (q : n ≡ k). ap (λ t. all_below n p && t) (ap p q ∙ e) ∙ and-false (all_below n p))
    (λ (q : n ≡ k → ⊥). ap (λ t. t && p n) (all_broken p k n (omega arith) e))
    (cases_eq n k)
