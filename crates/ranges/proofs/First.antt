-- How a loop over a row finds the first that is there.
use Rattle.std.proofs.Common.{◌≡◌, ℕ, zero, suc, ◌+◌, ◌-◌, ◌<◌, ◌≤◌, Some, None, Option, refl, ap, ◌∙◌, ⊎_elim, add-one, arith}
use Rattle.std.proofs.lemmas.Bool.{cases_eq}
use Rattle.ranges.specs.First.{or_else, first_below, IsFirst}
use Rattle.ranges.proofs.Options.{none_some}

-- one more that is not there
pub first_more : {X : Type 0} (f : ℕ → Option X) (k : ℕ) → first_below f k ≡ None → f k ≡ None → first_below f (k + 1) ≡ None
first_more f k a b = ap (first_below f) (add-one k) ∙ ap (λ o. or_else o (f k)) a ∙ b

-- one that is there after none
pub first_here : {X : Type 0} (f : ℕ → Option X) (k : ℕ) (x : X) → first_below f k ≡ None → f k ≡ Some x → first_below f (k + 1) ≡ Some x
first_here f k x a b = ap (first_below f) (add-one k) ∙ ap (λ o. or_else o (f k)) a ∙ b

stays_by : {X : Type 0} (f : ℕ → Option X) (k d : ℕ) (x : X) → first_below f k ≡ Some x → first_below f (d + k) ≡ Some x
stays_by f k zero x e = let s : 0 + k ≡ k = omega arith in ap (first_below f) s ∙ e
stays_by f k (suc d) x e =
    let s : suc d + k ≡ suc (d + k) = omega arith in
    ap (first_below f) s ∙ ap (λ o. or_else o (f (d + k))) (stays_by f k d x e)

-- the first of a part is the first of the whole
pub first_stays : {X : Type 0} (f : ℕ → Option X) (k n : ℕ) (x : X) → k ≤ n → first_below f k ≡ Some x → first_below f n ≡ Some x
first_stays f k n x h e = let s : n ≡ (n - k) + k = omega arith in ap (first_below f) s ∙ stays_by f k (n - k) x e

-- what a loop that stops at k has found
pub first_found : {X : Type 0} (f : ℕ → Option X) (k n : ℕ) (x : X) → k < n → first_below f k ≡ None → f k ≡ Some x → first_below f n ≡ Some x
first_found f k n x h a b = first_stays f (k + 1) n x (omega arith) (first_here f k x a b)

-- neither of two is there
pub both_none : {X : Type 0} (a b : Option X) → or_else a b ≡ None → (a ≡ None) × (b ≡ None)
both_none None b e = (refl, e)
both_none (Some x) b e = absurd (none_some (Some x) x e refl)

pub none_both : {X : Type 0} (a b : Option X) → a ≡ None → b ≡ None → or_else a b ≡ None
none_both a b p q = ap (λ o. or_else o b) p ∙ q

-- what none says of each
pub first_none : {X : Type 0} (f : ℕ → Option X) (n : ℕ) → first_below f n ≡ None → (k : ℕ) → k < n → f k ≡ None
first_none f zero e k h = absurd (omega arith)
first_none f (suc n) e k h =
    let p = both_none (first_below f n) (f n) e in
    ⊎_elim (λ (q : k ≡ n). ap f q ∙ p.1) (λ (q : k ≡ n → ⊥). first_none f n p.0 k (omega arith)) (cases_eq k n)

-- none where each is none
pub first_absent : {X : Type 0} (f : ℕ → Option X) (n : ℕ) → ((k : ℕ) → k < n → f k ≡ None) → first_below f n ≡ None
first_absent f zero h = refl
first_absent f (suc n) h = ap (λ o. or_else o (f n)) (first_absent f n (λ k l. h k (omega arith))) ∙ h n (omega arith)

is_by : {X : Type 0} (f : ℕ → Option X) (n : ℕ) (x : X) (o : Option X) → (first_below f n ≡ Some x → IsFirst f n x) → first_below f n ≡ o → or_else o (f n) ≡ Some x → IsFirst f (suc n) x
is_by f n x None before p e = (n, omega arith, e, first_none f n p)
is_by f n x (Some y) before p e = let r = before (p ∙ e) in (r.0, omega (arith, r.1), r.2, r.3)

-- what one that is found says
pub first_is : {X : Type 0} (f : ℕ → Option X) (n : ℕ) (x : X) → first_below f n ≡ Some x → IsFirst f n x
first_is f zero x e = absurd (none_some None x refl e)
first_is f (suc n) x e = is_by f n x (first_below f n) (first_is f n x) refl e
