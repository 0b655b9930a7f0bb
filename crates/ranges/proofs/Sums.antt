-- Laws of sums and counts over the numbers below a bound.
use Rattle.std.proofs.Common.{◌≡◌, ℕ, zero, suc, ◌+◌, ◌*◌, ◌<◌, ◌≤◌, Bool, true, false, cond, eqb, ◌≢◌, sym, refl, ap, ◌∙◌, inl, inr, mul-zero, mul-suc, mul-add, add-one, arith}
use Rattle.std.proofs.lemmas.Bool.{cond-true, cond-false, eq-eqb, ne_eqb, cases_eq}
use Rattle.ranges.specs.Sums.{sum_below, count_below}

-- one more term
pub sum_more : (n : ℕ) (f : ℕ → ℕ) → sum_below (n + 1) f ≡ sum_below n f + f n
sum_more n f = ap (λ m. sum_below m f) (add-one n)

-- a sum of terms that are at most m
pub sum_bound : (n m : ℕ) (f : ℕ → ℕ) → ((k : ℕ) → k < n → f k ≤ m) → sum_below n f ≤ m * n
sum_bound zero m f h = omega arith
sum_bound (suc n) m f h = let e = sum_bound n m f (λ k l. h k (omega arith)) in let t = h n (omega arith) in omega (arith, mul-suc m n)

one_or_none : (b : Bool) → cond b 1 0 ≤ 1
one_or_none true = omega arith
one_or_none false = omega arith

pub count_bound : (n : ℕ) (p : ℕ → Bool) → count_below n p ≤ n
count_bound n p = let e = sum_bound n 1 (λ k. cond (p k) 1 0) (λ k h. one_or_none (p k)) in omega arith

-- sums of equal terms
pub sum_cong : (n : ℕ) (f g : ℕ → ℕ) → ((k : ℕ) → k < n → f k ≡ g k) → sum_below n f ≡ sum_below n g
sum_cong zero f g h = refl
sum_cong (suc n) f g h = let e = sum_cong n f g (λ k l. h k (omega arith)) in let t = h n (omega arith) in omega arith

-- sums of terms of which one is at most the other
pub sum_le : (n : ℕ) (f g : ℕ → ℕ) → ((k : ℕ) → k < n → f k ≤ g k) → sum_below n f ≤ sum_below n g
sum_le zero f g h = omega arith
sum_le (suc n) f g h = let e = sum_le n f g (λ k l. h k (omega arith)) in let t = h n (omega arith) in omega arith

pub sum_zero : (n : ℕ) (f : ℕ → ℕ) → ((k : ℕ) → k < n → f k ≡ 0) → sum_below n f ≡ 0
sum_zero zero f h = refl
sum_zero (suc n) f h = let e = sum_zero n f (λ k l. h k (omega arith)) in let t = h n (omega arith) in omega arith

pub sum_add : (n : ℕ) (f g : ℕ → ℕ) → sum_below n (λ k. f k + g k) ≡ sum_below n f + sum_below n g
sum_add zero f g = refl
sum_add (suc n) f g = omega (arith, sum_add n f g)

pub sum_twice : (n : ℕ) (f : ℕ → ℕ) → sum_below n (λ k. 2 * f k) ≡ 2 * sum_below n f
sum_twice zero f = refl
sum_twice (suc n) f = omega (arith, sum_twice n f)

-- a factor that every term of a sum has
pub sum_times : (n d : ℕ) (f : ℕ → ℕ) → sum_below n (λ k. d * f k) ≡ d * sum_below n f
sum_times zero d f = sym (mul-zero d)
sum_times (suc n) d f = omega (arith, sum_times n d f, mul-add d (sum_below n f) (f n))

-- a double sum, taken the other way round
pub sum_swap : (n m : ℕ) (f : ℕ → ℕ → ℕ) → sum_below n (λ i. sum_below m (λ j. f i j)) ≡ sum_below m (λ j. sum_below n (λ i. f i j))
sum_swap zero m f = sym (sum_zero m (λ j. 0) (λ k l. refl))
sum_swap (suc n) m f = let e = sum_swap n m f in omega (arith, sum_add m (λ j. sum_below n (λ i. f i j)) (λ j. f n j))

-- a sum of which one term counts
pub sum_one : (n x : ℕ) (f : ℕ → ℕ) → x < n → sum_below n (λ k. cond (eqb k x) (f k) 0) ≡ f x
sum_one zero x f l = omega arith
sum_one (suc n) x f l = elim (cases_eq n x) [ inl e ↦ here e | inr d ↦ there (sum_one n x f) d ]
  where
    here : n ≡ x → sum_below (suc n) (λ k. cond (eqb k x) (f k) 0) ≡ f x
    here e =
        let rest : sum_below n (λ k. cond (eqb k x) (f k) 0) ≡ 0 = sum_zero n _ (λ k l. cond-false _ _ _ (ne_eqb k x (omega arith))) in
        let top : cond (eqb n x) (f n) 0 ≡ f x = cond-true _ _ _ (eq-eqb n x e) ∙ ap f e in
        omega arith

    there : (x < n → sum_below n (λ k. cond (eqb k x) (f k) 0) ≡ f x) → n ≢ x → sum_below (suc n) (λ k. cond (eqb k x) (f k) 0) ≡ f x
    there before d =
        let top : cond (eqb n x) (f n) 0 ≡ 0 = cond-false _ _ _ (ne_eqb n x d) in
        omega (arith, before (omega arith))

-- a test that every term of a sum has
pub sum_cond : (n : ℕ) (b : Bool) (f : ℕ → ℕ) → cond b (sum_below n f) 0 ≡ sum_below n (λ k. cond b (f k) 0)
sum_cond n true f = refl
sum_cond n false f = sym (sum_zero n (λ k. 0) (λ k l. refl))
