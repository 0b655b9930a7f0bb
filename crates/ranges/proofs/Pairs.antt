-- Laws of sums over the pairs of numbers below a bound, each pair taken once, as lower and higher number.
use Rattle.std.proofs.Common.{◌≡◌, ℕ, ◌+◌, ◌*◌, ◌<◌, ◌≤◌, Bool, true, false, cond, ltb, sym, refl, ap, ◌∙◌, ⊎_elim, mul-zero, arith}
use Rattle.std.proofs.lemmas.Bool.{ltb-true, cases_eq}
use Rattle.std.proofs.lemmas.Bool.Decides.{nat_tests}
use Rattle.ranges.specs.Sums.{sum_below}
use Rattle.ranges.proofs.Sums.{sum_cong, sum_le, sum_add, sum_times, sum_swap, sum_cond}

-- f u v summed over all u and v below n with u < v
abbrev pub sum_ordered : ℕ → (ℕ → ℕ → ℕ) → ℕ
sum_ordered n f = sum_below n (λ u. sum_below n (λ v. cond (ltb u v) (f u v) 0))

cond_add : (b : Bool) (x y : ℕ) → cond b (x + y) 0 ≡ cond b x 0 + cond b y 0
cond_add true x y = refl
cond_add false x y = refl

cond_times : (b : Bool) (w x : ℕ) → cond b (w * x) 0 ≡ w * cond b x 0
cond_times true w x = refl
cond_times false w x = sym (mul-zero w)

module _ (n : ℕ) (f g : ℕ → ℕ → ℕ) where
  pub ordered_le : ((u v : ℕ) → u < v → f u v ≤ g u v) → sum_ordered n f ≤ sum_ordered n g
  ordered_le h = sum_le n _ _ (λ u k. sum_le n _ _ (λ v l. go u v (ltb u v) refl))
    where
      go : (u v : ℕ) → (t : Bool) → ltb u v ≡ t → cond t (f u v) 0 ≤ cond t (g u v) 0
      go u v true e = h u v (ltb-true u v e)
      go u v false e = omega arith

  pub ordered_cong : ((u v : ℕ) → f u v ≡ g u v) → sum_ordered n f ≡ sum_ordered n g
  ordered_cong h = sum_cong n _ _ (λ u k. sum_cong n _ _ (λ v l. ap (λ x. cond (ltb u v) x 0) (h u v)))

  pub ordered_add : sum_ordered n (λ u v. f u v + g u v) ≡ sum_ordered n f + sum_ordered n g
  ordered_add =
      sum_cong n _ _ (λ u k. sum_cong n _ _ (λ v l. cond_add (ltb u v) (f u v) (g u v)) ∙ sum_add n (λ v. cond (ltb u v) (f u v) 0) (λ v. cond (ltb u v) (g u v) 0))
      ∙ sum_add n (λ u. sum_below n (λ v. cond (ltb u v) (f u v) 0)) (λ u. sum_below n (λ v. cond (ltb u v) (g u v) 0))

-- a factor that every term has
pub ordered_times : (n w : ℕ) (f : ℕ → ℕ → ℕ) → sum_ordered n (λ u v. w * f u v) ≡ w * sum_ordered n f
ordered_times n w f =
    sum_cong n _ _ (λ u k. sum_cong n _ _ (λ v l. cond_times (ltb u v) w (f u v)) ∙ sum_times n w (λ v. cond (ltb u v) (f u v) 0))
    ∙ sum_times n w (λ u. sum_below n (λ v. cond (ltb u v) (f u v) 0))

-- terms that are sums themselves
pub ordered_swap : (n m : ℕ) (h : ℕ → ℕ → ℕ → ℕ) → sum_ordered n (λ u v. sum_below m (λ j. h j u v)) ≡ sum_below m (λ j. sum_ordered n (h j))
ordered_swap n m h =
    sum_cong n _ _ (λ u k. sum_cong n _ _ (λ v l. sum_cond m (ltb u v) (λ j. h j u v)) ∙ sum_swap n m (λ v j. cond (ltb u v) (h j u v) 0))
    ∙ sum_swap n m (λ u j. sum_below n (λ v. cond (ltb u v) (h j u v) 0))

-- a term is that of a lower and a higher number, or of a higher and a lower one
lower_or_higher : (u v a : ℕ) → (u ≡ v → a ≡ 0) → a ≡ cond (ltb u v) a 0 + cond (ltb v u) a 0
lower_or_higher u v a z = ⊎_elim (λ (e : u ≡ v). let q = z e in grind (arith, nat_tests)) (λ (d : u ≡ v → ⊥). grind (arith, nat_tests)) (cases_eq u v)

-- a double sum without equal numbers, pair by pair
pub sum_halves : (n : ℕ) (f : ℕ → ℕ → ℕ) → ((u : ℕ) → f u u ≡ 0) → sum_below n (λ u. sum_below n (λ v. f u v)) ≡ sum_ordered n (λ u v. f u v + f v u)
sum_halves n f alone =
    let low : ℕ → ℕ → ℕ = λ u v. cond (ltb u v) (f u v) 0 in
    let high : ℕ → ℕ → ℕ = λ u v. cond (ltb v u) (f u v) 0 in
    let a = sum_cong n (λ u. sum_below n (λ v. f u v)) (λ u. sum_below n (low u) + sum_below n (high u))
    (λ u k. sum_cong n (f u) (λ v. low u v + high u v) (λ v l. lower_or_higher u v (f u v) (λ e. ap (f u) (sym e) ∙ alone u)) ∙ sum_add n (low u) (high u)) in
    let b = sum_add n (λ u. sum_below n (low u)) (λ u. sum_below n (high u)) in
    let c = sum_swap n n high in
    let d = ordered_add n f (λ u v. f v u) in
    omega (arith, a, b, c, d)
