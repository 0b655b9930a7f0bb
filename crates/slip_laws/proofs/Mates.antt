-- What a pairing does to sums over the live pieces: a piece may stand for its mate, and pairs for their two pieces.
use Rattle.std.proofs.Common.{◌≡◌, ℕ, ◌+◌, ◌*◌, ◌%◌, ◌<◌, ◌≤◌, Bool, true, false, cond, not, ◌&&◌, eqb, ltb, sym, refl, ◌∙◌, arith}
use Rattle.std.proofs.lemmas.Bool.Decides.{nat_tests}
use Rattle.std.proofs.lemmas.Bool.{ltb-true}
use Rattle.ranges.specs.Sums.{sum_below, count_below}
use Rattle.ranges.proofs.Sums.{sum_cong, sum_le, sum_zero, sum_add, sum_twice, sum_swap, sum_one}
use Rattle.slips.specs.Problem.{Problem, Live, Pairing, leads, sum_pairs}
use Rattle.slips.specs.Groups.{splits}
use Rattle.slips.specs.System.{live_in}

-- f summed over the live pieces
abbrev pub sum_live : Problem → (ℕ → ℕ) → ℕ
sum_live p f = sum_below p.size (λ u. cond (p.live u) (f u) 0)

-- how many live pieces a set has, as such a sum
pub live_count : (p : Problem) (set : ℕ → Bool) → live_in p set ≡ sum_live p (λ u. cond (set u) 1 0)
live_count p set = sum_cong p.size _ _ (λ u l. nested (p.live u) (set u))
  where
    nested : (x y : Bool) → ◌≡◌ {A = ℕ} (cond (x && y) 1 0) (cond x (cond y 1 0) 0)
    nested true y = refl
    nested false y = refl

module _ (p : Problem) (m : ℕ → ℕ) (q : Pairing p m) where
  -- what stands at u's mate, as a sum over all places
  spread : (f : ℕ → ℕ) (u : ℕ) → u < p.size → (b : Bool) → p.live u ≡ b
      → cond b (f (m u)) 0 ≡ sum_below p.size (λ v. cond b (cond (eqb v (m u)) (f v) 0) 0)
  spread f u l true e = sym (sum_one p.size (m u) f (q.lives u (record { below = l; marked = e })).below)
  spread f u l false e = sym (sum_zero p.size _ (λ v k. refl))

  -- v is u's mate just where u is v's
  same_place : (f : ℕ → ℕ) (v : ℕ) → Live p v → (u : ℕ) → u < p.size → (b : Bool) → p.live u ≡ b
      → cond b (cond (eqb v (m u)) (f v) 0) 0 ≡ cond (eqb u (m v)) (f v) 0
  same_place f v lv u l true e =
      let lu : Live p u = record { below = l; marked = e } in
      let bu = q.back u lu in
      let bv = q.back v lv in
      grind (arith, nat_tests)
  same_place f v lv u l false e =
      let mv = (q.lives v lv).marked in
      grind (arith, nat_tests)

  -- a piece that is not live is nobody's mate
  no_place : (f : ℕ → ℕ) (v : ℕ) → p.live v ≡ false → (u : ℕ) → u < p.size → (b : Bool) → p.live u ≡ b
      → cond b (cond (eqb v (m u)) (f v) 0) 0 ≡ 0
  no_place f v d u l true e =
      let mu = (q.lives u (record { below = l; marked = e })).marked in
      grind (arith, nat_tests)
  no_place f v d u l false e = refl

  gather : (f : ℕ → ℕ) (v : ℕ) → v < p.size → (b : Bool) → p.live v ≡ b
      → sum_below p.size (λ u. cond (p.live u) (cond (eqb v (m u)) (f v) 0) 0) ≡ cond b (f v) 0
  gather f v l true e =
      let lv : Live p v = record { below = l; marked = e } in
      sum_cong p.size _ _ (λ u k. same_place f v lv u k (p.live u) refl)
      ∙ sum_one p.size (m v) (λ _. f v) (q.lives v lv).below
  gather f v l false e = sum_zero p.size _ (λ u k. no_place f v e u k (p.live u) refl)

  -- a sum over the mates of the live pieces is a sum over the live pieces
  pub sum_mates : (f : ℕ → ℕ) → sum_live p (λ u. f (m u)) ≡ sum_live p f
  sum_mates f =
      sum_cong p.size _ _ (λ u l. spread f u l (p.live u) refl)
      ∙ (sum_swap p.size p.size (λ u v. cond (p.live u) (cond (eqb v (m u)) (f v) 0) 0)
      ∙ sum_cong p.size _ _ (λ v l. gather f v l (p.live v) refl))

  -- a live piece is the lower or the higher one of its pair
  low_or_high : (f : ℕ → ℕ) (u : ℕ) → u < p.size → (b : Bool) → p.live u ≡ b
      → cond b (f u) 0 ≡ cond b (cond (ltb u (m u)) (f u) 0) 0 + cond b (cond (ltb (m u) u) (f u) 0) 0
  low_or_high f u l true e =
      let d = q.other u (record { below = l; marked = e }) in
      grind (arith, nat_tests)
  low_or_high f u l false e = refl

  -- the lower piece, and the mate where that is the higher one
  as_pair : (f : ℕ → ℕ) (u : ℕ) → u < p.size → (b : Bool) → p.live u ≡ b
      → cond b (cond (ltb u (m u)) (f u) 0) 0 + cond b (cond (ltb (m (m u)) (m u)) (f (m u)) 0) 0 ≡ cond (b && ltb u (m u)) (f u + f (m u)) 0
  as_pair f u l true e =
      let d = q.back u (record { below = l; marked = e }) in
      rw d (grind (arith, nat_tests))
  as_pair f u l false e = refl

  -- a sum over the live pieces, taken pair by pair
  pub halves : (f : ℕ → ℕ) → sum_live p f ≡ sum_pairs p m (λ u v. f u + f v)
  halves f =
      let low : ℕ → ℕ = λ u. cond (ltb u (m u)) (f u) 0 in
      let high : ℕ → ℕ = λ u. cond (ltb (m u) u) (f u) 0 in
      let a = sum_cong p.size (λ u. cond (p.live u) (f u) 0) (λ u. cond (p.live u) (low u) 0 + cond (p.live u) (high u) 0) (λ u l. low_or_high f u l (p.live u) refl) in
      let b = sum_add p.size (λ u. cond (p.live u) (low u) 0) (λ u. cond (p.live u) (high u) 0) in
      let c = sum_mates high in
      let d = sum_add p.size (λ u. cond (p.live u) (low u) 0) (λ u. cond (p.live u) (high (m u)) 0) in
      let e = sum_cong p.size (λ u. cond (p.live u) (low u) 0 + cond (p.live u) (high (m u)) 0) (λ u. cond (leads p m u) (f u + f (m u)) 0) (λ u l. as_pair f u l (p.live u) refl) in
      omega (arith, a, b, c, d, e)

  -- sums over pairs, term by term
  module _ (f g : ℕ → ℕ → ℕ) where
    pub pairs_le : ((u : ℕ) → Live p u → u < m u → f u (m u) ≤ g u (m u)) → sum_pairs p m f ≤ sum_pairs p m g
    pairs_le h = sum_le p.size _ _ (λ u l. go u l (p.live u) refl (ltb u (m u)) refl)
      where
        go : (u : ℕ) → u < p.size → (b : Bool) → p.live u ≡ b → (t : Bool) → ltb u (m u) ≡ t → cond (b && t) (f u (m u)) 0 ≤ cond (b && t) (g u (m u)) 0
        go u l true e true d = h u (record { below = l; marked = e }) (ltb-true u (m u) d)
        go u l true e false d = omega arith
        go u l false e t d = omega arith

    pub pairs_cong : ((u : ℕ) → Live p u → u < m u → f u (m u) ≡ g u (m u)) → sum_pairs p m f ≡ sum_pairs p m g
    pairs_cong h = sum_cong p.size _ _ (λ u l. go u l (p.live u) refl (ltb u (m u)) refl)
      where
        go : (u : ℕ) → u < p.size → (b : Bool) → p.live u ≡ b → (t : Bool) → ltb u (m u) ≡ t → cond (b && t) (f u (m u)) 0 ≡ cond (b && t) (g u (m u)) 0
        go u l true e true d = h u (record { below = l; marked = e }) (ltb-true u (m u) d)
        go u l true e false d = refl
        go u l false e t d = refl

    pub pairs_add : sum_pairs p m (λ u v. f u v + g u v) ≡ sum_pairs p m f + sum_pairs p m g
    pairs_add =
        sum_cong p.size _ _ (λ u l. go (leads p m u) (f u (m u)) (g u (m u)))
        ∙ sum_add p.size (λ u. cond (leads p m u) (f u (m u)) 0) (λ u. cond (leads p m u) (g u (m u)) 0)
      where
        go : (b : Bool) (x y : ℕ) → cond b (x + y) 0 ≡ cond b x 0 + cond b y 0
        go true x y = refl
        go false x y = refl

  -- a set of live pieces that is odd in number is left by a pair
  pub crossed : (set : ℕ → Bool) → live_in p set % 2 ≡ 1 → 1 ≤ count_below p.size (λ u. leads p m u && splits set u (m u))
  crossed set odd =
      let one : ℕ → ℕ = λ u. cond (set u) 1 0 in
      let left : ℕ → ℕ = λ u. cond (leads p m u && splits set u (m u)) 1 0 in
      let both : ℕ → ℕ = λ u. cond (leads p m u && (set u && set (m u))) 1 0 in
      let a = live_count p set in
      let b = halves one in
      let c = sum_cong p.size (λ u. cond (leads p m u) (one u + one (m u)) 0) (λ u. left u + 2 * both u) (λ u l. split (leads p m u) (set u) (set (m u))) in
      let d = sum_add p.size left (λ u. 2 * both u) in
      let e = sum_twice p.size both in
      omega (arith, a, b, c, d, e)
    where
      -- of a pair, one piece is in the set, or both, or none
      split : (x y z : Bool) → cond x (cond y 1 0 + cond z 1 0) 0 ≡ cond (x && cond y (not z) z) 1 0 + 2 * cond (x && (y && z)) 1 0
      split x y z = grind (arith, nat_tests)
