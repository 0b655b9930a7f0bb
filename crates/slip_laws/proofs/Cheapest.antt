-- The mates of a priced slip that passes cost no more than any pairing.
use Rattle.std.proofs.Common.{◌≡◌, ℕ, zero, suc, ◌+◌, ◌*◌, ◌<◌, ◌≤◌, Bool, true, false, cond, ◌&&◌, ℤ, pos, ◌+ℤ◌, ◌-ℤ◌, ◌≤ℤ◌, ◌∙◌, mul-le-mul_right, arith}
use borrow.Author.Differences.{up, down}
use Rattle.std.proofs.lemmas.Int.{ints}
use Rattle.ranges.specs.Sums.{sum_below, count_below}
use Rattle.ranges.proofs.Sums.{sum_cong, sum_le, sum_swap, sum_cond}
use Rattle.slips.specs.Problem.{Problem, Live, pence, Pairing, leads, sum_pairs, pairing_cost}
use Rattle.slips.specs.View.{View, mate, price, worth}
use Rattle.slips.specs.Groups.{inside, splits, between}
use Rattle.slip_laws.proofs.Mates.{sum_live, halves, pairs_le, pairs_cong, pairs_add, crossed}
use Rattle.slip_laws.proofs.Passing.{Passes}

-- a count times a number
sum_count : (n w : ℕ) (a b : ℕ → Bool) → sum_below n (λ u. cond (a u) (cond (b u) w 0) 0) ≡ count_below n (λ u. a u && b u) * w
sum_count zero w a b = omega arith
sum_count (suc n) w a b = let h = sum_count n w a b in omega (arith, h, go (a n) (b n))
  where
    go : (x y : Bool) → cond x (cond y w 0) 0 ≡ cond (x && y) 1 0 * w
    go true true = omega arith
    go true false = omega arith
    go false y = omega arith

module _ (p : Problem) (s : View) where
  -- how many pairs have one end in group h
  crossings : (ℕ → ℕ) → ℕ → ℕ
  crossings m h = count_below p.size (λ u. leads p m u && splits (inside s h) u (m u))

  -- the prices between mates, group by group
  by_group : (m : ℕ → ℕ) → sum_pairs p m (between s) ≡ sum_below s.count (λ k. crossings m (suc k) * worth s (suc k))
  unfolding crossings
  by_group m =
      sum_cong p.size _ _ (λ u l. sum_cond s.count (leads p m u) (λ k. cond (splits (inside s (suc k)) u (m u)) (worth s (suc k)) 0))
      ∙ (sum_swap p.size s.count (λ u k. cond (leads p m u) (cond (splits (inside s (suc k)) u (m u)) (worth s (suc k)) 0) 0)
      ∙ sum_cong s.count _ _ (λ k l. sum_count p.size (worth s (suc k)) (leads p m) (λ u. splits (inside s (suc k)) u (m u))))

-- a margin over natural numbers: a price is `up` less `down`
pub margin_least : (c w : ℕ) (a b : ℤ) → pos 0 ≤ℤ (pos (2 * c) -ℤ (a +ℤ b +ℤ pos w)) → (up a + up b) + w ≤ 2 * c + (down a + down b)
margin_least c w a b h = omega (arith, ints)

margin_none : (c w : ℕ) (a b : ℤ) → (pos (2 * c) -ℤ (a +ℤ b +ℤ pos w)) ≡ pos 0 → (up a + up b) + w ≡ 2 * c + (down a + down b)
margin_none c w a b h = omega (arith, ints)

module _ (p : Problem) (s : View) (ok : Passes p s) where
  unfoldable pub rises : ℕ → ℕ
  rises u = up (price s u)

  unfoldable pub falls : ℕ → ℕ
  falls u = down (price s u)

  -- all group prices
  unfoldable pub worths : ℕ
  worths = sum_below s.count (λ k. worth s (suc k))

  -- what the margins of a pairing's pairs add up to
  module _ (m : ℕ → ℕ) (q : Pairing p m) where
    left_side : sum_pairs p m (λ u v. (rises u + rises v) + between s u v) ≡ sum_live p rises + sum_pairs p m (between s)
    left_side =
        let a = pairs_add p m q (λ u v. rises u + rises v) (between s) in
        let b = halves p m q rises in
        omega (arith, a, b)

    right_side : sum_pairs p m (λ u v. 2 * pence p u v + (falls u + falls v)) ≡ 2 * pairing_cost p m + sum_live p falls
    right_side =
        let a = pairs_add p m q (λ u v. 2 * pence p u v) (λ u v. falls u + falls v) in
        let b = halves p m q falls in
        let c = pairs_add p m q (pence p) (pence p) in
        let d = pairs_cong p m q (λ u v. 2 * pence p u v) (λ u v. pence p u v + pence p u v) (λ u l k. omega arith) in
        omega (arith, a, b, c, d)

    -- every group is left by a pair
    all_worths : worths ≤ sum_pairs p m (between s)
    unfolding worths crossings
    all_worths = rw (by_group p s m) (sum_le s.count _ _ (λ k l.
        let one = crossed p m q (inside s (suc k)) (ok.odd k l) in
        omega (arith, mul-le-mul_right (worth s (suc k)) one)))

    each_least : (u : ℕ) → Live p u → u < m u → (rises u + rises (m u)) + between s u (m u) ≤ 2 * pence p u (m u) + (falls u + falls (m u))
    unfolding rises falls
    each_least u l k = margin_least (pence p u (m u)) (between s u (m u)) (price s u) (price s (m u)) (ok.margins u (m u) l (q.lives u l) k (q.allowed u l))

    bounded : sum_live p rises + worths ≤ 2 * pairing_cost p m + sum_live p falls
    bounded =
        let a = pairs_le p m q (λ u v. (rises u + rises v) + between s u v) (λ u v. 2 * pence p u v + (falls u + falls v)) each_least in
        let b = left_side in
        let c = right_side in
        let d = all_worths in
        omega (arith, a, b, c, d)

  -- every group is left by one pair of mates
  reached_worths : worths ≡ sum_pairs p (mate s) (between s)
  unfolding worths crossings
  reached_worths = rw (by_group p s (mate s)) (sum_cong s.count _ _ (λ k l.
      let one = ok.once k l in
      rw one (omega arith)))

  each_none : (u : ℕ) → Live p u → u < mate s u → (rises u + rises (mate s u)) + between s u (mate s u) ≡ 2 * pence p u (mate s u) + (falls u + falls (mate s u))
  unfolding rises falls
  each_none u l k = margin_none (pence p u (mate s u)) (between s u (mate s u)) (price s u) (price s (mate s u)) (ok.tight u l k)

  pub reached : sum_live p rises + worths ≡ 2 * pairing_cost p (mate s) + sum_live p falls
  reached =
      let q = ok.mates in
      let a = pairs_cong p (mate s) q (λ u v. (rises u + rises v) + between s u v) (λ u v. 2 * pence p u v + (falls u + falls v)) each_none in
      let b = left_side (mate s) q in
      let c = right_side (mate s) q in
      let d = reached_worths in
      omega (arith, a, b, c, d)

pub cheapest : (p : Problem) (s : View) → Passes p s → (m : ℕ → ℕ) → Pairing p m → pairing_cost p (mate s) ≤ pairing_cost p m
cheapest p s ok m q = omega (arith, reached p s ok, bounded p s ok m q)
