-- Where more parts are odd than pieces are cut there is no pairing.
use Rattle.std.proofs.Common.{◌≡◌, ℕ, zero, suc, ◌+◌, ◌*◌, ◌%◌, ◌<◌, ◌≤◌, Bool, true, false, cond, ◌&&◌, eqb, ltb, leb, ◌≢◌, is_some, sym, refl, ap, ◌∙◌, arith}
use Rattle.std.proofs.lemmas.Bool.Decides.{nat_tests}
use Rattle.std.proofs.lemmas.Bool.{eqb-true, ltb-true, ltb-false}
use Rattle.ranges.specs.Sums.{sum_below}
use Rattle.ranges.proofs.Sums.{sum_cong, sum_le, sum_zero, sum_add, sum_swap}
use Rattle.slips.specs.Problem.{Problem, Live, Allowed, Pairing, sum_pairs}
use Rattle.slips.specs.Gaps.{part_size, odd_parts, Separated}
use Rattle.slip_laws.proofs.Mates.{sum_live, live_count, halves, sum_mates, pairs_cong, pairs_add}

-- a number is one of those from 1 to k once at most
few : (k x : ℕ) (c : Bool) → sum_below k (λ i. cond (eqb x (suc i) && c) 1 0) ≤ cond (leb x k && c) 1 0
few zero x c = omega arith
few (suc k) x true = let e = few k x true in grind (arith, nat_tests)
few (suc k) x false = let e = few k x false in grind (arith, nat_tests)

module _ (p : Problem) (m : ℕ → ℕ) (q : Pairing p m) where
  -- pieces that come with their mates are even in number
  twofold : (f : ℕ → ℕ) → ((u : ℕ) → Live p u → f (m u) ≡ f u) → sum_live p f ≡ 2 * sum_pairs p m (λ u v. f u)
  twofold f h =
      let a = halves p m q f in
      let b = pairs_cong p m q (λ u v. f u + f v) (λ u v. f u + f u) (λ u l k. ap (λ x. f u + x) (h u l)) in
      let c = pairs_add p m q (λ u v. f u) (λ u v. f u) in
      omega (arith, a, b, c)

  module _ (part : ℕ → ℕ) (together : (u : ℕ) → Live p u → part u ≢ 0 → part (m u) ≢ 0 → part u ≡ part (m u)) where
    -- u and its mate are in part j
    stays : ℕ → ℕ → ℕ
    stays j u = cond (eqb (part u) j && eqb (part (m u)) j) 1 0

    -- u is in part j, and its mate is cut
    leaves : ℕ → ℕ → ℕ
    leaves j u = cond (eqb (part u) j && eqb (part (m u)) 0) 1 0

    stays_mate : (j u : ℕ) → Live p u → stays j (m u) ≡ stays j u
    unfolding stays
    stays_mate j u l = rw (q.back u l) (swapped (eqb (part (m u)) j) (eqb (part u) j))
      where
        swapped : (x y : Bool) → ◌≡◌ {A = ℕ} (cond (x && y) 1 0) (cond (y && x) 1 0)
        swapped x y = grind arith

    stays_or_leaves : (i u : ℕ) → u < p.size → (b : Bool) → p.live u ≡ b
        → cond (b && eqb (part u) (suc i)) 1 0 ≡ cond b (stays (suc i) u) 0 + cond b (leaves (suc i) u) 0
    unfolding stays leaves
    stays_or_leaves i u l true e =
        let h = together u (record { below = l; marked = e }) in
        grind (arith, nat_tests)
    stays_or_leaves i u l false e = refl

    -- an odd part has a piece whose mate is cut
    some_leaves : (i : ℕ) → part_size p part (suc i) % 2 ≡ 1 → 1 ≤ sum_live p (leaves (suc i))
    some_leaves i odd =
        let a = sum_cong p.size (λ u. cond (p.live u && eqb (part u) (suc i)) 1 0) (λ u. cond (p.live u) (stays (suc i) u) 0 + cond (p.live u) (leaves (suc i) u) 0) (λ u l. stays_or_leaves i u l (p.live u) refl) in
        let b = sum_add p.size (λ u. cond (p.live u) (stays (suc i) u) 0) (λ u. cond (p.live u) (leaves (suc i) u) 0) in
        let c = twofold (stays (suc i)) (stays_mate (suc i)) in
        omega (arith, a, b, c, odd)

    odd_leaves : (i : ℕ) (b : Bool) → eqb (part_size p part (suc i) % 2) 1 ≡ b → cond b 1 0 ≤ sum_live p (leaves (suc i))
    odd_leaves i true e = some_leaves i (eqb-true _ 1 e)
    odd_leaves i false e = omega arith

    -- u's mate is cut
    freed : ℕ → ℕ
    freed u = cond (eqb (part (m u)) 0) 1 0

    leaves_once : (k u : ℕ) (b : Bool) → sum_below k (λ i. cond b (leaves (suc i) u) 0) ≤ cond b (freed u) 0
    unfolding leaves freed
    leaves_once k u true = let f = few k (part u) (eqb (part (m u)) 0) in grind (arith, nat_tests)
    leaves_once k u false = omega (arith, sum_zero k (λ i. 0) (λ i l. refl))

    -- each odd part frees a piece of the cut
    odd_parts_few : (k : ℕ) → odd_parts p part k ≤ part_size p part 0
    unfolding freed
    odd_parts_few k =
        let a = sum_le k (λ i. cond (eqb (part_size p part (suc i) % 2) 1) 1 0) (λ i. sum_live p (leaves (suc i))) (λ i l. odd_leaves i _ refl) in
        let b = sum_swap k p.size (λ i u. cond (p.live u) (leaves (suc i) u) 0) in
        let c = sum_le p.size (λ u. sum_below k (λ i. cond (p.live u) (leaves (suc i) u) 0)) (λ u. cond (p.live u) (freed u) 0) (λ u l. leaves_once k u (p.live u)) in
        let d = sum_mates p m q (λ u. cond (eqb (part u) 0) 1 0) in
        let e = live_count p (λ u. eqb (part u) 0) in
        omega (arith, a, b, c, d, e)

-- mates that are not cut are in one part, whichever of them is lower
in_one_part : (p : Problem) (part : ℕ → ℕ) (k : ℕ) → ((u v : ℕ) → p.cost u v ≡ p.cost v u) → Separated p part k
    → (u v : ℕ) → Live p u → Live p v → v ≢ u → Allowed p u v → (b : Bool) → ltb u v ≡ b → part u ≢ 0 → part v ≢ 0 → part u ≡ part v
in_one_part p part k either s u v lu lv d a true e x y = s.apart u v lu lv (ltb-true u v e) a x y
in_one_part p part k either s u v lu lv d a false e x y =
    let below : v < u = omega (arith, ltb-false u v e) in
    sym (s.apart v u lv lu below (ap is_some (either v u) ∙ a) y x)

pub gap_barren : (p : Problem) (part : ℕ → ℕ) (k : ℕ) → ((u v : ℕ) → p.cost u v ≡ p.cost v u) → Separated p part k → (m : ℕ → ℕ) → Pairing p m → ⊥
gap_barren p part k either s m q =
    let together = λ (u : ℕ) (l : Live p u). in_one_part p part k either s u (m u) l (q.lives u l) (q.other u l) (q.allowed u l) (ltb u (m u)) refl in
    omega (arith, odd_parts_few p m q part together k, s.more)
