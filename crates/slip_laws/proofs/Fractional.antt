-- The mates of a priced slip that passes cost no more than the shares of any solution of the linear system.
use Rattle.std.proofs.Common.{◌≡◌, ℕ, suc, ◌+◌, ◌*◌, ◌<◌, ◌≤◌, Bool, true, false, cond, ◌&&◌, ltb, ◌≢◌, ℤ, pos, negsuc, ◌*ℤ◌, ◌≤ℤ◌, is_some, None, sym, refl, ap, ◌∙◌, ⊎_elim, mul_comm, mul-le-mul_left, mul-zero, mul-add, mul_left_comm, arith}
use borrow.Author.Differences.{up, down}
use Rattle.std.proofs.lemmas.Int.{ints}
use Rattle.std.proofs.lemmas.Bool.{both_ways, cases_eq}
use Rattle.ranges.specs.Sums.{sum_below}
use Rattle.ranges.proofs.Sums.{sum_cong, sum_le, sum_zero, sum_times}
use Rattle.ranges.proofs.Pairs.{sum_ordered, ordered_le, ordered_cong, ordered_add, ordered_times, ordered_swap, sum_halves}
use Rattle.slips.specs.Problem.{Problem, Live, pence, pairing_cost}
use Rattle.slips.specs.View.{View, mate, price, whole, worth}
use Rattle.slips.specs.Groups.{inside, splits, between}
use Rattle.slips.specs.System.{sum_int_below, OddSet, crossing, share_cost, Shares}
use Rattle.slip_laws.proofs.Mates.{sum_live}
use Rattle.slip_laws.proofs.Passing.{Passes}
use Rattle.slip_laws.proofs.Cheapest.{margin_least, rises, falls, worths, reached}
use Rattle.slip_laws.proofs.Shares.{sum_int_natural}

-- a number that is not negative, as a natural number
whole_is : (z : ℤ) → pos 0 ≤ℤ z → z ≡ pos (whole z)
whole_is (pos n) h = refl
whole_is (negsuc n) h = absurd h.le

kept_natural : (b : Bool) (z : ℤ) (n : ℕ) → z ≡ pos n → cond b z (pos 0) ≡ pos (cond b n 0)
kept_natural true z n e = e
kept_natural false z n e = refl

both_natural : (a b : Bool) (z : ℤ) (n : ℕ) → z ≡ pos n → cond (a && b) z (pos 0) ≡ pos (cond a (cond b n 0) 0)
both_natural true b z n e = kept_natural b z n e
both_natural false b z n e = refl

cost_natural : (b : Bool) (z : ℤ) (n c : ℕ) → z ≡ pos n → cond b (z *ℤ pos c) (pos 0) ≡ pos (cond b (n * c) 0)
cost_natural b z n c e = kept_natural b (z *ℤ pos c) (n * c) (ap (λ y. y *ℤ pos c) e)

as_naturals : (d n : ℕ) (z : ℤ) → z ≡ pos n → pos d ≤ℤ z → d ≤ n
as_naturals d n z e h = omega (arith, ints)

as_integers : (d n : ℕ) (z : ℤ) → z ≡ pos n → d ≤ n → pos d ≤ℤ z
as_integers d n z e h = omega (arith, ints)

-- a share of two prices, one for each end
two_ends : (n m a b : ℕ) → n ≡ m → n * (a + b) ≡ a * n + b * m
two_ends n m a b e = rw (← e) (omega (arith, mul-add n a b, mul_comm n a, mul_comm n b))

moved : (b : Bool) (n w : ℕ) → n * cond b w 0 ≡ w * cond b n 0
moved true n w = mul_comm n w
moved false n w = mul-zero n ∙ sym (mul-zero w)

-- n times each side of a bound that holds where n is not 0
weighed : (n a w c b : ℕ) → (n ≢ 0 → a + w ≤ 2 * c + b) → n * a + n * w ≤ 2 * (n * c) + n * b
weighed n a w c b h =
    ⊎_elim
    (λ (e : n ≡ 0). rw e (omega arith))
    (λ (d : n ≡ 0 → ⊥). omega (arith, mul-le-mul_left n (h d), mul-add n a w, mul-add n (2 * c) b, mul_left_comm n 2 c))
    (cases_eq n 0)

-- the share of two pieces, as a natural number
abbrev part : (ℕ → ℕ → ℤ) → ℕ → ℕ → ℕ
part x u v = whole (x u v)

module _ (p : Problem) (same : (u : ℕ) → p.cost u u ≡ None) (d : ℕ) (x : ℕ → ℕ → ℤ) (shares : Shares p d x) where
  natural : (u v : ℕ) → x u v ≡ pos (part x u v)
  natural u v = whole_is (x u v) (shares.not_negative u v)

  some : (u v : ℕ) → part x u v ≢ 0 → x u v ≢ pos 0
  some u v h e = h (ap whole e)

  -- a piece has no share with itself, and a struck piece has none
  alone : (u : ℕ) → part x u u ≡ 0
  alone u =
      ⊎_elim
      (λ (e : part x u u ≡ 0). e)
      (λ (n : part x u u ≡ 0 → ⊥). absurd (both_ways (is_some (p.cost u u)) (ap is_some (same u)) (shares.of_pairs u u (some u u n)).2))
      (cases_eq (part x u u) 0)

  struck : (u v : ℕ) → p.live u ≡ false → part x u v ≡ 0
  struck u v l =
      ⊎_elim
      (λ (e : part x u v ≡ 0). e)
      (λ (n : part x u v ≡ 0 → ⊥). absurd (both_ways (p.live u) l (shares.of_pairs u v (some u v n)).0.marked))
      (cases_eq (part x u v) 0)

  -- the shares of a live piece
  row : (u : ℕ) → Live p u → sum_below p.size (part x u) ≡ d
  row u l = ap whole (sym (sum_int_natural p.size (x u) (part x u) (λ v h. natural u v)) ∙ shares.each_once u l)

  row_times : (f : ℕ → ℕ) (u : ℕ) → u < p.size → (b : Bool) → p.live u ≡ b → sum_below p.size (λ v. f u * part x u v) ≡ d * cond b (f u) 0
  row_times f u h true e = sum_times p.size (f u) (part x u) ∙ (ap (λ y. f u * y) (row u (record { below = h; marked = e })) ∙ mul_comm (f u) d)
  row_times f u h false e = sum_zero p.size (λ v. f u * part x u v) (λ v k. ap (λ y. f u * y) (struck u v e) ∙ mul-zero (f u)) ∙ sym (mul-zero d)

  -- the ends of all pairs by their shares are the live pieces, d times
  ends : (f : ℕ → ℕ) → sum_ordered p.size (λ u v. part x u v * (f u + f v)) ≡ d * sum_live p f
  ends f =
      ordered_cong p.size (λ u v. part x u v * (f u + f v)) (λ u v. f u * part x u v + f v * part x v u)
      (λ u v. two_ends (part x u v) (part x v u) (f u) (f v) (ap whole (shares.either_order u v)))
      ∙ (sym (sum_halves p.size (λ u v. f u * part x u v) (λ u. ap (λ y. f u * y) (alone u) ∙ mul-zero (f u)))
      ∙ (sum_cong p.size (λ u. sum_below p.size (λ v. f u * part x u v)) (λ u. d * cond (p.live u) (f u) 0) (λ u h. row_times f u h (p.live u) refl)
      ∙ sum_times p.size d (λ u. cond (p.live u) (f u) 0)))

  -- the shares that leave a set, and what shares cost, as natural numbers
  crossing_natural : (set : ℕ → Bool) → crossing p x set ≡ pos (sum_ordered p.size (λ u v. cond (splits set u v) (part x u v) 0))
  crossing_natural set =
      sum_int_natural p.size (λ u. sum_int_below p.size (λ v. cond (ltb u v && splits set u v) (x u v) (pos 0)))
      (λ u. sum_below p.size (λ v. cond (ltb u v) (cond (splits set u v) (part x u v) 0) 0))
      (λ u h. sum_int_natural p.size (λ v. cond (ltb u v && splits set u v) (x u v) (pos 0)) (λ v. cond (ltb u v) (cond (splits set u v) (part x u v) 0) 0)
      (λ v k. both_natural (ltb u v) (splits set u v) (x u v) (part x u v) (natural u v)))

  cost_is : share_cost p x ≡ pos (sum_ordered p.size (λ u v. part x u v * pence p u v))
  cost_is =
      sum_int_natural p.size (λ u. sum_int_below p.size (λ v. cond (ltb u v) (x u v *ℤ pos (pence p u v)) (pos 0)))
      (λ u. sum_below p.size (λ v. cond (ltb u v) (part x u v * pence p u v) 0))
      (λ u h. sum_int_natural p.size (λ v. cond (ltb u v) (x u v *ℤ pos (pence p u v)) (pos 0)) (λ v. cond (ltb u v) (part x u v * pence p u v) 0)
      (λ v k. cost_natural (ltb u v) (x u v) (part x u v) (pence p u v) (natural u v)))

  left_often : (set : ℕ → Bool) → OddSet p set → d ≤ sum_ordered p.size (λ u v. cond (splits set u v) (part x u v) 0)
  left_often set o = as_naturals d _ (crossing p x set) (crossing_natural set) (shares.odd_sets_left set o)

  module _ (s : View) (ok : Passes p s) (odd : (k : ℕ) → k < s.count → OddSet p (inside s (suc k))) where
    -- the prices between two pieces by their share, group by group
    spread : (u v : ℕ) → part x u v * between s u v ≡ sum_below s.count (λ k. worth s (suc k) * cond (splits (inside s (suc k)) u v) (part x u v) 0)
    spread u v =
        sym (sum_times s.count (part x u v) (λ k. cond (splits (inside s (suc k)) u v) (worth s (suc k)) 0))
        ∙ sum_cong s.count _ _ (λ k l. moved (splits (inside s (suc k)) u v) (part x u v) (worth s (suc k)))

    by_group : sum_ordered p.size (λ u v. part x u v * between s u v)
        ≡ sum_below s.count (λ k. worth s (suc k) * sum_ordered p.size (λ u v. cond (splits (inside s (suc k)) u v) (part x u v) 0))
    by_group =
        ordered_cong p.size (λ u v. part x u v * between s u v) (λ u v. sum_below s.count (λ k. worth s (suc k) * cond (splits (inside s (suc k)) u v) (part x u v) 0)) spread
        ∙ (ordered_swap p.size s.count (λ k u v. worth s (suc k) * cond (splits (inside s (suc k)) u v) (part x u v) 0)
        ∙ sum_cong s.count _ _ (λ k l. ordered_times p.size (worth s (suc k)) (λ u v. cond (splits (inside s (suc k)) u v) (part x u v) 0)))

    -- every group is left d times
    all_worths : d * worths p s ok ≤ sum_ordered p.size (λ u v. part x u v * between s u v)
    unfolding worths
    all_worths =
        rw (by_group, ← sum_times s.count d (λ k. worth s (suc k)))
        (sum_le s.count _ _ (λ k l. rw (mul_comm d (worth s (suc k))) (mul-le-mul_left (worth s (suc k)) (left_often (inside s (suc k)) (odd k l)))))

    -- no pair with a share has prices above twice its cost
    each_least : (u v : ℕ) → u < v
        → part x u v * (rises p s ok u + rises p s ok v) + part x u v * between s u v ≤ 2 * (part x u v * pence p u v) + part x u v * (falls p s ok u + falls p s ok v)
    unfolding rises falls
    each_least u v h =
        weighed (part x u v) (up (price s u) + up (price s v)) (between s u v) (pence p u v) (down (price s u) + down (price s v))
        (λ n. let q = shares.of_pairs u v (some u v n) in margin_least (pence p u v) (between s u v) (price s u) (price s v) (ok.margins u v q.0 q.1 h q.2))

    bounded : d * sum_live p (rises p s ok) + d * worths p s ok ≤ 2 * sum_ordered p.size (λ u v. part x u v * pence p u v) + d * sum_live p (falls p s ok)
    bounded =
        let rise : ℕ → ℕ → ℕ = λ u v. part x u v * (rises p s ok u + rises p s ok v) in
        let fall : ℕ → ℕ → ℕ = λ u v. part x u v * (falls p s ok u + falls p s ok v) in
        let amid : ℕ → ℕ → ℕ = λ u v. part x u v * between s u v in
        let paid : ℕ → ℕ → ℕ = λ u v. part x u v * pence p u v in
        let a = ordered_le p.size (λ u v. rise u v + amid u v) (λ u v. 2 * paid u v + fall u v) each_least in
        let b = ordered_add p.size rise amid in
        let c = ordered_add p.size (λ u v. 2 * paid u v) fall in
        let e = ordered_times p.size 2 paid in
        let f = ends (rises p s ok) in
        let g = ends (falls p s ok) in
        let h = all_worths in
        omega (arith, a, b, c, e, f, g, h)

-- d times what is reached, beside what is bounded
left_over : (d r w t f c : ℕ) → r + w ≡ 2 * t + f → d * r + d * w ≤ 2 * c + d * f → d * t ≤ c
left_over d r w t f c e h = omega (arith, h, ap (λ y. d * y) e, mul-add d r w, mul-add d (2 * t) f, mul_left_comm d 2 t)

pub cheapest_shares : (p : Problem) (s : View) → Passes p s → ((k : ℕ) → k < s.count → OddSet p (inside s (suc k))) → ((u : ℕ) → p.cost u u ≡ None)
    → (d : ℕ) (x : ℕ → ℕ → ℤ) → Shares p d x → pos (d * pairing_cost p (mate s)) ≤ℤ share_cost p x
cheapest_shares p s ok odd same d x shares =
    as_integers (d * pairing_cost p (mate s)) _ (share_cost p x) (cost_is p same d x shares)
    (left_over d (sum_live p (rises p s ok)) (worths p s ok) (pairing_cost p (mate s)) (sum_live p (falls p s ok)) _ (reached p s ok) (bounded p same d x shares s ok odd))
