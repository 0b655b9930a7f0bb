-- The shares that leave a set are as many as the pairs of mates that leave it.
use Rattle.std.proofs.Common.{◌≡◌, ℕ, ◌<◌, Bool, true, false, cond, ◌&&◌, ltb, pos, ap, ◌∙◌, ⊎_elim, arith}
use Rattle.std.proofs.lemmas.Bool.{cases_Bool}
use Rattle.ranges.specs.Sums.{sum_below}
use Rattle.ranges.proofs.Sums.{sum_zero}
use Rattle.ranges.proofs.Single.{sum_single}
use Rattle.slips.specs.Problem.{Problem, Live, Pairing, leads}
use Rattle.slips.specs.View.{View, mate}
use Rattle.slips.specs.Groups.{splits}
use Rattle.slips.specs.System.{sum_int_below, crossing, mates, share}
use Rattle.slips.specs.Verdict.{left_by}
use Rattle.slip_laws.proofs.Shares.{sum_int_natural, mates_at, mates_off, mates_struck}

-- the tests, over plain truth values
as_natural : (leaves is : Bool) → cond leaves (cond is (pos 1) (pos 0)) (pos 0) ≡ pos (cond leaves (cond is 1 0) 0)
as_natural leaves is = grind arith

none_off : (leaves is : Bool) → is ≡ false → ◌≡◌ {A = ℕ} (cond leaves (cond is 1 0) 0) 0
none_off leaves is e = grind arith

one_at : (lower split is live : Bool) → is ≡ true → live ≡ true → ◌≡◌ {A = ℕ} (cond (lower && split) (cond is 1 0) 0) (cond ((live && lower) && split) 1 0)
one_at lower split is live e l = grind arith

none_struck : (lower split live : Bool) → live ≡ false → ◌≡◌ {A = ℕ} 0 (cond ((live && lower) && split) 1 0)
none_struck lower split live l = grind arith

-- the share of u and v, where they leave the set
abbrev leaving : Problem → View → (ℕ → Bool) → ℕ → ℕ → ℕ
leaving p s set u v = cond (ltb u v && splits set u v) (cond (mates p s u v) 1 0) 0

-- whether u and its mate leave the set
abbrev leaves : Problem → View → (ℕ → Bool) → ℕ → ℕ
leaves p s set u = cond (leads p (mate s) u && splits set u (mate s u)) 1 0

module _ (p : Problem) (s : View) (pairing : Pairing p (mate s)) (set : ℕ → Bool) where
  -- of the pairs of one piece only that with its mate may have a share
  leaves_live : (u : ℕ) → Live p u → sum_below p.size (leaving p s set u) ≡ leaves p s set u
  leaves_live u l =
      sum_single p.size (leaving p s set u) (mate s u) (pairing.lives u l).below (λ v h n. none_off (ltb u v && splits set u v) (mates p s u v) (mates_off p s pairing u v n))
      ∙ one_at (ltb u (mate s u)) (splits set u (mate s u)) (mates p s u (mate s u)) (p.live u) (mates_at p s pairing u l) l.marked

  leaves_struck : (u : ℕ) → p.live u ≡ false → sum_below p.size (leaving p s set u) ≡ leaves p s set u
  leaves_struck u l =
      sum_zero p.size (leaving p s set u) (λ v h. none_off (ltb u v && splits set u v) (mates p s u v) (mates_struck p s pairing u v l))
      ∙ none_struck (ltb u (mate s u)) (splits set u (mate s u)) (p.live u) l

  leaves_is : (u : ℕ) → u < p.size → sum_below p.size (leaving p s set u) ≡ leaves p s set u
  leaves_is u h = ⊎_elim (λ (l : p.live u ≡ true). leaves_live u (record { below = h; marked = l })) (λ (l : p.live u ≡ false). leaves_struck u l) (cases_Bool (p.live u))

  row_leaving : (u : ℕ) → sum_int_below p.size (λ v. cond (ltb u v && splits set u v) (share p s u v) (pos 0)) ≡ pos (sum_below p.size (leaving p s set u))
  row_leaving u =
      sum_int_natural p.size (λ v. cond (ltb u v && splits set u v) (share p s u v) (pos 0)) (leaving p s set u) (λ v h. as_natural (ltb u v && splits set u v) (mates p s u v))

  pub crossing_is : crossing p (share p s) set ≡ pos (left_by p s set)
  crossing_is =
      sum_int_natural p.size (λ u. sum_int_below p.size (λ v. cond (ltb u v && splits set u v) (share p s u v) (pos 0))) (leaves p s set)
      (λ u h. row_leaving u ∙ ap pos (leaves_is u h))
