-- The first pair that fails, row by row.
use Rattle.std.proofs.Common.{◌≡◌, ℕ, ◌+◌, ◌<◌, ◌≤◌, Bool, true, false, not, ◌&&◌, ◌||◌, eqb, ltb, pos, is_some, int_le, Some, None, Option, sym, ap, ◌∙◌, arith}
use Rattle.std.proofs.lemmas.Bool.{le-ltb}
use Rattle.ranges.specs.First.{first_below}
use Rattle.ranges.proofs.First.{first_absent, first_more, first_found}
use Rattle.slips.specs.declared.fault.SlipFault.{SlipFault}
use Rattle.slips.specs.declared.fault.SlipFault.TheVariants.{Prices}
use Rattle.slips.specs.Problem.{Problem}
use Rattle.slips.specs.View.{View, mate}
use Rattle.slips.specs.Groups.{margin}
use Rattle.slips.specs.Verdict.{unless, pair_good, row_fault, prices_fault}

-- the test of a pair, with its fault
abbrev pub pair_fault : Problem → View → ℕ → ℕ → Option SlipFault
pair_fault p s u v = unless (pair_good p s u v) (Prices u v)

not_rising : (a b c x : Bool) → a ≡ false → (not (a && (b && c)) || x) ≡ true
not_rising a b c x e = grind arith

-- no pair of a piece with itself or a lower one is tested
low_pair : (p : Problem) (s : View) (u v : ℕ) → v ≤ u → pair_good p s u v ≡ true
low_pair p s u v h =
    not_rising (ltb u v) (p.live u) (p.live v && is_some (p.cost u v))
    (int_le (pos 0) (margin p s u v) && (not (eqb (mate s u) v) || int_le (margin p s u v) (pos 0)))
    (le-ltb u v h)

module _ (p : Problem) (s : View) (u : ℕ) where
  -- so a row begins after its piece
  pub row_begins : first_below (pair_fault p s u) (u + 1) ≡ None
  row_begins = first_absent (pair_fault p s u) (u + 1) (λ v h. ap (λ b. unless b (Prices u v)) (low_pair p s u v (omega arith)))

  module _ (v n : ℕ) (size : n ≡ p.size) (rows : first_below (row_fault p s) u ≡ None) (row : first_below (pair_fault p s u) v ≡ None) where
    -- a whole row passes
    pub row_passed : v ≡ n → first_below (row_fault p s) (u + 1) ≡ None
    row_passed end = first_more (row_fault p s) u rows (ap (first_below (pair_fault p s u)) (sym (end ∙ size)) ∙ row)

    -- the first pair of a row that fails
    pub pair_failed : u < n → v < n → pair_good p s u v ≡ false → prices_fault p s ≡ Some (Prices u v)
    pair_failed lu lv e =
        first_found (row_fault p s) u p.size (Prices u v) (omega arith) rows
        (first_found (pair_fault p s u) v p.size (Prices u v) (omega arith) row (ap (λ b. unless b (Prices u v)) e))
