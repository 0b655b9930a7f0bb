-- Which tests the verdict of a slip is, by its lengths and its kind.
use Rattle.std.proofs.Common.{◌≡◌, ℕ, false, ◌⊎◌, inl, inr, List, length, Some, sym, ◌∙◌, arith}
use Rattle.std.proofs.lemmas.Bool.{cond-true, cond-false}
use Rattle.std.proofs.lemmas.Bool.Decides.{nat_tests}
use Rattle.books.specs.Table.{Table}
use Rattle.slips.specs.declared.fault.SlipFault.TheVariants.{Shape, Gap}
use Rattle.slips.specs.Problem.{problem}
use Rattle.slips.specs.View.{View}
use Rattle.slips.specs.Verdict.{unless, shaped, priced_fault, gap_good, gap_fault, verdict}
use Rattle.slip_laws.proofs.Formed.{shaped_from, priced_tests, gap_tests}

module _ (t : Table) (marks : List ℕ) (s : View) where
  pub verdict_shape : shaped t.count s ≡ false → Some Shape ≡ verdict t marks s
  unfolding verdict
  verdict_shape e = sym (cond-false _ _ _ e)

  pub other_lengths : (length s.pieces ≡ t.count → ⊥) ⊎ ((length s.pieces ≡ t.count) × (length s.groups ≡ 127 → ⊥)) → shaped t.count s ≡ false
  other_lengths e = grind (arith, nat_tests)

  pub other_kind : (s.kind ≡ 1 → ⊥) → (s.kind ≡ 2 → ⊥) → shaped t.count s ≡ false
  other_kind e f = grind (arith, nat_tests)

  module _ (pieces : length s.pieces ≡ t.count) (groups : length s.groups ≡ 127) where
    pub verdict_priced : s.kind ≡ 1 → priced_fault (problem t marks) s ≡ verdict t marks s
    unfolding verdict
    verdict_priced e = sym (cond-true _ _ _ (shaped_from t.count s (record { pieces = pieces; groups = groups; kinds = inl e })) ∙ priced_tests (problem t marks) s e)

    pub verdict_gap : s.kind ≡ 2 → unless (gap_good (problem t marks) s) Gap ≡ verdict t marks s
    unfolding verdict gap_fault
    verdict_gap e = sym (cond-true _ _ _ (shaped_from t.count s (record { pieces = pieces; groups = groups; kinds = inr e })) ∙ gap_tests (problem t marks) s e)
