-- What a verdict without a fault says of a slip's form and of the tests of its kind.
use Rattle.std.proofs.Common.{◌≡◌, ℕ, true, cond, ◌&&◌, ◌||◌, eqb, ◌⊎◌, List, length, None, Option, sym, ◌∙◌, arith}
use Rattle.std.proofs.lemmas.Bool.Decides.{nat_tests}
use Rattle.std.proofs.lemmas.Bool.{eq-eqb, ne_eqb, cond-true, cond-false}
use Rattle.books.specs.Table.{Table}
use Rattle.slips.specs.declared.fault.SlipFault.{SlipFault}
use Rattle.slips.specs.declared.fault.SlipFault.TheVariants.{Shape, Gap}
use Rattle.slips.specs.Problem.{Problem, problem}
use Rattle.slips.specs.View.{View}
use Rattle.slips.specs.Verdict.{shaped, priced_fault, gap_good, gap_fault, verdict}
use Rattle.slip_laws.proofs.Tested.{held, no_fault, held_first, no_fault_first}

-- the form that every slip has to have
pub record Formed (n : ℕ) (s : View) : Type 0 where
  pub pieces : length s.pieces ≡ n
  pub groups : length s.groups ≡ 127
  pub kinds : (s.kind ≡ 1) ⊎ (s.kind ≡ 2)

shape_parts : (a b n k : ℕ) → (eqb a n && (eqb b 127 && (eqb k 1 || eqb k 2))) ≡ true → (a ≡ n) × (b ≡ 127) × ((k ≡ 1) ⊎ (k ≡ 2))
shape_parts a b n k e = (grind (arith, nat_tests), grind (arith, nat_tests), grind (arith, nat_tests))

shape_whole : (a b n k : ℕ) → a ≡ n → b ≡ 127 → (k ≡ 1) ⊎ (k ≡ 2) → (eqb a n && (eqb b 127 && (eqb k 1 || eqb k 2))) ≡ true
shape_whole a b n k p q r = grind (arith, nat_tests)

shaped_is : (n : ℕ) (s : View) → shaped n s ≡ true → Formed n s
shaped_is n s e = let h = shape_parts (length s.pieces) (length s.groups) n s.kind e in record { pieces = h.0; groups = h.1; kinds = h.2 }

pub shaped_from : (n : ℕ) (s : View) → Formed n s → shaped n s ≡ true
shaped_from n s f = shape_whole (length s.pieces) (length s.groups) n s.kind f.pieces f.groups f.kinds

-- the tests of a slip's kind
abbrev pub kind_fault : Problem → View → Option SlipFault
kind_fault p s = cond (eqb s.kind 1) (priced_fault p s) (gap_fault p s)

two_not_one : (k : ℕ) → k ≡ 2 → k ≡ 1 → ⊥
two_not_one k p q = omega arith

pub priced_tests : (p : Problem) (s : View) → s.kind ≡ 1 → kind_fault p s ≡ priced_fault p s
priced_tests p s k = cond-true (eqb s.kind 1) (priced_fault p s) (gap_fault p s) (eq-eqb s.kind 1 k)

pub gap_tests : (p : Problem) (s : View) → s.kind ≡ 2 → kind_fault p s ≡ gap_fault p s
gap_tests p s k = cond-false (eqb s.kind 1) (priced_fault p s) (gap_fault p s) (ne_eqb s.kind 1 (two_not_one s.kind k))

module _ (t : Table) (marks : List ℕ) (s : View) where
  parts : verdict t marks s ≡ None → Formed t.count s × (kind_fault (problem t marks) s ≡ None)
  unfolding verdict
  parts e = let h = held_first (shaped t.count s) (kind_fault (problem t marks) s) Shape e in (shaped_is t.count s h.0, h.1)

  whole : Formed t.count s → kind_fault (problem t marks) s ≡ None → verdict t marks s ≡ None
  unfolding verdict
  whole f e = no_fault_first (shaped t.count s) (kind_fault (problem t marks) s) Shape (shaped_from t.count s f) e

  -- whatever passes has the form
  pub formed : verdict t marks s ≡ None → Formed t.count s
  formed e = (parts e).0

  -- a priced slip
  pub priced_none : s.kind ≡ 1 → verdict t marks s ≡ None → priced_fault (problem t marks) s ≡ None
  priced_none k e = sym (priced_tests (problem t marks) s k) ∙ (parts e).1

  pub priced_passing : s.kind ≡ 1 → Formed t.count s → priced_fault (problem t marks) s ≡ None → verdict t marks s ≡ None
  priced_passing k f e = whole f (priced_tests (problem t marks) s k ∙ e)

  -- a gap slip
  pub gap_held : s.kind ≡ 2 → verdict t marks s ≡ None → gap_good (problem t marks) s ≡ true
  unfolding gap_fault
  gap_held k e = held (gap_good (problem t marks) s) Gap (sym (gap_tests (problem t marks) s k) ∙ (parts e).1)

  pub gap_passing : s.kind ≡ 2 → Formed t.count s → gap_good (problem t marks) s ≡ true → verdict t marks s ≡ None
  unfolding gap_fault
  gap_passing k f e = whole f (gap_tests (problem t marks) s k ∙ no_fault (gap_good (problem t marks) s) Gap e)
