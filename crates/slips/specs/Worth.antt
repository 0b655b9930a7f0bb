-- What a slip that passes is worth.
use Rattle.std.specs.Prelude.{◌≡◌, ℕ, ◌*◌, ◌≤◌, List, ℤ, pos, ◌≤ℤ◌, None, ◌≢◌}
use Rattle.books.specs.Table.{Table, Sound}
use Rattle.slips.specs.Problem.{Problem, problem, Pairing, pairing_cost}
use Rattle.slips.specs.View.{View, mate}
use Rattle.slips.specs.System.{share_cost, Shares, Certificate}
use Rattle.slips.specs.Gaps.{GapCertificate}
use Rattle.slips.specs.Verdict.{verdict}

-- the mates of a slip are a pairing that costs its total, and no pairing costs less
pub record Least (p : Problem) (s : View) : Type 0 where
  pub pairing : Pairing p (mate s)
  pub cost : pairing_cost p (mate s) ≡ s.total
  pub least : (m : ℕ → ℕ) → Pairing p m → s.total ≤ pairing_cost p m
  -- nor do shares of any solution of the linear system
  pub least_shares : (d : ℕ) (x : ℕ → ℕ → ℤ) → Shares p d x → pos (d * s.total) ≤ℤ share_cost p x

-- there is no pairing
abbrev pub Barren : Problem → Type 0
Barren p = (m : ℕ → ℕ) → Pairing p m → ⊥

-- what the verdict on a slip says, for the table of any book
pub record VerdictLaw (t : Table) (marks : List ℕ) (s : View) : Type 0 where
  -- a priced slip passes exactly when it is a certificate, and then its mates are a least pairing
  pub priced_passes : s.kind ≡ 1 → verdict t marks s ≡ None → Certificate (problem t marks) s
  pub priced_exactly : Certificate (problem t marks) s → verdict t marks s ≡ None
  pub priced_least : s.kind ≡ 1 → verdict t marks s ≡ None → Least (problem t marks) s
  -- a gap slip passes exactly when its parts show a gap, and then there is no pairing
  pub gap_passes : s.kind ≡ 2 → verdict t marks s ≡ None → GapCertificate (problem t marks) s
  pub gap_exactly : GapCertificate (problem t marks) s → verdict t marks s ≡ None
  pub gap_barren : s.kind ≡ 2 → verdict t marks s ≡ None → Barren (problem t marks)
  -- whatever passes has one of the two kinds, and all that pass for these pieces and costs have the same
  pub kinds : verdict t marks s ≡ None → (s.kind ≢ 1) → s.kind ≡ 2
  pub one_kind : (other : View) → verdict t marks s ≡ None → verdict t marks other ≡ None → s.kind ≡ other.kind

-- every verdict keeps the law, for the table of every book
abbrev pub VerdictsByLaw : Type 0
VerdictsByLaw = (t : Table) (marks : List ℕ) (s : View) → Sound t → VerdictLaw t marks s
