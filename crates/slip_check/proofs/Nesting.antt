-- The groups of a slip rise where their records are good.
use Rattle.std.proofs.Common.{◌≡◌, ℕ, zero, suc, ◌<◌, ◌≤◌, true, ◌⊎◌, arith}
use Rattle.std.proofs.lemmas.Bool.Decides.{nat_tests}
use Rattle.slips.specs.View.{View, parent, group_at}
use Rattle.slips.specs.Verdict.{group_good}
use Rattle.slip_check.proofs.WaysUp.{Rises}

good_parent : (s : View) (k : ℕ) → group_good s k ≡ true → ((group_at s k).parent ≡ 0) ⊎ ((suc k < (group_at s k).parent) × ((group_at s k).parent ≤ s.count))
good_parent s k e = grind (arith, nat_tests)

pub nested_rises : (s : View) → ((k : ℕ) → k < s.count → group_good s k ≡ true) → Rises (parent s) s.count
nested_rises s good zero l k = absurd (omega arith)
nested_rises s good (suc g) l k = good_parent s g (good g k)
