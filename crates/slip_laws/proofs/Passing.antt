-- What the proof of cheapness needs of a priced slip that passes its tests.
use Rattle.std.proofs.Common.{◌≡◌, ℕ, suc, ◌%◌, ◌<◌, pos, ◌≤ℤ◌}
use Rattle.slips.specs.Problem.{Problem, Live, Allowed, Pairing}
use Rattle.slips.specs.View.{View, mate}
use Rattle.slips.specs.Groups.{inside, margin}
use Rattle.slips.specs.System.{live_in}
use Rattle.slips.specs.Verdict.{left_by}

pub record Passes (p : Problem) (s : View) : Type 0 where
  pub mates : Pairing p (mate s)
  -- every group has an odd number of live pieces
  pub odd : (k : ℕ) → k < s.count → live_in p (inside s (suc k)) % 2 ≡ 1
  -- no pair's prices exceed twice its cost, and those of mates reach it
  pub margins : (u v : ℕ) → Live p u → Live p v → u < v → Allowed p u v → pos 0 ≤ℤ margin p s u v
  pub tight : (u : ℕ) → Live p u → u < mate s u → margin p s u (mate s u) ≡ pos 0
  -- every group is left by exactly one pair of mates
  pub once : (k : ℕ) → k < s.count → left_by p s (inside s (suc k)) ≡ 1
