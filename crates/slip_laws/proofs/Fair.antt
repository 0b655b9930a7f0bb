-- Problems whose costs are the same in either order and whose live pieces are pieces; the problem of every book is one.
use Rattle.std.proofs.Common.{◌≡◌, ℕ, ◌<◌, true, ltb, List}
use Rattle.std.proofs.lemmas.Bool.{and_parts, ltb-true}
use Rattle.books.specs.Table.{Table, Sound}
use Rattle.slips.specs.Problem.{Problem, Live, live_by, problem}

pub record Fair (p : Problem) : Type 0 where
  pub even : (u v : ℕ) → p.cost u v ≡ p.cost v u
  pub within : (u : ℕ) → p.live u ≡ true → u < p.size

pub fair_problem : (t : Table) (marks : List ℕ) → Sound t → Fair (problem t marks)
fair_problem t marks sound = record {
  even = sound.even;
  within = λ u e. ltb-true u t.count (and_parts (ltb u t.count) (live_by marks u) e).0;
}

-- a piece that is marked live is live
pub live_if : (p : Problem) → Fair p → (u : ℕ) → p.live u ≡ true → Live p u
live_if p fair u e = record { below = fair.within u e; marked = e }
