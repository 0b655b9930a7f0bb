-- What the law of a book says of its costs.
use Rattle.std.proofs.Common.{◌≡◌, ℕ, ◌≤◌, List, Some, None, Option, refl, arith}
use Rattle.std.proofs.lemmas.Bool.Decides.{nat_tests}
use Rattle.std.specs.Option.{unwrap_or}
use Rattle.books.specs.Limits.{most_cost}
use Rattle.books.specs.Table.{Table, Sound}
use Rattle.slips.specs.Problem.{problem}
use Rattle.slips.specs.View.{View, mate}
use Rattle.slip_check.specs.Tables.{lead_cost}

low_or_none : (o : Option ℕ) → ((c : ℕ) → o ≡ Some c → c ≤ most_cost) → unwrap_or o 0 ≤ most_cost
low_or_none None h = omega arith
low_or_none (Some c) h = h c refl

-- no piece adds more than the greatest cost to that of the mates
pub lead_low : (t : Table) (marks : List ℕ) (s : View) (u : ℕ) → Sound t → lead_cost (problem t marks) s u ≤ most_cost
lead_low t marks s u sound = let low = low_or_none (t.cost u (mate s u)) (sound.low u (mate s u)) in grind (arith, nat_tests)
