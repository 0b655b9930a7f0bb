-- What a book means: a piece count, and for each two pieces their cost in pence, `None` where they are barred.
use Rattle.std.specs.Prelude.{◌≡◌, ℕ, ◌≤◌, Some, None, Option}
use Rattle.books.specs.Limits.{most_pieces, most_cost}

pub record Table : Type 0 where
  pub count : ℕ
  pub cost : ℕ → ℕ → Option ℕ

-- what holds of the table of every book
pub record Sound (t : Table) : Type 0 where
  pub few : t.count ≤ most_pieces
  -- either order of two pieces has the same cost
  pub even : (i j : ℕ) → t.cost i j ≡ t.cost j i
  -- no piece is paired with itself
  pub same : (i : ℕ) → t.cost i i ≡ None
  -- nor with a number that is no piece
  pub outside : (i j : ℕ) → t.count ≤ i → t.cost i j ≡ None
  pub low : (i j c : ℕ) → t.cost i j ≡ Some c → c ≤ most_cost

-- no pieces
abbrev pub no_table : Table
no_table = record { count = 0; cost = λ _ _. None }
