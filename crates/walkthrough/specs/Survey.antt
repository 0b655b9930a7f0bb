-- How many questions a book answers with a cost.
use Rattle.std.specs.Prelude.{ℕ, Bool, is_some}
use Rattle.ranges.specs.Sums.{sum_below, count_below}
use Rattle.books.specs.Table.{Table}

-- two pieces have a cost
abbrev pub allows : Table → ℕ → ℕ → Bool
allows t i j = is_some (t.cost i j)

-- how many pieces below n a piece may be paired with
abbrev pub row_allowed : Table → ℕ → ℕ → ℕ
row_allowed t i n = count_below n (allows t i)

-- how many ordered pairs of pieces have a cost
abbrev pub all_allowed : Table → ℕ
all_allowed t = sum_below t.count (λ i. row_allowed t i t.count)
