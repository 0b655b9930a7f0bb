-- The limits that every book keeps.
use Rattle.std.specs.Prelude.{ℕ}

-- how many pieces a book counts at most
abbrev pub most_pieces : ℕ
most_pieces = 256

-- the greatest cost of a pair, in pence
abbrev pub most_cost : ℕ
most_cost = 1000000
