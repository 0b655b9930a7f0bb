-- The memory that is handed to a sheet: marks and waiting requests, and when they agree with what the sheet counts.
use Rattle.std.specs.Prelude.{ℕ, Bool, ◌&&◌, List, length, count_by, ◌==◌, nat_eq, nat_lt, slice_index_or}
use Rattle.std.specs.List.{list_all}
use Rattle.sheet_register.specs.declared.request.Request.{Request}

-- the marks of a piece, as bytes: free, withdrawal taken, struck; what is handed in may hold any byte
abbrev pub free : ℕ
free = 0

abbrev pub taken : ℕ
taken = 1

abbrev pub struck : ℕ
struck = 2

-- the mark of a piece; a number that is no piece counts as free
abbrev pub mark : List ℕ → ℕ → ℕ
mark ms p = slice_index_or ms p free

-- how many pieces have this mark; those with mark 1 are the dockets that are out
abbrev pub marked : ℕ → List ℕ → ℕ
marked m ms = count_by (λ x. nat_eq x m) ms

-- a test passes at each of a list
abbrev pub each : {X : Type 0} → (X → Bool) → List X → Bool
each p xs = list_all p xs

-- what a sheet counts: its pieces, the marks 1 and 2 among them, the requests that wait
pub record Counts : Type 0 where
  pub pieces : ℕ
  pub taken : ℕ
  pub struck : ℕ
  pub waiting : ℕ

abbrev pub counted : List ℕ → List Request → Counts
counted ms qs = record { pieces = length ms; taken = marked taken ms; struck = marked struck ms; waiting = length qs }

-- one mark of 0, 1 or 2 for each piece, and as many 1s and 2s as the sheet counts
unfoldable pub marks_agree : Counts → List ℕ → Bool
marks_agree c ms = length ms == c.pieces && (each (λ m. nat_lt m 3) ms && (marked taken ms == c.taken && marked struck ms == c.struck))

-- besides, as many requests wait as the sheet counts, each naming a piece
unfoldable pub agrees : Counts → List ℕ → List Request → Bool
agrees c ms qs = marks_agree c ms && (length qs == c.waiting && each (λ q. nat_lt q.piece c.pieces) qs)
