-- What the lines of a list mean, and which fault they have.
use Rattle.std.specs.Prelude.{ℕ, zero, suc, ◌+◌, min, max, Bool, true, cond, ◌&&◌, ◌||◌, List, length, Some, None, Option, ◌==◌, nat_le, nat_lt, slice_index_or}
use Rattle.books.specs.declared.fault.BookFault.{BookFault}
use Rattle.books.specs.declared.fault.BookFault.TheVariants.{TooManyPieces, TooManyLines, LineOutside, LineOrder, CostTooHigh}
use Rattle.books.specs.Limits.{most_pieces, most_cost}
use Rattle.ranges.specs.First.{first_below}
use Rattle.books.specs.Table.{Table}
use Rattle.list_book.specs.declared.line.Line.{Line}

-- how many lines a list holds at most
abbrev pub most_lines : ℕ
most_lines = 4096

abbrev pub line_of : ℕ → ℕ → ℕ → Line
line_of i j c = record { lower = i; higher = j; cost = c }

-- the line at place k, from 0
abbrev pub line : List Line → ℕ → Line
line ls k = slice_index_or ls k (line_of 0 0 0)

-- the cost that a line gives two pieces, the lower first
abbrev pub cost_on : Line → ℕ → ℕ → Option ℕ
cost_on l i j = cond (l.lower == i && l.higher == j) (Some l.cost) None

-- the cost on the first line of two pieces
abbrev pub line_cost : List Line → ℕ → ℕ → Option ℕ
line_cost ls i j = first_below (λ k. cost_on (line ls k) i j) (length ls)

abbrev pub list_table : ℕ → List Line → Table
list_table n ls = record { count = n; cost = λ i j. line_cost ls (min i j) (max i j) }

-- a line stands before a pair's place: by the lower piece, then by the higher
abbrev pub precedes : Line → ℕ → ℕ → Bool
precedes l i j = nat_lt l.lower i || (l.lower == i && nat_lt l.higher j)

abbrev pub rises : Option Line → Line → Bool
rises None l = true
rises (Some b) l = precedes b l.lower l.higher

-- the line before the one at place k
abbrev pub before : List Line → ℕ → Option Line
before ls zero = None
before ls (suc k) = Some (line ls k)

-- the fault of the line with this number, from 1, after the line before it
abbrev pub line_fault : ℕ → ℕ → Option Line → Line → Option BookFault
line_fault n number b l =
    cond (nat_lt l.lower l.higher && nat_lt l.higher n)
    (cond (rises b l) (cond (nat_le l.cost most_cost) None (Some (CostTooHigh number))) (Some (LineOrder number)))
    (Some (LineOutside number))

abbrev pub fault_at : ℕ → List Line → ℕ → Option BookFault
fault_at n ls k = line_fault n (k + 1) (before ls k) (line ls k)

-- the fault of the lowest faulty line
abbrev pub lines_fault : ℕ → List Line → Option BookFault
lines_fault n ls = first_below (fault_at n ls) (length ls)

-- the first fault of a count and its lines
abbrev pub list_fault : ℕ → List Line → Option BookFault
list_fault n ls = cond (nat_le n most_pieces) (cond (nat_le (length ls) most_lines) (lines_fault n ls) (Some TooManyLines)) (Some TooManyPieces)
