-- What a loaded list answers and why a list is refused, in the words of its lines.
use Rattle.std.specs.Prelude.{◌≡◌, ℕ, ◌+◌, ◌<◌, ◌≤◌, min, max, true, false, List, length, Some, None}
use Rattle.books.specs.declared.fault.BookFault.{BookFault}
use Rattle.books.specs.declared.fault.BookFault.TheVariants.{TooManyPieces, TooManyLines, LineOutside, LineOrder, CostTooHigh, AmountTooHigh, TermOutside, RecordOutside, PieceOutside, EqualPieces, BarsFull, NoMemory}
use Rattle.books.specs.Limits.{most_pieces, most_cost}
use Rattle.books.specs.Table.{Table}
use Rattle.list_book.specs.declared.line.Line.{Line}
use Rattle.list_book.specs.Lines.{most_lines, line_of, line, precedes}

-- one of the lines has these pieces and this cost
abbrev pub OnLine : List Line → ℕ → ℕ → ℕ → Type 0
OnLine ls i j c = (k : ℕ) × (k < length ls) × (line ls k ≡ line_of i j c)

-- each line stands before all that follow it
abbrev pub Rising : List Line → Type 0
Rising ls = (k m : ℕ) → k < m → m < length ls → precedes (line ls k) (line ls m).lower (line ls m).higher ≡ true

-- the lines before place r stand before a pair, and from r on none does
pub record Parted (ls : List Line) (i j r : ℕ) : Type 0 where
  pub within : r ≤ length ls
  pub under : (k : ℕ) → k < r → precedes (line ls k) i j ≡ true
  pub above : (k : ℕ) → r ≤ k → k < length ls → precedes (line ls k) i j ≡ false

-- the three tests of the line at place k
abbrev pub Within : ℕ → List Line → ℕ → Type 0
Within n ls k = ((line ls k).lower < (line ls k).higher) × ((line ls k).higher < n)

abbrev pub AboveLast : List Line → ℕ → Type 0
AboveLast ls k = (m : ℕ) → m + 1 ≡ k → precedes (line ls m) (line ls k).lower (line ls k).higher ≡ true

abbrev pub Priced : List Line → ℕ → Type 0
Priced ls k = (line ls k).cost ≤ most_cost

abbrev pub Good : ℕ → List Line → ℕ → Type 0
Good n ls k = Within n ls k × AboveLast ls k × Priced ls k

-- what a loaded list is: within all limits; a pair costs c exactly when a line of it says so, and is barred exactly when none does
pub record Lists (t : Table) (n : ℕ) (ls : List Line) : Type 0 where
  pub few : n ≤ most_pieces
  pub short : length ls ≤ most_lines
  pub good : (k : ℕ) → k < length ls → Good n ls k
  pub count : t.count ≡ n
  pub costs : (i j c : ℕ) → (t.cost i j ≡ Some c → OnLine ls (min i j) (max i j) c) × (OnLine ls (min i j) (max i j) c → t.cost i j ≡ Some c)
  pub bars : (i j : ℕ) → (t.cost i j ≡ None → (c : ℕ) → OnLine ls (min i j) (max i j) c → ⊥) × (((c : ℕ) → OnLine ls (min i j) (max i j) c → ⊥) → t.cost i j ≡ None)

-- the line with this number, from 1, comes after good lines only, in a list that is not too large
pub record Lowest (n : ℕ) (ls : List Line) (number k : ℕ) : Type 0 where
  pub few : n ≤ most_pieces
  pub short : length ls ≤ most_lines
  pub place : number ≡ k + 1
  pub within : k < length ls
  pub good : (m : ℕ) → m < k → Good n ls m

-- why a list is refused: no two of these hold of one list
abbrev pub Blamed : ℕ → List Line → BookFault → Type 0
Blamed n ls TooManyPieces = most_pieces < n
Blamed n ls TooManyLines = (n ≤ most_pieces) × (most_lines < length ls)
Blamed n ls (LineOutside number) = (k : ℕ) × Lowest n ls number k × (Within n ls k → ⊥)
Blamed n ls (LineOrder number) = (k : ℕ) × Lowest n ls number k × Within n ls k × (AboveLast ls k → ⊥)
Blamed n ls (CostTooHigh number) = (k : ℕ) × Lowest n ls number k × Within n ls k × AboveLast ls k × (most_cost < (line ls k).cost)
Blamed n ls AmountTooHigh = ⊥
Blamed n ls (TermOutside k) = ⊥
Blamed n ls (RecordOutside k) = ⊥
Blamed n ls (PieceOutside k) = ⊥
Blamed n ls (EqualPieces k) = ⊥
Blamed n ls BarsFull = ⊥
Blamed n ls NoMemory = ⊥
