-- What a loaded tariff answers and why a tariff is refused, in the words of its terms and records.
use Rattle.std.specs.Prelude.{◌≡◌, ℕ, ◌+◌, ◌<◌, ◌≤◌, List, length, Some, None}
use Rattle.books.specs.declared.fault.BookFault.{BookFault}
use Rattle.books.specs.declared.fault.BookFault.TheVariants.{TooManyPieces, TooManyLines, LineOutside, LineOrder, CostTooHigh, AmountTooHigh, TermOutside, RecordOutside, PieceOutside, EqualPieces, BarsFull, NoMemory}
use Rattle.books.specs.Limits.{most_pieces}
use Rattle.books.specs.Table.{Table}
use Rattle.tariff_book.specs.declared.piece.Piece.{Piece}
use Rattle.tariff_book.specs.declared.terms.Terms.{Terms}
use Rattle.tariff_book.specs.Pieces.{GoodPiece}
use Rattle.tariff_book.specs.Terms.{term_count, GoodTerm}
use Rattle.tariff_book.specs.Duties.{DutyOf}
use Rattle.tariff_book.specs.Tariff.{piece}

-- what a loaded tariff is: within all limits; two pieces cost c exactly when they are a duty of that cost by gap and spread, and are barred
-- exactly when they are none
pub record Prices (t : Table) (terms : Terms) (ps : List Piece) : Type 0 where
  pub few : length ps ≤ most_pieces
  pub terms_good : (k : ℕ) → k < term_count → GoodTerm terms k
  pub pieces_good : (k : ℕ) → k < length ps → GoodPiece (piece ps k)
  pub count : t.count ≡ length ps
  pub costs : (i j c : ℕ) → i < length ps → j < length ps →
      (t.cost i j ≡ Some c → DutyOf terms (piece ps i) (piece ps j) c) × (DutyOf terms (piece ps i) (piece ps j) c → t.cost i j ≡ Some c)
  pub bars : (i j : ℕ) → i < length ps → j < length ps →
      (t.cost i j ≡ None → (c : ℕ) → DutyOf terms (piece ps i) (piece ps j) c → ⊥)
      × (((c : ℕ) → DutyOf terms (piece ps i) (piece ps j) c → ⊥) → t.cost i j ≡ None)

-- why a tariff is refused: no two of these hold of one tariff
abbrev pub Blamed : Terms → List Piece → BookFault → Type 0
Blamed t ps TooManyPieces = most_pieces < length ps
Blamed t ps (TermOutside term) =
    (k : ℕ) × (length ps ≤ most_pieces) × (term ≡ k + 1) × (k < term_count) × (GoodTerm t k → ⊥) × ((m : ℕ) → m < k → GoodTerm t m)
Blamed t ps (RecordOutside k) =
    (length ps ≤ most_pieces) × ((m : ℕ) → m < term_count → GoodTerm t m)
    × (k < length ps) × (GoodPiece (piece ps k) → ⊥) × ((m : ℕ) → m < k → GoodPiece (piece ps m))
Blamed t ps TooManyLines = ⊥
Blamed t ps (LineOutside k) = ⊥
Blamed t ps (LineOrder k) = ⊥
Blamed t ps (CostTooHigh k) = ⊥
Blamed t ps AmountTooHigh = ⊥
Blamed t ps (PieceOutside k) = ⊥
Blamed t ps (EqualPieces k) = ⊥
Blamed t ps BarsFull = ⊥
Blamed t ps NoMemory = ⊥
