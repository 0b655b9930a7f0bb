-- What a tariff means, and which fault its terms and records have.
use Rattle.std.specs.Prelude.{ℕ, cond, ◌&&◌, List, length, Some, None, Option, nat_le, nat_lt, slice_index_or}
use Rattle.books.specs.declared.fault.BookFault.{BookFault}
use Rattle.books.specs.declared.fault.BookFault.TheVariants.{TooManyPieces}
use Rattle.books.specs.Limits.{most_pieces}
use Rattle.ranges.specs.First.{or_else, first_below}
use Rattle.books.specs.Table.{Table}
use Rattle.tariff_book.specs.declared.piece.Piece.{Piece}
use Rattle.tariff_book.specs.declared.terms.Terms.{Terms}
use Rattle.tariff_book.specs.Pieces.{piece_fault}
use Rattle.tariff_book.specs.Terms.{terms_fault}
use Rattle.tariff_book.specs.Duties.{pieces_cost}

-- the record of piece k
abbrev pub piece : List Piece → ℕ → Piece
piece ps k = slice_index_or ps k (record { starts = 0; ends = 0; origin = 0; destination = 0 })

abbrev pub tariff_table : Terms → List Piece → Table
tariff_table t ps = record {
  count = length ps;
  cost = λ i j. cond (nat_lt i (length ps) && nat_lt j (length ps)) (pieces_cost t (piece ps i) (piece ps j)) None;
}

-- the fault of the lowest piece whose record is outside its limits
abbrev pub pieces_fault : List Piece → Option BookFault
pieces_fault ps = first_below (λ k. piece_fault k (piece ps k)) (length ps)

-- the first fault of terms and records
abbrev pub tariff_fault : Terms → List Piece → Option BookFault
tariff_fault t ps = cond (nat_le (length ps) most_pieces) (or_else (terms_fault t) (pieces_fault ps)) (Some TooManyPieces)
