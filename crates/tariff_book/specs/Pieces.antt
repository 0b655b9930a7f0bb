-- The limits of a piece's record.
use Rattle.std.specs.Prelude.{ℕ, ◌<◌, ◌≤◌, Bool, cond, ◌&&◌, Some, None, Option, nat_le, nat_lt}
use Rattle.books.specs.declared.fault.BookFault.{BookFault}
use Rattle.books.specs.declared.fault.BookFault.TheVariants.{RecordOutside}
use Rattle.tariff_book.specs.declared.piece.Piece.{Piece}

-- the record of a piece, by its minutes and places
abbrev pub piece_of : ℕ → ℕ → ℕ → ℕ → Piece
piece_of starts ends origin destination = record { starts = starts; ends = ends; origin = origin; destination = destination }

-- a start minute of 0 to 2,879 and a later end minute up to 2,880
abbrev pub GoodPiece : Piece → Type 0
GoodPiece p = (p.starts ≤ 2879) × (p.starts < p.ends) × (p.ends ≤ 2880)

abbrev pub good_piece : Piece → Bool
good_piece p = nat_le p.starts 2879 && nat_lt p.starts p.ends && nat_le p.ends 2880

-- the fault of the record of the piece with this number
abbrev pub piece_fault : ℕ → Piece → Option BookFault
piece_fault number p = cond (good_piece p) None (Some (RecordOutside number))
