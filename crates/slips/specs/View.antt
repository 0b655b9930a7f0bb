-- A slip as numbers and rows, whatever it holds.
use Rattle.std.specs.Prelude.{ℕ, zero, suc, List, ℤ, pos, negsuc, vec_items, slice_index_or}
use Rattle.slips.specs.declared.slip.Slip.{Slip}
use Rattle.slips.specs.declared.slip.PieceRecord.{PieceRecord}
use Rattle.slips.specs.declared.slip.GroupRecord.{GroupRecord}

pub record View : Type 0 where
  pub kind : ℕ
  pub total : ℕ
  pub count : ℕ
  pub pieces : List PieceRecord
  pub groups : List GroupRecord

abbrev pub view : Slip → View
view s = record { kind = s.kind; total = s.total; count = s.count; pieces = vec_items s.pieces; groups = vec_items s.groups }

-- the record of piece u
abbrev pub piece_at : View → ℕ → PieceRecord
piece_at s u = slice_index_or s.pieces u (record { mate = 0; price = pos 0; group = 0 })

abbrev pub mate : View → ℕ → ℕ
mate s u = (piece_at s u).mate

abbrev pub price : View → ℕ → ℤ
price s u = (piece_at s u).price

-- the innermost group around a piece, or its part
abbrev pub group : View → ℕ → ℕ
group s u = (piece_at s u).group

-- the group record at place k, which is that of group k + 1
abbrev pub group_at : View → ℕ → GroupRecord
group_at s k = slice_index_or s.groups k (record { price = pos 0; parent = 0 })

-- the group next around group h
abbrev pub parent : View → ℕ → ℕ
parent s zero = 0
parent s (suc k) = (group_at s k).parent

-- a number that is not negative, as a natural number
abbrev pub whole : ℤ → ℕ
whole (pos n) = n
whole (negsuc n) = 0

-- the price of group h; a lawful one is not negative
abbrev pub worth : View → ℕ → ℕ
worth s zero = 0
worth s (suc k) = whole (group_at s k).price
