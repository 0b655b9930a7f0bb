-- The marks of a piece, and their bytes.
use Rattle.std.specs.Prelude.{◌≡◌, ℕ, Ok, Err, Result}
use Rattle.sheet_register.specs.Memory.{free, taken, struck}
use Rattle.sheets.specs.declared.marks.Mark.{Mark}
use Rattle.sheets.specs.declared.marks.Mark.TheVariants.{Free, Taken, Struck}
use Rattle.sheets.specs.declared.marks.UnknownMark.{UnknownMark}

abbrev pub mark_byte : Mark → ℕ
mark_byte Free = free
mark_byte Taken = taken
mark_byte Struck = struck

-- what a byte is read as: the mark of this byte, or, where no mark has it, that it is none
abbrev pub ReadsMark : ℕ → Result Mark UnknownMark → Type 0
ReadsMark n (Ok mark) = mark_byte mark ≡ n
ReadsMark n (Err e) = (e.0 ≡ n) × ((mark : Mark) → mark_byte mark ≡ n → ⊥)
