-- How each refusal of a book is told: its number, and the line, term or piece that it names.
use Rattle.books.specs.declared.refusal.Refusal.{Refusal}
use Rattle.books.specs.declared.fault.BookFault.{BookFault}
use Rattle.books.specs.declared.fault.BookFault.TheVariants.{TooManyPieces, TooManyLines, LineOutside, LineOrder, CostTooHigh, AmountTooHigh, TermOutside, RecordOutside, PieceOutside, EqualPieces, BarsFull, NoMemory}
use Rattle.books.specs.Refusals.{told_plain, told_naming}

abbrev pub refusal : BookFault → Refusal
refusal TooManyPieces = told_plain 1
refusal TooManyLines = told_plain 2
refusal (LineOutside line) = told_naming 3 line
refusal (LineOrder line) = told_naming 4 line
refusal (CostTooHigh line) = told_naming 5 line
refusal AmountTooHigh = told_plain 5
refusal (TermOutside term) = told_naming 6 term
refusal (RecordOutside piece) = told_naming 7 piece
refusal (PieceOutside piece) = told_naming 8 piece
refusal (EqualPieces piece) = told_naming 9 piece
refusal BarsFull = told_plain 10
refusal NoMemory = told_plain 0
