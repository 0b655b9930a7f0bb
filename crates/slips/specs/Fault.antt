-- How each fault of a slip is told: its number, and what it names.
use Rattle.books.specs.declared.refusal.Refusal.{Refusal}
use Rattle.books.specs.Refusals.{told_plain, told_naming, told_naming_two}
use Rattle.slips.specs.declared.fault.SlipFault.{SlipFault}
use Rattle.slips.specs.declared.fault.SlipFault.TheVariants.{Shape, Piece, Group, Prices, Crossing, Total, Gap}

abbrev pub slip_refusal : SlipFault → Refusal
slip_refusal Shape = told_plain 17
slip_refusal (Piece u) = told_naming 18 u
slip_refusal (Group h) = told_naming 19 h
slip_refusal (Prices u v) = told_naming_two 20 u v
slip_refusal (Crossing h) = told_naming 21 h
slip_refusal Total = told_plain 22
slip_refusal Gap = told_plain 23
