-- The kinds of a slip that may be checked, and their numbers.
use Rattle.std.specs.Prelude.{◌≡◌, ℕ, Ok, Err, Result}
use Rattle.slips.specs.declared.slip.Kind.{Kind}
use Rattle.slips.specs.declared.slip.Kind.TheVariants.{Priced, Gap}
use Rattle.slips.specs.declared.slip.UnknownKind.{UnknownKind}

abbrev pub kind_number : Kind → ℕ
kind_number Priced = 1
kind_number Gap = 2

-- what a number is read as: the kind of this number, or, where no kind has it, that it is none
abbrev pub ReadsKind : ℕ → Result Kind UnknownKind → Type 0
ReadsKind n (Ok kind) = kind_number kind ≡ n
ReadsKind n (Err e) = (e.0 ≡ n) × ((kind : Kind) → kind_number kind ≡ n → ⊥)
