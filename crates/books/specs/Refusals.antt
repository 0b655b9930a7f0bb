-- How a refusal is told: its number, and what it names.
use Rattle.std.specs.Prelude.{ℕ}
use Rattle.books.specs.declared.refusal.Named.TheVariants.{Nothing, One, Two}
use Rattle.books.specs.declared.refusal.Refusal.{Refusal}

abbrev pub told_plain : ℕ → Refusal
told_plain n = record { number = n; names = Nothing }

abbrev pub told_naming : ℕ → ℕ → Refusal
told_naming n x = record { number = n; names = One x }

abbrev pub told_naming_two : ℕ → ℕ → ℕ → Refusal
told_naming_two n x y = record { number = n; names = Two x y }
