-- The first that is there of f 0, f 1, and so on below a bound: how the lowest fault of a row is told.
use Rattle.std.specs.Prelude.{◌≡◌, ℕ, zero, suc, ◌<◌, Some, None, Option}

abbrev pub or_else : {X : Type 0} → Option X → Option X → Option X
or_else None y = y
or_else (Some x) y = Some x

abbrev pub first_below : {X : Type 0} → (ℕ → Option X) → ℕ → Option X
first_below f zero = None
first_below f (suc n) = or_else (first_below f n) (f n)

-- x stands at some k below n, and nothing before it
abbrev pub IsFirst : {X : Type 0} → (ℕ → Option X) → ℕ → X → Type 0
IsFirst f n x = (k : ℕ) × (k < n) × (f k ≡ Some x) × ((m : ℕ) → m < k → f m ≡ None)
