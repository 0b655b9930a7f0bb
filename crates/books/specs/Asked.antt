-- What a book answers when it is asked for the cost of two pieces.
use Rattle.std.specs.Prelude.{◌≡◌, ℕ, ◌<◌, ◌≤◌, cond, ◌⊎◌, Some, None, Ok, Err, Option, Result, nat_lt}
use Rattle.books.specs.declared.fault.BookFault.{BookFault}
use Rattle.books.specs.declared.fault.BookFault.TheVariants.{PieceOutside}
use Rattle.books.specs.Limits.{most_cost}
use Rattle.books.specs.Table.{Table}

-- the fault of two piece numbers, of which the first that is outside is named
abbrev pub outside_fault : ℕ → ℕ → ℕ → Option BookFault
outside_fault n i j = cond (nat_lt i n) (cond (nat_lt j n) None (Some (PieceOutside j))) (Some (PieceOutside i))

abbrev pub answer_or : {X : Type 0} → Option BookFault → X → Result X BookFault
answer_or None x = Ok x
answer_or (Some f) x = Err f

abbrev pub asked : Table → ℕ → ℕ → Result (Option ℕ) BookFault
asked t i j = answer_or (outside_fault t.count i j) (t.cost i j)

-- p is the first of i and j that is not below n
abbrev pub FirstOutside : ℕ → ℕ → ℕ → ℕ → Type 0
FirstOutside n i j p = ((n ≤ i) × (p ≡ i)) ⊎ ((i < n) × (n ≤ j) × (p ≡ j))

-- the law of a question's answer: a cost or barred exactly where both are pieces, and then the same in either order, barred for a piece with
-- itself, and within the limit; otherwise the refusal that names the first that is none
abbrev pub QuestionLaw : Table → ℕ → ℕ → Result (Option ℕ) BookFault → Type 0
QuestionLaw t i j (Ok c) =
    (i < t.count) × (j < t.count) × (asked t j i ≡ Ok c) × (i ≡ j → c ≡ None) × ((p : ℕ) → c ≡ Some p → p ≤ most_cost)
QuestionLaw t i j (Err f) = (p : ℕ) × (f ≡ PieceOutside p) × FirstOutside t.count i j p
