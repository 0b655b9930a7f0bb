-- The order of lines, and what a search among lines that rise may pass over.
use Rattle.std.specs.Prelude.{◌≡◌, ℕ, ◌+◌, ◌<◌, ◌≤◌, true, false, List, length, Some, None, Option, ◌≢◌, refl}
use Rattle.std.proofs.Common.{ap, ◌∙◌, ⊎_elim, arith}
use Rattle.std.proofs.lemmas.Bool.Decides.{nat_tests}
use Rattle.std.proofs.lemmas.Bool.{cases_Bool, cases_eq, cases_lt, both_ways}
use Rattle.ranges.proofs.First.{first_absent, first_found}
use Rattle.list_book.specs.declared.line.Line.{Line}
use Rattle.list_book.specs.Lines.{line, precedes, cost_on, line_cost}
use Rattle.list_book.specs.Listed.{Rising, Parted}

pub precedes_on : (p q : Line) (i j : ℕ) → precedes p q.lower q.higher ≡ true → precedes q i j ≡ true → precedes p i j ≡ true
precedes_on p q i j a b = grind (arith, nat_tests)

-- a line before one that stands before a pair stands before it too
pub under_more : (ls : List Line) (m i j : ℕ) → Rising ls → m < length ls → precedes (line ls m) i j ≡ true → (k : ℕ) → k < m + 1 → precedes (line ls k) i j ≡ true
under_more ls m i j up h e k l =
    ⊎_elim
    (λ (q : k ≡ m). ap (λ x. precedes (line ls x) i j) q ∙ e)
    (λ (q : k ≡ m → ⊥). precedes_on (line ls k) (line ls m) i j (up k m (omega arith) h) e)
    (cases_eq k m)

-- and a line after one that does not, does not either
pub above_more : (ls : List Line) (m i j : ℕ) → Rising ls → precedes (line ls m) i j ≡ false → (k : ℕ) → m ≤ k → k < length ls → precedes (line ls k) i j ≡ false
above_more ls m i j up e k l h =
    ⊎_elim
    (λ (t : precedes (line ls k) i j ≡ true). absurd (both_ways (precedes (line ls m) i j) e (under_more ls k i j up h t m (omega arith))))
    (λ (t : precedes (line ls k) i j ≡ false). t)
    (cases_Bool (precedes (line ls k) i j))

-- a line of another pair gives no cost
pub precedes_off : (l : Line) (i j : ℕ) → precedes l i j ≡ true → cost_on l i j ≡ None
precedes_off l i j e = grind (arith, nat_tests)

-- a line after the first that does not stand before a pair is not of the pair
off_after : (l m : Line) (i j : ℕ) → precedes l i j ≡ false → precedes l m.lower m.higher ≡ true → cost_on m i j ≡ None
off_after l m i j a b = grind (arith, nat_tests)

-- only the first line that does not stand before a pair can be of the pair
off_but_here : (ls : List Line) (i j r : ℕ) → Rising ls → Parted ls i j r → (k : ℕ) → k < length ls → (k ≢ r) → cost_on (line ls k) i j ≡ None
off_but_here ls i j r up p k h ne =
    ⊎_elim
    (λ (q : k < r). precedes_off (line ls k) i j (p.under k q))
    (λ (q : r ≤ k). off_after (line ls r) (line ls k) i j (p.above r (omega arith) (omega arith)) (up r k (omega arith) h))
    (cases_lt k r)

here_by : (ls : List Line) (i j r : ℕ) (o : Option ℕ) → Rising ls → Parted ls i j r → r < length ls → cost_on (line ls r) i j ≡ o → line_cost ls i j ≡ o
here_by ls i j r (Some c) up p h e =
    first_found (λ k. cost_on (line ls k) i j) r (length ls) c h (first_absent (λ k. cost_on (line ls k) i j) r (λ k l. precedes_off (line ls k) i j (p.under k l))) e
here_by ls i j r None up p h e =
    first_absent (λ k. cost_on (line ls k) i j) (length ls)
    (λ k l. ⊎_elim (λ (s : k ≡ r). ap (λ x. cost_on (line ls x) i j) s ∙ e) (λ (s : k ≡ r → ⊥). off_but_here ls i j r up p k l s) (cases_eq k r))

-- so that line tells the cost
pub cost_here : (ls : List Line) (i j r : ℕ) → Rising ls → Parted ls i j r → r < length ls → line_cost ls i j ≡ cost_on (line ls r) i j
cost_here ls i j r up p h = here_by ls i j r (cost_on (line ls r) i j) up p h refl

-- and where there is none, no line does
pub cost_nowhere : (ls : List Line) (i j r : ℕ) → Rising ls → Parted ls i j r → length ls ≤ r → line_cost ls i j ≡ None
cost_nowhere ls i j r up p h = first_absent (λ k. cost_on (line ls k) i j) (length ls) (λ k l. off_but_here ls i j r up p k l (λ s. omega arith))
