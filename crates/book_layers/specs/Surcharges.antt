-- What a surcharge layer means: the table below, dearer by the amount for each marked end of a pair, up to the greatest cost.
use Rattle.std.specs.Prelude.{◌≡◌, ℕ, ◌+◌, ◌*◌, min, Bool, true, false, cond, List, Some, None, Option, ◌≢◌, nat_le, nat_lt, slice_index_or}
use Rattle.std.specs.Option.{option_map}
use Rattle.books.specs.declared.fault.BookFault.{BookFault}
use Rattle.books.specs.declared.fault.BookFault.TheVariants.{PieceOutside, AmountTooHigh}
use Rattle.books.specs.Limits.{most_cost}
use Rattle.books.specs.Table.{Table}

abbrev pub marked : List Bool → ℕ → Bool
marked ms i = slice_index_or ms i false

-- how many of two pieces are marked
abbrev pub ends_marked : List Bool → ℕ → ℕ → ℕ
ends_marked ms i j = cond (marked ms i) 1 0 + cond (marked ms j) 1 0

abbrev pub surcharged : Table → ℕ → List Bool → Table
surcharged t amount ms = record {
  count = t.count;
  cost = λ i j. option_map (λ c. min (c + amount * ends_marked ms i j) most_cost) (t.cost i j);
}

abbrev pub mark_fault : ℕ → ℕ → Option BookFault
mark_fault n i = cond (nat_lt i n) None (Some (PieceOutside i))

abbrev pub amount_fault : ℕ → Option BookFault
amount_fault a = cond (nat_le a most_cost) None (Some AmountTooHigh)

-- a surcharge over a table, end by end: barred stays barred, pairs of two unmarked pieces cost what they cost below, each marked end adds the
-- amount, and no cost passes the greatest
pub record Surcharges (t below : Table) (amount : ℕ) (ms : List Bool) : Type 0 where
  pub count : t.count ≡ below.count
  pub barred : (i j : ℕ) → below.cost i j ≡ None → t.cost i j ≡ None
  pub unmarked : (i j : ℕ) → marked ms i ≡ false → marked ms j ≡ false → t.cost i j ≡ below.cost i j
  pub one_end : (i j c : ℕ) → marked ms i ≡ true → marked ms j ≡ false → below.cost i j ≡ Some c → t.cost i j ≡ Some (min (c + amount) most_cost)
  pub other_end : (i j c : ℕ) → marked ms i ≡ false → marked ms j ≡ true → below.cost i j ≡ Some c → t.cost i j ≡ Some (min (c + amount) most_cost)
  pub both_ends : (i j c : ℕ) → marked ms i ≡ true → marked ms j ≡ true → below.cost i j ≡ Some c → t.cost i j ≡ Some (min (c + (amount + amount)) most_cost)

-- no pair but those of one piece changes
abbrev pub PieceOnly : Table → Table → ℕ → Type 0
PieceOnly t u p = (a b : ℕ) → (a ≢ p) → (b ≢ p) → u.cost a b ≡ t.cost a b
