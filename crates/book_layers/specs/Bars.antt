-- What a bar layer means: the table below without the pairs that the layer holds.
use Rattle.std.specs.Prelude.{◌≡◌, ℕ, ◌+◌, ◌<◌, ◌≤◌, Bool, false, cond, not, ◌&&◌, ◌||◌, List, length, Some, None, Option, ◌≢◌, nat_lt}
use Rattle.books.specs.declared.fault.BookFault.{BookFault}
use Rattle.books.specs.declared.fault.BookFault.TheVariants.{TooManyPieces, TooManyLines, LineOutside, LineOrder, CostTooHigh, AmountTooHigh, TermOutside, RecordOutside, PieceOutside, EqualPieces, BarsFull, NoMemory}
use Rattle.ranges.specs.First.{or_else}
use Rattle.books.specs.Asked.{FirstOutside}
use Rattle.books.specs.Table.{Table}
use Rattle.book_layers.specs.declared.pair.Pair.{Pair}
use Rattle.book_layers.specs.Pairs.{pair_of, is_pair, held, pair_fault}

-- how many pairs a layer bars at most
abbrev pub most_bars : ℕ
most_bars = 64

abbrev pub bar_table : Table → List Pair → Table
bar_table t ps = record { count = t.count; cost = λ i j. cond (held ps i j) None (t.cost i j) }

-- the fault of a bar: the pair's own, and where the pair is not held yet, that no more fit
abbrev pub bar_fault : ℕ → List Pair → ℕ → ℕ → Option BookFault
bar_fault n ps i j = or_else (pair_fault n i j) (cond (held ps i j) None (cond (nat_lt (length ps) most_bars) None (Some BarsFull)))

-- a pair (a, b) is the pair (i, j), in either order
abbrev pub same_two : ℕ → ℕ → ℕ → ℕ → Bool
same_two a b i j = is_pair (pair_of a b) i j

-- the pairs qs are the pairs ps with (i, j)
pub record Adds (ps qs : List Pair) (i j : ℕ) : Type 0 where
  pub holds : (a b : ℕ) → held qs a b ≡ (same_two a b i j || held ps a b)
  pub number : length qs ≡ cond (held ps i j) (length ps) (length ps + 1)

-- the pairs qs are the pairs ps without (i, j)
pub record Drops (ps qs : List Pair) (i j : ℕ) : Type 0 where
  pub holds : (a b : ℕ) → held qs a b ≡ (not (same_two a b i j) && held ps a b)
  pub number : length qs + cond (held ps i j) 1 0 ≡ length ps

-- (a, b) is another pair than (i, j), in either order
abbrev pub Other : ℕ → ℕ → ℕ → ℕ → Type 0
Other a b i j = (a ≡ i → b ≢ j) × (a ≡ j → b ≢ i)

-- a bar bars its pair, in either order, and changes no other
pub record BarsOnly (t u : Table) (i j : ℕ) : Type 0 where
  pub count : u.count ≡ t.count
  pub here : (u.cost i j ≡ None) × (u.cost j i ≡ None)
  pub elsewhere : (a b : ℕ) → Other a b i j → u.cost a b ≡ t.cost a b

-- a lifted pair answers as the book below, in either order, and no other changes
pub record LiftsOnly (below t u : Table) (i j : ℕ) : Type 0 where
  pub count : u.count ≡ t.count
  pub here : (u.cost i j ≡ below.cost i j) × (u.cost j i ≡ below.cost j i)
  pub elsewhere : (a b : ℕ) → Other a b i j → u.cost a b ≡ t.cost a b

-- why two pieces are refused: a number that is no piece, of which the first is named, or else one piece twice
abbrev pub PairBlamed : ℕ → ℕ → ℕ → BookFault → Type 0
PairBlamed n i j (PieceOutside p) = FirstOutside n i j p
PairBlamed n i j (EqualPieces p) = (i < n) × (i ≡ j) × (p ≡ i)
PairBlamed n i j TooManyPieces = ⊥
PairBlamed n i j TooManyLines = ⊥
PairBlamed n i j (LineOutside k) = ⊥
PairBlamed n i j (LineOrder k) = ⊥
PairBlamed n i j (CostTooHigh k) = ⊥
PairBlamed n i j AmountTooHigh = ⊥
PairBlamed n i j (TermOutside k) = ⊥
PairBlamed n i j (RecordOutside k) = ⊥
PairBlamed n i j BarsFull = ⊥
PairBlamed n i j NoMemory = ⊥

-- two different pieces of the book
abbrev pub TwoPieces : ℕ → ℕ → ℕ → Type 0
TwoPieces n i j = (i < n) × (j < n) × (i ≢ j)

-- why a bar is refused: the pair's own cause, or that it is one more than the layer holds
abbrev pub BarBlamed : ℕ → List Pair → ℕ → ℕ → BookFault → Type 0
BarBlamed n ps i j BarsFull = TwoPieces n i j × (held ps i j ≡ false) × (most_bars ≤ length ps)
BarBlamed n ps i j (PieceOutside p) = PairBlamed n i j (PieceOutside p)
BarBlamed n ps i j (EqualPieces p) = PairBlamed n i j (EqualPieces p)
BarBlamed n ps i j TooManyPieces = ⊥
BarBlamed n ps i j TooManyLines = ⊥
BarBlamed n ps i j (LineOutside k) = ⊥
BarBlamed n ps i j (LineOrder k) = ⊥
BarBlamed n ps i j (CostTooHigh k) = ⊥
BarBlamed n ps i j AmountTooHigh = ⊥
BarBlamed n ps i j (TermOutside k) = ⊥
BarBlamed n ps i j (RecordOutside k) = ⊥
BarBlamed n ps i j NoMemory = ⊥
