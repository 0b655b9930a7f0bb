-- Pairs of pieces, and which pairs a row holds.
use Rattle.std.specs.Prelude.{ℕ, min, max, Bool, true, cond, not, ◌&&◌, List, [], ◌∷◌, Some, None, Option, ◌==◌, slice_index_or}
use Rattle.std.specs.List.{list_any}
use Rattle.books.specs.declared.fault.BookFault.{BookFault}
use Rattle.books.specs.declared.fault.BookFault.TheVariants.{EqualPieces}
use Rattle.ranges.specs.First.{or_else}
use Rattle.books.specs.Asked.{outside_fault}
use Rattle.book_layers.specs.declared.pair.Pair.{Pair}

-- two pieces, the lower first
abbrev pub pair_of : ℕ → ℕ → Pair
pair_of i j = record { lower = min i j; higher = max i j }

abbrev pub pair_at : List Pair → ℕ → Pair
pair_at ps k = slice_index_or ps k (record { lower = 0; higher = 0 })

-- the same two pieces in the same order
abbrev pub same_pair : Pair → Pair → Bool
same_pair p q = p.lower == q.lower && p.higher == q.higher

-- a row has a pair
abbrev pub has : List Pair → Pair → Bool
has ps q = list_any (λ p. same_pair p q) ps

-- a pair is of these two pieces, in either order
abbrev pub is_pair : Pair → ℕ → ℕ → Bool
is_pair p i j = same_pair p (pair_of i j)

-- a row holds these two pieces, in either order
abbrev pub held : List Pair → ℕ → ℕ → Bool
held ps i j = has ps (pair_of i j)

-- no two of a row are the same
abbrev pub apart : List Pair → Bool
apart [] = true
apart (p ∷ ps) = not (has ps p) && apart ps

-- the fault of two pieces that are to be barred or lifted, in a book of n pieces
abbrev pub pair_fault : ℕ → ℕ → ℕ → Option BookFault
pair_fault n i j = or_else (outside_fault n i j) (cond (i == j) (Some (EqualPieces i)) None)
