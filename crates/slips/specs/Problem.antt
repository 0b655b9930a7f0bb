-- What is to be paired: live pieces, and what each two of them cost. What a pairing is, and what it costs.
use Rattle.std.specs.Prelude.{◌≡◌, ℕ, ◌<◌, Bool, true, cond, ◌&&◌, ◌≢◌, List, length, is_some, Option, nat_le, nat_lt, slice_index}
use Rattle.std.specs.Option.{unwrap_or}
use Rattle.ranges.specs.Sums.{sum_below}
use Rattle.books.specs.Table.{Table}

-- pieces are the numbers below `size`; of these some are live. Two pieces have a cost, or are barred (`None`)
pub record Problem : Type 0 where
  pub size : ℕ
  pub live : ℕ → Bool
  pub cost : ℕ → ℕ → Option ℕ

-- a piece is live where its mark is 0 or 1
abbrev pub live_by : List ℕ → ℕ → Bool
live_by marks u = nat_lt u (length marks) && nat_le (slice_index marks u) 1

-- the problem of a book's table and the planner's marks
abbrev pub problem : Table → List ℕ → Problem
problem t marks = record { size = t.count; live = λ u. nat_lt u t.count && live_by marks u; cost = t.cost }

pub record Live (p : Problem) (u : ℕ) : Type 0 where
  pub below : u < p.size
  pub marked : p.live u ≡ true

-- a pair with a cost is allowed
abbrev pub Allowed : Problem → ℕ → ℕ → Type 0
Allowed p u v = is_some (p.cost u v) ≡ true

-- the cost of an allowed pair, in pence
abbrev pub pence : Problem → ℕ → ℕ → ℕ
pence p u v = unwrap_or (p.cost u v) 0

-- `mate` puts each live piece into exactly one allowed pair of live pieces
pub record Pairing (p : Problem) (mate : ℕ → ℕ) : Type 0 where
  pub lives : (u : ℕ) → Live p u → Live p (mate u)
  pub other : (u : ℕ) → Live p u → mate u ≢ u
  pub back : (u : ℕ) → Live p u → mate (mate u) ≡ u
  pub allowed : (u : ℕ) → Live p u → Allowed p u (mate u)

-- u is the lower piece of a pair
abbrev pub leads : Problem → (ℕ → ℕ) → ℕ → Bool
leads p mate u = p.live u && nat_lt u (mate u)

-- f summed over the pairs, each taken once, as lower piece and higher piece
abbrev pub sum_pairs : Problem → (ℕ → ℕ) → (ℕ → ℕ → ℕ) → ℕ
sum_pairs p mate f = sum_below p.size (λ u. cond (leads p mate u) (f u (mate u)) 0)

-- what a pairing costs
abbrev pub pairing_cost : Problem → (ℕ → ℕ) → ℕ
pairing_cost p mate = sum_pairs p mate (pence p)
