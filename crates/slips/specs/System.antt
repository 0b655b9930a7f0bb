-- The standard of a priced slip: a linear system of shares of pairs, its prices, and when the two meet.
use Rattle.std.specs.Prelude.{◌≡◌, ℕ, zero, suc, ◌+◌, ◌*◌, ◌%◌, ◌<◌, ◌≤◌, Bool, false, cond, not, ◌&&◌, ◌≢◌, ◌⊎◌, length, ℤ, pos, negsuc, ◌+ℤ◌, ◌*ℤ◌, ◌≤ℤ◌, is_some, ◌==◌, nat_lt}
use Rattle.ranges.specs.Sums.{count_below}
use Rattle.slips.specs.declared.slip.PieceRecord.{PieceRecord}
use Rattle.slips.specs.declared.slip.GroupRecord.{GroupRecord}
use Rattle.slips.specs.Problem.{Problem, Live, Allowed, pence, pairing_cost}
use Rattle.slips.specs.View.{View, piece_at, mate, price, group, group_at}
use Rattle.slips.specs.Groups.{inside, splits, price_side}

-- f 0 + f 1 + .. + f (n - 1), over the integers
abbrev pub sum_int_below : ℕ → (ℕ → ℤ) → ℤ
sum_int_below zero f = pos 0
sum_int_below (suc n) f = sum_int_below n f +ℤ f n

-- how many live pieces a set has
abbrev pub live_in : Problem → (ℕ → Bool) → ℕ
live_in p set = count_below p.size (λ u. p.live u && set u)

-- an odd number of live pieces, at least three
pub record OddSet (p : Problem) (set : ℕ → Bool) : Type 0 where
  pub odd : live_in p set % 2 ≡ 1
  pub three : 3 ≤ live_in p set

-- the shares of the pairs that leave a set, each pair taken once
abbrev pub crossing : Problem → (ℕ → ℕ → ℤ) → (ℕ → Bool) → ℤ
crossing p x set = sum_int_below p.size (λ u. sum_int_below p.size (λ v. cond (nat_lt u v && splits set u v) (x u v) (pos 0)))

-- what shares cost together, in d-ths of pence, each pair taken once
abbrev pub share_cost : Problem → (ℕ → ℕ → ℤ) → ℤ
share_cost p x = sum_int_below p.size (λ u. sum_int_below p.size (λ v. cond (nat_lt u v) (x u v *ℤ pos (pence p u v)) (pos 0)))

-- shares of pairs, counted in d-ths: a pair has a share only where it is an allowed pair of live pieces
pub record Shares (p : Problem) (d : ℕ) (x : ℕ → ℕ → ℤ) : Type 0 where
  pub of_pairs : (u v : ℕ) → x u v ≢ pos 0 → Live p u × Live p v × Allowed p u v
  pub either_order : (u v : ℕ) → x u v ≡ x v u
  -- every live piece is in exactly one duty
  pub each_once : (u : ℕ) → Live p u → sum_int_below p.size (x u) ≡ pos d
  -- no share is negative
  pub not_negative : (u v : ℕ) → pos 0 ≤ℤ x u v
  -- every odd set of at least three live pieces is left by at least one duty
  pub odd_sets_left : (set : ℕ → Bool) → OddSet p set → pos d ≤ℤ crossing p x set

-- prices of pieces and groups that no pair exceeds
pub record Bounded (p : Problem) (s : View) : Type 0 where
  -- the prices of a pair are at most twice its cost
  pub pairs : (u v : ℕ) → Live p u → Live p v → u < v → Allowed p u v → price_side s u v ≤ℤ pos (2 * pence p u v)
  -- no group has a negative price
  pub groups : (k : ℕ) → k < s.count → pos 0 ≤ℤ (group_at s k).price

-- shares and prices meet
pub record Meeting (p : Problem) (s : View) (d : ℕ) (x : ℕ → ℕ → ℤ) : Type 0 where
  -- a pair with a share has prices of just twice its cost
  pub tight : (u v : ℕ) → u < v → x u v ≢ pos 0 → price_side s u v ≡ pos (2 * pence p u v)
  -- a group with a price is left by exactly one duty
  pub left_once : (k : ℕ) → k < s.count → (group_at s k).price ≢ pos 0 → crossing p x (inside s (suc k)) ≡ pos d

-- two pieces of a slip are mates: they name each other, are live, and are an allowed pair
abbrev pub mates : Problem → View → ℕ → ℕ → Bool
mates p s u v = p.live u && (p.live v && (not (u == v) && (mate s u == v && (mate s v == u && is_some (p.cost u v)))))

-- the shares of a slip: 1 for mates, else 0
abbrev pub share : Problem → View → ℕ → ℕ → ℤ
share p s u v = cond (mates p s u v) (pos 1) (pos 0)

-- records that say nothing
pub record BlankPiece (r : PieceRecord) : Type 0 where
  pub mate : r.mate ≡ 65535
  pub price : r.price ≡ pos 0
  pub group : r.group ≡ 0

pub record BlankGroup (r : GroupRecord) : Type 0 where
  pub price : r.price ≡ pos 0
  pub parent : r.parent ≡ 0

-- the greatest price, with either sign, in half pence: 10 to the 15th
abbrev pub most_price : ℕ
most_price = 1000000000000000

abbrev pub WithinLimits : ℤ → Type 0
WithinLimits z = (negsuc (999999999999999) ≤ℤ z) × (z ≤ℤ pos most_price)

-- a parent is 0 or a higher number up to the count
abbrev pub LawfulParent : View → ℕ → Type 0
LawfulParent s k = ((group_at s k).parent ≡ 0) ⊎ ((k + 1 < (group_at s k).parent) × ((group_at s k).parent ≤ s.count))

-- the form and the limits of a priced slip
pub record PricedForm (p : Problem) (s : View) : Type 0 where
  pub kind : s.kind ≡ 1
  pub piece_records : length s.pieces ≡ p.size
  pub group_records : length s.groups ≡ 127
  pub struck_blank : (u : ℕ) → u < p.size → p.live u ≡ false → BlankPiece (piece_at s u)
  pub prices_within : (u : ℕ) → Live p u → WithinLimits (price s u)
  pub groups_known : (u : ℕ) → Live p u → group s u ≤ s.count
  pub few_groups : s.count ≤ 127
  pub rest_blank : (k : ℕ) → s.count ≤ k → k < 127 → BlankGroup (group_at s k)
  pub group_prices : (k : ℕ) → k < s.count → (pos 1 ≤ℤ (group_at s k).price) × ((group_at s k).price ≤ℤ pos most_price)
  pub parents : (k : ℕ) → k < s.count → LawfulParent s k
  pub odd_groups : (k : ℕ) → k < s.count → OddSet p (inside s (suc k))
  pub total : s.total ≡ pairing_cost p (mate s)

-- what a priced slip is to show
pub record Certificate (p : Problem) (s : View) : Type 0 where
  pub form : PricedForm p s
  pub shares : Shares p 1 (share p s)
  pub bounded : Bounded p s
  pub meeting : Meeting p s 1 (share p s)
