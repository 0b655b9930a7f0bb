-- The words of the parts of the check, for a slip as numbers and rows.
use Rattle.std.specs.Prelude.{ℕ, suc, Bool, cond, not, ◌&&◌, ◌||◌, None, Some, Option, ◌==◌, nat_le, nat_lt}
use Rattle.ranges.specs.First.{or_else}
use Rattle.ranges.specs.Every.{all_below}
use Rattle.ranges.specs.Sums.{sum_below}
use Rattle.slips.specs.declared.fault.SlipFault.{SlipFault}
use Rattle.slips.specs.declared.fault.SlipFault.TheVariants.{Group}
use Rattle.slips.specs.Problem.{Problem, leads, pence}
use Rattle.slips.specs.View.{View, mate, group_at, parent, worth}
use Rattle.slips.specs.Groups.{up_to, inside, splits}
use Rattle.slips.specs.Verdict.{blank_group, rest_fault, nest_fault, gap_record, apart_good}

-- what two live pieces cost, where they are an allowed pair
abbrev pub live_cost : Problem → ℕ → ℕ → Option ℕ
live_cost p u v = cond (p.live u && p.live v) (p.cost u v) None

-- what a piece adds to the mates' cost: its pair's cost where it is the lower of the two
abbrev pub lead_cost : Problem → View → ℕ → ℕ
lead_cost p s u = cond (leads p (mate s) u) (pence p u (mate s u)) 0

-- the first fault of the count of groups and of their records
abbrev pub records_fault : View → Option SlipFault
records_fault s = cond (nat_le s.count 127) (or_else (rest_fault s) (nest_fault s)) (Some (Group 0))

-- group h is group g or around it
abbrev pub holds_up : View → ℕ → ℕ → Bool
holds_up s g h = up_to (parent s) s.count g h

-- the way up from a comes before the way up from b: by the lower number, 0 last
abbrev pub first_up : ℕ → ℕ → Bool
first_up a b = b == 0 || (not (a == 0) && nat_lt a b)

-- the prices of the groups that are around exactly one of two, themselves included
abbrev pub prices_between : View → ℕ → ℕ → ℕ
prices_between s a b = sum_below s.count (λ k. cond (cond (holds_up s a (suc k)) (not (holds_up s b (suc k))) (holds_up s b (suc k))) (worth s (suc k)) 0)

-- a piece is the lower of two mates of which exactly one is inside a group
abbrev pub leaves : Problem → View → ℕ → ℕ → Bool
leaves p s h u = leads p (mate s) u && splits (inside s h) u (mate s u)

-- all group records say nothing
abbrev pub blank_groups : View → Bool
blank_groups s = all_below 127 (λ k. blank_group (group_at s k))

-- the record of each piece is that of a gap slip
abbrev pub gap_records : Problem → View → Bool
gap_records p s = all_below p.size (gap_record p s)

-- no allowed pair joins a live piece of one part with one of another
abbrev pub row_apart : Problem → View → ℕ → Bool
row_apart p s u = all_below p.size (apart_good p s u)

-- no allowed pair joins live pieces of two parts
abbrev pub parts_apart : Problem → View → Bool
parts_apart p s = all_below p.size (row_apart p s)
