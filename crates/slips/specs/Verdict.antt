-- The tests of a slip in their order: the first that fails, with what it names.
use Rattle.std.specs.Prelude.{ℕ, suc, ◌+◌, ◌%◌, Bool, cond, not, ◌&&◌, ◌||◌, List, length, ℤ, pos, negsuc, is_some, Some, None, Option, ◌==◌, int_le, nat_le, nat_lt}
use Rattle.ranges.specs.First.{or_else, first_below}
use Rattle.ranges.specs.Every.{all_below}
use Rattle.ranges.specs.Sums.{count_below}
use Rattle.books.specs.Table.{Table}
use Rattle.slips.specs.declared.fault.SlipFault.{SlipFault}
use Rattle.slips.specs.declared.fault.SlipFault.TheVariants.{Shape, Piece, Group, Prices, Crossing, Total, Gap}
use Rattle.slips.specs.declared.slip.PieceRecord.{PieceRecord}
use Rattle.slips.specs.declared.slip.GroupRecord.{GroupRecord}
use Rattle.slips.specs.Problem.{Problem, problem, leads, pairing_cost}
use Rattle.slips.specs.View.{View, piece_at, mate, price, group, group_at}
use Rattle.slips.specs.Groups.{inside, splits, margin}
use Rattle.slips.specs.System.{most_price, live_in}
use Rattle.slips.specs.Gaps.{most_parts, part_size, odd_parts}

-- integers that are equal
abbrev pub eq_int : ℤ → ℤ → Bool
eq_int a b = int_le a b && int_le b a

-- the fault that a test gives where it fails
abbrev pub unless : Bool → SlipFault → Option SlipFault
unless ok f = cond ok None (Some f)

-- 17: the lengths of the tables, and the kind
abbrev pub shaped : ℕ → View → Bool
shaped n s = length s.pieces == n && (length s.groups == 127 && (s.kind == 1 || s.kind == 2))

abbrev pub blank_piece : PieceRecord → Bool
blank_piece r = r.mate == 65535 && (eq_int r.price (pos 0) && r.group == 0)

abbrev pub blank_group : GroupRecord → Bool
blank_group r = eq_int r.price (pos 0) && r.parent == 0

abbrev pub within_limits : ℤ → Bool
within_limits z = int_le (negsuc 999999999999999) z && int_le z (pos most_price)

-- a live piece has another live piece as mate which names it back
abbrev pub mated : Problem → View → ℕ → Bool
mated p s u = p.live (mate s u) && (not (mate s u == u) && mate s (mate s u) == u)

-- 18: the record of a piece
abbrev pub piece_good : Problem → View → ℕ → Bool
piece_good p s u =
    cond (p.live u)
    (mated p s u && (is_some (p.cost u (mate s u)) && (within_limits (price s u) && nat_le (group s u) s.count)))
    (blank_piece (piece_at s u))

abbrev pub pieces_fault : Problem → View → Option SlipFault
pieces_fault p s = first_below (λ u. unless (piece_good p s u) (Piece u)) p.size

-- 19: the count, the records above it, each group's price and parent, each group's live pieces
abbrev pub lawful_parent : View → ℕ → Bool
lawful_parent s k = (group_at s k).parent == 0 || (nat_lt (k + 1) (group_at s k).parent && nat_le (group_at s k).parent s.count)

abbrev pub group_good : View → ℕ → Bool
group_good s k = int_le (pos 1) (group_at s k).price && (int_le (group_at s k).price (pos most_price) && lawful_parent s k)

abbrev pub odd_three : ℕ → Bool
odd_three n = n % 2 == 1 && nat_le 3 n

abbrev pub rest_fault : View → Option SlipFault
rest_fault s = first_below (λ k. unless (nat_lt k s.count || blank_group (group_at s k)) (Group (k + 1))) 127

abbrev pub nest_fault : View → Option SlipFault
nest_fault s = first_below (λ k. unless (group_good s k) (Group (k + 1))) s.count

abbrev pub odd_fault : Problem → View → Option SlipFault
odd_fault p s = first_below (λ k. unless (odd_three (live_in p (inside s (suc k)))) (Group (k + 1))) s.count

abbrev pub groups_fault : Problem → View → Option SlipFault
groups_fault p s = cond (nat_le s.count 127) (or_else (rest_fault s) (or_else (nest_fault s) (odd_fault p s))) (Some (Group 0))

-- 20: the margin of each allowed pair of live pieces, rising, and of mates
abbrev pub pair_good : Problem → View → ℕ → ℕ → Bool
pair_good p s u v =
    not (nat_lt u v && (p.live u && (p.live v && is_some (p.cost u v))))
    || (int_le (pos 0) (margin p s u v) && (not (mate s u == v) || int_le (margin p s u v) (pos 0)))

abbrev pub row_fault : Problem → View → ℕ → Option SlipFault
row_fault p s u = first_below (λ v. unless (pair_good p s u v) (Prices u v)) p.size

abbrev pub prices_fault : Problem → View → Option SlipFault
prices_fault p s = first_below (row_fault p s) p.size

-- 21: how many pairs of mates leave a group
abbrev pub left_by : Problem → View → (ℕ → Bool) → ℕ
left_by p s set = count_below p.size (λ u. leads p (mate s) u && splits set u (mate s u))

abbrev pub crossings_fault : Problem → View → Option SlipFault
crossings_fault p s = first_below (λ k. unless (left_by p s (inside s (suc k)) == 1) (Crossing (k + 1))) s.count

-- 22: the total
abbrev pub total_fault : Problem → View → Option SlipFault
total_fault p s = unless (s.total == pairing_cost p (mate s)) Total

unfoldable pub priced_fault : Problem → View → Option SlipFault
priced_fault p s = or_else (pieces_fault p s) (or_else (groups_fault p s) (or_else (prices_fault p s) (or_else (crossings_fault p s) (total_fault p s))))

-- 23: a gap slip's records, its parts and its cut
abbrev pub gap_record : Problem → View → ℕ → Bool
gap_record p s u = mate s u == 65535 && (eq_int (price s u) (pos 0) && nat_le (group s u) (cond (p.live u) most_parts 0))

abbrev pub apart_good : Problem → View → ℕ → ℕ → Bool
apart_good p s u v =
    not (nat_lt u v && (p.live u && (p.live v && is_some (p.cost u v))))
    || (group s u == 0 || (group s v == 0 || group s u == group s v))

abbrev pub gap_good : Problem → View → Bool
gap_good p s =
    (s.total == 0)
    && (s.count == 0
    && (all_below 127 (λ k. blank_group (group_at s k))
    && (all_below p.size (gap_record p s)
    && (all_below p.size (λ u. all_below p.size (apart_good p s u))
    && nat_lt (part_size p (group s) 0) (odd_parts p (group s) most_parts)))))

unfoldable pub gap_fault : Problem → View → Option SlipFault
gap_fault p s = unless (gap_good p s) Gap

-- the first test that fails, of a slip under a book's table and the planner's marks
unfoldable pub verdict : Table → List ℕ → View → Option SlipFault
verdict t marks s = cond (shaped t.count s) (cond (s.kind == 1) (priced_fault (problem t marks) s) (gap_fault (problem t marks) s)) (Some Shape)
