-- What the tests of a piece's record and of a group's record say.
use Rattle.std.proofs.Common.{◌≡◌, ℕ, ◌+◌, ◌%◌, ◌<◌, ◌≤◌, Bool, true, false, cond, not, ◌&&◌, ◌||◌, eqb, ltb, leb, ◌≢◌, ◌⊎◌, ℤ, pos, ◌≤ℤ◌, is_some, sym, ◌∙◌, arith}
use lib.Signed.{le_z}
use Rattle.std.proofs.lemmas.Bool.Decides.{nat_tests}
use Rattle.std.proofs.lemmas.Int.{ints}
use Rattle.std.proofs.lemmas.Bool.{and_parts, and_from, eqb-true, eq-eqb, cond-false}
use Rattle.slips.specs.declared.slip.PieceRecord.{PieceRecord}
use Rattle.slips.specs.declared.slip.GroupRecord.{GroupRecord}
use Rattle.slips.specs.Problem.{Problem, Allowed}
use Rattle.slips.specs.View.{View, piece_at, mate, price, group, group_at}
use Rattle.slips.specs.System.{BlankPiece, BlankGroup, WithinLimits, most_price, LawfulParent, live_in, OddSet}
use Rattle.slips.specs.Verdict.{eq_int, blank_piece, blank_group, within_limits, piece_good, lawful_parent, group_good, odd_three}

pub le_is : (a b : ℤ) → le_z a b ≡ true → a ≤ℤ b
le_is a b e = omega (arith, ints)

pub le_from : (a b : ℤ) → a ≤ℤ b → le_z a b ≡ true
le_from a b h = grind (arith, ints)

pub eq_int_is : (a b : ℤ) → eq_int a b ≡ true → a ≡ b
eq_int_is a b e = let h = and_parts (le_z a b) (le_z b a) e in let l = le_is a b h.0 in let m = le_is b a h.1 in omega (arith, ints)

pub eq_int_from : (a b : ℤ) → a ≡ b → eq_int a b ≡ true
eq_int_from a b e = and_from (le_z a b) (le_z b a) (le_from a b (omega (arith, ints))) (le_from b a (omega (arith, ints)))

-- blank records
pub blank_piece_is : (r : PieceRecord) → blank_piece r ≡ true → BlankPiece r
blank_piece_is r e =
    let a = and_parts (eqb r.mate 65535) (eq_int r.price (pos 0) && eqb r.group 0) e in
    let b = and_parts (eq_int r.price (pos 0)) (eqb r.group 0) a.1 in
    record { mate = eqb-true r.mate 65535 a.0; price = eq_int_is r.price (pos 0) b.0; group = eqb-true r.group 0 b.1 }

pub blank_piece_from : (r : PieceRecord) → BlankPiece r → blank_piece r ≡ true
blank_piece_from r b =
    and_from (eqb r.mate 65535) (eq_int r.price (pos 0) && eqb r.group 0) (eq-eqb r.mate 65535 b.mate)
    (and_from (eq_int r.price (pos 0)) (eqb r.group 0) (eq_int_from r.price (pos 0) b.price) (eq-eqb r.group 0 b.group))

pub blank_group_is : (r : GroupRecord) → blank_group r ≡ true → BlankGroup r
blank_group_is r e =
    let b = and_parts (eq_int r.price (pos 0)) (eqb r.parent 0) e in
    record { price = eq_int_is r.price (pos 0) b.0; parent = eqb-true r.parent 0 b.1 }

pub blank_group_from : (r : GroupRecord) → BlankGroup r → blank_group r ≡ true
blank_group_from r b = and_from (eq_int r.price (pos 0)) (eqb r.parent 0) (eq_int_from r.price (pos 0) b.price) (eq-eqb r.parent 0 b.parent)

-- the records above the count
pub rest_is : (k c : ℕ) (b : Bool) → (ltb k c || b) ≡ true → c ≤ k → b ≡ true
rest_is k c b e h = grind (arith, nat_tests)

pub rest_from : (k c : ℕ) (b : Bool) → (c ≤ k → b ≡ true) → (ltb k c || b) ≡ true
rest_from k c b h = grind (arith, nat_tests)

-- prices within their limits
pub limits_is : (z : ℤ) → within_limits z ≡ true → WithinLimits z
limits_is z e = (grind (arith, ints), grind (arith, ints))

pub limits_from : (z : ℤ) → WithinLimits z → within_limits z ≡ true
limits_from z h = grind (arith, ints)

-- the record of a live piece, over plain numbers
live_parts : (live mate_live some within blank : Bool) (m back u g c : ℕ) → live ≡ true
    → cond live ((mate_live && (not (eqb m u) && eqb back u)) && (some && (within && leb g c))) blank ≡ true
    → (mate_live ≡ true) × (m ≢ u) × (back ≡ u) × (some ≡ true) × (within ≡ true) × (g ≤ c)
live_parts live mate_live some within blank m back u g c l e =
    (grind (arith, nat_tests), grind (arith, nat_tests), grind (arith, nat_tests), grind (arith, nat_tests), grind (arith, nat_tests), grind (arith, nat_tests))

live_whole : (live mate_live some within blank : Bool) (m back u g c : ℕ) → live ≡ true → mate_live ≡ true → m ≢ u → back ≡ u → some ≡ true → within ≡ true → g ≤ c
    → cond live ((mate_live && (not (eqb m u) && eqb back u)) && (some && (within && leb g c))) blank ≡ true
live_whole live mate_live some within blank m back u g c l ml n b so w h = grind (arith, nat_tests)

-- what the record of a live piece says
pub record GoodPiece (p : Problem) (s : View) (u : ℕ) : Type 0 where
  pub lives : p.live (mate s u) ≡ true
  pub other : mate s u ≢ u
  pub back : mate s (mate s u) ≡ u
  pub allowed : Allowed p u (mate s u)
  pub within : WithinLimits (price s u)
  pub known : group s u ≤ s.count

pub piece_is : (p : Problem) (s : View) (u : ℕ) → p.live u ≡ true → piece_good p s u ≡ true → GoodPiece p s u
piece_is p s u l e =
    let h = live_parts (p.live u) (p.live (mate s u)) (is_some (p.cost u (mate s u))) (within_limits (price s u)) (blank_piece (piece_at s u)) (mate s u) (mate s (mate s u)) u (group s u) s.count l e in
    record { lives = h.0; other = h.1; back = h.2; allowed = h.3; within = limits_is (price s u) h.4; known = h.5 }

pub piece_from : (p : Problem) (s : View) (u : ℕ) → p.live u ≡ true → GoodPiece p s u → piece_good p s u ≡ true
piece_from p s u l g =
    live_whole (p.live u) (p.live (mate s u)) (is_some (p.cost u (mate s u))) (within_limits (price s u)) (blank_piece (piece_at s u)) (mate s u) (mate s (mate s u)) u (group s u) s.count
    l g.lives g.other g.back g.allowed (limits_from (price s u) g.within) g.known

-- the record of a struck piece
pub struck_is : (p : Problem) (s : View) (u : ℕ) → p.live u ≡ false → piece_good p s u ≡ true → BlankPiece (piece_at s u)
struck_is p s u l e = blank_piece_is (piece_at s u) (sym (cond-false (p.live u) _ (blank_piece (piece_at s u)) l) ∙ e)

pub struck_from : (p : Problem) (s : View) (u : ℕ) → p.live u ≡ false → BlankPiece (piece_at s u) → piece_good p s u ≡ true
struck_from p s u l b = cond-false (p.live u) _ (blank_piece (piece_at s u)) l ∙ blank_piece_from (piece_at s u) b

-- parents, over plain numbers
parent_parts : (h k c : ℕ) → (eqb h 0 || (ltb (k + 1) h && leb h c)) ≡ true → (h ≡ 0) ⊎ ((k + 1 < h) × (h ≤ c))
parent_parts h k c e = grind (arith, nat_tests)

parent_whole : (h k c : ℕ) → (h ≡ 0) ⊎ ((k + 1 < h) × (h ≤ c)) → (eqb h 0 || (ltb (k + 1) h && leb h c)) ≡ true
parent_whole h k c e = grind (arith, nat_tests)

-- a group's price and parent
pub group_is : (s : View) (k : ℕ) → group_good s k ≡ true → ((pos 1 ≤ℤ (group_at s k).price) × ((group_at s k).price ≤ℤ pos most_price)) × LawfulParent s k
group_is s k e =
    let a = and_parts (le_z (pos 1) (group_at s k).price) (le_z (group_at s k).price (pos most_price) && lawful_parent s k) e in
    let b = and_parts (le_z (group_at s k).price (pos most_price)) (lawful_parent s k) a.1 in
    ((le_is (pos 1) (group_at s k).price a.0, le_is (group_at s k).price (pos most_price) b.0), parent_parts (group_at s k).parent k s.count b.1)

pub group_from : (s : View) (k : ℕ) → pos 1 ≤ℤ (group_at s k).price → (group_at s k).price ≤ℤ pos most_price → LawfulParent s k → group_good s k ≡ true
group_from s k low high up =
    and_from (le_z (pos 1) (group_at s k).price) (le_z (group_at s k).price (pos most_price) && lawful_parent s k) (le_from (pos 1) (group_at s k).price low)
    (and_from (le_z (group_at s k).price (pos most_price)) (lawful_parent s k) (le_from (group_at s k).price (pos most_price) high) (parent_whole (group_at s k).parent k s.count up))

-- an odd number, at least three
odd_parts_of : (r n : ℕ) → (eqb r 1 && leb 3 n) ≡ true → (r ≡ 1) × (3 ≤ n)
odd_parts_of r n e = (grind (arith, nat_tests), grind (arith, nat_tests))

odd_whole : (r n : ℕ) → r ≡ 1 → 3 ≤ n → (eqb r 1 && leb 3 n) ≡ true
odd_whole r n e h = grind (arith, nat_tests)

pub odd_is : (p : Problem) (set : ℕ → Bool) → odd_three (live_in p set) ≡ true → OddSet p set
odd_is p set e = let h = odd_parts_of (live_in p set % 2) (live_in p set) e in record { odd = h.0; three = h.1 }

pub odd_from : (p : Problem) (set : ℕ → Bool) → OddSet p set → odd_three (live_in p set) ≡ true
odd_from p set o = odd_whole (live_in p set % 2) (live_in p set) o.odd o.three
