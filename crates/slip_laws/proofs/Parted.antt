-- A gap slip passes its test exactly when its parts show a gap.
use Rattle.std.proofs.Common.{◌≡◌, ℕ, ◌<◌, ◌≤◌, Bool, true, false, cond, not, ◌&&◌, ◌||◌, eqb, ltb, leb, ◌≢◌, length, pos, is_some, refl, arith}
use Rattle.std.proofs.lemmas.Bool.Decides.{nat_tests}
use Rattle.std.proofs.lemmas.Bool.{eqb-true, eq-eqb, ltb-true, lt-ltb}
use Rattle.ranges.specs.Every.{all_below}
use Rattle.ranges.proofs.Every.{all_is, all_from}
use Rattle.slips.specs.Problem.{Problem}
use Rattle.slips.specs.View.{View, mate, price, group, group_at}
use Rattle.slips.specs.Gaps.{most_parts, part_size, odd_parts, GapCertificate}
use Rattle.slips.specs.Verdict.{eq_int, blank_group, gap_record, apart_good, gap_good}
use Rattle.slip_laws.proofs.Records.{eq_int_is, eq_int_from, blank_group_is, blank_group_from}

-- the test's parts
pub record Parted (p : Problem) (s : View) : Type 0 where
  pub total : s.total ≡ 0
  pub count : s.count ≡ 0
  pub blank : (k : ℕ) → k < 127 → blank_group (group_at s k) ≡ true
  pub records : (u : ℕ) → u < p.size → gap_record p s u ≡ true
  pub apart : (u v : ℕ) → u < p.size → v < p.size → apart_good p s u v ≡ true
  pub more : part_size p (group s) 0 < odd_parts p (group s) most_parts

-- six tests, each after the other
six_parts : (a b c d e f : Bool) → (a && (b && (c && (d && (e && f))))) ≡ true → (a ≡ true) × (b ≡ true) × (c ≡ true) × (d ≡ true) × (e ≡ true) × (f ≡ true)
six_parts a b c d e f h = (grind arith, grind arith, grind arith, grind arith, grind arith, grind arith)

six_whole : (a b c d e f : Bool) → a ≡ true → b ≡ true → c ≡ true → d ≡ true → e ≡ true → f ≡ true → (a && (b && (c && (d && (e && f))))) ≡ true
six_whole a b c d e f g h i j k l = grind arith

pub parted : (p : Problem) (s : View) → gap_good p s ≡ true → Parted p s
parted p s e =
    let h = six_parts (eqb s.total 0) (eqb s.count 0) (all_below 127 (λ k. blank_group (group_at s k))) (all_below p.size (gap_record p s)) (all_below p.size (λ u. all_below p.size (apart_good p s u))) (ltb (part_size p (group s) 0) (odd_parts p (group s) most_parts)) e in
    record {
      total = eqb-true s.total 0 h.0;
      count = eqb-true s.count 0 h.1;
      blank = all_is 127 (λ k. blank_group (group_at s k)) h.2;
      records = all_is p.size (gap_record p s) h.3;
      apart = λ u v bu bv. all_is p.size (apart_good p s u) (all_is p.size (λ u. all_below p.size (apart_good p s u)) h.4 u bu) v bv;
      more = ltb-true (part_size p (group s) 0) (odd_parts p (group s) most_parts) h.5;
    }

pub parted_passes : (p : Problem) (s : View) → Parted p s → gap_good p s ≡ true
parted_passes p s g =
    six_whole (eqb s.total 0) (eqb s.count 0) (all_below 127 (λ k. blank_group (group_at s k))) (all_below p.size (gap_record p s)) (all_below p.size (λ u. all_below p.size (apart_good p s u))) (ltb (part_size p (group s) 0) (odd_parts p (group s) most_parts))
    (eq-eqb s.total 0 g.total)
    (eq-eqb s.count 0 g.count)
    (all_from 127 (λ k. blank_group (group_at s k)) g.blank)
    (all_from p.size (gap_record p s) g.records)
    (all_from p.size (λ u. all_below p.size (apart_good p s u)) (λ u bu. all_from p.size (apart_good p s u) (λ v bv. g.apart u v bu bv)))
    (lt-ltb (part_size p (group s) 0) (odd_parts p (group s) most_parts) g.more)

-- a piece's record, over plain numbers
record_parts : (m g most : ℕ) (none live : Bool) → (eqb m 65535 && (none && leb g (cond live most 0))) ≡ true → (m ≡ 65535) × (none ≡ true) × (live ≡ true → g ≤ most) × (live ≡ false → g ≡ 0)
record_parts m g most none live e = (grind (arith, nat_tests), grind (arith, nat_tests), λ l. grind (arith, nat_tests), λ l. grind (arith, nat_tests))

record_whole : (m g most : ℕ) (none live : Bool) → m ≡ 65535 → none ≡ true → (live ≡ true → g ≤ most) → (live ≡ false → g ≡ 0) → (eqb m 65535 && (none && leb g (cond live most 0))) ≡ true
record_whole m g most none true a b c d = let l = c refl in grind (arith, nat_tests)
record_whole m g most none false a b c d = let l = d refl in grind (arith, nat_tests)

-- what a piece's record says
pub record GapPiece (p : Problem) (s : View) (u : ℕ) : Type 0 where
  pub no_mate : mate s u ≡ 65535
  pub no_price : price s u ≡ pos 0
  pub numbered : p.live u ≡ true → group s u ≤ most_parts
  pub struck : p.live u ≡ false → group s u ≡ 0

pub gap_piece_is : (p : Problem) (s : View) (u : ℕ) → gap_record p s u ≡ true → GapPiece p s u
gap_piece_is p s u e =
    let h = record_parts (mate s u) (group s u) most_parts (eq_int (price s u) (pos 0)) (p.live u) e in
    record { no_mate = h.0; no_price = eq_int_is (price s u) (pos 0) h.1; numbered = h.2; struck = h.3 }

pub gap_piece_from : (p : Problem) (s : View) (u : ℕ) → GapPiece p s u → gap_record p s u ≡ true
gap_piece_from p s u g =
    record_whole (mate s u) (group s u) most_parts (eq_int (price s u) (pos 0)) (p.live u) g.no_mate (eq_int_from (price s u) (pos 0) g.no_price) g.numbered g.struck

-- two pieces' parts, over plain numbers
apart_parts : (u v g h : ℕ) (lu lv some : Bool) → u < v → lu ≡ true → lv ≡ true → some ≡ true
    → (not (ltb u v && (lu && (lv && some))) || (eqb g 0 || (eqb h 0 || eqb g h))) ≡ true → g ≢ 0 → h ≢ 0 → g ≡ h
apart_parts u v g h lu lv some l a b c e n m = grind (arith, nat_tests)

apart_whole : (u v g h : ℕ) (lu lv some : Bool) → (u < v → lu ≡ true → lv ≡ true → some ≡ true → g ≢ 0 → h ≢ 0 → g ≡ h)
    → (not (ltb u v && (lu && (lv && some))) || (eqb g 0 || (eqb h 0 || eqb g h))) ≡ true
apart_whole u v g h lu lv some f = grind (arith, nat_tests)

-- a gap slip that passes shows a gap
pub gap_shown : (p : Problem) (s : View) → s.kind ≡ 2 → length s.pieces ≡ p.size → length s.groups ≡ 127 → Parted p s → GapCertificate p s
gap_shown p s kind pieces groups g = record {
  form = record {
    kind = kind;
    piece_records = pieces;
    group_records = groups;
    no_total = g.total;
    no_count = g.count;
    no_mates = λ u h. (gap_piece_is p s u (g.records u h)).no_mate;
    no_prices = λ u h. (gap_piece_is p s u (g.records u h)).no_price;
    struck_blank = λ u h l. (gap_piece_is p s u (g.records u h)).struck l;
    part_numbers = λ u l. (gap_piece_is p s u (g.records u l.below)).numbered l.marked;
    no_groups = λ k h. blank_group_is (group_at s k) (g.blank k h);
  };
  separated = record {
    apart = λ u v lu lv h a. apart_parts u v (group s u) (group s v) (p.live u) (p.live v) (is_some (p.cost u v)) h lu.marked lv.marked a (g.apart u v lu.below lv.below);
    more = g.more;
  };
}

-- and one that shows a gap passes
pub gap_parted : (p : Problem) (s : View) → GapCertificate p s → Parted p s
gap_parted p s c = record {
  total = c.form.no_total;
  count = c.form.no_count;
  blank = λ k h. blank_group_from (group_at s k) (c.form.no_groups k h);
  records = λ u h. gap_piece_from p s u (record {
    no_mate = c.form.no_mates u h;
    no_price = c.form.no_prices u h;
    numbered = λ l. c.form.part_numbers u (record { below = h; marked = l });
    struck = λ l. c.form.struck_blank u h l;
  });
  apart = λ u v bu bv. apart_whole u v (group s u) (group s v) (p.live u) (p.live v) (is_some (p.cost u v)) (λ h lu lv a. c.separated.apart u v (record { below = bu; marked = lu }) (record { below = bv; marked = lv }) h a);
  more = c.separated.more;
}
