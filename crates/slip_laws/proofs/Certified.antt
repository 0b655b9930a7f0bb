-- A priced slip that passes its tests is a certificate.
use Rattle.std.proofs.Common.{◌≡◌, ℕ, suc, ◌≤◌, length, ℤ, pos, ◌≤ℤ◌, refl, ap, ◌∙◌, arith}
use Rattle.std.proofs.lemmas.Int.{ints}
use Rattle.slips.specs.Problem.{Problem, Live, Pairing}
use Rattle.slips.specs.View.{View, mate, group_at}
use Rattle.slips.specs.Groups.{inside}
use Rattle.slips.specs.System.{crossing, Shares, Bounded, Meeting, share, PricedForm, Certificate}
use Rattle.slips.specs.Verdict.{blank_group, left_by}
use Rattle.slip_laws.proofs.Passing.{Passes}
use Rattle.slip_laws.proofs.Mates.{crossed}
use Rattle.slip_laws.proofs.Fair.{Fair, live_if}
use Rattle.slip_laws.proofs.Tested.{Tested}
use Rattle.slip_laws.proofs.Records.{GoodPiece, piece_is, struck_is, rest_is, blank_group_is, group_is, odd_is}
use Rattle.slip_laws.proofs.Priced.{pair_is, prices_under, prices_meet}
use Rattle.slip_laws.proofs.Shares.{share_is, share_natural, either_order, each_once}
use Rattle.slip_laws.proofs.Leaving.{crossing_is}

one_at_least : (z : ℤ) (n : ℕ) → z ≡ pos n → 1 ≤ n → pos 1 ≤ℤ z
one_at_least z n e h = omega (arith, ints)

natural : (z : ℤ) → pos 1 ≤ℤ z → pos 0 ≤ℤ z
natural z h = omega (arith, ints)

module _ (p : Problem) (s : View) (fair : Fair p) (t : Tested p s) where
  piece : (u : ℕ) → Live p u → GoodPiece p s u
  piece u l = piece_is p s u l.marked (t.pieces u l.below)

  -- the mates are a pairing
  pub pairing_of : Pairing p (mate s)
  pairing_of = record {
    lives = λ u l. live_if p fair (mate s u) (piece u l).lives;
    other = λ u l. (piece u l).other;
    back = λ u l. (piece u l).back;
    allowed = λ u l. (piece u l).allowed;
  }

  -- what the theorem on least pairings asks
  pub passes_of : Passes p s
  passes_of = record {
    mates = pairing_of;
    odd = λ k h. (odd_is p (inside s (suc k)) (t.odd k h)).odd;
    margins = λ u v lu lv h a. (pair_is p s u v (t.pairs u v lu.below lv.below) lu lv h a).0;
    tight = λ u l h.
        let m = pairing_of.lives u l in
        (pair_is p s u (mate s u) (t.pairs u (mate s u) l.below m.below) l m h (pairing_of.allowed u l)).1 refl;
    once = t.once;
  }

  pub form_of : s.kind ≡ 1 → length s.pieces ≡ p.size → length s.groups ≡ 127 → PricedForm p s
  form_of kind pieces groups = record {
    kind = kind;
    piece_records = pieces;
    group_records = groups;
    struck_blank = λ u h l. struck_is p s u l (t.pieces u h);
    prices_within = λ u l. (piece u l).within;
    groups_known = λ u l. (piece u l).known;
    few_groups = t.few;
    rest_blank = λ k c h. blank_group_is (group_at s k) (rest_is k s.count (blank_group (group_at s k)) (t.rest k h) c);
    group_prices = λ k h. (group_is s k (t.nest k h)).0;
    parents = λ k h. (group_is s k (t.nest k h)).1;
    odd_groups = λ k h. odd_is p (inside s (suc k)) (t.odd k h);
    total = t.total;
  }

  pub shares_of : Shares p 1 (share p s)
  shares_of = record {
    of_pairs = λ u v n. let m = share_is p s u v n in (live_if p fair u m.first, live_if p fair v m.second, m.allowed);
    either_order = either_order p s fair;
    each_once = each_once p s pairing_of;
    not_negative = share_natural p s;
    odd_sets_left = λ set o. one_at_least (crossing p (share p s) set) (left_by p s set) (crossing_is p s pairing_of set) (crossed p (mate s) pairing_of set o.odd);
  }

  pub bounded_of : Bounded p s
  bounded_of = record {
    pairs = λ u v lu lv h a. prices_under p s u v (passes_of.margins u v lu lv h a);
    groups = λ k h. natural (group_at s k).price (group_is s k (t.nest k h)).0.0;
  }

  pub meeting_of : Meeting p s 1 (share p s)
  meeting_of = record {
    tight = λ u v h n.
        let m = share_is p s u v n in
        let lu = live_if p fair u m.first in
        let lv = live_if p fair v m.second in
        prices_meet p s u v ((pair_is p s u v (t.pairs u v lu.below lv.below) lu lv h m.allowed).1 m.there);
    left_once = λ k h n. crossing_is p s pairing_of (inside s (suc k)) ∙ ap pos (t.once k h);
  }

  pub certificate_of : s.kind ≡ 1 → length s.pieces ≡ p.size → length s.groups ≡ 127 → Certificate p s
  certificate_of kind pieces groups = record { form = form_of kind pieces groups; shares = shares_of; bounded = bounded_of; meeting = meeting_of }
