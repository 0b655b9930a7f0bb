-- A certificate passes every test of a priced slip.
use Rattle.std.proofs.Common.{◌≡◌, ℕ, suc, ◌<◌, true, false, ◌≢◌, ℤ, pos, ◌≤ℤ◌, sym, ◌∙◌, subst, ⊎_elim, arith}
use Rattle.std.proofs.lemmas.Int.{ints}
use Rattle.std.proofs.lemmas.Bool.{cases_Bool}
use Rattle.ranges.specs.Sums.{count_below}
use Rattle.ranges.proofs.Single.{count_has}
use Rattle.slips.specs.Problem.{Problem, Live, Allowed, Pairing}
use Rattle.slips.specs.View.{View, mate, group_at}
use Rattle.slips.specs.Groups.{inside, margin}
use Rattle.slips.specs.System.{Shares, mates, share, Certificate}
use Rattle.slips.specs.Verdict.{blank_group, piece_good, left_by}
use Rattle.slip_laws.proofs.Fair.{Fair, live_if}
use Rattle.slip_laws.proofs.Tested.{Tested}
use Rattle.slip_laws.proofs.Records.{GoodPiece, piece_from, struck_from, rest_from, blank_group_from, group_from, odd_from}
use Rattle.slip_laws.proofs.Priced.{pair_from, margin_over, margin_none}
use Rattle.slip_laws.proofs.Shares.{Mates, mates_is, share_from, row_is}
use Rattle.slip_laws.proofs.Leaving.{crossing_is}

same_natural : (m n : ℕ) → pos m ≡ pos n → m ≡ n
same_natural m n e = cc

one_has : (n : ℕ) → n ≡ 1 → n ≢ 0
one_has n e z = omega arith

priced : (z : ℤ) → pos 1 ≤ℤ z → z ≢ pos 0
priced z h e = omega (arith, ints)

-- where the shares of a live piece are one, it and its mate are mates
pub mates_of : (p : Problem) (s : View) → Shares p 1 (share p s) → (u : ℕ) → Live p u → Mates p s u (mate s u)
mates_of p s shares u l =
    let one = same_natural (count_below p.size (mates p s u)) 1 (sym (row_is p s u) ∙ shares.each_once u l) in
    let r = count_has p.size (mates p s u) (one_has (count_below p.size (mates p s u)) one) in
    let m = mates_is p s u r.0 r.2 in
    subst (Mates p s u) (sym m.there) m

pub pairing_from : (p : Problem) (s : View) → Fair p → Shares p 1 (share p s) → Pairing p (mate s)
pairing_from p s fair shares = record {
  lives = λ u l. live_if p fair (mate s u) (mates_of p s shares u l).second;
  other = λ u l e. (mates_of p s shares u l).other (sym e);
  back = λ u l. (mates_of p s shares u l).back;
  allowed = λ u l. (mates_of p s shares u l).allowed;
}

module _ (p : Problem) (s : View) (fair : Fair p) (c : Certificate p s) where
  good_piece : (u : ℕ) → Live p u → GoodPiece p s u
  good_piece u l =
      let m = mates_of p s c.shares u l in
      record { lives = m.second; other = λ e. m.other (sym e); back = m.back; allowed = m.allowed; within = c.form.prices_within u l; known = c.form.groups_known u l }

  pieces_pass : (u : ℕ) → u < p.size → piece_good p s u ≡ true
  pieces_pass u h =
      ⊎_elim
      (λ (l : p.live u ≡ true). piece_from p s u l (good_piece u (record { below = h; marked = l })))
      (λ (l : p.live u ≡ false). struck_from p s u l (c.form.struck_blank u h l))
      (cases_Bool (p.live u))

  margins_pass : (u v : ℕ) → Live p u → Live p v → u < v → Allowed p u v → (pos 0 ≤ℤ margin p s u v) × (mate s u ≡ v → margin p s u v ≡ pos 0)
  margins_pass u v lu lv h a = (
    margin_over p s u v (c.bounded.pairs u v lu lv h a),
    λ q. margin_none p s u v (c.meeting.tight u v h (share_from p s u v (subst (Mates p s u) q (mates_of p s c.shares u lu)))),
  )

  left_passes : (k : ℕ) → k < s.count → left_by p s (inside s (suc k)) ≡ 1
  left_passes k h =
      same_natural (left_by p s (inside s (suc k))) 1
      (sym (crossing_is p s (pairing_from p s fair c.shares) (inside s (suc k))) ∙ c.meeting.left_once k h (priced (group_at s k).price (c.form.group_prices k h).0))

  pub tested_by : Tested p s
  tested_by = record {
    pieces = pieces_pass;
    few = c.form.few_groups;
    rest = λ k h. rest_from k s.count (blank_group (group_at s k)) (λ l. blank_group_from (group_at s k) (c.form.rest_blank k l h));
    nest = λ k h. group_from s k (c.form.group_prices k h).0 (c.form.group_prices k h).1 (c.form.parents k h);
    odd = λ k h. odd_from p (inside s (suc k)) (c.form.odd_groups k h);
    pairs = λ u v bu bv. pair_from p s u v bu bv (margins_pass u v);
    once = left_passes;
    total = c.form.total;
  }
