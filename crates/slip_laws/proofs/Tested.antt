-- What a priced slip without a fault has passed, test by test, and that nothing else is asked.
use Rattle.std.proofs.Common.{◌≡◌, ℕ, suc, ◌+◌, ◌<◌, ◌≤◌, Bool, true, false, cond, ◌||◌, eqb, ltb, leb, Some, None, Option, refl, ap, ◌∙◌}
use Rattle.std.proofs.lemmas.Bool.{leb-true, le-leb, eqb-true, eq-eqb}
use Rattle.ranges.specs.First.{or_else, first_below}
use Rattle.ranges.proofs.First.{first_none, first_absent, both_none, none_both}
use Rattle.ranges.proofs.Options.{none_some}
use Rattle.slips.specs.declared.fault.SlipFault.{SlipFault}
use Rattle.slips.specs.declared.fault.SlipFault.TheVariants.{Piece, Group, Prices, Crossing, Total}
use Rattle.slips.specs.Problem.{Problem, pairing_cost}
use Rattle.slips.specs.View.{View, mate, group_at}
use Rattle.slips.specs.Groups.{inside}
use Rattle.slips.specs.System.{live_in}
use Rattle.slips.specs.Verdict.{unless, blank_group, piece_good, pieces_fault, group_good, odd_three, rest_fault, nest_fault, odd_fault, groups_fault, pair_good, row_fault, prices_fault, left_by, crossings_fault, total_fault, priced_fault}

pub record Tested (p : Problem) (s : View) : Type 0 where
  pub pieces : (u : ℕ) → u < p.size → piece_good p s u ≡ true
  pub few : s.count ≤ 127
  pub rest : (k : ℕ) → k < 127 → (ltb k s.count || blank_group (group_at s k)) ≡ true
  pub nest : (k : ℕ) → k < s.count → group_good s k ≡ true
  pub odd : (k : ℕ) → k < s.count → odd_three (live_in p (inside s (suc k))) ≡ true
  pub pairs : (u v : ℕ) → u < p.size → v < p.size → pair_good p s u v ≡ true
  pub once : (k : ℕ) → k < s.count → left_by p s (inside s (suc k)) ≡ 1
  pub total : s.total ≡ pairing_cost p (mate s)

-- a test that holds gives no fault
pub held : (ok : Bool) (f : SlipFault) → unless ok f ≡ None → ok ≡ true
held true f e = refl
held false f e = absurd (none_some (Some f) f e refl)

pub no_fault : (ok : Bool) (f : SlipFault) → ok ≡ true → unless ok f ≡ None
no_fault ok f e = ap (λ b. unless b f) e

-- a row of tests without a fault
pub all_held : (ok : ℕ → Bool) (f : ℕ → SlipFault) (n : ℕ) → first_below (λ k. unless (ok k) (f k)) n ≡ None → (k : ℕ) → k < n → ok k ≡ true
all_held ok f n e k h = held (ok k) (f k) (first_none (λ k. unless (ok k) (f k)) n e k h)

pub no_faults : (ok : ℕ → Bool) (f : ℕ → SlipFault) (n : ℕ) → ((k : ℕ) → k < n → ok k ≡ true) → first_below (λ k. unless (ok k) (f k)) n ≡ None
no_faults ok f n h = first_absent (λ k. unless (ok k) (f k)) n (λ k l. no_fault (ok k) (f k) (h k l))

-- a test before others
pub held_first : (ok : Bool) (o : Option SlipFault) (f : SlipFault) → cond ok o (Some f) ≡ None → (ok ≡ true) × (o ≡ None)
held_first true o f e = (refl, e)
held_first false o f e = absurd (none_some (Some f) f e refl)

pub no_fault_first : (ok : Bool) (o : Option SlipFault) (f : SlipFault) → ok ≡ true → o ≡ None → cond ok o (Some f) ≡ None
no_fault_first ok o f e q = ap (λ b. cond b o (Some f)) e ∙ q

-- a priced slip without a fault passes each test
pub tested : (p : Problem) (s : View) → priced_fault p s ≡ None → Tested p s
unfolding priced_fault
tested p s e =
    let a = both_none (pieces_fault p s) (or_else (groups_fault p s) (or_else (prices_fault p s) (or_else (crossings_fault p s) (total_fault p s)))) e in
    let b = both_none (groups_fault p s) (or_else (prices_fault p s) (or_else (crossings_fault p s) (total_fault p s))) a.1 in
    let c = both_none (prices_fault p s) (or_else (crossings_fault p s) (total_fault p s)) b.1 in
    let d = both_none (crossings_fault p s) (total_fault p s) c.1 in
    let g = held_first (leb s.count 127) (or_else (rest_fault s) (or_else (nest_fault s) (odd_fault p s))) (Group 0) b.0 in
    let r = both_none (rest_fault s) (or_else (nest_fault s) (odd_fault p s)) g.1 in
    let n = both_none (nest_fault s) (odd_fault p s) r.1 in
    record {
      pieces = all_held (piece_good p s) Piece p.size a.0;
      few = leb-true s.count 127 g.0;
      rest = all_held (λ k. ltb k s.count || blank_group (group_at s k)) (λ k. Group (k + 1)) 127 r.0;
      nest = all_held (group_good s) (λ k. Group (k + 1)) s.count n.0;
      odd = all_held (λ k. odd_three (live_in p (inside s (suc k)))) (λ k. Group (k + 1)) s.count n.1;
      pairs = λ u v h l. all_held (pair_good p s u) (Prices u) p.size (first_none (row_fault p s) p.size c.0 u h) v l;
      once = λ k h. eqb-true (left_by p s (inside s (suc k))) 1 (all_held (λ k. eqb (left_by p s (inside s (suc k))) 1) (λ k. Crossing (k + 1)) s.count d.0 k h);
      total = eqb-true s.total (pairing_cost p (mate s)) (held (eqb s.total (pairing_cost p (mate s))) Total d.1);
    }

-- and one that passes each has none
pub faultless : (p : Problem) (s : View) → Tested p s → priced_fault p s ≡ None
unfolding priced_fault
faultless p s t =
    let pieces : pieces_fault p s ≡ None = no_faults (piece_good p s) Piece p.size t.pieces in
    let rest : rest_fault s ≡ None = no_faults (λ k. ltb k s.count || blank_group (group_at s k)) (λ k. Group (k + 1)) 127 t.rest in
    let nest : nest_fault s ≡ None = no_faults (group_good s) (λ k. Group (k + 1)) s.count t.nest in
    let odd : odd_fault p s ≡ None = no_faults (λ k. odd_three (live_in p (inside s (suc k)))) (λ k. Group (k + 1)) s.count t.odd in
    let inner = none_both (rest_fault s) (or_else (nest_fault s) (odd_fault p s)) rest (none_both (nest_fault s) (odd_fault p s) nest odd) in
    let groups : groups_fault p s ≡ None = no_fault_first (leb s.count 127) (or_else (rest_fault s) (or_else (nest_fault s) (odd_fault p s))) (Group 0) (le-leb s.count 127 t.few) inner in
    let prices : prices_fault p s ≡ None = first_absent (row_fault p s) p.size (λ u h. no_faults (pair_good p s u) (Prices u) p.size (λ v l. t.pairs u v h l)) in
    let once : crossings_fault p s ≡ None = no_faults (λ k. eqb (left_by p s (inside s (suc k))) 1) (λ k. Crossing (k + 1)) s.count (λ k h. eq-eqb (left_by p s (inside s (suc k))) 1 (t.once k h)) in
    let total : total_fault p s ≡ None = no_fault (eqb s.total (pairing_cost p (mate s))) Total (eq-eqb s.total (pairing_cost p (mate s)) t.total) in
    none_both (pieces_fault p s) (or_else (groups_fault p s) (or_else (prices_fault p s) (or_else (crossings_fault p s) (total_fault p s)))) pieces
    (none_both (groups_fault p s) (or_else (prices_fault p s) (or_else (crossings_fault p s) (total_fault p s))) groups
    (none_both (prices_fault p s) (or_else (crossings_fault p s) (total_fault p s)) prices
    (none_both (crossings_fault p s) (total_fault p s) once total)))
