-- What the tests of the records leave, and the faults of a priced slip in their order.
use Rattle.std.proofs.Common.{◌≡◌, ℕ, ◌+◌, ◌<◌, ◌≤◌, Bool, true, false, cond, leb, Some, None, Option, sym, refl, ap}
use Rattle.std.proofs.lemmas.Bool.{leb-true}
use Rattle.ranges.specs.First.{or_else}
use Rattle.ranges.proofs.First.{both_none}
use Rattle.slips.specs.declared.fault.SlipFault.{SlipFault}
use Rattle.slips.specs.declared.fault.SlipFault.TheVariants.{Group}
use Rattle.slips.specs.Problem.{Problem}
use Rattle.slips.specs.View.{View}
use Rattle.slips.specs.Verdict.{unless, group_good, rest_fault, nest_fault, odd_fault, pieces_fault, prices_fault, crossings_fault, total_fault, priced_fault}
use Rattle.slip_laws.proofs.Tested.{held, all_held, held_first}
use Rattle.slip_check.specs.Tables.{records_fault}

-- where the count passes, the records decide
pub records_by : (s : View) → None ≡ unless (leb s.count 127) (Group 0) → records_fault s ≡ or_else (rest_fault s) (nest_fault s)
records_by s e = ap (λ b. cond b (or_else (rest_fault s) (nest_fault s)) (Some (Group 0))) (held (leb s.count 127) (Group 0) (sym e))

pub few_groups : (s : View) → None ≡ records_fault s → s.count ≤ 127
few_groups s e = leb-true s.count 127 (held_first (leb s.count 127) (or_else (rest_fault s) (nest_fault s)) (Group 0) (sym e)).0

pub good_groups : (s : View) → None ≡ records_fault s → (k : ℕ) → k < s.count → group_good s k ≡ true
good_groups s e =
    let none = both_none (rest_fault s) (nest_fault s) (held_first (leb s.count 127) (or_else (rest_fault s) (nest_fault s)) (Group 0) (sym e)).1 in
    all_held (group_good s) (λ k. Group (k + 1)) s.count none.1

regroup : (few : Bool) (rest nest odd last : Option SlipFault) (f : SlipFault)
    → or_else (cond few (or_else rest (or_else nest odd)) (Some f)) last ≡ or_else (cond few (or_else rest nest) (Some f)) (or_else odd last)
regroup false rest nest odd last f = refl
regroup true None None None last f = refl
regroup true None None (Some x) last f = refl
regroup true None (Some x) odd last f = refl
regroup true (Some x) nest odd last f = refl

-- the tests of a priced slip in the order in which they are made
pub in_order : (p : Problem) (s : View)
    → priced_fault p s ≡ or_else (pieces_fault p s) (or_else (records_fault s) (or_else (odd_fault p s) (or_else (prices_fault p s) (or_else (crossings_fault p s) (total_fault p s)))))
unfolding priced_fault
in_order p s = ap (or_else (pieces_fault p s)) (regroup (leb s.count 127) (rest_fault s) (nest_fault s) (odd_fault p s) (or_else (prices_fault p s) (or_else (crossings_fault p s) (total_fault p s))) (Group 0))
