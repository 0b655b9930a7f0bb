-- A list without a fault is within its limits, rises, is a lawful table, and answers by its lines.
use Rattle.std.specs.Prelude.{◌≡◌, ℕ, zero, suc, ◌+◌, ◌<◌, ◌≤◌, min, max, true, List, length, IsNone, Some, None, Option, refl}
use Rattle.std.proofs.Common.{sym, ap, ◌∙◌, ⊎_elim, arith, add-one}
use Rattle.std.proofs.lemmas.Bool.Decides.{nat_tests}
use Rattle.std.proofs.lemmas.Bool.{cases_eq}
use Rattle.books.specs.Limits.{most_pieces, most_cost}
use Rattle.books.specs.Table.{Sound}
use Rattle.ranges.proofs.Options.{none_is, none_unless, none_some}
use Rattle.ranges.proofs.First.{first_none, first_absent, first_found, first_is}
use Rattle.list_book.specs.declared.line.Line.{Line}
use Rattle.list_book.specs.Lines.{most_lines, line_of, line, cost_on, line_cost, list_table, precedes, rises, before, line_fault, fault_at, lines_fault, list_fault}
use Rattle.list_book.specs.Listed.{OnLine, Rising, AboveLast, Good, Lists}
use Rattle.list_book.specs.Ascending.{precedes_on, precedes_off}

-- a list without a fault has few pieces, few lines, and no faulty line
pub list_parts : (n : ℕ) (ls : List Line) → IsNone (list_fault n ls) → (n ≤ most_pieces) × (length ls ≤ most_lines) × (lines_fault n ls ≡ None)
list_parts n ls e = (grind (arith, nat_tests), grind (arith, nat_tests), none_is (lines_fault n ls) (grind (arith, nat_tests)))

line_good : (n number : ℕ) (b : Option Line) (l : Line) → line_fault n number b l ≡ None → (l.lower < l.higher) × (l.higher < n) × (rises b l ≡ true) × (l.cost ≤ most_cost)
line_good n number b l e = (grind (arith, nat_tests), grind (arith, nat_tests), grind (arith, nat_tests), grind (arith, nat_tests))

-- a line that rises stands above the one before it
pub last_yes : (ls : List Line) (k : ℕ) → rises (before ls k) (line ls k) ≡ true → AboveLast ls k
last_yes ls k e m s = let b : before ls k ≡ Some (line ls m) = ap (before ls) (sym s ∙ add-one m) in sym (ap (λ o. rises o (line ls k)) b) ∙ e

-- what stands at a place without a fault
pub good_at : (n : ℕ) (ls : List Line) (k : ℕ) → fault_at n ls k ≡ None → Good n ls k
good_at n ls k e = let g = line_good n (k + 1) (before ls k) (line ls k) e in ((g.0, g.1), last_yes ls k g.2, g.3)

good_lines : (n : ℕ) (ls : List Line) → lines_fault n ls ≡ None → (k : ℕ) → k < length ls → Good n ls k
good_lines n ls e k h = good_at n ls k (first_none (fault_at n ls) (length ls) e k h)

-- where each line stands above the one before, each stands above all before
rising_by : (n : ℕ) (ls : List Line) → ((k : ℕ) → k < length ls → Good n ls k) → Rising ls
rising_by n ls good k zero h l = absurd (omega arith)
rising_by n ls good k (suc m) h l =
    let next = (good (suc m) l).1 m (add-one m) in
    ⊎_elim
    (λ (q : k ≡ m). ap (λ x. precedes (line ls x) (line ls (suc m)).lower (line ls (suc m)).higher) q ∙ next)
    (λ (q : k ≡ m → ⊥). precedes_on (line ls k) (line ls m) (line ls (suc m)).lower (line ls (suc m)).higher (rising_by n ls good k m (omega arith) (omega arith)) next)
    (cases_eq k m)

pub list_rises : (n : ℕ) (ls : List Line) → IsNone (list_fault n ls) → Rising ls
list_rises n ls e = rising_by n ls (good_lines n ls (list_parts n ls e).2)

same_line : (l : Line) (i j c : ℕ) → cost_on l i j ≡ Some c → l ≡ line_of i j c
same_line l i j c e =
    let a : l.lower ≡ i = grind (arith, nat_tests) in
    let b : l.higher ≡ j = grind (arith, nat_tests) in
    let d : l.cost ≡ c = grind (arith, nat_tests) in
    ap (λ x. line_of x l.higher l.cost) a ∙ ap (λ x. line_of i x l.cost) b ∙ ap (λ x. line_of i j x) d

cost_of_line : (i j c : ℕ) → cost_on (line_of i j c) i j ≡ Some c
cost_of_line i j c = grind (arith, nat_tests)

-- a cost that is found stands on a line
pub on_line : (ls : List Line) (i j c : ℕ) → line_cost ls i j ≡ Some c → OnLine ls i j c
on_line ls i j c e = let r = first_is (λ k. cost_on (line ls k) i j) (length ls) c e in (r.0, r.1, same_line (line ls r.0) i j c r.2)

-- and a line's cost is found
pub found : (ls : List Line) (i j c : ℕ) → Rising ls → OnLine ls i j c → line_cost ls i j ≡ Some c
found ls i j c up o =
    let k = o.0 in
    let at : cost_on (line ls k) i j ≡ Some c = ap (λ l. cost_on l i j) o.2 ∙ cost_of_line i j c in
    let off : (m : ℕ) → m < k → cost_on (line ls m) i j ≡ None = λ m h. precedes_off (line ls m) i j (ap (λ l. precedes (line ls m) l.lower l.higher) (sym o.2) ∙ up m k h o.1) in
    first_found (λ m. cost_on (line ls m) i j) k (length ls) c o.1 (first_absent (λ m. cost_on (line ls m) i j) k off) at

-- the pieces and the cost of a line within its limits
line_limits : (n : ℕ) (ls : List Line) (i j c : ℕ) → IsNone (list_fault n ls) → line_cost ls i j ≡ Some c → (i < j) × (j < n) × (c ≤ most_cost)
line_limits n ls i j c e f =
    let o = on_line ls i j c f in
    let g = good_lines n ls (list_parts n ls e).2 o.0 o.1 in
    let a : (line ls o.0).lower ≡ i = ap (λ (l : Line). l.lower) o.2 in
    let b : (line ls o.0).higher ≡ j = ap (λ (l : Line). l.higher) o.2 in
    let d : (line ls o.0).cost ≡ c = ap (λ (l : Line). l.cost) o.2 in
    (omega (arith, g.0.0), omega (arith, g.0.1), omega (arith, g.2))

pub list_sound : (n : ℕ) (ls : List Line) → IsNone (list_fault n ls) → Sound (list_table n ls)
list_sound n ls e = record {
  few = (list_parts n ls e).0;
  even = λ i j. let a : min i j ≡ min j i = omega arith in let b : max i j ≡ max j i = omega arith in cc;
  same = λ i. none_unless (line_cost ls (min i i) (max i i)) (λ c h. let q = line_limits n ls (min i i) (max i i) c e h in omega arith);
  outside = λ i j o. none_unless (line_cost ls (min i j) (max i j)) (λ c h. let q = line_limits n ls (min i j) (max i j) c e h in omega arith);
  low = λ i j c h. (line_limits n ls (min i j) (max i j) c e h).2;
}

pub list_answers : (n : ℕ) (ls : List Line) → IsNone (list_fault n ls) → Lists (list_table n ls) n ls
list_answers n ls e =
    let up = list_rises n ls e in record {
      few = (list_parts n ls e).0;
      short = (list_parts n ls e).1;
      good = good_lines n ls (list_parts n ls e).2;
      count = refl;
      costs = λ i j c. (on_line ls (min i j) (max i j) c, found ls (min i j) (max i j) c up);
      bars = λ i j. (
        λ h c o. none_some (line_cost ls (min i j) (max i j)) c h (found ls (min i j) (max i j) c up o),
        λ h. none_unless (line_cost ls (min i j) (max i j)) (λ c p. h c (on_line ls (min i j) (max i j) c p)),
      );
    }
