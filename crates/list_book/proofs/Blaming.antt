-- A refused list is refused for the cause that its fault names.
use Rattle.std.proofs.Common.{◌≡◌, ℕ, zero, suc, ◌+◌, ◌<◌, ◌≤◌, Bool, true, false, cond, ◌&&◌, ltb, leb, List, length, Some, None, refl, subst, add-one, arith}
use Rattle.std.proofs.lemmas.Bool.Decides.{nat_tests}
use Rattle.std.proofs.lemmas.Bool.{leb-true, leb-false, both_ways}
use Rattle.books.specs.declared.fault.BookFault.{BookFault}
use Rattle.books.specs.declared.fault.BookFault.TheVariants.{TooManyPieces, TooManyLines, LineOutside, LineOrder, CostTooHigh}
use Rattle.books.specs.Limits.{most_pieces, most_cost}
use Rattle.ranges.proofs.Options.{none_some, same_some}
use Rattle.ranges.proofs.First.{first_is}
use Rattle.list_book.specs.declared.line.Line.{Line}
use Rattle.list_book.specs.Lines.{most_lines, line, rises, before, fault_at, lines_fault, list_fault}
use Rattle.list_book.specs.Listed.{AboveLast, Lowest, Blamed}
use Rattle.list_book.specs.Lawful.{last_yes, good_at}

-- the line's own tests, by what they answer
within_no : (n : ℕ) (l : Line) → (ltb l.lower l.higher && ltb l.higher n) ≡ false → (l.lower < l.higher) × (l.higher < n) → ⊥
within_no n l e w = grind (arith, nat_tests)

within_yes : (n : ℕ) (l : Line) → (ltb l.lower l.higher && ltb l.higher n) ≡ true → (l.lower < l.higher) × (l.higher < n)
within_yes n l e = (grind (arith, nat_tests), grind (arith, nat_tests))

last_no : (ls : List Line) (k : ℕ) → rises (before ls k) (line ls k) ≡ false → AboveLast ls k → ⊥
last_no ls zero e up = both_ways true e refl
last_no ls (suc m) e up = both_ways (rises (before ls (suc m)) (line ls (suc m))) e (up m (add-one m))

blamed_line : (n : ℕ) (ls : List Line) (k : ℕ) (f : BookFault) → Lowest n ls (k + 1) k → (a b c : Bool)
    → (ltb (line ls k).lower (line ls k).higher && ltb (line ls k).higher n) ≡ a → rises (before ls k) (line ls k) ≡ b → leb (line ls k).cost most_cost ≡ c
    → cond a (cond b (cond c None (Some (CostTooHigh (k + 1)))) (Some (LineOrder (k + 1)))) (Some (LineOutside (k + 1))) ≡ Some f → Blamed n ls f
blamed_line n ls k f low false b c p q r e = subst (Blamed n ls) (same_some (LineOutside (k + 1)) f e) (k, low, within_no n (line ls k) p)
blamed_line n ls k f low true false c p q r e = subst (Blamed n ls) (same_some (LineOrder (k + 1)) f e) (k, low, within_yes n (line ls k) p, last_no ls k q)
blamed_line n ls k f low true true false p q r e =
    subst (Blamed n ls) (same_some (CostTooHigh (k + 1)) f e) (k, low, within_yes n (line ls k) p, last_yes ls k q, leb-false (line ls k).cost most_cost r)
blamed_line n ls k f low true true true p q r e = absurd (none_some None f refl e)

blamed_lines : (n : ℕ) (ls : List Line) (f : BookFault) → n ≤ most_pieces → length ls ≤ most_lines → lines_fault n ls ≡ Some f → Blamed n ls f
blamed_lines n ls f few short e =
    let r = first_is (fault_at n ls) (length ls) f e in
    let k = r.0 in
    let low : Lowest n ls (k + 1) k = record { few = few; short = short; place = refl; within = r.1; good = λ m h. good_at n ls m (r.3 m h) } in
    blamed_line n ls k f low (ltb (line ls k).lower (line ls k).higher && ltb (line ls k).higher n) (rises (before ls k) (line ls k)) (leb (line ls k).cost most_cost) refl refl refl r.2

by_sizes : (n : ℕ) (ls : List Line) (f : BookFault) (a b : Bool) → leb n most_pieces ≡ a → leb (length ls) most_lines ≡ b → cond a (cond b (lines_fault n ls) (Some TooManyLines)) (Some TooManyPieces) ≡ Some f → Blamed n ls f
by_sizes n ls f false b p q e = subst (Blamed n ls) (same_some TooManyPieces f e) (leb-false n most_pieces p)
by_sizes n ls f true false p q e = subst (Blamed n ls) (same_some TooManyLines f e) (leb-true n most_pieces p, leb-false (length ls) most_lines q)
by_sizes n ls f true true p q e = blamed_lines n ls f (leb-true n most_pieces p) (leb-true (length ls) most_lines q) e

pub list_blamed : (n : ℕ) (ls : List Line) (f : BookFault) → list_fault n ls ≡ Some f → Blamed n ls f
list_blamed n ls f e = by_sizes n ls f (leb n most_pieces) (leb (length ls) most_lines) refl refl e
