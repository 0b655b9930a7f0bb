-- A search for the place of a pair among lines that rise.
use Rattle.std.proofs.Common.{◌≡◌, ℕ, ◌≤◌, List, length, Bool, true, false, cond, Some, None, refl, ap, ◌∙◌, arith}
use Rattle.std.specs.List.Sorted.{IsPartitionPoint, IsPartitionedBy}
use Rattle.std.specs.Bool.{then_some}
use Rattle.std.proofs.lemmas.List.{get_or_default}
use Rattle.list_book.specs.declared.line.Line.{Line}
use Rattle.list_book.specs.Lines.{line_of, precedes}
use Rattle.list_book.specs.Listed.{Rising, Parted}
use Rattle.list_book.specs.Ascending.{under_more}

-- a cost, where a line is of the pair
pub given : (b : Bool) (c : ℕ) → then_some b c ≡ cond b (Some c) None
given true c = refl
given false c = refl

module _ (ls : List Line) (i j : ℕ) where
  pub partitioned : Rising ls → IsPartitionedBy (λ l. precedes l i j) ls
  partitioned up k m d le lt e =
      ap (λ l. precedes l i j) (get_or_default ls k d (line_of 0 0 0) (omega arith)) ∙ under_more ls m i j up lt (ap (λ l. precedes l i j) (get_or_default ls m (line_of 0 0 0) d lt) ∙ e) k (omega arith)

  pub parted : (at : ℕ) → at ≤ length ls → IsPartitionPoint (λ l. precedes l i j ≡ true) (λ l. precedes l i j ≡ false) ls at → Parted ls i j at
  parted at within p = record {
    within = within;
    under = λ k l. p.0 k (line_of 0 0 0) (omega arith) l;
    above = λ k l h. p.1 k (line_of 0 0 0) l h;
  }
