use Rattle.std.proofs.Common.{◌≡◌, None}
use Rattle.ranges.specs.First.{first_below}
use Rattle.list_book.specs.Lines.{before, fault_at}
use Rattle.list_book.proofs.list.calls.check_lines.Given as goal

abbrev pub invariant-loop-k : goal.invariant-loop-k
invariant-loop-k l = (l.before ≡ before l.lines l.k) × (first_below (fault_at l.count l.lines) l.k ≡ None)
