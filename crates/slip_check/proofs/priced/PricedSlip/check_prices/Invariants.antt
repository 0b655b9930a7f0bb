use Rattle.std.proofs.Common.{◌≡◌, None, Ok}
use Rattle.ranges.specs.First.{first_below}
use Rattle.slips.specs.Verdict.{row_fault}
use Rattle.slip_check.specs.Shaped.{problem_of, view_of}
use Rattle.slip_check.proofs.Rows.{pair_fault}
use Rattle.slip_check.proofs.priced.PricedSlip.check_prices.Given as goal

abbrev pub invariant-pairs : goal.invariant-pairs
invariant-pairs g l = record {
  none : l.first ≡ Ok tt;
  rows : first_below (row_fault (problem_of l.self.shaped) (view_of l.self.shaped)) l.u ≡ None;
}

abbrev pub invariant-loop-v : goal.invariant-loop-v
invariant-loop-v g l = record {
  none : l.first ≡ Ok tt;
  rows : first_below (row_fault (problem_of l.self.shaped) (view_of l.self.shaped)) l.u ≡ None;
  row : first_below (pair_fault (problem_of l.self.shaped) (view_of l.self.shaped) l.u) l.v ≡ None;
}
