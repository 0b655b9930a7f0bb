use Rattle.std.proofs.Common.{◌≡◌, ◌+◌, ◌*◌, ◌≤◌}
use Rattle.slip_check.specs.Shaped.{view_of}
use Rattle.slip_check.specs.Tables.{prices_between}
use Rattle.slip_check.proofs.Betweens.{rank}
use Rattle.slip_check.proofs.priced.PricedSlip.prices_between.Given as goal

abbrev pub invariant-loop-left : goal.invariant-loop-left
invariant-loop-left g l =
    record {
      left_few : l.left ≤ (view_of l.self.shaped).count;
      right_few : l.right ≤ (view_of l.self.shaped).count;
      rest : prices_between (view_of l.self.shaped) l.left l.right + l.sum ≡ prices_between (view_of l.self.shaped) l.a l.b;
      bound : l.sum + 1000000000000000 * (rank (view_of l.self.shaped).count l.left + rank (view_of l.self.shaped).count l.right) ≤ 254000000000000000;
    }

abbrev pub decreases-loop-left : goal.decreases-loop-left
decreases-loop-left g l = rank (view_of l.self.shaped).count l.left + rank (view_of l.self.shaped).count l.right
