use Rattle.std.proofs.Common.{◌≡◌, ◌+◌, ◌-◌, ◌≤◌, cond, eqb}
use Rattle.slips.specs.Groups.{inside}
use Rattle.slip_check.specs.Shaped.{view_of}
use Rattle.slip_check.specs.Tables.{holds_up}
use Rattle.slip_check.proofs.priced.PricedSlip.is_inside.Given as goal

abbrev pub invariant-loop-at : goal.invariant-loop-at
invariant-loop-at g l = (l.at ≤ (view_of l.self.shaped).count) × (holds_up (view_of l.self.shaped) l.at l.h ≡ inside (view_of l.self.shaped) l.h l.u)

abbrev pub decreases-loop-at : goal.decreases-loop-at
decreases-loop-at g l = cond (eqb l.at 0) 0 (l.h + 1 - l.at)
