-- What a slip of lawful lengths says, and the problem that it is checked under.
use Rattle.slips.specs.Problem.{Problem, problem}
use Rattle.slips.specs.View.{View, view}
use Rattle.slip_check.specs.declared.shaped.ShapedSlip.{ShapedSlip}

abbrev pub problem_of : {B : Type 0} {g : _} → ShapedSlip B g → Problem
problem_of {B} {g} s = problem (g.means s.book.now) s.marks.now

abbrev pub view_of : {B : Type 0} {g : _} → ShapedSlip B g → View
view_of s = view s.slip.now
