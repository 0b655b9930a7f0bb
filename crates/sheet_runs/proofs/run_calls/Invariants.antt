use Rattle.std.proofs.Common.{◌≡◌, ◌+◌, ◌≤◌, List, ◌++◌, vec_items, vec_len, vec_capacity, deque_items, deque_len}
use Rattle.sheets.specs.declared.serve.Call.{Call}
use Rattle.sheets.specs.declared.serve.Answer.{Answer}
use Rattle.sheets.specs.Views.{memory}
use Rattle.sheets.specs.Served.{sheet_view}
use Rattle.sheet_runs.specs.Ran.{Ran}
use Rattle.sheet_runs.proofs.run_calls.Given as goal

-- the calls that were made and their answers
abbrev pub invariant-loop-call : goal.invariant-loop-call
invariant-loop-call g l = record {
  room : vec_len l.answers + deque_len l.calls ≤ vec_capacity l.answers;
  made : List (Call g.row.B.Denot);
  new : List (Answer g.row.B.Denot);
  left : deque_items l.initial.calls ≡ made ++ deque_items l.calls;
  answered : vec_items l.answers ≡ vec_items l.initial.answers ++ new;
  ran : Ran g.B.CostBook.means (sheet_view l.initial.sheet) (memory l.initial.marks l.initial.queue) made new (sheet_view l.sheet) (memory l.marks l.queue);
}

abbrev pub decreases-loop-call : goal.decreases-loop-call
decreases-loop-call g l = deque_len l.calls
