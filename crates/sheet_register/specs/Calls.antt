-- The calls on a sheet, what they are handed, and what each answers.
use Rattle.std.specs.Prelude.{ℕ, Bool, true, false, cond, not, ◌&&◌, List, [], ◌∷◌, ◌++◌, length, Some, None, Option, ◌==◌, nat_lt, slice_set}
use Rattle.books.specs.declared.refusal.Refusal.{Refusal}
use Rattle.books.specs.Refusals.{told_plain, told_naming, told_naming_two}
use Rattle.books.specs.Table.{Table}
use Rattle.slips.specs.declared.fault.SlipFault.{SlipFault}
use Rattle.slips.specs.Fault.{slip_refusal}
use Rattle.slips.specs.View.{View}
use Rattle.slips.specs.Verdict.{verdict}
use Rattle.sheet_register.specs.declared.request.Request.{Request}
use Rattle.sheet_register.specs.Memory.{free, taken, struck, mark, marked, Counts, marks_agree, agrees}

-- a docket: a withdrawal that was taken on a sheet, still to be struck or declined
pub record DocketView : Type 0 where
  pub sheet : ℕ
  pub piece : ℕ

-- what a call on an open sheet is handed: marks, the requests that wait, oldest first, and how many may wait
pub record Memory : Type 0 where
  pub marks : List ℕ
  pub waiting : List Request
  pub room : ℕ

pub data CallOnOpen : Type 0 where
  post : Request → CallOnOpen
  take : CallOnOpen
  strike : DocketView → CallOnOpen
  decline : DocketView → CallOnOpen
  restore : ℕ → CallOnOpen
  close : CallOnOpen

-- A call with all that it is handed: one on an open sheet with its memory; a check of a slip by what a book means and by marks; a reopening.
pub data Call : Type 0 where
  on_open : CallOnOpen → Memory → Call
  check : Table → List ℕ → View → Call
  reopen : Call

pub data Answer : Type 0 where
  accepted : Answer
  given : DocketView → Answer
  stale : Request → Answer
  refused : Refusal → Answer

abbrev pub is_refused : Answer → Bool
is_refused accepted = false
is_refused (given d) = false
is_refused (stale q) = false
is_refused (refused r) = true

-- 11: memory does not agree
abbrev pub disagreed : Answer
disagreed = refused (told_plain 11)

-- the docket is of the sheet with number n, and its piece has mark 1
abbrev pub is_out : ℕ → List ℕ → DocketView → Bool
is_out n ms d = d.sheet == n && mark ms d.piece == taken

abbrev pub nothing : List Request → Bool
nothing [] = true
nothing (q ∷ qs) = false

-- what a docket's call answers
abbrev pub settled : ℕ → List ℕ → DocketView → Answer
settled n ms d = cond (is_out n ms d) accepted (refused (told_plain 14))

-- what taking answers: of the oldest request, a docket where its piece is free, else the request
abbrev pub taken_from : ℕ → List ℕ → List Request → Answer
taken_from n ms [] = refused (told_plain 13)
taken_from n ms (q ∷ qs) = cond (mark ms q.piece == free) (given (record { sheet = n; piece = q.piece })) (stale q)

-- what a call on an open sheet with number n answers, by marks, by what waits and by how many may wait: its causes by rising number
abbrev pub open_answer : CallOnOpen → ℕ → List ℕ → List Request → ℕ → Answer
open_answer (post q) n ms qs room =
    cond (nat_lt q.piece (length ms)) (cond (nat_lt (length qs) room) accepted (refused (told_plain 12))) (refused (told_naming 8 q.piece))
open_answer take n ms qs room = taken_from n ms qs
open_answer (strike d) n ms qs room = settled n ms d
open_answer (decline d) n ms qs room = settled n ms d
open_answer (restore p) n ms qs room =
    cond (nat_lt p (length ms)) (cond (mark ms p == struck) accepted (refused (told_naming 15 p))) (refused (told_naming 8 p))
open_answer close n ms qs room = cond (nothing qs && marked taken ms == 0) accepted (refused (told_naming_two 16 (length qs) (marked taken ms)))

-- a check takes marks that agree and a book of the sheet's count
abbrev pub fits : Counts → Table → List ℕ → Bool
fits c t ms = marks_agree c ms && t.count == c.pieces

abbrev pub told : Option SlipFault → Answer
told None = accepted
told (Some f) = refused (slip_refusal f)

-- What a call answers on a sheet with number n and counts c, first 11 by the memory handed in, then by marks ms and requests qs.
abbrev pub answer_by : ℕ → Counts → List ℕ → List Request → Call → Answer
answer_by n c ms qs (on_open call m) = cond (agrees c m.marks m.waiting) (open_answer call n ms qs m.room) disagreed
answer_by n c ms qs (check t hs v) = cond (fits c t hs) (told (verdict t ms v)) disagreed
answer_by n c ms qs reopen = accepted

-- the memory that a call is handed does not agree with counts c
abbrev pub disagrees : Counts → Call → Bool
disagrees c (on_open call m) = not (agrees c m.marks m.waiting)
disagrees c (check t ms v) = not (fits c t ms)
disagrees c reopen = false

-- what the marks are after a call that is not refused
abbrev pub marks_after : CallOnOpen → List ℕ → List Request → List ℕ
marks_after (post q) ms qs = ms
marks_after take ms [] = ms
marks_after take ms (q ∷ qs) = cond (mark ms q.piece == free) (slice_set ms q.piece taken) ms
marks_after (strike d) ms qs = slice_set ms d.piece struck
marks_after (decline d) ms qs = slice_set ms d.piece free
marks_after (restore p) ms qs = slice_set ms p free
marks_after close ms qs = ms

-- and what waits
abbrev pub waiting_after : CallOnOpen → List Request → List Request
waiting_after (post q) qs = qs ++ q ∷ []
waiting_after take [] = []
waiting_after take (q ∷ qs) = qs
waiting_after (strike d) qs = qs
waiting_after (decline d) qs = qs
waiting_after (restore p) qs = qs
waiting_after close qs = qs

-- only a close leaves the sheet closed
abbrev pub open_after : CallOnOpen → Bool
open_after (post q) = true
open_after take = true
open_after (strike d) = true
open_after (decline d) = true
open_after (restore p) = true
open_after close = false
