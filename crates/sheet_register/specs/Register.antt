-- The register of a sheet. It is fed what each call is handed, refused calls too, and no answers.
use Rattle.std.specs.Prelude.{ℕ, Bool, true, cond, not, List, [], replicate}
use Rattle.sheet_register.specs.declared.request.Request.{Request}
use Rattle.sheet_register.specs.Memory.{free, counted}
use Rattle.sheet_register.specs.Calls.{Call, on_open, check, reopen, Answer, is_refused, answer_by, marks_after, waiting_after, open_after}

pub record Register : Type 0 where
  pub number : ℕ
  pub marks : List ℕ
  pub waiting : List Request
  pub is_open : Bool

-- as an accepted opening leaves it
abbrev pub opening : ℕ → ℕ → Register
opening number pieces = record { number = number; marks = replicate pieces free; waiting = []; is_open = true }

-- the answer that is right by the register: for 11 the counts are the register's, and the other causes look at its marks and requests
abbrev pub right_answer : Register → Call → Answer
right_answer g call = answer_by g.number (counted g.marks g.waiting) g.marks g.waiting call

-- what a call that is not refused makes of the register; a check leaves it
abbrev pub changed : Register → Call → Register
changed g (on_open call m) =
    record { number = g.number; marks = marks_after call g.marks g.waiting; waiting = waiting_after call g.waiting; is_open = open_after call }
changed g (check t ms v) = g
changed g reopen = record { number = g.number; marks = g.marks; waiting = g.waiting; is_open = true }

abbrev pub fed : Register → Call → Register
fed g call = cond (is_refused (right_answer g call)) g (changed g call)

-- an open sheet allows its own calls; a closed one a check and a reopening
abbrev pub allows : Bool → Call → Bool
allows is_open (on_open call m) = is_open
allows is_open (check t ms v) = not is_open
allows is_open reopen = not is_open
