-- What one call for any call does: it is a move of a run, or comes back where the sheet does not allow it.
use Rattle.std.specs.Prelude.{◌≡◌, ℕ, Bool, true, false, cond, List, [], ◌∷◌, Some, None, Option, slice_set}
use Rattle.books.specs.Table.{Table}
use Rattle.slips.specs.View.{view}
use Rattle.queue.specs.declared.Queue.{Queue}
use Rattle.queue.specs.Waiting.{records, free_place}
use Rattle.sheet_register.specs.declared.request.Request.{Request}
use Rattle.sheet_register.specs.Calls.{Memory, CallOnOpen, post, take, strike, decline, restore, close}
use Rattle.sheet_register.specs.Calls.{on_open, check, reopen, accepted, given, stale, refused, is_refused, disagrees}
use Rattle.sheet_register.specs.Calls.{Call as Called, Answer as Told}
use Rattle.sheet_register.specs.Register.{allows}
use Rattle.sheet_register.specs.Runs.{SheetView, Move}
use Rattle.sheets.specs.declared.sheet.Docket.{Docket}
use Rattle.sheets.specs.declared.serve.Sheet.{Sheet}
use Rattle.sheets.specs.declared.serve.Sheet.TheVariants.{Open, Closed}
use Rattle.sheets.specs.declared.serve.OpenCall.{OpenCall}
use Rattle.sheets.specs.declared.serve.Call.{Call}
use Rattle.sheets.specs.declared.serve.Answer.{Answer}
use Rattle.sheets.specs.Views.{docket_view, open_view, closed_view, state}

abbrev pub sheet_view : Sheet → SheetView
sheet_view (Open s) = open_view s
sheet_view (Closed s) = closed_view s

abbrev pub open_call : OpenCall → CallOnOpen
open_call (OpenCall.Post q) = post q
open_call OpenCall.Take = take
open_call (OpenCall.Strike d) = strike (docket_view d)
open_call (OpenCall.Decline d) = decline (docket_view d)
open_call (OpenCall.Restore p) = restore p
open_call OpenCall.Close = close

-- a call with the memory that it is handed, by what the book of a check means
abbrev pub call_view : {B : Type 0} → (B → Table) → Memory → Call B → Called
call_view means m (Call.OnOpen c) = on_open (open_call c) m
call_view means m Call.Reopen = reopen
call_view means m (Call.Check b s) = check (means b.now) m.marks (view s.now)

-- an answer; none where the call comes back
abbrev pub answer_view : {B : Type 0} → Answer B → Option Told
answer_view Answer.Accepted = Some accepted
answer_view (Answer.Given d) = Some (given (docket_view d))
answer_view (Answer.Stale q) = Some (stale q)
answer_view (Answer.Refused r) = Some (refused r)
answer_view (Answer.DocketRefused r d) = Some (refused r)
answer_view (Answer.NotAllowed c) = None

-- the docket that a call is handed, and the one that comes back
abbrev pub docket_of : OpenCall → List Docket
docket_of (OpenCall.Post q) = []
docket_of OpenCall.Take = []
docket_of (OpenCall.Strike d) = d ∷ []
docket_of (OpenCall.Decline d) = d ∷ []
docket_of (OpenCall.Restore p) = []
docket_of OpenCall.Close = []

abbrev pub dockets_in : {B : Type 0} → Call B → List Docket
dockets_in (Call.OnOpen c) = docket_of c
dockets_in Call.Reopen = []
dockets_in (Call.Check b s) = []

abbrev pub dockets_back : {B : Type 0} → Answer B → List Docket
dockets_back Answer.Accepted = []
dockets_back (Answer.Given d) = []
dockets_back (Answer.Stale q) = []
dockets_back (Answer.Refused r) = []
dockets_back (Answer.DocketRefused r d) = d ∷ []
dockets_back (Answer.NotAllowed c) = dockets_in c

-- an answer tells this, and these dockets come back
pub record Tells {B : Type 0} (r : Answer B) (a : Told) (ds : List Docket) : Type 0 where
  pub view : answer_view r ≡ Some a
  pub back : dockets_back r ≡ ds

-- the request that is written into a record of the queue, by an accepted post alone
abbrev pub request_of : OpenCall → List Request
request_of (OpenCall.Post q) = q ∷ []
request_of OpenCall.Take = []
request_of (OpenCall.Strike d) = []
request_of (OpenCall.Decline d) = []
request_of (OpenCall.Restore p) = []
request_of OpenCall.Close = []

abbrev pub request_in : {B : Type 0} → Call B → List Request
request_in (Call.OnOpen c) = request_of c
request_in Call.Reopen = []
request_in (Call.Check b s) = []

abbrev pub written : List Request → Queue Request → List Request
written [] q = records q
written (r ∷ rs) q = slice_set (records q) (free_place q) r

abbrev pub is_accepted : Option Told → Bool
is_accepted None = false
is_accepted (Some accepted) = true
is_accepted (Some (given d)) = false
is_accepted (Some (stale q)) = false
is_accepted (Some (refused r)) = false

-- the queue's records after a call
abbrev pub records_after : {B : Type 0} → Call B → Answer B → Queue Request → List Request
records_after c r q = cond (is_accepted (answer_view r)) (written (request_in c) q) (records q)

-- One call on a sheet s with memory m: where the sheet allows it, it is a move of a run of that sheet, whether m is the sheet's own memory or another
-- with which 11 holds. A docket that is not spent comes back. Where the sheet does not allow the call, it comes back and nothing changes.
pub data Served {B : Type 0} (means : B → Table) (s : SheetView) (m : Memory) (c : Call B) (r : Answer B) (s' : SheetView) (m' : Memory) : Type 0 where
  moved : (a : Told) → answer_view r ≡ Some a → allows s.is_open (call_view means m c) ≡ true
      → Move (state s m.marks m.waiting) (call_view means m c) a (state s' m'.marks m'.waiting)
      → ((ms : List ℕ) (qs : List Request) → disagrees s.counts (call_view means m c) ≡ true → Move (state s ms qs) (call_view means m c) a (state s' ms qs))
      → dockets_back r ≡ cond (is_refused a) (dockets_in c) [] → Served means s m c r s' m'
  came_back : allows s.is_open (call_view means m c) ≡ false → r ≡ Answer.NotAllowed c → s' ≡ s → m' ≡ m → Served means s m c r s' m'
