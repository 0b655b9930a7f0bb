-- The law over runs: along every run the sheet and its memory are as the register says, and every answer is right by it.
use Rattle.std.specs.Prelude.{◌≡◌, ℕ, ◌+◌, true, false, cond, List, [], ◌∷◌, ◌++◌, map, length, count_by, ◌==◌, ◌≢◌, nat_eq}
use Rattle.std.specs.List.{flat_map}
use Rattle.slips.specs.Problem.{problem, live_by}
use Rattle.slips.specs.Worth.{Least, Barren}
use Rattle.sheet_register.specs.declared.request.Request.{Request}
use Rattle.sheet_register.specs.Memory.{free, taken, mark, marked, counted, agrees}
use Rattle.sheet_register.specs.Calls.{CallOnOpen, post, take, strike, decline, restore, close, Call, on_open}
use Rattle.sheet_register.specs.Calls.{check, reopen, Answer, accepted, given, stale, refused, is_refused, disagreed}
use Rattle.sheet_register.specs.Register.{Register, opening, right_answer, fed}
use Rattle.sheet_register.specs.Runs.{State, Event, Run}

-- on a closed sheet nothing waits and no docket is out, so that each live piece is free
pub record Settled (ms : List ℕ) (qs : List Request) : Type 0 where
  pub none_waits : qs ≡ []
  pub none_out : marked taken ms ≡ 0
  pub live_free : (p : ℕ) → live_by ms p ≡ true → mark ms p ≡ free

-- the sheet and its memory are as the register says, and they agree
pub record Kept (g : Register) (w : State) : Type 0 where
  pub number : w.sheet.number ≡ g.number
  pub marks : w.marks ≡ g.marks
  pub waiting : w.waiting ≡ g.waiting
  pub is_open : w.sheet.is_open ≡ g.is_open
  pub counts : w.sheet.counts ≡ counted g.marks g.waiting
  pub agreed : agrees (counted g.marks g.waiting) g.marks g.waiting ≡ true
  pub closed : g.is_open ≡ false → Settled g.marks g.waiting

-- with the sheet's own memory, and a book of its count where one is taken, a call is not refused with 11
abbrev pub NotDisagreed : Register → Call → Answer → Type 0
NotDisagreed g (on_open call m) a = m.marks ≡ g.marks → m.waiting ≡ g.waiting → a ≢ disagreed
NotDisagreed g (check t ms v) a = ms ≡ g.marks → t.count ≡ length g.marks → a ≢ disagreed
NotDisagreed g reopen a = a ≡ disagreed → ⊥

-- a priced slip that passes a check is a least pairing of just the pieces that are live by the register, and a gap slip that passes shows that they have none
abbrev pub Shown : Register → Call → Answer → Type 0
Shown g (on_open call m) a = Unit {0}
Shown g (check t ms v) a = a ≡ accepted → (v.kind ≡ 1 → Least (problem t g.marks) v) × (v.kind ≡ 2 → Barren (problem t g.marks))
Shown g reopen a = Unit {0}

-- an answer is the register's
pub record Judged (g : Register) (e : Event) : Type 0 where
  pub right : e.answer ≡ right_answer g e.call
  pub not_disagreed : NotDisagreed g e.call e.answer
  pub shown : Shown g e.call e.answer

abbrev pub after : Register → List Event → Register
after g [] = g
after g (e ∷ es) = after (fed g e.call) es

abbrev pub AllJudged : Register → List Event → Type 0
AllJudged g [] = Unit {0}
AllJudged g (e ∷ es) = Judged g e × AllJudged (fed g e.call) es

-- The pieces of the requests that a call posts, and of the dockets that it spends, where it is not refused.
abbrev pub posts : CallOnOpen → List ℕ
posts (post q) = q.piece ∷ []
posts take = []
posts (strike d) = []
posts (decline d) = []
posts (restore p) = []
posts close = []

abbrev pub spends : CallOnOpen → List ℕ
spends (post q) = []
spends take = []
spends (strike d) = d.piece ∷ []
spends (decline d) = d.piece ∷ []
spends (restore p) = []
spends close = []

abbrev pub if_accepted : (CallOnOpen → List ℕ) → Event → List ℕ
if_accepted f e = elim e.call [ on_open call m ↦ cond (is_refused e.answer) [] (f call) | check t ms v ↦ [] | reopen ↦ [] ]

-- The pieces of the requests that were taken, and of the dockets that were given, by an answer.
abbrev pub takes : Answer → List ℕ
takes accepted = []
takes (given d) = d.piece ∷ []
takes (stale q) = q.piece ∷ []
takes (refused r) = []

abbrev pub gives : Answer → List ℕ
gives accepted = []
gives (given d) = d.piece ∷ []
gives (stale q) = []
gives (refused r) = []

-- all of a run, in order
abbrev pub gathered : (Event → List ℕ) → List Event → List ℕ
gathered f es = flat_map f es

abbrev pub posted : List Event → List ℕ
posted = gathered (if_accepted posts)

abbrev pub spent : List Event → List ℕ
spent = gathered (if_accepted spends)

abbrev pub withdrawn : List Event → List ℕ
withdrawn = gathered (λ e. takes e.answer)

abbrev pub dockets : List Event → List ℕ
dockets = gathered (λ e. gives e.answer)

-- how often a piece is in a list
abbrev pub times : ℕ → List ℕ → ℕ
times p ps = count_by (λ x. nat_eq x p) ps

-- 1 where a docket is out for a piece, else 0
abbrev pub out_for : List ℕ → ℕ → ℕ
out_for ms p = cond (mark ms p == taken) 1 0

-- what became of the withdrawals from register g to register g', by the calls made between and their answers alone
pub record Accounts (g : Register) (es : List Event) (g' : Register) : Type 0 where
  -- requests are taken in the order in which they are posted, each once, and those that are not taken wait
  pub requests : map (λ q. q.piece) g.waiting ++ posted es ≡ withdrawn es ++ map (λ q. q.piece) g'.waiting
  -- a piece has mark 1 exactly while one more docket was given for it than was spent, and otherwise as many
  pub each_once : (p : ℕ) → out_for g.marks p + times p (dockets es) ≡ times p (spent es) + out_for g'.marks p

pub record Held (g : Register) (es : List Event) (w : State) : Type 0 where
  pub kept : Kept (after g es) w
  pub judged : AllJudged g es
  pub accounts : Accounts g es (after g es)

-- along every run from here
abbrev pub Law : Register → State → Type 0
Law g w = (es : List Event) (w' : State) → Run w es w' → Held g es w'

-- where a run from the opening leaves the sheet closed, every request that was posted was taken, and every docket that was given was spent, once
abbrev pub NothingLeft : State → Type 0
NothingLeft w =
    (es : List Event) (w' : State) → Run w es w' → w'.sheet.is_open ≡ false
    → (posted es ≡ withdrawn es) × ((p : ℕ) → times p (dockets es) ≡ times p (spent es))

abbrev pub RunsByLaw : Type 0
RunsByLaw = (g : Register) (w : State) → Kept g w → Law g w

abbrev pub ClosesByLaw : Type 0
ClosesByLaw = (number pieces : ℕ) (w : State) → Kept (opening number pieces) w → NothingLeft w
