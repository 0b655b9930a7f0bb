-- What two pieces cost as one duty.
use Rattle.std.specs.Prelude.{◌≡◌, ℕ, ◌+◌, ◌-◌, ◌*◌, ◌<◌, ◌≤◌, cond, ◌&&◌, ◌⊎◌, Some, None, Option, ◌==◌, nat_le, nat_lt}
use Rattle.tariff_book.specs.declared.piece.Piece.{Piece}
use Rattle.tariff_book.specs.declared.terms.Terms.{Terms}

-- the charge for a move from where the early piece ends to where the late one starts
abbrev pub move_cost : Terms → Piece → Piece → ℕ
move_cost t e l = cond (e.destination == l.origin) 0 t.move_charge

-- what an early and a late piece cost
abbrev pub duty_cost : Terms → Piece → Piece → Option ℕ
duty_cost t e l =
    cond (nat_le (e.ends + t.least_break) l.starts && nat_le l.ends (e.starts + t.greatest_spread))
    (Some ((l.starts - e.ends) * t.rate + move_cost t e l))
    None

-- the piece that starts first is early; equal starts are barred
abbrev pub pieces_cost : Terms → Piece → Piece → Option ℕ
pieces_cost t p q = cond (nat_lt p.starts q.starts) (duty_cost t p q) (cond (nat_lt q.starts p.starts) (duty_cost t q p) None)

-- the early and the late piece are a duty that costs c: by the gap between them, from the early end to the late start, and the spread of the
-- whole, from the early start to the late end
pub record Duty (t : Terms) (e l : Piece) (c : ℕ) : Type 0 where
  pub first : e.starts < l.starts
  pub gap : ℕ
  pub gap_is : e.ends + gap ≡ l.starts
  pub spread : ℕ
  pub spread_is : e.starts + spread ≡ l.ends
  pub rested : t.least_break ≤ gap
  pub short : spread ≤ t.greatest_spread
  pub costs : c ≡ gap * t.rate + move_cost t e l

-- one of two pieces is early, and they are a duty that costs c
abbrev pub DutyOf : Terms → Piece → Piece → ℕ → Type 0
DutyOf t p q c = Duty t p q c ⊎ Duty t q p c
