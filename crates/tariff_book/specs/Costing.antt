-- What two pieces cost is the cost of their duty, either way round, and within the limit.
use Rattle.std.specs.Prelude.{◌≡◌, ℕ, ◌+◌, ◌-◌, ◌*◌, ◌<◌, ◌≤◌, Some, None}
use Rattle.std.proofs.Common.{sym, ap, ◌∙◌, inl, inr, ⊎_elim, mul-le-mul, arith}
use Rattle.std.proofs.lemmas.Bool.{cases_order}
use Rattle.std.proofs.lemmas.Bool.Decides.{nat_tests}
use Rattle.books.specs.Limits.{most_cost}
use Rattle.tariff_book.specs.declared.piece.Piece.{Piece}
use Rattle.tariff_book.specs.declared.terms.Terms.{Terms}
use Rattle.tariff_book.specs.Pieces.{GoodPiece}
use Rattle.tariff_book.specs.Terms.{term_count, GoodTerm}
use Rattle.tariff_book.specs.Duties.{move_cost, duty_cost, pieces_cost, Duty, DutyOf}

-- the pay for a gap and the charge for a move, within their limits
pub pay_low : (gap rate move : ℕ) → gap ≤ 2880 → rate ≤ 100 → move ≤ 100000 → gap * rate + move ≤ 388000
pay_low gap rate move a b m = let p = mul-le-mul a b in omega arith

move_low : (t : Terms) (e l : Piece) → t.move_charge ≤ 100000 → move_cost t e l ≤ 100000
move_low t e l h = grind (arith, nat_tests)

-- a cost is that of the duty by gap and spread
duty_from : (t : Terms) (e l : Piece) (c : ℕ) → GoodPiece l → e.starts < l.starts → duty_cost t e l ≡ Some c → Duty t e l c
duty_from t e l c good first h = record {
  first = first;
  gap = l.starts - e.ends;
  gap_is = grind (arith, nat_tests);
  spread = l.ends - e.starts;
  spread_is = omega arith;
  rested = grind (arith, nat_tests);
  short = grind (arith, nat_tests);
  costs = grind (arith, nat_tests);
}

-- a duty costs what it says
duty_costs : (t : Terms) (e l : Piece) (c : ℕ) → Duty t e l c → duty_cost t e l ≡ Some c
duty_costs t e l c d =
    let gap : l.starts - e.ends ≡ d.gap = omega (arith, d.gap_is) in
    let cost : (l.starts - e.ends) * t.rate + move_cost t e l ≡ c = ap (λ g. g * t.rate + move_cost t e l) gap ∙ sym d.costs in
    grind (arith, nat_tests)

-- which of two pieces is early
early_first : (t : Terms) (p q : Piece) → p.starts < q.starts → pieces_cost t p q ≡ duty_cost t p q
early_first t p q h = grind (arith, nat_tests)

pub either_order : (t : Terms) (p q : Piece) → pieces_cost t p q ≡ pieces_cost t q p
either_order t p q = grind (arith, nat_tests)

pub equal_starts : (t : Terms) (p q : Piece) → p.starts ≡ q.starts → pieces_cost t p q ≡ None
equal_starts t p q h = grind (arith, nat_tests)

pub pieces_duty : (t : Terms) (p q : Piece) (c : ℕ) → GoodPiece p → GoodPiece q → pieces_cost t p q ≡ Some c → DutyOf t p q c
pieces_duty t p q c gp gq h =
    ⊎_elim
    (λ e. let z : ◌≡◌ {A = ℕ} 0 1 = cc (equal_starts t p q e) in absurd (omega arith))
    (⊎_elim
    (λ l. inl (duty_from t p q c gq l (sym (early_first t p q l) ∙ h)))
    (λ l. inr (duty_from t q p c gp l (sym (early_first t q p l) ∙ either_order t q p ∙ h))))
    (cases_order p.starts q.starts)

pub duty_pieces : (t : Terms) (p q : Piece) (c : ℕ) → DutyOf t p q c → pieces_cost t p q ≡ Some c
duty_pieces t p q c (inl d) = early_first t p q d.first ∙ duty_costs t p q c d
duty_pieces t p q c (inr d) = either_order t p q ∙ early_first t q p d.first ∙ duty_costs t q p c d

duty_low : (t : Terms) (e l : Piece) (c : ℕ) → ((k : ℕ) → k < term_count → GoodTerm t k) → GoodPiece l → Duty t e l c → c ≤ most_cost
duty_low t e l c good gl d =
    let move = move_low t e l (good 3 (omega arith)).1 in
    let pay = pay_low d.gap t.rate (move_cost t e l) (omega (arith, d.gap_is)) (good 2 (omega arith)).1 move in
    omega (arith, d.costs)

pub pieces_low : (t : Terms) (p q : Piece) (c : ℕ) → ((k : ℕ) → k < term_count → GoodTerm t k) → GoodPiece p → GoodPiece q → pieces_cost t p q ≡ Some c → c ≤ most_cost
pieces_low t p q c good gp gq h = ⊎_elim (duty_low t p q c good gq) (duty_low t q p c good gp) (pieces_duty t p q c gp gq h)
