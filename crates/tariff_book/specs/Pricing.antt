-- A tariff without a fault is a lawful table that prices its duties; one with a fault is refused for it.
use Rattle.std.specs.Prelude.{◌≡◌, ℕ, ◌<◌, ◌≤◌, Bool, true, false, cond, ◌&&◌, List, length, is_some, IsNone, Some, None, Ok, Option, nat_le, nat_lt, slice_index_or, refl}
use Rattle.std.proofs.Common.{sym, ap, subst, ◌∙◌, arith}
use Rattle.std.proofs.lemmas.List.{get_or_read}
use Rattle.std.proofs.lemmas.Bool.{leb-true, leb-false}
use Rattle.std.proofs.lemmas.Bool.Decides.{nat_tests}
use Rattle.books.specs.declared.fault.BookFault.{BookFault}
use Rattle.books.specs.declared.fault.BookFault.TheVariants.{TooManyPieces}
use Rattle.books.specs.Limits.{most_pieces}
use Rattle.ranges.specs.First.{or_else}
use Rattle.books.specs.Table.{Table, Sound}
use Rattle.books.specs.Asked.{asked}
use Rattle.ranges.proofs.Options.{none_unless, none_some}
use Rattle.ranges.proofs.First.{first_is}
use Rattle.tariff_book.specs.declared.piece.Piece.{Piece}
use Rattle.tariff_book.specs.declared.terms.Terms.{Terms}
use Rattle.tariff_book.specs.Pieces.{piece_fault}
use Rattle.tariff_book.specs.Terms.{term_count, term_fault, terms_fault}
use Rattle.tariff_book.specs.Duties.{pieces_cost, DutyOf}
use Rattle.tariff_book.specs.Tariff.{piece, pieces_fault, tariff_fault, tariff_table}
use Rattle.tariff_book.specs.Priced.{Prices, Blamed}
use Rattle.tariff_book.specs.Within.{term_good, term_bad, piece_good, piece_bad, terms_good, pieces_good, no_fault}
use Rattle.tariff_book.specs.Costing.{either_order, equal_starts, pieces_duty, duty_pieces, pieces_low}

-- the cost of two numbers, of which both are pieces or it is barred
inside : (n i j : ℕ) (o : Option ℕ) → i < n → j < n → cond (nat_lt i n && nat_lt j n) o None ≡ o
inside n i j o p q = grind (arith, nat_tests)

asked_inside : (t : Table) (i j : ℕ) → i < t.count → j < t.count → asked t i j ≡ Ok (t.cost i j)
asked_inside t i j p q = grind (arith, nat_tests)

given_inside : (n i j : ℕ) (o : Option ℕ) (c : ℕ) → cond (nat_lt i n && nat_lt j n) o None ≡ Some c → (i < n) × (j < n) × (o ≡ Some c)
given_inside n i j o c e = (grind (arith, nat_tests), grind (arith, nat_tests), grind (arith, nat_tests))

pub tariff_sound : (t : Terms) (ps : List Piece) → IsNone (tariff_fault t ps) → Sound (tariff_table t ps)
tariff_sound t ps e =
    let held = no_fault t ps e in
    let good = pieces_good ps held.2 in
    record {
      few = held.0;
      even = λ i j. let turned = either_order t (piece ps i) (piece ps j) in grind (arith, nat_tests);
      same = λ i. let barred = equal_starts t (piece ps i) (piece ps i) refl in grind (arith, nat_tests);
      outside = λ i j o. grind (arith, nat_tests);
      low = λ i j c h.
          let g = given_inside (length ps) i j (pieces_cost t (piece ps i) (piece ps j)) c h in
          pieces_low t (piece ps i) (piece ps j) c (terms_good t held.1) (good i g.0) (good j g.1) g.2;
    }

-- what the table answers of two records that were read from the list
pub read_asked : (t : Terms) (ps : List Piece) (i j : ℕ) (p q : Piece) → i < length ps → j < length ps → p ≡ slice_index_or ps i p → q ≡ slice_index_or ps j q → Ok (pieces_cost t p q) ≡ asked (tariff_table t ps) i j
read_asked t ps i j p q a b x y =
    let left = get_or_read ps i p a x _ in
    let right = get_or_read ps j q b y _ in
    ap Ok (ap (λ r. pieces_cost t r q) left ∙ ap (pieces_cost t (piece ps i)) right) ∙ sym (asked_inside (tariff_table t ps) i j a b ∙ ap Ok (inside (length ps) i j _ a b))

-- the cost of two pieces, found in the table and asked of it
table_duty : (t : Terms) (ps : List Piece) → IsNone (tariff_fault t ps) → (i j c : ℕ) → i < length ps → j < length ps → (tariff_table t ps).cost i j ≡ Some c → DutyOf t (piece ps i) (piece ps j) c
table_duty t ps e i j c p q h =
    let good = pieces_good ps (no_fault t ps e).2 in
    pieces_duty t (piece ps i) (piece ps j) c (good i p) (good j q) (sym (inside (length ps) i j _ p q) ∙ h)

duty_table : (t : Terms) (ps : List Piece) (i j c : ℕ) → i < length ps → j < length ps → DutyOf t (piece ps i) (piece ps j) c → (tariff_table t ps).cost i j ≡ Some c
duty_table t ps i j c p q d = inside (length ps) i j _ p q ∙ duty_pieces t (piece ps i) (piece ps j) c d

pub tariff_prices : (t : Terms) (ps : List Piece) → IsNone (tariff_fault t ps) → Prices (tariff_table t ps) t ps
tariff_prices t ps e =
    let held = no_fault t ps e in
    record {
      few = held.0;
      terms_good = terms_good t held.1;
      pieces_good = pieces_good ps held.2;
      count = refl;
      costs = λ i j c p q. (table_duty t ps e i j c p q, duty_table t ps i j c p q);
      bars = λ i j p q.
          (λ n c d. none_some _ c n (duty_table t ps i j c p q d), λ none. none_unless _ (λ c h. none c (table_duty t ps e i j c p q h)));
    }

-- a term or a record that is refused is the first that is outside its limits
terms_blamed : (t : Terms) (ps : List Piece) (f : BookFault) → length ps ≤ most_pieces → terms_fault t ≡ Some f → Blamed t ps f
terms_blamed t ps f few e =
    let i = first_is (term_fault t) term_count f e in
    let bad = term_bad t i.0 f i.2 in
    subst (Blamed t ps) (sym bad.0) (i.0, few, refl, i.1, bad.1, λ m h. term_good t m (i.3 m h))

pieces_blamed : (t : Terms) (ps : List Piece) (f : BookFault) → length ps ≤ most_pieces → IsNone (terms_fault t) → pieces_fault ps ≡ Some f → Blamed t ps f
pieces_blamed t ps f few good e =
    let i = first_is (λ k. piece_fault k (piece ps k)) (length ps) f e in
    let bad = piece_bad i.0 (piece ps i.0) f i.2 in
    subst (Blamed t ps) (sym bad.0) (few, terms_good t good, i.1, bad.1, λ m h. piece_good m (piece ps m) (i.3 m h))

by_parts : (t : Terms) (ps : List Piece) (f : BookFault) (few : Bool) (o : Option BookFault) → nat_le (length ps) most_pieces ≡ few → terms_fault t ≡ o → cond few (or_else o (pieces_fault ps)) (Some TooManyPieces) ≡ Some f → Blamed t ps f
by_parts t ps f true (Some g) few terms e = terms_blamed t ps f (leb-true (length ps) most_pieces few) (terms ∙ e)
by_parts t ps f true None few terms e = pieces_blamed t ps f (leb-true (length ps) most_pieces few) (ap is_some terms) e
by_parts t ps f false o few terms e = let is : TooManyPieces ≡ f = cc in subst (Blamed t ps) is (leb-false (length ps) most_pieces few)

pub tariff_blamed : (t : Terms) (ps : List Piece) (f : BookFault) → tariff_fault t ps ≡ Some f → Blamed t ps f
tariff_blamed t ps f e = by_parts t ps f (nat_le (length ps) most_pieces) (terms_fault t) refl refl e
