-- What a tariff without a fault keeps to, and what a fault says.
use Rattle.std.specs.Prelude.{◌≡◌, ℕ, ◌+◌, ◌<◌, ◌≤◌, Bool, true, false, cond, List, length, is_some, IsNone, Some, None, Option, nat_le, slice_index_or}
use Rattle.std.proofs.Common.{sym, subst, arith}
use Rattle.std.proofs.lemmas.List.{get_or_read}
use Rattle.std.proofs.lemmas.Bool.{leb-true}
use Rattle.std.proofs.lemmas.Bool.Decides.{nat_tests}
use Rattle.books.specs.declared.fault.BookFault.{BookFault}
use Rattle.books.specs.declared.fault.BookFault.TheVariants.{TooManyPieces, TermOutside, RecordOutside}
use Rattle.books.specs.Limits.{most_pieces}
use Rattle.ranges.specs.First.{or_else}
use Rattle.ranges.proofs.Options.{none_is}
use Rattle.ranges.proofs.First.{first_none}
use Rattle.tariff_book.specs.declared.piece.Piece.{Piece}
use Rattle.tariff_book.specs.declared.terms.Terms.{Terms}
use Rattle.tariff_book.specs.Pieces.{GoodPiece, piece_fault}
use Rattle.tariff_book.specs.Terms.{term_count, GoodTerm, term_fault, terms_fault}
use Rattle.tariff_book.specs.Tariff.{piece, pieces_fault, tariff_fault}

pub term_good : (t : Terms) (k : ℕ) → term_fault t k ≡ None → GoodTerm t k
term_good t k e = grind (arith, nat_tests)

pub term_bad : (t : Terms) (k : ℕ) (f : BookFault) → term_fault t k ≡ Some f → (f ≡ TermOutside (k + 1)) × (GoodTerm t k → ⊥)
term_bad t k f e = (grind (arith, nat_tests), λ g. grind (arith, nat_tests))

pub piece_good : (k : ℕ) (p : Piece) → piece_fault k p ≡ None → GoodPiece p
piece_good k p e = grind (arith, nat_tests)

pub piece_bad : (k : ℕ) (p : Piece) (f : BookFault) → piece_fault k p ≡ Some f → (f ≡ RecordOutside k) × (GoodPiece p → ⊥)
piece_bad k p f e = (grind (arith, nat_tests), λ g. grind (arith, nat_tests))

pub terms_good : (t : Terms) → IsNone (terms_fault t) → (k : ℕ) → k < term_count → GoodTerm t k
terms_good t e k h = term_good t k (first_none (term_fault t) term_count (none_is (terms_fault t) e) k h)

pub pieces_good : (ps : List Piece) → IsNone (pieces_fault ps) → (k : ℕ) → k < length ps → GoodPiece (piece ps k)
pieces_good ps e k h = piece_good k (piece ps k) (first_none (λ m. piece_fault m (piece ps m)) (length ps) (none_is (pieces_fault ps) e) k h)

parts : {X : Type 0} (few : Bool) (x : X) (a b : Option X) → is_some (cond few (or_else a b) (Some x)) ≡ false → (few ≡ true) × (is_some a ≡ false) × (is_some b ≡ false)
parts few x a b e = (grind arith, grind arith, grind arith)

-- where a tariff has no fault, no part of it has one
pub no_fault : (t : Terms) (ps : List Piece) → IsNone (tariff_fault t ps) → (length ps ≤ most_pieces) × (IsNone (terms_fault t)) × (IsNone (pieces_fault ps))
no_fault t ps e =
    let p = parts (nat_le (length ps) most_pieces) TooManyPieces (terms_fault t) (pieces_fault ps) e in
    (leb-true (length ps) most_pieces p.0, p.1, p.2)

-- a record that was read from the list is within its limits
pub read_good : (ps : List Piece) (k : ℕ) (p : Piece) → IsNone (pieces_fault ps) → k < length ps → p ≡ slice_index_or ps k p → GoodPiece p
read_good ps k p e h r = subst GoodPiece (sym (get_or_read ps k p h r _)) (pieces_good ps e k h)

-- and so in a tariff without a fault
pub tariff_read_good : (t : Terms) (ps : List Piece) (k : ℕ) (p : Piece) → IsNone (tariff_fault t ps) → k < length ps → p ≡ slice_index_or ps k p → GoodPiece p
tariff_read_good t ps k p e = read_good ps k p (no_fault t ps e).2
