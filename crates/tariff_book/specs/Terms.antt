-- The limits of the four terms, numbered from 1.
use Rattle.std.specs.Prelude.{ℕ, zero, suc, ◌+◌, ◌≤◌, Bool, cond, ◌&&◌, Some, None, Option, nat_le}
use Rattle.books.specs.declared.fault.BookFault.{BookFault}
use Rattle.books.specs.declared.fault.BookFault.TheVariants.{TermOutside}
use Rattle.ranges.specs.First.{first_below}
use Rattle.tariff_book.specs.declared.terms.Terms.{Terms}

abbrev pub term_count : ℕ
term_count = 4

-- the term at place k, from 0: its value, and the least and greatest that it may be
pub record Term : Type 0 where
  pub value : ℕ
  pub least : ℕ
  pub greatest : ℕ

abbrev term_of : ℕ → ℕ → ℕ → Term
term_of v low high = record { value = v; least = low; greatest = high }

abbrev pub term : Terms → ℕ → Term
term t zero = term_of t.least_break 0 240
term t (suc zero) = term_of t.greatest_spread 1 1440
term t (suc (suc zero)) = term_of t.rate 0 100
term t (suc (suc (suc k))) = term_of t.move_charge 0 100000

abbrev pub GoodTerm : Terms → ℕ → Type 0
GoodTerm t k = ((term t k).least ≤ (term t k).value) × ((term t k).value ≤ (term t k).greatest)

abbrev pub good_term : Terms → ℕ → Bool
good_term t k = nat_le (term t k).least (term t k).value && nat_le (term t k).value (term t k).greatest

abbrev pub term_fault : Terms → ℕ → Option BookFault
term_fault t k = cond (good_term t k) None (Some (TermOutside (k + 1)))

-- the fault of the lowest term that is outside its limits
abbrev pub terms_fault : Terms → Option BookFault
terms_fault t = first_below (term_fault t) term_count
