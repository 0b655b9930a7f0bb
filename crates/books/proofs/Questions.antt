-- A question to a lawful table is answered by the law.
use Rattle.std.proofs.Common.{◌≡◌, ℕ, Bool, true, false, cond, ltb, Some, None, Ok, sym, refl, ap, ◌∙◌, inl, inr}
use Rattle.std.proofs.lemmas.Bool.{ltb-true, ltb-false}
use Rattle.books.specs.declared.fault.BookFault.TheVariants.{PieceOutside}
use Rattle.books.specs.Table.{Table, Sound}
use Rattle.books.specs.Asked.{answer_or, asked, QuestionLaw}

by_tests : (t : Table) (i j : ℕ) → Sound t → (a b : Bool) → ltb i t.count ≡ a → ltb j t.count ≡ b → QuestionLaw t i j (answer_or (cond a (cond b None (Some (PieceOutside j))) (Some (PieceOutside i))) (t.cost i j))
by_tests t i j s true true p q =
    let turned : asked t j i ≡ Ok (t.cost i j) = simp (p, q) (ap Ok (s.even j i)) in
    (ltb-true i t.count p, ltb-true j t.count q, turned, λ e. ap (t.cost i) (sym e) ∙ s.same i, λ c h. s.low i j c h)
by_tests t i j s true false p q = (j, refl, inr (ltb-true i t.count p, ltb-false j t.count q, refl))
by_tests t i j s false b p q = (i, refl, inl (ltb-false i t.count p, refl))

-- whatever is asked of a lawful table is answered by the law
pub question_law : (t : Table) (i j : ℕ) → Sound t → QuestionLaw t i j (asked t i j)
question_law t i j s = by_tests t i j s (ltb i t.count) (ltb j t.count) refl refl
