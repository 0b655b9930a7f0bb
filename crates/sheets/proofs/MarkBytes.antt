-- Which bytes are read as marks.
use Rattle.std.proofs.Common.{◌≡◌, ℕ, ◌≤◌, true, ltb, is_ok, Ok, Err, Result, refl, sym, ap, ◌∙◌, arith}
use Rattle.std.proofs.lemmas.Bool.{le-ltb}
use Rattle.sheets.specs.declared.marks.Mark.{Mark}
use Rattle.sheets.specs.declared.marks.Mark.TheVariants.{Free, Taken, Struck}
use Rattle.sheets.specs.declared.marks.UnknownMark.{UnknownMark}
use Rattle.sheets.specs.Marks.{mark_byte, ReadsMark}

byte_below : (m : Mark) → ltb (mark_byte m) 3 ≡ true
byte_below Free = refl
byte_below Taken = refl
byte_below Struck = refl

-- those that are read as marks are below 3
pub is_ok-reads : (n : ℕ) (r : Result Mark UnknownMark) → ReadsMark n r → is_ok r ≡ ltb n 3
is_ok-reads n (Ok m) e = sym (byte_below m) ∙ ap (λ k. ltb k 3) e
is_ok-reads n (Err u) h =
    let zero = h.1 Free in
    let one = h.1 Taken in
    let two = h.1 Struck in
    let past : 3 ≤ n = omega arith in
    sym (le-ltb _ _ past)
