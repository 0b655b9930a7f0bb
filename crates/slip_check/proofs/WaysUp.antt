-- The way up through groups whose parents have higher numbers.
use Rattle.std.proofs.Common.{◌≡◌, ℕ, zero, suc, ◌+◌, ◌-◌, ◌<◌, ◌≤◌, true, false, cond, ◌||◌, eqb, ◌⊎◌, sym, refl, ap, ◌∙◌, inl, inr, ⊎_elim, arith}
use Rattle.std.proofs.lemmas.Bool.Decides.{nat_tests}
use Rattle.std.proofs.lemmas.Bool.{eq-eqb, ne_eqb, cases_eq}
use Rattle.slips.specs.Groups.{up_to}

-- a parent is 0 or a higher group up to the count
abbrev pub Rises : (ℕ → ℕ) → ℕ → Type 0
Rises above count = (g : ℕ) → 0 < g → g ≤ count → (above g ≡ 0) ⊎ ((g < above g) × (above g ≤ count))

pub up_none : (above : ℕ → ℕ) (steps h : ℕ) → up_to above steps 0 h ≡ false
up_none above zero h = refl
up_none above (suc steps) h = refl

-- one step of a way up from a group
up_from : (above : ℕ → ℕ) (steps g h : ℕ) → 0 < g → up_to above (suc steps) g h ≡ (eqb g h || up_to above steps (above g) h)
up_from above steps g h l = let e : eqb g 0 ≡ false = ne_eqb g 0 (λ q. omega arith) in grind (arith, nat_tests)

-- two ways up from a parent, which is 0 or a higher group, are alike where they are from a higher group
from_parent : (above : ℕ → ℕ) (m n p h : ℕ) (P : Type 0) → (p ≡ 0) ⊎ P → (P → up_to above m p h ≡ up_to above n p h) → up_to above m p h ≡ up_to above n p h
from_parent above m n p h P (inl z) e = ap (λ x. up_to above m x h) z ∙ (up_none above m h ∙ sym (ap (λ x. up_to above n x h) z ∙ up_none above n h))
from_parent above m n p h P (inr u) e = e u

-- steps past the top change nothing
up_enough : (above : ℕ → ℕ) (count : ℕ) → Rises above count → (steps more g h : ℕ) → g ≤ count → count + 1 ≤ steps + g → up_to above (more + steps) g h ≡ up_to above steps g h
up_enough above count r steps more zero h l k = up_none above (more + steps) h ∙ sym (up_none above steps h)
up_enough above count r zero more (suc g) h l k = absurd (omega arith)
up_enough above count r (suc steps) more (suc g) h l k =
    let e : more + suc steps ≡ suc (more + steps) = omega arith in
    let next =
    from_parent above (more + steps) steps (above (suc g)) h ((suc g < above (suc g)) × (above (suc g) ≤ count)) (r (suc g) (omega arith) l) (λ u. up_enough above count r steps more (above (suc g)) h u.1 (omega (arith, u.0))) in
    ap (λ n. up_to above n (suc g) h) e
    ∙ (up_from above (more + steps) (suc g) h (omega arith)
    ∙ (ap (λ b. eqb (suc g) h || b) next ∙ sym (up_from above steps (suc g) h (omega arith))))

-- a group is up from g where it is g, or up from g's parent
pub up_step : (above : ℕ → ℕ) (count : ℕ) → Rises above count → (g h : ℕ) → 0 < g → g ≤ count → up_to above count g h ≡ (eqb g h || up_to above count (above g) h)
up_step above zero r g h l k = absurd (omega arith)
up_step above (suc n) r g h l k =
    let e : 1 + n ≡ suc n = omega arith in
    let rest =
    from_parent above n (1 + n) (above g) h ((g < above g) × (above g ≤ suc n)) (r g l k) (λ u. sym (up_enough above (suc n) r n 1 (above g) h u.1 (omega (arith, u.0)))) in
    up_from above n g h l ∙ ap (λ b. eqb g h || b) (rest ∙ ap (λ m. up_to above m (above g) h) e)

low_by : (above : ℕ → ℕ) (m p h : ℕ) (P : Type 0) → (p ≡ 0) ⊎ P → (P → up_to above m p h ≡ false) → up_to above m p h ≡ false
low_by above m p h P (inl z) e = ap (λ x. up_to above m x h) z ∙ up_none above m h
low_by above m p h P (inr u) e = e u

-- no lower group is up from g
pub up_low : (above : ℕ → ℕ) (count : ℕ) → Rises above count → (steps g h : ℕ) → g ≤ count → h < g → up_to above steps g h ≡ false
up_low above count r zero g h l k = refl
up_low above count r (suc steps) g h l k =
    let ne : eqb g h ≡ false = ne_eqb g h (λ q. omega arith) in
    let rest = low_by above steps (above g) h ((g < above g) × (above g ≤ count)) (r g (omega arith) l) (λ u. up_low above count r steps (above g) h u.1 (omega (arith, u.0))) in
    up_from above steps g h (omega arith) ∙ (ap (λ b. b || up_to above steps (above g) h) ne ∙ rest)

-- a group is up from itself
pub up_self : (above : ℕ → ℕ) (count : ℕ) → Rises above count → (g : ℕ) → 0 < g → g ≤ count → up_to above count g g ≡ true
up_self above count r g l k = let e = up_step above count r g g l k in let s = eq-eqb g g refl in grind (arith, nat_tests)

pub above_few : (p count g : ℕ) → (p ≡ 0) ⊎ ((g < p) × (p ≤ count)) → p ≤ count
above_few p count g (inl z) = omega arith
above_few p count g (inr u) = u.1

-- a step up from a group below the one that is sought comes nearer to the end
pub nearer : (p count g h : ℕ) → 0 < g → g < h → (p ≡ 0) ⊎ ((g < p) × (p ≤ count)) → cond (eqb p 0) 0 (h + 1 - p) < cond (eqb g 0) 0 (h + 1 - g)
nearer p count g h l k o = grind (arith, nat_tests)

-- and does not change whether the way up comes to that one
pub climb_same : (above : ℕ → ℕ) (count : ℕ) → Rises above count → (g h : ℕ) → 0 < g → g ≤ count → g < h → up_to above count (above g) h ≡ up_to above count g h
climb_same above count r g h l k m = let e = up_step above count r g h l k in let n = ne_eqb g h (λ q. omega arith) in grind (arith, nat_tests)

-- at a group that is not lower than the one that is sought, the way up has come to it or past it
pub ends_at : (above : ℕ → ℕ) (count : ℕ) → Rises above count → (g h : ℕ) → 0 < g → g ≤ count → h ≤ g → eqb g h ≡ up_to above count g h
ends_at above count r g h l k m =
    ⊎_elim
    (λ (e : g ≡ h). eq-eqb g h e ∙ sym (ap (λ x. up_to above count g x) (sym e) ∙ up_self above count r g l k))
    (λ (n : g ≡ h → ⊥). ne_eqb g h n ∙ sym (up_low above count r count g h k (omega arith)))
    (cases_eq g h)
