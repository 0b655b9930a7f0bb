-- Facts on marks and on tests of each of a list.
use Rattle.std.proofs.Common.{◌≡◌, ℕ, zero, suc, ◌+◌, ◌<◌, Bool, true, false, cond, eqb, List, [], ◌∷◌, ◌++◌, length, set, replicate, sym, refl, ap, ◌∙◌, arith}
use Rattle.std.proofs.lemmas.List.Folds.{list_all-append}
use Rattle.std.proofs.lemmas.List.Sums.{sum_by-cons, sum_by-set}
use Rattle.std.proofs.lemmas.Bool.{and_from, and_parts, eq-eqb}
use Rattle.sheet_register.specs.Memory.{free, mark, marked, each}

pub each_set : {X : Type 0} (p : X → Bool) (xs : List X) (i : ℕ) (x : X) → each p xs ≡ true → p x ≡ true → each p (set xs i x) ≡ true
each_set p [] i x e f = refl
each_set p (y ∷ ys) zero x e f = and_from _ _ f (and_parts _ _ e).1
each_set p (y ∷ ys) (suc i) x e f = let a = and_parts _ _ e in and_from _ _ a.0 (each_set p ys i x a.1 f)

pub each_push : {X : Type 0} (p : X → Bool) (xs : List X) (x : X) → each p xs ≡ true → p x ≡ true → each p (xs ++ x ∷ []) ≡ true
each_push p xs x e f = list_all-append p xs (x ∷ []) ∙ and_from _ _ e (and_from _ _ f refl)

pub each_replicate : {X : Type 0} (p : X → Bool) (n : ℕ) (x : X) → p x ≡ true → each p (replicate n x) ≡ true
each_replicate p zero x e = refl
each_replicate p (suc n) x e = and_from _ _ e (each_replicate p n x e)

-- a write of x over the mark of a piece, in the count of a mark
pub marked_set : (m : ℕ) (ms : List ℕ) (p x : ℕ) (a b : Bool) → p < length ms → eqb (mark ms p) m ≡ a → eqb x m ≡ b → marked m (set ms p x) + cond a 1 0 ≡ marked m ms + cond b 1 0
marked_set m ms p x a b l e f =
    ap (λ y. marked m (set ms p x) + cond y 1 0) (sym e) ∙ sum_by-set (λ y. cond (eqb y m) 1 0) ms p x free l ∙ ap (λ y. marked m ms + cond y 1 0) f

-- none has a mark that no piece has
pub none_marked : (m : ℕ) (ms : List ℕ) (p : ℕ) → marked m ms ≡ 0 → p < length ms → mark ms p ≡ m → ⊥
none_marked m [] p e l f = omega arith
none_marked m (x ∷ ms) zero e l f =
    let s = sum_by-cons (λ y. cond (eqb y m) 1 0) x ms in
    let t : ◌≡◌ {A = ℕ} (cond (eqb x m) 1 0) 1 = ap (λ b. cond b 1 0) (eq-eqb x m f) in
    omega arith
none_marked m (x ∷ ms) (suc p) e l f =
    let s = sum_by-cons (λ y. cond (eqb y m) 1 0) x ms in
    let rest : marked m ms ≡ 0 = omega arith in
    none_marked m ms p rest (omega arith) f

-- as many as are free have another mark: none
pub free_only : (m : ℕ) → eqb free m ≡ false → (n : ℕ) → marked m (replicate n free) ≡ 0
free_only m e zero = refl
free_only m e (suc n) = sum_by-cons (λ x. cond (eqb x m) 1 0) free (replicate n free) ∙ (λ i. cond (e i) 1 0 + free_only m e n i)

-- a mark that is not free is the mark of a piece
pub inside : (ms : List ℕ) (p m : ℕ) → mark ms p ≡ m → (m ≡ 0 → ⊥) → p < length ms
inside [] p m e f = absurd (f (sym e))
inside (x ∷ ms) zero m e f = omega arith
inside (x ∷ ms) (suc p) m e f = let k = inside ms p m e f in omega arith
