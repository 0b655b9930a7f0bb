-- What an `Option` that is there or is not there tells.
use Rattle.std.proofs.Common.{◌≡◌, ℕ, false, is_some, Some, None, Option, refl, arith}

pub none_is : {X : Type 0} (o : Option X) → is_some o ≡ false → o ≡ None
none_is o e = grind arith

pub none_unless : {X : Type 0} (o : Option X) → ((x : X) → o ≡ Some x → ⊥) → o ≡ None
none_unless None h = refl
none_unless (Some x) h = absurd (h x refl)

pub none_some : {X : Type 0} (o : Option X) (x : X) → o ≡ None → o ≡ Some x → ⊥
none_some o x p q = let z : ◌≡◌ {A = ℕ} 0 1 = cc in omega arith

pub same_some : {X : Type 0} (x y : X) → Some x ≡ Some y → x ≡ y
same_some x y e = cc
