-- The prices between two ways up: none where they meet, and one price less after a step up from the lower.
use Rattle.std.proofs.Common.{◌≡◌, ℕ, zero, suc, ◌+◌, ◌-◌, ◌<◌, ◌≤◌, Bool, true, false, cond, not, eqb, ◌⊎◌, sym, refl, ap, ◌∙◌, inl, inr, ⊎_elim, arith}
use Rattle.std.proofs.lemmas.Bool.Decides.{nat_tests}
use Rattle.std.proofs.lemmas.Bool.{ne_eqb, cases_eq}
use Rattle.ranges.specs.Sums.{sum_below}
use Rattle.ranges.proofs.Sums.{sum_cong}
use Rattle.slips.specs.Groups.{up_to}
use Rattle.slip_check.specs.Tables.{first_up}
use Rattle.slip_check.proofs.WaysUp.{Rises, above_few, up_none, up_step, up_low, up_self}

-- a sum of which one term falls away
one_less : (n : ℕ) (f g : ℕ → ℕ) (x w : ℕ) → x < n → f x ≡ w → g x ≡ 0 → ((k : ℕ) → (k ≡ x → ⊥) → f k ≡ g k) → sum_below n f ≡ sum_below n g + w
one_less zero f g x w l a b same = absurd (omega arith)
one_less (suc n) f g x w l a b same =
    ⊎_elim
    (λ (e : x ≡ n).
    let rest = sum_cong n f g (λ k m. same k (λ q. omega arith)) in
    let fn : f n ≡ w = ap f (sym e) ∙ a in
    let gn : g n ≡ 0 = ap g (sym e) ∙ b in
    omega arith)
    (λ (e : x ≡ n → ⊥).
    let rest = one_less n f g x w (omega arith) a b same in
    let top = same n (λ q. e (sym q)) in
    omega arith)
    (cases_eq x n)

neither : (b : Bool) (w : ℕ) → cond (cond b (not b) b) w 0 ≡ 0
neither b w = grind arith

pub none_between : (n : ℕ) (x : ℕ → Bool) (w : ℕ → ℕ) → sum_below n (λ k. cond (cond (x k) (not (x k)) (x k)) (w k) 0) ≡ 0
none_between zero x w = refl
none_between (suc n) x w = let e = none_between n x w in let t = neither (x n) (w n) in omega arith

-- a group that is not up from either
apart_cond : (x y : Bool) (w : ℕ) → x ≡ false → y ≡ false → cond (cond x (not y) y) w 0 ≡ 0
apart_cond x y w p q = grind (arith, nat_tests)

-- a group that is up from the first alone
first_cond : (x y : Bool) (w : ℕ) → x ≡ true → y ≡ false → cond (cond x (not y) y) w 0 ≡ w
first_cond x y w p q = grind (arith, nat_tests)

-- nothing is up from a lower group's own number but that group: not from its parent, and not from another way that is not lower
not_up : (above : ℕ → ℕ) (count : ℕ) → Rises above count → (g p : ℕ) → (p ≡ 0) ⊎ ((g < p) × (p ≤ count)) → up_to above count p g ≡ false
not_up above count r g p (inl z) = ap (λ x. up_to above count x g) z ∙ up_none above count g
not_up above count r g p (inr u) = up_low above count r count p g u.1 u.0

-- a step up from the lower of two takes that group's price off
pub step_between : (above worth : ℕ → ℕ) (count : ℕ) → Rises above count → (a b : ℕ) → 0 < a → a ≤ count → (b ≡ 0) ⊎ ((a < b) × (b ≤ count))
    → sum_below count (λ k. cond (cond (up_to above count a (suc k)) (not (up_to above count b (suc k))) (up_to above count b (suc k))) (worth (suc k)) 0)
    ≡ sum_below count (λ k. cond (cond (up_to above count (above a) (suc k)) (not (up_to above count b (suc k))) (up_to above count b (suc k))) (worth (suc k)) 0) + worth a
step_between above worth count r zero b l m o = absurd (omega arith)
step_between above worth count r (suc x) b l m o =
    one_less count _ _ x (worth (suc x)) m
    (first_cond _ _ _ (up_self above count r (suc x) l m) (not_up above count r (suc x) b o))
    (apart_cond _ _ _ (not_up above count r (suc x) (above (suc x)) (r (suc x) l m)) (not_up above count r (suc x) b o))
    (λ k ne. ap (λ t. cond (cond t (not (up_to above count b (suc k))) (up_to above count b (suc k))) (worth (suc k)) 0) (other k ne))
  where
    other : (k : ℕ) → (k ≡ x → ⊥) → up_to above count (suc x) (suc k) ≡ up_to above count (above (suc x)) (suc k)
    other k ne = let e = up_step above count r (suc x) (suc k) l m in let n : eqb (suc x) (suc k) ≡ false = ne_eqb (suc x) (suc k) (λ q. ne (omega arith)) in grind (arith, nat_tests)

turn_cond : (x y : Bool) (w : ℕ) → cond (cond x (not y) y) w 0 ≡ cond (cond y (not x) x) w 0
turn_cond x y w = grind arith

-- the two ways up may change places
pub turn_between : (n : ℕ) (x y : ℕ → Bool) (w : ℕ → ℕ) → sum_below n (λ k. cond (cond (x k) (not (y k)) (y k)) (w k) 0) ≡ sum_below n (λ k. cond (cond (y k) (not (x k)) (x k)) (w k) 0)
turn_between zero x y w = refl
turn_between (suc n) x y w = let e = turn_between n x y w in let t = turn_cond (x n) (y n) (w n) in omega arith

-- how many groups a way up can still have
abbrev pub rank : ℕ → ℕ → ℕ
rank count g = cond (eqb g 0) 0 (count + 1 - g)

pub rank_few : (count g : ℕ) → count ≤ 127 → rank count g ≤ 127
rank_few count g h = grind (arith, nat_tests)

rank_falls : (count g p : ℕ) → 0 < g → g ≤ count → (p ≡ 0) ⊎ ((g < p) × (p ≤ count)) → rank count p < rank count g
rank_falls count g p l k o = grind (arith, nat_tests)

-- which of two ways up is to be followed next
lower_yes : (count a b : ℕ) → (a ≡ b → ⊥) → b ≤ count → first_up a b ≡ true → (0 < a) × ((b ≡ 0) ⊎ ((a < b) × (b ≤ count)))
lower_yes count a b ne l e = ⊎_elim (λ (z : b ≡ 0). (omega arith, inl z)) (λ (n : b ≡ 0 → ⊥). (grind (arith, nat_tests), inr (grind (arith, nat_tests), l))) (cases_eq b 0)

lower_no : (count a b : ℕ) → (a ≡ b → ⊥) → a ≤ count → first_up a b ≡ false → (0 < b) × ((a ≡ 0) ⊎ ((b < a) × (a ≤ count)))
lower_no count a b ne l e = ⊎_elim (λ (z : a ≡ 0). (omega arith, inl z)) (λ (n : a ≡ 0 → ⊥). (grind (arith, nat_tests), inr (grind (arith, nat_tests), l))) (cases_eq a 0)

-- what a step up from a, beside b, does to the prices between
abbrev between_by : (ℕ → ℕ) → (ℕ → ℕ) → ℕ → ℕ → ℕ → ℕ
between_by above worth count a b = sum_below count (λ k. cond (cond (up_to above count a (suc k)) (not (up_to above count b (suc k))) (up_to above count b (suc k))) (worth (suc k)) 0)

pub record Steps (above worth : ℕ → ℕ) (count a b : ℕ) : Type 0 where
  pub positive : 0 < a
  pub few : above a ≤ count
  pub falls : rank count (above a) < rank count a
  pub left : between_by above worth count a b ≡ between_by above worth count (above a) b + worth a
  pub right : between_by above worth count b a ≡ between_by above worth count b (above a) + worth a

steps_from : (above worth : ℕ → ℕ) (count : ℕ) → Rises above count → (a b : ℕ) → a ≤ count → (0 < a) × ((b ≡ 0) ⊎ ((a < b) × (b ≤ count))) → Steps above worth count a b
steps_from above worth count r a b k o =
    let one = step_between above worth count r a b o.0 k o.1 in
    let before = turn_between count (λ j. up_to above count b (suc j)) (λ j. up_to above count a (suc j)) (λ j. worth (suc j)) in
    let after = turn_between count (λ j. up_to above count (above a) (suc j)) (λ j. up_to above count b (suc j)) (λ j. worth (suc j)) in
    record {
      positive = o.0;
      few = above_few (above a) count a (r a o.0 k);
      falls = rank_falls count a (above a) o.0 k (r a o.0 k);
      left = one;
      right = before ∙ (one ∙ ap (λ x. x + worth a) after);
    }

pub steps_left : (above worth : ℕ → ℕ) (count : ℕ) → Rises above count → (a b : ℕ) → a ≤ count → b ≤ count → (a ≡ b → ⊥) → first_up a b ≡ true → Steps above worth count a b
steps_left above worth count r a b k l ne e = steps_from above worth count r a b k (lower_yes count a b ne l e)

pub steps_right : (above worth : ℕ → ℕ) (count : ℕ) → Rises above count → (a b : ℕ) → a ≤ count → b ≤ count → (a ≡ b → ⊥) → first_up a b ≡ false → Steps above worth count b a
steps_right above worth count r a b k l ne e = steps_from above worth count r b a l (lower_no count a b ne k e)
