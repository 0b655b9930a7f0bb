-- What a write and a step of the head do to what waits.
use Rattle.std.proofs.Common.{◌≡◌, ℕ, suc, ◌+◌, ◌-◌, ◌<◌, ◌≤◌, List, [], ◌∷◌, ◌++◌, length, get_or, take, drop, set, sym, ap, ◌∙◌, ⊎_elim, arith, length-append, length-drop, length-set}
use Rattle.std.proofs.lemmas.List.{append-nil, take-take, take-append-le, take_more_set, drop-set-add, drop-set-lt, set-append_right, drop_more, drop_all, get_or-take, get_or_append_left, get_or-append_right, get_or-drop, length-take-le}
use Rattle.std.proofs.Math.Seq.{take-append-add}
use Rattle.std.proofs.lemmas.Bool.{cases_lt, lt-ltb, le-ltb, cond-true, cond-false}
use Rattle.queue.specs.Waiting.{cyclic, place}

module _ {T : Type 0} (xs : List T) (h : ℕ) (at : h ≤ length xs) where
  front_length : length (drop h xs) ≡ length xs - h
  front_length = length-drop h xs

  both_length : length (drop h xs ++ xs) ≡ length xs - h + length xs
  both_length = simp (length-append, length-drop)

  pub cyclic_length : (n : ℕ) → n ≤ length xs → length (cyclic xs h n) ≡ n
  unfolding cyclic
  cyclic_length n f = length-take-le n (drop h xs ++ xs) (omega (arith, both_length))

  -- what waits, where it does not go round, and where it does
  pub cyclic_ahead : (n : ℕ) → n ≤ length xs - h → take n (drop h xs) ++ [] ≡ cyclic xs h n
  unfolding cyclic
  cyclic_ahead n l = append-nil (take n (drop h xs)) ∙ sym (take-append-le n (drop h xs) xs (omega (arith, front_length)))

  pub cyclic_round : (n k : ℕ) → length xs - h + k ≡ n → k ≤ h → drop h xs ++ take k (take h xs) ≡ cyclic xs h n
  unfolding cyclic
  cyclic_round n k e l =
      ap (λ ys. drop h xs ++ ys) (take-take k h xs l)
      ∙ sym (take-append-add (drop h xs) xs k)
      ∙ ap (λ m. take m (drop h xs ++ xs)) (ap (λ m. m + k) front_length ∙ e)

  pub place_left : (i : ℕ) → i < length xs - h → place (length xs) h i ≡ h + i
  place_left i l = cond-true _ _ _ (lt-ltb i (length xs - h) l)

  pub place_right : (i : ℕ) → length xs - h ≤ i → place (length xs) h i ≡ i - (length xs - h)
  place_right i l = cond-false _ _ _ (le-ltb i (length xs - h) l)

  pub cyclic_push : (n : ℕ) (x : T) → n < length xs → cyclic (set xs (place (length xs) h n) x) h (n + 1) ≡ cyclic xs h n ++ x ∷ []
  unfolding cyclic
  cyclic_push n x f =
      ⊎_elim
      (λ (l : n < length xs - h).
      let short : n + 1 ≤ length (drop h xs) = omega (arith, front_length) in
      let short' : n + 1 ≤ length (set (drop h xs) n x) = simp length-set (omega (arith, front_length)) in
      let less : n ≤ length (drop h xs) = omega arith in
      let inside : n < length (drop h xs) = omega arith in
      ap (λ k. take (n + 1) (drop h (set xs k x) ++ set xs k x)) (place_left n l)
      ∙ ap (λ ys. take (n + 1) (ys ++ set xs (h + n) x)) (drop-set-add h xs n x)
      ∙ take-append-le (n + 1) (set (drop h xs) n x) (set xs (h + n) x) short'
      ∙ take_more_set (drop h xs) n x inside
      ∙ ap (λ ys. ys ++ x ∷ []) (sym (take-append-le n (drop h xs) xs less)))
      (λ l.
      let k = n - (length xs - h) in
      let under : k < h = omega arith in
      let inside : n < length (drop h xs ++ xs) = omega (arith, both_length) in
      ap (λ k. take (n + 1) (drop h (set xs k x) ++ set xs k x)) (place_right n l)
      ∙ ap (λ ys. take (n + 1) (ys ++ set xs k x)) (drop-set-lt h xs k x under)
      ∙ ap (take (n + 1)) (sym (set-append_right (drop h xs) xs (length xs - h) n x front_length l))
      ∙ take_more_set (drop h xs ++ xs) n x inside)
      (cases_lt n (length xs - h))

  pub cyclic_item : (n i : ℕ) (d : T) → n ≤ length xs → i < n → get_or (cyclic xs h n) i d ≡ get_or xs (place (length xs) h i) d
  unfolding cyclic
  cyclic_item n i d f l =
      get_or-take n (drop h xs ++ xs) i d l
      ∙ ⊎_elim
      (λ a.
      let inside : i < length (drop h xs) = omega (arith, front_length) in
      get_or_append_left (drop h xs) xs d i inside ∙ get_or-drop h xs i d ∙ ap (λ k. get_or xs k d) (sym (place_left i a)))
      (λ a. get_or-append_right (drop h xs) xs (length xs - h) i d front_length a ∙ ap (λ k. get_or xs k d) (sym (place_right i a)))
      (cases_lt i (length xs - h))

  pub cyclic_pop : (n : ℕ) (d : T) → 0 < n → n ≤ length xs → cyclic xs h n ≡ get_or xs (place (length xs) h 0) d ∷ cyclic xs (place (length xs) h 0 + 1) (n - 1)
  unfolding cyclic
  cyclic_pop n d some f =
      let p = place (length xs) h 0 in
      let back : n ≡ suc (n - 1) = omega arith in
      ⊎_elim
      (λ l.
      let same : p ≡ h = place_left 0 l ∙ omega arith in
      let inside : h < length xs = omega arith in
      ap (λ ys. take n (ys ++ xs)) (drop_more xs h d inside)
      ∙ ap (λ m. take m (get_or xs h d ∷ (drop (h + 1) xs ++ xs))) back
      ∙ ap (λ k. get_or xs k d ∷ take (n - 1) (drop (k + 1) xs ++ xs)) (sym same))
      (λ l.
      let same : p ≡ 0 = place_right 0 l ∙ omega arith in
      let inside : 0 < length xs = omega arith in
      let wide : length xs ≤ h = omega arith in
      let short : n ≤ length xs = omega arith in
      let tail_long : n - 1 ≤ length (drop 1 xs) = simp length-drop (omega arith) in
      ap (λ ys. take n (ys ++ xs)) (drop_all h xs wide)
      ∙ ap (take n) (drop_more xs 0 d inside)
      ∙ ap (λ m. take m (get_or xs 0 d ∷ drop (0 + 1) xs)) back
      ∙ ap (λ ys. get_or xs 0 d ∷ ys) (sym (take-append-le (n - 1) (drop 1 xs) xs tail_long))
      ∙ ap (λ k. get_or xs k d ∷ take (n - 1) (drop (k + 1) xs ++ xs)) (sym same))
      (cases_lt 0 (length xs - h))
