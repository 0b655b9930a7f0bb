-- What a chain over a range of numbers answers, from what its closure answers of each of them.
use denote.Ref.{Bor}
use denote.Param.Members.{Mut, Called}
use Rattle.std.proofs.Common.{◌≡◌, ℕ, ◌+◌, ◌-◌, ◌*◌, ◌<◌, ◌≤◌, suc, cond, List, [], ◌∷◌, length, slice_index, Bool, true, false, IsTrue, MatchBool, IfSome, IsSomeAnd, Some, None, Option, Ok, Err, Result, sym, ap, ◌∙◌, subst, refl, ⊎_elim, arith}
use Rattle.std.proofs.lemmas.Bool.{cases_lt}
use Rattle.std.specs.Fn.{CalledAt}
use Rattle.std.specs.List.{fold}
use Rattle.std.specs.Option.{option_map}
use Rattle.std.specs.Result.{result_err, result_from_control_flow, IsErr, IsErrAnd}
use Rattle.std.specs.Iterator.Runs.{Run, SomeRun, WholeRun, EachRunFrom, IsFilterRun, IsMapRun, AllItems, AllItemsBelow, AllItemsGive, AnyItemGives, CallKeepsClosure, IsTryForEachRun, CallBranches}
use Rattle.std.specs.declared.ops.Range.{Range}
use Rattle.std.specs.declared.ops.ControlFlow.TheVariants.{Continue, Break}
use Rattle.std.proofs.iter.Yields.{nat_range_steps}
use Rattle.std.proofs.iter.runs.Sources.{range_listed}
use Rattle.ranges.specs.Every.{all_below}
use Rattle.ranges.specs.First.{first_below}
use Rattle.ranges.specs.Sums.{sum_below, count_below}
use Rattle.ranges.proofs.Every.{all_from, all_broken}
use Rattle.ranges.proofs.First.{first_absent, first_found}
use Rattle.ranges.proofs.Options.{same_some}
use Rattle.ranges.proofs.Sums.{sum_more, sum_bound}

itself : (o : Option ℕ) (x : ℕ) → option_map (λ y. y) o ≡ Some x → o ≡ Some x
itself None x e = e
itself (Some y) x e = e

-- the item at place j of a run from m on is m + j, and there are as many as lie between m and n
module _ (m n : ℕ) (s : Range ℕ) (start : s.start ≡ m) (end : s.end ≡ n) (q : Run nat_range_steps) (from : q.from ≡ s) where
  item : (j k : ℕ) → m + j ≡ k → j < q.len → q.at j ≡ Some k
  item j k e l =
      let up = range_listed q q.seen in
      let at : up.0 + j ≡ k = omega (arith, up.2, ap (λ (t : Range ℕ). t.start) from, start) in
      itself (q.at j) k (up.4.3 j l ∙ ap Some at)

  short : q.len ≤ n - m
  short =
      let up = range_listed q q.seen in
      omega (arith, up.4.0, up.2, up.3, ap (λ (t : Range ℕ). t.start) from, ap (λ (t : Range ℕ). t.end) from, start, end)

  long : q.whole ≡ true → q.len ≡ n - m
  long w =
      let up = range_listed q q.seen in
      omega (arith, up.4.1 w, up.2, up.3, ap (λ (t : Range ℕ). t.start) from, ap (λ (t : Range ℕ). t.end) from, start, end)

  -- what holds of an item holds of its number
  of_item : (P : ℕ → Type 0) (j k : ℕ) → m + j ≡ k → j < q.len → IfSome (q.at j) P → P k
  of_item P j k e l h = subst (λ o. IfSome o P) (item j k e l) h

  of_item_there : (P : ℕ → Type 0) (j k : ℕ) → m + j ≡ k → j < q.len → IsSomeAnd (q.at j) P → P k
  of_item_there P j k e l h = subst (λ o. IsSomeAnd o P) (item j k e l) h

-- `all`
module _ {F : Type 0} (g : Mut F (ℕ × Unit {0}) Bool) (f : F) where
  pub all_ran : (p : ℕ → Bool) (n : ℕ) (b : Bool) (s : Range ℕ)
      → SomeRun nat_range_steps s (λ q. MatchBool b (IsTrue q.whole × AllItemsGive q g f true) (AnyItemGives q g f false))
      → s.start ≡ 0 → s.end ≡ n → ((x : ℕ) (r : Bool) (f' : F) → Called g f (x, tt) r f' → (f' ≡ f) × (r ≡ p x)) → b ≡ all_below n p
  all_ran p n true s run start end says =
      let q = run.0 in
      let gave = run.2.1 (λ a r f' called. (says a.0 r f' called).0) in
      let all : q.len ≡ n = omega (arith, long 0 n s start end q run.1 run.2.0) in
      sym (all_from n p (λ k l. sym (says k true f (of_item 0 n s start end q run.1 (λ x. Called g f (x, tt) true f) k k (omega arith) (omega arith) (gave k))).1))
  all_ran p n false s run start end says =
      let q = run.0 in
      let gave = run.2 (λ a r f' called. (says a.0 r f' called).0) in
      let few : q.len ≤ n = omega (arith, short 0 n s start end q run.1) in
      sym (all_broken p gave.0 n (omega (arith, gave.1)) (sym (says gave.0 false f (of_item_there 0 n s start end q run.1 (λ x. Called g f (x, tt) false f) gave.0 gave.0 (omega arith) gave.1 gave.2)).1))

-- what `?` makes of an error of the same type
resumed : {E : Type 0} (r : Result (Unit {0}) E) (e : E) → IsErr r × IsErrAnd r (λ x. x ≡ e) → (x : E) × (r ≡ Err x) × (e ≡ x)
resumed (Ok u) e h = absurd h.1
resumed (Err x) e h = (x, refl, sym h.1)

-- `try_for_each`
module _ {F E : Type 0} (g : Mut F (ℕ × Unit {0}) (Result (Unit {0}) E)) (f : F) where
  pub tried_from : (h : ℕ → Option E) (m n : ℕ) (r : Result (Unit {0}) E) (s : Range ℕ)
      → SomeRun nat_range_steps s (λ q. IsTryForEachRun q g f (λ v c. v ≡ result_from_control_flow c) (λ d v. IsErr v × IsErrAnd v (λ x. x ≡ d.0)) r)
      → s.start ≡ m → s.end ≡ n → ((k : ℕ) → k < m → h k ≡ None)
      → CallKeepsClosure g f → ((x : ℕ) (v : Result (Unit {0}) E) → m ≤ x → Called g f (x, tt) v f → result_err v ≡ h x) → result_err r ≡ first_below h n
  tried_from h m n r s run start end before keeps says = by_end q.whole refl run.2
    where
      q : Run nat_range_steps
      q = run.0

      passed : (k : ℕ) → m ≤ k → CallBranches q g f (λ v c. v ≡ result_from_control_flow c) (Continue tt) k → h k ≡ None
      passed k l b = sym (says k b.0 l b.1) ∙ ap result_err b.2

      absent : (l : ℕ) → ((j k : ℕ) → j < l → m + j ≡ k → CallBranches q g f (λ v c. v ≡ result_from_control_flow c) (Continue tt) k) → (k : ℕ) → k < m + l → h k ≡ None
      absent l gave k b = ⊎_elim (λ (low : k < m). before k low) (λ (high : m ≤ k). passed k high (gave (k - m) k (omega arith) (omega arith))) (cases_lt k m)

      by_end : (b : Bool) → q.whole ≡ b
          → MatchBool b ((r ≡ Ok tt) × (CallKeepsClosure g f → AllItems q (CallBranches q g f (λ v c. v ≡ result_from_control_flow c) (Continue tt))))
          ((d : _) × (i : ℕ) × (IsErr r × IsErrAnd r (λ x. x ≡ d.0)) × (q.len ≡ i + 1) × (CallKeepsClosure g f → IsSomeAnd (q.at i) (CallBranches q g f (λ v c. v ≡ result_from_control_flow c) (Break d)) × AllItemsBelow q i (CallBranches q g f (λ v c. v ≡ result_from_control_flow c) (Continue tt))))
          → result_err r ≡ first_below h n
      by_end true whole w =
          let all : q.len ≡ n - m = long m n s start end q run.1 whole in
          let gave = w.1 keeps in
          let none = absent q.len (λ j k l e. of_item m n s start end q run.1 (CallBranches q g f (λ v c. v ≡ result_from_control_flow c) (Continue tt)) j k e l (gave j)) in
          ap result_err w.0 ∙ sym (first_absent h n (λ k l. none k (omega arith)))
      by_end false whole w =
          let i = w.1 in
          let few : q.len ≤ n - m = short m n s start end q run.1 in
          let gave = w.4 keeps in
          let none = absent i (λ j k l e. of_item_there m n s start end q run.1 (CallBranches q g f (λ v c. v ≡ result_from_control_flow c) (Continue tt)) j k e (omega (arith, w.3)) (gave.1 j l)) in
          let at = of_item_there m n s start end q run.1 (CallBranches q g f (λ v c. v ≡ result_from_control_flow c) (Break w.0)) i (m + i) refl (omega (arith, w.3)) gave.0 in
          let end = resumed r w.0.0 w.2 in
          let here : h (m + i) ≡ Some end.0 = sym (says (m + i) at.0 (omega arith) at.1) ∙ ap result_err at.2 ∙ ap Some end.2 in
          ap result_err end.1 ∙ sym (first_found h (m + i) n end.0 (omega (arith, w.3)) (first_absent h (m + i) none) here)

  -- the same from 0 on
  pub tried : (h : ℕ → Option E) (n : ℕ) (r : Result (Unit {0}) E) (s : Range ℕ)
      → SomeRun nat_range_steps s (λ q. IsTryForEachRun q g f (λ v c. v ≡ result_from_control_flow c) (λ d v. IsErr v × IsErrAnd v (λ x. x ≡ d.0)) r)
      → s.start ≡ 0 → s.end ≡ n
      → ((x : ℕ) (v : Result (Unit {0}) E) (f' : F) → Called g f (x, tt) v f' → (f' ≡ f) × (result_err v ≡ h x)) → result_err r ≡ first_below h n
  tried h n r s run start end says = tried_from h 0 n r s run start end (λ k l. absurd (omega arith)) (λ a v f' called. (says a.0 v f' called).0) (λ x v l called. (says x v f called).1)

-- the items of a run from 0 on are the numbers in their order
numbers : (n : ℕ) (s : Range ℕ) (start : s.start ≡ 0) (end : s.end ≡ n) (q : Run nat_range_steps) (from : q.from ≡ s) → (k : ℕ) → k < length q.items → slice_index q.items k ≡ 0 + k
numbers n s start end q from k l =
    same_some (slice_index q.items k) (0 + k) (sym (q.reads k 0 (omega (arith, q.long))) ∙ ap (option_map (λ (y : ℕ). y)) (item 0 n s start end q from k (0 + k) refl (omega (arith, q.long))))

-- a sum over the numbers from m on, one by one
sums_from : (t : ℕ → ℕ) (m : ℕ) (xs : List ℕ) → ((k : ℕ) → k < length xs → slice_index xs k ≡ m + k) → fold (λ a x. a + t x) (sum_below m t) xs ≡ sum_below (m + length xs) t
sums_from t m [] h = ap (λ n. sum_below n t) (omega arith)
sums_from t m (x ∷ xs) h =
    let at : x ≡ m = omega (arith, h 0 (omega arith)) in
    let rest = sums_from t (m + 1) xs (λ k l. omega (arith, h (suc k) (omega arith))) in
    let more : sum_below m t + t x ≡ sum_below (m + 1) t = ap (λ z. sum_below m t + t z) at ∙ sym (sum_more m t) in
    let ends : m + 1 + length xs ≡ m + suc (length xs) = omega arith in
    ap (λ z. fold (λ a y. a + t y) z xs) more ∙ rest ∙ ap (λ n. sum_below n t) ends

-- `filter` and `count`
module _ {F T : Type 0} {outer : T → Option ℕ → T → Type 0} (g : Mut F (Bor ℕ × Unit {0}) Bool) (f : F) where
  pub counted : (p : ℕ → Bool) (n r : ℕ) (it : T) (s : Range ℕ) → WholeRun outer it (λ u. r ≡ u.len) → EachRunFrom outer it (λ u. SomeRun nat_range_steps s (λ q. IsFilterRun u q g f))
      → s.start ≡ 0 → s.end ≡ n → ((x : ℕ) (b : Bool) (f' : F) → CalledAt g f x b f' → (f' ≡ f) × (b ≡ p x)) → r ≡ count_below n p
  counted p n r it s whole filtered start end says =
      let u = whole.0 in
      let through = filtered u u.seen whole.1 in
      let q = through.0 in
      let is = through.2 in
      let all : 0 + length q.items ≡ n = omega (arith, q.long, long 0 n s start end q through.1 (is.0 ∙ whole.2)) in
      let tested = is.5 (λ a x. a + cond (p x) 1 0) (λ x b f' a called. let k = says x b f' called in (k.0, ap (λ c. a + cond c 1 0) (sym k.1))) in
      whole.3 ∙ tested ∙ sums_from (λ k. cond (p k) 1 0) 0 q.items (numbers n s start end q through.1) ∙ ap (λ m. count_below m p) all

-- `map` and `sum`
module _ {F T : Type 0} {outer : T → Option ℕ → T → Type 0} (g : Mut F (ℕ × Unit {0}) ℕ) (f : F) where
  sums : (t : ℕ → ℕ) (n : ℕ) (it : T) (s : Range ℕ) → EachRunFrom outer it (λ u. SomeRun nat_range_steps s (λ q. IsMapRun u q g f))
      → s.start ≡ 0 → s.end ≡ n → ((x y : ℕ) (f' : F) → Called g f (x, tt) y f' → (f' ≡ f) × (y ≡ t x))
      → (u : Run outer) → u.from ≡ it → (u.len ≤ n) × (u.whole ≡ true → u.len ≡ n) × (fold (λ a x. a + x) 0 u.items ≡ sum_below u.len t)
  sums t n it s maps start end says u from =
      let through = maps u u.seen from in
      let q = through.0 in
      let is = through.2 in
      let all : 0 + length q.items ≡ u.len = omega (arith, is.1, q.long) in (
        omega (arith, is.1, short 0 n s start end q through.1),
        (λ w. omega (arith, is.1, long 0 n s start end q through.1 (is.0 ∙ w))),
        is.4 (λ a x. a + x) (λ a x. a + t x) 0 (λ x y f' a called. let k = says x y f' called in (k.0, ap (λ z. a + z) k.1)) ∙ (sums_from t 0 q.items (numbers n s start end q through.1) ∙ ap (λ m. sum_below m t) all),
      )

  pub summed : (t : ℕ → ℕ) (n r : ℕ) (it : T) (s : Range ℕ) → WholeRun outer it (λ u. r ≡ fold (λ a x. a + x) 0 u.items)
      → EachRunFrom outer it (λ u. SomeRun nat_range_steps s (λ q. IsMapRun u q g f))
      → s.start ≡ 0 → s.end ≡ n → ((x y : ℕ) (f' : F) → Called g f (x, tt) y f' → (f' ≡ f) × (y ≡ t x)) → r ≡ sum_below n t
  summed t n r it s whole maps start end says =
      let k = sums t n it s maps start end says whole.0 whole.1 in
      whole.3 ∙ (k.2 ∙ ap (λ m. sum_below m t) (k.1 whole.2))

  pub sums_low : (t : ℕ → ℕ) (n most : ℕ) (it : T) (s : Range ℕ) → EachRunFrom outer it (λ u. SomeRun nat_range_steps s (λ q. IsMapRun u q g f))
      → s.start ≡ 0 → s.end ≡ n → ((x y : ℕ) (f' : F) → Called g f (x, tt) y f' → (f' ≡ f) × (y ≡ t x)) → ((k : ℕ) → t k ≤ most)
      → EachRunFrom outer it (λ u. (fold (λ a x. a + x) 0 u.items ≤ most * u.len) × (u.len ≤ n))
  sums_low t n most it s maps start end says low u seen from =
      let k = sums t n it s maps start end says u from in
      (omega (arith, k.2, sum_bound u.len most t (λ j l. low j)), k.0)
