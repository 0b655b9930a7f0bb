-- When memory agrees with what a sheet counts.
use Rattle.std.proofs.Common.{◌≡◌, ℕ, ◌<◌, Bool, true, eqb, ltb, List, ◌∷◌, length, sym, refl, ap, ◌∙◌}
use Rattle.std.proofs.lemmas.Bool.{and_parts, eqb-true, eq-eqb, ltb-true}
use Rattle.sheet_register.specs.declared.request.Request.{Request}
use Rattle.sheet_register.specs.Memory.{taken, struck, marked, each, Counts, marks_agree, agrees}

pub same_counts : {a a' b b' d d' e e' : ℕ} → a ≡ a' → b ≡ b' → d ≡ d' → e ≡ e' → ◌≡◌ {A = Counts} (record { pieces = a; taken = b; struck = d; waiting = e }) (record { pieces = a'; taken = b'; struck = d'; waiting = e' })
same_counts p q r s = λ i. record { pieces = p i; taken = q i; struck = r i; waiting = s i }

module _ (c : Counts) (ms : List ℕ) where
  if_struck : length ms ≡ c.pieces → each (λ m. ltb m 3) ms ≡ true → marked taken ms ≡ c.taken → marks_agree c ms ≡ eqb (marked struck ms) c.struck
  unfolding marks_agree
  if_struck a l b = rw (eq-eqb _ _ a, l, eq-eqb _ _ b) refl

  pub record MarksAgreed : Type 0 where
    pub pieces : length ms ≡ c.pieces
    pub lawful : each (λ m. ltb m 3) ms ≡ true
    pub taken : marked taken ms ≡ c.taken
    pub struck : marked struck ms ≡ c.struck

  pub marks_agreed : marks_agree c ms ≡ true → MarksAgreed
  unfolding marks_agree
  marks_agreed e =
      let a = and_parts _ _ e in
      let b = and_parts _ _ a.1 in
      let d = and_parts _ _ b.1 in
      record { pieces = eqb-true _ _ a.0; lawful = b.0; taken = eqb-true _ _ d.0; struck = eqb-true _ _ d.1 }

  pub marks_agreeing : MarksAgreed → marks_agree c ms ≡ true
  marks_agreeing a = if_struck a.pieces a.lawful a.taken ∙ eq-eqb _ _ a.struck

module _ (c : Counts) (ms : List ℕ) (qs : List Request) where
  abbrev names : Bool
  names = each (λ q. ltb q.piece c.pieces) qs

  if_named : marks_agree c ms ≡ true → length qs ≡ c.waiting → agrees c ms qs ≡ names
  unfolding agrees
  if_named m e = rw (m, eq-eqb _ _ e) refl

  pub record Agreed : Type 0 where
    pub marks : MarksAgreed c ms
    pub waiting : length qs ≡ c.waiting
    pub named : names ≡ true

  pub agreed : agrees c ms qs ≡ true → Agreed
  unfolding agrees
  agreed e =
      let a = and_parts _ _ e in
      let f = and_parts _ _ a.1 in
      record { marks = marks_agreed c ms a.0; waiting = eqb-true _ _ f.0; named = f.1 }

  pub agreeing : Agreed → agrees c ms qs ≡ true
  agreeing a = if_named (marks_agreeing c ms a.marks) a.waiting ∙ a.named

-- of requests that each name a piece the first does
pub first_named : (n : ℕ) (qs : List Request) (q : Request) (rest : List Request) → each (λ q. ltb q.piece n) qs ≡ true → qs ≡ q ∷ rest → q.piece < n
first_named n qs q rest e f = ltb-true _ _ (and_parts _ _ (sym (ap (each (λ q. ltb q.piece n)) f) ∙ e)).0
