-- Every verdict on a slip keeps the law.
use Rattle.std.proofs.Common.{◌≡◌, ℕ, ◌≤◌, ◌⊎◌, List, None, sym, ◌∙◌, inl, inr, ⊎_elim, arith}
use Rattle.books.specs.Table.{Table, Sound}
use Rattle.slips.specs.Problem.{problem, pairing_cost}
use Rattle.slips.specs.View.{View, mate, group}
use Rattle.slips.specs.System.{Certificate}
use Rattle.slips.specs.Gaps.{most_parts, GapCertificate}
use Rattle.slips.specs.Verdict.{verdict}
use Rattle.slips.specs.Worth.{Least, Barren, VerdictLaw, VerdictsByLaw}
use Rattle.slip_laws.proofs.Cheapest.{cheapest}
use Rattle.slip_laws.proofs.Fractional.{cheapest_shares}
use Rattle.slip_laws.proofs.Gapped.{gap_barren}
use Rattle.slip_laws.proofs.Fair.{Fair, fair_problem}
use Rattle.slip_laws.proofs.Tested.{Tested, tested, faultless}
use Rattle.slip_laws.proofs.Certified.{pairing_of, passes_of, certificate_of}
use Rattle.slip_laws.proofs.Exactly.{tested_by}
use Rattle.slip_laws.proofs.Parted.{parted, parted_passes, gap_shown, gap_parted}
use Rattle.slip_laws.proofs.Formed.{formed, priced_none, priced_passing, gap_held, gap_passing}

-- the total of a slip in place of what its mates cost
at_most : (total own other : ℕ) → total ≡ own → own ≤ other → total ≤ other
at_most total own other e h = omega arith

module _ (t : Table) (marks : List ℕ) (sound : Sound t) where
  fair : Fair (problem t marks)
  fair = fair_problem t marks sound

  passed : (s : View) → s.kind ≡ 1 → verdict t marks s ≡ None → Tested (problem t marks) s
  passed s k e = tested (problem t marks) s (priced_none t marks s k e)

  certificate : (s : View) → s.kind ≡ 1 → verdict t marks s ≡ None → Certificate (problem t marks) s
  certificate s k e =
      let f = formed t marks s e in
      certificate_of (problem t marks) s fair (passed s k e) k f.pieces f.groups

  certificate_passes : (s : View) → Certificate (problem t marks) s → verdict t marks s ≡ None
  certificate_passes s c =
      priced_passing t marks s c.form.kind (record { pieces = c.form.piece_records; groups = c.form.group_records; kinds = inl c.form.kind })
      (faultless (problem t marks) s (tested_by (problem t marks) s fair c))

  least : (s : View) → s.kind ≡ 1 → verdict t marks s ≡ None → Least (problem t marks) s
  least s k e =
      let d = passed s k e in
      record {
        pairing = pairing_of (problem t marks) s fair d;
        cost = sym d.total;
        least = λ m q. at_most s.total (pairing_cost (problem t marks) (mate s)) (pairing_cost (problem t marks) m) d.total (cheapest (problem t marks) s (passes_of (problem t marks) s fair d) m q);
        least_shares = λ n x q. rw d.total (cheapest_shares (problem t marks) s (passes_of (problem t marks) s fair d) (certificate s k e).form.odd_groups sound.same n x q);
      }

  gap : (s : View) → s.kind ≡ 2 → verdict t marks s ≡ None → GapCertificate (problem t marks) s
  gap s k e =
      let f = formed t marks s e in
      gap_shown (problem t marks) s k f.pieces f.groups (parted (problem t marks) s (gap_held t marks s k e))

  gap_passes : (s : View) → GapCertificate (problem t marks) s → verdict t marks s ≡ None
  gap_passes s c =
      gap_passing t marks s c.form.kind (record { pieces = c.form.piece_records; groups = c.form.group_records; kinds = inr c.form.kind })
      (parted_passes (problem t marks) s (gap_parted (problem t marks) s c))

  none : (s : View) → s.kind ≡ 2 → verdict t marks s ≡ None → Barren (problem t marks)
  none s k e = gap_barren (problem t marks) (group s) most_parts fair.even (gap s k e).separated

  -- a priced slip and a gap slip never both pass
  apart : (a b : View) → a.kind ≡ 1 → b.kind ≡ 2 → verdict t marks a ≡ None → verdict t marks b ≡ None → ⊥
  apart a b k l d e = none b l e (mate a) (least a k d).pairing

  same_kind : (a b : View) → (a.kind ≡ 1) ⊎ (a.kind ≡ 2) → (b.kind ≡ 1) ⊎ (b.kind ≡ 2) → verdict t marks a ≡ None → verdict t marks b ≡ None → a.kind ≡ b.kind
  same_kind a b (inl k) (inl l) d e = k ∙ sym l
  same_kind a b (inl k) (inr l) d e = absurd (apart a b k l d e)
  same_kind a b (inr k) (inl l) d e = absurd (apart b a l k e d)
  same_kind a b (inr k) (inr l) d e = k ∙ sym l

  second_kind : (s : View) → verdict t marks s ≡ None → (s.kind ≡ 1 → ⊥) → s.kind ≡ 2
  second_kind s e n = ⊎_elim (λ (k : s.kind ≡ 1). absurd (n k)) (λ (k : s.kind ≡ 2). k) (formed t marks s e).kinds

  verdict_law : (s : View) → VerdictLaw t marks s
  verdict_law s = record {
    priced_passes = certificate s;
    priced_exactly = certificate_passes s;
    priced_least = least s;
    gap_passes = gap s;
    gap_exactly = gap_passes s;
    gap_barren = none s;
    kinds = second_kind s;
    one_kind = λ other d e. same_kind s other (formed t marks s d).kinds (formed t marks other e).kinds d e;
  }

pub verdicts_by_law : VerdictsByLaw
verdicts_by_law t marks s sound = verdict_law t marks sound s
