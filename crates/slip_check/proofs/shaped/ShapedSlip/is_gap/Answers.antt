use Rattle.std.proofs.Common.{◌≡◌, ◌&&◌, Bool, eqb, ltb, refl, ap, ◌∙◌}
use Rattle.std.proofs.lemmas.Bool.{eq-eqb, ne_eqb}
use Rattle.slips.specs.View.{group}
use Rattle.slips.specs.Gaps.{part_size, odd_parts}
use Rattle.slips.specs.Verdict.{gap_good}
use Rattle.slip_check.specs.Shaped.{problem_of, view_of}
use Rattle.slip_check.specs.Tables.{blank_groups, gap_records, parts_apart}
use Rattle.slip_check.proofs.GapTests.{passed, failed, all_six}
use Rattle.slip_check.proofs.shaped.ShapedSlip.is_gap.Goals as goal
use Rattle.slip_check.proofs.shaped.ShapedSlip.is_gap.Goals.{Joined-are_gap_records, then-self-eq0, else-self-eq0, then-self-eq0-2, else-self-eq0-2, then-are_groups_blank, else-are_groups_blank, then-are_gap_records, else-are_gap_records}

-- what the last test leaves
decided : (g : _) (c : Joined-are_gap_records g) (last six : Bool) → six ≡ (c.if-are_gap_records.value && last)
    → last ≡ ltb (part_size (problem_of c.args.self.now) (group (view_of c.args.self.now)) 0) (odd_parts (problem_of c.args.self.now) (group (view_of c.args.self.now)) 256)
    → six ≡ gap_good (problem_of c.args.self.now) (view_of c.args.self.now)
decided g c last six e m =
    let p = problem_of c.args.self.now in
    let s = view_of c.args.self.now in
    let two : c.if-self-eq0.value ≡ (eqb s.total 0 && eqb s.count 0) = elim c.if-self-eq0.branch [
      | then-self-eq0 w ↦ passed (eqb s.total 0) (eqb s.count 0) _ (eq-eqb s.total 0 w.if-self-eq0.true) w.value-is
      | else-self-eq0 w ↦ failed (eqb s.total 0) (eqb s.count 0) _ (ne_eqb s.total 0 w.if-self-eq0.false) w.value-is
    ] in
    let three : c.if-self-eq0-2.value ≡ (c.if-self-eq0.value && blank_groups s) = elim c.if-self-eq0-2.branch [
      | then-self-eq0-2 w ↦ passed c.if-self-eq0.value (blank_groups s) _ w.if-self-eq0-2.true (w.value-is ∙ w.are_groups_blank.ensures)
      | else-self-eq0-2 w ↦ failed c.if-self-eq0.value (blank_groups s) _ w.if-self-eq0-2.false w.value-is
    ] in
    let four : c.if-are_groups_blank.value ≡ (c.if-self-eq0-2.value && gap_records p s) = elim c.if-are_groups_blank.branch [
      | then-are_groups_blank w ↦ passed c.if-self-eq0-2.value (gap_records p s) _ w.if-are_groups_blank.true (w.value-is ∙ w.are_gap_records.ensures)
      | else-are_groups_blank w ↦ failed c.if-self-eq0-2.value (gap_records p s) _ w.if-are_groups_blank.false w.value-is
    ] in
    let five : c.if-are_gap_records.value ≡ (c.if-are_groups_blank.value && parts_apart p s) = elim c.if-are_gap_records.branch [
      | then-are_gap_records w ↦ passed c.if-are_groups_blank.value (parts_apart p s) _ w.if-are_gap_records.true (w.value-is ∙ w.are_parts_apart.ensures)
      | else-are_gap_records w ↦ failed c.if-are_groups_blank.value (parts_apart p s) _ w.if-are_gap_records.false w.value-is
    ] in
    all_six (eqb s.total 0) (eqb s.count 0) (blank_groups s) (gap_records p s) (parts_apart p s) _ _ _ _ _ six two three four five (e ∙ ap (λ b. c.if-are_gap_records.value && b) m)

pub returns-then-are_parts_apart : goal.returns-then-are_parts_apart
returns-then-are_parts_apart g c = decided g (goal.at.returns-then-are_parts_apart g c).Joined-are_gap_records _ _ (passed _ _ _ c.if-are_parts_apart.true refl) (ap (λ n. ltb n c.count_odd_parts.result) c.count_part.ensures ∙ ap (ltb _) c.count_odd_parts.ensures)

pub returns-else-are_parts_apart : goal.returns-else-are_parts_apart
returns-else-are_parts_apart g c = decided g (goal.at.returns-else-are_parts_apart g c).Joined-are_gap_records _ _ (failed _ _ _ c.if-are_parts_apart.false refl) refl
