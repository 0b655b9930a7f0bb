use Rattle.std.proofs.Common.{sym, ap, ◌∙◌, inl, inr, rules}
use Rattle.slips.specs.declared.fault.SlipFault.TheVariants.{Gap}
use Rattle.slips.specs.declared.slip.Kind.TheVariants as Kind
use Rattle.slips.specs.Kind.{kind_number}
use Rattle.slips.specs.View.{view}
use Rattle.slips.specs.Verdict.{unless}
use Rattle.slip_check.proofs.KindsOfSlip.{verdict_shape, other_lengths, other_kind, verdict_priced, verdict_gap}
use Rattle.slip_check.proofs.check.first_fault.Goals as goal
use Rattle.slip_check.proofs.check.first_fault.Goals.{then-len-count-via-then-len-count, then-len-count-via-else-len-count+then-len-ne-GROUPS}

pub returns-then-len-count : goal.returns-then-len-count
returns-then-len-count g c =
    let t = g.B.CostBook.means c.args.book.now in
    let s = view c.args.slip.now in
    verdict_shape t c.args.marks.now s
    (other_lengths t c.args.marks.now s (elim c.then-len-count.branch [
      | then-len-count-via-then-len-count w ↦ inl (search rules)
      | then-len-count-via-else-len-count+then-len-ne-GROUPS w ↦ inr (search rules)
    ]))

pub returns-in-Ok-Priced : goal.returns-in-Ok-Priced
returns-in-Ok-Priced g c =
    let t = g.B.CostBook.means c.args.book.now in
    let kind = sym c.in-Ok-Priced.ensures ∙ ap kind_number c.in-Ok-Priced.field-0-is in
    c.check_priced.ensures ∙ verdict_priced t c.args.marks.now (view c.args.slip.now) (search rules) (search rules) kind

pub returns-in-Ok-Gap : goal.returns-in-Ok-Gap
returns-in-Ok-Gap g c =
    let t = g.B.CostBook.means c.args.book.now in
    let kind = sym c.in-Ok-Gap.ensures ∙ ap kind_number c.in-Ok-Gap.field-0-is in
    c.unless.ensures ∙ (ap (λ b. unless b Gap) c.is_gap.ensures ∙ verdict_gap t c.args.marks.now (view c.args.slip.now) (search rules) (search rules) kind)

pub returns-in-Err : goal.returns-in-Err
returns-in-Err g c =
    let t = g.B.CostBook.means c.args.book.now in
    let none = c.in-Err.ensures.1 in
    verdict_shape t c.args.marks.now (view c.args.slip.now) (other_kind t c.args.marks.now (view c.args.slip.now) (λ e. none Kind.Priced (sym e)) (λ e. none Kind.Gap (sym e)))
