use Rattle.std.proofs.Common.{◌≡◌, [], length, replicate, sym, ap, ◌∙◌, rules}
use Rattle.std.proofs.lemmas.Bool.{and_from, eq-eqb}
use Rattle.queue.specs.Waiting.{waiting}
use Rattle.sheet_register.specs.Calls.{nothing}
use Rattle.sheet_register.proofs.Keeping.{opened_kept}
use Rattle.sheets.proofs.sheet.OpenSheet.open.Goals as goal

pub returns : goal.returns
returns g c =
    let qs = waiting c.args.queue.now in
    let count = (g.B.CostBook.means c.args.book.now).count in
    let many : length c.args.marks.now ≡ count = search rules in
    let none : qs ≡ [] = search rules in
    let ms = c.fill.ensures.after (λ y e. e) ∙ (λ i. replicate (many i) (c.into.ensures i)) in
    let kept = opened_kept c.args.number count _ c.fill.new.self qs c.count-pieces.ensures ms none in
    record {
      accepts = sym (and_from _ _ (eq-eqb _ _ many) (ap nothing none));
      marks = ms;
      kept = kept;
      law = c.runs_by_law.ensures.law _ _ kept;
      closes = c.runs_by_law.ensures.closes c.args.number count _ kept;
    }
