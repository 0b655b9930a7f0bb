use Rattle.std.proofs.Common.{rules}
use Rattle.std.proofs.lemmas.Result.{err_from_is_err_and}
use Rattle.list_book.specs.Lawful.{list_answers}
use Rattle.list_book.proofs.Blaming.{list_blamed}
use Rattle.list_book.proofs.list.ListBook.load.Goals as goal

pub returns-clause-law : goal.returns-clause-law
returns-clause-law c = list_answers _ _ (search rules)

pub returns-in_err-check_list-clause-blamed : goal.returns-in_err-check_list-clause-blamed
returns-in_err-check_list-clause-blamed c =
    let p = err_from_is_err_and c.from_residual.result c.from_residual.ensures.1 in
    rw (p.1, p.2) (list_blamed _ _ _ (search rules))
