use Rattle.std.proofs.Common.{rules}
use Rattle.std.proofs.lemmas.Result.{err_from_is_err_and}
use Rattle.tariff_book.specs.Pricing.{tariff_prices, tariff_blamed}
use Rattle.tariff_book.proofs.tariff.TariffBook.load.Goals as goal

pub returns-clause-law : goal.returns-clause-law
returns-clause-law c = tariff_prices _ _ (search rules)

pub returns-in_err-check_tariff-clause-blamed : goal.returns-in_err-check_tariff-clause-blamed
returns-in_err-check_tariff-clause-blamed c =
    let p = err_from_is_err_and c.from_residual.result c.from_residual.ensures.1 in
    rw (p.1, p.2) (tariff_blamed _ _ _ (search rules))
