-- The table of a tariff book.
use Rattle.std.specs.Prelude.{vec_items}
use Rattle.books.specs.Table.{Table}
use Rattle.tariff_book.specs.declared.tariff.TariffBook.{TariffBook}
use Rattle.tariff_book.specs.Tariff.{tariff_table}

abbrev pub tariff_means : TariffBook → Table
tariff_means b = tariff_table b.terms (vec_items b.pieces)
