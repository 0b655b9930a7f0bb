-- The table of a list book.
use Rattle.std.specs.Prelude.{vec_items}
use Rattle.books.specs.Table.{Table}
use Rattle.list_book.specs.declared.list.ListBook.{ListBook}
use Rattle.list_book.specs.Lines.{list_table}

abbrev pub list_means : ListBook → Table
list_means b = list_table b.count (vec_items b.lines)
