use Rattle.std.proofs.Common.{rules}
use Rattle.tariff_book.specs.Within.{tariff_read_good}
use Rattle.tariff_book.proofs.tariff.calls.TariffBookCostBook.pair_cost.Goals as goal

pub pieces_cost-requires-clause-good_one : goal.pieces_cost-requires-clause-good_one
pieces_cost-requires-clause-good_one c = tariff_read_good c.args.self.now.terms c.args.self.now.pieces.items c.args.i _ c.args.self.now.lawful (search rules) (rw c.deref.ensures.value at c.in_ok-get.ensures.lookup.1)

pub pieces_cost-requires-clause-good_other : goal.pieces_cost-requires-clause-good_other
pieces_cost-requires-clause-good_other c = tariff_read_good c.args.self.now.terms c.args.self.now.pieces.items c.args.j _ c.args.self.now.lawful (search rules) (rw c.deref-2.ensures.value at c.in_ok-get-2.ensures.lookup.1)
