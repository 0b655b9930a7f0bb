use Rattle.std.proofs.Common.{◌≡◌, false, rules}
use Rattle.book_layers.specs.Pairs.{pair_of, held}
use Rattle.book_layers.specs.Barring.{apart_push}
use Rattle.book_layers.proofs.bar.BarLayer.bar.Goals as goal

pub invariant_of-self : goal.invariant_of-self
invariant_of-self g c =
    let new : held c.args.self.now.bars.items c.args.i c.args.j ≡ false = search rules in
    let apart = apart_push c.args.self.now.bars.items (pair_of c.args.i c.args.j) new c.args.self.now.distinct in
    search rules
