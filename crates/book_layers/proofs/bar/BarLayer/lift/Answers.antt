use Rattle.std.proofs.Common.{refl, rules}
use Rattle.book_layers.specs.Pairs.{pair_of}
use Rattle.book_layers.specs.Bars.{Drops}
use Rattle.book_layers.specs.Barring.{apart_removed, drops_removed, drops_law}
use Rattle.book_layers.proofs.Places.{no_place, found_place}
use Rattle.book_layers.proofs.bar.BarLayer.lift.Goals as goal

pub returns-in_default : goal.returns-in_default
returns-in_default g c =
    let none = no_place c.args.self.now.bars.items (pair_of c.args.i c.args.j) (search rules) in
    record { answers = search rules; blamed = search rules; bars = search rules; kept = search rules; below = refl; law = search rules }

pub invariant_of-self : goal.invariant_of-self
invariant_of-self g c =
    let place = found_place c.args.self.now.bars.items (pair_of c.args.i c.args.j) c.in-Some.k (simp (c.deref.ensures.value, c.new.ensures) at c.in-Some.ensures) in
    let apart = apart_removed _ c.in-Some.k place.within c.args.self.now.distinct in
    search rules

pub returns : goal.returns
returns g c =
    let place = found_place c.args.self.now.bars.items (pair_of c.args.i c.args.j) c.in-Some.k (simp (c.deref.ensures.value, c.new.ensures) at c.in-Some.ensures) in
    let drops = drops_removed _ c.in-Some.k c.args.i c.args.j place.within place.same c.args.self.now.distinct in
    let dropped : Drops c.args.self.now.bars.items c.remove.new.self.items c.args.i c.args.j = search rules in
    record { answers = search rules; blamed = search rules; bars = dropped; kept = search rules; below = refl; law = drops_law _ _ _ _ _ dropped }
