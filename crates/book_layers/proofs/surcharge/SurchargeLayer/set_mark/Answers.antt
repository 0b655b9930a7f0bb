use Rattle.std.proofs.Common.{true, refl}
use Rattle.book_layers.specs.Adding.{surcharges, piece_only}
use Rattle.book_layers.proofs.surcharge.SurchargeLayer.set_mark.Goals as goal

pub returns-then-piece-count-clause-law : goal.returns-then-piece-count-clause-law
returns-then-piece-count-clause-law g c = surcharges _ _ _ (g.met.B.CostBook.sound _)

pub returns-clause-law : goal.returns-clause-law
returns-clause-law g c = surcharges _ _ _ (g.met.B.CostBook.sound _)

pub returns-clause-only : goal.returns-clause-only
returns-clause-only g c = piece_only (g.B.CostBook.means c.args.self.now.below) _ _ _ _ _ _ true _ refl refl refl
