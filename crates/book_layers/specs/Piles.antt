-- That the order of a pile does not matter to what a pair costs.
use Rattle.std.specs.Prelude.{◌≡◌, ℕ, Bool, List}
use Rattle.books.specs.Table.{Table}
use Rattle.book_layers.specs.declared.pair.Pair.{Pair}
use Rattle.book_layers.specs.declared.bar.BarLayer.{BarLayer}
use Rattle.book_layers.specs.declared.surcharge.SurchargeLayer.{SurchargeLayer}
use Rattle.book_layers.specs.Bars.{bar_table}
use Rattle.book_layers.specs.Layers.{below_bars, bars_of, bar_layer_means, below_surcharge, amount_of, marks_of, surcharge_layer_means}
use Rattle.book_layers.specs.Surcharges.{surcharged}

-- bars over a surcharge and a surcharge over bars give every two pieces the same cost
abbrev pub OrderFree : Table → List Pair → ℕ → List Bool → Type 0
OrderFree t ps amount ms = (i j : ℕ) → (bar_table (surcharged t amount ms) ps).cost i j ≡ (surcharged (bar_table t ps) amount ms).cost i j

module _ {B : Type 0} (means : B → Table) where
  -- bars, over a surcharge, over bars: three tables, one over the other
  abbrev pub pile_means : BarLayer (SurchargeLayer (BarLayer B)) → Table
  pile_means = bar_layer_means (surcharge_layer_means (bar_layer_means means))

  -- the upper bars and the surcharge of a pile may change places over the book at its bottom
  abbrev pub PileOrderFree : BarLayer (SurchargeLayer (BarLayer B)) → Type 0
  PileOrderFree pile =
      let surcharge = below_bars pile in
      OrderFree (means (below_bars (below_surcharge surcharge))) (bars_of pile) (amount_of surcharge) (marks_of surcharge)
