-- What a layer holds, and the table that it means over that of the book below it.
use Rattle.std.specs.Prelude.{ℕ, Bool, List, vec_items}
use Rattle.books.specs.Table.{Table}
use Rattle.book_layers.specs.declared.pair.Pair.{Pair}
use Rattle.book_layers.specs.declared.bar.BarLayer.{BarLayer}
use Rattle.book_layers.specs.declared.surcharge.SurchargeLayer.{SurchargeLayer}
use Rattle.book_layers.specs.Bars.{bar_table}
use Rattle.book_layers.specs.Surcharges.{surcharged}

module _ {B : Type 0} where
  -- the book below a layer of bars
  abbrev pub below_bars : BarLayer B → B
  below_bars layer = layer.below

  -- the pairs that it bars
  abbrev pub bars_of : BarLayer B → List Pair
  bars_of layer = vec_items layer.bars

  -- the table that it means, by the tables of the books below
  abbrev pub bar_layer_means : (B → Table) → BarLayer B → Table
  bar_layer_means means layer = bar_table (means (below_bars layer)) (bars_of layer)

  -- the book below a surcharge layer
  abbrev pub below_surcharge : SurchargeLayer B → B
  below_surcharge layer = layer.below

  -- what it adds for each marked end of a pair
  abbrev pub amount_of : SurchargeLayer B → ℕ
  amount_of layer = layer.amount

  -- which pieces it marks
  abbrev pub marks_of : SurchargeLayer B → List Bool
  marks_of layer = layer.marks

  -- the table that it means, by the tables of the books below
  abbrev pub surcharge_layer_means : (B → Table) → SurchargeLayer B → Table
  surcharge_layer_means means layer = surcharged (means (below_surcharge layer)) (amount_of layer) (marks_of layer)
