use Rattle.std.proofs.Common.{sym, ◌∙◌, arith}
use Rattle.slip_check.specs.Shaped.{problem_of, view_of}
use Rattle.slip_check.proofs.Rows.{row_begins, row_passed, pair_failed}
use Rattle.slip_check.proofs.priced.PricedSlip.check_prices.Goals as goal

pub loop-v-init : goal.loop-v-init
loop-v-init g c = record {
  none = c.pairs.invariant.none;
  rows = c.pairs.invariant.rows;
  row = row_begins (problem_of c.args.self.now.shaped) (view_of c.args.self.now.shaped) c.pairs.u;
}

pub pairs-preserved : goal.pairs-preserved
pairs-preserved g c = record {
  none = c.loop-v.invariant.none;
  rows = row_passed (problem_of c.args.self.now.shaped) (view_of c.args.self.now.shaped) c.pairs.u c.loop-v.v c.size-size.result c.size-size.ensures c.loop-v.invariant.rows c.loop-v.invariant.row (omega arith);
}

pub returns-then-not-is_good_pair : goal.returns-then-not-is_good_pair
returns-then-not-is_good_pair g c =
    sym (pair_failed (problem_of c.args.self.now.shaped) (view_of c.args.self.now.shaped) c.pairs.u c.loop-v.v c.size-size.result c.size-size.ensures c.loop-v.invariant.rows c.loop-v.invariant.row c.pairs-test.true c.loop-v-test.true (sym c.is_good_pair.ensures ∙ c.if-not-is_good_pair.true))
