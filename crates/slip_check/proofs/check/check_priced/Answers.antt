use Rattle.std.proofs.Common.{sym}
use Rattle.std.proofs.lemmas.Result.{err_from_is_err_and}
use Rattle.slips.specs.declared.fault.SlipFault.TheVariants.{Piece}
use Rattle.slips.specs.Verdict.{piece_good}
use Rattle.slip_laws.proofs.Tested.{all_held}
use Rattle.slip_check.specs.Shaped.{problem_of, view_of}
use Rattle.slip_check.proofs.OrderOfTests.{few_groups, good_groups, in_order}
use Rattle.slip_check.proofs.check.check_priced.Goals as goal

pub returns-in_err-cost : goal.returns-in_err-cost
returns-in_err-cost g c =
    let e = err_from_is_err_and c.from_residual.result c.from_residual.ensures.1 in
    rw (e.1, e.2, in_order (problem_of c.args.shaped) (view_of c.args.shaped), ← c.in_err-cost.ensures.fault)

pub returns-in_err-check_group_records : goal.returns-in_err-check_group_records
returns-in_err-check_group_records g c =
    let e = err_from_is_err_and c.from_residual-in_err-check_group_records.result c.from_residual-in_err-check_group_records.ensures.1 in
    rw (e.1, e.2, in_order (problem_of c.args.shaped) (view_of c.args.shaped), ← c.in_ok-cost.ensures.fault, ← c.in_err-check_group_records.ensures)

pub invariant_of-priced : goal.invariant_of-priced
invariant_of-priced g c =
    let p = problem_of c.args.shaped in
    let s = view_of c.args.shaped in
    record {
      good_pieces = all_held (piece_good p s) Piece p.size (sym c.in_ok-cost.ensures.fault);
      few_groups = few_groups s c.in_ok-check_group_records.ensures;
      good_groups = good_groups s c.in_ok-check_group_records.ensures;
    }

pub returns-in_err-check_odd : goal.returns-in_err-check_odd
returns-in_err-check_odd g c =
    let e = err_from_is_err_and c.from_residual-in_err-check_odd.result c.from_residual-in_err-check_odd.ensures.1 in
    rw (e.1, e.2, in_order (problem_of c.args.shaped) (view_of c.args.shaped), ← c.in_ok-cost.ensures.fault, ← c.in_ok-check_group_records.ensures, ← c.in_err-check_odd.ensures)

pub returns-in_err-check_prices : goal.returns-in_err-check_prices
returns-in_err-check_prices g c =
    let e = err_from_is_err_and c.from_residual-in_err-check_prices.result c.from_residual-in_err-check_prices.ensures.1 in
    rw (e.1, e.2, in_order (problem_of c.args.shaped) (view_of c.args.shaped), ← c.in_ok-cost.ensures.fault, ← c.in_ok-check_group_records.ensures, ← c.in_ok-check_odd.ensures, ← c.in_err-check_prices.ensures)

pub returns-in_err-check_crossings : goal.returns-in_err-check_crossings
returns-in_err-check_crossings g c =
    let e = err_from_is_err_and c.from_residual-in_err-check_crossings.result c.from_residual-in_err-check_crossings.ensures.1 in
    rw (e.1, e.2, in_order (problem_of c.args.shaped) (view_of c.args.shaped), ← c.in_ok-cost.ensures.fault, ← c.in_ok-check_group_records.ensures, ← c.in_ok-check_odd.ensures, ← c.in_ok-check_prices.ensures, ← c.in_err-check_crossings.ensures)

pub returns : goal.returns
returns g c =
    rw (in_order (problem_of c.args.shaped) (view_of c.args.shaped), ← c.in_ok-cost.ensures.fault, ← c.in_ok-check_group_records.ensures, ← c.in_ok-check_odd.ensures, ← c.in_ok-check_prices.ensures, ← c.in_ok-check_crossings.ensures, ← c.from-total.ensures, ← c.in_ok-cost.ensures.total) c.unless.ensures
