use Rattle.std.proofs.Common.{length, sym, rules}
use Rattle.std.proofs.lemmas.Result.{err_from_is_err_and}
use Rattle.ranges.proofs.First.{first_found}
use Rattle.tariff_book.specs.Pieces.{piece_fault}
use Rattle.tariff_book.specs.Tariff.{piece}
use Rattle.tariff_book.proofs.tariff.calls.check_pieces.Goals as goal

pub returns-in_err-check_piece : goal.returns-in_err-check_piece
returns-in_err-check_piece c =
    let ps = c.args.pieces.now in
    let p = err_from_is_err_and c.from_residual.result c.from_residual.ensures.1 in
    rw (p.1, p.2) (sym (first_found (λ k. piece_fault k (piece ps k)) c.loop-k.k (length ps) _ c.loop-k-test.true c.loop-k.invariant (search rules)))
