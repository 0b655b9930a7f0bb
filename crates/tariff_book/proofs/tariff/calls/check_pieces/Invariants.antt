use Rattle.std.proofs.Common.{◌≡◌, None}
use Rattle.ranges.specs.First.{first_below}
use Rattle.tariff_book.specs.Pieces.{piece_fault}
use Rattle.tariff_book.specs.Tariff.{piece}
use Rattle.tariff_book.proofs.tariff.calls.check_pieces.Given as goal

abbrev pub invariant-loop-k : goal.invariant-loop-k
invariant-loop-k l = first_below (λ k. piece_fault k (piece l.pieces k)) l.k ≡ None
