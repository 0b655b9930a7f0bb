use Rattle.std.proofs.Common.{◌≡◌, ap, ◌∙◌, arith}
use Rattle.std.proofs.lemmas.Int.{ints}
use Rattle.slips.specs.declared.slip.PieceRecord.{PieceRecord}
use Rattle.slips.specs.View.{group, price}
use Rattle.slips.specs.Groups.{between}
use Rattle.slip_check.specs.Shaped.{view_of}
use Rattle.slip_check.specs.Tables.{prices_between}
use Rattle.slip_check.proofs.priced.PricedSlip.margin.Goals as goal

pub returns : goal.returns
returns g c =
    let s = view_of c.args.self.now.shaped in
    let one = c.live_piece-one.ensures in
    let other = c.live_piece-other.ensures in
    let from_one = c.from.ensures ∙ ap (λ (r : PieceRecord). r.group) one.value in
    let from_other = c.from-2.ensures ∙ ap (λ (r : PieceRecord). r.group) other.value in
    let between_is : c.prices_between-between.result ≡ between s c.args.u c.args.v =
    c.prices_between-between.ensures.value ∙ (ap (λ x. prices_between s x c.from-2.result) from_one ∙ ap (prices_between s (group s c.args.u)) from_other) in
    let price_one : c.live_piece-one.result.price ≡ price s c.args.u = ap (λ (r : PieceRecord). r.price) one.value in
    let price_other : c.live_piece-other.result.price ≡ price s c.args.v = ap (λ (r : PieceRecord). r.price) other.value in
    omega (arith, ints, one.limits, other.limits, c.prices_between-between.ensures.bound, c.from-3.ensures)
