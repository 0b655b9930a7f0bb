use Rattle.std.proofs.Common.{arith}
use Rattle.std.proofs.lemmas.Option.{slice_get-get_or, slice_get_past}
use Rattle.queue.proofs.Cyclic.{cyclic_length, cyclic_item}
use Rattle.queue.proofs.Queue.get.Goals as goal

pub returns : goal.returns
returns g c = grind (arith, cyclic_length, cyclic_item, slice_get-get_or)

pub returns-then-i-self : goal.returns-then-i-self
returns-then-i-self g c = grind (arith, cyclic_length, slice_get_past)
