use Rattle.std.proofs.Common.{◌+◌, ◌-◌, ◌∷◌, slice_get, get_or, sym, refl, ap, ◌∙◌, arith}
use Rattle.std.proofs.lemmas.Option.{slice_get_past}
use Rattle.queue.specs.Waiting.{cyclic}
use Rattle.queue.proofs.Cyclic.{cyclic_length, cyclic_pop}
use Rattle.queue.proofs.Queue.pop.Goals as goal

pub returns : goal.returns
returns g c =
    let s = c.args.self.now in
    let xs = s.records.now in
    let d = c.index-self-at.result in
    let split =
    cyclic_pop xs s.head s.head_within s.len d (omega arith) s.len_within
    ∙ ap (λ k. get_or xs k d ∷ cyclic xs (k + 1) (s.len - 1)) (sym c.place-at.ensures.at)
    in
    record { oldest = sym (ap (λ ys. slice_get ys 0) split); after = split; records = refl }

pub returns-then-self-eq0-clause-oldest : goal.returns-then-self-eq0-clause-oldest
returns-then-self-eq0-clause-oldest g c = grind (arith, cyclic_length, slice_get_past)
