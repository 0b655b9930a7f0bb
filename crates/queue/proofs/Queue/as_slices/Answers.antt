use Rattle.std.proofs.Common.{◌-◌, ◌++◌, length, take, ◌∙◌, arith}
use Rattle.queue.proofs.Cyclic.{cyclic_ahead, cyclic_round}
use Rattle.queue.proofs.Queue.as_slices.Goals as goal

pub returns-then-self-after : goal.returns-then-self-after
returns-then-self-after g c =
    let s = c.args.self.now in
    rw c.split_at.ensures.back (cyclic_ahead s.records.now s.head s.head_within s.len (omega arith))

pub returns-else-self-after : goal.returns-else-self-after
returns-else-self-after g c =
    let s = c.args.self.now in
    let e = c.split_at.ensures in
    let k = s.len - length c.split_at.result.1.now in
    (λ i. e.back i ++ take k (e.front i)) ∙ cyclic_round s.records.now s.head s.head_within s.len k (omega arith) (omega arith)
