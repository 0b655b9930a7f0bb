use Rattle.std.proofs.Common.{◌+◌, arith, ap, ◌∙◌, set, length-set}
use Rattle.queue.proofs.Cyclic.{cyclic_length, cyclic_push}
use Rattle.queue.specs.Waiting.{cyclic}
use Rattle.queue.proofs.Queue.push.Goals as goal

pub returns : goal.returns
returns g c =
    let s = c.args.self.now in
    let xs = s.records.now in
    let written = ap (λ k. set xs k c.args.x) c.place-at.ensures.at in
    record {
      fits = grind (arith, cyclic_length);
      last = ap (λ ys. cyclic ys s.head (s.len + 1)) written ∙ cyclic_push xs s.head s.head_within s.len c.args.x (omega arith);
      written = written;
      room = length-set xs c.place-at.result c.args.x;
      full = tt;
    }
