use Rattle.std.proofs.Common.{◌∙◌, sym, ap, length}
use Rattle.std.proofs.lemmas.List.{nil_from_length}
use Rattle.std.proofs.lemmas.Bool.{eqb-true, eq-eqb}
use Rattle.queue.specs.Waiting.{waiting}
use Rattle.queue.proofs.Cyclic.{cyclic_length}
use Rattle.queue.proofs.Queue.is_empty.Goals as goal

pub returns : goal.returns
returns g c =
    let s = c.args.self.now in
    let long = cyclic_length s.records.now s.head s.head_within s.len s.len_within in
    (λ t. nil_from_length (waiting s) (long ∙ eqb-true _ _ t), λ e. eq-eqb _ _ (sym long ∙ ap length e))
