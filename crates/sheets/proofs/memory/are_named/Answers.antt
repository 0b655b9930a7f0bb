use Rattle.std.proofs.Common.{ltb, ap, ◌∙◌, rules, tests}
use Rattle.std.proofs.lemmas.Iterator.{YieldsList-from_slice}
use Rattle.std.proofs.lemmas.Iterator.Consumers.{YieldsList-from_chain}
use Rattle.std.proofs.lemmas.Iterator.Search.{all_from_yields_List}
use Rattle.sheet_register.specs.Memory.{each}
use Rattle.sheets.proofs.memory.are_named.Goals as goal

pub returns : goal.returns
returns c =
    all_from_yields_List (λ q. ltb q.piece c.args.pieces) _ _ c.all.result c.all.ensures.ran
    (YieldsList-from_chain (YieldsList-from_slice c.as_slices.result.0.now (cc)) (YieldsList-from_slice c.as_slices.result.1.now (cc)) (cc) (cc))
    (λ x b q k. search (rules, tests))
    ∙ ap (each (λ q. ltb q.piece c.args.pieces)) c.as_slices.ensures
