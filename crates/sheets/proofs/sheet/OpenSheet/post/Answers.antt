use Rattle.std.proofs.Common.{◌≡◌, ◌<◌, [], ◌∷◌, ◌++◌, length, Err, IsErr, rules, sym, refl}
use Rattle.queue.specs.Waiting.{waiting, room}
use Rattle.sheet_faults.specs.declared.PostFault.{PostFault}
use Rattle.sheet_register.proofs.Steps.{post_outside, post_full, posted}
use Rattle.sheets.proofs.Agreeing.{memory_agreed}
use Rattle.sheets.proofs.sheet.OpenSheet.post.Goals as goal

pub returns-then-request-self : goal.returns-then-request-self
returns-then-request-self c =
    let a = memory_agreed c.args.self.now c.args.marks.now c.args.queue.now (sym c.if-not-agrees.ensures) in
    record { did = post_outside a c.args.request c.if-request-self.true; records = refl }

pub returns-in_err-map_err : goal.returns-in_err-map_err
returns-in_err-map_err c =
    let a = memory_agreed c.args.self.now c.args.marks.now c.args.queue.now (sym c.if-not-agrees.ensures) in
    let no : IsErr c.push.result = search rules in
    let told : c.from_residual.result ≡ Err PostFault.QueueFull = search rules in
    let same : c.push.new.self ≡ c.args.queue.now = search rules in
    let full : length (waiting c.args.queue.now) < room c.args.queue.now → ⊥ = search rules in
    rw (told, same) (record { did = post_full a c.args.request c.if-request-self.false full; records = refl })

pub returns : goal.returns
returns c =
    let a = memory_agreed c.args.self.now c.args.marks.now c.args.queue.now (sym c.if-not-agrees.ensures) in
    let free : length (waiting c.args.queue.now) < room c.args.queue.now = search rules in
    let last : waiting c.push.new.self ≡ waiting c.args.queue.now ++ c.args.request ∷ [] = search rules in
    record { did = posted a c.args.request c.if-request-self.false free last c.push.ensures.room c.len-self.ensures; records = search rules }
