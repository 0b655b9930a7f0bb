use Rattle.std.proofs.Common.{◌≡◌, [], ◌∷◌, ◌++◌, deque_items, sym, refl, ap, ◌∙◌, subst, append_assoc, append-nil, arith, rules}
use Rattle.std.proofs.lemmas.List.{nil_from_length}
use Rattle.sheets.specs.Views.{memory}
use Rattle.sheets.specs.Served.{sheet_view}
use Rattle.sheet_runs.specs.Ran.{Ran}
use Rattle.sheet_runs.proofs.RunsOn.{ran_none, ran_more}
use Rattle.sheet_runs.proofs.run_calls.Goals as goal

pub loop-call-init : goal.loop-call-init
loop-call-init g c = record { room = search rules; made = []; new = []; left = refl; answered = sym (append-nil _); ran = ran_none g.B.CostBook.means c.runs_by_law.ensures.law _ _ }

pub loop-call-preserved : goal.loop-call-preserved
loop-call-preserved g c =
    let before = c.loop-call.invariant in
    let call = c.in-Some.call in
    let answer = c.serve-after.result.1 in
    record {
      room = omega (arith, before.room, c.in-Some.ensures.cases, c.push_reserved.ensures.len, c.push_reserved.ensures.capacity);
      made = before.made ++ call ∷ [];
      new = before.new ++ answer ∷ [];
      left = before.left ∙ ap (λ l. before.made ++ l) c.in-Some.ensures.items ∙ sym (append_assoc before.made (call ∷ []) _);
      answered = c.push_reserved.ensures.items ∙ ap (λ l. l ++ answer ∷ []) before.answered ∙ append_assoc _ before.new (answer ∷ []);
      ran = ran_more g.B.CostBook.means c.runs_by_law.ensures.law call answer before.ran c.serve-after.ensures.served;
    }

pub returns-clause-made : goal.returns-clause-made
returns-clause-made g c =
    let end = c.loop-call.invariant in
    let left = c.pop_front.new.self in
    let none : deque_items left ≡ [] = nil_from_length (deque_items left) (sym left.ok.0 ∙ c.in_default.ensures.cases.1) in
    let all : end.made ≡ deque_items c.args.calls.now = sym (end.left ∙ ap (λ l. end.made ++ l) (c.in_default.ensures.items ∙ none) ∙ append-nil end.made) in
    record {
      none_left = none;
      new = end.new;
      answered = end.answered ∙ ap (λ l. l ++ end.new) c.reserve.ensures.items;
      ran = subst (λ l. Ran g.B.CostBook.means (sheet_view c.args.sheet) (memory c.args.marks.now c.args.queue.now) l end.new (sheet_view c.loop-call.sheet) (memory c.loop-call.marks c.loop-call.queue)) all end.ran;
    }
