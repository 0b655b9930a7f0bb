use Rattle.std.proofs.Common.{◌≡◌, ◌<◌, ◌≤◌, length, sym, ap, ◌∙◌, rules}
use Rattle.std.proofs.lemmas.List.Sorted.{IsPartitionPoint-from_clause}
use Rattle.list_book.specs.Lines.{line_of, line, cost_on, precedes}
use Rattle.list_book.specs.Listed.{Parted, Rising}
use Rattle.list_book.specs.Lawful.{list_rises}
use Rattle.list_book.specs.Ascending.{cost_here, cost_nowhere}
use Rattle.list_book.proofs.Searching.{partitioned, parted, given}
use Rattle.list_book.proofs.list.ListBook.find_cost.Goals as goal
use Rattle.list_book.proofs.list.ListBook.find_cost.Goals.{After-partition_point-at}

rising : (c : After-partition_point-at) → Rising c.args.self.now.lines.items
rising c = list_rises c.args.self.now.count c.args.self.now.lines.items c.args.self.now.lawful

place : (c : After-partition_point-at) → Parted c.args.self.now.lines.items c.args.lower c.args.higher c.partition_point-at.result
place c =
    let facts = c.partition_point-at.ensures in
    let ls = c.args.self.now.lines.items in
    parted ls _ _ _ (rw c.deref.ensures.value at facts.bound)
    (IsPartitionPoint-from_clause (λ l. precedes l c.args.lower c.args.higher) ls _ (rw c.deref.ensures.value at facts.partitioned) (partitioned ls _ _ (rising c)) (λ a r f called. search rules))

pub returns-in_err-line : goal.returns-in_err-line
returns-in_err-line c =
    let w = (goal.at.returns-in_err-line c).After-partition_point-at in
    let past : length c.args.self.now.lines.items ≤ c.partition_point-at.result = search rules in
    let none = cost_nowhere c.args.self.now.lines.items _ _ _ (rising w) (place w) past in
    search rules

pub returns : goal.returns
returns c =
    let w = (goal.at.returns c).After-partition_point-at in
    let within : c.partition_point-at.result < length c.args.self.now.lines.items = search rules in
    let here = cost_here c.args.self.now.lines.items _ _ _ (rising w) (place w) within in
    let is : c.in_ok-line.line.now ≡ line c.args.self.now.lines.items c.partition_point-at.result = rw c.deref-2.ensures.value at c.in_ok-line.ensures.lookup.3.1 (line_of 0 0 0) in
    let gives : c.then_some.result ≡ cost_on c.in_ok-line.line.now c.args.lower c.args.higher = rw (c.then_some.ensures, c.eq.ensures, c.pieces.ensures) (given _ _) in
    let told = gives ∙ (ap (λ l. cost_on l c.args.lower c.args.higher) is ∙ sym here) in
    search rules
