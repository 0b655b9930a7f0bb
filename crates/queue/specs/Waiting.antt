-- What waits in a queue, oldest first, and where.
use Rattle.std.specs.Prelude.{ℕ, ◌+◌, ◌-◌, cond, List, ◌++◌, length, take, drop, nat_lt}
use Rattle.queue.specs.declared.Queue.{Queue}

-- the lent records, in the order of memory
abbrev pub records : {T : Type 0} → Queue T → List T
records q = q.records.now

-- the first n from the place h on, and past the end from the front again
unfoldable pub cyclic : {T : Type 0} → List T → ℕ → ℕ → List T
cyclic xs h n = take n (drop h xs ++ xs)

-- the items that wait, oldest first
abbrev pub waiting : {T : Type 0} → Queue T → List T
waiting q = cyclic (records q) q.head q.len

-- how many may wait
abbrev pub room : {T : Type 0} → Queue T → ℕ
room q = length (records q)

-- the i-th place from h on, going round cap places
abbrev pub place : ℕ → ℕ → ℕ → ℕ
place cap h i = cond (nat_lt i (cap - h)) (h + i) (i - (cap - h))

-- the place of the record that the next item takes, where one is free
abbrev pub free_place : {T : Type 0} → Queue T → ℕ
free_place q = place (room q) q.head q.len
