use Rattle.std.proofs.Common.{◌≡◌, take}
use Rattle.sheet_register.specs.Memory.{marked}
use Rattle.sheets.proofs.memory.count_marked.Given as goal

abbrev pub invariant-loop-m : goal.invariant-loop-m
invariant-loop-m l = l.n ≡ marked l.byte (take l.m-index l.marks)
