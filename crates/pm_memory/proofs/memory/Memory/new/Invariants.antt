use Rattle.std.proofs.Common.{◌≡◌, [], replicate}
use Rattle.pm_memory.proofs.memory.Memory.new.Given as goal

-- so many lanes stand, with no changes
abbrev pub invariant-loop : goal.invariant-loop
invariant-loop l = l.each.items ≡ replicate l.counter []
