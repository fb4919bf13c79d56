use Rattle.std.proofs.Common.{◌+◌}
use Rattle.solo_world.specs.Sequences.{IsMade, counted}
use Rattle.solo_undo.specs.Sequences.{span_at, writes_record}
use Rattle.solo_undo.proofs.record.write_records.Given as goal

-- the first so many records are written
abbrev pub invariant-loop-i : goal.invariant-loop-i
invariant-loop-i g l = IsMade (g.M.LaneMem.at l.fn.mem) (g.M.LaneMem.at l.mem) (counted (λ i. writes_record l.lane l.generation (l.slot + i) (span_at l.spans i)) l.i)
