use Rattle.solo_world.specs.Sequences.{IsMade, counted}
use Rattle.solo_undo.specs.Sequences.{restores_record, span_at}
use Rattle.solo_undo.proofs.restoring.put_back.Given as goal

-- the first so many are put back
abbrev pub invariant-loop-slot : goal.invariant-loop-slot
invariant-loop-slot g l = IsMade (g.M.LaneMem.at l.fn.mem) (g.M.LaneMem.at l.mem) (counted (λ slot. restores_record l.lane slot (span_at l.spans slot)) l.slot)
