use Rattle.std.proofs.Common.{◌≡◌, List, [], ◌∷◌, sym, subst, rules}
use Rattle.solo_memory.specs.Solo.{Sees}
use Rattle.pm_record.specs.declared.redo.Redo.{Redo}
use Rattle.solo_world.specs.Sequences.{IsReady}
use Rattle.solo_redo.specs.Sequences.{logs}
use Rattle.solo_redo.proofs.OneLane.{heap, may_log, seen_with_area}
use Rattle.solo_redo.proofs.tests.logs.Goals as goal

pub write_log-requires-clause-area : goal.write_log-requires-clause-area
write_log-requires-clause-area g c = seen_with_area c.in_ok-lane.lane.memory c.in_ok-lane.ensures.held c.in_ok-lane.ensures.whole c.in_ok-lane.ensures.generation

pub write_log-requires-clause-ready : goal.write_log-requires-clause-ready
write_log-requires-clause-ready g c =
    let items : c.push.new.self.items ≡ heap ∷ [] = search rules in
    subst (λ (es : List Redo). IsReady (Sees c.in_ok-lane.lane.memory) (logs es)) (sym items) (may_log c.in_ok-lane.lane.memory c.in_ok-lane.ensures.held c.in_ok-lane.ensures.whole c.in_ok-lane.ensures.generation)
