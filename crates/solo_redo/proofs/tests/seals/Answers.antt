use Rattle.std.proofs.Common.{◌≡◌, List, length, sym, subst, rules}
use Rattle.solo_memory.specs.Solo.{Sees}
use Rattle.pm_record.specs.declared.redo.Redo.{Redo}
use Rattle.solo_world.specs.Sequences.{IsReady}
use Rattle.solo_redo.specs.Sequences.{seals}
use Rattle.solo_redo.proofs.OneLane.{both, may_seal, seen_in_pool}
use Rattle.solo_redo.proofs.tests.seals.Goals as goal

pub seal-requires-clause-area : goal.seal-requires-clause-area
seal-requires-clause-area g c = seen_in_pool c.in_ok-lane.lane.memory c.in_ok-lane.ensures.held c.in_ok-lane.ensures.whole c.in_ok-lane.ensures.generation

pub seal-requires-clause-ready : goal.seal-requires-clause-ready
seal-requires-clause-ready g c =
    let items : c.push-2.new.self.items ≡ both = search rules in
    subst (λ (es : List Redo). IsReady (Sees c.in_ok-lane.lane.memory) (seals (length es))) (sym items) (may_seal c.in_ok-lane.lane.memory c.in_ok-lane.ensures.held c.in_ok-lane.ensures.whole c.in_ok-lane.ensures.generation)
