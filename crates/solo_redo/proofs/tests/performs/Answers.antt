use Rattle.std.proofs.Common.{◌≡◌, List, sym, subst, rules}
use Rattle.solo_memory.specs.Solo.{Sees}
use Rattle.pm_record.specs.declared.redo.Redo.{Redo}
use Rattle.solo_world.specs.Sequences.{IsReady}
use Rattle.solo_redo.specs.Sequences.{performs}
use Rattle.solo_redo.proofs.OneLane.{both, may_perform, seen_in_pool}
use Rattle.solo_redo.proofs.tests.performs.Goals as goal

pub perform-requires-clause-area : goal.perform-requires-clause-area
perform-requires-clause-area g c = seen_in_pool c.in_ok-lane.lane.memory c.in_ok-lane.ensures.held c.in_ok-lane.ensures.whole c.in_ok-lane.ensures.generation

pub perform-requires-clause-ready : goal.perform-requires-clause-ready
perform-requires-clause-ready g c =
    let items : c.push-2.new.self.items ≡ both = search rules in
    subst (λ (es : List Redo). IsReady (Sees c.in_ok-lane.lane.memory) (performs es)) (sym items) (may_perform c.in_ok-lane.lane.memory c.in_ok-lane.ensures.held c.in_ok-lane.ensures.whole c.in_ok-lane.ensures.generation)
