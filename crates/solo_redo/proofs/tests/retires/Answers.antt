use Rattle.solo_redo.proofs.OneLane.{may_clear, seen_in_pool}
use Rattle.solo_redo.proofs.tests.retires.Goals as goal

pub retire-requires-clause-area : goal.retire-requires-clause-area
retire-requires-clause-area g c = seen_in_pool c.in_ok-lane.lane.memory c.in_ok-lane.ensures.held c.in_ok-lane.ensures.whole c.in_ok-lane.ensures.generation

pub retire-requires-clause-ready : goal.retire-requires-clause-ready
retire-requires-clause-ready g c = may_clear c.in_ok-lane.lane.memory c.in_ok-lane.ensures.held c.in_ok-lane.ensures.whole c.in_ok-lane.ensures.generation
