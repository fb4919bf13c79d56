use Rattle.solo_script.specs.Words.{texts}
use Rattle.solo_script.proofs.StopLists.{AreFirst}
use Rattle.solo_script.proofs.stopping.stops.Given as goal

abbrev pub invariant-loop-part : goal.invariant-loop-part
invariant-loop-part l = AreFirst (texts l.part-items) l.part-index l.stops.items
