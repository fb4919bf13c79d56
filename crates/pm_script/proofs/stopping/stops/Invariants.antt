use Rattle.pm_script.specs.Words.{texts}
use Rattle.pm_script.proofs.StopLists.{AreFirst}
use Rattle.pm_script.proofs.stopping.stops.Given as goal

abbrev pub invariant-loop-part : goal.invariant-loop-part
invariant-loop-part l = AreFirst (texts l.part-items) l.part-index l.stops.items
