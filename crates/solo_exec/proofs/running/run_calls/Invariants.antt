use Rattle.std.proofs.Common.{◌≡◌, All, length}
use Rattle.solo_view.specs.View.{View}
use Rattle.solo_world.specs.Opening.{Opening}
use Rattle.solo_exec.specs.Calls.{call_lines}
use Rattle.solo_exec.specs.Letters.{AreInOrder, offsets_of}
use Rattle.solo_exec.specs.Running.{MayRun}
use Rattle.solo_exec.proofs.CallParts.{IsCallOf}
use Rattle.solo_exec.proofs.GivenCalls.{HasRunTo}
use Rattle.solo_exec.proofs.running.run_calls.Given as goal

abbrev pub invariant-loop-rest : goal.invariant-loop-rest
invariant-loop-rest l =
    All IsCallOf (call_lines l.rest)
    × AreInOrder l.rest
    × (l.given.items ≡ offsets_of l.history.items)
    × ((o : Opening) (first : View) → MayRun o first l.fn.lane l.names l.fn.history.items → HasRunTo o first l.lane l.blocks l.pending l.names l.given.items l.fn.lines l.rest l.history.items)

abbrev pub decreases-loop-rest : goal.decreases-loop-rest
decreases-loop-rest l = length l.rest
