use Rattle.solo_runs.proofs.Resting.{HoldsBehind}
use Rattle.solo_runs.proofs.tests.give_all_back.Given as goal

-- those that begin behind the last one given back are the lane's
abbrev pub invariant-loop-block : goal.invariant-loop-block
invariant-loop-block l = HoldsBehind l.lane.memory l.lane.shape l.blocks l.last
