use Rattle.pm_exec.proofs.Levels.{all_ended, one_more_ended}
use Rattle.pm_exec.proofs.running.end_levels.Goals as goal

pub loop-preserved : goal.loop-preserved
loop-preserved g c =
    let i = c.loop.invariant in
    let known = c.calls_are_known.ensures in record {
      stands = (i.stands.0, known.end c.end.result c.loop.lane c.end.new.lane i.stands.0 i.stands.1 c.end.ensures);
      ends = one_more_ended g.M.LaneMem.at known c.args.lane.now c.loop.lane c.end.new.lane c.loop.counter c.level-end.result c.end.result i.ends c.loop-test.true c.end.ensures;
    }

pub returns : goal.returns
returns g c = all_ended g.M.LaneMem.at c.args.lane.now c.loop.lane c.loop.counter c.level-end.result c.loop.invariant.ends c.loop-test.false
