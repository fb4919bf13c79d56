use Rattle.pm_calls.proofs.CallByCall.{all_made, one_call, within}
use Rattle.pm_calls.proofs.lanes.calls_of.Goals as goal

pub loop-start-preserved : goal.loop-start-preserved
loop-start-preserved c = (
  within c.args.lines.now c.loop-start.start c.first_call.result c.loop-start.invariant.0 c.first_call.ensures.inside,
  one_call c.args.lines.now c.loop-start.start c.first_call.result c.loop-start.calls.items c.push.new.self.items c.in_ok-call_room.field-0 c.in_ok-push.ensures.items c.in_ok-call_room.ensures c.first_call.ensures.first c.loop-start.invariant.1,
)

pub returns : goal.returns
returns c = all_made c.args.lines.now c.loop-start.start c.loop-start.calls.items c.loop-start-test.false c.loop-start.invariant.1
