use Rattle.std.proofs.Common.{rules}
use Rattle.pm_action.proofs.PublicationCalls.{had_stopped, in_transaction, is_open, published, unopened}
use Rattle.pm_action.proofs.publications.publish.Goals as goal

pub returns-then-lane : goal.returns-then-lane
returns-then-lane g c = had_stopped g.M.LaneMem.at c.args.lane.now (search rules)

pub returns-then-lane-gt0 : goal.returns-then-lane-gt0
returns-then-lane-gt0 g c = in_transaction g.M.LaneMem.at c.args.lane.now (search rules) c.if-lane-gt0.true

pub open_call-requires : goal.open_call-requires
open_call-requires g c = c.requires (search rules) (search rules)

pub returns-in_err-open_call : goal.returns-in_err-open_call
returns-in_err-open_call g c = unopened g.M.LaneMem.at c.args.lane.now (search rules) (search rules) c.open_call.new.lane c.in_err-open_call.field-0.0 c.from_residual.result (search rules) c.in_err-open_call.ensures

pub publish_opened-requires : goal.publish_opened-requires
publish_opened-requires g c = is_open g.M.LaneMem.at c.args.lane.now (search rules) (search rules) c.open_call.new.lane c.in_ok-open_call.ensures (c.requires (search rules) (search rules))

pub returns : goal.returns
returns g c = published g.M.LaneMem.at c.args.lane.now (search rules) (search rules) c.open_call.new.lane c.in_ok-open_call.ensures c.publish_opened.new.lane c.publish_opened.result c.publish_opened.ensures
