use Rattle.pm_call.proofs.WantedTaken.{may_raise, raise_was_refused, wants_refused, wants_taken}
use Rattle.pm_call.proofs.trying.take_wanted.Goals as goal

pub returns-in_err-try_wanted : goal.returns-in_err-try_wanted
returns-in_err-try_wanted g c = wants_refused g.M.LaneMem.at c.args.lane.now c.args.wants.now c.try_wanted.new.lane c.in_err-try_wanted.field-0.0 c.from_residual.result c.from_residual.ensures.1 c.in_err-try_wanted.ensures

pub raise_wanted-requires : goal.raise_wanted-requires
raise_wanted-requires g c = may_raise g.M.LaneMem.at c.args.lane.now c.args.wants.now c.try_wanted.new.lane tt c.requires c.in_ok-try_wanted.ensures

pub returns-then-raise_wanted : goal.returns-then-raise_wanted
returns-then-raise_wanted g c = wants_taken g.M.LaneMem.at c.args.lane.now c.args.wants.now c.try_wanted.new.lane c.raise_wanted.new.lane tt tt c.in_ok-try_wanted.ensures c.if-raise_wanted.ensures

pub returns-else-raise_wanted : goal.returns-else-raise_wanted
returns-else-raise_wanted g c = raise_was_refused g.M.LaneMem.at c.args.lane.now c.args.wants.now c.try_wanted.new.lane c.raise_wanted.new.lane tt c.in_ok-try_wanted.ensures c.if-raise_wanted.ensures
