use Rattle.std.proofs.Common.{rules}
use Rattle.pm_call.proofs.FinishedLanes.{ended_none, ended_some, no_items, retire_may}
use Rattle.pm_call.proofs.finishing.end_records.Goals as goal

pub retire-requires : goal.retire-requires
retire-requires g c = retire_may g.M.LaneMem.at c.args.lane.now c.requires (search rules)

pub returns-then-is_empty : goal.returns-then-is_empty
returns-then-is_empty g c = ended_none g.M.LaneMem.at c.args.lane.now (no_items c.args.lane.now.log.records.items (search rules))

pub returns-else-is_empty : goal.returns-else-is_empty
returns-else-is_empty g c = ended_some g.M.LaneMem.at c.args.lane.now c.retire.new.lane c.retire.result (search rules) c.retire.ensures
