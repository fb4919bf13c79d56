use Rattle.std.proofs.Common.{rules}
use Rattle.pm_call.proofs.FinishedLanes.{entries_may, finished_none, finished_some, no_items, records_may}
use Rattle.pm_call.proofs.finishing.finish.Goals as goal

pub finish_records-requires-clause-may : goal.finish_records-requires-clause-may
finish_records-requires-clause-may g c = records_may g.M.LaneMem.at c.args.lane.now c.requires (no_items c.args.lane.now.entries.items (search rules))

pub returns-then-is_empty : goal.returns-then-is_empty
returns-then-is_empty g c = finished_none g.M.LaneMem.at c.args.lane.now c.finish_records.new.lane c.finish_records.result (no_items c.args.lane.now.entries.items (search rules)) c.finish_records.ensures

pub finish_entries-requires : goal.finish_entries-requires
finish_entries-requires g c = entries_may g.M.LaneMem.at c.args.lane.now c.requires (search rules)

pub returns-else-is_empty : goal.returns-else-is_empty
returns-else-is_empty g c = finished_some g.M.LaneMem.at c.args.lane.now c.finish_entries.new.lane c.finish_entries.result (search rules) c.finish_entries.ensures
