use Rattle.pm_call.proofs.EntryLooks.{call_committed, looked_so}
use Rattle.pm_call.proofs.finishing.commit_call.Goals as goal

pub look_entries-requires : goal.look_entries-requires
look_entries-requires g c = let r = c.requires in record { standing = r.standing; works = r.works; stands = r.stands }

pub commit_outermost-requires : goal.commit_outermost-requires
commit_outermost-requires g c = looked_so g.M.LaneMem.at c.args.lane.now c.look_entries.new.lane c.requires c.look_entries.ensures

pub returns : goal.returns
returns g c = call_committed g.M.LaneMem.at c.args.lane.now c.look_entries.new.lane c.commit_outermost.new.lane c.commit_outermost.result c.look_entries.ensures c.commit_outermost.ensures
