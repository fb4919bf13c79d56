use Rattle.pm_objects.specs.declared.calls.Operation.TheVariants.{Commit}
use Rattle.pm_undo.specs.Undoing.{KeepsLog}
use Rattle.pm_call.specs.Finishing.{CanEndRecords}
use Rattle.pm_call.proofs.FinishedLanes.{finished_records, may_number, records_stand}
use Rattle.pm_call.proofs.finishing.finish_records.Goals as goal

pub number_call-requires : goal.number_call-requires
number_call-requires g c = may_number g.M.LaneMem.at c.args.lane.now Commit (KeepsLog g.M.LaneMem.at c.args.lane.now) CanEndRecords (λ v keeps. keeps.memory) c.requires.may

pub end_records-requires : goal.end_records-requires
end_records-requires g c = records_stand g.M.LaneMem.at c.args.lane.now Commit c.number_call.new.lane c.number_call.result c.number_call.ensures.lane c.number_call.ensures.made c.requires.may

pub returns : goal.returns
returns g c = finished_records g.M.LaneMem.at c.args.lane.now Commit c.number_call.new.lane c.number_call.result c.number_call.ensures.lane c.number_call.ensures.made c.end_records.new.lane c.end_records.result c.requires.empty c.end_records.ensures
