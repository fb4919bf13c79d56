use Rattle.pm_world.specs.Lent.{operation_of}
use Rattle.pm_redo.specs.Stages.{CanSeal}
use Rattle.pm_call.specs.Finishing.{KeepsCall}
use Rattle.pm_call.proofs.FinishedLanes.{call_stands, may_number, performed_call}
use Rattle.pm_call.proofs.finishing.perform_call.Goals as goal

pub number_call-requires : goal.number_call-requires
number_call-requires g c = may_number g.M.LaneMem.at c.args.lane.now (operation_of c.args.told) (KeepsCall g.M.LaneMem.at c.args.lane.now) CanSeal (λ v keeps. keeps.keeps.memory) c.requires

pub perform_entries-requires : goal.perform_entries-requires
perform_entries-requires g c = call_stands g.M.LaneMem.at c.args.lane.now (operation_of c.args.told) c.number_call.new.lane c.number_call.result c.number_call.ensures.lane c.number_call.ensures.made c.requires

pub returns : goal.returns
returns g c = performed_call g.M.LaneMem.at c.args.lane.now (operation_of c.args.told) c.number_call.new.lane c.number_call.result c.number_call.ensures.lane c.number_call.ensures.made c.perform_entries.new.lane c.perform_entries.result c.perform_entries.ensures
