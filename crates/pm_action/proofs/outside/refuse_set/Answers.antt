use Rattle.std.proofs.Common.{Some}
use Rattle.pm_objects.specs.declared.calls.Operation.TheVariants.{SetValue}
use Rattle.pm_objects.specs.declared.history.Value.TheVariants.{Refused}
use Rattle.pm_action.proofs.OutsideLanes.{ended, may_end, refused_lists}
use Rattle.pm_action.proofs.outside.refuse_set.Goals as goal

pub end_outside-requires : goal.end_outside-requires
end_outside-requires g c = may_end g.M.LaneMem.at c.args.lane.now (SetValue c.args.id c.args.off c.args.value) (Some (Refused c.args.why)) c.requires

pub returns : goal.returns
returns g c =
    ended g.M.LaneMem.at c.args.lane.now (SetValue c.args.id c.args.off c.args.value) (Some (Refused c.args.why)) c.end_outside.new.lane c.end_outside.result c.args.lane.now.pending.items c.end_outside.ensures.made c.end_outside.ensures.fields
    (refused_lists g.M.LaneMem.at c.args.lane.now c.args.id c.args.off c.args.value c.args.why)
