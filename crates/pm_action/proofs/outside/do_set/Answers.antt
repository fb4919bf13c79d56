use Rattle.std.proofs.Common.{[], ◌∷◌, ◌++◌, ◌+◌, None, ap, ◌∙◌}
use Rattle.pm_objects.specs.declared.calls.Operation.TheVariants.{SetValue}
use Rattle.pm_world.specs.LaneFields.{fields_of}
use Rattle.pm_world.specs.declared.lane.PendingAction.TheVariants.{Set}
use Rattle.pm_action.proofs.OutsideLanes.{ended, may_end, set_lists}
use Rattle.pm_action.proofs.outside.do_set.Goals as goal

pub end_outside-requires : goal.end_outside-requires
end_outside-requires g c = may_end g.M.LaneMem.at c.args.lane.now (SetValue c.args.id c.args.off c.args.value) None c.requires.opened

pub returns : goal.returns
returns g c =
    ended g.M.LaneMem.at c.args.lane.now (SetValue c.args.id c.args.off c.args.value) None c.end_outside.new.lane c.end_outside.result (c.args.lane.now.pending.items ++ Set c.args.id c.args.off c.args.value ∷ []) c.end_outside.ensures.made
    (c.end_outside.ensures.fields ∙ ap (λ xs. record (fields_of c.args.lane.now) { pending = xs; last = c.end_outside.result + 1 }) c.push.ensures.items)
    (set_lists g.M.LaneMem.at c.args.lane.now c.args.id c.args.off c.args.value)
