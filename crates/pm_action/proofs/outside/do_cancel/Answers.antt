use Rattle.std.proofs.Common.{[], ◌+◌, None, ap, ◌∙◌}
use Rattle.pm_objects.specs.declared.calls.Operation.TheVariants.{Cancel}
use Rattle.pm_world.specs.LaneFields.{fields_of}
use Rattle.pm_action.proofs.OutsideLanes.{cancel_lists, ended, may_end}
use Rattle.pm_action.proofs.outside.do_cancel.Goals as goal

pub end_outside-requires : goal.end_outside-requires
end_outside-requires g c = may_end g.M.LaneMem.at c.args.lane.now Cancel None c.requires

pub returns : goal.returns
returns g c =
    ended g.M.LaneMem.at c.args.lane.now Cancel None c.end_outside.new.lane c.end_outside.result [] c.end_outside.ensures.made
    (c.end_outside.ensures.fields ∙ ap (λ xs. record (fields_of c.args.lane.now) { pending = xs; last = c.end_outside.result + 1 }) c.clear.ensures)
    (λ s rests. cancel_lists s)
