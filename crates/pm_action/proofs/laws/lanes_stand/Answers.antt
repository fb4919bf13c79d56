use Rattle.std.proofs.Common.{refl}
use Rattle.pm_objects.specs.declared.calls.Operation.TheVariants.{SetValue}
use Rattle.pm_action.proofs.Standing.{asked_by_level_turns, cancelled_by_level_turns, published_outside_turns}
use Rattle.pm_action.proofs.laws.lanes_stand.Goals as goal

pub returns-clause-set_value : goal.returns-clause-set_value
returns-clause-set_value g c id off value result old new h =
    asked_by_level_turns g.M.LaneMem.at old new h (SetValue id off value) (λ reply. refl) refl result

pub returns-clause-cancel : goal.returns-clause-cancel
returns-clause-cancel g c result old new h =
    cancelled_by_level_turns g.M.LaneMem.at old new h result

pub returns-clause-publish : goal.returns-clause-publish
returns-clause-publish g c result old new h =
    published_outside_turns g.M.LaneMem.at old new h result
