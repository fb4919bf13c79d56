use Rattle.pm_objects.specs.declared.calls.Operation.TheVariants.{SetValue}
use Rattle.pm_action.proofs.Positions.{asked_by_level_stays, cancelled_by_level_moves, finished_stays, published_outside_stays}
use Rattle.pm_action.proofs.laws.positions_follow.Goals as goal

pub returns-clause-set_value : goal.returns-clause-set_value
returns-clause-set_value g c id off value result old new h =
    asked_by_level_stays g.M.LaneMem.at old new h (SetValue id off value) result

pub returns-clause-cancel : goal.returns-clause-cancel
returns-clause-cancel g c result old new h =
    cancelled_by_level_moves g.M.LaneMem.at old new h result

pub returns-clause-publish : goal.returns-clause-publish
returns-clause-publish g c result old new h =
    published_outside_stays g.M.LaneMem.at old new h result

pub returns-clause-finish : goal.returns-clause-finish
returns-clause-finish g c result old new h = finished_stays g.M.LaneMem.at old new h result
