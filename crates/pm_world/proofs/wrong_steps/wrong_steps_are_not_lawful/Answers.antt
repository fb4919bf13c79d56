use Rattle.pm_world.proofs.WrongSteps as wrong
use Rattle.pm_world.proofs.wrong_steps.wrong_steps_are_not_lawful.Goals as goal

pub returns-clause-unlogged_change : goal.returns-clause-unlogged_change
returns-clause-unlogged_change _ = wrong.no_unlogged_change

pub returns-clause-hasty_seal : goal.returns-clause-hasty_seal
returns-clause-hasty_seal _ = wrong.no_hasty_seal

pub returns-clause-hasty_clear : goal.returns-clause-hasty_clear
returns-clause-hasty_clear _ = wrong.no_hasty_clear

pub returns-clause-hasty_give : goal.returns-clause-hasty_give
returns-clause-hasty_give _ = wrong.no_hasty_give

pub returns-clause-hasty_release : goal.returns-clause-hasty_release
returns-clause-hasty_release _ = wrong.no_hasty_release

pub returns-clause-entered_release : goal.returns-clause-entered_release
returns-clause-entered_release _ = wrong.no_entered_release

pub returns-clause-foreign_release : goal.returns-clause-foreign_release
returns-clause-foreign_release _ = wrong.no_foreign_release

pub returns-clause-foreign_chunk_release : goal.returns-clause-foreign_chunk_release
returns-clause-foreign_chunk_release _ = wrong.no_foreign_chunk_release

pub returns-clause-told_release : goal.returns-clause-told_release
returns-clause-told_release _ = wrong.no_told_release

pub returns-clause-published_release : goal.returns-clause-published_release
returns-clause-published_release _ = wrong.no_published_release

pub returns-clause-stores_in_pool : goal.returns-clause-stores_in_pool
returns-clause-stores_in_pool _ = wrong.stores_are_in_pool

pub returns-clause-occupancy_stays : goal.returns-clause-occupancy_stays
returns-clause-occupancy_stays _ = wrong.occupancy_stays
