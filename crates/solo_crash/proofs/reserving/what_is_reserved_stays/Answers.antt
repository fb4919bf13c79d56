use Rattle.solo_crash.proofs.ReservedStays.{alloc_stays, begin_stays, change_stays, found_free_stays, given_up_stays, level_stays, made_free_stays, new_write_stays, publish_leaves_none, quietly_stays, refused_level_stays, rest_stays, taken_back_stays, told_stays, write_stays}
use Rattle.solo_crash.proofs.reserving.what_is_reserved_stays.Goals as goal

pub returns-clause-told : goal.returns-clause-told
returns-clause-told c = told_stays

pub returns-clause-pending : goal.returns-clause-pending
returns-clause-pending c = change_stays

pub returns-clause-publishes : goal.returns-clause-publishes
returns-clause-publishes c = publish_leaves_none

pub returns-clause-writes : goal.returns-clause-writes
returns-clause-writes c = write_stays

pub returns-clause-writes_new : goal.returns-clause-writes_new
returns-clause-writes_new c = new_write_stays

pub returns-clause-allocates : goal.returns-clause-allocates
returns-clause-allocates c = alloc_stays

pub returns-clause-frees_found : goal.returns-clause-frees_found
returns-clause-frees_found c = found_free_stays

pub returns-clause-frees_made : goal.returns-clause-frees_made
returns-clause-frees_made c = made_free_stays

pub returns-clause-begins_further : goal.returns-clause-begins_further
returns-clause-begins_further c = level_stays

pub returns-clause-gives_up : goal.returns-clause-gives_up
returns-clause-gives_up c = given_up_stays

pub returns-clause-refuses_further : goal.returns-clause-refuses_further
returns-clause-refuses_further c = refused_level_stays

pub returns-clause-taken_back : goal.returns-clause-taken_back
returns-clause-taken_back c = taken_back_stays

pub returns-clause-quietly : goal.returns-clause-quietly
returns-clause-quietly c = quietly_stays

pub returns-clause-rests : goal.returns-clause-rests
returns-clause-rests c = rest_stays

pub returns-clause-begins : goal.returns-clause-begins
returns-clause-begins c = begin_stays
