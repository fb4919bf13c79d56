use Rattle.std.proofs.Common.{refl}
use Rattle.pm_model.specs.Items.{all_edited}
use Rattle.pm_model.specs.Places.{can_begin, can_begin_at_line}
use Rattle.pm_model.specs.Transaction.{all_locked, covered_words, locked, new_words, records_from, records_of}
use Rattle.pm_model.specs.Refusals.{first_of}
use Rattle.pm_model.proofs.examples.calls_outside_by_example.Goals as goal

pub returns-clause-alloc_to : goal.returns-clause-alloc_to
unfolding all_edited all_locked can_begin can_begin_at_line covered_words first_of locked new_words records_from records_of
returns-clause-alloc_to c = refl

pub returns-clause-free_at : goal.returns-clause-free_at
unfolding all_edited all_locked can_begin can_begin_at_line covered_words first_of locked new_words records_from records_of
returns-clause-free_at c = refl

pub returns-clause-free_null : goal.returns-clause-free_null
unfolding all_edited all_locked can_begin can_begin_at_line covered_words first_of locked new_words records_from records_of
returns-clause-free_null c = refl

pub returns-clause-realloc_at : goal.returns-clause-realloc_at
unfolding all_edited all_locked can_begin can_begin_at_line covered_words first_of locked new_words records_from records_of
returns-clause-realloc_at c = refl

pub returns-clause-usable : goal.returns-clause-usable
unfolding all_edited all_locked can_begin can_begin_at_line covered_words first_of locked new_words records_from records_of
returns-clause-usable c = refl

pub returns-clause-type_number : goal.returns-clause-type_number
unfolding all_edited all_locked can_begin can_begin_at_line covered_words first_of locked new_words records_from records_of
returns-clause-type_number c = refl

pub returns-clause-insert : goal.returns-clause-insert
unfolding all_edited all_locked can_begin can_begin_at_line covered_words first_of locked new_words records_from records_of
returns-clause-insert c = refl

pub returns-clause-insert_tail : goal.returns-clause-insert_tail
unfolding all_edited all_locked can_begin can_begin_at_line covered_words first_of locked new_words records_from records_of
returns-clause-insert_tail c = refl

pub returns-clause-insert_listed : goal.returns-clause-insert_listed
unfolding all_edited all_locked can_begin can_begin_at_line covered_words first_of locked new_words records_from records_of
returns-clause-insert_listed c = refl

pub returns-clause-insert_new : goal.returns-clause-insert_new
unfolding all_edited all_locked can_begin can_begin_at_line covered_words first_of locked new_words records_from records_of
returns-clause-insert_new c = refl

pub returns-clause-remove : goal.returns-clause-remove
unfolding all_edited all_locked can_begin can_begin_at_line covered_words first_of locked new_words records_from records_of
returns-clause-remove c = refl

pub returns-clause-remove_free : goal.returns-clause-remove_free
unfolding all_edited all_locked can_begin can_begin_at_line covered_words first_of locked new_words records_from records_of
returns-clause-remove_free c = refl

pub returns-clause-remove_other : goal.returns-clause-remove_other
unfolding all_edited all_locked can_begin can_begin_at_line covered_words first_of locked new_words records_from records_of
returns-clause-remove_other c = refl

pub returns-clause-move_to : goal.returns-clause-move_to
unfolding all_edited all_locked can_begin can_begin_at_line covered_words first_of locked new_words records_from records_of
returns-clause-move_to c = refl

pub returns-clause-members : goal.returns-clause-members
unfolding all_edited all_locked can_begin can_begin_at_line covered_words first_of locked new_words records_from records_of
returns-clause-members c = refl

pub returns-clause-short : goal.returns-clause-short
unfolding all_edited all_locked can_begin can_begin_at_line covered_words first_of locked new_words records_from records_of
returns-clause-short c = refl

pub returns-clause-root : goal.returns-clause-root
unfolding all_edited all_locked can_begin can_begin_at_line covered_words first_of locked new_words records_from records_of
returns-clause-root c = refl

pub returns-clause-root_listed : goal.returns-clause-root_listed
unfolding all_edited all_locked can_begin can_begin_at_line covered_words first_of locked new_words records_from records_of
returns-clause-root_listed c = refl

pub returns-clause-root_size : goal.returns-clause-root_size
unfolding all_edited all_locked can_begin can_begin_at_line covered_words first_of locked new_words records_from records_of
returns-clause-root_size c = refl

pub returns-clause-publish : goal.returns-clause-publish
unfolding all_edited all_locked can_begin can_begin_at_line covered_words first_of locked new_words records_from records_of
returns-clause-publish c = refl
