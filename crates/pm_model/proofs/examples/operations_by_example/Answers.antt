use Rattle.std.proofs.Common.{refl}
use Rattle.pm_model.specs.Items.{all_edited}
use Rattle.pm_model.specs.Places.{can_begin, can_begin_at_line}
use Rattle.pm_model.specs.Transaction.{all_locked, covered_words, locked, new_words, records_from, records_of}
use Rattle.pm_model.specs.Refusals.{first_of}
use Rattle.pm_model.proofs.examples.operations_by_example.Goals as goal

pub returns-clause-begin : goal.returns-clause-begin
unfolding all_edited all_locked can_begin can_begin_at_line covered_words first_of locked new_words records_from records_of
returns-clause-begin c = refl

pub returns-clause-lock : goal.returns-clause-lock
unfolding all_edited all_locked can_begin can_begin_at_line covered_words first_of locked new_words records_from records_of
returns-clause-lock c = refl

pub returns-clause-add_range : goal.returns-clause-add_range
unfolding all_edited all_locked can_begin can_begin_at_line covered_words first_of locked new_words records_from records_of
returns-clause-add_range c = refl

pub returns-clause-write : goal.returns-clause-write
unfolding all_edited all_locked can_begin can_begin_at_line covered_words first_of locked new_words records_from records_of
returns-clause-write c = refl

pub returns-clause-read : goal.returns-clause-read
unfolding all_edited all_locked can_begin can_begin_at_line covered_words first_of locked new_words records_from records_of
returns-clause-read c = refl

pub returns-clause-increment : goal.returns-clause-increment
unfolding all_edited all_locked can_begin can_begin_at_line covered_words first_of locked new_words records_from records_of
returns-clause-increment c = refl

pub returns-clause-alloc : goal.returns-clause-alloc
unfolding all_edited all_locked can_begin can_begin_at_line covered_words first_of locked new_words records_from records_of
returns-clause-alloc c = refl

pub returns-clause-free : goal.returns-clause-free
unfolding all_edited all_locked can_begin can_begin_at_line covered_words first_of locked new_words records_from records_of
returns-clause-free c = refl

pub returns-clause-reserve : goal.returns-clause-reserve
unfolding all_edited all_locked can_begin can_begin_at_line covered_words first_of locked new_words records_from records_of
returns-clause-reserve c = refl

pub returns-clause-put : goal.returns-clause-put
unfolding all_edited all_locked can_begin can_begin_at_line covered_words first_of locked new_words records_from records_of
returns-clause-put c = refl

pub returns-clause-defer_free : goal.returns-clause-defer_free
unfolding all_edited all_locked can_begin can_begin_at_line covered_words first_of locked new_words records_from records_of
returns-clause-defer_free c = refl

pub returns-clause-set_value : goal.returns-clause-set_value
unfolding all_edited all_locked can_begin can_begin_at_line covered_words first_of locked new_words records_from records_of
returns-clause-set_value c = refl

pub returns-clause-publish : goal.returns-clause-publish
unfolding all_edited all_locked can_begin can_begin_at_line covered_words first_of locked new_words records_from records_of
returns-clause-publish c = refl

pub returns-clause-commit : goal.returns-clause-commit
unfolding all_edited all_locked can_begin can_begin_at_line covered_words first_of locked new_words records_from records_of
returns-clause-commit c = refl

pub returns-clause-cancel : goal.returns-clause-cancel
unfolding all_edited all_locked can_begin can_begin_at_line covered_words first_of locked new_words records_from records_of
returns-clause-cancel c = refl

pub returns-clause-abort : goal.returns-clause-abort
unfolding all_edited all_locked can_begin can_begin_at_line covered_words first_of locked new_words records_from records_of
returns-clause-abort c = refl

pub returns-clause-abort_error : goal.returns-clause-abort_error
unfolding all_edited all_locked can_begin can_begin_at_line covered_words first_of locked new_words records_from records_of
returns-clause-abort_error c = refl

pub returns-clause-inner_commit : goal.returns-clause-inner_commit
unfolding all_edited all_locked can_begin can_begin_at_line covered_words first_of locked new_words records_from records_of
returns-clause-inner_commit c = refl

pub returns-clause-inner_abort : goal.returns-clause-inner_abort
unfolding all_edited all_locked can_begin can_begin_at_line covered_words first_of locked new_words records_from records_of
returns-clause-inner_abort c = refl

pub returns-clause-process : goal.returns-clause-process
unfolding all_edited all_locked can_begin can_begin_at_line covered_words first_of locked new_words records_from records_of
returns-clause-process c = refl
