use Rattle.std.proofs.Common.{refl}
use Rattle.pm_model.specs.Items.{all_edited}
use Rattle.pm_model.specs.Places.{can_begin, can_begin_at_line}
use Rattle.pm_model.specs.Transaction.{all_locked, covered_words, locked, new_words, records_from, records_of}
use Rattle.pm_model.specs.Refusals.{first_of}
use Rattle.pm_model.proofs.examples.refusals_by_example.Goals as goal

pub returns-clause-not_added : goal.returns-clause-not_added
unfolding all_edited all_locked can_begin can_begin_at_line covered_words first_of locked new_words records_from records_of
returns-clause-not_added c = refl

pub returns-clause-added : goal.returns-clause-added
unfolding all_edited all_locked can_begin can_begin_at_line covered_words first_of locked new_words records_from records_of
returns-clause-added c = refl

pub returns-clause-not_locked : goal.returns-clause-not_locked
unfolding all_edited all_locked can_begin can_begin_at_line covered_words first_of locked new_words records_from records_of
returns-clause-not_locked c = refl

pub returns-clause-freed : goal.returns-clause-freed
unfolding all_edited all_locked can_begin can_begin_at_line covered_words first_of locked new_words records_from records_of
returns-clause-freed c = refl

pub returns-clause-made_and_freed : goal.returns-clause-made_and_freed
unfolding all_edited all_locked can_begin can_begin_at_line covered_words first_of locked new_words records_from records_of
returns-clause-made_and_freed c = refl

pub returns-clause-root_kept : goal.returns-clause-root_kept
unfolding all_edited all_locked can_begin can_begin_at_line covered_words first_of locked new_words records_from records_of
returns-clause-root_kept c = refl

pub returns-clause-listed : goal.returns-clause-listed
unfolding all_edited all_locked can_begin can_begin_at_line covered_words first_of locked new_words records_from records_of
returns-clause-listed c = refl

pub returns-clause-out_of_range : goal.returns-clause-out_of_range
unfolding all_edited all_locked can_begin can_begin_at_line covered_words first_of locked new_words records_from records_of
returns-clause-out_of_range c = refl

pub returns-clause-empty_at_end : goal.returns-clause-empty_at_end
unfolding all_edited all_locked can_begin can_begin_at_line covered_words first_of locked new_words records_from records_of
returns-clause-empty_at_end c = refl

pub returns-clause-bad_size : goal.returns-clause-bad_size
unfolding all_edited all_locked can_begin can_begin_at_line covered_words first_of locked new_words records_from records_of
returns-clause-bad_size c = refl

pub returns-clause-no_space : goal.returns-clause-no_space
unfolding all_edited all_locked can_begin can_begin_at_line covered_words first_of locked new_words records_from records_of
returns-clause-no_space c = refl

pub returns-clause-busy : goal.returns-clause-busy
unfolding all_edited all_locked can_begin can_begin_at_line covered_words first_of locked new_words records_from records_of
returns-clause-busy c = refl

pub returns-clause-missing : goal.returns-clause-missing
unfolding all_edited all_locked can_begin can_begin_at_line covered_words first_of locked new_words records_from records_of
returns-clause-missing c = refl

pub returns-clause-no_place : goal.returns-clause-no_place
unfolding all_edited all_locked can_begin can_begin_at_line covered_words first_of locked new_words records_from records_of
returns-clause-no_place c = refl

pub returns-clause-unaligned : goal.returns-clause-unaligned
unfolding all_edited all_locked can_begin can_begin_at_line covered_words first_of locked new_words records_from records_of
returns-clause-unaligned c = refl

pub returns-clause-not_reserved : goal.returns-clause-not_reserved
unfolding all_edited all_locked can_begin can_begin_at_line covered_words first_of locked new_words records_from records_of
returns-clause-not_reserved c = refl

pub returns-clause-late : goal.returns-clause-late
unfolding all_edited all_locked can_begin can_begin_at_line covered_words first_of locked new_words records_from records_of
returns-clause-late c = refl

pub returns-clause-deep : goal.returns-clause-deep
unfolding all_edited all_locked can_begin can_begin_at_line covered_words first_of locked new_words records_from records_of
returns-clause-deep c = refl

pub returns-clause-not_work : goal.returns-clause-not_work
unfolding all_edited all_locked can_begin can_begin_at_line covered_words first_of locked new_words records_from records_of
returns-clause-not_work c = refl

pub returns-clause-no_tx : goal.returns-clause-no_tx
unfolding all_edited all_locked can_begin can_begin_at_line covered_words first_of locked new_words records_from records_of
returns-clause-no_tx c = refl
