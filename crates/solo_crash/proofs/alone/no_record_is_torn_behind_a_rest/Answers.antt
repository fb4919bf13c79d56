use Rattle.solo_crash.proofs.AtRest.{none_torn_at_rest}
use Rattle.solo_crash.proofs.TornSlots.{none_torn_behind, none_torn_behind_by_words}
use Rattle.solo_crash.proofs.alone.no_record_is_torn_behind_a_rest.Goals as goal

pub returns : goal.returns
returns c = record { tested = none_torn_behind; of_words = none_torn_behind_by_words; at_rest = none_torn_at_rest }
