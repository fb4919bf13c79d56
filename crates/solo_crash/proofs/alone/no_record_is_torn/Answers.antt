use Rattle.solo_crash.proofs.TornSlots.{none_torn_alone, none_torn_by_words}
use Rattle.solo_crash.proofs.alone.no_record_is_torn.Goals as goal

pub returns : goal.returns
returns c = record { tested = none_torn_alone; of_words = none_torn_by_words }
