use Rattle.solo_fresh.proofs.Reservable.{reserved_may}
use Rattle.solo_fresh.proofs.laws.reserved_words_may_be_filled.Goals as goal

pub returns : goal.returns
returns c = reserved_may
