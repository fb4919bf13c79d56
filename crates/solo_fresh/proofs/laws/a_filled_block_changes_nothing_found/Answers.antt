use Rattle.solo_fresh.proofs.Reservable.{filled_finds}
use Rattle.solo_fresh.proofs.laws.a_filled_block_changes_nothing_found.Goals as goal

pub returns : goal.returns
returns c = filled_finds
