use Rattle.std.proofs.Common.{lit<, refl}
use Rattle.solo_blocks.proofs.tests.blocks_in_turn.Goals as goal

-- 5 is the fourth class
pub reserve_class-requires-2-clause-class : goal.reserve_class-requires-2-clause-class
reserve_class-requires-2-clause-class g c = (3, lit< tt, refl)
