use Rattle.std.proofs.Common.{subst}
use Rattle.pm_layout.specs.declared.class.Class.{Class}
use Rattle.solo_blocks.proofs.Again.{ok_leads}
use Rattle.solo_blocks.specs.AnyBlocks.{HasRoom}
use Rattle.solo_blocks.proofs.reserving.reserve.Goals as goal

pub returns-in-Lines-clause-got : goal.returns-in-Lines-clause-got
returns-in-Lines-clause-got g c =
    ok_leads _ _ c.reserve_small.result (λ block got v there may.
    subst (λ (class : Class). HasRoom (g.M.LaneMem.at c.reserve_small.new.lane.memory) v class block) c.in-Lines.ensures.value (got v there may))
    c.reserve_small.ensures.got
