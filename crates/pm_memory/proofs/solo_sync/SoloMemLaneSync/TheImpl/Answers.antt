use Rattle.std.proofs.Common.{false}
use Rattle.pm_memory.proofs.solo_sync.SoloMemLaneSync.TheImpl.Goals as goal

-- what the trait asks for each reply is asked once
pub occupied-asks : goal.occupied-asks
occupied-asks c = c.requires 0

pub occupy-asks : goal.occupy-asks
occupy-asks c = c.requires false

pub draw-asks : goal.draw-asks
draw-asks c = c.requires 0

pub take_write-asks : goal.take_write-asks
take_write-asks c = record { line = (c.requires false).0; free = (c.requires false).1 }

pub take_read-asks : goal.take_read-asks
take_read-asks c = record { line = (c.requires false).0; free = (c.requires false).1 }

pub raise-asks : goal.raise-asks
raise-asks c = record { line = (c.requires false).0; reads = (c.requires false).1 }

pub zone_try-asks : goal.zone_try-asks
zone_try-asks c = record { zone = (c.requires false).0; free = (c.requires false).1 }
