use Rattle.pm_memory.proofs.solo_lane.SoloMemLaneMem.TheImpl.Goals as goal

-- what the trait asks for each reply is asked once
pub load-asks : goal.load-asks
load-asks c = c.requires 0

pub or-asks : goal.or-asks
or-asks c = record { word = (c.requires 0).0; room = (c.requires 0).1 }

pub and-asks : goal.and-asks
and-asks c = record { word = (c.requires 0).0; room = (c.requires 0).1 }
