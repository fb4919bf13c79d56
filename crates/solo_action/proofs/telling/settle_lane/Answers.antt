use Rattle.solo_tx.proofs.Undoing.{settle_ready}
use Rattle.solo_action.proofs.Settled.{settled, stopped_settling}
use Rattle.solo_action.proofs.telling.settle_lane.Goals as goal

pub settle-requires : goal.settle-requires
settle-requires g c = let is = c.requires in settle_ready (g.M.LaneMem.at c.args.lane.now.memory) is.0 is.1

pub returns-in-Ok-clause-settled : goal.returns-in-Ok-clause-settled
returns-in-Ok-clause-settled g c v there = settled (g.M.LaneMem.at c.args.lane.now.memory) (g.M.LaneMem.at c.settle.new.mem) v there c.in-Ok.field-0 c.in-Ok.ensures

pub returns-in-Err-clause-stops : goal.returns-in-Err-clause-stops
returns-in-Err-clause-stops g c v there = stopped_settling (g.M.LaneMem.at c.args.lane.now.memory) (g.M.LaneMem.at c.settle.new.mem) v there c.in-Err.field-0 c.in-Err.ensures
