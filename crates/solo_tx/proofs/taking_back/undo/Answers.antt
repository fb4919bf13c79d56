use Rattle.solo_tx.proofs.Undoing.{restore_ready, restored_area, retire_ready}
use Rattle.solo_tx.proofs.taking_back.undo.Goals as goal

pub restore-requires-clause-ready : goal.restore-requires-clause-ready
restore-requires-clause-ready g c = restore_ready g.M.LaneMem.at c.args.lane.now c.requires.working

pub retire-requires-clause-area : goal.retire-requires-clause-area
retire-requires-clause-area g c =
    restored_area g.M.LaneMem.at c.args.lane.now c.requires.working (g.M.LaneMem.at c.restore.new.lane.memory) (Unit {0}) tt c.in_ok-restore.ensures.ran

pub retire-requires-clause-ready : goal.retire-requires-clause-ready
retire-requires-clause-ready g c =
    retire_ready g.M.LaneMem.at c.args.lane.now c.requires.working (g.M.LaneMem.at c.restore.new.lane.memory) (Unit {0}) tt c.in_ok-restore.ensures.ran
