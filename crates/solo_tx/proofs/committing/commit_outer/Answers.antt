use Rattle.std.proofs.Common.{ap, refl}
use Rattle.solo_world.specs.declared.lane.Lane.{Lane}
use Rattle.solo_tx.proofs.Committed.{committed, may_commit, stopped_committing}
use Rattle.solo_tx.proofs.committing.commit_outer.Goals as goal

pub commit_call-requires : goal.commit_call-requires
commit_call-requires g c = let is = c.requires.at_work in record { may = may_commit g.M.LaneMem.at c.args.lane.now is.0 is.1.0 is.1.1 }

pub returns-in-Ok-clause-ended : goal.returns-in-Ok-clause-ended
returns-in-Ok-clause-ended g c o v is keeps outer =
    committed g.M.LaneMem.at c.args.lane.now o v is keeps outer _ c.in-Ok.ensures.ran (ap (λ (lane : Lane g.row.M.Denot). lane.locks.items) c.in-Ok.ensures.else_same) c.in-Ok.ensures.none c.in-Ok.ensures.unlisted c.in-Ok.ensures.drawn (record { pool = ap (λ (lane : Lane g.row.M.Denot). lane.pool) c.in-Ok.ensures.else_same; shape = ap (λ (lane : Lane g.row.M.Denot). lane.shape) c.in-Ok.ensures.else_same }) (ap (λ (lane : Lane g.row.M.Denot). lane.stopped) c.in-Ok.ensures.else_same)

pub returns-in-Err-clause-stops : goal.returns-in-Err-clause-stops
returns-in-Err-clause-stops g c o v is keeps outer = stopped_committing g.M.LaneMem.at c.args.lane.now o v is keeps outer _ c.in-Err.ensures.stops refl
