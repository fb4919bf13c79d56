use Rattle.std.proofs.Common.{List, refl, subst, sym}
use Rattle.solo_world.specs.Sequences.{IsMade, IsReady}
use Rattle.solo_world.specs.declared.lane.HeldLock.{HeldLock}
use Rattle.solo_lock.specs.Locking.{gives}
use Rattle.solo_tx.proofs.GivenBack.{after_call_told, closed, give_ready}
use Rattle.solo_tx.proofs.ending_level.close.Goals as goal

pub give_all-requires : goal.give_all-requires
give_all-requires g c =
    let is = c.requires.after in
    subst (λ (locks : List HeldLock). IsReady (g.M.LaneMem.at c.args.lane.now.memory) (gives locks)) (sym c.as_slice.ensures.value) (give_ready g.M.LaneMem.at c.args.lane.now is.0 (after_call_told g.M.LaneMem.at c.args.lane.now is.0 is.1))

pub returns-clause-closed : goal.returns-clause-closed
returns-clause-closed g c v is =
    closed g.M.LaneMem.at c.args.lane.now v (after_call_told g.M.LaneMem.at c.args.lane.now v is) _
    (subst (λ (locks : List HeldLock). IsMade (g.M.LaneMem.at c.args.lane.now.memory) (g.M.LaneMem.at c.give_all.new.mem) (gives locks)) c.as_slice.ensures.value c.give_all.ensures)
    c.clear.ensures refl refl refl refl (record { pool = refl; shape = refl }) refl refl
