use Rattle.std.proofs.Common.{List, refl, subst, sym}
use Rattle.solo_world.specs.Sequences.{IsMade, IsReady}
use Rattle.solo_world.specs.declared.lane.HeldLock.{HeldLock}
use Rattle.solo_lock.specs.Locking.{gives}
use Rattle.solo_lock.proofs.GivenBack.{back_ready, given_back}
use Rattle.solo_lock.proofs.locking.give_back.Goals as goal

pub give_all-requires : goal.give_all-requires
give_all-requires g c =
    let is = c.requires.held in
    subst (λ (locks : List HeldLock). IsReady (g.M.LaneMem.at c.args.lane.now.memory) (gives locks)) (sym c.as_slice.ensures.value) (back_ready g.M.LaneMem.at c.args.lane.now is.0 is.1)

pub returns-clause-given : goal.returns-clause-given
returns-clause-given g c v is =
    given_back g.M.LaneMem.at c.args.lane.now v is _
    (subst (λ (locks : List HeldLock). IsMade (g.M.LaneMem.at c.args.lane.now.memory) (g.M.LaneMem.at c.give_all.new.mem) (gives locks)) c.as_slice.ensures.value c.give_all.ensures)
    c.clear.ensures refl refl refl refl (record { pool = refl; shape = refl }) refl refl
