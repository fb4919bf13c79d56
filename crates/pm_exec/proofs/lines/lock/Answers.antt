use Rattle.std.proofs.Common.{◌∷◌, [], refl, sym, subst}
use Rattle.pm_objects.specs.declared.calls.Operation.TheVariants.{Lock}
use Rattle.pm_tx.specs.Locks.{DidLock}
use Rattle.pm_exec.specs.Answers.{LineCame}
use Rattle.pm_exec.proofs.LineEnds.{came_unreplied}
use Rattle.pm_exec.proofs.Stopping.{lock_unnumbered}
use Rattle.pm_exec.proofs.lines.lock.Goals as goal

pub lock-requires : goal.lock-requires
lock-requires g c none = (c.requires.1.work none).0

pub returns : goal.returns
returns g c n h stands here =
    let at = g.M.LaneMem.at in
    let known = c.calls_are_known.ensures in
    let old = c.args.lane.now in
    let new = c.lock.new.lane in
    let op = Lock c.args.want in
    let wants = c.args.want ∷ [] in
    let did = c.lock.ensures in
    let none = known.working old n here in
    subst (LineCame at new op _ _ h) (sym c.unreplied.ensures)
    (came_unreplied at old new h op n here none c.lock.result refl refl
    (known.lock op wants c.lock.result old new h stands did)
    (known.lock_moves op wants c.lock.result old new h stands did)
    (λ is. lock_unnumbered at old new h stands none op wants
    (subst (λ r. DidLock at old new op wants r) is did)))
