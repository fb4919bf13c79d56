use Rattle.std.proofs.Common.{refl, sym, subst}
use Rattle.pm_objects.specs.declared.calls.Operation.TheVariants.{Write}
use Rattle.pm_call.specs.Did.{Did}
use Rattle.pm_call.specs.Plans.{puts}
use Rattle.pm_exec.specs.Answers.{LineCame}
use Rattle.pm_exec.proofs.LineEnds.{came_unreplied}
use Rattle.pm_exec.proofs.Stopping.{did_unnumbered}
use Rattle.pm_exec.proofs.lines.write.Goals as goal

pub write-requires : goal.write-requires
write-requires g c none = (c.requires.1.work none).0

pub returns : goal.returns
returns g c n h stands here =
    let at = g.M.LaneMem.at in
    let known = c.calls_are_known.ensures in
    let old = c.args.lane.now in
    let new = c.write.new.lane in
    let id = c.args.id in
    let off = c.args.off in
    let bytes = c.args.bytes.now in
    let did = c.write.ensures in
    let none = known.working old n here in
    subst (LineCame at new (Write id off bytes) _ _ h) (sym c.unreplied.ensures)
    (came_unreplied at old new h (Write id off bytes) n here none c.write.result refl refl
    (known.write id off bytes c.write.result old new h stands did)
    (known.write_moves id off bytes c.write.result old new h stands did)
    (λ is. did_unnumbered at old new h stands none (Write id off bytes) (λ v. puts id off bytes)
    (λ v (done : Unit {0}). Unit {0})
    (subst (λ r. Did at old new (Write id off bytes) (λ v. puts id off bytes)
    (λ v (done : Unit {0}). Unit {0}) r) is did)))
