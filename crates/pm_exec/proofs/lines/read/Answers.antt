use Rattle.std.proofs.Common.{◌≡◌, ℕ, suc, Err, Some, arith, drop, length, refl, rules, sym, ap, ◌∙◌, subst}
use Rattle.pm_objects.specs.declared.calls.Operation.TheVariants.{Read}
use Rattle.pm_objects.specs.declared.history.Value.TheVariants.{Bytes}
use Rattle.pm_call.specs.Did.{Did}
use Rattle.pm_call.specs.Plans.{gets}
use Rattle.pm_call.specs.Reading.{HasRead}
use Rattle.pm_tx.specs.Standing.{read_bytes}
use Rattle.pm_exec.specs.Answers.{LineCame}
use Rattle.pm_exec.specs.declared.line_end.LineEnd.TheVariants as ends
use Rattle.pm_exec.proofs.LineEnds.{came_done, came_refused, take_front}
use Rattle.pm_exec.proofs.Stopping.{did_unnumbered}
use Rattle.pm_exec.proofs.lines.read.Goals as goal

pub read-requires : goal.read-requires
read-requires g c none = (c.requires.1.work none).0

pub returns-in-Ok : goal.returns-in-Ok
returns-in-Ok g c n h stands here =
    let at = g.M.LaneMem.at in
    let known = c.calls_are_known.ensures in
    let old = c.args.lane.now in
    let new = c.read.new.lane in
    let id = c.args.id in
    let off = c.args.off in
    let into = c.read.new.into in
    let len : length c.as_mut_slice.result.now ≡ length c.args.room.items = search rules in
    let ok = c.args.room.ok.0 in
    let buffer = (c.in-Ok.ensures {u = tt}).buffer in
    let read : c.from_vec.result ≡ into = c.from_vec.ensures
    ∙ take_front into (drop (length into) c.args.room.items) c.args.room.len (omega (arith, ok, buffer, len)) in
    let did = (c.in-Ok.ensures {u = tt}).did in
    let none = known.working old n here in
    let op = Read id off (length c.as_mut_slice.result.now) in
    subst (λ (k : ℕ). LineCame at new (Read id off k) (suc n) (suc n) h c.at_work.result) len
    (subst (LineCame at new op _ _ h) (sym (c.at_work.ensures ∙ ap (λ bs. ends.GoesOn (Some (Bytes bs))) read))
    (came_done at old new h op n here none (read_bytes into) c.in-Ok.field-0 refl
    (known.read id off (length c.as_mut_slice.result.now) into _ old new h stands did)
    (known.read_moves id off (length c.as_mut_slice.result.now) into _ old new h stands did)))

pub returns-in-Err : goal.returns-in-Err
returns-in-Err g c n h stands here =
    let at = g.M.LaneMem.at in
    let known = c.calls_are_known.ensures in
    let old = c.args.lane.now in
    let new = c.read.new.lane in
    let id = c.args.id in
    let off = c.args.off in
    let into = c.read.new.into in
    let many : ℕ = length c.as_mut_slice.result.now in
    let len : many ≡ length c.args.room.items = search rules in
    let did = (c.in-Err.ensures {u = tt}).did in
    let none = known.working old n here in
    let op = Read id off many in
    subst (λ (k : ℕ). LineCame at new (Read id off k) (suc n) (suc n) h c.at_work-in-Err.result) len
    (subst (LineCame at new op _ _ h) (sym c.at_work-in-Err.ensures)
    (came_refused at old new h op n here none (read_bytes into) c.in-Err.why refl
    (known.read id off many into _ old new h stands did)
    (known.read_moves id off many into _ old new h stands did)
    (λ is. did_unnumbered at old new h stands none op (λ v. gets id off many)
    (HasRead id off many into)
    (subst (λ r. Did at old new op (λ v. gets id off many) (HasRead id off many into) (Err r)) is did))))
