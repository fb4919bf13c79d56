use Rattle.std.proofs.Common.{◌≡◌, ℕ, suc, length, map, refl, sym, ap, ◌∙◌, subst, add-one}
use Rattle.pm_objects.specs.declared.calls.Operation.TheVariants as operation
use Rattle.pm_script.specs.declared.script.ScriptOp.TheVariants as op
use Rattle.pm_calls.specs.Calls.{id_of, want_of}
use Rattle.pm_calls.specs.Rooms.{bytes_read}
use Rattle.pm_exec.specs.Lines.{LineRan}
use Rattle.pm_exec.proofs.RunLines.{inside_ran, level_less, line_ran}
use Rattle.pm_exec.proofs.lines.run_line.Goals as goal

pub returns-in-Begin : goal.returns-in-Begin
returns-in-Begin g c =
    let at = g.M.LaneMem.at in
    let old = c.args.lane.now in
    let new = c.begin.new.lane in
    let e = c.begin.result in
    let wants = c.in-Begin.asked in
    let same : c.as_slice-in-Begin.result.now ≡ map (want_of c.args.names) wants =
    c.as_slice-in-Begin.ensures.value
    ∙ (c.wants_of.ensures ∙ ap (map (want_of c.args.names)) c.as_slice.ensures) in
    line_ran at old new c.args.names e _ (op.Begin wants) c.in-Begin.is
    (λ level stands. subst (λ (k : ℕ). LineRan at old new (operation.Begin (map (want_of c.args.names) wants)) level k e)
    (sym (add-one level))
    (subst (λ ws. LineRan at old new (operation.Begin ws) level (suc level) e) same (c.begin.ensures level)))

pub returns-in-Lock : goal.returns-in-Lock
returns-in-Lock g c =
    let at = g.M.LaneMem.at in
    let old = c.args.lane.now in
    inside_ran at old c.lock.new.lane c.args.names c.lock.result _ (op.Lock c.in-Lock.want) c.in-Lock.is
    refl (λ n. subst (λ w. LineRan at old c.lock.new.lane (operation.Lock w) (suc n) (suc n) c.lock.result)
    c.want_of.ensures (c.lock.ensures n))

pub returns-in-Add : goal.returns-in-Add
returns-in-Add g c =
    let at = g.M.LaneMem.at in
    let old = c.args.lane.now in
    inside_ran at old c.add.new.lane c.args.names c.add.result _ (op.Add c.in-Add.id c.in-Add.off c.in-Add.len)
    c.in-Add.is refl (λ n. subst (λ id. LineRan at old c.add.new.lane (operation.AddRange id c.in-Add.off c.in-Add.len)
    (suc n) (suc n) c.add.result) c.id_of.ensures (c.add.ensures n))

pub returns-in-Write : goal.returns-in-Write
returns-in-Write g c =
    let at = g.M.LaneMem.at in
    let old = c.args.lane.now in
    let new = c.write.new.lane in
    let e = c.write.result in
    let id = c.in-Write.id in
    let off = c.in-Write.off in
    inside_ran at old new c.args.names e _ (op.Write id off c.in-Write.put) c.in-Write.is refl
    (λ n. subst (λ bytes. LineRan at old new (operation.Write (id_of c.args.names id) off bytes) (suc n) (suc n) e)
    c.as_slice-in-Write.ensures
    (subst (λ i. LineRan at old new (operation.Write i off c.as_slice-in-Write.result.now) (suc n) (suc n) e)
    c.id_of-in-Write.ensures (c.write.ensures n)))

pub returns-in-Read : goal.returns-in-Read
returns-in-Read g c =
    let at = g.M.LaneMem.at in
    let old = c.args.lane.now in
    let new = c.read.new.lane in
    let e = c.read.result in
    let id = c.in-Read.id in
    let off = c.in-Read.off in
    let len : length c.args.room.bytes.items ≡ c.in-Read.len =
    c.args.room.fits.read ∙ ap bytes_read c.in-Read.is in
    inside_ran at old new c.args.names e _ (op.Read id off c.in-Read.len) c.in-Read.is refl
    (λ n. subst (λ (k : ℕ). LineRan at old new (operation.Read (id_of c.args.names id) off k) (suc n) (suc n) e) len
    (subst (λ i. LineRan at old new (operation.Read i off (length c.args.room.bytes.items)) (suc n) (suc n) e)
    c.id_of-in-Read.ensures (c.read.ensures n)))

pub returns-in-Increment : goal.returns-in-Increment
returns-in-Increment g c =
    let at = g.M.LaneMem.at in
    let old = c.args.lane.now in
    inside_ran at old c.increment.new.lane c.args.names c.increment.result _
    (op.Increment c.in-Increment.id c.in-Increment.off c.in-Increment.by)
    c.in-Increment.is refl (λ n. subst (λ id. LineRan at old c.increment.new.lane
    (operation.Increment id c.in-Increment.off c.in-Increment.by) (suc n) (suc n) c.increment.result)
    c.id_of-in-Increment.ensures (c.increment.ensures n))

pub returns-in-Commit : goal.returns-in-Commit
returns-in-Commit g c =
    let at = g.M.LaneMem.at in
    let old = c.args.lane.now in
    let new = c.commit.new.lane in
    let e = c.commit.result in
    inside_ran at old new c.args.names e _ op.Commit c.in-Commit.is refl
    (λ n. subst (λ (k : ℕ). LineRan at old new operation.Commit (suc n) k e) (level_less n)
    (c.commit.ensures n))

pub returns-in-Abort : goal.returns-in-Abort
returns-in-Abort g c =
    let at = g.M.LaneMem.at in
    let old = c.args.lane.now in
    let new = c.abort.new.lane in
    let e = c.abort.result in
    let errnum = c.in-Abort.errnum in
    inside_ran at old new c.args.names e _ (op.Abort errnum) c.in-Abort.is refl
    (λ n. subst (λ (k : ℕ). LineRan at old new (operation.Abort errnum) (suc n) k e) (level_less n)
    (c.abort.ensures n))
