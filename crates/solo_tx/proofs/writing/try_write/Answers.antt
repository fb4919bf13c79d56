use Rattle.std.proofs.Common.{◌≡◌, Err, length, refl, rules}
use Rattle.pm_objects.specs.declared.calls.Operation.TheVariants.{Write}
use Rattle.solo_tx.proofs.Checked.{if_err, lock_end_or_record, looked_old, looked_so, of_err}
use Rattle.solo_tx.specs.Ranges.{CanWrite, HasWrittenRange, StopsUndrawn, writes_range}
use Rattle.solo_tx.proofs.writing.try_write.Goals as goal

pub returns-in_err-check_write-clause-refused : goal.returns-in_err-check_write-clause-refused
returns-in_err-check_write-clause-refused g c =
    if_err _ c.from_residual.result
    (λ r is stays o v work.
    let e : c.check_write.result ≡ Err r = search rules in
    lock_end_or_record o g.M.LaneMem.at c.check_write.new.lane v (Write c.args.id c.args.off c.args.bytes.now) (record { id = c.args.id; off = c.args.off; len = length c.args.bytes.now }) c.check_write.result r e refl
    (of_err _ c.check_write.result r e c.check_write.ensures.causes) (λ n. c.check_write.ensures.not_locked n o v work) (λ n. c.check_write.ensures.out_of_range n o v work) (λ n. c.check_write.ensures.not_added n o v work))

pub do_write-requires : goal.do_write-requires
do_write-requires g c =
    let r = c.requires.at_work in
    let t = c.in_ok-check_write.ensures.ok r.0 r.1.0 r.1.1 in
    record { may = (r.0, t.view, t.works, t.holds) }

pub returns-in-Err-clause-stops : goal.returns-in-Err-clause-stops
returns-in-Err-clause-stops g c e o v work =
    looked_so o g.M.LaneMem.at c.check_write.new.lane v (λ w. CanWrite w c.args.id c.args.off (length c.args.bytes.now)) (λ w. CanWrite w c.args.id c.args.off (length c.args.bytes.now) × StopsUndrawn (g.M.LaneMem.at c.do_write.new.lane.memory) w (writes_range c.args.id c.args.off c.args.bytes.now))
    (c.in_ok-check_write.ensures.ok o v work) (λ w works can. (can, c.in-Err.ensures.stops o w works can))

pub returns-in-Ok-clause-done : goal.returns-in-Ok-clause-done
returns-in-Ok-clause-done g c o v work old =
    looked_old o g.M.LaneMem.at c.check_write.new.lane v (λ w. CanWrite w c.args.id c.args.off (length c.args.bytes.now))
    (λ w. CanWrite w c.args.id c.args.off (length c.args.bytes.now) × HasWrittenRange o g.M.LaneMem.at c.do_write.new.lane w c.args.id c.args.off c.args.bytes.now) c.args.id.off (c.in_ok-check_write.ensures.ok o v work) old
    (λ w works still can. (can, c.in-Ok.ensures.done o w works still can))
