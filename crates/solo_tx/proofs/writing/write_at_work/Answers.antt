use Rattle.std.proofs.Common.{◌∙◌, Err, ap, refl, length}
use Rattle.pm_objects.specs.declared.calls.Operation.TheVariants.{Write}
use Rattle.solo_tx.specs.Ranges.{CanWrite, writes_range}
use Rattle.solo_world.specs.declared.lane.Lane.{Lane}
use Rattle.solo_tx.proofs.Refused.{given_up_for, still_at_work, stopped_at}
use Rattle.solo_tx.proofs.writing.write_at_work.Goals as goal

pub refuse_write-requires : goal.refuse_write-requires
refuse_write-requires g c = record {
  at_work = λ stays.
      still_at_work g.M.LaneMem.at c.args.lane.now c.try_write.new.lane c.try_write.new.lane (Write c.args.id c.args.off c.args.bytes.now) (record { id = c.args.id; off = c.args.off; len = length c.args.bytes.now }) refl c.in-Err.why c.in-Err.why c.requires.at_work c.in-Err.ensures.refused stays;
}

pub returns-in-Err-clause-given_up : goal.returns-in-Err-clause-given_up
returns-in-Err-clause-given_up g c stays o v work =
    given_up_for g.M.LaneMem.at c.args.lane.now c.try_write.new.lane c.refuse_write.new.lane (Write c.args.id c.args.off c.args.bytes.now) (record { id = c.args.id; off = c.args.off; len = length c.args.bytes.now }) refl c.in-Err.why c.refuse_write.result c.in-Err.ensures.refused (λ stays. ap (λ (lane : Lane g.row.M.Denot). lane.records.items) c.try_write.ensures.else_same)
    (λ e. (c.refuse_write.ensures.at_once e).0, c.refuse_write.ensures.answer) c.refuse_write.ensures.ended stays o v work

pub returns-in-Err-clause-stopped : goal.returns-in-Err-clause-stopped
returns-in-Err-clause-stopped g c stopped o v work =
    let old = c.args.lane.now in
    let mid = c.try_write.new.lane in
    let new = c.refuse_write.new.lane in
    stopped_at g.M.LaneMem.at old mid new (Write c.args.id c.args.off c.args.bytes.now) (record { id = c.args.id; off = c.args.off; len = length c.args.bytes.now }) refl c.in-Err.why c.refuse_write.result c.in-Err.ensures.refused (λ stays. ap (λ (lane : Lane g.row.M.Denot). lane.records.items) c.try_write.ensures.else_same)
    (λ e. (c.refuse_write.ensures.at_once e).0, c.refuse_write.ensures.answer) (λ w. CanWrite w c.args.id c.args.off (length c.args.bytes.now)) (writes_range c.args.id c.args.off c.args.bytes.now)
    (λ e. c.try_write.ensures.stops (c.in-Err.is ∙ ap Err e)) (λ e. (c.refuse_write.ensures.at_once e).1) (ap (λ (lane : Lane g.row.M.Denot). lane.drawn) c.try_write.ensures.else_same)
    c.refuse_write.ensures.stops stopped o v work
