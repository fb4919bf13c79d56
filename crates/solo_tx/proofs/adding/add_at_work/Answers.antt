use Rattle.std.proofs.Common.{◌∙◌, Err, ap, refl}
use Rattle.pm_objects.specs.declared.calls.Operation.TheVariants.{AddRange}
use Rattle.solo_tx.specs.Ranges.{CanAdd, adds_range}
use Rattle.solo_world.specs.declared.lane.Lane.{Lane}
use Rattle.solo_tx.proofs.Refused.{given_up_for, still_at_work, stopped_at}
use Rattle.solo_tx.proofs.adding.add_at_work.Goals as goal

pub refuse-requires : goal.refuse-requires
refuse-requires g c = record {
  at_work = λ stays.
      still_at_work g.M.LaneMem.at c.args.lane.now c.try_add.new.lane c.try_add.new.lane (AddRange c.args.id c.args.off c.args.len) (record { id = c.args.id; off = c.args.off; len = c.args.len }) refl c.in-Err.why c.in-Err.why c.requires.at_work c.in-Err.ensures.refused stays;
}

pub returns-in-Err-clause-given_up : goal.returns-in-Err-clause-given_up
returns-in-Err-clause-given_up g c stays o v work =
    given_up_for g.M.LaneMem.at c.args.lane.now c.try_add.new.lane c.refuse.new.lane (AddRange c.args.id c.args.off c.args.len) (record { id = c.args.id; off = c.args.off; len = c.args.len }) refl c.in-Err.why c.refuse.result c.in-Err.ensures.refused (λ stays. ap (λ rs. rs.items) (c.in-Err.ensures.kept stays))
    (λ e. (c.refuse.ensures.at_once e).0, c.refuse.ensures.answer) c.refuse.ensures.ended stays o v work

pub returns-in-Err-clause-stopped : goal.returns-in-Err-clause-stopped
returns-in-Err-clause-stopped g c stopped o v work =
    let old = c.args.lane.now in
    let mid = c.try_add.new.lane in
    let new = c.refuse.new.lane in
    stopped_at g.M.LaneMem.at old mid new (AddRange c.args.id c.args.off c.args.len) (record { id = c.args.id; off = c.args.off; len = c.args.len }) refl c.in-Err.why c.refuse.result c.in-Err.ensures.refused (λ stays. ap (λ rs. rs.items) (c.in-Err.ensures.kept stays))
    (λ e. (c.refuse.ensures.at_once e).0, c.refuse.ensures.answer) (λ w. CanAdd w c.args.id c.args.off c.args.len) (adds_range c.args.lane.now.records.items c.args.id c.args.off c.args.len)
    (λ e. c.try_add.ensures.stops (c.in-Err.is ∙ ap Err e)) (λ e. (c.refuse.ensures.at_once e).1) (ap (λ (lane : Lane g.row.M.Denot). lane.drawn) c.try_add.ensures.else_same)
    c.refuse.ensures.stops stopped o v work
