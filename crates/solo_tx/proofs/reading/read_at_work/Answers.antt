use Rattle.std.proofs.Common.{ap, refl, length}
use Rattle.pm_objects.specs.declared.calls.Operation.TheVariants.{Read}
use Rattle.solo_world.specs.declared.lane.Lane.{Lane}
use Rattle.solo_tx.proofs.Refused.{given_up_for, still_at_work, not_stopped, stopped_for}
use Rattle.solo_tx.proofs.reading.read_at_work.Goals as goal

pub refuse-requires : goal.refuse-requires
refuse-requires g c = record {
  at_work = λ stays.
      still_at_work g.M.LaneMem.at c.args.lane.now c.try_read.new.lane c.try_read.new.lane (Read c.args.id c.args.off (length c.args.into.now)) (record { id = c.args.id; off = c.args.off; len = length c.args.into.now }) refl c.in-Err.why c.in-Err.why c.requires.at_work (λ stays. c.in-Err.ensures.refused) stays;
}

pub returns-in-Err-clause-given_up : goal.returns-in-Err-clause-given_up
returns-in-Err-clause-given_up g c stays o v work =
    given_up_for g.M.LaneMem.at c.args.lane.now c.try_read.new.lane c.refuse.new.lane (Read c.args.id c.args.off (length c.args.into.now)) (record { id = c.args.id; off = c.args.off; len = length c.args.into.now }) refl c.in-Err.why c.refuse.result (λ stays. c.in-Err.ensures.refused) (λ stays. ap (λ (lane : Lane g.row.M.Denot). lane.records.items) c.try_read.ensures.else_same)
    (λ e. (c.refuse.ensures.at_once e).0, c.refuse.ensures.answer) c.refuse.ensures.ended stays o v work

pub returns-in-Err-clause-stopped : goal.returns-in-Err-clause-stopped
returns-in-Err-clause-stopped g c stopped o v work =
    stopped_for g.M.LaneMem.at c.args.lane.now c.try_read.new.lane c.refuse.new.lane (Read c.args.id c.args.off (length c.args.into.now)) (record { id = c.args.id; off = c.args.off; len = length c.args.into.now }) refl c.in-Err.why c.refuse.result (λ stays. c.in-Err.ensures.refused) (λ stays. ap (λ (lane : Lane g.row.M.Denot). lane.records.items) c.try_read.ensures.else_same)
    (λ e. (c.refuse.ensures.at_once e).0, c.refuse.ensures.answer) c.refuse.ensures.stops (not_stopped c.in-Err.why c.in-Err.ensures.causes) stopped o v work
