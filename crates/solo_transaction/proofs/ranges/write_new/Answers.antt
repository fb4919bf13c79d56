use Rattle.std.proofs.Common.{ap}
use Rattle.solo_world.specs.declared.lane.Lane.{Lane}
use Rattle.pm_objects.specs.declared.calls.Operation.TheVariants.{Write}
use Rattle.solo_tx.specs.Ranges.{writes_range}
use Rattle.solo_transaction.proofs.NewStops.{stopped_in_steps}
use Rattle.solo_transaction.proofs.ranges.write_new.Goals as goal

pub do_write_new-requires : goal.do_write_new-requires
do_write_new-requires g c = record { may = c.requires.may }

pub returns-in-Err-clause-stops : goal.returns-in-Err-clause-stops
returns-in-Err-clause-stops g c o blocks v all range =
    stopped_in_steps o g.M.LaneMem.at c.args.lane.now c.do_write_new.new.lane v all.work (ap (λ (lane : Lane g.row.M.Denot). lane.drawn) c.do_write_new.ensures.else_same) (Write c.args.id c.args.off c.args.bytes.now)
    (writes_range c.args.id c.args.off c.args.bytes.now) (c.in-Err.ensures.stops o blocks v all range)
