use Rattle.std.proofs.Common.{ap}
use Rattle.solo_world.specs.declared.lane.Lane.{Lane}
use Rattle.pm_objects.specs.declared.calls.Operation.TheVariants.{WriteReserved}
use Rattle.solo_transaction.specs.Filling.{puts_range}
use Rattle.solo_transaction.proofs.NewStops.{stopped_in_steps}
use Rattle.solo_transaction.proofs.filling.put_or_stop.Goals as goal

pub do_put-requires : goal.do_put-requires
do_put-requires g c = record { may = c.requires.may }

pub returns-in-Err-clause-stops : goal.returns-in-Err-clause-stops
returns-in-Err-clause-stops g c o blocks v all range =
    stopped_in_steps o g.M.LaneMem.at c.args.lane.now c.do_put.new.lane v all.work (ap (λ (lane : Lane g.row.M.Denot). lane.drawn) c.do_put.ensures.else_same) (WriteReserved c.args.id c.args.off c.args.bytes.now)
    (puts_range c.args.id c.args.off c.args.bytes.now) (c.in-Err.ensures.stops o blocks v all range)
