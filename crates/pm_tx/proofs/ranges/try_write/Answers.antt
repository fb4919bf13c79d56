use Rattle.pm_objects.specs.declared.calls.Operation.TheVariants.{Write}
use Rattle.pm_call.specs.Writing.{MayPut}
use Rattle.pm_call.proofs.Calls.{checked_so}
use Rattle.pm_tx.proofs.ranges.try_write.Goals as goal

pub do_write-requires : goal.do_write-requires
do_write-requires g c =
    checked_so g.M.LaneMem.at c.args.lane.now c.check_write.new.lane c.check_write.new.lane (Write c.args.id c.args.off c.args.bytes.now) (λ s (done : Unit {0}). MayPut s c.args.id c.args.off c.args.bytes.now) tt c.requires c.in-Ok.ensures
