use Rattle.std.proofs.Common.{None, refl}
use Rattle.pm_objects.specs.declared.calls.Operation.TheVariants.{AddRange}
use Rattle.solo_view.specs.Steps.Step.{Tell}
use Rattle.solo_tx.proofs.Telling.{runs_made}
use Rattle.solo_transaction.proofs.NewAdds.{new_add_is_made}
use Rattle.solo_transaction.specs.NewRanges.{adds_new}
use Rattle.solo_transaction.proofs.new_ranges.do_add_new.Goals as goal

pub returns-clause-made : goal.returns-clause-made
unfolding adds_new
returns-clause-made g c = runs_made (g.M.LaneMem.at c.args.lane.now.memory) (g.M.LaneMem.at c.tell.new.self) (Tell (AddRange c.args.id c.args.off c.args.len) None) c.tell.ensures

pub returns-clause-done : goal.returns-clause-done
returns-clause-done g c o blocks v all range =
    new_add_is_made o g.M.LaneMem.at c.args.lane.now blocks v all c.args.id c.args.off c.args.len range _
    (record { pool = refl; shape = refl; locks = refl; entries = refl; level = refl; stage = refl; error = refl; drawn = refl; last = refl; stopped = refl }) refl (c.tell.ensures v all.work.seen.memory).0
