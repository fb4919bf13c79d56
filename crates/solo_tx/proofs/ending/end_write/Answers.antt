use Rattle.std.proofs.Common.{Some}
use Rattle.pm_objects.specs.declared.calls.Operation.TheVariants.{Write}
use Rattle.pm_objects.specs.declared.history.Value.TheVariants.{Refused}
use Rattle.solo_view.specs.Steps.Step.{Draw, Tell}
use Rattle.solo_tx.proofs.Drawing.{may_draw, may_tell, told_and_drawn}
use Rattle.solo_tx.proofs.ending.end_write.Goals as goal

pub tell_write-requires : goal.tell_write-requires
tell_write-requires g c =
    let operation = Write c.args.id c.args.off c.args.bytes.now in
    let may = may_tell (g.M.LaneMem.at c.args.lane.now.memory) operation (Some (Refused c.args.refusal)) c.requires.ready in
    g.met.M.LawfulMem.meets c.args.lane.now.memory may.0 (Tell operation (Some (Refused c.args.refusal))) may.1.0 may.1.1

pub draw_number-requires : goal.draw_number-requires
draw_number-requires g c = record {
  may = λ n.
      let may = may_draw (g.M.LaneMem.at c.args.lane.now.memory) (Write c.args.id c.args.off c.args.bytes.now) (Some (Refused c.args.refusal)) c.requires.ready (g.M.LaneMem.at c.tell_write.new.self) c.tell_write.ensures n in
      g.met.M.LawfulMem.meets c.tell_write.new.self may.0 (Draw n) may.1.0 may.1.1;
}

pub returns-clause-made : goal.returns-clause-made
returns-clause-made g c =
    told_and_drawn (g.M.LaneMem.at c.args.lane.now.memory) (g.M.LaneMem.at c.tell_write.new.self) (g.M.LaneMem.at c.draw_number.new.lane.memory) (Write c.args.id c.args.off c.args.bytes.now) (Some (Refused c.args.refusal)) c.draw_number.new.lane.last
    c.tell_write.ensures c.draw_number.ensures.made
