use Rattle.pm_objects.specs.declared.calls.Operation.TheVariants.{WriteReserved}
use Rattle.solo_view.specs.Steps.Step.{Draw, Tell}
use Rattle.solo_world.specs.Tellings.{reply_of}
use Rattle.solo_tx.proofs.Drawing.{may_draw, may_tell, told_and_drawn}
use Rattle.solo_action.proofs.filling.draw_put.Goals as goal

pub tell_put-requires : goal.tell_put-requires
tell_put-requires g c =
    let operation = WriteReserved c.args.id c.args.off c.args.bytes.now in
    let may = may_tell (g.M.LaneMem.at c.args.lane.now.memory) operation (reply_of c.args.refusal) c.requires.ready in
    g.met.M.LawfulMem.meets c.args.lane.now.memory may.0 (Tell operation (reply_of c.args.refusal)) may.1.0 may.1.1

pub draw_number-requires : goal.draw_number-requires
draw_number-requires g c = record {
  may = λ n.
      let may = may_draw (g.M.LaneMem.at c.args.lane.now.memory) (WriteReserved c.args.id c.args.off c.args.bytes.now) (reply_of c.args.refusal) c.requires.ready (g.M.LaneMem.at c.tell_put.new.self) c.tell_put.ensures n in
      g.met.M.LawfulMem.meets c.tell_put.new.self may.0 (Draw n) may.1.0 may.1.1;
}

pub returns-clause-made : goal.returns-clause-made
returns-clause-made g c =
    told_and_drawn (g.M.LaneMem.at c.args.lane.now.memory) (g.M.LaneMem.at c.tell_put.new.self) (g.M.LaneMem.at c.draw_number.new.lane.memory) (WriteReserved c.args.id c.args.off c.args.bytes.now) (reply_of c.args.refusal) c.draw_number.new.lane.last
    c.tell_put.ensures c.draw_number.ensures.made
