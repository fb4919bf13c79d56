use Rattle.std.specs.Option.{option_copied}
use Rattle.solo_view.specs.Steps.Step.{Draw, Tell}
use Rattle.solo_tx.proofs.Drawing.{may_draw, may_tell, told_and_drawn}
use Rattle.solo_tx.proofs.ending.end_call.Goals as goal

pub tell-requires : goal.tell-requires
tell-requires g c =
    let may = may_tell (g.M.LaneMem.at c.args.lane.now.memory) c.args.operation.now (option_copied c.args.reply) c.requires.ready in
    g.met.M.LawfulMem.meets c.args.lane.now.memory may.0 (Tell c.args.operation.now (option_copied c.args.reply)) may.1.0 may.1.1

pub draw_number-requires : goal.draw_number-requires
draw_number-requires g c = record {
  may = λ n.
      let may = may_draw (g.M.LaneMem.at c.args.lane.now.memory) c.args.operation.now (option_copied c.args.reply) c.requires.ready (g.M.LaneMem.at c.tell.new.self) c.tell.ensures n in
      g.met.M.LawfulMem.meets c.tell.new.self may.0 (Draw n) may.1.0 may.1.1;
}

pub returns-clause-made : goal.returns-clause-made
returns-clause-made g c =
    told_and_drawn (g.M.LaneMem.at c.args.lane.now.memory) (g.M.LaneMem.at c.tell.new.self) (g.M.LaneMem.at c.draw_number.new.lane.memory) c.args.operation.now (option_copied c.args.reply) c.draw_number.new.lane.last
    c.tell.ensures c.draw_number.ensures.made
