use Rattle.std.specs.Option.{option_map}
use Rattle.pm_world.specs.Lent.{operation_of, tells, value_of}
use Rattle.pm_call.proofs.RollbackLanes.{end_draw, end_made, end_tell}
use Rattle.pm_call.proofs.rollback.end_call.Goals as goal

pub tell-requires : goal.tell-requires
tell-requires g c =
    let m = end_tell g.M.LaneMem.may g.met.M.LawfulMem.grants (g.M.LaneMem.at c.args.lane.now.memory) (operation_of c.args.told) (option_map value_of c.args.reply) c.requires in
    g.met.M.LawfulMem.meets c.args.lane.now.memory m.0 (tells c.args.told c.args.reply) m.1 m.2

pub draw_number-requires : goal.draw_number-requires
draw_number-requires g c = record {
  may = end_draw g.M.LaneMem.may g.met.M.LawfulMem.grants (g.M.LaneMem.at c.args.lane.now.memory) (operation_of c.args.told) (option_map value_of c.args.reply) (g.M.LaneMem.at c.tell.new.self) c.requires c.tell.ensures;
}

pub returns-clause-made : goal.returns-clause-made
returns-clause-made g c = end_made g.M.LaneMem.may g.met.M.LawfulMem.grants (g.M.LaneMem.at c.args.lane.now.memory) (operation_of c.args.told) (option_map value_of c.args.reply) (g.M.LaneMem.at c.tell.new.self) (g.M.LaneMem.at c.draw_number.new.lane.memory) c.draw_number.result
    c.tell.ensures c.draw_number.ensures.made
