use Rattle.std.proofs.Common.{◌≡◌, None, Some, ap}
use Rattle.std.specs.Option.{option_copied}
use Rattle.solo_world.specs.declared.lane.Lane.{Lane}
use Rattle.solo_tx.proofs.ToldBegun.{begun_ready_for_any}
use Rattle.solo_action.proofs.ToldOutside.{closed_at_once, drawn_so, ended, told_at_once, unharmed}
use Rattle.solo_action.proofs.telling.end_outside.Goals as goal

pub end_call-requires : goal.end_call-requires
end_call-requires g c = let is = c.requires.begun in record { ready = begun_ready_for_any g.M.LaneMem.at c.args.lane.now is.0 is.1.0 c.args.operation.now (option_copied c.args.reply) }

pub come_to_rest-requires : goal.come_to_rest-requires
come_to_rest-requires g c =
    let is = c.requires.begun in
    let drawn = c.end_call.new.lane in
    record { after = (_, ended g.M.LaneMem.at c.args.lane.now is.0 is.1.0 c.args.operation.now (option_copied c.args.reply) drawn (drawn_so c.args.lane.now drawn c.end_call.ensures.else_same c.end_call.ensures.drawn) c.end_call.ensures.made is.1.1) }

pub returns-clause-closed : goal.returns-clause-closed
returns-clause-closed g c v is apart =
    let drawn = c.end_call.new.lane in
    let reply = option_copied c.args.reply in
    let fields : drawn ≡ record c.args.lane.now { memory = drawn.memory; drawn = Some drawn.last; last = drawn.last } = drawn_so c.args.lane.now drawn c.end_call.ensures.else_same c.end_call.ensures.drawn in
    closed_at_once g.M.LaneMem.at c.args.lane.now v is c.args.operation.now reply drawn fields c.end_call.ensures.made c.come_to_rest.new.lane
    (c.come_to_rest.ensures.closed _ (ended g.M.LaneMem.at c.args.lane.now v is c.args.operation.now reply drawn fields c.end_call.ensures.made apart)
    (unharmed g.M.LaneMem.at c.args.lane.now v is c.args.operation.now reply drawn fields c.end_call.ensures.made))
    (ap (λ (l : Lane g.row.M.Denot). l.last) {y = record drawn { memory = c.come_to_rest.new.lane.memory; locks = c.come_to_rest.new.lane.locks; drawn = None }} c.come_to_rest.ensures.lane)

pub returns-clause-told : goal.returns-clause-told
returns-clause-told g c v is apart has_ended =
    let drawn = c.end_call.new.lane in
    let reply = option_copied c.args.reply in
    let fields : drawn ≡ record c.args.lane.now { memory = drawn.memory; drawn = Some drawn.last; last = drawn.last } = drawn_so c.args.lane.now drawn c.end_call.ensures.else_same c.end_call.ensures.drawn in
    told_at_once g.M.LaneMem.at c.args.lane.now v is c.args.operation.now reply drawn fields c.end_call.ensures.made has_ended c.come_to_rest.new.lane
    (c.come_to_rest.ensures.closed _ (ended g.M.LaneMem.at c.args.lane.now v is c.args.operation.now reply drawn fields c.end_call.ensures.made apart)
    (unharmed g.M.LaneMem.at c.args.lane.now v is c.args.operation.now reply drawn fields c.end_call.ensures.made))
    (ap (λ (l : Lane g.row.M.Denot). l.last) {y = record drawn { memory = c.come_to_rest.new.lane.memory; locks = c.come_to_rest.new.lane.locks; drawn = None }} c.come_to_rest.ensures.lane)
