use Rattle.std.proofs.Common.{◌≡◌, None, Some, ap}
use Rattle.pm_objects.specs.declared.calls.Operation.TheVariants.{WriteReserved}
use Rattle.solo_world.specs.Tellings.{reply_of}
use Rattle.solo_world.specs.declared.lane.Lane.{Lane}
use Rattle.solo_tx.proofs.ToldBegun.{begun_ready_for_any}
use Rattle.solo_action.proofs.ToldOutside.{begun_unlocked, closed_at_once, drawn_so, ended, told_at_once, unharmed}
use Rattle.solo_action.proofs.BegunOn.{closed_unlocked}
use Rattle.solo_action.proofs.filling.end_put.Goals as goal

pub draw_put-requires : goal.draw_put-requires
draw_put-requires g c = let is = c.requires.begun in record { ready = begun_ready_for_any g.M.LaneMem.at c.args.lane.now is.0 is.1 (WriteReserved c.args.id c.args.off c.args.bytes.now) (reply_of c.args.refusal) }

pub come_to_rest-requires : goal.come_to_rest-requires
come_to_rest-requires g c =
    let is = c.requires.begun in
    let drawn = c.draw_put.new.lane in
    record { after = (_, ended g.M.LaneMem.at c.args.lane.now is.0 is.1 (WriteReserved c.args.id c.args.off c.args.bytes.now) (reply_of c.args.refusal) drawn (drawn_so c.args.lane.now drawn c.draw_put.ensures.else_same c.draw_put.ensures.drawn) c.draw_put.ensures.made (begun_unlocked g.M.LaneMem.at c.args.lane.now is.0 is.1 c.requires.free)) }

pub returns-clause-rests : goal.returns-clause-rests
returns-clause-rests g c v is =
    let drawn = c.draw_put.new.lane in
    let op = WriteReserved c.args.id c.args.off c.args.bytes.now in
    let reply = reply_of c.args.refusal in
    let fields : drawn ≡ record c.args.lane.now { memory = drawn.memory; drawn = Some drawn.last; last = drawn.last } = drawn_so c.args.lane.now drawn c.draw_put.ensures.else_same c.draw_put.ensures.drawn in
    closed_unlocked g.M.LaneMem.at c.come_to_rest.new.lane _ c.args.lane.now.locks.items c.requires.free
    (closed_at_once g.M.LaneMem.at c.args.lane.now v is op reply drawn fields c.draw_put.ensures.made c.come_to_rest.new.lane
    (c.come_to_rest.ensures.closed _ (ended g.M.LaneMem.at c.args.lane.now v is op reply drawn fields c.draw_put.ensures.made (begun_unlocked g.M.LaneMem.at c.args.lane.now v is c.requires.free))
    (unharmed g.M.LaneMem.at c.args.lane.now v is op reply drawn fields c.draw_put.ensures.made))
    (ap (λ (l : Lane g.row.M.Denot). l.last) {y = record drawn { memory = c.come_to_rest.new.lane.memory; locks = c.come_to_rest.new.lane.locks; drawn = None }} c.come_to_rest.ensures.lane))

pub returns-clause-told : goal.returns-clause-told
returns-clause-told g c v is has_ended =
    let drawn = c.draw_put.new.lane in
    let op = WriteReserved c.args.id c.args.off c.args.bytes.now in
    let reply = reply_of c.args.refusal in
    let fields : drawn ≡ record c.args.lane.now { memory = drawn.memory; drawn = Some drawn.last; last = drawn.last } = drawn_so c.args.lane.now drawn c.draw_put.ensures.else_same c.draw_put.ensures.drawn in
    told_at_once g.M.LaneMem.at c.args.lane.now v is op reply drawn fields c.draw_put.ensures.made has_ended c.come_to_rest.new.lane
    (c.come_to_rest.ensures.closed _ (ended g.M.LaneMem.at c.args.lane.now v is op reply drawn fields c.draw_put.ensures.made (begun_unlocked g.M.LaneMem.at c.args.lane.now v is c.requires.free))
    (unharmed g.M.LaneMem.at c.args.lane.now v is op reply drawn fields c.draw_put.ensures.made))
    (ap (λ (l : Lane g.row.M.Denot). l.last) {y = record drawn { memory = c.come_to_rest.new.lane.memory; locks = c.come_to_rest.new.lane.locks; drawn = None }} c.come_to_rest.ensures.lane)
