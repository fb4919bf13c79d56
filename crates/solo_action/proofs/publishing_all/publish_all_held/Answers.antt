use Rattle.std.proofs.Common.{ap, refl}
use Rattle.solo_world.specs.declared.lane.Lane.{Lane}
use Rattle.solo_action.proofs.PublishedAll.{may_log_listed, published_all, seen, stopped_publishing_all}
use Rattle.solo_action.proofs.publishing_all.publish_all_held.Goals as goal

pub publish_listed-requires : goal.publish_listed-requires
publish_listed-requires g c =
    let r = c.requires.may in
    let h = r.1.1.0 in
    let lists = c.list_all.ensures.lists r.0 r.1.0 h in
    let may = r.1.1.1 c.list_all.new.blocks lists in
    record {
      may = (
        r.1.0,
        (
          (seen h lists may c.requires.some c.list_all.new.lane c.list_all.ensures.else_same c.list_all.ensures.listed).memory,
          may_log_listed h lists may c.requires.some c.list_all.new.lane c.list_all.ensures.else_same c.list_all.ensures.listed,
        ),
      );
    }

pub returns-in-Ok-clause-done : goal.returns-in-Ok-clause-done
returns-in-Ok-clause-done g c o v h enters =
    let lists = c.list_all.ensures.lists o v h in
    published_all h lists (enters c.list_all.new.blocks lists) c.requires.some c.list_all.new.lane c.list_all.ensures.else_same c.list_all.ensures.listed _ c.in-Ok.ensures.ran
    (ap (λ (lane : Lane g.row.M.Denot). lane.locks.items) c.in-Ok.ensures.else_same) c.in-Ok.ensures.none c.in-Ok.ensures.unlisted c.in-Ok.ensures.drawn
    (record { pool = ap (λ (lane : Lane g.row.M.Denot). lane.pool) c.in-Ok.ensures.else_same; shape = ap (λ (lane : Lane g.row.M.Denot). lane.shape) c.in-Ok.ensures.else_same })
    (ap (λ (lane : Lane g.row.M.Denot). lane.stopped) c.in-Ok.ensures.else_same)

pub returns-in-Err-clause-stops : goal.returns-in-Err-clause-stops
returns-in-Err-clause-stops g c o v h enters =
    let lists = c.list_all.ensures.lists o v h in
    stopped_publishing_all h lists (enters c.list_all.new.blocks lists) c.requires.some c.list_all.new.lane c.list_all.ensures.else_same c.list_all.ensures.listed _ c.in-Err.ensures.stops refl
