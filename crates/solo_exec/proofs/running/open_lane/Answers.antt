use Rattle.std.proofs.Common.{refl, rules}
use Rattle.solo_memory.specs.Solo.{Solo}
use Rattle.solo_world.specs.declared.lane.Lane.{Lane}
use Rattle.solo_exec.specs.Openings.{first_view}
use Rattle.solo_exec.proofs.FirstLane.{begun_long, is_start, occupied_so, seen_first, shaped_first}
use Rattle.solo_exec.proofs.running.open_lane.Goals as goal

pub returns : goal.returns
returns c =
    let pool = c.args.pool.now in
    let image = c.args.image.now in
    let first = first_view pool image c.args.stop in
    let size = begun_long pool image c.args.stop c.requires.begins in
    let made : Lane Solo = c.new-lane.result in
    let is = occupied_so pool c.in_ok-words.words.items c.deref.result.now c.args.stop c.in-Ok.shape.lanes c.in-Ok.shape.zones c.in_ok-memory.memory c.with_occupancy-memory.result
    c.in_ok-occupancy.occupancy.runs.items c.in_ok-occupancy.occupancy.zones.items c.deref.ensures.value c.in-Ok.ensures.lanes c.in-Ok.ensures.zones c.in_ok-memory.ensures c.in_ok-occupancy.ensures.runs c.in_ok-occupancy.ensures.zones c.with_occupancy-memory.ensures in
    let sees = seen_first pool image c.in_ok-words.words.items c.args.stop c.with_occupancy-memory.result size (search rules) is in
    let s = c.new-lane.ensures.fits first sees refl (shaped_first pool image c.args.stop c.in-Ok.shape size c.in-Ok.ensures.lanes c.in-Ok.ensures.zones) refl refl refl in
    record { of_shape = s.0.shape; starts = is_start pool image c.args.stop made c.requires.begins s.0 s.1 c.new-lane.ensures.unharmed c.new-lane.ensures.unentered }
