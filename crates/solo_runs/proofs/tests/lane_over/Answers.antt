use Rattle.std.proofs.Common.{None, refl, sym, arith}
use Rattle.solo_view.specs.View.{View}
use Rattle.solo_world.proofs.Resting.{first_view, sees_first}
use Rattle.solo_runs.proofs.tests.lane_over.Goals as goal

pub returns : goal.returns
returns c =
    let words = c.in_ok-words.words.items in
    let runs = c.in_ok-runs.runs.items in
    let zones = c.in_ok-zones.zones.items in
    let size = c.in_ok-words.ensures in
    let pages = c.in_ok-runs.ensures in
    let lanes_are = c.in_ok-new.ensures.lanes in
    let zones_are = c.in_ok-new.ensures.zones in
    let v : View = first_view words runs zones None 7 1 1 in
    let sees = sees_first words runs zones None 7 1 1 c.in_ok-opened.opened c.with_occupancy-memory.result c.in_ok-opened.ensures c.with_occupancy-memory.ensures (omega (arith, size, pages)) c.in_ok-zones.ensures in
    let seen = (c.new-3.ensures.fits v sees refl (record { lanes = sym lanes_are; zones = sym zones_are; size = omega arith }) refl refl refl).0 in
    record { view = v; sees = seen.memory; may = record { of_shape = seen.shape; early = tt }; drained = refl; log = refl }
