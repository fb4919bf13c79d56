use Rattle.std.proofs.Common.{ℕ, ◌≤◌, length, refl, sym, arith}
use Rattle.solo_view.specs.View.{View}
use Rattle.solo_world.proofs.Resting.{first_view, sees_first}
use Rattle.solo_blocks.proofs.Starting.{begun_view, may_as, may_begin}
use Rattle.solo_blocks.proofs.tests.lane_over.Goals as goal

pub returns : goal.returns
returns c =
    let words = c.in_ok-words.words.items in
    let runs = c.in_ok-runs.runs.items in
    let zones = c.in_ok-zones.zones.items in
    let size = c.in_ok-words.ensures.length in
    let pages = c.in_ok-runs.ensures.length in
    let v : View = first_view words runs zones c.args.stop 7 1 1 in
    let sees = sees_first words runs zones c.args.stop 7 1 1 c.in_ok-opened.opened c.with_occupancy-memory.result c.in_ok-opened.ensures c.with_occupancy-memory.ensures (omega (arith, size, pages)) c.in_ok-zones.ensures.length in
    let zone_count = c.in_ok-zones.ensures.length in
    let some : 1 ≤ length {A = ℕ} zones = omega (arith, zone_count) in
    let n = c.number_seen.result in
    let w : View = begun_view words runs zones c.args.stop n c.in_ok-words.ensures.items some c.in_ok-runs.ensures.items in
    let may = may_begin words runs zones c.args.stop n c.in_ok-words.ensures.items some c.in_ok-runs.ensures.items c.in_ok-new.field-0 (sym c.in_ok-new.ensures.lanes) (sym c.in_ok-new.ensures.zones) in
    let seen = (c.new-3.ensures.fits w (c.number_seen.ensures.made v sees).0 refl may.search.shape refl refl refl).0 in
    record { view = w; sees = seen.memory; may = may_as w c.in_ok-new.field-0 c.new-3.result.shape may seen.shape }
