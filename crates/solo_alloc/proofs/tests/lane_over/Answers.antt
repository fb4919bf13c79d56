use Rattle.std.proofs.Common.{ℕ, ◌≤◌, length, refl, sym, arith}
use Rattle.std.proofs.lemmas.Bool.{false≢true}
use Rattle.std.proofs.lemmas.List.Elements.{All-nil}
use Rattle.solo_view.specs.View.{Taken, View}
use Rattle.solo_world.specs.Heap.{IsOcc}
use Rattle.solo_world.proofs.Resting.{first_view, sees_first}
use Rattle.solo_blocks.proofs.Starting.{begun_view, may_as, may_begin}
use Rattle.solo_alloc.proofs.tests.lane_over.Goals as goal

pub returns : goal.returns
returns c =
    let words = c.in_ok-words.words.items in
    let runs = c.in_ok-runs.runs.items in
    let zones = c.in_ok-zones.zones.items in
    let size = c.in_ok-words.ensures.length in
    let pages = c.in_ok-runs.ensures.length in
    let v : View = first_view words runs zones c.args.stop 7 1 1 in
    let sees = sees_first words runs zones c.args.stop 7 1 1 c.in_ok-opened.opened c.with_occupancy-memory.result c.in_ok-opened.ensures c.with_occupancy-memory.ensures (omega (arith, size, pages)) c.in_ok-zones.ensures.length in
    let zone_count = c.in_ok-zones.ensures.length in
    let some : 1 ≤ length {A = ℕ} zones = omega (arith, zone_count) in
    let n = c.number_seen.result in
    let w : View = begun_view words runs zones c.args.stop n c.in_ok-words.ensures.items some c.in_ok-runs.ensures.items in
    let may = may_begin words runs zones c.args.stop n c.in_ok-words.ensures.items some c.in_ok-runs.ensures.items c.in_ok-new.field-0 (sym c.in_ok-new.ensures.lanes) (sym c.in_ok-new.ensures.zones) in
    let seen = (c.new-3.ensures.fits w (c.number_seen.ensures.made v sees).0 refl may.search.shape refl refl refl).0 in
    record {
      view = w;
      sees = seen.memory;
      can = record {
        run = may_as w c.in_ok-new.field-0 c.new-3.result.shape may seen.shape;
        pool = record {
          lane = omega arith;
          size = omega (arith, size);
          of_pool = All-nil (λ (t : Taken). IsOcc w.lanes w.zones t.at);
          no_bitmap = λ u there plain start. absurd (false≢true there);
        };
        pictured = record { runs = omega (arith, pages); taken = λ o bit has. absurd (false≢true has) };
      };
    }
