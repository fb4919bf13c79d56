use Rattle.std.proofs.Common.{◌<◌, None, arith, refl, subst, sym, ◌∙◌, ap}
use Rattle.solo_memory.specs.Solo.{Solo}
use Rattle.solo_view.specs.View.{View}
use Rattle.solo_world.proofs.Resting.{first_view, sees_first}
use Rattle.solo_world.specs.Lawful.{generation_limit}
use Rattle.solo_lock.proofs.Starting.{begins, begun_view}
use Rattle.solo_lock.proofs.tests.begun_lane.Goals as goal

pub returns : goal.returns
returns c =
    let words = c.in_ok-words.words.items in
    let runs = c.in_ok-runs.runs.items in
    let zones = c.in_ok-zones.zones.items in
    let size = c.in_ok-words.ensures.length in
    let pages = c.in_ok-runs.ensures in
    let lanes_are = c.in_ok-new.ensures.lanes in
    let zones_are = c.in_ok-new.ensures.zones in
    let n = c.number_seen.result in
    let v : View = first_view words runs zones None 7 1 1 in
    let w : View = begun_view words runs zones n size c.in_ok-words.ensures.generation in
    let sees = sees_first words runs zones None 7 1 1 c.in_ok-opened.opened c.with_occupancy-memory.result c.in_ok-opened.ensures c.with_occupancy-memory.ensures (omega (arith, size, pages)) c.in_ok-zones.ensures in
    let fits = c.new-3.ensures.fits w (c.number_seen.ensures.made v sees).0 refl (record { lanes = sym lanes_are; zones = sym zones_are; size = omega (arith, size, lanes_are, zones_are) }) refl refl refl in
    let drawn = c.number_seen.ensures.drawn ∙ (ap (λ (m : Solo). m.number) c.with_occupancy-memory.ensures ∙ ap (λ (m : Solo). m.number) c.in_ok-opened.ensures) in
    begins words runs zones n size c.in_ok-words.ensures.generation c.new-3.result fits.0 fits.1 c.new-3.ensures.unharmed c.new-3.ensures.unentered (subst (λ k. k < generation_limit) (sym drawn) (omega arith))
