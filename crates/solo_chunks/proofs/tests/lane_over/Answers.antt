use Rattle.std.proofs.Common.{◌≡◌, ℕ, ◌<◌, ◌≤◌, ⊎_elim, List, replicate, slice_index, None, refl, sym, ap, ◌∙◌, arith}
use Rattle.std.proofs.lemmas.Bool.{cases_lt}
use Rattle.std.proofs.lemmas.List.{get_or-replicate, get_or_past, length-replicate}
use Rattle.solo_view.specs.Blocks.{descriptor_word, is_run}
use Rattle.solo_view.specs.View.{View}
use Rattle.solo_world.proofs.Resting.{first_view, sees_first}
use Rattle.solo_chunks.proofs.tests.lane_over.Goals as goal

pub returns : goal.returns
returns c =
    let words = c.in_ok-words.words.items in
    let runs = c.in_ok-runs.runs.items in
    let zones = c.in_ok-zones.zones.items in
    let size = c.in_ok-words.ensures.length in
    let pages = c.in_ok-runs.ensures.length in
    let lanes_are = c.in_ok-new.ensures.lanes in
    let zones_are = c.in_ok-new.ensures.zones in
    let v : View = first_view words runs zones None 7 1 1 in
    let sees = sees_first words runs zones None 7 1 1 c.in_ok-opened.opened c.with_occupancy-memory.result c.in_ok-opened.ensures c.with_occupancy-memory.ensures (omega (arith, size, pages)) c.in_ok-zones.ensures.length in
    let seen = (c.new-3.ensures.fits v sees refl (record { lanes = sym lanes_are; zones = sym zones_are; size = omega arith }) refl refl refl).0 in
    record { view = v; sees = seen.memory; may = record { shape = seen.shape; early = tt; unlocked = refl }; drained = refl; log = refl; alone = refl; no_run = λ page. ap is_run (zero (descriptor_word 1 page)) }
  where
    zeros : (n w : ℕ) → slice_index (replicate n 0) w ≡ 0
    zeros n w = ⊎_elim (λ (low : w < n). get_or-replicate n w 0 0 low) (λ (high : n ≤ w). get_or_past (replicate n 0) w 0 (let e = length-replicate {A = ℕ} n 0 in omega (arith, e, high))) (cases_lt w n)

    zero : (w : ℕ) → slice_index c.in_ok-words.words.items w ≡ 0
    zero w = ap (λ (ws : List ℕ). slice_index ws w) c.in_ok-words.ensures.items ∙ zeros 34816 w
