use Rattle.std.proofs.Common.{rules, ◌≡◌, bit_or, List, ℕ, None, length-set, set, slice_index, ap, ◌∙◌, subst, arith}
use Rattle.std.proofs.lemmas.List.Elements.{All-nil}
use Rattle.solo_reclaim.specs.KeptBlocks.{Keeps}
use Rattle.solo_memory.specs.Solo.{Solo}
use Rattle.solo_view.specs.Occupancy.{IsOccupancy}
use Rattle.solo_world.proofs.Resting.{sees_first}
use Rattle.solo_reclaim.proofs.Resting.{freed_view, may_reclaim_freed, sees_freed}
use Rattle.solo_reclaim.proofs.tests.lane_that_freed.Goals as goal

pub with_chunks-more-requires : goal.with_chunks-more-requires
with_chunks-more-requires c = let count = c.in_ok-runs.ensures.occupied.zone_count in omega (arith, count)

pub returns : goal.returns
returns c =
    let words = c.args.words.items in
    let runs = c.in_ok-runs.field-0.runs.items in
    let zones = c.in_ok-runs.field-0.zones.items in
    let shape = c.args.shape in
    let is : IsOccupancy runs zones (slice_index words) shape.lanes shape.zones = subst (λ (ws : List ℕ). IsOccupancy runs zones (slice_index ws) shape.lanes shape.zones) c.deref.ensures.value c.in_ok-runs.ensures.occupied in
    let small = c.with_chunks-more.ensures.fits in
    let size = c.requires in
    let pages = is.pages in
    let more : List ℕ = set zones 0 (bit_or (slice_index zones 0) c.args.freed) in
    let made : c.with_occupancy.result ≡ record c.in_ok-opened.opened { runs = runs; zones = more } =
    c.with_occupancy.ensures ∙ ap (λ (zs : List ℕ). let m : Solo = record c.in_ok-opened.opened { runs = runs; zones = zs } in m) c.with_chunks-more.ensures.items in
    let sees = sees_first words runs more None 7 shape.lanes shape.zones c.in_ok-opened.opened c.with_occupancy.result c.in_ok-opened.ensures made (omega (arith, size, pages)) (length-set zones 0 (bit_or (slice_index zones 0) c.args.freed) ∙ is.zone_count) in
    record {
      view = freed_view words runs zones 7 shape c.args.freed (search rules) small is;
      sees = sees_freed words runs zones 7 shape c.args.freed (search rules) small is c.with_occupancy.result sees;
      may = may_reclaim_freed words runs zones 7 shape c.args.freed (search rules) small is size;
      keeps = All-nil (Keeps (freed_view words runs zones 7 shape c.args.freed (search rules) small is));
    }
