-- The block of an object for which a lane that works alone reserved it lies whole in chunks: so no descriptor changes where bytes are written into what is reserved.
use Rattle.std.proofs.Common.{◌≡◌, ⊎_elim, inl, inr, ℕ, ◌+◌, ◌*◌, ◌/◌, ◌<◌, ◌≤◌, false, List, ap, arith}
use Rattle.std.specs.List.{All}
use Rattle.std.proofs.lemmas.Bool.{cases_lt, false_from_ne_true}
use Rattle.std.proofs.lemmas.List.Elements.{All-contains}
use Rattle.pm_header.specs.declared.header.Header.{Header}
use Rattle.pm_image.specs.declared.block.Block.{Block}
use Rattle.pm_image.specs.Blocks.{descriptor_word}
use Rattle.pm_image.proofs.Rooms.{run_fits}
use Rattle.pm_layout.specs.Sizes.{blocks_of}
use Rattle.pm_objects.specs.declared.ids.Oid.{Oid}
use Rattle.pm_objects.specs.declared.pool.PoolView.{PoolView}
use Rattle.solo_view.specs.Area.{is_in_area}
use Rattle.solo_view.specs.Steps.{Step}
use Rattle.solo_view.specs.View.{View}
use Rattle.solo_world.specs.Opening.{Opening}
use Rattle.solo_world.proofs.Apart.{area_bounds}
use Rattle.solo_crash.specs.Alone.{WorksAlone}
use Rattle.solo_crash.specs.CallBlocks.{NewObject, block_of, reserved_in, reserved_object}
use Rattle.solo_crash.specs.HeapChanges.{AreDisjoint}
use Rattle.solo_crash.specs.Operations.{KeepsWords}
use Rattle.solo_crash.specs.Pending.{pending_in}
use Rattle.solo_crash.specs.Reserved.{IsReservedFor, IsReservedInRun}
use Rattle.solo_crash.specs.Reserving.{HasReserved, WritesReserved}
use Rattle.solo_crash.proofs.AloneCourse.{StandsAlone}
use Rattle.solo_crash.proofs.Includes.{made_member}
use Rattle.solo_crash.proofs.PutOn.{writes_within}
use Rattle.solo_crash.proofs.WritesWithin.{unwritten_apart}
use Rattle.solo_epoch.specs.Allocating.{HasSameDescriptors}
use Rattle.solo_epoch.proofs.GainedObjects.{stood}
use Rattle.solo_epoch.proofs.HeldApart.{reserved_run}
use Rattle.solo_epoch.proofs.StandingPools.{own_fits}

-- the page that describes a zone's chunks, as a block
abbrev zone_head : ℕ → ℕ → Block
zone_head lanes zone = record { place = 4096 * (1 + 2 * lanes + 65 * zone); lines = 64 }

module _ (o : Opening) (header : Header) (pool : PoolView) (start v : View) (steps : List Step) (works : WorksAlone o header pool start steps v) where
  s : StandsAlone o header pool v
  s = stood o header pool start v steps works

  -- its block is one of those of the run
  pub lies_whole : (n : NewObject) (run : IsReservedInRun v n) → run.index < blocks_of run.lines
  lies_whole n run = (reserved_run o header pool v s n run).inside

  apart_head : (n : NewObject) (zone : ℕ) → IsReservedFor v n → AreDisjoint (block_of n) (zone_head v.lanes zone)
  apart_head n zone (inl run) =
      let place = ap (λ (b : Block). b.place) run.is_block in let lines = ap (λ (b : Block). b.lines) run.is_block in
      let fits = run_fits run.lines run.index (lies_whole n run) in
      ⊎_elim (λ (before : run.chunk / 64 < zone). inl (omega (arith, place, lines, fits, before))) (λ (from : zone ≤ run.chunk / 64). inr (omega (arith, place, from))) (cases_lt (run.chunk / 64) zone)
  apart_head n zone (inr has) =
      let place = ap (λ (b : Block). b.place) has.is_block in let lines = ap (λ (b : Block). b.lines) has.is_block in
      let low = has.low in let fits = has.fits in
      ⊎_elim (λ (before : has.zone < zone). inl (omega (arith, place, lines, low, fits, before))) (λ (from : zone ≤ has.zone). inr (omega (arith, place, low, from))) (cases_lt has.zone zone)

  -- no descriptor is of a lane's area
  described_outside : (chunk : ℕ) → is_in_area v.lane (descriptor_word v.lanes chunk) ≡ false
  described_outside chunk = false_from_ne_true (is_in_area v.lane (descriptor_word v.lanes chunk)) (λ area.
      let high = (area_bounds v.lane (descriptor_word v.lanes chunk) area).1 in
      let fits = own_fits o header pool v s in
      let lane = fits.lane.lane in let lanes = fits.lane.lanes in let inside = s.goes.in_lanes in omega (arith, high, lane, lanes, inside))

  -- each chunk is described as it was where no word changed but in the lane's area
  pub kept_describes : (w : View) → KeepsWords v w → HasSameDescriptors v w
  kept_describes w keeps chunk in_pool = keeps.words (descriptor_word v.lanes chunk) (described_outside chunk)

  -- and where bytes are written into what is reserved
  pub put_describes : (w : View) (id : Oid) (off : ℕ) (bytes : List ℕ) → HasReserved v → All (IsReservedFor v) (reserved_in v) → WritesReserved v w id off bytes → HasSameDescriptors v w
  put_describes w id off bytes has reserved writes chunk in_pool =
      let n : NewObject = reserved_object writes.has.one in
      let own : IsReservedFor v n = All-contains (IsReservedFor v) (reserved_in v) n reserved (made_member reserved_object (pending_in v).reserved writes.has.one writes.has.is_one) in
      unwritten_apart v w n off bytes (writes_within v w id off bytes has writes) (zone_head v.lanes (chunk / 64)) (descriptor_word v.lanes chunk) (apart_head n (chunk / 64) own) (omega arith) (omega arith) (described_outside chunk)
