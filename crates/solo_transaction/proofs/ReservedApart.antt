-- A word of what a lane that works alone reserved lies outside of its area, and in no block that it found under one of its locks.
use Rattle.std.proofs.Common.{◌≡◌, ⊎_elim, ℕ, true, false, Contains, List, None, Some, slice_index, arith}
use Rattle.pm_header.specs.declared.header.Header.{Header}
use Rattle.pm_objects.specs.declared.pool.PoolView.{PoolView}
use Rattle.pm_image.specs.declared.block.Block.{Block}
use Rattle.pm_image.specs.Blocks.{blocks}
use Rattle.pm_image.specs.HeapFaults.{heap_fault}
use Rattle.solo_view.specs.Area.{is_in_area}
use Rattle.solo_view.specs.Blocks.{block_at}
use Rattle.solo_view.specs.Held.{is_reserved}
use Rattle.solo_view.specs.Occupancy.{is_in_block}
use Rattle.solo_view.specs.Steps.{Step}
use Rattle.solo_view.specs.View.{View}
use Rattle.solo_world.specs.Fits.{LaneFits}
use Rattle.solo_world.specs.History.{Flies, settled}
use Rattle.solo_world.specs.Opening.{Opening}
use Rattle.solo_world.proofs.Apart.{outside_behind}
use Rattle.solo_world.proofs.Reserved.{reserved_apart}
use Rattle.solo_crash.specs.Alone.{WorksAlone}
use Rattle.solo_crash.specs.OpenCall.{IsUnderBlock, block_at_line}
use Rattle.solo_crash.proofs.AloneCourse.{StandsAlone, stands_at}
use Rattle.solo_crash.proofs.AloneMemory.{memory_of}
use Rattle.solo_crash.proofs.Apart.{good_chunk}
use Rattle.solo_crash.proofs.FoundBlocks.{found_of_words}
use Rattle.solo_crash.proofs.InBlocks.{IsIn, in_chunk_block, in_run_block}
use Rattle.solo_crash.proofs.Standing.{IsChunkBlock, IsRunBlock, Stands, block_stands}
use Rattle.solo_epoch.proofs.HeldApart.{found_at_opening, opening_has_no_fault, reserved_in_none}
use Rattle.solo_epoch.proofs.StandingPools.{own_fits}

module _ (o : Opening) (header : Header) (pool : PoolView) (start x : View) (steps : List Step) (works : WorksAlone o header pool start steps x) where
  s : StandsAlone o header pool x
  s = stands_at o header pool start steps x works.begins works.leads works.numbered works.within

  fits : LaneFits o (memory_of x) (settled o s.log s.decided) (Flies s.log s.decided 0) 0 x
  fits = own_fits o header pool x s

  pub lane_is : x.lane ≡ 0
  lane_is = fits.lane.lane

  none : heap_fault (slice_index o.words) o.lanes o.zones ≡ None
  none = opening_has_no_fault o header pool start x steps works

  in_some : (block : Block) → Contains (blocks (slice_index o.words) o.lanes o.zones) block → (i : ℕ) → IsIn block i → is_in_block (slice_index o.words) o.lanes i ≡ true
  in_some block there i inside =
      let w : ℕ → ℕ = slice_index o.words in
      let stands : Stands w o.lanes o.zones block = block_stands w o.lanes o.zones block there in
      ⊎_elim (λ (run : IsRunBlock w o.lanes stands.chunk block). in_run_block w o.lanes stands.chunk i block run inside)
      (λ (whole : IsChunkBlock w o.lanes stands.chunk block). in_chunk_block w o.lanes stands.chunk i block (good_chunk w o.lanes o.zones stands.chunk none stands.in_zones) whole inside)
      stands.is

  -- what it found lies in a block of the opening, with each of its words
  found_in_block : (i : ℕ) → IsUnderBlock x i → is_in_block (slice_index o.words) o.lanes i ≡ true
  found_in_block i under =
      let line : ℕ = under.lock.line in
      let size = s.goes.world.sound.size in
      let there : block_at o.lanes o.words line ≡ Some under.lines = found_at_opening o header pool x s under.lock under.lines under.held under.found in
      let from = under.from in let to = under.to in
      in_some (block_at_line line under.lines) ((found_of_words o.words o.lanes o.zones line under.lines none (omega (arith, size))).0 there) i (record { from = omega (arith, from); to = omega (arith, to) })

  pub reserved_unfound : (i : ℕ) → IsUnderBlock x i → is_reserved x i ≡ true → ⊥
  reserved_unfound i under own = reserved_in_none o header pool x s i own (found_in_block i under)

  pub reserved_outside : (i : ℕ) → is_reserved x i ≡ true → is_in_area 0 i ≡ false
  reserved_outside i own =
      let some = s.goes.world.sound.some_lanes in
      outside_behind o.lanes 0 i (omega (arith, some)) (reserved_apart o (memory_of x) x i fits.lane.lanes fits.blocks own).behind
