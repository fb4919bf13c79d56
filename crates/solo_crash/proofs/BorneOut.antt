-- A lane that works alone: what it reserved is free by its words and overlaps no block of theirs; and a call that is borne out by what the lane has is a step from
-- each pool that the opening's blocks and root allow.
use Rattle.std.proofs.Common.{◌≡◌, ℕ, ◌+◌, ◌*◌, ◌<◌, ◌≤◌, true, Contains, List, slice_index, None, ap, subst, sym}
use Rattle.pm_header.specs.declared.header.Header.{Header}
use Rattle.pm_layout.specs.Sizes.{descriptor_of}
use Rattle.pm_layout.specs.declared.class.Class.TheVariants.{Lines}
use Rattle.pm_objects.specs.declared.pool.PoolView.{PoolView}
use Rattle.pm_image.specs.declared.block.Block.{Block}
use Rattle.pm_image.specs.Blocks.{blocks, descriptor_word}
use Rattle.pm_image.specs.HeapFaults.{heap_fault}
use Rattle.solo_view.specs.Steps.{Step}
use Rattle.solo_view.specs.View.{View}
use Rattle.solo_view.specs.Views.{reserves}
use Rattle.solo_world.specs.Opening.{Opening}
use Rattle.solo_crash.specs.Alone.{WorksAlone}
use Rattle.solo_crash.specs.CallBlocks.{MayPrecede, NewObject, block_of}
use Rattle.solo_crash.specs.HeapChanges.{AreDisjoint, run_at}
use Rattle.solo_crash.specs.Held.{HoldsPool}
use Rattle.solo_crash.specs.NewObjects.{AreFreeChunks, IsFreeInRun}
use Rattle.solo_crash.specs.OneLane.{IsModelStep, TellsAsOpening}
use Rattle.solo_crash.specs.OpenCall.{MakesItsStep}
use Rattle.solo_crash.specs.Reserved.{IsBorneOut, IsReservedFor, IsUnusedChunk, LiesFree}
use Rattle.solo_crash.proofs.AloneCourse.{StandsAlone, borne_out_steps, may_precede, stands_at}
use Rattle.solo_crash.proofs.AloneMemory.{memory_of}
use Rattle.solo_crash.proofs.ReservedBlocks.{block_free, chunks_free}
use Rattle.solo_crash.proofs.RoomForReserved.{overlaps_none as apart_from_blocks, reserved_free}

module _ (o : Opening) (header : Header) (pool : PoolView) (v : View) (s : StandsAlone o header pool v) where
  sees : (i : ℕ) → slice_index v.words i ≡ slice_index (s.views 0).words i
  sees i = ap (λ (u : View). slice_index u.words i) (sym s.here)

  pub free_run : (c lines index : ℕ) → c < 64 * o.zones → index < 64 → slice_index v.words (descriptor_word o.lanes c) ≡ descriptor_of (Lines lines) → reserves v (run_at o.lanes c) index ≡ true
      → IsFreeInRun (slice_index v.words) o.lanes o.zones c lines index
  free_run c lines index =
      subst (λ (u : View). c < 64 * o.zones → index < 64 → slice_index u.words (descriptor_word o.lanes c) ≡ descriptor_of (Lines lines) → reserves u (run_at o.lanes c) index ≡ true
      → IsFreeInRun (slice_index u.words) o.lanes o.zones c lines index) s.here
      (block_free o (memory_of v) s.views s.log s.decided 0 s.goes.world s.goes.in_lanes sees c lines index)

  pub free_chunks : (zone first count : ℕ) → zone < o.zones → first < 64 → first + count ≤ 64 → ((j : ℕ) → j < count → IsUnusedChunk o.lanes v zone (first + j))
      → AreFreeChunks (slice_index v.words) o.lanes o.zones (64 * zone + first) count
  free_chunks zone first count =
      subst (λ (u : View). zone < o.zones → first < 64 → first + count ≤ 64 → ((j : ℕ) → j < count → IsUnusedChunk o.lanes u zone (first + j))
      → AreFreeChunks (slice_index u.words) o.lanes o.zones (64 * zone + first) count) s.here
      (chunks_free o (memory_of v) s.views s.log s.decided 0 s.goes.world s.goes.in_lanes sees zone first count)

  pub overlaps_none : heap_fault (slice_index v.words) o.lanes o.zones ≡ None → (n : NewObject) (b : Block) → IsReservedFor v n → Contains (blocks (slice_index v.words) o.lanes o.zones) b → AreDisjoint (block_of n) b
  overlaps_none none n b =
      subst (λ (u : View). heap_fault (slice_index u.words) o.lanes o.zones ≡ None → IsReservedFor u n → Contains (blocks (slice_index u.words) o.lanes o.zones) b → AreDisjoint (block_of n) b) s.here
      (λ no_fault. apart_from_blocks o (memory_of v) s.views s.log s.decided 0 s.goes.world s.goes.in_lanes sees no_fault n b) none

  -- what it reserved lies in room that its words have free
  pub lies_free : (n : NewObject) → IsReservedFor v n → LiesFree v n
  lies_free n =
      subst (λ (u : View). IsReservedFor u n → LiesFree u n) s.here (reserved_free o (memory_of v) s.views s.log s.decided 0 s.goes.world s.goes.in_lanes sees n)

module _ (o : Opening) (header : Header) (pool : PoolView) (v w : View) (steps : List Step) where
  -- the lane stands so where its steps led
  pub stood : WorksAlone o header pool v steps w → StandsAlone o header pool w
  stood works = stands_at o header pool v steps w works.begins works.leads works.numbered works.within

  pub pool_may_precede : (words : ℕ → ℕ) (its : Header) (before : PoolView) → WorksAlone o header pool v steps w → TellsAsOpening o words → HoldsPool words o.lanes o.zones its before → IsBorneOut w → MayPrecede before w
  pool_may_precede words its before works = may_precede o header pool w (stood works) words its before

  pub borne_out_call_steps : WorksAlone o header pool v steps w → MakesItsStep w → IsBorneOut w → IsModelStep o w
  borne_out_call_steps works = borne_out_steps o header pool w (stood works)
