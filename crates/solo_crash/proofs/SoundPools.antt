-- Where one lane works alone, what tells of the blocks in chunks that were taken stays as at the opening, and no chunk that was free has a block; so the pool
-- is sound as each view of the lane has it.
use Rattle.std.proofs.Common.{◌≡◌, ⊎_elim, ℕ, ◌<◌, ◌≤◌, false, List, length, slice_index, sym, ◌∙◌, arith}
use Rattle.std.proofs.lemmas.Bool.{cases_lt}
use Rattle.std.proofs.lemmas.List.{get_or_past}
use Rattle.pm_header.specs.declared.header.Header.{Header}
use Rattle.pm_objects.specs.declared.pool.PoolView.{PoolView}
use Rattle.solo_view.specs.Blocks.{block_at}
use Rattle.solo_view.specs.Steps.{Step}
use Rattle.solo_view.specs.View.{View}
use Rattle.solo_world.specs.Heap.{AreNewRuns}
use Rattle.solo_world.specs.Opening.{IsChunk, IsSound, Opening, is_free_chunk}
use Rattle.solo_world.proofs.Chunks.{opening_word}
use Rattle.solo_world.proofs.Living.{TellsOf}
use Rattle.solo_crash.specs.Alone.{WorksAlone, standing}
use Rattle.solo_crash.proofs.AloneCourse.{StandsAlone, stands_at}
use Rattle.solo_crash.proofs.AloneImages.{own_fits}
use Rattle.solo_crash.proofs.AloneMemory.{memory_of}
use Rattle.solo_crash.proofs.SameBlocks.{same_blocks, sound_with}

module _ (o : Opening) (header : Header) (pool : PoolView) (b : View) (s : StandsAlone o header pool b) where
  size_stays : length b.words ≡ length o.words
  size_stays = (own_fits o header pool b s).lane.size

  -- what tells of a chunk that was taken is as at the opening
  pub telling_word : (page i : ℕ) → IsChunk o.lanes page → is_free_chunk (slice_index o.words) o.lanes page ≡ false → TellsOf o page i → slice_index b.words i ≡ slice_index o.words i
  telling_word page i chunk taken tells =
      let long = size_stays in
      ⊎_elim
      (λ (inside : i < length o.words). opening_word o (memory_of b) s.views s.log s.decided s.goes.world page i chunk taken tells inside)
      (λ (past : length o.words ≤ i). get_or_past b.words i 0 (omega (arith, long, past)) ∙ sym (get_or_past o.words i 0 past))
      (cases_lt i (length o.words))

  -- and a chunk that was free has no block
  pub new_runs_seen : AreNewRuns o (slice_index b.words)
  new_runs_seen = s.goes.world.new_runs

  sound_there : IsSound (standing o b)
  sound_there = sound_with o b.words size_stays s.goes.world.sound new_runs_seen telling_word

  blocks_there : (line : ℕ) → block_at o.lanes b.words line ≡ block_at o.lanes o.words line
  blocks_there = same_blocks o b.words size_stays s.goes.world.sound new_runs_seen telling_word

module _ (o : Opening) (header : Header) (pool : PoolView) (v b : View) (steps : List Step) (works : WorksAlone o header pool v steps b) where
  stood : StandsAlone o header pool b
  stood = stands_at o header pool v steps b works.begins works.leads works.numbered works.within

  pub sound_as_it_stands : IsSound (standing o b)
  sound_as_it_stands = sound_there o header pool b stood

  pub blocks_as_they_stand : (line : ℕ) → block_at o.lanes b.words line ≡ block_at o.lanes o.words line
  blocks_as_they_stand = blocks_there o header pool b stood

  pub runs_as_they_stand : AreNewRuns o (slice_index b.words)
  runs_as_they_stand = new_runs_seen o header pool b stood
