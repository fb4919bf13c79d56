-- Over an image with clean logs, which holds a pool, a world begins.
use Rattle.std.proofs.Common.{◌≡◌, ⊎_elim, ℕ, ◌+◌, ◌*◌, ◌<◌, ◌≤◌, false, [], length, slice_index, Some, refl, sym, ◌∙◌, arith}
use Rattle.pm_header.specs.declared.header.Header.{Header}
use Rattle.pm_objects.specs.declared.pool.PoolView.{PoolView}
use Rattle.pm_record.specs.declared.undo.Undo.{Undo}
use Rattle.pm_image.specs.Logs.{generation_word, recovered, recovered_at}
use Rattle.pm_image.specs.Reads.{IsHeapWord}
use Rattle.pm_image.specs.Steps.{valid_record}
use Rattle.pm_image.proofs.InPlace.{recovered_in_place}
use Rattle.solo_world.specs.Memory.{Memory}
use Rattle.solo_world.specs.Opening.{IsSound, Opening}
use Rattle.solo_world.specs.Opens.{IsClean, IsFresh, IsOpened}
use Rattle.solo_world.specs.World.{Views, World}
use Rattle.solo_world.proofs.CrashRecords.{generation_unsealed, recovered_is}
use Rattle.solo_world.proofs.CrashSpellings.{valid_parts}
use Rattle.solo_world.proofs.OpeningLaw.{opening_law}
use Rattle.solo_crash.specs.Held.{HoldsImage, HoldsPool}
use Rattle.solo_crash.proofs.Guarded.{sound_of_heap}
use Rattle.solo_crash.proofs.HeapWordsAlone.{held_by_heap}

module _ (o : Opening) (header : Header) (pool : PoolView) (holds : HoldsImage o.words o.lanes o.zones header pool) (clean : (k : ℕ) → k < o.lanes → IsClean o k) where
  size : length o.words ≡ 512 + 1024 * o.lanes + 33280 * o.zones
  size = let bytes = holds.has_header.has_shape.size in omega arith

  no_record : (lane slot : ℕ) (u : Undo) → lane < o.lanes → slot < 64 → valid_record o.words lane slot ≡ Some u → ⊥
  no_record lane slot u in_lanes in_slots valid =
      let p = valid_parts o.words lane slot u valid in
      let log = clean lane in_lanes in
      let now : u.generation ≡ generation_word o.words lane = p.present ∙ generation_unsealed o.words lane log.unsealed in
      let before = log.stale slot u in_slots p.stands in
      omega arith

  -- the words are recovered as they stand
  as_they_stand : (i : ℕ) → recovered o.words o.lanes i ≡ slice_index o.words i
  as_they_stand i =
      recovered_is o.words o.lanes i (slice_index o.words i) (λ lane inside. (clean lane inside).unsealed)
      (λ lane slot u in_lanes in_slots valid covering. absurd (no_record lane slot u in_lanes in_slots valid))
      (λ none. refl)

  heap_inside : (i : ℕ) → IsHeapWord o.lanes o.zones i → i < length o.words
  heap_inside i heap = let long = size in ⊎_elim (λ (root : i ≡ 64). omega arith) (λ (zone : (512 + 1024 * o.lanes ≤ i) × (i < 512 + 1024 * o.lanes + 33280 * o.zones)). let high = zone.1 in omega arith) heap

  pub clean_words_hold : HoldsPool (slice_index o.words) o.lanes o.zones header pool
  clean_words_hold =
      held_by_heap (recovered_at o.words o.lanes) (slice_index o.words) o.lanes o.zones header pool holds.holds
      (λ i heap. sym (recovered_in_place o.words o.lanes i (heap_inside i heap) ∙ as_they_stand i))

  pub clean_words_sound : IsSound o
  clean_words_sound = sound_of_heap o clean_words_hold.no_fault size holds.has_header.has_shape.shape.lanes_from holds.has_header.has_shape.shape.lanes_to

  pub world_begins : (memory : Memory) (views : Views) → ((k : ℕ) → k < o.lanes → IsFresh o k (views k)) → IsOpened o memory → World o memory views [] (λ n. false)
  world_begins memory views fresh opens = opening_law o memory views clean_words_sound clean fresh opens
