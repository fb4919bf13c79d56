-- What a power failure may leave of a world's words, which calls it loses, and what recovery then gives.
use Rattle.std.specs.Prelude.{◌≡◌, ◌⊎◌, ℕ, zero, suc, ◌+◌, ◌<◌, ◌≤◌, ◌==◌, ◌&&◌, ◌||◌, not, cond, Bool, true, false, All, Contains, List, length, slice_index, Some}
use Rattle.pm_record.specs.declared.undo.Undo.{Undo}
use Rattle.pm_layout.specs.Areas.{old_words}
use Rattle.pm_layout.specs.Chunks.{chunks_of, word_of_chunk}
use Rattle.pm_image.specs.Logs.{undo_slot, generation_word, recovered, seal_word}
use Rattle.pm_image.specs.Steps.{valid_record}
use Rattle.pm_view.specs.declared.change.Change.{Change}
use Rattle.pm_view.specs.Changes.{Undrained, IsUndrained, IsFormed}
use Rattle.pm_view.specs.Log.{Phase, Sealing, Retiring, Recorded}
use Rattle.pm_view.specs.Places.{Place, is_place, place_after}
use Rattle.pm_view.specs.View.{View}
use Rattle.pm_memory.specs.Survivors.{all_taken_back}
use Rattle.pm_world.specs.States.{State, live, replay}
use Rattle.pm_world.specs.Sights.{is_slot_drained}
use Rattle.pm_world.specs.Logs.{IsRecordAt, AreInRow, spelled, used_slots}
use Rattle.pm_world.specs.Lawful.{IsRecordable}
use Rattle.pm_world.specs.Memory.{Memory, PoolWord, bit, bits_of, descriptor_told}
use Rattle.pm_world.specs.World.{Opening, Views, Past, origin, ghost_of, is_header}

-- a change of word w that some lane has undrained, with what it found
pub record IsUndrainedOf (views : Views) (lanes w : ℕ) (c : Change) : Type 0 where
  pub of_word : c.word ≡ w
  pub formed : IsFormed c
  pub lane : ℕ
  pub of_lane : lane < lanes
  pub seen : Undrained
  pub there : Contains (views lane).changes seen
  pub is : IsUndrained c seen

-- x is left of a word: of its undrained changes some were taken back, in any order
pub record IsLeft (mem : Memory) (views : Views) (lanes w x : ℕ) : Type 0 where
  pub lost : List Change
  pub undrained : All (IsUndrainedOf views lanes w) lost
  pub is : x ≡ all_taken_back lost (mem (PoolWord w))

-- AN IMAGE THAT MAY SURVIVE a power failure: each word by itself
pub record Survives (o : Opening) (mem : Memory) (views : Views) (image : List ℕ) : Type 0 where
  pub size : length image ≡ length o.words
  pub each : (w : ℕ) → w < length o.words → IsLeft mem views o.lanes w (slice_index image w)

-- the slot is being written: it has undrained words, or is that of a record in the making
abbrev pub IsBeingWritten : View → ℕ → Type 0
IsBeingWritten v j = (is_slot_drained v.fixed.shape v.fixed.lane v.changes j ≡ false) ⊎ ((length v.log.records ≤ j) × (j < used_slots v.log))

-- a record that the lane may be storing: of one to four present values of words that it may change and that have no record
pub record IsNextRecord (v : View) (r : Recorded) : Type 0 where
  pub some : 1 ≤ length r.old
  pub most : length r.old ≤ old_words v.fixed.shape
  pub each : (i : ℕ) → i < length r.old → IsRecordable v (place_after r.place i) (slice_index r.old i)
  pub row : AreInRow v.fixed.shape r

-- the slot holds, whole, the log's record of this slot, or, where the log has none there yet, one that the lane may be storing
pub record IsWhole (v : View) (image : List ℕ) (j : ℕ) : Type 0 where
  pub held : Recorded
  pub lawful : IsRecordAt v.log j held ⊎ ((length v.log.records ≤ j) × IsNextRecord v held)
  pub spells : undo_slot image v.fixed.lane j ≡ spelled v.fixed.shape v.log.generation held

-- NO TORN RECORD: where a slot that is being written is valid in the image, it is whole
abbrev pub NoneTorn : Opening → Views → List ℕ → Type 0
NoneTorn o views image = (k j : ℕ) (u : Undo) → k < o.lanes → j < 64 → IsBeingWritten (views k) j → valid_record image k j ≡ Some u → IsWhole (views k) image j

-- WHICH CALLS THE IMAGE KEEPS: the decided ones, and each in flight whose deciding store it has: the seal of one with entries, the next generation of another
abbrev pub decides_in : List ℕ → View → Phase → ℕ → Bool
decides_in image v (Sealing m) n = (m == n) && not (seal_word image v.fixed.lane == 0)
decides_in image v (Retiring m) n = (m == n) && (generation_word image v.fixed.lane == v.log.generation + 1)
decides_in image v phase n = false

abbrev pub is_decided_in : List ℕ → Views → ℕ → ℕ → Bool
is_decided_in image views zero n = false
is_decided_in image views (suc k) n = decides_in image (views k) (views k).log.phase n || is_decided_in image views k n

abbrev pub is_kept : Opening → Views → Past → List ℕ → ℕ → Bool
is_kept o views g image n = g.decided n || is_decided_in image views o.lanes n

-- the words with the calls that the image keeps
abbrev pub kept_words : Opening → Views → Past → List ℕ → State
kept_words o views g image = replay (is_kept o views g image) (origin o) (ghost_of g).log g.length

-- a chunk is described as it is: as a run, where it is one; or it is to become one, and has no block
abbrev pub DescribesRun : Opening → Past → (ℕ → ℕ) → ℕ → Type 0
DescribesRun o g words c = (descriptor_told o.shape words c ≡ cond (g.runs c) (g.geo.class c) 0)
    ⊎ ((g.runs c ≡ false) × (descriptor_told o.shape words c ≡ g.geo.class c) × ((b : ℕ) → b < 64 → bit (words (word_of_chunk o.shape c)) b ≡ false))

-- THE IMAGE MEANS WHAT THE KEPT CALLS DO: at each place that is alive by the words with the calls that it keeps, its recovered bits are these words'; its descriptors are
-- those of the runs; and the header page is as it was
pub record MeansKept (o : Opening) (views : Views) (g : Past) (image : List ℕ) : Type 0 where
  pub words : (p : Place) (b : ℕ) → is_place o.shape p ≡ true → b < 64 → live (kept_words o views g image) g.geo g.runs p ≡ true
      → bits_of o.shape (recovered image o.shape.lanes) p b ≡ kept_words o views g image p b
  pub runs : (c : ℕ) → c < chunks_of o.shape → DescribesRun o g (recovered image o.shape.lanes) c
  pub header : (w : ℕ) → is_header o.shape w ≡ true → recovered image o.shape.lanes w ≡ slice_index o.words w
