-- What a power failure may leave of a world's words, and which calls it loses.
use Rattle.std.specs.Prelude.{◌≡◌, ◌≢◌, ℕ, ◌<◌, ◌≤◌, ◌⊎◌, ◌==◌, ◌&&◌, not, Bool, true, false, All, Contains, List, length, slice_index, Some}
use Rattle.std.specs.List.{list_any, range_with_len}
use Rattle.pm_record.specs.declared.undo.Undo.{Undo}
use Rattle.solo_view.specs.declared.change.Change.{Change}
use Rattle.solo_view.specs.Log.{Phase, Recorded}
use Rattle.solo_view.specs.Log.Phase.{Idle, Drawn, Sealing, Retiring}
use Rattle.solo_view.specs.View.{View}
use Rattle.pm_image.specs.Logs.{undo_slot, generation_word, recovered, seal_word}
use Rattle.pm_image.specs.Steps.{valid_record}
use Rattle.solo_view.specs.Survivors.{all_taken_back}
use Rattle.solo_world.specs.Course.{is_number}
use Rattle.solo_world.specs.Heap.{AreNewRuns}
use Rattle.solo_world.specs.History.{Entry, replayed}
use Rattle.solo_world.specs.Lawful.{CanRecord}
use Rattle.solo_world.specs.Memory.{Memory}
use Rattle.solo_world.specs.Memory.Location.{PoolWord}
use Rattle.solo_world.specs.Opening.{IsLivingWord, Opening}
use Rattle.solo_world.specs.Records.{IsRecordAt, generation_of, is_drained_slot, spelled, records_generation, used_slots}
use Rattle.solo_world.specs.World.{Views}

-- an undrained change of word w by some lane
pub record IsUndrained (views : Views) (lanes w : ℕ) (c : Change) : Type 0 where
  pub of_word : c.word ≡ w
  pub lane : ℕ
  pub of_lane : lane < lanes
  pub there : Contains (views lane).changes c

-- x is left of a word: of its undrained changes some were taken back, in any order
pub record IsLeft (mem : Memory) (views : Views) (lanes w x : ℕ) : Type 0 where
  pub lost : List Change
  pub undrained : All (IsUndrained views lanes w) lost
  pub left : x ≡ all_taken_back lost (mem (PoolWord w))

-- an image that may survive a power failure: each word by itself
pub record Survives (o : Opening) (mem : Memory) (views : Views) (image : List ℕ) : Type 0 where
  pub size : length image ≡ length o.words
  pub each : (w : ℕ) → w < length o.words → IsLeft mem views o.lanes w (slice_index image w)

-- the slot is being written: it has undrained words, or is that of a record in the making
abbrev pub IsBeingWritten : View → ℕ → Type 0
IsBeingWritten v slot = (is_drained_slot v slot ≡ false) ⊎ ((length v.log.records ≤ slot) × (slot < used_slots v.log.phase v))

-- the slot holds, whole, the log's record of this slot, or, where the log has none there yet, one that could be written there now
pub record IsWhole (v : View) (image : List ℕ) (slot : ℕ) : Type 0 where
  pub held : Recorded
  pub lawful : IsRecordAt v slot held ⊎ ((length v.log.records ≤ slot) × CanRecord v held)
  pub spells : undo_slot image v.lane slot ≡ spelled (records_generation v.log.phase v) held

-- no torn record's sum matches by chance: where a slot that is being written is valid in the image, it is whole
abbrev pub NoneTorn : Opening → Views → List ℕ → Type 0
NoneTorn o views image = (k slot : ℕ) (u : Undo) → k < o.lanes → slot < 64 → IsBeingWritten (views k) slot → valid_record image k slot ≡ Some u → IsWhole (views k) image slot

-- the image has the deciding store of the lane's call: the seal of one with entries, the next generation of another
abbrev pub is_deciding_in : List ℕ → View → Phase → Bool
is_deciding_in image v Drawn = false
is_deciding_in image v Sealing = not (seal_word image v.lane == 0)
is_deciding_in image v Retiring = generation_word image v.lane == generation_of v
is_deciding_in image v phase = true

-- the image loses the lane's call of this number
abbrev pub loses : List ℕ → View → ℕ → Bool
loses image v n = is_number v.number n && not (is_deciding_in image v v.log.phase)

-- the entry is lost: drawn, not decided, and its deciding store not in the image
abbrev pub is_lost : Opening → Views → List ℕ → ℕ → Bool
is_lost o views image n = list_any (λ k. loses image (views k) n) (range_with_len 0 o.lanes)

abbrev pub is_kept : Opening → Views → List ℕ → ℕ → Bool
is_kept o views image n = not (is_lost o views image n)

-- the entry's call has ended, or its lane began a later one
abbrev pub IsAcknowledged : Views → Entry → Type 0
IsAcknowledged views e = ((views e.lane).log.phase ≡ Idle) ⊎ ((views e.lane).number ≢ Some e.number)

-- At each living word the image has for recovered word what the entries that are not lost make of the opening's; and a chunk that
-- was free has no block.
pub record MeansKept (o : Opening) (views : Views) (log : List Entry) (image : List ℕ) : Type 0 where
  pub words : (w : ℕ) → IsLivingWord o w → recovered image o.lanes w ≡ replayed (is_kept o views image) log w (slice_index o.words w)
  pub new_runs : AreNewRuns o (recovered image o.lanes)
