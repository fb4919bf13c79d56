-- A lane at work in a transaction, on its view alone, and what the sequences of undo logging leave of a view.
use Rattle.std.specs.Prelude.{◌≡◌, ◌≢◌, ℕ, ◌+◌, ◌*◌, ◌<◌, ◌≤◌, true, false, IsTrue, Contains, List, [], ◌∷◌, length, ◌++◌, map, slice_index, None, is_some, ◌⊎◌, All, IfSome, Some}
use Rattle.pm_image.specs.Logs.{undo_slot}
use Rattle.solo_view.specs.declared.change.Change.{Change}
use Rattle.solo_view.specs.Area.{area_word, is_in_area}
use Rattle.solo_view.specs.Blocks.{allocation_word, block_at, descriptor_word, is_chunk, is_word}
use Rattle.solo_view.specs.Constants.{IsSameLane}
use Rattle.solo_view.specs.Counts.{HasRoom, max_changes}
use Rattle.solo_view.specs.Held.{is_held, is_known}
use Rattle.solo_view.specs.Log.{Log, Phase, Recorded, log_drained, no_log}
use Rattle.solo_view.specs.Log.Phase.{Open}
use Rattle.solo_view.specs.Rights.{is_written}
use Rattle.solo_view.specs.Steps.{Step}
use Rattle.solo_view.specs.View.{View, Lock}
use Rattle.solo_world.specs.Lawful.{generation_limit}
use Rattle.solo_world.specs.Opening.{Opening, IsChunk, is_free_chunk}
use Rattle.solo_world.specs.Records.{AreRestored, IsRecordAt, covers, generation_of, is_drained_slot, is_recorded, spelled}
use Rattle.solo_world.specs.declared.lane.Span.{Span}
use Rattle.solo_undo.specs.Sequences.{recorded_in}

-- a lane's area lies in the pool, before the zones
pub record HasArea (v : View) : Type 0 where
  pub lane : v.lane < v.lanes
  pub few : v.lane < 32
  pub inside : 512 + 1024 * (v.lane + 1) ≤ length v.words
  pub below : generation_of v < generation_limit

-- the memory may be seen as a view with its area
abbrev pub IsSeenWithArea : (View → Type 0) → Type 0
IsSeenWithArea at = (v : View) × (at v × HasArea v)

-- a word of the pool that the lane locked for writing and knows, outside of its own area
pub record IsUserWord (v : View) (w : ℕ) : Type 0 where
  pub own : IsTrue (is_written v w)
  pub known : IsTrue (is_known v w)
  pub outside : is_in_area v.lane w ≡ false
  pub inside : w < length v.words

-- the records stand in their slots, each of one to four words of which none is in two
pub record HasRecords (v : View) : Type 0 where
  pub most : length v.log.records ≤ 64
  pub stored : (slot : ℕ) (r : Recorded) → IsRecordAt v slot r → undo_slot v.words v.lane slot ≡ spelled (generation_of v) r
  pub some : (slot : ℕ) (r : Recorded) → IsRecordAt v slot r → 1 ≤ length r.old
  pub few : (slot : ℕ) (r : Recorded) → IsRecordAt v slot r → length r.old ≤ 4
  pub each : (slot : ℕ) (r : Recorded) (w : ℕ) → IsRecordAt v slot r → covers r w ≡ true → IsUserWord v w
  pub once : (slot other : ℕ) (r q : Recorded) (w : ℕ) → IsRecordAt v slot r → IsRecordAt v other q → covers r w ≡ true → covers q w ≡ true → slot ≡ other

-- the lane is at work: its call is open and has drawn no number, no record is in the making, and its records are drained
pub record IsWorking (v : View) : Type 0 where
  pub is_open : v.log.phase ≡ Open [] []
  pub undrawn : v.number ≡ None
  pub area : HasArea v
  pub records : HasRecords v
  pub drained : (slot : ℕ) → slot < length v.log.records → is_drained_slot v slot ≡ true

-- the word tells of no block that is to be found under a lock
abbrev pub TellsNoBlock : View → ℕ → Type 0
TellsNoBlock v w = (l : Lock) → Contains v.locks l → is_word (allocation_word v.lanes v.words l.line) w ≡ false

-- a word that the lane may look at whether it knows it or not: whatever is found in it, each lock has the block that it had, and each chunk
-- is described as it was
pub record IsPlain (v : View) (word : ℕ) : Type 0 where
  pub quiet : TellsNoBlock v word
  pub plain : (page : ℕ) → is_chunk v.lanes page ≡ true → word ≢ descriptor_word v.lanes page

-- the view is of the same call, whatever words were changed: it holds and knows what it did
pub record IsSameCall (v w : View) : Type 0 where
  pub lane : IsSameLane v w
  pub locks : w.locks ≡ v.locks
  pub zone_locks : w.zone_locks ≡ v.zone_locks
  pub reserved : w.reserved ≡ v.reserved
  pub freed : w.freed ≡ v.freed
  pub call : w.call ≡ v.call
  pub number : w.number ≡ v.number
  pub chunks : w.chunks ≡ v.chunks
  pub entries : w.entries ≡ v.entries
  pub actions : w.actions ≡ v.actions
  pub known : (u : ℕ) → is_known v u ≡ true → is_known w u ≡ true
  pub remembers : (u : ℕ) → Contains v.known u → Contains w.known u
  pub seen : (s : Step) → Contains v.seen s → Contains w.seen s

-- no word outside of the lane's area changed
abbrev pub KeepsOutside : View → View → Type 0
KeepsOutside v w = (u : ℕ) → is_in_area v.lane u ≡ false → slice_index w.words u ≡ slice_index v.words u

-- the lane looked at a word, and knows it by now where it holds it. No word that it knew has another value
pub record HasLearned (v : View) (word : ℕ) (w : View) : Type 0 where
  pub call : IsSameCall v w
  pub working : IsWorking w
  pub log : w.log ≡ v.log
  pub changes : w.changes ≡ v.changes
  pub same : (u : ℕ) → is_known v u ≡ true → slice_index w.words u ≡ slice_index v.words u
  pub others : (u : ℕ) → u ≢ word → slice_index w.words u ≡ slice_index v.words u
  pub learned : is_held v word ≡ true → is_known w word ≡ true

-- the same call, with all words outside of the lane's area, and with its generation
pub record Stays (v w : View) : Type 0 where
  pub call : IsSameCall v w
  pub outside : KeepsOutside v w
  pub generation : generation_of w ≡ generation_of v

-- the log once these changes, if there are any, are drained
abbrev pub log_settled : List Change → View → Log
log_settled [] v = v.log
log_settled (c ∷ changes) v = log_drained v.log.phase (is_some v.number) v.log

-- all is persistent: nothing is undrained, the log goes on, and calls are counted
abbrev pub IsSettled : View → View → Type 0
IsSettled v w = w ≡ record v { changes = []; calls = w.calls; log = log_settled v.changes v }

-- one more change has room: nothing was done for it, or all was made persistent
abbrev pub HasMadeRoom : View → View → Type 0
HasMadeRoom v w = HasRoom w.changes × ((w ≡ v) ⊎ ((max_changes ≤ length v.changes) × IsSettled v w))

-- the generation is ended: no records are left, and no other word changed
pub record IsRetired (phase : Phase) (v w : View) : Type 0 where
  pub call : IsSameCall v w
  pub log : w.log ≡ no_log phase
  pub drained : w.changes ≡ []
  pub next : generation_of w ≡ generation_of v + 1
  pub others : (u : ℕ) → (u ≡ area_word v.lane → ⊥) → slice_index w.words u ≡ slice_index v.words u

-- every recorded word is as it was recorded, and that is persistent; no other word changed
pub record IsPutBack (v w : View) : Type 0 where
  pub call : IsSameCall v w
  pub working : IsWorking w
  pub log : w.log ≡ v.log
  pub drained : w.changes ≡ []
  pub restored : AreRestored w
  pub others : (u : ℕ) → is_recorded v.log.records u ≡ false → slice_index w.words u ≡ slice_index v.words u

-- a word that may be recorded: the lane may write it, knows it, and finds no block by it
pub record CanSnapshot (v : View) (w : ℕ) : Type 0 where
  pub user : IsUserWord v w
  pub quiet : TellsNoBlock v w

-- records of these spans stand behind those that there were, drained as they are, with the words that the spans had
pub record IsSnapshot (spans : List Span) (v w : View) : Type 0 where
  pub stays : Stays v w
  pub working : IsWorking w
  pub records : w.log.records ≡ v.log.records ++ map (recorded_in v) spans
  pub entries : w.log.entries ≡ v.log.entries

-- a word has this value, and no other word changed
pub record IsWrittenWord (v : View) (word x : ℕ) (w : View) : Type 0 where
  pub call : IsSameCall v w
  pub working : IsWorking w
  pub log : w.log ≡ v.log
  pub there : slice_index w.words word ≡ x
  pub others : (u : ℕ) → (u ≡ word → ⊥) → slice_index w.words u ≡ slice_index v.words u

-- What the view finds of blocks is as at the opening: what describes the chunks that were taken, and the blocks that its locks are for. A chunk that was
-- free some lane may have made a run since, whose blocks no lock is for.
pub record FindsOpening (o : Opening) (v : View) : Type 0 where
  pub lane : v.lane < v.lanes
  pub lanes : v.lanes ≡ o.lanes
  pub size : length v.words ≡ length o.words
  pub descriptors : (page : ℕ) → IsChunk o.lanes page → is_free_chunk (slice_index o.words) o.lanes page ≡ false
      → slice_index v.words (descriptor_word o.lanes page) ≡ slice_index o.words (descriptor_word o.lanes page)
  pub locks : All (λ (l : Lock). IfSome l.block (λ lines. block_at o.lanes o.words l.line ≡ Some lines)) v.locks
