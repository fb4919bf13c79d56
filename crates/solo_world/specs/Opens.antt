-- How a world begins: the words that recovery leaves, no lane having made a step.
use Rattle.std.specs.Prelude.{◌≡◌, ◌⊎◌, ℕ, ◌+◌, ◌^◌, ◌<◌, ◌≤◌, Bool, IsTrue, All, Contains, List, [], length, slice_index, true, false, Some, None}
use Rattle.std.specs.Int.{bit_at}
use Rattle.std.specs.Option.{ForSome}
use Rattle.pm_record.specs.Undo.{undo_of}
use Rattle.pm_record.specs.declared.undo.Undo.{Undo}
use Rattle.solo_view.specs.declared.occ.Occ.{Occ}
use Rattle.solo_view.specs.Counts.{IsAtStop, max_changes}
use Rattle.solo_view.specs.Held.{is_held}
use Rattle.solo_view.specs.Occupancy.{is_taken}
use Rattle.solo_view.specs.Log.{no_log}
use Rattle.solo_view.specs.Log.Phase.{Idle}
use Rattle.solo_view.specs.View.{Taken, View}
use Rattle.solo_view.specs.Views.{reserves}
use Rattle.pm_image.specs.Logs.{generation_word, seal_word, undo_slot}
use Rattle.solo_world.specs.Fits.{IsLane}
use Rattle.solo_world.specs.Heap.{Heap, IsOcc}
use Rattle.solo_world.specs.History.{AreNumbered, Entry, entries_by}
use Rattle.solo_world.specs.Lawful.{OnlyFilled, generation_limit}
use Rattle.solo_world.specs.Memory.{Memory, occ_at}
use Rattle.solo_world.specs.Memory.Location.{PoolWord, LockWord, ZoneLock, CommitCounter, StopWord}
use Rattle.solo_world.specs.Opening.{Opening, IsSound}
use Rattle.solo_world.specs.World.{Views, World, may_draw_count}

-- the lane's log is empty: it is not sealed, and no slot holds a record of its generation or of one to come
pub record IsClean (o : Opening) (k : ℕ) : Type 0 where
  pub unsealed : seal_word o.words k ≡ 0
  pub first_generation : 1 ≤ generation_word o.words k
  pub last_generation : generation_word o.words k ≤ generation_limit
  pub stale : (slot : ℕ) (u : Undo) → slot < 64 → undo_of (undo_slot o.words k slot) ≡ Some u → u.generation < generation_word o.words k

-- the view of lane k before its first step
pub record IsFresh (o : Opening) (k : ℕ) (v : View) : Type 0 where
  pub lane : IsLane o k v
  pub words : v.words ≡ o.words
  pub nothing_known : v.known ≡ []
  pub nothing_changed : v.changes ≡ []
  pub no_calls : v.calls ≡ 0
  pub idle : v.log ≡ no_log Idle
  pub no_locks : v.locks ≡ []
  pub nothing_reserved : v.reserved ≡ []
  pub nothing_freed : v.freed ≡ []
  pub no_zones : v.zone_locks ≡ []
  pub nothing_seen : v.seen ≡ []
  pub no_number : v.number ≡ None
  pub no_entries : v.entries ≡ []

-- the memory as it is opened: these words, the bits set of what is taken by them, and all other volatile words 0
pub record IsOpened (o : Opening) (mem : Memory) : Type 0 where
  pub words : (w : ℕ) → mem (PoolWord w) ≡ slice_index o.words w
  pub locks : (line : ℕ) → mem (LockWord line) ≡ 0
  pub set : (at : Occ) (bit : ℕ) → IsOcc o.lanes o.zones at → bit < 64 → bit_at (mem (occ_at at)) bit ≡ 1 → is_taken (slice_index o.words) o.lanes at bit ≡ true
  pub taken : (at : Occ) (bit : ℕ) → IsOcc o.lanes o.zones at → bit < 64 → is_taken (slice_index o.words) o.lanes at bit ≡ true → bit_at (mem (occ_at at)) bit ≡ 1
  pub zones : (zone : ℕ) → mem (ZoneLock zone) ≡ 0
  pub counter : mem CommitCounter ≡ 0
  pub stop_word : mem StopWord ≡ 0

-- ---- between calls

-- The view of lane k between two calls: its log is empty and nothing is undrained but words that it filled, it holds no lock, and what it reserved is free;
-- what it knows it holds.
pub record IsRested (o : Opening) (k : ℕ) (v : View) : Type 0 where
  pub lane : IsLane o k v
  pub words : v.words ≡ o.words
  pub held : (w : ℕ) → Contains v.known w → IsTrue (is_held v w)
  pub changes : OnlyFilled v
  pub room : length v.changes ≤ max_changes
  pub idle : v.log ≡ no_log Idle
  pub no_locks : v.locks ≡ []
  pub of_pool : All (λ (t : Taken). IsOcc o.lanes o.zones t.at) v.reserved
  pub small : All (λ (t : Taken). t.bits < 2 ^ 64) v.reserved
  pub free : (at : Occ) (bit : ℕ) → reserves v at bit ≡ true → is_taken (slice_index o.words) o.lanes at bit ≡ false
  pub nothing_freed : v.freed ≡ []
  pub within : ForSome v.stop (λ stop. v.calls ≤ stop)

-- the history of calls that are over: what they made final is in the words, so no difference is left of them
pub record IsOver (o : Opening) (views : Views) (log : List Entry) (decided : ℕ → Bool) : Type 0 where
  pub numbered : AreNumbered 1 log
  pub of_lanes : (e : Entry) → Contains log e → e.lane < o.lanes
  pub made : All (λ (e : Entry). e.difference ≡ []) log
  pub all : (e : Entry) → Contains log e → decided e.number ≡ true
  pub undrawn : (n : ℕ) → length log < n → decided n ≡ false
  pub own_entries : (k : ℕ) → k < o.lanes → entries_by k log ≡ (views k).entries

-- the memory between calls: these words, no lock held, the bits set of what is taken by them or some lane has, and as many numbers drawn as calls are over
pub record IsStanding (o : Opening) (mem : Memory) (views : Views) (log : List Entry) : Type 0 where
  pub words : (w : ℕ) → mem (PoolWord w) ≡ slice_index o.words w
  pub locks : (line : ℕ) → mem (LockWord line) ≡ 0
  pub heap : Heap o (slice_index o.words) mem views
  pub counter : mem CommitCounter ≡ length log
  pub counter_room : mem CommitCounter + may_draw_count views o.lanes < generation_limit + 32
  pub stop_word : (mem StopWord ≡ 0) ⊎ ((k : ℕ) × (k < o.lanes) × IsAtStop (views k))

-- a world begins anew, from the words as they stand between calls
abbrev pub BetweenCallsLaw : Type 0
BetweenCallsLaw = (o : Opening) (mem : Memory) (views : Views) (log : List Entry) (decided : ℕ → Bool)
    → IsSound o → ((k : ℕ) → k < o.lanes → IsClean o k) → ((k : ℕ) → k < o.lanes → IsRested o k (views k)) → IsOver o views log decided → IsStanding o mem views log
    → World o mem views log decided

-- a world begins
abbrev pub OpeningLaw : Type 0
OpeningLaw = (o : Opening) (mem : Memory) (views : Views)
    → IsSound o → ((k : ℕ) → k < o.lanes → IsClean o k) → ((k : ℕ) → k < o.lanes → IsFresh o k (views k)) → IsOpened o mem → World o mem views [] (λ _. false)
