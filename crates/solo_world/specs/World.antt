-- The invariant of the words that lanes share.
use Rattle.std.specs.Prelude.{◌≡◌, ℕ, zero, suc, ◌+◌, ◌<◌, ◌⊎◌, ◌&&◌, nat_lt, Bool, true, false, if◌then◌else◌, Any, Contains, List, length, Some, is_none}
use Rattle.std.specs.Int.{bit_at}
use Rattle.std.specs.List.{list_any}
use Rattle.solo_view.specs.Counts.{IsAtStop}
use Rattle.solo_view.specs.Log.{Final}
use Rattle.solo_view.specs.Steps.{Step}
use Rattle.solo_view.specs.Steps.Step.{NumberSeen}
use Rattle.solo_view.specs.View.{View, Lock}
use Rattle.solo_world.specs.Course.{flight}
use Rattle.solo_world.specs.Fits.{LaneFits}
use Rattle.solo_world.specs.Heap.{AreNewRuns, Heap, heap_words}
use Rattle.solo_world.specs.History.{Entry, settled, AreNumbered, entries_by, Flies}
use Rattle.solo_world.specs.Lawful.{generation_limit}
use Rattle.solo_world.specs.Memory.{Memory}
use Rattle.solo_world.specs.Memory.Location.{PoolWord, LockWord, CommitCounter, StopWord}
use Rattle.solo_world.specs.Opening.{Opening, Guards, IsLivingWord, IsSound}
use Rattle.solo_world.specs.Entries.{is_in_log}

-- the views of the lanes, by number
abbrev pub Views : Type 0
Views = ℕ → View

-- the bit of a lock word that stands for a hold
abbrev pub hold_bit : ℕ → Bool → ℕ
hold_bit k true = 32 + k
hold_bit k false = k

-- some lane holds the lock that this bit of the line's lock word stands for
abbrev pub IsHold : Views → ℕ → ℕ → ℕ → Type 0
IsHold views lanes line bit = (k : ℕ) × (k < lanes) × Any (λ (l : Lock). (l.line ≡ line) × (bit ≡ hold_bit k l.write)) (views k).locks

-- the step saw that fewer numbers were drawn than the limit
abbrev pub is_low : Step → Bool
is_low (NumberSeen n) = nat_lt n generation_limit
is_low s = false

-- the lane's call may draw: it has not, and saw that it may
abbrev pub may_draw : View → Bool
may_draw v = is_none v.number && list_any is_low v.seen

-- how many of the first lanes may draw
unfoldable pub may_draw_count : Views → ℕ → ℕ
may_draw_count views zero = 0
may_draw_count views (suc k) = may_draw_count views k + (if may_draw (views k) then 1 else 0)

-- an entry is of a lane, which is in flight with it until it is decided, and of words that locks guard
pub record EntryFits (o : Opening) (views : Views) (decided : ℕ → Bool) (e : Entry) : Type 0 where
  pub of_lane : e.lane < o.lanes
  pub in_flight : decided e.number ≡ false → flight (views e.lane) ≡ Some e.number
  pub guarded : (f : Final) → Contains e.difference f → (line : ℕ) × Guards o line f.word

-- One clause a lane, a word, a lock word, an entry. The history and which of its numbers are decided are the proof's alone.
pub record World (o : Opening) (mem : Memory) (views : Views) (log : List Entry) (decided : ℕ → Bool) : Type 0 where
  pub sound : IsSound o
  pub each_lane : (k : ℕ) → k < o.lanes → LaneFits o mem (settled o log decided) (Flies log decided k) k (views k)
  -- a living word that no lane's log would restore or redo is settled
  pub each_word : (w : ℕ) → IsLivingWord o w → ((k : ℕ) → k < o.lanes → is_in_log (views k) w ≡ false) → mem (PoolWord w) ≡ settled o log decided w
  -- a lock word has no bit but of a lane that holds the lock
  pub each_line : (line bit : ℕ) → bit_at (mem (LockWord line)) bit ≡ 1 → IsHold views o.lanes line bit
  pub each_entry : (e : Entry) → Contains log e → EntryFits o views decided e
  pub numbered : AreNumbered 1 log
  pub undrawn : (n : ℕ) → length log < n → decided n ≡ false
  pub counter : mem CommitCounter ≡ length log
  pub counter_room : mem CommitCounter + may_draw_count views o.lanes < generation_limit + 32
  pub own_entries : (k : ℕ) → k < o.lanes → entries_by k log ≡ (views k).entries
  -- each chunk that was free has no block so far: this world begins anew after each call that makes or frees one
  pub new_runs : AreNewRuns o (λ w. mem (PoolWord w))
  pub heap : Heap o (heap_words o mem) mem views
  pub stop_word : (mem StopWord ≡ 0) ⊎ ((k : ℕ) × (k < o.lanes) × IsAtStop (views k))
