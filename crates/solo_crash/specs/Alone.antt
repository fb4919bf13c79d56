-- One lane that makes steps where no other lane makes any, over an image that holds a pool; and what a power failure leaves of its work.
use Rattle.std.specs.Prelude.{◌≡◌, ◌≢◌, ◌⊎◌, ℕ, ◌+◌, ◌*◌, ◌<◌, ◌≤◌, ◌==◌, ◌&&◌, nat_le, not, Bool, true, false, if◌then◌else◌, IsTrue, List, [], ◌∷◌, length, map, slice_index, ◌↔◌, Some}
use Rattle.std.specs.List.{filter, list_all, range_with_len}
use Rattle.std.specs.Option.{ForSome}
use Rattle.pm_header.specs.declared.header.Header.{Header}
use Rattle.pm_objects.specs.Pool.{offsets}
use Rattle.pm_objects.specs.declared.pool.PoolView.{PoolView}
use Rattle.pm_image.specs.Blocks.{blocks}
use Rattle.pm_image.specs.Contents.{offset_in}
use Rattle.pm_image.specs.Logs.{generation_word, recovered_at, undo_slot}
use Rattle.pm_image.specs.Means.{IsMeaning}
use Rattle.solo_model.specs.History.{opened}
use Rattle.solo_model.specs.Names.{Replays}
use Rattle.pm_record.specs.Undo.{is_record}
use Rattle.solo_view.specs.Founds.{IsAlone}
use Rattle.solo_view.specs.Log.{Phase, Recorded, no_log}
use Rattle.solo_view.specs.Log.Phase.{Applying, Clearing, Drawn, Idle, Open, Retiring, Sealing}
use Rattle.solo_view.specs.Occupancy.{IsOccupancy, is_taken}
use Rattle.solo_view.specs.Rights.{is_written}
use Rattle.solo_view.specs.Area.{area_word}
use Rattle.solo_view.specs.Steps.{Step}
use Rattle.solo_view.specs.Steps.Step.{Store}
use Rattle.solo_view.specs.View.{Numbered, View, blank}
use Rattle.solo_memory.specs.Solo.{AreNumbered}
use Rattle.solo_world.specs.Crash.{loses}
use Rattle.solo_world.specs.Opening.{Opening}
use Rattle.solo_world.specs.Opens.{IsClean, IsFresh, IsRested}
use Rattle.solo_world.specs.Records.{generation_of, is_drained_slot, spelled}
use Rattle.solo_world.specs.World.{Views, may_draw}
use Rattle.solo_crash.specs.Held.{HoldsImage}
use Rattle.solo_crash.specs.Leading.{Leads}
use Rattle.solo_crash.specs.Pending.{acts_alone, state_alone}
use Rattle.std.specs.Int.{bit_at}
use Rattle.solo_view.specs.declared.occ.Occ.{Occ}
use Rattle.solo_view.specs.Views.{occ_in}
use Rattle.solo_world.specs.Heap.{IsOcc, has_taken}
use Rattle.solo_world.specs.Lawful.{generation_limit}

-- the image holds a pool and each log is clean; the view is that of lane 0 before its first step, of this pool, and of no table
pub record BeginsAlone (o : Opening) (header : Header) (pool : PoolView) (v : View) : Type 0 where
  pub holds : HoldsImage o.words o.lanes o.zones header pool
  pub clean : (j : ℕ) → j < o.lanes → IsClean o j
  pub fresh : IsFresh o 0 v
  -- its picture of the occupancy words is what the words say
  pub occupied : IsOccupancy v.run_words v.zone_words (slice_index o.words) o.lanes o.zones
  pub of_pool : v.pool ≡ header.id
  pub alone : IsAlone v

-- The lane begins again between two of its calls, over the words as they stand then. An image of these holds a pool, to which its calls so far lead from this
-- one; each log is clean, and it has nothing open or locked, and nothing undrained but words that it filled. Its picture of the occupancy words has what the words say is taken, and what it
-- reserved. Its numbers are its own, and not spent.
pub record BeginsAgain (o : Opening) (header : Header) (pool : PoolView) (v : View) : Type 0 where
  pub now : PoolView
  pub holds : HoldsImage o.words o.lanes o.zones header now
  pub replays : Replays (opened pool) (acts_alone v.entries) (state_alone now v.entries)
  pub clean : (j : ℕ) → j < o.lanes → IsClean o j
  pub rested : IsRested o 0 v
  pub unlocked : v.zone_locks ≡ []
  pub pages : length v.run_words ≡ 1 + 2 * o.lanes + 65 * o.zones
  pub zone_count : length v.zone_words ≡ 32
  pub occupied : (at : Occ) (bit : ℕ) → IsOcc o.lanes o.zones at → bit < 64 → (bit_at (occ_in v at) bit ≡ 1) ↔ ((is_taken (slice_index o.words) o.lanes at bit ≡ true) ⊎ (has_taken v at bit ≡ true))
  pub of_pool : v.pool ≡ header.id
  pub alone : IsAlone v
  pub numbered : AreNumbered 1 v.entries
  pub newest : (n : ℕ) → v.number ≡ Some n → n ≡ length v.entries
  pub closed : may_draw v ≡ false
  pub few : length v.entries < generation_limit + 32

-- it begins, or begins again
abbrev pub Begins : Opening → Header → PoolView → View → Type 0
Begins o header pool v = BeginsAlone o header pool v ⊎ BeginsAgain o header pool v

-- from there the steps led to the view w: the numbers drawn are the lane's own, and it made no more counted calls than up to its stop number
pub record WorksAlone (o : Opening) (header : Header) (pool : PoolView) (v : View) (steps : List Step) (w : View) : Type 0 where
  pub begins : Begins o header pool v
  pub leads : Leads v steps w
  pub numbered : AreNumbered 1 w.entries
  pub within : ForSome w.stop (λ stop. w.calls ≤ stop)

-- the view of a lane that makes no step
abbrev pub idle_view : Opening → ℕ → View
idle_view o j = record blank { lanes = o.lanes; zones = o.zones; lane = j; words = o.words }

-- the views of all lanes, where lane 0 has this one
abbrev pub alone_views : Opening → View → Views
alone_views o w j = if j == 0 then w else idle_view o j

-- the pool as it stands at the view: of the opening's shape, with the words that the view has
abbrev pub standing : Opening → View → Opening
standing o b = record o { words = b.words }

-- no slot of its log has an undrained word
abbrev pub HasDrainedSlots : View → Type 0
HasDrainedSlots v = (slot : ℕ) → slot < 64 → is_drained_slot v slot ≡ true

-- the lane rests: its log is empty, with no call open or one that may record, and no slot of it has an undrained word
pub record Rests (b : View) : Type 0 where
  pub empty : (b.log ≡ no_log Idle) ⊎ (b.log ≡ no_log (Open [] []))
  pub drained : HasDrainedSlots b

-- a call that has drawn its number is decided by no seal so far: its next generation is to be stored, or is stored and not drained
abbrev pub IsUnsealed : Phase → Type 0
IsUnsealed Drawn = Unit {0}
IsUnsealed Retiring = Unit {0}
IsUnsealed phase = ⊥

-- a call whose lane was of this generation as it began has drawn its number, and its deciding store is to come, is made, or is drained; or its log
-- is over
abbrev pub IsDrawnAt : ℕ → View → Phase → Type 0
IsDrawnAt g w Drawn = generation_of w ≡ g
IsDrawnAt g w Sealing = generation_of w ≡ g
IsDrawnAt g w (Applying applied) = Unit {0}
IsDrawnAt g w Clearing = generation_of w ≡ g + 1
IsDrawnAt g w Retiring = generation_of w ≡ g + 1
IsDrawnAt g w Idle = generation_of w ≡ g + 1
IsDrawnAt g w phase = ⊥

-- the calls that drew a number and that the image does not lose, in order
abbrev pub kept_numbered : List ℕ → View → List Numbered
kept_numbered image w = filter (λ (e : Numbered). not (loses image w e.number)) w.entries

-- these calls, one whole call after another, lead from the one pool to another, which the image means; and the allocated blocks of its
-- recovered words are those of that pool's objects, in order
pub record MeansCalls (image : List ℕ) (lanes zones : ℕ) (pool : PoolView) (calls : List Numbered) : Type 0 where
  pub last : PoolView
  pub replays : Replays (opened pool) (acts_alone calls) (state_alone last calls)
  pub means : IsMeaning image last
  pub blocks_are : map offset_in (blocks (recovered_at image lanes) lanes zones) ≡ offsets last.objects

-- the lane may be writing the record: its words lie behind the lanes' areas, under locks that it holds for writing, and are as the view has them
pub record MayRecord (w : View) (r : Recorded) : Type 0 where
  pub some : 1 ≤ length r.old
  pub most : length r.old ≤ 4
  pub behind : 512 + 1024 * w.lanes ≤ r.word
  pub inside : r.word + length r.old ≤ length w.words
  pub own : (i : ℕ) → i < length r.old → IsTrue (is_written w (r.word + i))
  pub present : (i : ℕ) → i < length r.old → slice_index w.words (r.word + i) ≡ slice_index r.old i

-- eight words of a slot, each that of a record or the one that was there: the first is the record's, not all are, and yet the last is the
-- sum of the others
pub record IsTornMatch (was whole slot : List ℕ) : Type 0 where
  pub size : length slot ≡ 8
  pub mixed : (i : ℕ) → i < 8 → (slice_index slot i ≡ slice_index whole i) ⊎ (slice_index slot i ≡ slice_index was i)
  pub begun : slice_index slot 0 ≡ slice_index whole 0
  pub torn : slot ≢ whole
  pub matches : IsTrue (is_record slot)

-- no record of one to four words that passes the test makes, in the opening's generation, a torn match in a slot of lane 0
abbrev pub HasNoTornMatch : Opening → (Recorded → Bool) → Type 0
HasNoTornMatch o test =
    (slot : ℕ) (r : Recorded) (words : List ℕ) → slot < 64 → 1 ≤ length r.old → length r.old ≤ 4 → test r ≡ true
    → IsTornMatch (undo_slot o.words 0 slot) (spelled (generation_word o.words 0) r) words → ⊥

-- the record is of some of these words, and has them for old ones
abbrev pub is_of_words : List ℕ → Recorded → Bool
is_of_words words r = nat_le (r.word + length r.old) (length words) && list_all (λ i. slice_index words (r.word + i) == slice_index r.old i) (range_with_len 0 (length r.old))

-- while the lane's log may grow it is of the opening's generation, or nothing of it is written yet
abbrev pub GrowsFirst : Opening → View → Phase → Type 0
GrowsFirst o w (Open slot pair) = (generation_of w ≡ generation_word o.words 0) ⊎ ((slot ≡ []) × (w.log.records ≡ []))
GrowsFirst o w phase = Unit {0}

-- the step stores the generation of lane 0's log
abbrev pub is_raise : Step → Bool
is_raise (Store w x) = w == area_word 0
is_raise s = false

-- how many of these steps do
unfoldable pub raises : List Step → ℕ
raises [] = 0
raises (s ∷ steps) = (if is_raise s then 1 else 0) + raises steps
