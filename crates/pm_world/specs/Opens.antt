-- HOW A WORLD OPENS: what the words that lanes share are, and what each lane's view is, before any
-- lane made a step. The pool's words are recovered ones, and nothing of the heap is wrong; each
-- lane's log is retired; no lock is held, and no number drawn; the occupancy words are what the
-- pool's words take.
use Rattle.std.specs.Prelude.{◌≡◌, ℕ, zero, suc, ◌+◌, ◌-◌, ◌*◌, ◌/◌, ◌%◌, ◌^◌, ◌<◌, ◌≤◌, nat_lt, length}
use Rattle.std.specs.Prelude.{slice_index, Bool, true, false, cond, not, ◌&&◌, ◌||◌, List, None, Some}
use Rattle.std.specs.List.{list_any, range_with_len}
use Rattle.pm_layout.specs.Areas.{greatest_generation, undo_slots, word_of_generation, word_of_seal, line_of_slot}
use Rattle.pm_layout.specs.Chunks.{words_of, chunks_of, word_of_chunk, word_of_descriptor}
use Rattle.pm_layout.specs.Sizes.{blocks_of}
use Rattle.pm_image.specs.HeapFaults.{heap_fault}
use Rattle.pm_image.specs.Logs.{generation_word}
use Rattle.pm_image.specs.Means.{IsMeaning}
use Rattle.pm_objects.specs.declared.pool.PoolView.{PoolView}
use Rattle.pm_recover.specs.Recovery.{IsRecovered}
use Rattle.pm_record.specs.Undo.{undo_of}
use Rattle.pm_record.specs.declared.undo.Undo.{Undo}
use Rattle.pm_view.specs.Claims.{is_run, is_huge}
use Rattle.pm_view.specs.Places.{Block, Descr, Small, Big, Root, in_span, is_place}
use Rattle.pm_view.specs.View.{Constants, idle}
use Rattle.pm_world.specs.Lanes.{is_occupancy}
use Rattle.pm_world.specs.Logs.{slot_list}
use Rattle.pm_world.specs.Memory.{Memory, bit, cells_of}
use Rattle.pm_world.specs.Memory.{PoolWord, LockWord, ZoneLock, CommitCounter, StopWord}
use Rattle.pm_world.specs.Sizes.{ObjectsFit}
use Rattle.pm_world.specs.World.{Opening, Views, Past, World}

-- the lane's log is retired at this generation: no seal, and no slot has a record of it, or of one
-- to come
pub record IsRetired (o : Opening) (lane generation : ℕ) : Type 0 where
  pub stored : slice_index o.words (word_of_generation o.shape lane) ≡ generation
  pub first : 1 ≤ generation
  pub last : generation ≤ greatest_generation o.shape
  pub unsealed : slice_index o.words (word_of_seal o.shape lane) ≡ 0
  pub stale : (j : ℕ) (u : Undo) → j < undo_slots o.shape
      → undo_of (slot_list (λ i. slice_index o.words (8 * line_of_slot o.shape lane j + i)))
      ≡ Some u
      → u.generation < generation

-- how many lanes run, their constants, and the memory, before any step
pub record IsStart (o : Opening) (mem : Memory) (fixed : ℕ → Constants) : Type 0 where
  pub some_lanes : 1 ≤ o.lanes
  pub most_lanes : o.lanes ≤ o.shape.lanes
  pub few_lanes : o.lanes ≤ 32
  pub words : (w : ℕ) → mem (PoolWord w) ≡ slice_index o.words w
  pub locks : (l : ℕ) → mem (LockWord l) ≡ 0
  pub zone_locks : (z : ℕ) → mem (ZoneLock z) ≡ 0
  pub counter : mem CommitCounter ≡ 0
  pub stop : mem StopWord ≡ 0
  pub lane : (k : ℕ) → (fixed k).lane ≡ k
  pub shape : (k : ℕ) → (fixed k).shape ≡ o.shape
  pub lanes : (k : ℕ) → (fixed k).lanes ≡ o.lanes

-- the same, over words of the pool's size, and each lane's log is retired at its generation
pub record IsOpening (o : Opening) (mem : Memory) (fixed : ℕ → Constants) (generation : ℕ → ℕ)
    : Type 0 where
  pub start : IsStart o mem fixed
  pub size : length o.words ≡ words_of o.shape
  pub small : (w : ℕ) → slice_index o.words w < 2 ^ 64
  pub retired : (k : ℕ) → k < o.shape.lanes → IsRetired o k (generation k)

-- each lane was asked nothing
abbrev pub idle_views : (ℕ → Constants) → (ℕ → ℕ) → Views
idle_views fixed generation k = idle (fixed k) (generation k)

-- ---- WHAT THE WORDS TAKE: of a run each block that is allocated, and the bits past its blocks;
-- of a page that is no run each bit; of a zone each run, and each chunk of a huge block
abbrev pub descriptor : Opening → ℕ → ℕ
descriptor o c = slice_index o.words (word_of_descriptor o.shape c)

abbrev pub is_in_huge : Opening → ℕ → Bool
is_in_huge o c =
    list_any (λ f. is_huge (descriptor o f) && in_span f (descriptor o f / 256) c)
    (range_with_len 0 (chunks_of o.shape))

abbrev pub takes : Opening → Block → Bool
takes o (Small c i) =
    not (is_run (descriptor o c) && nat_lt i (blocks_of (descriptor o c / 256)))
    || bit (slice_index o.words (word_of_chunk o.shape c)) i
takes o (Big c) = is_run (descriptor o c) || is_in_huge o c
takes o Root = true

-- chunk f is the first of a huge block that has chunk c
abbrev pub is_head : Opening → ℕ → ℕ → Bool
is_head o f c =
    is_place o.shape (Descr f) && (is_huge (descriptor o f) && in_span f (descriptor o f / 256) c)

-- the first such chunk from f down, among so many; else the chunk itself
abbrev pub nearest : Opening → ℕ → ℕ → ℕ → ℕ
nearest o c zero f = c
nearest o c (suc n) f = cond (is_head o f c) f (nearest o c n (f - 1))

abbrev pub first_of : Opening → ℕ → ℕ
first_of o c = nearest o c (suc (c % 64)) c

-- the occupancy words are what the pool's words take
abbrev pub IsTaken : Opening → Memory → Type 0
IsTaken o mem =
    (a : Block) → is_occupancy o.shape a ≡ true → (cells_of o.shape mem).occ a ≡ takes o a

-- THE HISTORY BEFORE ANY STEP: no call; runs and huge blocks are those of the descriptors; and no
-- block is held
abbrev pub past_before : Opening → Views → Past
past_before o views = record {
  drew = views;
  length = 0;
  decided = λ n. false;
  runs = λ c. is_place o.shape (Descr c) && is_run (descriptor o c);
  geo = record { first = first_of o; class = λ c. descriptor o c / 256 };
  holder = λ a. 0;
}

-- a world of idle lanes; its history is empty, and each object fits its block
abbrev pub OpensIdle : Opening → Memory → (ℕ → Constants) → (ℕ → ℕ) → Type 0
OpensIdle o mem fixed generation =
    (g : Past) × World o mem (idle_views fixed generation) g × (g.length ≡ 0) × ObjectsFit o g
    × (g ≡ past_before o (idle_views fixed generation))

-- THE OPENING LAW: a world opens
abbrev pub Opens : Type 0
Opens = (o : Opening) (mem : Memory) (fixed : ℕ → Constants) (generation : ℕ → ℕ)
    → IsOpening o mem fixed generation
    → heap_fault (slice_index o.words) o.shape.lanes o.shape.zones ≡ None
    → IsTaken o mem → OpensIdle o mem fixed generation

-- WHAT RECOVERY LEAVES OPENS A WORLD of however many of the pool's lanes, each at the generation
-- that its area has: of an image that means a pool, recovered
abbrev pub RecoveredOpens : Type 0
RecoveredOpens = (before : List ℕ) (pool : PoolView) (o : Opening)
    → IsMeaning before pool → IsRecovered before o.words pool.lanes
    → o.shape.lanes ≡ pool.lanes → o.shape.zones ≡ pool.zones
    → ((w : ℕ) → slice_index o.words w < 2 ^ 64)
    → (mem : Memory) (fixed : ℕ → Constants) → IsStart o mem fixed → IsTaken o mem
    → OpensIdle o mem fixed (generation_word o.words)
