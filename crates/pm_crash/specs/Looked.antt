-- WHAT A LANE AT WORK KNOWS of blocks, objects and the root, with no bits in it; and the first refusal
-- of an operation by its lists and by what it looked at.
use Rattle.std.specs.Prelude.{◌≡◌, ◌⊎◌, ℕ, zero, suc, ◌+◌, ◌-◌, ◌*◌, ◌/◌, ◌%◌, ◌^◌, ◌<◌, ◌≤◌, Bool, true, false, Contains, List, map, take, drop, Option, None, Some}
use Rattle.std.specs.Option.{option_map}
use Rattle.pm_layout.specs.Chunks.{chunks_of}
use Rattle.pm_layout.specs.Sizes.{blocks_of}
use Rattle.pm_objects.specs.declared.calls.Operation.{Operation}
use Rattle.pm_objects.specs.declared.refusal.Refusal.{Refusal}
use Rattle.pm_objects.specs.declared.ids.Oid.{Oid}
use Rattle.pm_objects.specs.declared.pool.PoolView.{PoolView}
use Rattle.pm_header.specs.declared.header.Header.{Header}
use Rattle.pm_model.specs.Items.{Items, PlainPool, bytes_at, bytes_of, is_root, new_item, plain_pool}
use Rattle.pm_model.specs.Refusals.{Seen, is_not_held}
use Rattle.pm_model.specs.Transaction.{covered_words, is_gone}
use Rattle.pm_view.specs.Claims.{class, first}
use Rattle.pm_view.specs.Entries.{Entry, turn}
use Rattle.pm_view.specs.Places.{Place, InRun, InHuge, Descr, RootWord, Block, Small, Big, Root, in_span}
use Rattle.pm_view.specs.View.{View}
use Rattle.pm_view.specs.Views.{value_in}
use Rattle.pm_world.specs.Lanes.{is_occupancy}
use Rattle.pm_world.specs.Memory.{bit}
use Rattle.pm_world.specs.States.{State, Diff, given}
use Rattle.pm_crash.specs.Looks.{ids_freed, ids_sized}
use Rattle.pm_crash.specs.Footprints.{bit_before, has_found}
use Rattle.pm_crash.specs.HeapChanges.{Frees, Makes}
use Rattle.pm_crash.specs.OpenRuns.{no_pool}
use Rattle.pm_crash.specs.OwnBlocks.{own_span}
use Rattle.pm_crash.specs.Sim.{Agrees, StandIn, bits_now, change_so_far, is_kept_block, known_offset, lists_of, sees_at, tx_with}
use Rattle.pm_crash.specs.Spelled.{Holds}

-- ---- WORDS OF A BLOCK

-- word k of a block, counted from its header on; how many words it has
abbrev pub word_place : View → Block → ℕ → Place
word_place v (Small c i) k = InRun c (8 * (1 + class v.claims c * i) + k)
word_place v (Big f) k = InHuge (f + k / 512) (k % 512)
word_place v Root k = RootWord

abbrev pub words_in : View → Block → ℕ
words_in v (Small c i) = 8 * class v.claims c
words_in v (Big f) = 512 * own_span v f
words_in v Root = 0

-- ---- THE ENTRIES SO FAR are of blocks of its own, and of blocks that it found

-- a place that the call changes: whether a block is allocated; a word of a block of its own that is
-- to be an object, or that was one and is freed again; a word after the header of one that it found
abbrev pub IsChanged : View → Place → Type 0
IsChanged v p = (B : Block) × (k : ℕ) × (p ≡ word_place v B k) × (k < words_in v B)
    × ((is_kept_block v false B ≡ true)
    ⊎ ((has_found v B ≡ true) × (is_occupancy v.fixed.shape B ≡ true) × (8 ≤ k)))

abbrev pub ChangesAt : View → Diff → Place → Type 0
ChangesAt v d (InRun c zero) = Unit {0}
ChangesAt v d (InRun c (suc w)) = IsChanged v (InRun c (suc w))
ChangesAt v d (InHuge c w) = IsChanged v (InHuge c w)
ChangesAt v d (Descr c) = given (turn d (Big c)) ≡ true
ChangesAt v d RootWord = ⊥

pub record Enters (v : View) (entries : List Entry) : Type 0 where
  -- it makes blocks of its own, which its operations made, and frees blocks that it found
  pub makes : (B : Block) → Makes (change_so_far v entries) B → is_kept_block v false B ≡ true
  pub frees : (B : Block) → Frees (change_so_far v entries) B → has_found v B ≡ true
  -- of a run, one that a run of this class has; of whole chunks, some of one zone, with the
  -- descriptor that says so
  pub of_run : (c i : ℕ) → Makes (change_so_far v entries) (Small c i)
      → (c < chunks_of v.fixed.shape) × (i < blocks_of (class v.claims c))
  pub of_zone : (f : ℕ) → Makes (change_so_far v entries) (Big f)
      → (f < chunks_of v.fixed.shape) × (1 ≤ own_span v f) × (f % 64 + own_span v f ≤ 64)
  pub says : (f b : ℕ) → Makes (change_so_far v entries) (Big f) → b < 64
      → change_so_far v entries (Descr f) b ≡ Some (bit (2 + 256 * own_span v f) b)
  -- of which it makes nothing else
  pub no_run : (f c i : ℕ) → Makes (change_so_far v entries) (Big f)
      → in_span f (own_span v f) c ≡ true → Makes (change_so_far v entries) (Small c i) → ⊥
  pub no_other : (f c : ℕ) → Makes (change_so_far v entries) (Big f)
      → in_span f (own_span v f) c ≡ true → Makes (change_so_far v entries) (Big c) → c ≡ f
  -- and nothing else is changed
  pub changes : (p : Place) (b : ℕ) → given (change_so_far v entries p b) ≡ true
      → ChangesAt v (change_so_far v entries) p

-- ---- OBJECTS

-- an object stands in the block: the lane found it and did not free it, or its call made it
abbrev pub StandsNow : View → List Entry → Block → Type 0
StandsNow v entries B =
    ((has_found v B ≡ true) × (given (turn (change_so_far v entries) B) ≡ false))
    ⊎ Makes (change_so_far v entries) B

-- a huge block's chunks are its to the lane
abbrev pub IsWholeTo : View → Block → Type 0
IsWholeTo v (Big f) = (c : ℕ) → in_span f (own_span v f) c ≡ true
    → first v.fixed.shape v.claims c ≡ f
IsWholeTo v B = Unit {0}

pub record IsObject (v : View) (entries : List Entry) (B : Block) : Type 0 where
  pub inside : is_occupancy v.fixed.shape B ≡ true
  pub stands : StandsNow v entries B
  pub whole : IsWholeTo v B

-- THE LANE KNOWS A BIT of a block as its call has it: the call gives it, or the lane saw it so before
-- in a block that it found
abbrev pub KnowsBit : View → List Entry → Block → Place → ℕ → Bool → Type 0
KnowsBit v entries B p b y = (change_so_far v entries p b ≡ Some y)
    ⊎ ((change_so_far v entries p b ≡ None) × (has_found v B ≡ true)
    × (given (turn (change_so_far v entries) B) ≡ false)
    × (sees_at v p b ≡ true) × (bit_before v p b ≡ Some y))

-- and word k of it
pub record KnowsWord (v : View) (entries : List Entry) (B : Block) (k x : ℕ) : Type 0 where
  pub small : x < 2 ^ 64
  pub bits : (b : ℕ) → b < 64 → KnowsBit v entries B (word_place v B k) b (bit x b)

-- ---- WHAT WAS LOOKED AT, as a pool and its objects

-- the size that the lane knows of an object at an offset
abbrev pub size_seen : View → ℕ → Option ℕ
size_seen v off = value_in v (off / 8 - 7)

abbrev pub items_seen : View → Items
items_seen v off = option_map (λ n. new_item 0 n None) (size_seen v off)

-- the pool, with this root
abbrev pub pool_seen : View → Option ℕ → PlainPool
pool_seen v root = record no_pool {
  id = v.fixed.pool;
  lanes = v.fixed.shape.lanes;
  zones = v.fixed.shape.zones;
  root = root;
}

-- THE FIRST REFUSAL of an operation, by the lane's lists and by what it looked at: the sizes that it
-- knows, the root, and what it saw of locks, blocks and numbers
abbrev pub refusal_by : Seen → View → Option ℕ → Operation → Option Refusal
refusal_by seen v root op = Rattle.pm_model.specs.Refusals.refusal_of seen
    (tx_with v (pool_seen v root) (items_seen v)) op

-- the lane knows the size of the object at an offset
pub record KnowsSize (v : View) (entries : List Entry) (off : ℕ) : Type 0 where
  pub block : Block
  pub at : known_offset v block ≡ off
  pub object : IsObject v entries block
  pub size : ℕ
  pub knows : KnowsWord v entries block 1 size
  pub seen : size_seen v off ≡ Some size

-- and of each object that the operation asks for, which it holds and did not free
abbrev pub KnowsSizes : View → List Entry → Option ℕ → Operation → Type 0
KnowsSizes v entries root op = (id : Oid) (write : Bool) → Contains (ids_sized (lists_of v) op) id
    → is_not_held (tx_with v (pool_seen v root) (items_seen v)) write id ≡ false
    → is_gone (lists_of v) id.off ≡ false → KnowsSize v entries id.off

-- the root is as it was looked at, as far as the operation frees an object
abbrev pub HasRoot : View → Option ℕ → Operation → PlainPool → Type 0
HasRoot v root op pool = (id : Oid) → Contains (ids_freed (lists_of v) op) id
    → is_not_held (tx_with v (pool_seen v root) (items_seen v)) true id ≡ false
    → is_gone (lists_of v) id.off ≡ false → is_root pool.root id.off ≡ is_root root id.off

-- IT IS THE MODEL'S FIRST REFUSAL, from whatever bits and whatever pool
abbrev pub RefusalIs : Type 0
RefusalIs = (v : View) (entries : List Entry) (seen : Seen) (root : Option ℕ) (op : Operation)
    → Enters v entries → KnowsSizes v entries root op
    → (kept : Bool) (classes : ℕ → ℕ) (s : State) (header : Header) (pool : PoolView) (copy : Items)
    → Agrees classes v kept s → Holds v.fixed.shape classes s header pool
    → header.id ≡ v.fixed.pool → StandIn v.fixed.shape classes (bits_now v entries s) copy
    → HasRoot v root op (plain_pool pool)
    → Rattle.pm_model.specs.Refusals.refusal_of seen (tx_with v (plain_pool pool) copy) op
    ≡ refusal_by seen v root op

-- ---- WHAT IS READ

-- the lane knows the words that a range of an object covers. The words are given by their numbers
pub record KnowsRange (v : View) (entries : List Entry) (off at len : ℕ) (words : ℕ → ℕ)
    : Type 0 where
  pub object : KnowsSize v entries off
  pub inside : at + len ≤ object.size
  pub knows : (i : ℕ) → Contains (covered_words (off + at) len) i
      → KnowsWord v entries object.block (i - (off / 8 - 8)) (words i)

-- the bytes of the range, by its words
abbrev pub bytes_seen : (ℕ → ℕ) → ℕ → ℕ → ℕ → List ℕ
bytes_seen words off at len =
    take len (drop (at % 8) (Rattle.pm_words.specs.Words.bytes_of (map words (covered_words (off + at) len))))

-- THEY ARE THE COPY'S, from whatever bits
abbrev pub ReadIs : Type 0
ReadIs = (v : View) (entries : List Entry) (off at len : ℕ) (words : ℕ → ℕ)
    → Enters v entries → KnowsRange v entries off at len words
    → (kept : Bool) (classes : ℕ → ℕ) (s : State) (header : Header) (pool : PoolView) (copy : Items)
    → Agrees classes v kept s → Holds v.fixed.shape classes s header pool
    → StandIn v.fixed.shape classes (bits_now v entries s) copy
    → bytes_at at len (bytes_of copy off) ≡ bytes_seen words off at len
