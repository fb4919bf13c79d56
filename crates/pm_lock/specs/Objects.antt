-- WHERE AN OBJECT'S LOCK IS, and what a look under it tells: by the descriptor of its chunk and,
-- where that is a run's, by the bitmap.
use Rattle.std.specs.Prelude.{◌≡◌, ◌≢◌, ◌⊎◌, ℕ, ◌+◌, ◌-◌, ◌*◌, ◌/◌, ◌%◌, ◌<◌, ◌≤◌, nat_le, Bool, true, false, Contains, if◌then◌else◌, ◌==◌, ◌&&◌, ◌||◌, List, [], ◌∷◌, Option, None, Some}
use Rattle.std.specs.Int.{bit_at}
use Rattle.pm_layout.specs.declared.shape.Shape.{Shape}
use Rattle.pm_layout.specs.Chunks.{chunk_at, chunks_of, is_chunk_page, word_of_chunk, word_of_descriptor, word_of_root}
use Rattle.pm_layout.specs.Sizes.{blocks_of}
use Rattle.pm_model.specs.Places.{can_begin}
use Rattle.pm_objects.specs.declared.ids.Oid.{Oid}
use Rattle.pm_view.specs.Claims.{Claim, SawDescriptor, class, first, found, header_in, holds, is_held_at, is_huge, is_run, locked, making, mine, reads, span}
use Rattle.pm_view.specs.Log.{is_early}
use Rattle.pm_view.specs.Places.{Block, Small, Big, Root, header, in_span}
use Rattle.pm_view.specs.Steps.{Step}
use Rattle.pm_view.specs.Steps.Step.{Load}
use Rattle.pm_view.specs.View.{Numbered, View}
use Rattle.pm_view.specs.Views.{after, after_all, part_in, value_in}
use Rattle.pm_world.specs.Causes.{CountsNew, times_missed}
use Rattle.pm_world.specs.World.{Past, numbered_by}
use Rattle.pm_world.specs.InWorld.{AgreesAt, InWorld, IsSound}
use Rattle.pm_world.specs.Lanes.{is_occupancy}
use Rattle.pm_world.specs.Lawful.{place_in}

-- ---- THE LOCK OF AN OBJECT is that of its header's line, the one before its first byte

-- the id has the form of an object's in the pool
abbrev pub is_placed : Shape → ℕ → Oid → Bool
is_placed sh pool id = id.pool == pool && can_begin sh.lanes sh.zones id.off

abbrev pub line_before : ℕ → ℕ
line_before off = off / 64 - 1

abbrev pub line_of : Shape → ℕ → Oid → Option ℕ
line_of sh pool id = if is_placed sh pool id then Some (line_before id.off) else None

-- the chunk that a line is in
abbrev pub chunk_of_line : Shape → ℕ → ℕ
chunk_of_line sh line = chunk_at sh (line / 64)

-- the line is of a chunk of the pool
abbrev pub is_chunk_line : Shape → ℕ → Bool
is_chunk_line sh line = is_chunk_page sh (line / 64)

-- an object's first byte follows its header's line, which is of a chunk of the pool
pub record IsHeader (sh : Shape) (id : Oid) (line : ℕ) : Type 0 where
  pub before : id.off ≡ 64 * line + 64
  pub chunk : is_chunk_line sh line ≡ true

-- ---- A LOOK, by what was found: the descriptor of the chunk; and the bitmap of a run

-- the descriptor is that of a run of blocks of some lines
abbrev pub has_lines : ℕ → Bool
has_lines descriptor = is_run descriptor && nat_le 1 (descriptor / 256)

abbrev pub looks_at_bitmap : Shape → ℕ → ℕ → Bool → List Step
looks_at_bitmap sh c bitmap true = Load (word_of_chunk sh c) bitmap ∷ []
looks_at_bitmap sh c bitmap false = []

abbrev pub finds : Shape → ℕ → ℕ → ℕ → List Step
finds sh line descriptor bitmap =
    Load (word_of_descriptor sh (chunk_of_line sh line)) descriptor
    ∷ looks_at_bitmap sh (chunk_of_line sh line) bitmap (has_lines descriptor)

-- an allocated block begins at the line of a chunk with these: a huge block does at line 0, and
-- one of a run after the bitmap's line
abbrev pub shows_small : ℕ → ℕ → ℕ → Bool
shows_small lines bitmap at =
    (nat_le 1 lines && nat_le 1 at) && ((at - 1) % lines == 0 && bit_at bitmap ((at - 1) / lines) == 1)

abbrev pub shows : ℕ → ℕ → ℕ → Bool
shows descriptor bitmap at =
    if is_run descriptor then shows_small (descriptor / 256) bitmap at
    else is_huge descriptor && at == 0

-- A LANE MAY LOOK under the lock of a line of a chunk: it holds the lock, its call has no number
-- yet, and it makes no run
pub record CanLook (v : View) (sh : Shape) (line : ℕ) : Type 0 where
  pub shape : v.fixed.shape ≡ sh
  pub lane : v.fixed.lane < sh.lanes
  pub chunk : is_chunk_line sh line ≡ true
  pub held : holds v.claims line ≡ true
  pub early : is_early v.log.phase ≡ true
  pub unmaking : (c : ℕ) → making sh v.claims c ≡ false

-- ---- WHAT A LOOK FINDS FITS

-- the lane has the block: it found it, or it is its own
abbrev pub has : View → Block → Bool
has v B = mine v.fixed.shape v.claims B || found v.fixed.shape v.claims B

-- the blocks that a lane has are as it knows them: none that it found is its own; the chunks of a
-- huge one are known as its and, unless the lane makes one a run, as
-- no runs; and those of runs are known as such
pub record HasSound (v : View) : Type 0 where
  pub apart : (B : Block) → mine v.fixed.shape v.claims B ≡ true → found v.fixed.shape v.claims B
      ≡ false
  pub some : (f : ℕ) → has v (Big f) ≡ true → 1 ≤ span v.fixed.shape v.claims f
  pub huge : (f c : ℕ) → has v (Big f) ≡ true → in_span f (span v.fixed.shape v.claims f) c ≡ true
      → making v.fixed.shape v.claims c ≡ false → (first v.fixed.shape v.claims c ≡ f)
      × (class v.claims c ≡ 0)
  pub small : (c i : ℕ) → has v (Small c i) ≡ true → class v.claims c ≢ 0

-- the lane counts at least as many misses of each block as it had counted as it took the numbers of
-- its entries
abbrev pub MissesGrow : View → Type 0
MissesGrow v = (e : Numbered) → Contains v.entries e → (B : Block)
    → times_missed v.fixed.shape B e.claims ≤ times_missed v.fixed.shape B v.claims

-- what the lane knows of runs agrees with the word, and the blocks that the lane has are as it
-- knows them, before the look and after it; and its misses have grown
pub record FitsLook (v : View) (w x : ℕ) : Type 0 where
  pub agrees : AgreesAt v (part_in v w) x
  pub sound : IsSound (after v (Load w x))
  pub has_before : HasSound v
  pub has_after : HasSound (after v (Load w x))
  pub grown : MissesGrow v

-- SO IT IS IN A WORLD
abbrev pub SeenFits : Type 0
SeenFits = (v : View) (w x : ℕ) → InWorld v w x → FitsLook v w x

-- ---- WHAT STAYS: all but the claims; and of these the locks, the blocks that the lane has with
-- what it knows of their words, the root word, and the classes of runs
pub record HasLooked (v w : View) : Type 0 where
  pub same : w ≡ record v { claims = w.claims }
  pub locked : (l : ℕ) → locked w.claims l ≡ locked v.claims l
  pub reads : (l : ℕ) → reads w.claims l ≡ reads v.claims l
  pub making : (c : ℕ) → making v.fixed.shape w.claims c ≡ making v.fixed.shape v.claims c
  pub mine : (B : Block) → mine v.fixed.shape w.claims B ≡ mine v.fixed.shape v.claims B
  pub found : (B : Block) → found v.fixed.shape v.claims B ≡ true → found v.fixed.shape w.claims B
      ≡ true
  pub span : (f : ℕ) → has v (Big f) ≡ true → span v.fixed.shape w.claims f
      ≡ span v.fixed.shape v.claims f
  pub class : (c : ℕ) → class v.claims c ≢ 0 → class w.claims c ≡ class v.claims c
  pub data_ : (u : ℕ) → is_held_at v.fixed.shape v.claims (place_in v u) ≡ true
      → (place_in w u ≡ place_in v u) × (is_held_at v.fixed.shape w.claims (place_in w u) ≡ true)
      × (value_in w u ≡ value_in v u)
  pub root : value_in w (word_of_root v.fixed.shape) ≡ value_in v (word_of_root v.fixed.shape)
  pub missed : (B : Block)
      → times_missed v.fixed.shape B v.claims ≤ times_missed v.fixed.shape B w.claims
  pub sound : IsSound v → IsSound w

-- ---- WHAT IT TELLS

-- of a block of a run its class is known
abbrev pub IsKnownIn : View → Block → Type 0
IsKnownIn v (Small c i) = class v.claims c ≢ 0
IsKnownIn v B = Unit {0}

-- AN OBJECT STANDS at the line: its block begins there, and the lane found it
pub record StandsAt (v : View) (line : ℕ) : Type 0 where
  pub block : Block
  pub inside : is_occupancy v.fixed.shape block ≡ true
  pub known : IsKnownIn v block
  pub begins : header_in v.fixed.shape v.claims block ≡ line
  pub found : found v.fixed.shape v.claims block ≡ true

-- the pool has the block, in runs of these classes
abbrev pub HasBlock : Shape → (ℕ → ℕ) → Block → Type 0
HasBlock sh classes (Small c i) = (c < chunks_of sh) × (i < blocks_of (classes c))
HasBlock sh classes (Big f) = f < chunks_of sh
HasBlock sh classes Root = ⊥

-- the block was missed since these claims: more often than in them, and than as the lane took the
-- number of any of its entries
pub record IsMissedSince (sh : Shape) (old : List Claim) (w : View) (B : Block) : Type 0 where
  pub more : times_missed sh B old < times_missed sh B w.claims
  pub since : (e : Numbered) → Contains w.entries e
      → times_missed sh B e.claims < times_missed sh B w.claims

-- NONE DOES: whatever the classes of the runs are that the lane does not know, each block that
-- would begin there was missed since
abbrev pub MissesAt : View → ℕ → View → Type 0
MissesAt v line w = (classes : ℕ → ℕ)
    → ((c : ℕ) → class w.claims c ≢ 0 → classes c ≡ class w.claims c)
    → (B : Block) → HasBlock v.fixed.shape classes B
    → header v.fixed.shape (record { first = λ c. c; class = classes }) B ≡ line
    → IsMissedSince v.fixed.shape v.claims w B

-- or its chunk was told to be a run of blocks without lines, as it is in no pool without a fault
pub record ToldNoRun (v : View) (line : ℕ) : Type 0 where
  pub descriptor : ℕ
  pub told : Contains v.claims (SawDescriptor (chunk_of_line v.fixed.shape line) descriptor)
  pub run : is_run descriptor ≡ true
  pub no_lines : descriptor / 256 ≡ 0

abbrev pub LookTells : View → ℕ → Bool → View → Type 0
LookTells v line true w = StandsAt w line
LookTells v line false w = MissesAt v line w ⊎ ToldNoRun w line

-- A LOOK THAT FITS leaves this, and tells whether an object stands at the line
abbrev pub LooksTell : Type 0
LooksTell = (v : View) (sh : Shape) (line d b : ℕ) → CanLook v sh line
    → FitsLook v (word_of_descriptor sh (chunk_of_line sh line)) d
    → (has_lines d ≡ true
    → FitsLook (after v (Load (word_of_descriptor sh (chunk_of_line sh line)) d))
    (word_of_chunk sh (chunk_of_line sh line)) b)
    → HasLooked v (after_all v (finds sh line d b)) × LookTells v line (shows d b (line % 64))
    (after_all v (finds sh line d b))

-- ---- WHAT THE CALL DID: it looked, and answers what that tells

-- the view is one of a world, as its last look told
pub record IsOfWorld (v : View) : Type 0 where
  pub word : ℕ
  pub value : ℕ
  pub there : InWorld v word value

pub record LookedAs (at : View → Type 0) (v : View) (sh : Shape) (line : ℕ)
    (there : Bool) : Type 0 where
  pub descriptor : ℕ
  pub bitmap : ℕ
  pub memory : at (after_all v (finds sh line descriptor bitmap))
  pub stays : HasLooked v (after_all v (finds sh line descriptor bitmap))
  pub sound : IsSound (after_all v (finds sh line descriptor bitmap))
  pub world : IsOfWorld (after_all v (finds sh line descriptor bitmap))
  pub tells : LookTells v line there (after_all v (finds sh line descriptor bitmap))

unfoldable pub Looked : {M : Type 0} → (M → View → Type 0) → Shape → ℕ → M → M → Bool → Type 0
Looked at sh line old new there = (v : View) → at old v → CanLook v sh line
    → LookedAs (at new) v sh line there

-- A MISS IS NEW in a call, number n of the lane's history or to be: so that it has its cause
abbrev pub MissesAreNew : Type 0
MissesAreNew = (g : Past) (lane n : ℕ) (v w : View) (line : ℕ) → MissesAt v line w
    → w.entries ≡ numbered_by lane g.drew n
    → (classes : ℕ → ℕ) → ((c : ℕ) → class w.claims c ≢ 0 → classes c ≡ class w.claims c)
    → (B : Block) → HasBlock v.fixed.shape classes B
    → header v.fixed.shape (record { first = λ c. c; class = classes }) B ≡ line
    → CountsNew (times_missed v.fixed.shape B) g lane n w
