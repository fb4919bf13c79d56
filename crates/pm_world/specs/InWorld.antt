-- WHAT A LOOK AT A WORD TELLS A LANE OF ITS WORLD: that there is one, in which the word has the value found. What follows for the lane's own view of its
-- log, of runs, and of the huge blocks that it found, has no world in it.
use Rattle.std.specs.Prelude.{◌≡◌, ◌≢◌, ℕ, suc, ◌+◌, ◌*◌, ◌%◌, ◌<◌, ◌≤◌, true, cond, length, Some}
use Rattle.pm_layout.specs.Chunks.{words_of}
use Rattle.pm_layout.specs.Sizes.{blocks_of}
use Rattle.pm_view.specs.Claims.{class, first, found, header_in, span}
use Rattle.pm_view.specs.Log.{Log}
use Rattle.pm_view.specs.Parts.{Part, GenerationPart, SealPart, DescriptorPart}
use Rattle.pm_view.specs.Places.{Block, Small, Big, Root, in_span}
use Rattle.pm_view.specs.Steps.Step.{Load}
use Rattle.pm_view.specs.View.{View}
use Rattle.pm_view.specs.Views.{after, part_in, value_in}
use Rattle.pm_world.specs.Causes.{Causes}
use Rattle.pm_world.specs.Lanes.{is_occupancy}
use Rattle.pm_world.specs.Logs.{seal_in}
use Rattle.pm_world.specs.Memory.{Memory, PoolWord}
use Rattle.pm_world.specs.Sizes.{ObjectsFit}
use Rattle.pm_world.specs.World.{Opening, Views, Past, World}

-- THE VIEW IS ONE OF A WORLD, in which the word is x, and each answer that a lane keeps has its cause
pub record InWorld (v : View) (w x : ℕ) : Type 0 where
  pub opening : Opening
  pub memory : Memory
  pub views : Views
  pub past : Past
  pub world : World opening memory views past
  pub runs : v.fixed.lane < opening.lanes
  pub here : views v.fixed.lane ≡ v
  pub inside : w < words_of v.fixed.shape
  pub word : memory (PoolWord w) ≡ x
  pub sizes : ObjectsFit opening past
  pub causes : Causes opening memory views past

-- ---- WHAT IS FOUND agrees with what the lane knows: its generation and its seal are what its log says, and a run is of the class that is known
abbrev pub stored_generation : Log → ℕ
stored_generation l = cond l.bumped (suc l.generation) l.generation

abbrev pub AgreesAt : View → Part → ℕ → Type 0
AgreesAt v GenerationPart x = x ≡ stored_generation v.log
AgreesAt v SealPart x = x ≡ seal_in v.log.phase (length v.log.entries)
AgreesAt v (DescriptorPart c) x = (n : ℕ) → class v.claims c ≡ suc n → x ≡ 1 + 256 * suc n
AgreesAt v part x = Unit {0}

abbrev pub SeenAgrees : Type 0
SeenAgrees = (v : View) (w x : ℕ) → InWorld v w x → AgreesAt v (part_in v w) x

-- ---- THE BLOCKS THAT A LANE FOUND are as it knows them: of a run a block is one of the run's; a huge one lies in a zone, and each of its chunks is known
-- as its, and as no run
pub record IsSound (v : View) : Type 0 where
  pub small : (c i : ℕ) → found v.fixed.shape v.claims (Small c i) ≡ true → (class v.claims c ≢ 0) × (i < blocks_of (class v.claims c))
  pub some : (f : ℕ) → found v.fixed.shape v.claims (Big f) ≡ true → 1 ≤ span v.fixed.shape v.claims f
  pub zone : (f : ℕ) → found v.fixed.shape v.claims (Big f) ≡ true → f % 64 + span v.fixed.shape v.claims f ≤ 64
  pub huge : (f c : ℕ) → found v.fixed.shape v.claims (Big f) ≡ true → in_span f (span v.fixed.shape v.claims f) c ≡ true
      → (first v.fixed.shape v.claims c ≡ f) × (class v.claims c ≡ 0)

-- so they are, before the look and after it
abbrev pub SeenIsSound : Type 0
SeenIsSound = (v : View) (w x : ℕ) → InWorld v w x → IsSound v × IsSound (after v (Load w x))

-- how many bytes a block has, its header with them, as the lane knows
abbrev pub block_bytes : View → Block → ℕ
block_bytes v (Small c i) = 64 * class v.claims c
block_bytes v (Big f) = 4096 * span v.fixed.shape v.claims f
block_bytes v Root = 0

-- EACH OBJECT THAT THE LANE FOUND, and whose size it knows, fits its block
abbrev pub SizesFit : View → Type 0
SizesFit v = (B : Block) (x : ℕ) → found v.fixed.shape v.claims B ≡ true → is_occupancy v.fixed.shape B ≡ true → value_in v (8 * header_in v.fixed.shape v.claims B + 1) ≡ Some x
    → 64 + x ≤ block_bytes v B

-- so it does, before the look and after it
abbrev pub SizesSeen : Type 0
SizesSeen = (v : View) (w x : ℕ) → InWorld v w x → SizesFit v × SizesFit (after v (Load w x))

-- and so does a size that it finds
abbrev pub SizeFound : Type 0
SizeFound = (v : View) (B : Block) (x : ℕ) → found v.fixed.shape v.claims B ≡ true → is_occupancy v.fixed.shape B ≡ true → InWorld v (8 * header_in v.fixed.shape v.claims B + 1) x
    → 64 + x ≤ block_bytes v B
