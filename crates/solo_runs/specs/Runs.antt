-- The search for a free block of a class in the runs of a pool, chunk by chunk in rising place: docs/FORMAT.md, "Blocks are found".
use Rattle.std.specs.Prelude.{◌≡◌, ◌≢◌, ◌⊎◌, ℕ, ◌+◌, ◌*◌, ◌/◌, ◌%◌, ◌^◌, ◌<◌, Contains, [], ◌∷◌, slice_index, Option, Some, None}
use Rattle.std.specs.Int.{bit_at}
use Rattle.pm_layout.specs.declared.shape.Shape.{Shape}
use Rattle.pm_layout.specs.Sizes.{block_place, blocks_of}
use Rattle.pm_image.specs.declared.block.Block.{Block}
use Rattle.solo_view.specs.declared.occ.Occ.{Occ}
use Rattle.solo_view.specs.declared.occ.Occ.TheVariants.{Run}
use Rattle.solo_view.specs.Blocks.{descriptor_word}
use Rattle.solo_view.specs.Steps.Step.{Load}
use Rattle.solo_view.specs.View.{View, Taken}
use Rattle.solo_view.specs.Views.{occ_in}
use Rattle.solo_world.specs.Lanes.{IsOfShape}
use Rattle.solo_world.specs.Lawful.{IsEarly, MayVacate}
use Rattle.solo_world.specs.Searches.{HasSearched, SawTaken}

-- the page of a chunk, the chunks of all zones being counted in one row from 0, and its occupancy word
abbrev pub page_of : ℕ → ℕ → ℕ
page_of lanes chunk = 2 + 2 * lanes + 65 * (chunk / 64) + chunk % 64

abbrev pub run_of : ℕ → ℕ → Occ
run_of lanes chunk = Run (4096 * page_of lanes chunk)

-- the descriptor of a run of blocks of so many lines, and the word in which that of a chunk stands
abbrev pub run_descriptor : ℕ → ℕ
run_descriptor lines = 1 + 256 * lines

abbrev pub descriptor_at : ℕ → ℕ → ℕ
descriptor_at lanes chunk = descriptor_word lanes (page_of lanes chunk)

-- the block of a run with this index
abbrev pub run_block : ℕ → ℕ → ℕ → ℕ → Block
run_block lanes chunk lines index = record { place = block_place (4096 * page_of lanes chunk) lines index; lines = lines }

abbrev pub taken_block : ℕ → ℕ → ℕ → Taken
taken_block lanes chunk index = record { at = run_of lanes chunk; bits = 2 ^ index }

-- a lane of a pool of this shape may look for a block: before its call's draw
pub record MaySearch (v : View) (shape : Shape) : Type 0 where
  pub of_shape : IsOfShape v shape
  pub early : IsEarly v.log.phase

-- the block is one of a run, and its bit of the run's occupancy word may be given back
pub record MayGiveBack (v : View) (block : Block) : Type 0 where
  pub chunk : ℕ
  pub index : ℕ
  pub in_run : index < blocks_of block.lines
  pub is_block : block ≡ run_block v.lanes chunk block.lines index
  pub may : MayVacate v (run_of v.lanes chunk) (2 ^ index)

-- the block was got: it is one of a run of its class, as its chunk's descriptor was seen, and the lane has reserved it
pub record HasGot (at : View → Type 0) (v : View) (block : Block) : Type 0 where
  pub chunk : ℕ
  pub index : ℕ
  pub in_zones : chunk < 64 * v.zones
  pub in_run : index < blocks_of block.lines
  pub is_block : block ≡ run_block v.lanes chunk block.lines index
  pub searched : HasSearched at v (taken_block v.lanes chunk index ∷ []) (λ w. Contains w.seen (Load (descriptor_at v.lanes chunk) (run_descriptor block.lines)))

-- the chunk was seen not to be a run of the class, or each of its blocks was seen taken
abbrev pub SawNoneIn : View → ℕ → ℕ → View → Type 0
SawNoneIn v class chunk w =
    ((found : ℕ) × (Contains w.seen (Load (descriptor_at v.lanes chunk) found) × (found ≢ run_descriptor class)))
    ⊎ ((index : ℕ) → index < blocks_of class → SawTaken w (run_of v.lanes chunk) index)

-- no block was got: of each chunk that was seen
abbrev pub HasFoundNone : (View → Type 0) → View → ℕ → Type 0
HasFoundNone at v class = HasSearched at v [] (λ w. (chunk : ℕ) → chunk < 64 * v.zones → SawNoneIn v class chunk w)

-- ---- where a lane is alone, and its pictures are the words

-- the block is free, as the lane has it
pub record IsFree (v : View) (class chunk index : ℕ) : Type 0 where
  pub in_zones : chunk < 64 * v.zones
  pub is_run : slice_index v.words (descriptor_at v.lanes chunk) ≡ run_descriptor class
  pub in_run : index < blocks_of class
  pub clear : bit_at (occ_in v (run_of v.lanes chunk)) index ≢ 1

-- the one block comes before the other in the search
abbrev pub IsBefore : ℕ → ℕ → ℕ → ℕ → Type 0
IsBefore chunk index other place = (chunk < other) ⊎ ((chunk ≡ other) × (index < place))

-- it is the least free block of the class, or there is none
pub record IsLeastFree (v : View) (class : ℕ) (block : Block) : Type 0 where
  pub chunk : ℕ
  pub index : ℕ
  pub is_block : block ≡ run_block v.lanes chunk class index
  pub free : IsFree v class chunk index
  pub least : (other place : ℕ) → IsBefore other place chunk index → IsFree v class other place → ⊥

abbrev pub IsLeast : View → ℕ → Option Block → Type 0
IsLeast v class (Some block) = IsLeastFree v class block
IsLeast v class None = (chunk index : ℕ) → IsFree v class chunk index → ⊥
