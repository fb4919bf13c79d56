-- Which bits of the occupancy words are of a block: docs/FORMAT.md, "Volatile words". Chunks are counted in one row over all zones.
use Rattle.std.specs.Prelude.{◌≡◌, ◌⊎◌, ◌↔◌, ℕ, ◌+◌, ◌*◌, ◌/◌, ◌%◌, ◌<◌, ◌≤◌, true, List, [], ◌∷◌}
use Rattle.pm_image.specs.Blocks.{chunk_word}
use Rattle.solo_view.specs.declared.occ.Occ.{Occ}
use Rattle.solo_view.specs.declared.occ.Occ.TheVariants.{Run, Zone}
use Rattle.solo_view.specs.Occupancy.{is_taken}
use Rattle.solo_world.specs.Heap.{IsOcc}
use Rattle.solo_crash.specs.HeapChanges.{HeapChange}
use Rattle.solo_crash.specs.HeapChanges.HeapChange.{AllocatesChunks, AllocatesInRun, FreesChunks, FreesInRun}
use Rattle.solo_crash.specs.Publishing.{Published}
use Rattle.solo_crash.specs.Publishing.Published.{Changes, Performs}

-- the bit is that of block `index` of the run at a chunk
abbrev pub IsBlockBit : ℕ → ℕ → ℕ → Occ → ℕ → Type 0
IsBlockBit lanes c index at bit = (at ≡ Run (8 * chunk_word lanes c)) × (bit ≡ index)

-- the bit is that of one of so many chunks from this one on
abbrev pub IsChunkBit : ℕ → ℕ → Occ → ℕ → Type 0
IsChunkBit c chunks at bit = (at ≡ Zone (c / 64)) × ((c % 64 ≤ bit) × (bit < c % 64 + chunks))

-- by `v` the bits are taken that are by `w`, and these
abbrev pub TakesMore : (ℕ → ℕ) → (ℕ → ℕ) → ℕ → ℕ → (Occ → ℕ → Type 0) → Type 0
TakesMore w v lanes zones these =
    (at : Occ) (bit : ℕ) → IsOcc lanes zones at → bit < 64 → (is_taken v lanes at bit ≡ true) ↔ ((is_taken w lanes at bit ≡ true) ⊎ these at bit)

-- by `v` the bits are taken that are by `w`, but for these, which were
pub record TakesLess (w v : ℕ → ℕ) (lanes zones : ℕ) (these : Occ → ℕ → Type 0) : Type 0 where
  pub less : (at : Occ) (bit : ℕ) → IsOcc lanes zones at → bit < 64 → (is_taken v lanes at bit ≡ true) ↔ ((is_taken w lanes at bit ≡ true) × ¬ these at bit)
  pub were : (at : Occ) (bit : ℕ) → IsOcc lanes zones at → bit < 64 → these at bit → is_taken w lanes at bit ≡ true

-- ---- of all that is published

-- the bits of a block that a change allocates, and of one that it frees
abbrev pub AllocatesBit : ℕ → HeapChange → Occ → ℕ → Type 0
AllocatesBit lanes (AllocatesInRun c lines index kind bytes) at bit = IsBlockBit lanes c index at bit
AllocatesBit lanes (AllocatesChunks c chunks kind bytes) at bit = IsChunkBit c chunks at bit
AllocatesBit lanes change at bit = ⊥

abbrev pub FreesBit : ℕ → HeapChange → Occ → ℕ → Type 0
FreesBit lanes (FreesInRun c lines index) at bit = IsBlockBit lanes c index at bit
FreesBit lanes (FreesChunks c chunks) at bit = IsChunkBit c chunks at bit
FreesBit lanes change at bit = ⊥

-- the bit is taken behind this, where that said whether it was before: an action takes and gives none
abbrev pub TakenBehind : ℕ → Published → Occ → ℕ → Type 0 → Type 0
TakenBehind lanes (Performs a) at bit before = before
TakenBehind lanes (Changes change) at bit before = (before × ¬ FreesBit lanes change at bit) ⊎ AllocatesBit lanes change at bit

-- and behind all of these, one after another
unfoldable pub TakenBehindAll : ℕ → List Published → Occ → ℕ → Type 0 → Type 0
TakenBehindAll lanes [] at bit before = before
TakenBehindAll lanes (s ∷ steps) at bit before = TakenBehindAll lanes steps at bit (TakenBehind lanes s at bit before)
