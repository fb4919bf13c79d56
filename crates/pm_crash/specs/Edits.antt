-- WHAT A DIFFERENCE MAKES OF THE ITEMS: the objects of freed blocks go, those of made ones come.
use Rattle.std.specs.Prelude.{◌≡◌, ℕ, true, false, List, ◌++◌, map, Contains, Some}
use Rattle.pm_header.specs.declared.header.Header.{Header}
use Rattle.pm_layout.specs.declared.shape.Shape.{Shape}
use Rattle.pm_objects.specs.declared.pool.PoolView.{PoolView}
use Rattle.pm_model.specs.Items.{Edit, Item, Items, all_edited, freed_item, made_item, plain_pool}
use Rattle.pm_view.specs.Entries.{turn}
use Rattle.pm_view.specs.Places.{Block}
use Rattle.pm_world.specs.Lanes.{is_occupancy}
use Rattle.pm_world.specs.States.{State, Diff, after_diff, given}
use Rattle.pm_crash.specs.HeapChanges.{ChangesHeap, Frees, Makes}
use Rattle.pm_crash.specs.Objects.{is_allocated, item_of, offset_of}
use Rattle.pm_crash.specs.Spelled.{Holds}

-- the blocks that the difference makes and frees, each once or more
pub record ListsBlocks (sh : Shape) (s : State) (d : Diff) (freed made : List Block) : Type 0 where
  pub is_freed : (B : Block) → Contains freed B → (is_allocated sh s B ≡ true) × Frees d B
  pub frees : (B : Block) → is_allocated sh s B ≡ true → Frees d B → Contains freed B
  pub is_made : (B : Block) → Contains made B → (is_occupancy sh B ≡ true) × Makes d B
  pub makes : (B : Block) → is_occupancy sh B ≡ true → Makes d B → Contains made B

-- the items but for these blocks: each block that stays has its object as it stands after the
-- difference, and nothing stands but in blocks from before
pub record IsBase (sh : Shape) (class : ℕ → ℕ) (s : State) (d : Diff) (base : Items) : Type 0 where
  pub stays : (B : Block) → is_allocated sh s B ≡ true → given (turn d B) ≡ false
      → base (offset_of sh class s B) ≡ Some (item_of sh class (after_diff d s) B)
  pub only : (off : ℕ) (item : Item) → base off ≡ Some item
      → (B : Block) × (is_allocated sh s B ≡ true) × (off ≡ offset_of sh class s B)

abbrev pub edits_by : Shape → (ℕ → ℕ) → State → Diff → List Block → List Block → List Edit
edits_by sh class s d freed made =
    map (λ (B : Block). freed_item (offset_of sh class s B)) freed
    ++ map (λ (B : Block). made_item (offset_of sh class (after_diff d s) B)
    (item_of sh class (after_diff d s) B)) made

abbrev pub BlocksAreEdits : Type 0
BlocksAreEdits = (sh : Shape) (class : ℕ → ℕ) (s : State) (d : Diff) (header : Header)
    (pool pool' : PoolView) (base : Items) (freed made : List Block)
    → Holds sh class s header pool → ChangesHeap sh class s d
    → Holds sh class (after_diff d s) header pool'
    → ListsBlocks sh s d freed made → IsBase sh class s d base → (off : ℕ)
    → (plain_pool pool').items off ≡ all_edited (edits_by sh class s d freed made) base off
