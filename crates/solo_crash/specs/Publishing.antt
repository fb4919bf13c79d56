-- All that is published at once: words that are set, blocks that are allocated for new objects, and blocks that are freed, with an entry each.
use Rattle.std.specs.Prelude.{◌⊎◌, ℕ, List, [], ◌∷◌, map, All}
use Rattle.pm_objects.specs.declared.pool.PoolView.{PoolView}
use Rattle.pm_image.specs.declared.block.Block.{Block}
use Rattle.solo_model.specs.Actions.{with_actions, Action}
use Rattle.solo_view.specs.Log.{Final}
use Rattle.solo_world.specs.History.{made_final}
use Rattle.solo_crash.specs.HeapChanges.{block_changed, blocks_changed, entry_of, pool_changed, AreDisjoint, HasItsObject, HeapChange, MayChange}
use Rattle.solo_crash.specs.Performing.{entry_for, performed, CanPerform, IsUnseen}

pub data Published : Type 0 where
  -- a pending action on an object
  Performs : Action → Published
  -- a change of the heap
  Changes : HeapChange → Published

abbrev pub entry_published : ℕ → Published → Final
entry_published lanes (Performs a) = entry_for a
entry_published lanes (Changes change) = entry_of lanes change

-- the words with the entries applied, in their order
abbrev pub published : ℕ → List Published → (ℕ → ℕ) → ℕ → ℕ
published lanes steps w i = made_final (map (entry_published lanes) steps) i (w i)

-- what each asks of the words before them all: an action may be on an object that the pool does not have, and changes nothing of it then
abbrev pub CanPublish : (ℕ → ℕ) → ℕ → ℕ → Published → Type 0
CanPublish w lanes zones (Performs a) = CanPerform w lanes zones a ⊎ IsUnseen w lanes zones a
CanPublish w lanes zones (Changes change) = MayChange w lanes zones change

-- the actions among them, in their order
abbrev pub actions_in : List Published → List Action
actions_in [] = []
actions_in (Performs a ∷ steps) = a ∷ actions_in steps
actions_in (Changes change ∷ steps) = actions_in steps

-- in a block that this allocates its object stands
abbrev pub HasItsOwn : (ℕ → ℕ) → ℕ → Published → Type 0
HasItsOwn w lanes (Performs a) = Unit {0}
HasItsOwn w lanes (Changes change) = HasItsObject w lanes change

-- so it is of each of these once their actions are performed, which write new objects too
abbrev pub HaveTheirObjects : (ℕ → ℕ) → ℕ → List Published → Type 0
HaveTheirObjects w lanes steps = All (HasItsOwn (performed (actions_in steps) w) lanes) steps

-- what each makes of a pool, and of its blocks
abbrev pub pool_published : ℕ → Published → PoolView → PoolView
pool_published lanes (Performs a) pool = with_actions (a ∷ []) pool
pool_published lanes (Changes change) pool = pool_changed lanes change pool

abbrev pub blocks_published : ℕ → Published → List Block → List Block
blocks_published lanes (Performs a) bs = bs
blocks_published lanes (Changes change) bs = blocks_changed lanes change bs

-- and one after another
unfoldable pub all_pool_published : ℕ → List Published → PoolView → PoolView
all_pool_published lanes [] pool = pool
all_pool_published lanes (s ∷ steps) pool = all_pool_published lanes steps (pool_published lanes s pool)

unfoldable pub all_blocks_published : ℕ → List Published → List Block → List Block
all_blocks_published lanes [] bs = bs
all_blocks_published lanes (s ∷ steps) bs = all_blocks_published lanes steps (blocks_published lanes s bs)

-- the second may come behind the first: actions come before changes, and no two change one block, nor blocks that overlap
abbrev pub MayFollow : ℕ → Published → Published → Type 0
MayFollow lanes (Performs a) s = Unit {0}
MayFollow lanes (Changes change) (Performs a) = ⊥
MayFollow lanes (Changes change) (Changes other) = AreDisjoint (block_changed lanes change) (block_changed lanes other)

-- each may come behind all those before
abbrev pub AreInOrder : ℕ → List Published → Type 0
AreInOrder lanes [] = Unit {0}
AreInOrder lanes (s ∷ steps) = All (MayFollow lanes s) steps × AreInOrder lanes steps
