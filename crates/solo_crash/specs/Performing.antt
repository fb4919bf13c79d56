-- Actions as the redo entries that perform them.
use Rattle.std.specs.Prelude.{◌≡◌, ◌≢◌, ℕ, ◌+◌, ◌/◌, ◌%◌, ◌^◌, ◌<◌, ◌≤◌, List, map, Contains}
use Rattle.pm_image.specs.declared.block.Block.{Block}
use Rattle.pm_image.specs.Blocks.{blocks}
use Rattle.pm_image.specs.Contents.{offset_in, size_in}
use Rattle.pm_image.specs.Reads.{Reads}
use Rattle.solo_model.specs.Actions.{Action, end_of, object_of}
use Rattle.solo_model.specs.Actions.Action.{SetWord}
use Rattle.solo_view.specs.Log.{Final}
use Rattle.solo_world.specs.Entries.{set_word}
use Rattle.solo_world.specs.History.{made_final}
use Rattle.solo_crash.specs.NewObjects.{IsChunkWord}

-- the word that an action sets, and what it becomes
abbrev pub entry_for : Action → Final
entry_for (SetWord id off value) = set_word ((id.off + off) / 8) value

-- the number is a word's, at a multiple of eight bytes
abbrev pub IsWord : Action → Type 0
IsWord (SetWord id off value) = (off % 8 ≡ 0) × (value < 2 ^ 64)

-- the action lies in the object of a block that the words have
pub record CanPerform (w : ℕ → ℕ) (lanes zones : ℕ) (a : Action) : Type 0 where
  pub block : Block
  pub is_there : Contains (blocks w lanes zones) block
  pub begins : offset_in block ≡ (object_of a).off
  pub inside : end_of a ≤ size_in w block
  pub whole : IsWord a

-- the action is on no object of the pool that the words hold: it sets a word of a chunk that their meaning does not read, and no block of theirs begins where
-- its object would
pub record IsUnseen (w : ℕ → ℕ) (lanes zones : ℕ) (a : Action) : Type 0 where
  pub in_chunk : IsChunkWord lanes zones (entry_for a).word
  pub unread : ¬ Reads w lanes zones (entry_for a).word
  pub none_there : (block : Block) → Contains (blocks w lanes zones) block → offset_in block ≢ (object_of a).off
  pub whole : IsWord a

-- the words with the actions' entries applied, in their order
abbrev pub performed : List Action → (ℕ → ℕ) → ℕ → ℕ
performed actions w i = made_final (map entry_for actions) i (w i)
