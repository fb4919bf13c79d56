-- The steps by which a lane that works alone makes an object, finds no room for it, or comes to its stop at it: how many stores they make, and what they keep.
use Rattle.std.specs.Prelude.{◌≡◌, ◌⊎◌, ℕ, ◌+◌, ◌*◌, ◌≤◌, false, Contains, List, slice_index}
use Rattle.pm_layout.specs.Sizes.{class_of}
use Rattle.solo_memory.specs.Solo.{Sees, Solo}
use Rattle.solo_memory.specs.declared.lane_mem.Stopped.{Stopped}
use Rattle.pm_objects.specs.Pool.{block_lines}
use Rattle.solo_view.specs.declared.change.Change.{Change}
use Rattle.solo_view.specs.Area.{is_in_area}
use Rattle.solo_view.specs.Constants.{IsSameLane}
use Rattle.solo_view.specs.Counts.{IsAtStop, stores_among}
use Rattle.solo_view.specs.Steps.{Step}
use Rattle.solo_view.specs.View.{View}
use Rattle.solo_blocks.specs.declared.making.NoBlock.TheVariants as no_block
use Rattle.solo_alloc.specs.NewObjects.{GivesNoObject}
use Rattle.solo_crash.specs.Alone.{raises}
use Rattle.solo_crash.specs.Leading.{Leads}
use Rattle.solo_crash.specs.OpenCall.{IsUnderBlock}
use Rattle.solo_lock.specs.Leading.{IsLed}

-- Steps lead from the one view to the other, at most so many of them are stores, and none of these is of lane 0's generation. The lane is at the same call, with its
-- log and locks, and no word changed of a block that it found under one of these. Each undrained change is of a word outside of its area, or of one that
-- had an undrained change before.
pub record MakesBy (v w : View) (most : ℕ) : Type 0 where
  pub steps : List Step
  pub leads : Leads v steps w
  pub few : stores_among steps ≤ most
  pub unraised : raises steps ≡ 0
  pub lane : IsSameLane v w
  pub call : w.call ≡ v.call
  pub entries : w.entries ≡ v.entries
  pub number : w.number ≡ v.number
  pub log : w.log ≡ v.log
  pub locks : w.locks ≡ v.locks
  pub found : (i : ℕ) → IsUnderBlock v i → slice_index w.words i ≡ slice_index v.words i
  pub apart : (c : Change) → Contains w.changes c → (is_in_area v.lane c.word ≡ false) ⊎ ((d : Change) × Contains v.changes d × (d.word ≡ c.word))

-- two stores for a run that is made, and eight for each line of the block of an object of this size
abbrev pub MakesByFew : View → View → ℕ → Type 0
MakesByFew v w size = MakesBy v w (8 * block_lines (class_of size) + 2)

-- the lane looked for a block and found none: no counted call was made, and it has all that it had, with each undrained change and each word
pub record FindsNoRoom (v w : View) : Type 0 where
  pub led : IsLed v w
  pub lane : IsSameLane v w
  pub call : w.call ≡ v.call
  pub entries : w.entries ≡ v.entries
  pub number : w.number ≡ v.number
  pub log : w.log ≡ v.log
  pub locks : w.locks ≡ v.locks
  pub changes : w.changes ≡ v.changes
  pub words : w.words ≡ v.words

-- the memory may be seen as a view at the lane's stop, to which the first of the steps led by which an object is made, so far without an answer
pub record StopsMaking (m : Solo) (v : View) (size kind : ℕ) : Type 0 where
  pub stop : Stopped
  pub view : View
  pub seen : Sees m view
  pub gives : GivesNoObject (λ u. u ≡ view) v size kind (no_block.Stopped stop)
  pub makes : MakesByFew v view size
  pub at_stop : IsAtStop view
