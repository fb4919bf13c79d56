-- The end of a transaction that made and freed objects (pmemobj_tx_end(3)): docs/MODEL.md, "Transactions that make objects".
use Rattle.std.specs.Prelude.{◌≡◌, [], List}
use Rattle.pm_image.specs.declared.block.Block.{Block}
use Rattle.solo_lock.specs.Locking.{gives}
use Rattle.solo_lock.specs.Resting.{IsAtRest}
use Rattle.solo_reclaim.specs.KnownTaken.{KnowsTaken}
use Rattle.solo_reclaim.specs.Reclaims.{HasLeft, Reclaims}
use Rattle.solo_tx.specs.Ending.{IsAfterCall}
use Rattle.solo_view.specs.Founds.{IsAlone}
use Rattle.solo_view.specs.View.{View}
use Rattle.solo_view.specs.Views.{after_all}
use Rattle.solo_world.specs.Sequences.{Ready}
use Rattle.solo_world.specs.declared.lane.HeldLock.{HeldLock}
use Rattle.solo_world.specs.declared.lane.Lane.{Lane}

-- the lane is between its call and the end of its transaction, alone, and knows what is taken
pub record MayEnd {M : Type 0} (at : M → View → Type 0) (lane : Lane M) (v : View) : Type 0 where
  pub behind : IsAfterCall at lane v
  pub alone : IsAlone v
  pub taken : KnowsTaken v

-- the view once these locks were given back
abbrev pub unlocked_view : View → List HeldLock → View
unlocked_view v locks = after_all v (gives locks v)

-- From the view before the lane gave its locks back, which changed nothing else but what it knows, and then what it had reserved or freed and no word says is
-- taken; it has nothing of that left but these blocks, and rests with nothing undrained.
pub record HasEndedWith {M : Type 0} (at : M → View → Type 0) (lane : Lane M) (v : View) (locks : List HeldLock) (kept : List Block) : Type 0 where
  pub ready : Ready v (gives locks v)
  pub given : unlocked_view v locks ≡ record v { locks = []; known = (unlocked_view v locks).known }
  pub view : View
  pub reclaims : Reclaims (unlocked_view v locks) view
  pub rests : IsAtRest at lane view
  pub drained : view.changes ≡ []
  pub left : HasLeft kept view
