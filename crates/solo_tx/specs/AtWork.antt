-- How a lane stands between two operations of a transaction: what its fields say, what its view has, and what its call came to.
use Rattle.std.specs.Prelude.{◌≡◌, ◌≤◌, false, [], All, length, map}
use Rattle.solo_crash.specs.CallBlocks.{blocks_in}
use Rattle.solo_crash.specs.OpenCall.{IsUnderWay}
use Rattle.solo_crash.specs.Pending.{published_in}
use Rattle.solo_model.specs.Actions.{Action}
use Rattle.solo_model.specs.declared.stage.Stage.TheVariants as model_stage
use Rattle.pm_objects.specs.declared.history.TxErr.TheVariants as error
use Rattle.solo_view.specs.View.{View}
use Rattle.solo_pending.specs.Pending.{entry_of}
use Rattle.solo_redo.specs.Entering.{IsOfPool, MayEnter}
use Rattle.solo_undo.specs.Spans.{IsSpan}
use Rattle.solo_undo.specs.Working.{FindsOpening, IsWorking}
use Rattle.solo_world.specs.Lanes.{IsSeenAs}
use Rattle.solo_world.specs.Opening.{Opening, IsSound}
use Rattle.solo_world.specs.declared.lane.Lane.{Lane}
use Rattle.solo_world.specs.declared.lane.Stage.TheVariants as stage
use Rattle.solo_lock.specs.Begun.{HoldsLines, MayCome}
use Rattle.solo_lock.specs.Finding.{FindsObjects}

-- the open call made no object, not even one that it freed again
abbrev pub MakesNone : View → Type 0
MakesNone v = ((blocks_in v).made ≡ []) × ((blocks_in v).dropped ≡ [])

-- each action that the call published is of a word that the lane locked for writing
abbrev pub PublishesLocked : View → Type 0
PublishesLocked v = All (λ (a : Action). IsOfPool v (entry_of a)) (published_in v)

-- the entries that the lane lists are those of the actions that its call published, in their order; the lane may enter each, and the one that ends its
-- generation fits behind them. An action on an object that the call made itself, whose words are under no lock, is entered as a change of the heap: where
-- the call made none, each is of a word that the lane locked
pub record ListsPublished {M : Type 0} (lane : Lane M) (v : View) : Type 0 where
  pub listed : lane.entries.items ≡ map entry_of (published_in v)
  pub few : length lane.entries.items ≤ 63
  pub may_enter : All (MayEnter v) lane.entries.items
  pub locked : MakesNone v → PublishesLocked v

-- the lane has a transaction open, in work: its fields say so, its view may record and write, and its call came to what the plain model has, which may have
-- made and freed objects
pub record IsAtWork {M : Type 0} (o : Opening) (at : M → View → Type 0) (lane : Lane M) (v : View) : Type 0 where
  pub seen : IsSeenAs at lane v
  pub level : 1 ≤ lane.level
  pub works : lane.stage ≡ stage.Work
  pub unharmed : lane.error ≡ error.None
  pub unstopped : lane.stopped ≡ false
  pub spans : All IsSpan lane.records.items
  pub sound : IsSound o
  pub zones : o.zones ≤ 32
  pub opening : FindsOpening o v
  pub working : IsWorking v
  pub no_entries : v.log.entries ≡ []
  pub published : ListsPublished lane v
  pub under_way : IsUnderWay v lane.level model_stage.Work error.None
  pub may_come : MayCome v
  pub lines : HoldsLines v
  pub objects : FindsObjects v
