-- What a lane that is alone reserved, given back block by block, once its calls left nothing of it pending, or within a call that uses it no more (pmemobj_cancel(3);
-- docs/MODEL.md, "From call to call").
use Rattle.std.specs.Prelude.{◌≡◌, ℕ, All, AllPairs, Contains, List, [], map}
use Rattle.pm_header.specs.declared.header.Header.{Header}
use Rattle.pm_layout.specs.declared.shape.Shape.{Shape}
use Rattle.pm_objects.specs.declared.pool.PoolView.{PoolView}
use Rattle.solo_view.specs.Log.{no_log}
use Rattle.solo_view.specs.Log.Phase.{Idle}
use Rattle.solo_view.specs.Steps.{Step}
use Rattle.solo_view.specs.View.{View}
use Rattle.solo_view.specs.Views.{after_all}
use Rattle.solo_world.specs.Lanes.{IsOfShape}
use Rattle.solo_world.specs.Lawful.{IsEarly}
use Rattle.solo_world.specs.Opening.{Opening}
use Rattle.solo_blocks.specs.Giving.{MayGiveBackBlock, vacates_block}
use Rattle.solo_crash.specs.Alone.{WorksAlone}
use Rattle.solo_crash.specs.CallBlocks.{NewObject, block_of}
use Rattle.solo_crash.specs.GivingUnused.{in_use}
use Rattle.solo_crash.specs.HeapChanges.{AreDisjoint}
use Rattle.solo_crash.specs.Pending.{pending_before}
use Rattle.solo_crash.specs.Reserved.{IsReservedFor}
use Rattle.solo_epoch.specs.Epochs.{ReservesNoRun}
use Rattle.solo_epoch.specs.Reserving.{RestsWithReserved}

-- the steps that give back the blocks of these objects, one after another, in a pool of so many lanes
abbrev pub gives_back : ℕ → List NewObject → List Step
gives_back lanes ns = map (λ (n : NewObject). vacates_block lanes (block_of n)) ns

-- the view behind them
abbrev pub with_given_back : View → List NewObject → View
with_given_back v ns = after_all v (gives_back v.lanes ns)

-- no block of one of these objects overlaps another's
abbrev pub LieApart : List NewObject → Type 0
LieApart ns = AllPairs (λ n m. AreDisjoint (block_of n) (block_of m)) ns

-- The lane works alone on a pool of this shape and rests, with nothing undrained and no lock; no chunk that it reserved is a run. Nothing reserved is pending, and
-- these objects lie in what it reserved, each apart from the others.
pub record MayGiveAllBack (o : Opening) (header : Header) (pool : PoolView) (start : View) (steps : List Step) (y : View) (shape : Shape) (ns : List NewObject) : Type 0 where
  pub rests : RestsWithReserved o header pool start steps y shape
  pub idle : y.log ≡ no_log Idle
  pub drained : y.changes ≡ []
  pub of_shape : IsOfShape y shape
  pub unlocked : y.zone_locks ≡ []
  pub no_run : ReservesNoRun y.lanes y
  pub none : (pending_before y).reserved ≡ []
  pub reserved : All (IsReservedFor y) ns
  pub apart : LieApart ns

-- the lane of a pool of this shape may give back the object's block, as `give_back` of `solo_blocks` asks
abbrev pub MayGiveObjectBack : View → Shape → NewObject → Type 0
MayGiveObjectBack v shape n = IsOfShape v shape × MayGiveBackBlock v (block_of n)

-- ---- within a call

-- The lane works alone on a pool of this shape, early in its call, with nothing undrained and no redo entry; no chunk that it reserved is a run, and what its call uses
-- lies in what it reserved. So do these objects, each apart from the others and from what the call uses.
pub record MayGiveInCall (o : Opening) (header : Header) (pool : PoolView) (start : View) (steps : List Step) (v : View) (shape : Shape) (ns : List NewObject) : Type 0 where
  pub works : WorksAlone o header pool start steps v
  pub of_shape : IsOfShape v shape
  pub early : IsEarly v.log.phase
  pub drained : v.changes ≡ []
  pub unentered : v.log.entries ≡ []
  pub no_run : ReservesNoRun v.lanes v
  pub used : All (IsReservedFor v) (in_use v)
  pub reserved : All (IsReservedFor v) ns
  pub apart : LieApart ns
  pub apart_used : (n m : NewObject) → Contains ns n → Contains (in_use v) m → AreDisjoint (block_of n) (block_of m)
