-- What an answered call keeps of its run, whatever steps it made: for the crate's own functions.
use Rattle.std.specs.Prelude.{◌≡◌, ◌⊎◌, ℕ, ◌<◌, List, slice_index}
use Rattle.solo_crash.specs.Alone.{Begins, WorksAlone, standing}
use Rattle.solo_epoch.specs.Epochs.{HasEnded}
use Rattle.pm_header.specs.declared.header.Header.{Header}
use Rattle.pm_objects.specs.declared.pool.PoolView.{PoolView}
use Rattle.solo_view.specs.Constants.{IsSameLane}
use Rattle.solo_transaction.specs.AtWork.{IsNotMaking}
use Rattle.solo_view.specs.Steps.{Step}
use Rattle.solo_view.specs.View.{View}
use Rattle.solo_world.specs.Opening.{Opening}
use Rattle.solo_exec.specs.Bounds.{IsWalked}

-- From the first view, with the pool as it stands there, a call led the lane to the other, with at most so many stores. Wherever the lane began, it begins
-- again behind the call, over the words as they stand, which have the same header page.
pub record IsLink (o : Opening) (first view : View) (most : ℕ) : Type 0 where
  pub same : IsSameLane first view
  pub again : (header : Header) (pool : PoolView) → Begins o header pool first → Begins (standing o view) header pool view
  pub page : (header : Header) (pool : PoolView) → Begins o header pool first → (i : ℕ) → i < 512 → slice_index view.words i ≡ slice_index o.words i
  pub bound : IsWalked first view most

-- the lane works alone since the first view, and makes no object now
pub record WorksOn (o : Opening) (header : Header) (pool : PoolView) (first view : View) : Type 0 where
  pub steps : List Step
  pub works : WorksAlone o header pool first steps view
  pub quiet : IsNotMaking view

-- From the first view, with the pool as it stands there, a call led the lane to where it is over, with at most so many stores, and its locks are to be given back
-- still: it published its log with what it made and freed, or the lane works alone still, since it published none, or was given up.
pub record HasPassed (o : Opening) (first view : View) (most : ℕ) : Type 0 where
  pub same : IsSameLane first view
  pub page : (header : Header) (pool : PoolView) → Begins o header pool first → (i : ℕ) → i < 512 → slice_index view.words i ≡ slice_index o.words i
  pub bound : IsWalked first view most
  pub came : (header : Header) (pool : PoolView) → Begins o header pool first → HasEnded o header pool view ⊎ WorksOn o header pool first view
