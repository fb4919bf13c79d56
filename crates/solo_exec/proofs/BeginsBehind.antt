-- A lane that rests behind an answered call begins again, over the words as they stand, wherever it began.
use Rattle.std.proofs.Common.{◌≡◌, ⊎_elim, inr, ℕ, ◌<◌, List, [], slice_index, Some}
use Rattle.solo_crash.proofs.AloneCourse.{StandsAlone, stands_at}
use Rattle.solo_crash.proofs.SeenAlone.{works_where_seen}
use Rattle.solo_crash.specs.Alone.{Begins, WorksAlone, standing}
use Rattle.solo_crash.specs.Leading.{Leads}
use Rattle.solo_epoch.proofs.RestingLanes.{begins_again}
use Rattle.solo_epoch.specs.Epochs.{RestsBehindCall}
use Rattle.pm_header.specs.declared.header.Header.{Header}
use Rattle.solo_lock.specs.Resting.{IsAtRest}
use Rattle.solo_memory.specs.Solo.{Sees, Solo}
use Rattle.pm_objects.specs.declared.pool.PoolView.{PoolView}
use Rattle.solo_transaction.proofs.EndingAlone.{none_run}
use Rattle.solo_transaction.specs.AtWork.{IsNotMaking}
use Rattle.solo_view.specs.Founds.{IsAlone}
use Rattle.solo_view.specs.Log.{no_log}
use Rattle.solo_view.specs.Log.Phase.{Idle}
use Rattle.solo_view.specs.Steps.{Step}
use Rattle.solo_view.specs.View.{View}
use Rattle.solo_world.specs.Opening.{Opening}
use Rattle.solo_world.proofs.Filled.{none_filled}
use Rattle.solo_world.specs.Lawful.{OnlyFilled}
use Rattle.solo_world.specs.declared.lane.Lane.{Lane}

module _ (o : Opening) (header : Header) (pool : PoolView) (lane : Lane Solo) (v w : View) (steps : List Step) (begins : Begins o header pool v) (leads : Leads v steps w) (seen : Sees lane.memory w) where
  pub works : WorksAlone o header pool v steps w
  works = works_where_seen o header pool lane.memory v w steps begins leads seen

  -- where it makes no object, no chunk that it reserved is a run
  pub rests_behind : IsAtRest Sees lane w → w.log ≡ no_log Idle → IsNotMaking w → (n : ℕ) → w.number ≡ Some n → RestsBehindCall w
  rests_behind rests idle quiet n numbered = record {
    idle = idle;
    changes = ⊎_elim (λ (none : w.changes ≡ []). none_filled w none) (λ (filled : IsAlone w × OnlyFilled w). filled.1) rests.undrained;
    free = rests.free;
    unlocked = quiet.unlocked;
    no_run = none_run o header pool v w steps works quiet;
    number = n;
    numbered = numbered;
  }

  pub begins_behind : RestsBehindCall w → Begins (standing o w) header pool w
  begins_behind rests = inr (begins_again o header pool v w steps works rests)

  -- no step of it is of the header page
  pub page_behind : (i : ℕ) → i < 512 → slice_index w.words i ≡ slice_index o.words i
  page_behind i low = let s : StandsAlone o header pool w = stands_at o header pool v steps w begins leads works.numbered works.within in s.goes.front i low
