-- A call whose steps lead from where the lane rested to where it rests again is a link of its run.
use Rattle.std.proofs.Common.{inr, ℕ, ◌≤◌, List}
use Rattle.solo_crash.specs.Leading.{Leads}
use Rattle.solo_epoch.specs.Epochs.{RestsBehindCall}
use Rattle.solo_memory.specs.Solo.{Sees, Solo}
use Rattle.solo_view.specs.Counts.{stores_among}
use Rattle.solo_view.specs.Steps.{Step}
use Rattle.solo_view.specs.View.{View}
use Rattle.solo_world.specs.Opening.{Opening}
use Rattle.solo_world.specs.declared.lane.Lane.{Lane}
use Rattle.solo_exec.proofs.Along.{same_along}
use Rattle.solo_exec.proofs.BeginsBehind.{begins_behind, page_behind, works}
use Rattle.solo_exec.proofs.FewStores.{walked}
use Rattle.solo_exec.specs.Links.{HasPassed, IsLink}
use Rattle.solo_transaction.specs.AtWork.{IsNotMaking}

pub linked : (o : Opening) (lane : Lane Solo) (first view : View) (steps : List Step) (most : ℕ) → Leads first steps view → Sees lane.memory view → RestsBehindCall view → stores_among steps ≤ most → IsLink o first view most
linked o lane first view steps most leads seen rests few = record {
  same = same_along first view steps leads;
  again = λ header pool begins. begins_behind o header pool lane first view steps begins leads seen rests;
  page = λ header pool begins. page_behind o header pool lane first view steps begins leads seen;
  bound = walked first view most steps leads few;
}

-- one that is over, and works alone still where it makes no object, is passed
pub passed : (o : Opening) (lane : Lane Solo) (first view : View) (steps : List Step) (most : ℕ) → Leads first steps view → Sees lane.memory view → IsNotMaking view → stores_among steps ≤ most → HasPassed o first view most
passed o lane first view steps most leads seen quiet few = record {
  same = same_along first view steps leads;
  page = λ header pool begins. page_behind o header pool lane first view steps begins leads seen;
  bound = walked first view most steps leads few;
  came = λ header pool begins. inr (record { steps = steps; works = works o header pool lane first view steps begins leads seen; quiet = quiet });
}
