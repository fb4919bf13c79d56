-- A begin from a view with nothing undrained makes no counted call: one that is refused leads on, and none stops.
use Rattle.std.proofs.Common.{◌≡◌, ℕ, List, [], Option, Some, sym, ◌∙◌, subst}
use Rattle.solo_memory.specs.Runs.{Stops}
use Rattle.pm_objects.specs.declared.calls.Operation.{Operation}
use Rattle.pm_objects.specs.declared.calls.Operation.TheVariants.{Begin}
use Rattle.pm_objects.specs.declared.calls.Want.{Want}
use Rattle.pm_objects.specs.declared.history.Value.{Value}
use Rattle.pm_objects.specs.declared.history.Value.TheVariants.{Refused}
use Rattle.pm_objects.specs.declared.refusal.Refusal.{Refusal}
use Rattle.solo_view.specs.Steps.{Step}
use Rattle.solo_view.specs.Steps.Step.{Tell}
use Rattle.solo_view.specs.View.{View}
use Rattle.solo_view.specs.Views.{after, after_all}
use Rattle.solo_world.specs.Sequences.{Ready, in_turn, one}
use Rattle.solo_world.specs.declared.lane.Lane.{Lane}
use Rattle.solo_lock.proofs.Leads.{heap_drawn, led_then, ready_led}
use Rattle.solo_lock.proofs.Undrained.{led_changes}
use Rattle.solo_lock.specs.Leading.{DrawEnded, IsLed, KeepsHeap, LeaveBlocks}
use Rattle.solo_tx.specs.Begins.{HasRefused, HasStoppedRefused}
use Rattle.solo_tx.specs.Sequences.{ends_call, gives_up, takes_back}
use Rattle.solo_tx.proofs.NothingUndrained.{ends_at_once, ends_uncounted, uncounted_never_stops}

-- and leaves what it has reserved
pub ended_leaves : (v : View) (operation : Operation) (reply : Option Value) (n : ℕ) → DrawEnded v (ends_call operation reply n v) → LeaveBlocks v (ends_call operation reply n v)
unfolding ends_call in_turn one DrawEnded LeaveBlocks after_all
ended_leaves v operation reply n draws = ((λ i. v.reserved), ((heap_drawn (after v (Tell operation reply)) n draws.1.0.1).reserved, tt))
