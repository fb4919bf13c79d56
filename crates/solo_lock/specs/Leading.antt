-- Where steps lead, and that what they draw is an ended call's.
use Rattle.std.specs.Prelude.{◌≡◌, List, [], ◌∷◌}
use Rattle.solo_crash.specs.HeldHistory.{DrawsEnded}
use Rattle.solo_crash.specs.Leading.{Leads}
use Rattle.solo_view.specs.Counts.{counted}
use Rattle.solo_view.specs.Steps.{Step}
use Rattle.solo_view.specs.View.{View}
use Rattle.solo_view.specs.Views.{after}

-- each of the steps that draws does so with an ended call
unfoldable pub DrawEnded : View → List Step → Type 0
DrawEnded v [] = Unit {0}
DrawEnded v (s ∷ steps) = DrawsEnded v s × DrawEnded (after v s) steps

-- the lane has of the heap what it had: the zones whose lock it holds, what it reserved and what it freed
pub record KeepsHeap (v w : View) : Type 0 where
  pub zone_locks : w.zone_locks ≡ v.zone_locks
  pub reserved : w.reserved ≡ v.reserved
  pub freed : w.freed ≡ v.freed

-- each of the steps leaves what the lane has reserved
unfoldable pub LeaveBlocks : View → List Step → Type 0
LeaveBlocks v [] = Unit {0}
LeaveBlocks v (s ∷ steps) = ((after v s).reserved ≡ v.reserved) × LeaveBlocks (after v s) steps

-- some steps lead from the one view to the other, none of them is a counted call, each leaves what the lane has reserved, and it has of the heap what it had
pub record IsLed (v w : View) : Type 0 where
  pub steps : List Step
  pub leads : Leads v steps w
  pub uncounted : counted steps ≡ 0
  pub leaves : LeaveBlocks v steps
  pub heap : KeepsHeap v w
