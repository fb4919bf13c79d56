-- Steps that a lane makes one after another, whatever memory it is over and whatever other lanes do.
use Rattle.std.specs.Prelude.{◌≡◌, List, [], ◌∷◌}
use Rattle.solo_view.specs.Founds.{FoundAlone}
use Rattle.solo_view.specs.Steps.{Step}
use Rattle.solo_view.specs.View.{View}
use Rattle.solo_view.specs.Views.{after}
use Rattle.solo_world.specs.Lawful.{Allowed}
use Rattle.solo_crash.specs.HeldHistory.{DrawsEnded}

-- the steps lead from the one view to the other: the lane may ask for each, is answered as one that is alone where it is, and what it draws
-- is an ended call
unfoldable pub Leads : View → List Step → View → Type 0
Leads v [] w = w ≡ v
Leads v (s ∷ steps) w = Allowed v s × FoundAlone v s × DrawsEnded v s × Leads (after v s) steps w
