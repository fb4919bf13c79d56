-- Steps that a lane makes one after another, whatever call they draw.
use Rattle.std.specs.Prelude.{◌≡◌, List, [], ◌∷◌}
use Rattle.solo_view.specs.Founds.{FoundAlone}
use Rattle.solo_view.specs.Steps.{Step}
use Rattle.solo_view.specs.View.{View}
use Rattle.solo_view.specs.Views.{after}
use Rattle.solo_world.specs.Lawful.{Allowed}

-- the steps lead from the one view to the other: the lane may ask for each, and is answered as one that is alone where it is
unfoldable pub Walks : View → List Step → View → Type 0
Walks v [] w = w ≡ v
Walks v (s ∷ steps) w = Allowed v s × FoundAlone v s × Walks (after v s) steps w
