-- One step that is no counted call.
use Rattle.solo_memory.specs.Runs.{Made}
use Rattle.solo_view.specs.Steps.{Step}
use Rattle.solo_view.specs.View.{View}
use Rattle.solo_view.specs.Views.{after_all}
use Rattle.solo_world.specs.Sequences.{IsMade, Runs, one}

pub made_one : (old new : View → Type 0) (s : Step) → Made old new s → IsMade old new (one s)
unfolding Runs one after_all
made_one old new s made v seen r = (made v seen).0
