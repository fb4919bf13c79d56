-- Steps that may be made lead from the view before to the view behind, and so do the first of them.
use Rattle.std.proofs.Common.{ℕ, zero, suc, List, [], ◌∷◌, take, refl}
use Rattle.solo_crash.specs.Leading.{Leads}
use Rattle.solo_view.specs.Founds.{FoundAlone}
use Rattle.solo_view.specs.Steps.Step.{Load}
use Rattle.solo_view.specs.Steps.{Step}
use Rattle.solo_view.specs.View.{View}
use Rattle.solo_view.specs.Views.{after, after_all}
use Rattle.solo_world.specs.Sequences.{IsForeseen, Ready}
use Rattle.solo_lock.specs.Leading.{DrawEnded}

-- what is known before is what a lane that is alone finds
foreseen_is_found : (v : View) (s : Step) → IsForeseen v s → FoundAlone v s
foreseen_is_found v (Load w found) foreseen = λ alone. foreseen.1
foreseen_is_found v s foreseen = foreseen

-- the first of steps that may be made, and what they draw is an ended call's
pub front_leads : (v : View) (steps : List Step) (made : ℕ) → Ready v steps → DrawEnded v steps → Leads v (take made steps) (after_all v (take made steps))
unfolding Leads Ready DrawEnded after_all
front_leads v steps zero ready draws = refl
front_leads v [] (suc made) ready draws = refl
front_leads v (s ∷ steps) (suc made) ready draws = (ready.0, foreseen_is_found v s ready.1, draws.0, front_leads (after v s) steps made ready.2 draws.1)

-- and all of them
pub ready_leads : (v : View) (steps : List Step) → Ready v steps → DrawEnded v steps → Leads v steps (after_all v steps)
unfolding Leads Ready DrawEnded after_all
ready_leads v [] ready draws = refl
ready_leads v (s ∷ steps) ready draws = (ready.0, foreseen_is_found v s ready.1, draws.0, ready_leads (after v s) steps ready.2 draws.1)
