-- Steps that lead from one view to another, put together.
use Rattle.std.proofs.Common.{◌≡◌, List, [], ◌∷◌, ◌++◌, sym, subst}
use Rattle.solo_view.specs.Steps.{Step}
use Rattle.solo_view.specs.View.{View}
use Rattle.solo_view.specs.Views.{after, after_all}
use Rattle.solo_crash.specs.Leading.{Leads}

-- steps that lead to a view, and then those that lead on from it
pub leads_then : (u v w : View) (first second : List Step) → Leads u first v → Leads v second w → Leads u (first ++ second) w
unfolding Leads
leads_then u v w [] second leads on = subst (λ m. Leads m second w) leads on
leads_then u v w (s ∷ first) second leads on = (leads.0, leads.1, leads.2, leads_then (after u s) v w first second leads.3 on)

-- of steps that lead to a view by another, those behind it lead on
pub leads_on : (u v w : View) (first second : List Step) → Leads u first v → Leads u (first ++ second) w → Leads v second w
unfolding Leads
leads_on u v w [] second leads all = subst (λ m. Leads m second w) (sym leads) all
leads_on u v w (s ∷ first) second leads all = leads_on (after u s) v w first second leads.3 all.3

-- where they end
pub leads_end : (v w : View) (steps : List Step) → Leads v steps w → w ≡ after_all v steps
unfolding Leads after_all
leads_end v w [] leads = leads
leads_end v w (s ∷ steps) leads = leads_end (after v s) w steps leads.3
