-- What a call makes leads from the view before to the view behind, ended or stopped, and so do loads.
use Rattle.std.proofs.Common.{◌≡◌, ◌+◌, ℕ, zero, suc, List, [], ◌∷◌, ◌++◌, take, Option, refl, ◌∙◌, ap, if◌then◌else◌}
use Rattle.solo_crash.proofs.Leading.{leads_then}
use Rattle.solo_crash.specs.Leading.{Leads}
use Rattle.pm_objects.specs.declared.calls.Operation.{Operation}
use Rattle.pm_objects.specs.declared.history.Value.{Value}
use Rattle.solo_lock.proofs.Leading.{front_leads, ready_leads}
use Rattle.solo_tx.specs.Ending.{IsEndedBy, IsStoppedIn}
use Rattle.solo_tx.specs.Learning.{Looks}
use Rattle.solo_view.specs.Counts.{counted, is_counted}
use Rattle.solo_view.specs.Steps.Step.{Load}
use Rattle.solo_view.specs.Steps.{Step}
use Rattle.solo_view.specs.View.{View}
use Rattle.solo_view.specs.Views.{after_all}
use Rattle.solo_world.specs.Sequences.{Sequence}
use Rattle.solo_world.specs.declared.lane.Lane.{Lane}

module _ {M : Type 0} (at : M → View → Type 0) (lane : Lane M) (v : View) (steps : Sequence) (operation : Operation) (reply : Option Value) where
  -- a call that ended
  pub ended_leads : IsEndedBy at lane v steps operation reply → Leads v (steps v) (after_all v (steps v))
  ended_leads ended = ready_leads v (steps v) ended.ready ended.draws

  -- and one in which the lane stopped
  pub stopped_leads : (stopped : IsStoppedIn at lane v steps operation reply) → Leads v (take stopped.stops.made (steps v)) (after_all v (take stopped.stops.made (steps v)))
  stopped_leads stopped = front_leads v (steps v) stopped.stops.made stopped.ready stopped.draws

counted_more : (steps : List Step) (word x : ℕ) → counted (steps ++ Load word x ∷ []) ≡ counted steps
unfolding counted
counted_more [] word x = refl
counted_more (s ∷ steps) word x = ap (λ n. (if is_counted s then 1 else 0) + n) (counted_more steps word x)

-- loads lead, and are no counted calls
pub looks_lead : (n : ℕ) (v w : View) → Looks n v w → (steps : List Step) × (Leads v steps w × (counted steps ≡ 0))
unfolding Looks Leads counted
looks_lead zero v w is = ([], (is, refl))
looks_lead (suc n) v w t =
    let m : View = t.0 in
    let before = looks_lead n v m t.3 in
    let one : Leads m (Load t.1 t.2 ∷ []) w = (t.4, t.5.1, tt, t.6) in
    (before.0 ++ Load t.1 t.2 ∷ [], (leads_then v m w before.0 (Load t.1 t.2 ∷ []) before.1.0 one, counted_more before.0 t.1 t.2 ∙ before.1.1))
