-- What is undrained stays so while no counted call is made; where it may be so at rest, it may still.
use Rattle.std.proofs.Common.{◌≡◌, ◌⊎◌, inl, inr, ⊎_elim, true, false, All, List, [], ◌∷◌, refl, sym, ap, ◌∙◌, subst}
use Rattle.std.proofs.lemmas.Bool.{false≢true}
use Rattle.std.proofs.lemmas.List.Elements.{All-weaker}
use Rattle.std.specs.List.{list_any}
use Rattle.solo_crash.specs.Leading.{Leads}
use Rattle.solo_view.specs.Blocks.{covers, tells_nothing}
use Rattle.solo_view.specs.declared.change.Change.{Change}
use Rattle.solo_view.specs.Counts.{counted, is_counted}
use Rattle.solo_view.specs.Founds.{IsAlone}
use Rattle.solo_view.specs.Held.{is_reserved}
use Rattle.solo_view.specs.Log.Phase.{Idle}
use Rattle.solo_view.specs.Log.{Phase}
use Rattle.solo_view.specs.Steps.Step.{Store, Or, And, Flush, Drain, NumberSeen}
use Rattle.solo_view.specs.Steps.{Step}
use Rattle.solo_view.specs.View.{View, Taken}
use Rattle.solo_view.specs.Views.{after, begun}
use Rattle.solo_world.proofs.Filled.{filled_again}
use Rattle.solo_world.specs.Lawful.{FilledChange, OnlyFilled}
use Rattle.solo_lock.proofs.Leads.{led_same}
use Rattle.solo_lock.proofs.LookedAlone.{led_words, none_counted}
use Rattle.solo_lock.specs.Leading.{IsLed}
use Rattle.solo_lock.specs.Resting.{MayRest}

module _ (v w : View) (changes : w.changes ≡ v.changes) (reserved : w.reserved ≡ v.reserved) (lanes : w.lanes ≡ v.lanes) where
  reserved_still : (word : _) → w.words ≡ v.words → is_reserved w word ≡ is_reserved v word
  reserved_still word words = λ i. list_any (λ (t : Taken). covers (lanes i) (words i) t.at t.bits word) (reserved i)

  filled_still : w.words ≡ v.words → OnlyFilled v → OnlyFilled w
  filled_still words filled =
      subst (All (FilledChange w)) (sym changes)
      (All-weaker (FilledChange v) (FilledChange w) (λ c of. filled_again v w c (λ own. reserved_still c.word words ∙ own) (λ silent. (λ i. tells_nothing (lanes i) (words i) c.word) ∙ silent) of) v.changes filled)

  pub rest_kept : w.table ≡ v.table → (IsAlone v → w.words ≡ v.words) → MayRest v → MayRest w
  rest_kept table words (inl none) = inl (changes ∙ none)
  rest_kept table words (inr rest) = inr (table ∙ rest.0, filled_still (words rest.0) rest.1)

begun_changes : (p : Phase) (v : View) → (begun p v).changes ≡ v.changes
begun_changes Idle v = refl
begun_changes p v = refl

-- a step that is no counted call leaves undrained what is
step_changes : (v : View) (s : Step) → is_counted s ≡ false → (after v s).changes ≡ v.changes
step_changes v (Store w x) free = absurd (false≢true (sym free))
step_changes v (Or w bits x) free = absurd (false≢true (sym free))
step_changes v (And w bits x) free = absurd (false≢true (sym free))
step_changes v (Flush line) free = absurd (false≢true (sym free))
step_changes v Drain free = absurd (false≢true (sym free))
step_changes v (NumberSeen n) free = begun_changes v.log.phase v
step_changes v s free = refl

leads_changes : (v w : View) (steps : List Step) → Leads v steps w → counted steps ≡ 0 → w.changes ≡ v.changes
unfolding Leads counted
leads_changes v w [] leads none = ap (λ (u : View). u.changes) leads
leads_changes v w (s ∷ steps) leads none =
    let free = none_counted (is_counted s) (counted steps) none in
    leads_changes (after v s) w steps leads.3 free.1 ∙ step_changes v s free.0

-- no step that is not counted changes what is undrained
pub led_changes : (v w : View) → IsLed v w → w.changes ≡ v.changes
led_changes v w led = leads_changes v w led.steps led.leads led.uncounted

pub rest_led : (v w : View) → IsLed v w → MayRest v → MayRest w
rest_led v w led = rest_kept v w (led_changes v w led) led.heap.reserved (led_same v w led).lanes (led_same v w led).table (led_words v w led)
