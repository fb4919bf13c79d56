-- What a call came to since it began, it came to since the lane was at rest.
use Rattle.std.proofs.Common.{◌≡◌, ℕ, List, [], ◌∷◌, get_or, Option, ap, ◌∙◌}
use Rattle.std.proofs.lemmas.List.{set-get_or}
use Rattle.solo_crash.proofs.PendingOn.{same_before}
use Rattle.solo_crash.specs.Pending.{pending_before, pending_behind}
use Rattle.pm_objects.specs.declared.calls.Operation.{Operation}
use Rattle.pm_objects.specs.declared.history.Value.{Value}
use Rattle.solo_view.proofs.SameLane.{same_lane-then}
use Rattle.solo_view.specs.Area.{area_word}
use Rattle.solo_view.specs.Steps.Step.{Load}
use Rattle.solo_view.specs.View.{Numbered, View}
use Rattle.solo_view.specs.Views.{after, after_all}
use Rattle.solo_world.specs.Sequences.{by_lane, by_view, in_turn, looks, one}
use Rattle.solo_world.specs.declared.lane.Lane.{Lane}
use Rattle.solo_lock.proofs.Leads.{led_same, led_then}
use Rattle.solo_lock.proofs.LookedAlone.{begun_words}
use Rattle.solo_lock.specs.Leading.{IsLed}
use Rattle.solo_tx.specs.Beginning.{IsBegunBy}
use Rattle.solo_tx.specs.Ending.{drawn_more}
use Rattle.solo_tx.specs.Sequences.{sees_generation, starts}
use Rattle.solo_tx.proofs.BeginPlanned.{started_led}
use Rattle.solo_action.specs.Outside.{IsToldAtOnce, IsToldOutside}

-- a start looks at a word that the lane knows
pub start_words : (v : View) (n : ℕ) → (after_all v (starts n v)).words ≡ v.words
unfolding starts sees_generation by_lane by_view looks in_turn one after_all
start_words v n =
    let w : ℕ = area_word v.lane in
    let u : View = after v (Load w (get_or v.words w 0)) in
    begun_words u.log.phase u ∙ set-get_or v.words w 0

-- what a call came to since a view further on
unfoldable pub told_further : {M : Type 0} (at : M → View → Type 0) (lane : Lane M) (v w : View) (op : Operation) (reply : Option Value) → IsLed v w → w.entries ≡ v.entries → IsToldOutside at lane w op reply
    → IsToldOutside at lane v op reply
told_further at lane v w op reply led entries was = record {
  view = was.view;
  led = led_then v w was.view led was.led;
  same = same_lane-then v w was.view (led_same v w led) was.same;
  rests = was.rests;
  idle = was.idle;
  entries = was.entries ∙ ap (λ (entries : List Numbered). drawn_more entries lane.last (record { operation = op; reply = reply } ∷ [])) entries;
  pending = was.pending ∙ ap (pending_behind op reply) (same_before v w entries);
}

module _ {M : Type 0} (at : M → View → Type 0) (mid : Lane M) (v : View) (n : ℕ) (started : IsBegunBy at mid v (starts n)) where
  abbrev u : View
  u = after_all v (starts n v)

  -- nothing became pending or was published
  pub pending_started : pending_before u ≡ pending_before v
  pending_started = same_before v u started.entries

  module _ (lane : Lane M) (op : Operation) (reply : Option Value) where
    pub told_since : IsToldOutside at lane u op reply → IsToldOutside at lane v op reply
    told_since = told_further at lane v u op reply (started_led at mid mid v n started) started.entries

    pub told_at_once_since : IsToldAtOnce at lane u op reply → IsToldAtOnce at lane v op reply
    unfolding told_further told_since
    told_at_once_since was = record { told = told_since was.told; words = was.words ∙ start_words v n }
