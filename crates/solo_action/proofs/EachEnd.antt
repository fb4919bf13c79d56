-- The ends of actions are looked at, one after another.
use Rattle.std.proofs.Common.{ℕ, ◌+◌, ◌<◌, ◌≤◌, All, List, length, take, get_or}
use Rattle.std.specs.List.{Any}
use Rattle.std.proofs.lemmas.List.Elements.{All-nil, All-weaker}
use Rattle.solo_crash.specs.OnActions.{CanSet, PassesObject}
use Rattle.solo_pending.specs.Pending.{action_of}
use Rattle.solo_pending.specs.declared.actions.SetAction.{SetAction}
use Rattle.solo_view.specs.View.{View}
use Rattle.solo_tx.proofs.EachAction.{all_further, all_of_front, some_at}
use Rattle.solo_action.specs.Holding.{HasLookedAgain, HoldsEach, HoldsObject}
use Rattle.solo_action.proofs.LookedAgain.{holds_again, looks_at_none, looks_further, sets_again}
use Rattle.solo_action.proofs.WantedObjects.{no_action}

abbrev pub Sets : View → SetAction → Type 0
Sets w a = CanSet w (action_of a)

abbrev pub Passes : View → SetAction → Type 0
Passes w a = PassesObject w (action_of a)

-- the first so many end inside of their objects
abbrev pub EndsFirst : (View → Type 0) → View → List SetAction → ℕ → Type 0
EndsFirst at v actions i = HasLookedAgain at v (λ w. All (Sets w) (take i actions))

pub ends_none : (at : View → Type 0) (v : View) (actions : List SetAction) → at v → EndsFirst at v actions 0
ends_none at v actions there = record { view = v; looks = looks_at_none v; there = there; holds = All-nil (Sets v) }

module _ (v : View) (actions : List SetAction) (each : HoldsEach v actions) (i : ℕ) (low : i < length actions) (at : View → Type 0) (t : EndsFirst at v actions i) where
  abbrev one : SetAction
  one = get_or actions i no_action

  pub held_still : HoldsObject t.view one.id
  held_still = holds_again v t.view t.looks one.id (each i no_action low)

  -- one more does
  pub ends_more : (new : View → Type 0) → HasLookedAgain new t.view (λ w. Sets w one) → EndsFirst new v actions (i + 1)
  ends_more new s = record {
    view = s.view;
    looks = looks_further v t.view s.view t.looks s.looks;
    there = s.there;
    holds = all_further (Sets s.view) actions i no_action low (All-weaker (Sets t.view) (Sets s.view) (λ a. sets_again t.view s.view s.looks (action_of a)) (take i actions) t.holds) s.holds;
  }

  -- or it does not
  pub one_passes : (new : View → Type 0) → HasLookedAgain new t.view (λ w. Passes w one) → HasLookedAgain new v (λ w. Any (Passes w) actions)
  one_passes new s = record {
    view = s.view;
    looks = looks_further v t.view s.view t.looks s.looks;
    there = s.there;
    holds = some_at (Passes s.view) actions i no_action low s.holds;
  }

pub all_end : (at : View → Type 0) (v : View) (actions : List SetAction) (i : ℕ) → length actions ≤ i → EndsFirst at v actions i → HasLookedAgain at v (λ w. All (Sets w) actions)
all_end at v actions i up t = record { view = t.view; looks = t.looks; there = t.there; holds = all_of_front (Sets t.view) actions i up t.holds }
