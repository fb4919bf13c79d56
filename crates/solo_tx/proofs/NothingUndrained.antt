-- Where nothing is undrained, nothing is made to make it persistent.
use Rattle.std.proofs.Common.{◌≡◌, ℕ, zero, suc, ◌+◌, cond, eqb, List, [], ◌∷◌, ◌++◌, length, map, take, Option, refl, ap, ◌∙◌, subst, arith}
use Rattle.solo_lock.proofs.LookedAlone.{none_counted}
use Rattle.solo_memory.specs.Runs.{Stops}
use Rattle.pm_objects.specs.declared.calls.Operation.{Operation}
use Rattle.pm_objects.specs.declared.history.Value.{Value}
use Rattle.solo_view.specs.declared.change.Change.{Change}
use Rattle.solo_view.specs.Counts.{counted, is_counted, lines_up_to, unflushed_lines}
use Rattle.solo_view.specs.Steps.Step.{Drain, Flush}
use Rattle.solo_view.specs.Steps.{Step}
use Rattle.solo_view.specs.View.{View}
use Rattle.solo_view.specs.Views.{after_all}
use Rattle.solo_world.specs.Sequences.{drains, flushes, in_turn, one, settles}
use Rattle.pm_record.specs.declared.redo.Redo.{Redo}
use Rattle.solo_tx.specs.Sequences.{ends_call, publishes, publishes_outside}

flushes_nothing : (v : View) → v.changes ≡ [] → flushes v ≡ []
unfolding flushes unflushed_lines lines_up_to
flushes_nothing v none = ap (λ (changes : List Change). map Flush (unflushed_lines changes)) none

pub settles_nothing : (v : View) → v.changes ≡ [] → settles v ≡ []
unfolding settles in_turn drains after_all
settles_nothing v none = ap (λ (steps : List Step). steps ++ drains (after_all v steps)) (flushes_nothing v none) ∙ ap (λ (changes : List Change). cond (eqb (length changes) 0) [] (Drain ∷ [])) none

-- the first of steps that no call is counted among
front_uncounted : (k : ℕ) (steps : List Step) → counted steps ≡ 0 → counted (take k steps) ≡ 0
unfolding counted
front_uncounted zero steps none = refl
front_uncounted (suc k) [] none = refl
front_uncounted (suc k) (s ∷ steps) none =
    let free = none_counted (is_counted s) (counted steps) none in
    ap (λ b. cond b 1 0 + counted (take k steps)) free.0 ∙ (let rest = front_uncounted k steps free.1 in omega (arith, rest))

-- no lane stops among them
pub uncounted_never_stops : (new : View → Type 0) (v : View) (steps : List Step) → counted steps ≡ 0 → Stops new v steps → ⊥
uncounted_never_stops new v steps none stops =
    let due = stops.due in
    let now = front_uncounted stops.made steps none in
    let then = front_uncounted (stops.made + 1) steps none in
    omega (arith, due, now, then)

module _ (operation : Operation) (reply : Option Value) (n : ℕ) (v : View) where
  pub ends_uncounted : counted (ends_call operation reply n v) ≡ 0
  unfolding ends_call in_turn one counted after_all
  ends_uncounted = refl

  module _ (none : v.changes ≡ []) where
    pub ends_at_once : in_turn settles (ends_call operation reply n) v ≡ ends_call operation reply n v
    unfolding in_turn after_all
    ends_at_once = ap (λ (steps : List Step). steps ++ ends_call operation reply n (after_all v steps)) (settles_nothing v none)
