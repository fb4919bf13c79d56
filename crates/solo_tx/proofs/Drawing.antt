-- An operation is told, and a number drawn that nobody knew before.
use Rattle.std.proofs.Common.{ℕ, Option}
use Rattle.solo_memory.specs.Runs.{Made}
use Rattle.pm_objects.specs.declared.calls.Operation.{Operation}
use Rattle.pm_objects.specs.declared.history.Value.{Value}
use Rattle.solo_view.specs.Steps.Step.{Draw, Tell}
use Rattle.solo_view.specs.View.{View}
use Rattle.solo_view.specs.Views.{after, after_all}
use Rattle.solo_world.specs.Lawful.{Allowed}
use Rattle.solo_world.specs.Sequences.{IsMade, Ready, Runs, in_turn, one}
use Rattle.solo_tx.specs.Ending.{IsReadyForAny}
use Rattle.solo_tx.specs.Sequences.{ends_call}

module _ (old : View → Type 0) (operation : Operation) (reply : Option Value) (r : IsReadyForAny old (ends_call operation reply)) where
  pub may_tell : (v : View) × (old v × Allowed v (Tell operation reply))
  unfolding IsReadyForAny ends_call in_turn one Ready
  may_tell = (r.0, (r.1.0, (r.1.1 0).0))

  pub may_draw : (mid : View → Type 0) → Made old mid (Tell operation reply) → (n : ℕ) → (v : View) × (mid v × Allowed v (Draw n))
  unfolding IsReadyForAny ends_call in_turn one Ready
  may_draw mid told n = (after r.0 (Tell operation reply), ((told r.0 r.1.0).0, (r.1.1 n).2.0))

pub told_and_drawn : (old mid new : View → Type 0) (operation : Operation) (reply : Option Value) (n : ℕ) → Made old mid (Tell operation reply) → Made mid new (Draw n) → IsMade old new (ends_call operation reply n)
unfolding Runs ends_call in_turn one after_all
told_and_drawn old mid new operation reply n told drawn v seen ready = (drawn (after v (Tell operation reply)) (told v seen).0).0
