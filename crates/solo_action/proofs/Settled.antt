-- A call that has begun made all persistent, or its lane stopped in that.
use Rattle.std.proofs.Common.{◌≡◌, Result, Ok, Err, OnOk, subst, sym}
use Rattle.solo_memory.specs.declared.lane_mem.Stopped.{Stopped}
use Rattle.solo_memory.specs.Runs.{Stops}
use Rattle.pm_objects.specs.declared.refusal.Refusal.{Refusal}
use Rattle.solo_undo.proofs.Settled.{settle_lawful}
use Rattle.solo_view.specs.View.{View}
use Rattle.solo_view.specs.Views.{after_all}
use Rattle.solo_world.specs.Sequences.{Runs, settles}
use Rattle.solo_world.specs.declared.lane.Lane.{Lane}
use Rattle.solo_lock.specs.Begun.{IsBegun}
use Rattle.solo_tx.proofs.Beginnings.{begun_settled}

module _ (old new : View → Type 0) (v : View) (there : old v) where
  pub settled : (done : Unit {0}) → Runs {T = Unit {0}} old new settles (Ok done) → new (after_all v (settles v))
  unfolding Runs
  settled done ran = ran v there (settle_lawful v).0

  pub stopped_settling : (stopped : Stopped) → Runs {T = Unit {0}} old new settles (Err stopped) → Stops new v (settles v)
  unfolding Runs
  stopped_settling stopped ran = ran v there (settle_lawful v).0

-- it has begun still where all is
pub begun_still : {M : Type 0} (at : M → View → Type 0) (lane new : Lane M) (result : Result (Unit {0}) Refusal) → OnOk result ((v : View) → at lane.memory v → at new.memory (after_all v (settles v))) → OnOk result (new ≡ record lane { memory = new.memory })
    → OnOk result ((v : View) → IsBegun at lane v → IsBegun at new (after_all v (settles v)))
begun_still at lane new (Ok done) settled same = λ v is. subst (λ l. IsBegun at l (after_all v (settles v))) (sym same) (begun_settled at lane v is new.memory (settled v is.seen.memory))
begun_still at lane new (Err r) settled same = tt
