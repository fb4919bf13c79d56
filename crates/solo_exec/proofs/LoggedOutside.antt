-- A call that one log decides, where nothing is recorded: all is made persistent, and then its entries are published. How far it has come at each step, and how many stores it makes.
use Rattle.std.proofs.Common.{◌≡◌, inl, inr, ℕ, ◌+◌, ◌*◌, ◌≤◌, false, List, length, is_some, take, refl, sym, ap, ◌∙◌, subst, arith}
use Rattle.solo_crash.specs.Alone.{raises}
use Rattle.pm_objects.specs.declared.calls.Operation.{Operation}
use Rattle.pm_record.specs.declared.redo.Redo.{Redo}
use Rattle.solo_transaction.specs.Published.{logs_call}
use Rattle.solo_tx.proofs.Courses.{Throughout, course_of_kind, throughout_at, throughout_both}
use Rattle.solo_tx.proofs.LineStores.{publish_stores}
use Rattle.solo_tx.proofs.PublishCourse.{publishes_throughout}
use Rattle.solo_tx.proofs.Retirement.{IsBeside, IsSteady, Stands, beside_keeps, quiet_beside, steady_open}
use Rattle.solo_tx.proofs.StepKinds.{only_settles}
use Rattle.solo_tx.proofs.StoreCounts.{none_in_settles, stores_in_turn}
use Rattle.solo_tx.specs.Generations.{IsLogging, IsPublishing}
use Rattle.solo_tx.specs.Publishing.{MayPublish}
use Rattle.solo_tx.specs.Sequences.{publishes}
use Rattle.solo_undo.specs.Working.{IsWorking}
use Rattle.solo_view.specs.Counts.{stores_among}
use Rattle.solo_view.specs.Log.{Log}
use Rattle.solo_view.specs.View.{View}
use Rattle.solo_view.specs.Views.{after_all}
use Rattle.solo_world.specs.Sequences.{in_turn, settles}
use Rattle.solo_exec.specs.Bounds.{log_stores}

module _ (v : View) (lane : v.lane ≡ 0) (working : IsWorking v) (entries : List Redo) (may : MayPublish (after_all v (settles v)) entries) (op : Operation) (n : ℕ) where
  abbrev Holds : ℕ → View → Type 0
  Holds = IsPublishing (length entries)

  abbrev Before : ℕ → View → Type 0
  Before = Stands 0 v.log false

  settling : (r : ℕ) (w : View) → Before r w → Holds r w
  settling r w p = inl (p.0, inl (p.3, subst IsLogging (sym (ap (λ (l : Log). l.phase) p.2 ∙ working.is_open)) refl))

  open_steady : IsSteady v.log.phase
  open_steady = subst IsSteady (sym working.is_open) steady_open

  logged_throughout : Throughout Holds 0 v (logs_call op entries n v)
  unfolding logs_call in_turn
  logged_throughout =
      let m : View = after_all v (settles v) in
      let c = course_of_kind Holds IsBeside Before settling (λ r w p. p.1) (beside_keeps 0 v.log false open_steady) settles (only_settles IsBeside quiet_beside) 0 v (refl, lane, refl, ap is_some working.undrawn) in
      throughout_both Holds 0 v (settles v) (publishes entries op n m) c.0 (publishes_throughout m entries may c.1.1 op n (0 + raises (settles v)) c.1.0)

  -- the generation is stored once at most, and once the number is drawn
  pub logged_so : (k : ℕ) → IsPublishing (length entries) (raises (take k (logs_call op entries n v))) (after_all v (take k (logs_call op entries n v)))
  logged_so k =
      let steps = logs_call op entries n v in
      subst (λ r. Holds r (after_all v (take k steps))) (let e : 0 + raises (take k steps) ≡ raises (take k steps) = omega arith in e)
      (throughout_at Holds 0 v steps k logged_throughout)

-- of 63 entries it makes those stores that a full redo log is good for
pub logged_few : (v : View) (entries : List Redo) (op : Operation) (n : ℕ) → length entries ≤ 63 → stores_among (logs_call op entries n v) ≤ log_stores
unfolding logs_call
logged_few v entries op n few =
    let all : ℕ = 3 * (length entries + 1) + 2 in
    let count = stores_in_turn 0 all all settles (publishes entries op n) (omega arith) none_in_settles (publish_stores entries op n) v in omega (arith, count, few)
