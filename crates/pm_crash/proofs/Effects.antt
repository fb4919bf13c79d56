-- A call with its effect is a step of the plain model.
use Rattle.std.proofs.Common.{◌≡◌, ℕ, sym, ap, subst}
use Rattle.pm_header.specs.declared.header.Header.{Header}
use Rattle.pm_objects.specs.declared.pool.PoolView.{PoolView}
use Rattle.pm_image.specs.Means.{pool_in}
use Rattle.pm_model.specs.CallStep.{CallStep}
use Rattle.pm_model.specs.Items.{PlainPool, plain_pool}
use Rattle.pm_model.specs.Pending.{Pending}
use Rattle.pm_view.specs.Places.{RootWord}
use Rattle.pm_view.specs.View.{View}
use Rattle.pm_world.specs.States.{State as Bits}
use Rattle.pm_world.proofs.Replays.{over_none}
use Rattle.pm_crash.specs.Calls.{StepsFrom, pending_then, state_of}
use Rattle.pm_crash.specs.Facts.{EffectsAreFacts, EffectsAreSteps, HasEffect, QuietCallsAreSteps, bits_after, change_of}
use Rattle.pm_crash.specs.Freshness.{root_told}
use Rattle.pm_crash.specs.Spelled.{Holds, number, words_by}
use Rattle.pm_crash.proofs.ChangedHeaps.{changed_holds}
use Rattle.pm_crash.proofs.ItemsOfBits.{root_is_told}
use Rattle.pm_crash.proofs.Told.{items_told}

module _ (v : View) (class : ℕ → ℕ) (s : Bits) (header : Header) (pool : PoolView) (pending : ℕ → Pending)
    (holds : Holds v.fixed.shape class s header pool) (e : HasEffect v class s pool pending) where
  abbrev next : PoolView
  next = pool_in (words_by v.fixed.shape class (bits_after v s)) v.fixed.shape.lanes v.fixed.shape.zones header

  held : Holds v.fixed.shape class (bits_after v s) header next
  held = changed_holds v.fixed.shape class s (change_of v) header pool holds e.changes

  same_root : root_told (number (bits_after v s RootWord)) ≡ next.root
  same_root = sym (root_is_told v.fixed.shape class (bits_after v s) header next held)

  same_pool : record (plain_pool pool) { items = e.items; root = root_told (number (bits_after v s RootWord)) } ≡ plain_pool next
  same_pool =
      let is = holds.is_pool in
      let id : pool.id ≡ next.id = ap (λ (p : PoolView). p.id) is in
      let name : pool.name ≡ next.name = ap (λ (p : PoolView). p.name) is in
      let lanes : pool.lanes ≡ next.lanes = ap (λ (p : PoolView). p.lanes) is in
      let zones : pool.zones ≡ next.zones = ap (λ (p : PoolView). p.zones) is in
      let root = same_root in
      λ i. record {
        id = id i;
        name = name i;
        lanes = lanes i;
        zones = zones i;
        items = λ off. sym (items_told v.fixed.shape class (bits_after v s) header next e.items held e.has e.stands off) i;
        root = root i;
      }

  pub steps_from : StepsFrom v class s header pool pending
  steps_from = record {
    next = next;
    holds = held;
    run = e.run;
    is_run = e.is_run;
    steps = subst (λ (p : PlainPool). CallStep (state_of pool pending) e.run (record { pool = p; pending = pending_then v pending })) same_pool e.steps;
  }

pub effects_are_steps : EffectsAreSteps
effects_are_steps v class s header pool pending holds e = steps_from v class s header pool pending holds e

pub effects_are_facts : EffectsAreFacts
effects_are_facts v has class s header pool pending precede holds id lane =
    steps_from v class s header pool pending holds (has class s header pool pending precede holds id lane)

pub quiet_calls : QuietCallsAreSteps
quiet_calls v class s header pool pending run holds none is_run steps =
    let same : bits_after v s ≡ s = λ i p b. over_none (change_of v p b) (s p b) (none p b) i in
    record {
      next = pool;
      holds = subst (λ (t : Bits). Holds v.fixed.shape class t header pool) (sym same) holds;
      run = run;
      is_run = is_run;
      steps = steps;
    }
