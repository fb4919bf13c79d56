-- A lane alone that rested with what it has reserved has begun its next call with that, and what is pending.
use Rattle.std.proofs.Common.{◌≡◌, ℕ, ◌++◌, sym, ap, ◌∙◌, subst}
use Rattle.pm_layout.specs.declared.shape.Shape.{Shape}
use Rattle.solo_view.specs.Founds.{IsAlone}
use Rattle.solo_view.specs.View.{View}
use Rattle.solo_view.specs.Views.{after_all}
use Rattle.solo_world.specs.declared.lane.Lane.{Lane}
use Rattle.solo_crash.proofs.PendingOn.{same_before}
use Rattle.solo_crash.specs.Pending.{pending_before, pending_in}
use Rattle.solo_epoch.proofs.OutsideCalls.{pending_untold}
use Rattle.solo_epoch.proofs.RestingReservations.{begun_entries}
use Rattle.solo_epoch.specs.Reserving.{IsAloneBetween, begins_next, with_next_call}
use Rattle.solo_lock.specs.Begun.{IsBegun}
use Rattle.solo_lock.specs.Leading.{IsLed}
use Rattle.solo_tx.proofs.BeginPlanned.{started_led}
use Rattle.solo_tx.specs.Beginning.{IsBegunBy}
use Rattle.solo_tx.specs.Sequences.{starts}
use Rattle.solo_action.proofs.NextBegun.{between_next, has_next_begun, starts_next, works_no_table}
use Rattle.solo_action.specs.BegunAlone.{BeginsAlone}
use Rattle.solo_action.specs.Outside.{RestsAlone}

module _ {M : Type 0} (at : M → View → Type 0) (old mid : Lane M) (v : View) (n : ℕ) (r : RestsAlone at old v) (started : IsBegunBy at mid v (starts n)) where
  pub rests_no_table : IsAlone v
  rests_no_table = let t = r.world in works_no_table t.0 t.1 t.2 t.3 v t.4 t.5.works

  -- the start led there
  pub next_led : IsLed v (with_next_call v)
  next_led = subst (IsLed v) (starts_next v n rests_no_table started.ready) (started_led at mid mid v n started)

  pub next_is : after_all v (starts n v) ≡ with_next_call v
  next_is = starts_next v n rests_no_table started.ready

  next_begun : IsBegun at mid (with_next_call v)
  next_begun = has_next_begun at mid v n rests_no_table started

  pub next_pending : pending_in (with_next_call v) ≡ pending_before v
  next_pending = pending_untold (with_next_call v) next_begun.untold ∙ same_before v (with_next_call v) (begun_entries v)

  pub begins_alone_next : mid ≡ record old { memory = mid.memory } → BeginsAlone at mid (with_next_call v)
  begins_alone_next same =
      let t = r.world in
      let w : View = with_next_call v in
      let between : IsAloneBetween t.0 t.1 t.2 t.3 (t.4 ++ begins_next v) w old.shape = between_next at mid v n rests_no_table started t.0 t.1 t.2 t.3 t.4 old.shape t.5 in
      record {
        begun = next_begun;
        world = (
          t.0,
          t.1,
          t.2,
          t.3,
          t.4 ++ begins_next v,
          subst (λ (shape : Shape). IsAloneBetween t.0 t.1 t.2 t.3 (t.4 ++ begins_next v) w shape) (sym (ap (λ (l : Lane M). l.shape) same)) between,
        );
      }
