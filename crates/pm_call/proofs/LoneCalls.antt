-- A CALL OF ONE OPERATION that is told ends: it takes its number, and is over.
use Rattle.std.proofs.Common.{◌≡◌, ◌≢◌, inl, ℕ, suc, true, All, List, refl, sym, ap, ◌∙◌, subst, Option, None, Some}
use Rattle.std.proofs.lemmas.List.Elements.{All-nil}
use Rattle.pm_objects.specs.declared.calls.Operation.{Operation}
use Rattle.pm_objects.specs.declared.history.Value.{Value}
use Rattle.pm_objects.specs.declared.history.Value.TheVariants.{Refused}
use Rattle.pm_objects.specs.declared.refusal.Refusal.TheVariants.{Busy}
use Rattle.pm_view.specs.Entries.{Entry, latest, redos, turn}
use Rattle.pm_view.specs.Log.{Idle, Log, Open, new_log, phase_drawn}
use Rattle.pm_view.specs.Steps.Step.{Draw, Tell}
use Rattle.pm_view.specs.View.{View}
use Rattle.pm_view.specs.Views.{actions_told, after, after_all}
use Rattle.pm_world.specs.LaneFields.{Standing, last_number, moved}
use Rattle.pm_world.specs.declared.lane.HeldLock.{HeldLock}
use Rattle.pm_world.specs.Lawful.{KeepsRoot, MayDraw}
use Rattle.pm_crash.specs.Calls.{Fact}
use Rattle.pm_crash.specs.Facts.{MissWasSeen}
use Rattle.pm_crash.proofs.EntryFacts.{draws_keep_facts, told_busy}
use Rattle.pm_crash.proofs.Simulation.{no_turn}
use Rattle.pm_plan.specs.Plans.{Ready, in_turn, one}
use Rattle.pm_call.specs.Did.{IsOver, next}
use Rattle.pm_call.specs.Locking.{IsOpened}
use Rattle.pm_call.specs.GivenUp.{with_locks}
use Rattle.pm_call.specs.Outside.{IsOpenWith}
use Rattle.pm_call.proofs.OpenedCalls.{opened_lanes_may_lock}
use Rattle.pm_call.specs.Plans.{ends_call}
use Rattle.pm_call.specs.Waiting.{HasPending, uncalled}
use Rattle.pm_call.proofs.OverCalls.{ClaimsStand, claims_ended, drawn_now, over_by}
use Rattle.pm_call.proofs.Staying.{has_pending}

-- ---- THE CALL ENDS, where it has its fact, and the lane lists what is pending then
module _ (s : Standing) (all : List HeldLock) (o : IsOpenWith s all) (op : Operation) (reply : Option Value) (fact : Fact (after s.view (Tell op reply))) (unbusy : reply ≢ Some (Refused Busy)) (missed : MissWasSeen (after s.view (Tell op reply))) (pending : HasPending (after s.view (Tell op reply))) where
  abbrev v : View
  v = s.view

  abbrev told : View
  told = after v (Tell op reply)

  abbrev done : ℕ → View
  done n = after told (Draw n)

  may_draw : MayDraw told
  may_draw = record {
    is_open = o.can.working.is_open;
    whole = o.can.working.whole;
    first = o.can.number.none;
    drained = inl o.drained;
    found = o.can.number.seen;
    seen = o.can.number.told;
    below = o.can.number.below;
    new_blocks = λ B e. absurd (let z : Some true ≡ None = sym e ∙ (ap (λ (es : List Entry). turn (latest (redos es)) B) o.can.working.unentered ∙ no_turn B) in cc);
    root = subst (All (KeepsRoot told)) (sym o.can.working.unentered) (All-nil _);
    entries = inl o.can.working.unentered;
  }

  log_is : v.log ≡ new_log Open v.log.generation
  log_is = λ i. record {
    phase = o.can.working.is_open i;
    generation = v.log.generation;
    bumped = o.can.unbumped i;
    records = o.records i;
    entries = o.can.working.unentered i;
    slot = o.can.working.whole.0 i;
    pair = o.can.working.whole.1 i;
  }

  log_done : (n : ℕ) → (done n).log ≡ new_log Idle (done n).log.generation
  log_done n = ap (λ (l : Log). record l { phase = phase_drawn n l.records l.entries }) log_is

  claims : ClaimsStand v all
  claims = record {
    lane = o.can.working.lane;
    lanes = o.can.working.lanes;
    zones = o.can.working.zones;
    unmaking = o.can.working.unmaking;
    sound = o.can.sound;
    sizes = o.can.sizes;
    holds = o.can.holds;
    own = o.can.own;
  }

  is_over : (n : ℕ) → IsOver (moved (with_locks all s) (done n))
  is_over n = over_by (moved (with_locks all s) (done n)) (log_done n) o.drained o.can.working.known o.can.sealed (draws_keep_facts told n fact (told_busy v.call (record { operation = op; reply = reply }) told.seen (λ e. absurd (unbusy e))) missed o.can.facts)
      (has_pending told (uncalled (done n)) (drawn_now v op reply n) refl pending)
      (claims_ended v op reply n all claims)

  pub steps_ready : (n : ℕ) → Ready v (ends_call op reply n v)
  unfolding Ready in_turn one after_all
  steps_ready n = (o.can.working.is_open, tt, (may_draw, tt, tt))

  ends_so : (n : ℕ) → after_all v (ends_call op reply n v) ≡ done n
  unfolding in_turn one after_all
  ends_so n = refl

  pub ends_over : (n : ℕ) → IsOver (next (with_locks all s) (ends_call op reply n))
  ends_over n = subst (λ (w : View). IsOver (moved (with_locks all s) w)) (sym (ends_so n)) (is_over n)

  pub ends_number : (n : ℕ) → last_number (next s (ends_call op reply n)).view.entries ≡ suc n
  ends_number n = ap (λ (w : View). last_number w.entries) (ends_so n)

  pub ends_actions : (n : ℕ) → (next s (ends_call op reply n)).view.actions ≡ actions_told op reply v.actions
  ends_actions n = ap (λ (w : View). w.actions) (ends_so n)

-- an open call told and did nothing
pub opened_is_open : (s : Standing) → IsOpened s → IsOpenWith s s.locks
opened_is_open s is = record { can = opened_lanes_may_lock s is; call = is.call; records = is.records; drained = is.drained }
