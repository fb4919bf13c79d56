-- A lane alone rests with what it has reserved behind a call that is told without a counted call, and leaves what is reserved, gives it up or is refused.
use Rattle.std.proofs.Common.{◌≡◌, ◌⊎◌, ⊎_elim, inl, inr, All, Contains, List, [], ◌++◌, map, Option, Some, refl, sym, ap, ◌∙◌, subst}
use Rattle.std.proofs.lemmas.List.Elements.{All-nil, All-weaker}
use Rattle.pm_header.specs.declared.header.Header.{Header}
use Rattle.pm_image.proofs.Members.{no_member}
use Rattle.solo_model.specs.Actions.{Pending, Reservation}
use Rattle.pm_objects.specs.declared.calls.Operation.{Operation}
use Rattle.pm_objects.specs.declared.history.Value.{Value}
use Rattle.pm_objects.specs.declared.history.Value.TheVariants.{Refused}
use Rattle.pm_objects.specs.declared.pool.PoolView.{PoolView}
use Rattle.pm_objects.specs.declared.refusal.Refusal.{Refusal}
use Rattle.solo_view.specs.Founds.{IsAlone}
use Rattle.solo_view.specs.Steps.{Step}
use Rattle.solo_view.specs.View.{Lock, View}
use Rattle.solo_world.proofs.Filled.{none_filled}
use Rattle.solo_world.specs.Lanes.{IsOfShape}
use Rattle.solo_world.specs.Lawful.{OnlyFilled}
use Rattle.solo_world.specs.Opening.{Opening}
use Rattle.solo_world.specs.declared.lane.Lane.{Lane}
use Rattle.solo_crash.specs.Alone.{WorksAlone, standing}
use Rattle.solo_crash.specs.CallBlocks.{reserved_object}
use Rattle.solo_crash.specs.Leading.{Leads}
use Rattle.solo_crash.specs.Pending.{pending_before, pending_behind, pending_in}
use Rattle.solo_crash.specs.Reserved.{IsReservedFor}
use Rattle.solo_crash.specs.Reserving.{HasReserved}
use Rattle.solo_crash.proofs.Leading.{leads_then}
use Rattle.solo_crash.proofs.ReservedOn.{none_reserved}
use Rattle.solo_crash.proofs.ReservedStays.{nothing_made, reserved_or_none}
use Rattle.solo_epoch.specs.Epochs.{ReservesNoRun}
use Rattle.solo_epoch.specs.Reserving.{RestsWithReserved, with_next_call}
use Rattle.solo_epoch.proofs.NothingReserved.{rests_standing}
use Rattle.solo_epoch.proofs.RestingLanes.{begins_at_rest}
use Rattle.solo_transaction.specs.AtWork.{IsNotMaking, LiesInReserved}
use Rattle.solo_transaction.specs.Published.{HasOwnCounts}
use Rattle.solo_transaction.proofs.NotMaking.{not_making_led}
use Rattle.solo_transaction.proofs.RestingViews.{NextOf, all_reserved, lies_for, next_known, next_of, next_pending}
use Rattle.solo_transaction.proofs.StandsBehindBegin.{led_lies, stands_led}
use Rattle.solo_action.specs.Outside.{IsToldOutside, LeavesOrRefuses, RestsAlone, RestsStill}
use Rattle.solo_action.proofs.AloneAtRest.{works_no_run}
use Rattle.solo_action.proofs.NextBegun.{works_no_table}

-- what is reserved behind such an operation is what was, or nothing
same_or_none : (op : Operation) (reply : Option Value) (p : Pending) → LeavesOrRefuses op reply p → ((pending_behind op reply p).reserved ≡ p.reserved) ⊎ ((pending_behind op reply p).reserved ≡ [])
same_or_none op reply p = ⊎_elim (reserved_or_none op reply p) (λ (refused : (r : Refusal) × (reply ≡ Some (Refused r))). inl (ap (λ (o : Option Value). (pending_behind op o p).reserved) refused.1))

module _ {M : Type 0} (at : M → View → Type 0) (o : Opening) (header : Header) (pool : PoolView) (start v : View) (steps : List Step) (lane new : Lane M) (op : Operation) (reply : Option Value)
    (r : RestsAlone at lane v) (rested : RestsWithReserved o header pool start steps v lane.shape) (was : IsToldOutside at new v op reply) (leaves : LeavesOrRefuses op reply (pending_before v)) (own : HasOwnCounts was.view) where
  abbrev x : View
  x = was.view

  abbrev y : View
  y = with_next_call x

  alone : IsAlone v
  alone = works_no_table o header pool start v steps rested.works

  works : WorksAlone o header pool start (steps ++ was.led.steps) x
  works = record { begins = rested.works.begins; leads = leads_then start v x steps was.led.steps rested.works.leads was.led.leads; numbered = own.numbered; within = own.within }

  quiet : IsNotMaking x
  quiet = not_making_led v x was.same was.led alone r.quiet

  no_run : ReservesNoRun x.lanes x
  no_run = works_no_run o header pool start x (steps ++ was.led.steps) works quiet

  filled : OnlyFilled x
  filled = ⊎_elim (none_filled x) (λ (rest : IsAlone x × OnlyFilled x). rest.1) was.rests.undrained

  works_again : WorksAlone (standing o x) header pool x [] x
  unfolding Leads
  works_again = record {
    begins = inr (begins_at_rest o header pool start x (steps ++ was.led.steps) works (record { idle = was.idle; changes = filled; free = was.rests.free; unlocked = quiet.unlocked; no_run = no_run }));
    leads = refl;
    numbered = works.numbered;
    within = works.within;
  }

  of_shape : IsOfShape x lane.shape
  of_shape = let s = r.rests.seen.shape in let l = was.same in record { lanes = l.lanes ∙ s.lanes; zones = l.zones ∙ s.zones; size = l.size ∙ s.size }

  -- ---- what is reserved

  next : NextOf v (with_next_call v)
  next = next_of v r.rests.place.lane r.rests.fresh

  next_x : NextOf x y
  next_x = next_of x was.rests.place.lane (inl was.idle)

  pending_y : pending_in y ≡ pending_before x
  pending_y = next_pending x y next_x

  none_locked : (l : Lock) → Contains y.locks l → ⊥
  none_locked l held = no_member l (subst (λ (ls : List Lock). Contains ls l) (next_x.locks ∙ was.rests.free) held)

  behind : ((pending_before x).reserved ≡ (pending_before v).reserved) ⊎ ((pending_before x).reserved ≡ [])
  behind = subst (λ (p : Pending). (p.reserved ≡ (pending_before v).reserved) ⊎ (p.reserved ≡ [])) (sym was.pending) (same_or_none op reply (pending_before v) leaves)

  stands : HasReserved y
  stands = ⊎_elim
      (λ (same : (pending_before x).reserved ≡ (pending_before v).reserved).
      stands_led v next alone r.stands x was.led y next_x.lanes next_x.zones next_x.lane next_x.words (next_known x y next_x) (ap (λ (p : Pending). p.reserved) pending_y ∙ same) (nothing_made y next_x.call)
      (λ r l lines there held found. absurd (none_locked l held)))
      (λ (none : (pending_before x).reserved ≡ []). none_reserved y (ap (λ (p : Pending). p.reserved) pending_y ∙ none))
      behind

  lies : All (LiesInReserved x) (map reserved_object (pending_before x).reserved)
  lies = ⊎_elim
      (λ (same : (pending_before x).reserved ≡ (pending_before v).reserved). subst (λ (rs : List Reservation). All (LiesInReserved x) (map reserved_object rs)) (sym same)
      (all_reserved (LiesInReserved x) (pending_before v).reserved (led_lies v next alone r.stands x was.led)))
      (λ (none : (pending_before x).reserved ≡ []). subst (λ (rs : List Reservation). All (LiesInReserved x) (map reserved_object rs)) (sym none) (All-nil (LiesInReserved x)))
      behind

  pub rests_behind : RestsStill o header pool x lane.shape
  rests_behind = record {
    rests = rests_standing (standing o x) header pool x [] x lane.shape works_again was.idle was.rests.free quiet.unlocked (was.same.table ∙ alone) of_shape no_run stands
        (All-weaker (LiesInReserved x) (IsReservedFor x) (lies_for x) (map reserved_object (pending_before x).reserved) lies);
    stands = record { stands = stands; within = lies };
    quiet = quiet;
  }
