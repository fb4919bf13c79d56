-- A call outside of a transaction that is told at once, or gives up what is pending: what it leaves of its run, answered or stopped.
use Rattle.std.proofs.Common.{◌≡◌, ◌≢◌, ⊎_elim, inl, inr, ℕ, zero, suc, ◌+◌, ◌≤◌, ◌<◌, All, Bool, true, false, cond, List, [], ◌∷◌, ◌++◌, length, map, slice_index, take, Option, None, Some, Result, Ok, Err, refl, sym, ap, ◌∙◌, subst, arith}
use Rattle.std.specs.Option.{option_map}
use Rattle.solo_crash.proofs.Leading.{leads_then}
use Rattle.solo_crash.specs.Leading.{Leads}
use Rattle.solo_crash.specs.OnActions.{defer_refusal, set_refusal}
use Rattle.solo_crash.specs.Pending.{pending_before, pending_behind}
use Rattle.solo_epoch.specs.Reserving.{with_next_call}
use Rattle.pm_image.specs.Logs.{generation_word}
use Rattle.solo_lock.proofs.Leading.{ready_leads}
use Rattle.solo_lock.specs.Resting.{IsAtRest}
use Rattle.solo_made.specs.Made.{BlockLists}
use Rattle.solo_memory.specs.Runs.{Stops}
use Rattle.solo_memory.specs.Solo.{Sees, Solo}
use Rattle.pm_objects.specs.declared.calls.Operation.{Operation}
use Rattle.pm_objects.specs.declared.calls.Operation.TheVariants as operation
use Rattle.pm_objects.specs.declared.history.Value.{Value}
use Rattle.pm_objects.specs.declared.history.Value.TheVariants.{Refused}
use Rattle.pm_objects.specs.declared.ids.Oid.{Oid}
use Rattle.pm_objects.specs.declared.refusal.Refusal.{Refusal}
use Rattle.pm_objects.specs.declared.refusal.Refusal.TheVariants as refusal
use Rattle.solo_pending.specs.AllPending.{IsPendingAs}
use Rattle.solo_pending.specs.Pending.{action_of}
use Rattle.solo_pending.specs.declared.actions.SetAction.{SetAction}
use Rattle.solo_pending.specs.declared.pending.PendingActions.{PendingActions}
use Rattle.solo_script.specs.declared.script.ScriptId.{ScriptId}
use Rattle.solo_script.specs.declared.script.ScriptLine.{ScriptLine}
use Rattle.solo_script.specs.declared.script.ScriptOp.{ScriptOp}
use Rattle.solo_script.specs.declared.script.ScriptOp.TheVariants as op
use Rattle.solo_tx.specs.Beginning.{IsSpent}
use Rattle.solo_action.specs.Outside.{IsAnsweredAtOnce, IsDeferCause, IsSetCause, IsToldAtOnce, IsToldOutside, RestsAlone, RestsStill}
use Rattle.solo_transaction.proofs.NotMaking.{not_making_led}
use Rattle.solo_transaction.specs.AtWork.{AreForPool, IsNotMaking}
use Rattle.solo_transaction.specs.Resting.{StandsAtRest}
use Rattle.solo_view.specs.Counts.{stores_among}
use Rattle.solo_view.specs.Log.{no_log}
use Rattle.solo_view.specs.Log.Phase.{Idle}
use Rattle.solo_view.specs.Steps.{Step}
use Rattle.solo_view.specs.View.{Told, View}
use Rattle.solo_world.specs.Opening.{Opening}
use Rattle.solo_world.specs.declared.lane.Lane.{Lane}
use Rattle.solo_model.specs.Actions.{Pending, none_pending, with_free, with_set}
use Rattle.solo_exec.proofs.Along.{same_along}
use Rattle.solo_exec.proofs.Begun.{spent}
use Rattle.solo_exec.proofs.BeginsBehind.{rests_behind}
use Rattle.solo_exec.proofs.FewStores.{led_stores}
use Rattle.solo_exec.proofs.IdleNumbers.{idle_numbered}
use Rattle.solo_exec.proofs.Links.{linked}
use Rattle.solo_exec.proofs.RestingReserved.{led_stands, rest_keeps}
use Rattle.solo_exec.proofs.Starts.{start_alone, start_idle}
use Rattle.solo_exec.specs.Bounds.{most_stores}
use Rattle.solo_exec.specs.Calls.{id_of, operation_of}
use Rattle.solo_exec.specs.Course.{IsOutsideMade}
use Rattle.solo_exec.specs.Replies.{IsOutsideReply, numbered}
use Rattle.solo_exec.specs.Progress.{ActedOutside, IsActed, IsStart, IsUnbegun}
use Rattle.solo_exec.specs.declared.calls.Names.{Names}

module _ (o : Opening) (first : View) (lane new : Lane Solo) (blocks : BlockLists) (actions : PendingActions) (names : Names) (is : IsStart o lane blocks actions first) where
  -- ---- a call that led the lane to where it rests

  module _ (x : ScriptOp) (w : View) (steps : List Step) (leads : Leads first steps w) (rests : IsAtRest Sees new w) (idle : w.log ≡ no_log Idle) (stands : StandsAtRest w) (quiet : IsNotMaking w) where
    -- is answered so
    pub acted : (r : Option Refusal) (gave : Option ℕ) (answer : Option Value) (left : PendingActions) → IsOutsideReply (operation_of names x) r answer gave
        → w.entries ≡ first.entries ++ numbered new.last (record { operation = operation_of names x; reply = answer } ∷ []) ∷ []
        → IsPendingAs left (pending_before w) → IsOutsideMade names x r first w → stores_among steps ≤ most_stores names x + 1 → IsActed o first new blocks left names x r gave
    acted r gave answer left replies entries pending made few =
        let number = idle_numbered first w steps leads (start_idle o lane blocks actions first is) idle _ entries in
        let same = same_along first w steps leads in
        record {
          view = w;
          link = linked o new first w steps (most_stores names x + 1) leads rests.seen.memory (rests_behind o is.header is.pool new first w steps is.begins leads rests.seen.memory rests idle quiet number.0 number.1) few;
          rests = rests;
          idle = idle;
          keeps = rest_keeps _ new w rests idle stands quiet;
          pages = (let pages = is.pages in let lanes = same.lanes in let zones = same.zones in omega (arith, pages, lanes, zones));
          answer = answer;
          replies = replies;
          entries = entries;
          pending = pending;
          made = made;
        }

  -- ---- one that is told at once

  -- it leaves what is reserved
  pub told_acted : (x : ScriptOp) (r : Option Refusal) (left : PendingActions) (told : IsToldOutside Sees new first (operation_of names x) (option_map Refused r))
      → (pending_behind (operation_of names x) (option_map Refused r) (pending_before first)).reserved ≡ (pending_before first).reserved
      → IsPendingAs left (pending_behind (operation_of names x) (option_map Refused r) (pending_before first)) → IsOutsideReply (operation_of names x) r (option_map Refused r) None
      → IsOutsideMade names x r first told.view → IsActed o first new blocks left names x r None
  told_acted x r left told kept listed replies made =
      let w : View = told.view in
      let alone = start_alone o lane blocks actions first is in
      let stands = led_stands first w is.rests.place.lane is.rests.fresh (inl told.idle) alone told.led told.rests.free (ap (λ (p : Pending). p.reserved) told.pending ∙ kept) is.keeps.stands in
      acted x w told.led.steps told.led.leads told.rests told.idle stands (not_making_led first w told.same told.led alone is.keeps.quiet) r None (option_map Refused r) left replies
      told.entries (subst (IsPendingAs left) (sym told.pending) listed) made (let none = led_stores first w told.led in omega (arith, none))

  module _ (x : ScriptOp) (id : ScriptId) (action : SetAction) (id_is : action.id ≡ id_of names id) (says : x ≡ op.Set id action.off action.value) (left : PendingActions) where
    abbrev sets : Operation
    sets = operation.SetValue action.id action.off action.value

    sets_is : sets ≡ operation_of names x
    sets_is = ap (λ (i : Oid). operation.SetValue i action.off action.value) id_is ∙ ap (operation_of names) (sym says)

    pub set_acted : IsToldAtOnce Sees new first sets None → IsPendingAs left (with_set (action_of action) (pending_before first)) → IsActed o first new blocks left names x None None
    set_acted made listed =
        let t = subst (λ (y : Operation). IsToldOutside Sees new first y None) sets_is made.told in
        told_acted x None left t (ap (λ (y : Operation). (pending_behind y None (pending_before first)).reserved) (sym sets_is))
        (subst (λ (y : Operation). IsPendingAs left (pending_behind y None (pending_before first))) sets_is listed) (subst (λ (y : Operation). IsOutsideReply y None None None) sets_is (refl, refl))
        (subst (λ (y : ScriptOp). IsOutsideMade names y None first t.view) (sym says) t.led)

    pub set_failed : (r : Refusal) → IsAnsweredAtOnce {T = Unit {0}} Sees new first sets (Err r) → left ≡ actions → IsSetCause lane.stopped action.off (pending_before first) r → ActedOutside o first new blocks left names x (Err r)
    set_failed refusal.Stopped made kept cause = absurd made
    set_failed refusal.Spent made kept cause = subst (IsUnbegun first new) (sym kept) (spent o first lane new blocks actions names is made)
    set_failed r made kept cause =
        let t = subst (λ (y : Operation). IsToldOutside Sees new first y (Some (Refused r))) sets_is made.told in
        told_acted x (Some r) left t refl (subst (λ (list : PendingActions). IsPendingAs list (pending_before first)) (sym kept) is.pending) (refl, refl)
        (subst (λ (y : ScriptOp). IsOutsideMade names y (Some r) first t.view) (sym says) (t.led, cause.1))

  module _ (x : ScriptOp) (id : ScriptId) (target : Oid) (target_is : target ≡ id_of names id) (says : x ≡ op.DeferFree id) (left : PendingActions) where
    abbrev defers : Operation
    defers = operation.DeferFree target

    defers_is : defers ≡ operation_of names x
    defers_is = ap operation.DeferFree target_is ∙ ap (operation_of names) (sym says)

    pub defer_acted : IsToldAtOnce Sees new first defers None → IsPendingAs left (with_free target (pending_before first)) → IsActed o first new blocks left names x None None
    defer_acted made listed =
        let t = subst (λ (y : Operation). IsToldOutside Sees new first y None) defers_is made.told in
        told_acted x None left t (ap (λ (y : Operation). (pending_behind y None (pending_before first)).reserved) (sym defers_is))
        (subst (λ (y : Operation). IsPendingAs left (pending_behind y None (pending_before first))) defers_is listed) (subst (λ (y : Operation). IsOutsideReply y None None None) defers_is (refl, refl))
        (subst (λ (y : ScriptOp). IsOutsideMade names y None first t.view) (sym says) t.led)

    pub defer_failed : (r : Refusal) → IsAnsweredAtOnce {T = Unit {0}} Sees new first defers (Err r) → left ≡ actions → IsDeferCause lane.stopped (pending_before first) r → ActedOutside o first new blocks left names x (Err r)
    defer_failed refusal.Stopped made kept cause = absurd made
    defer_failed refusal.Spent made kept cause = subst (IsUnbegun first new) (sym kept) (spent o first lane new blocks actions names is made)
    defer_failed r made kept cause =
        let t = subst (λ (y : Operation). IsToldOutside Sees new first y (Some (Refused r))) defers_is made.told in
        told_acted x (Some r) left t refl (subst (λ (list : PendingActions). IsPendingAs list (pending_before first)) (sym kept) is.pending) (refl, refl)
        (subst (λ (y : ScriptOp). IsOutsideMade names y (Some r) first t.view) (sym says) (t.led, cause.1))

  -- ---- what the crate's calls outside ask of the lane

  pub rests_alone : RestsAlone Sees lane first
  rests_alone = record {
    rests = is.rests;
    quiet = is.keeps.quiet;
    stands = is.keeps.stands;
    world = (o, is.header, is.pool, first, [], is.keeps.rests is.header is.pool is.begins);
  }
