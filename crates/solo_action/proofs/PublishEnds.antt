-- What a publish comes to, since its call began, and since the lane was at rest.
use Rattle.std.proofs.Common.{◌≡◌, ◌⊎◌, ⊎_elim, inl, inr, ℕ, ◌+◌, ◌*◌, ◌<◌, ◌≤◌, true, slice_index, not, All, Any, List, [], ◌∷◌, ◌++◌, length, map, Ok, Err, IfErr, Result, None, Some, refl, sym, ap, ◌∙◌, subst, arith}
use Rattle.std.specs.List.{filter}
use Rattle.std.proofs.lemmas.List.{length-map}
use Rattle.std.proofs.lemmas.List.Elements.{All-nil}
use Rattle.solo_view.specs.Area.{is_in_area}
use Rattle.solo_crash.proofs.PublishOutside.{publish_is_step}
use Rattle.solo_crash.specs.Locks.{AreSameLocks}
use Rattle.solo_crash.specs.OnActions.{CanSet, PassesObject}
use Rattle.solo_crash.specs.OpenCall.{lock_of as model_lock}
use Rattle.solo_crash.specs.Operations.{IsHeld, TakesWanted}
use Rattle.solo_crash.specs.Pending.{pending_before, sets_before}
use Rattle.solo_crash.specs.Performing.{entry_for}
use Rattle.solo_made.specs.Made.{BlockLists}
use Rattle.solo_model.specs.Actions.{Action, Pending, none_pending, only_sets, wants_pending}
use Rattle.solo_crash.proofs.PendingOn.{same_before, sets_alone}
use Rattle.solo_model.specs.Actions.Action.{SetWord}
use Rattle.solo_model.specs.Transaction.{locked_all}
use Rattle.pm_objects.specs.declared.calls.Operation.TheVariants.{Publish}
use Rattle.pm_objects.specs.declared.history.Value.TheVariants.{Refused}
use Rattle.pm_objects.specs.declared.ids.Oid.{Oid}
use Rattle.pm_objects.specs.declared.refusal.Refusal.{Refusal}
use Rattle.pm_objects.specs.declared.refusal.Refusal.TheVariants as refusal
use Rattle.solo_pending.specs.AllPending.{reserved_as}
use Rattle.solo_pending.specs.declared.pending.PendingActions.{PendingActions}
use Rattle.solo_pending.specs.declared.pending.Reserved.{Reserved}
use Rattle.solo_view.proofs.SameLane.{same_lane-then}
use Rattle.solo_view.specs.Constants.{IsSameLane}
use Rattle.solo_view.specs.Founds.{IsAlone}
use Rattle.solo_view.specs.Log.{Final, Log}
use Rattle.solo_view.specs.Steps.Step.{Tell}
use Rattle.solo_view.specs.View.{Lock, Numbered, Told, View}
use Rattle.solo_view.specs.Views.{after}
use Rattle.solo_world.specs.Lanes.{lock_of}
use Rattle.solo_world.specs.declared.lane.Lane.{Lane}
use Rattle.solo_lock.proofs.Leads.{led_none, led_same, led_then}
use Rattle.solo_lock.proofs.LookedAlone.{any_lacks_same, led_words}
use Rattle.solo_lock.specs.Begun.{IsBegun}
use Rattle.solo_lock.specs.Lacking.{LacksObject}
use Rattle.solo_lock.specs.Leading.{IsLed}
use Rattle.solo_tx.specs.Ending.{drawn_more}
use Rattle.solo_tx.proofs.BeginPlanned.{busy_further}
use Rattle.solo_transaction.specs.Published.{HasOwnCounts}
use Rattle.solo_action.specs.Holding.{HasFoundNone, HasFoundRoot, HasFoundShort, HoldsPending, IsHoldCause, Overruns, RefusesToHold}
use Rattle.solo_action.specs.Outside.{IsWholeOnceTold}
use Rattle.solo_action.specs.Publishing.{AreSetsAlone, HoldsToPublish, IsBegunPublishCause, IsPublished, IsPublishedBy, IsPublishedNone, IsStoppedInPublish, IsStoppedPublishing, PublishEnds}
use Rattle.solo_action.specs.PublishingAll.{HasPublishedHeld, IsPublishedAll, IsStoppedHeld, IsStoppedPublishingAll}
use Rattle.solo_action.proofs.Started.{told_further}
use Rattle.solo_tx.proofs.Beginnings.{works}

-- ---- from where the lane held all

module _ {M : Type 0} (at : M → View → Type 0) (held lane : Lane M) (pending : PendingActions) (blocks : BlockLists) (v : View) (h : HoldsToPublish at held pending v) (counts : HasOwnCounts v) (some : 1 ≤ length pending.frees.items + length pending.reserved.items) where
  some_before : 1 ≤ length (pending_before v).frees + length (pending_before v).reserved
  some_before =
      let frees = ap (λ (ids : List Oid). length ids) h.listed.frees in
      let reserved = ap (λ (rs : List Reserved). length rs) h.listed.reserved in let n = length-map (pending_before v).reserved reserved_as in
      omega (arith, some, frees, reserved, n)

  pub published_all_there : HasPublishedHeld at lane pending blocks v → IsPublishedAll at lane pending blocks v
  published_all_there done = record { some = some_before; holding = v; led = led_none v; undrawn = refl; counts = counts; untold = h.begun.untold; holds = h.holds; done = done }

  pub stopped_all_there : IsStoppedHeld at lane pending blocks v → IsStoppedPublishingAll at lane pending blocks v
  stopped_all_there stops = record { some = some_before; holding = v; led = led_none v; undrawn = refl; counts = counts; untold = h.begun.untold; works = works at held v h.begun; holds = h.holds; stops = stops }

-- ---- since before that

module _ {M : Type 0} (at : M → View → Type 0) (lane : Lane M) (v u : View) (alone : IsAlone v) (led : IsLed v u) (entries : u.entries ≡ v.entries) where
  same : pending_before u ≡ pending_before v
  same = same_before v u entries

  by_further : (actions : List Action) → IsPublishedBy at lane actions u → IsPublishedBy at lane actions v
  by_further actions was = record {
    holding = was.holding;
    led = led_then v u was.holding led was.led;
    holds = was.holds;
    undrawn = was.undrawn ∙ entries;
    counts = was.counts;
    ready = was.ready;
    draws = was.draws;
    view = was.view;
    back = was.back;
    same = same_lane-then v u was.view (led_same v u led) was.same;
    rests = was.rests;
    drained = was.drained;
    idle = was.idle;
    entries = was.entries ∙ ap (λ (es : List Numbered). drawn_more es lane.last (record { operation = Publish; reply = None } ∷ [])) entries;
    few = was.few;
    drawn_there = was.drawn_there;
    pending = was.pending;
    keeps = was.keeps;
  }

  alone_further : AreSetsAlone u → AreSetsAlone v
  alone_further are = subst (λ (p : Pending). (p ≡ only_sets p.sets) × (1 ≤ length p.sets) → AreSetsAlone v) (sym same) (λ t. record { alone = t.0; some = t.1 }) (are.alone, are.some)

  sets_further : AreSetsAlone u × IsPublishedBy at lane (sets_before u) u → AreSetsAlone v × IsPublishedBy at lane (sets_before v) v
  sets_further was = (alone_further was.0, by_further (sets_before v) (subst (λ (p : Pending). IsPublishedBy at lane p.sets u) same was.1))

  stopped_by_further : (actions : List Action) → IsStoppedPublishing at lane actions u → IsStoppedPublishing at lane actions v
  stopped_by_further actions was = record {
    holding = was.holding;
    led = led_then v u was.holding led was.led;
    holds = was.holds;
    undrawn = was.undrawn ∙ entries;
    counts = was.counts;
    untold = was.untold;
    works = was.works;
    may = was.may;
    own = was.own;
    stopped = was.stopped;
  }

  all_further : (pending : PendingActions) (blocks : BlockLists) → IsPublishedAll at lane pending blocks u → IsPublishedAll at lane pending blocks v
  all_further pending blocks was = record {
    some = subst (λ (p : Pending). 1 ≤ length p.frees + length p.reserved) same was.some;
    holding = was.holding;
    led = led_then v u was.holding led was.led;
    undrawn = was.undrawn ∙ entries;
    counts = was.counts;
    untold = was.untold;
    holds = subst (HoldsPending was.holding) same was.holds;
    done = was.done;
  }

  stopped_all_further : (pending : PendingActions) (blocks : BlockLists) → IsStoppedPublishingAll at lane pending blocks u → IsStoppedPublishingAll at lane pending blocks v
  stopped_all_further pending blocks was = record {
    some = subst (λ (p : Pending). 1 ≤ length p.frees + length p.reserved) same was.some;
    holding = was.holding;
    led = led_then v u was.holding led was.led;
    undrawn = was.undrawn ∙ entries;
    counts = was.counts;
    untold = was.untold;
    works = was.works;
    holds = subst (HoldsPending was.holding) same was.holds;
    stops = was.stops;
  }

  none_at_all_further : IsPublishedNone at lane u → IsPublishedNone at lane v
  unfolding told_further
  none_at_all_further was = record {
    none = sym same ∙ was.none;
    told = record { told = told_further at lane v u Publish None led entries was.told.told; words = was.told.words ∙ led_words v u led alone };
  }

  pub published_further : (pending : PendingActions) (blocks : BlockLists) → IsPublished at lane pending blocks u → IsPublished at lane pending blocks v
  published_further pending blocks (inl was) = inl (none_at_all_further was)
  published_further pending blocks (inr (inl was)) = inr (inl (sets_further was))
  published_further pending blocks (inr (inr was)) = inr (inr (all_further pending blocks was))

  pub stops_further : (pending : PendingActions) (blocks : BlockLists) → IsStoppedInPublish at lane pending blocks u → IsStoppedInPublish at lane pending blocks v
  stops_further pending blocks (inl was) = inl (alone_further was.0, stopped_by_further (sets_before v) (subst (λ (p : Pending). IsStoppedPublishing at lane p.sets u) same was.1))
  stops_further pending blocks (inr was) = inr (stopped_all_further pending blocks was)

  none_further : (p : Pending) → HasFoundNone at lane p u → HasFoundNone at lane p v
  unfolding told_further
  none_further p was = record { told = told_further at lane v u Publish (Some (Refused refusal.NoObject)) led entries was.told; lacking = was.lacking }

  root_further : (p : Pending) → HasFoundRoot at lane p u → HasFoundRoot at lane p v
  unfolding told_further
  root_further p was = record {
    told = told_further at lane v u Publish (Some (Refused refusal.RootKept)) led entries was.told;
    holding = was.holding;
    led = led_then v u was.holding led was.led;
    undrawn = was.undrawn ∙ entries;
    holds = was.holds;
    words = was.words;
  }

  short_further : (p : Pending) → HasFoundShort at lane p u → HasFoundShort at lane p v
  unfolding told_further
  short_further p was = record {
    told = told_further at lane v u Publish (Some (Refused refusal.OutOfRange)) led entries was.told;
    holding = was.holding;
    led = led_then v u was.holding led was.led;
    undrawn = was.undrawn ∙ entries;
    holds = was.holds;
    words = was.words;
  }

  err_further : (pending : PendingActions) (blocks : BlockLists) (r : Refusal) → IsBegunPublishCause r → PublishEnds {M = M} {T = Unit {0}} at lane pending blocks u (Err r) → PublishEnds {M = M} {T = Unit {0}} at lane pending blocks v (Err r)
  err_further pending blocks refusal.Stopped cause was = stops_further pending blocks was
  err_further pending blocks refusal.Busy cause was = busy_further at lane v u led entries was
  err_further pending blocks refusal.NoObject cause was = none_further (pending_before v) (subst (λ (p : Pending). HasFoundNone at lane p u) same was)
  err_further pending blocks refusal.RootKept cause was = root_further (pending_before v) (subst (λ (p : Pending). HasFoundRoot at lane p u) same was)
  err_further pending blocks refusal.OutOfRange cause was = short_further (pending_before v) (subst (λ (p : Pending). HasFoundShort at lane p u) same was)
  err_further pending blocks r cause was = absurd cause

  pub ends_further : (pending : PendingActions) (blocks : BlockLists) (result : Result (Unit {0}) Refusal) → IfErr result IsBegunPublishCause → PublishEnds at lane pending blocks u result → PublishEnds at lane pending blocks v result
  ends_further pending blocks (Ok done) cause was = published_further pending blocks was
  ends_further pending blocks (Err r) cause was = err_further pending blocks r cause was

-- what holding was refused for
pub refused_ends : {M : Type 0} (at : M → View → Type 0) (lane : Lane M) (pending : PendingActions) (blocks : BlockLists) (v : View) (r : Refusal) → IsHoldCause r → RefusesToHold at lane (pending_before v) v r → PublishEnds {M = M} {T = Unit {0}} at lane pending blocks v (Err r)
refused_ends at lane pending blocks v refusal.Busy cause was = was
refused_ends at lane pending blocks v refusal.NoObject cause was = was
refused_ends at lane pending blocks v refusal.RootKept cause was = was
refused_ends at lane pending blocks v refusal.OutOfRange cause was = was
refused_ends at lane pending blocks v r cause was = absurd cause

-- ---- what was found was so before

module _ {M : Type 0} (at : M → View → Type 0) (lane : Lane M) (pending : PendingActions) (blocks : BlockLists) (v : View) (result : Result (Unit {0}) Refusal) (ends : PublishEnds at lane pending blocks v result) (alone : IsAlone v) where
  -- what was missing
  pub missing_alone : result ≡ Err refusal.NoObject → Any (LacksObject v) (wants_pending (pending_before v)) ⊎ ((pending_before v).late ≡ true)
  missing_alone is =
      let was : HasFoundNone at lane (pending_before v) v = subst (λ (r : Result (Unit {0}) Refusal). PublishEnds at lane pending blocks v r) is ends in
      let view : View = was.told.view in
      let same = was.told.same in
      ⊎_elim
      (λ (lacks : Any (LacksObject view) (wants_pending (pending_before v))).
      inl (any_lacks_same view v (sym same.lanes) (sym same.zones) (sym same.pool) (sym (led_words v view was.told.led alone)) (wants_pending (pending_before v)) lacks))
      (λ (late : (pending_before v).late ≡ true). inr late) was.lacking

  -- the root
  pub root_alone : result ≡ Err refusal.RootKept → Any (λ (id : Oid). slice_index v.words 64 ≡ id.off) (pending_before v).frees
  root_alone is =
      let was : HasFoundRoot at lane (pending_before v) v = subst (λ (r : Result (Unit {0}) Refusal). PublishEnds at lane pending blocks v r) is ends in
      subst (λ (ws : List ℕ). Any (λ (id : Oid). slice_index ws 64 ≡ id.off) (pending_before v).frees) (led_words v was.holding was.led alone) was.holds.root

-- by the words that it passes the end of its object then, it did so before where these were the words
overran : (v w : View) → IsSameLane v w → w.words ≡ v.words → (a : Action) → PassesObject w a → Overruns v a
overran v w same words (SetWord id off value) passes =
    let object : IsHeld w id true = passes.object in
    record {
      line = object.lock.line;
      of_pool = object.of_pool ∙ same.pool;
      place = object.place;
      past = subst (λ (ws : List ℕ). slice_index ws (8 * object.lock.line + 1) < off + 8) words passes.outside;
    }

-- so an action passed its object's end
pub past_alone : {M : Type 0} (at : M → View → Type 0) (lane : Lane M) (pending : PendingActions) (blocks : BlockLists) (v : View) (result : Result (Unit {0}) Refusal) → PublishEnds at lane pending blocks v result → IsAlone v → result ≡ Err refusal.OutOfRange
    → Any (Overruns v) (pending_before v).sets
past_alone {M} at lane pending blocks v result ends alone is =
    let was : HasFoundShort at lane (pending_before v) v = subst (λ (r : Result (Unit {0}) Refusal). PublishEnds at lane pending blocks v r) is ends in
    let some = was.holds.some in
    (some.0, some.1, some.2, some.3, overran v was.holding (led_same v was.holding was.led) (led_words v was.holding was.led alone) some.1 some.4)

-- ---- a publish of nothing

-- it is a whole call
pub empty_whole : {M : Type 0} (at : M → View → Type 0) (lane : Lane M) (u : View) → IsBegun at lane u → lane.locks.items ≡ [] → pending_before u ≡ none_pending → IsWholeOnceTold u Publish None
unfolding locked_all
empty_whole {M} at lane u is free none =
    publish_is_step told (record {
      call = ap (λ (told : List Told). told ++ record { operation = Publish; reply = None } ∷ []) is.untold;
      no_records = ap (λ (log : Log). log.records) is.log;
      alone = sets_alone (pending_before told) [] (sym none);
      holds = record { in_lanes = is.area.lane; takes = subst (λ (p : Pending). TakesWanted told [] (wants_pending p)) (sym none) takes };
      each = subst (λ (p : Pending). All (CanSet told) p.sets) (sym none) (All-nil (CanSet told));
      entries = ap (λ (log : Log). filter (λ (f : Final). not (is_in_area u.lane f.word)) log.entries) is.log ∙ sym (ap (λ (p : Pending). map entry_for p.sets) none);
    }) where
      told : View
      told = after u (Tell Publish None)

      no_locks : u.locks ≡ []
      no_locks = sym is.seen.locks ∙ ap (map lock_of) free

      takes : TakesWanted told [] []
      takes = record {
        few = (let n = ap length no_locks in omega (arith, n));
        locks = subst (λ (ls : List Lock). AreSameLocks (map model_lock ls) []) (sym no_locks) (record { same = λ off write. refl; count = refl });
        wanted = λ want there. absurd (let low = there.1 in omega (arith, low));
        chunks = λ l lines there block. absurd (let low = there.1 in let n = ap length no_locks in omega (arith, low, n));
      }
