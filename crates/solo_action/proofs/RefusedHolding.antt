-- A publish that is refused for its objects is a whole call, and is told so; one that finds a lock of another lane is not told.
use Rattle.std.proofs.Common.{◌≡◌, ◌≢◌, ◌⊎◌, ⊎_elim, inl, inr, IsTrue, not, ℕ, ◌+◌, ◌<◌, ◌≤◌, suc, Bool, true, false, cond, Contains, List, [], ◌∷◌, ◌++◌, length, map, slice_index, Option, Some, Err, refl, sym, ap, ◌∙◌, subst, arith}
use Rattle.std.specs.List.{Any, filter, list_any}
use Rattle.std.proofs.lemmas.List.{length-append, length-map}
use Rattle.std.proofs.lemmas.List.Elements.{Contains-append_left}
use Rattle.solo_crash.proofs.Includes.{made_member}
use Rattle.solo_crash.proofs.PublishOutside.{refused_publish_steps}
use Rattle.solo_crash.proofs.PendingOn.{same_before}
use Rattle.solo_crash.proofs.ReservedStays.{pending_at_rest}
use Rattle.solo_crash.proofs.SameLocks.{count_after, one_unless}
use Rattle.solo_crash.proofs.StillReserved.{HasSameHeads, borne_told}
use Rattle.solo_crash.specs.CallBlocks.{TellsOfRoot}
use Rattle.solo_crash.specs.OnActions.{HoldsInTime, IsOutsideReason, PassesObject}
use Rattle.solo_crash.specs.OpenCall.{MakesItsStep}
use Rattle.solo_crash.specs.Operations.{IsHeld, TakesWanted}
use Rattle.solo_crash.specs.Pending.{pending_before}
use Rattle.solo_crash.specs.Reserved.{IsBorneOut, root_in}
use Rattle.pm_image.specs.Blocks.{chunk_word, descriptor_word}
use Rattle.solo_model.specs.Actions.{Action, Pending, wants_for, wants_pending}
use Rattle.solo_model.specs.Actions.Action.{SetWord}
use Rattle.solo_model.specs.Transaction.{Lock as Locked, is_locked, locked, locked_all}
use Rattle.pm_objects.specs.declared.calls.Operation.TheVariants.{Publish}
use Rattle.pm_objects.specs.declared.calls.Want.{Want}
use Rattle.pm_objects.specs.declared.history.Value.{Value}
use Rattle.pm_objects.specs.declared.history.Value.TheVariants.{Refused}
use Rattle.pm_objects.specs.declared.ids.Oid.{Oid}
use Rattle.pm_objects.specs.declared.refusal.Refusal.{Refusal}
use Rattle.pm_objects.specs.declared.refusal.Refusal.TheVariants as refusal
use Rattle.solo_pending.specs.AllPending.{IsPendingAs}
use Rattle.solo_pending.specs.Pending.{action_of, sets_of}
use Rattle.solo_pending.specs.declared.pending.PendingActions.{PendingActions}
use Rattle.solo_view.specs.Founds.{IsAlone}
use Rattle.solo_view.specs.Log.{Log}
use Rattle.solo_view.specs.Steps.Step.{Tell}
use Rattle.solo_view.specs.View.{Told, View}
use Rattle.solo_view.specs.Views.{after}
use Rattle.solo_world.specs.Lanes.{lock_of}
use Rattle.solo_world.specs.declared.lane.HeldLock.{HeldLock}
use Rattle.solo_world.specs.declared.lane.Lane.{Lane}
use Rattle.solo_lock.proofs.Leads.{led_none, led_same}
use Rattle.solo_lock.proofs.LookedAlone.{any_lacks_same, led_words}
use Rattle.solo_lock.specs.Begun.{IsBegun}
use Rattle.solo_lock.specs.Lacking.{LacksObject}
use Rattle.solo_lock.specs.Locking.{IsBusy}
use Rattle.solo_lock.specs.Plans.{has_form, locks_of_form}
use Rattle.solo_transaction.proofs.Frees.{root_there}
use Rattle.solo_tx.proofs.BeganWanted.{form_lacks}
use Rattle.solo_action.specs.BegunAlone.{BeginsAlone}
use Rattle.solo_action.specs.Holding.{BeginsToPublish, GoesOnTo, HasFoundNone, HasFoundRoot, HasFoundShort, HoldsLate, HoldsPending, IsHoldCause, IsHoldReason, RefusesToHold, SeeksObjects, StaysSound, named_in}
use Rattle.solo_tx.specs.Ending.{LiesUnlocked}
use Rattle.solo_action.specs.Outside.{IsEndedOnceTold, IsToldAtOnce, IsToldOutside}
use Rattle.solo_action.proofs.LateFrees.{late_frees}
use Rattle.solo_action.proofs.Started.{told_further}
use Rattle.solo_action.proofs.WantedObjects.{want_for, want_of}

-- ---- so few actions need no more locks than a lane has

one_at_most : (held : Bool) → one_unless held ≤ 1
one_at_most true = omega arith
one_at_most false = omega arith

few_locked : (wants : List Want) (locks : List Locked) → length (locked_all wants locks) ≤ length wants + length locks
unfolding locked_all
few_locked [] locks = omega arith
few_locked (want ∷ wants) locks =
    let more = count_after want.id.off want.write locks in
    let one = one_at_most (is_locked locks want.id.off false) in
    let rest = few_locked wants (locked want.id.off want.write locks) in
    omega (arith, more, one, rest)

few_filtered : (p : Want → Bool) (wants : List Want) → length (filter p wants) ≤ length wants
few_filtered p [] = omega arith
few_filtered p (want ∷ wants) = by (p want) (few_filtered p wants) where
  by : (b : Bool) → length (filter p wants) ≤ length wants → length (cond b (want ∷ filter p wants) (filter p wants)) ≤ suc (length wants)
  by true rest = omega (arith, rest)
  by false rest = omega (arith, rest)

few_of_form : (pool lanes zones : ℕ) (wants : List Want) → length (locks_of_form pool lanes zones wants) ≤ length wants
few_of_form pool lanes zones wants =
    let a = few_locked (filter (has_form pool lanes zones) wants) [] in
    let b = few_filtered (has_form pool lanes zones) wants in
    omega (arith, a, b)

-- so the one reason that they have no plan is an id without an object's form
pub never_full : (pool lanes zones : ℕ) (list : PendingActions) (wants : List Want) (r : Refusal) → wants ≡ wants_pending (named_in list) → length list.frees.items + length list.sets.items ≤ 63 → (r ≡ refusal.LocksFull) ⊎ (r ≡ refusal.NoObject)
    → (r ≡ refusal.LocksFull → 64 < length (locks_of_form pool lanes zones wants)) → r ≡ refusal.NoObject
never_full pool lanes zones list wants r are few cause full =
    ⊎_elim
    (λ (locks : r ≡ refusal.LocksFull).
    let many = full locks in
    let most = few_of_form pool lanes zones wants in
    let n = ap length are in
    let both = length-append (map want_of list.frees.items) (wants_for (sets_of list.sets.items)) in
    let f = length-map list.frees.items want_of in
    let m = length-map (sets_of list.sets.items) want_for in
    let k = length-map list.sets.items action_of in
    absurd (omega (arith, many, most, n, both, f, m, k, few)))
    (λ (none : r ≡ refusal.NoObject). none) cause

-- ---- what is sought, and why it is refused

-- no lock was taken
pub unplanned : {M : Type 0} (at : M → View → Type 0) (lane : Lane M) (list : PendingActions) (v : View) (is : IsBegun at lane v) (wants : List Want) → wants ≡ wants_pending (named_in list) → (r : Refusal) → r ≡ refusal.NoObject
    → (r ≡ refusal.NoObject → IsTrue (list_any (λ (want : Want). not (has_form lane.pool lane.shape.lanes lane.shape.zones want)) wants)) → SeeksObjects {M = M} {T = Unit {0}} at lane (named_in list) v (Err r)
unplanned {M} at lane list v is wants are r none lacks =
    subst (λ q. SeeksObjects {M = M} {T = Unit {0}} at lane (named_in list) v (Err q)) (sym none) goes where
      goes : GoesOnTo at lane v (λ w. IsHoldReason w (named_in list) refusal.NoObject)
      goes = record {
        view = v;
        led = led_none v;
        begun = is;
        entries = refl;
        holds = inl (subst (Any (LacksObject v)) are (form_lacks lane.pool lane.shape.lanes lane.shape.zones v wants is.seen.pool is.seen.shape.lanes is.seen.shape.zones (lacks none)));
      }

no_items : (locks : List HeldLock) → map lock_of locks ≡ [] → locks ≡ []
no_items [] none = refl
no_items (l ∷ locks) none = absurd (let n = ap length none in omega (arith, n))

-- a lane that found a lock of another lane holds none
pub busy_free : {M : Type 0} (at : M → View → Type 0) (lane : Lane M) (v : View) → IsBusy at lane v → lane.locks.items ≡ []
busy_free at lane v busy = no_items lane.locks.items (busy.rests.seen.locks ∙ busy.rests.free)

module _ (w : View) (reply : Option Value) where
  abbrev told : View
  told = after w (Tell Publish reply)

  -- telling changes neither the locks nor the words
  wanted_told : (wants : List Want) → TakesWanted w [] wants → TakesWanted told [] wants
  wanted_told wants takes = record {
    few = takes.few;
    locks = takes.locks;
    wanted = λ want there.
        let t = takes.wanted want there in
        let h : IsHeld w want.id want.write = t.held in
        record { place = t.place; held = record { lock = h.lock; lines = h.lines; held = h.held; block = h.block; allows = h.allows; of_pool = h.of_pool; place = h.place } };
    chunks = takes.chunks;
  }

  passes_told : (a : Action) → PassesObject w a → PassesObject told a
  passes_told (SetWord id off value) past =
      let h : IsHeld w id true = past.object in
      record {
        object = record { lock = h.lock; lines = h.lines; held = h.held; block = h.block; allows = h.allows; of_pool = h.of_pool; place = h.place };
        size_known = past.size_known;
        outside = past.outside;
      }

  in_time_told : (p : Pending) → w.lane < w.lanes → p ≡ pending_before w → TakesWanted w [] (wants_pending p) → p.late ≡ false → HoldsInTime told
  in_time_told p inside same takes in_time = record {
    holds = record { in_lanes = inside; takes = subst (λ (q : Pending). TakesWanted told [] (wants_pending q)) same (wanted_told (wants_pending p) takes) };
    in_time = ap (λ (q : Pending). q.late) (sym same) ∙ in_time;
  }

  -- something is named where one was asked for late
  late_named : (p : Pending) → p ≡ pending_before w → p.late ≡ true → 1 ≤ length (wants_pending p)
  late_named p same late =
      let some = late_frees w (ap (λ (q : Pending). q.late) (sym same) ∙ late) in
      let frees = ap (λ (q : Pending). length q.frees) same in
      let both = length-append (map want_of p.frees) (wants_for p.sets) in
      let n = length-map p.frees want_of in
      omega (arith, some, frees, both, n)

  reason_told : (p : Pending) (r : Refusal) → w.lane < w.lanes → p ≡ pending_before w → IsHoldReason w p r → IsOutsideReason told r
  reason_told p refusal.NoObject inside same reason =
      let n = ap (λ (q : Pending). length (wants_pending q)) same in
      ⊎_elim
      (λ (lacks : Any (LacksObject w) (wants_pending p)). let low = lacks.2 in omega (arith, n, low))
      (λ (held : HoldsLate w p). let some = late_named p same held.late in omega (arith, n, some)) reason
  reason_told p refusal.RootKept inside same reason =
      let low = reason.root.2 in let frees = ap (λ (q : Pending). length q.frees) same in (in_time_told p inside same reason.takes reason.in_time, omega (arith, low, frees))
  reason_told p refusal.OutOfRange inside same reason =
      let some = reason.some in
      (in_time_told p inside same reason.takes reason.in_time, subst (λ (q : Pending). Any (PassesObject told) q.sets) same (some.0, some.1, some.2, some.3, passes_told some.1 some.4))
  reason_told p r inside same reason = absurd reason

-- an object that is wanted stands behind a line, and so at no offset 0
wanted_behind : (v : View) (ids : List Oid) (sets : List Want) (id : Oid) → TakesWanted v [] (map want_of ids ++ sets) → Contains ids id → 1 ≤ id.off
wanted_behind v ids sets id takes there =
    let place = (takes.wanted (want_of id) (Contains-append_left (map want_of ids) sets (want_of id) (made_member want_of ids id there))).held.place in omega (arith, place)

-- what the refusal tells of the root
tells_root : (v : View) (p : Pending) (r : Refusal) → IsHoldReason v p r → TellsOfRoot (root_in (slice_index v.words)) Publish (Some (Refused r)) p
tells_root v p refusal.NoObject reason = tt
tells_root v p refusal.RootKept reason =
    let t = reason.root in (t.0, t.1, t.2, t.3, root_there (slice_index v.words) t.1.off (wanted_behind v p.frees (wants_for p.sets) t.1 reason.takes (t.0, t.2, t.3)) t.4)
tells_root v p refusal.OutOfRange reason = reason.not_root
tells_root v p r reason = absurd reason

-- ---- of what is pending

-- what the lists name is what is pending, but for what is reserved
named_is : (list : PendingActions) (p : Pending) → IsPendingAs list p → named_in list ≡ record p { reserved = [] }
named_is list p is = λ i. record { sets = is.sets i; frees = is.frees i; reserved = []; late = is.late i }

plainly : (v : View) (p : Pending) (r : Refusal) → IsHoldReason v (record p { reserved = [] }) r → IsHoldReason v p r
plainly v p refusal.NoObject (inl lacks) = inl lacks
plainly v p refusal.NoObject (inr held) = inr (record { takes = held.takes; objects = held.objects; late = held.late })
plainly v p refusal.RootKept held = record { takes = held.takes; objects = held.objects; in_time = held.in_time; root = held.root }
plainly v p refusal.OutOfRange held = record { takes = held.takes; objects = held.objects; in_time = held.in_time; not_root = held.not_root; some = held.some }
plainly v p r reason = absurd reason

reason_pending : (list : PendingActions) (p : Pending) → IsPendingAs list p → (v : View) (r : Refusal) → IsHoldReason v (named_in list) r → IsHoldReason v p r
reason_pending list p is v r reason = plainly v p r (subst (λ (q : Pending). IsHoldReason v q r) (named_is list p is) reason)

pub holds_pending : (list : PendingActions) (p : Pending) → IsPendingAs list p → (v : View) → HoldsPending v (named_in list) → HoldsPending v p
holds_pending list p is v holds =
    let held : HoldsPending v (record p { reserved = [] }) = subst (HoldsPending v) (named_is list p is) holds in
    record { takes = held.takes; objects = held.objects; in_time = held.in_time; not_root = held.not_root; frees = held.frees; each = held.each }

pub goes_pending : {M : Type 0} (at : M → View → Type 0) (lane : Lane M) (list : PendingActions) (v : View) → IsPendingAs list (pending_before v) → GoesOnTo at lane v (λ u. HoldsPending u (named_in list)) → GoesOnTo at lane v (λ u. HoldsPending u (pending_before v))
goes_pending at lane list v is goes = record { view = goes.view; led = goes.led; begun = goes.begun; entries = goes.entries; holds = holds_pending list (pending_before v) is goes.view goes.holds }

-- a lane alone that has begun is of no table
pub begun_alone : {M : Type 0} (at : M → View → Type 0) (lane : Lane M) (w : View) → BeginsAlone at lane w → IsAlone w
begun_alone at lane w begins = begins.world.5.outside.can.run.alone

module _ {M : Type 0} (at : M → View → Type 0) (old mid new : Lane M) (list : PendingActions) (v : View) (is : BeginsToPublish at old list v) where
  abbrev p : Pending
  p = pending_before v

  abbrev Ends : Refusal → Type 0
  Ends r =
      (w : View) → IsBegun at mid w → LiesUnlocked w → IsEndedOnceTold w Publish (Some (Refused r)) → IsToldAtOnce at new w Publish (Some (Refused r))

  abbrev Goes : Refusal → Type 0
  Goes r = GoesOnTo at mid v (λ w. IsHoldReason w (named_in list) r)

  module _ (r : Refusal) (goes : Goes r) where
    abbrev w : View
    w = goes.view

    reason : IsHoldReason w p r
    reason = reason_pending list p is.listed w r goes.holds

    same : p ≡ pending_before w
    same = sym (same_before v w goes.entries)

    alone : IsAlone v
    alone = begun_alone at old v is.begins

    abbrev ended : View
    ended = after w (Tell Publish (Some (Refused r)))

    -- what the lane has bears out what the call told
    words : (i : ℕ) → slice_index w.words i ≡ slice_index v.words i
    words i = ap (λ (ws : List ℕ). slice_index ws i) (led_words v w goes.led alone)

    heads : HasSameHeads v ended
    heads = let lane = led_same v w goes.led in
        record { lanes = lane.lanes; zones = lane.zones; reserved = goes.led.heap.reserved; described = λ c in_pool. words (descriptor_word v.lanes c); bitmaps = λ c in_pool run. words (chunk_word v.lanes c); root = words 64 }

    root_same : root_in (slice_index w.words) ≡ root_in (slice_index v.words)
    root_same = ap (λ (ws : List ℕ). root_in (slice_index ws)) (led_words v w goes.led alone)

    borne_out : IsBorneOut ended
    borne_out = borne_told v ended heads Publish (Some (Refused r)) goes.entries
        (ap (λ (told : List Told). told ++ record { operation = Publish; reply = Some (Refused r) } ∷ []) (goes.begun.untold ∙ sym is.begins.begun.untold)) (refl, refl)
        (subst (λ (q : Pending). TellsOfRoot (root_in (slice_index v.words)) Publish (Some (Refused r)) q) (sym (pending_at_rest v is.begins.begun.untold))
        (subst (λ (root : Option ℕ). TellsOfRoot root Publish (Some (Refused r)) p) root_same (tells_root w p r reason)))
        is.begins.world.5.outside.borne_out

    steps : MakesItsStep ended
    steps = refused_publish_steps ended r (record {
      call = ap (λ (told : List Told). told ++ record { operation = Publish; reply = Some (Refused r) } ∷ []) goes.begun.untold;
      no_records = ap (λ (log : Log). log.records) goes.begun.log;
      no_entries = ap (λ (log : Log). log.entries) goes.begun.log;
      reason = reason_told w (Some (Refused r)) p r goes.begun.area.lane same reason;
    })

    -- the refusal is told, from the view at which there was the reason
    abbrev told_there : Ends r → IsToldAtOnce at new w Publish (Some (Refused r))
    told_there ends = ends w goes.begun (is.sound mid.memory w goes.led goes.begun.seen.memory).apart (inr (inr (steps, borne_out)))

    abbrev told_refused : Ends r → IsToldOutside at new v Publish (Some (Refused r))
    unfolding told_further
    told_refused ends = told_further at new v w Publish (Some (Refused r)) goes.led goes.entries (told_there ends).told

  found_none : Ends refusal.NoObject → Goes refusal.NoObject → HasFoundNone at new p v
  unfolding told_further
  found_none ends goes =
      let t = told_there refusal.NoObject goes ends in
      let lane = t.told.same in
      record {
        told = told_refused refusal.NoObject goes ends;
        lacking = ⊎_elim
            (λ (lacks : Any (LacksObject goes.view) (wants_pending p)). inl (any_lacks_same goes.view t.told.view lane.lanes lane.zones lane.pool t.words (wants_pending p) lacks))
            (λ (held : HoldsLate goes.view p). inr held.late) (reason refusal.NoObject goes);
      }

  found_root : Ends refusal.RootKept → Goes refusal.RootKept → HasFoundRoot at new p v
  unfolding told_further
  found_root ends goes = record {
    told = told_refused refusal.RootKept goes ends;
    holding = goes.view;
    led = goes.led;
    undrawn = goes.entries;
    holds = reason refusal.RootKept goes;
    words = (told_there refusal.RootKept goes ends).words;
  }

  found_short : Ends refusal.OutOfRange → Goes refusal.OutOfRange → HasFoundShort at new p v
  unfolding told_further
  found_short ends goes = record {
    told = told_refused refusal.OutOfRange goes ends;
    holding = goes.view;
    led = goes.led;
    undrawn = goes.entries;
    holds = reason refusal.OutOfRange goes;
    words = (told_there refusal.OutOfRange goes ends).words;
  }

  pub refuses : (r : Refusal) → r ≢ refusal.Busy → IsHoldCause r → SeeksObjects {M = M} {T = Unit {0}} at mid (named_in list) v (Err r) → Ends r → RefusesToHold at new p v r
  refuses refusal.Busy apart cause sought ends = absurd (apart refl)
  refuses refusal.NoObject apart cause sought ends = found_none ends sought
  refuses refusal.RootKept apart cause sought ends = found_root ends sought
  refuses refusal.OutOfRange apart cause sought ends = found_short ends sought
  refuses r apart cause sought ends = absurd cause

-- where such a refusal is told, the call has begun still, and nothing undrained lies under a lock
pub refusing_view : {M : Type 0} (at : M → View → Type 0) (mid : Lane M) (p : Pending) (v : View) → StaysSound at v → (r : Refusal) → r ≢ refusal.Busy → IsHoldCause r → SeeksObjects {M = M} {T = Unit {0}} at mid p v (Err r)
    → (w : View) × (IsBegun at mid w × LiesUnlocked w)
refusing_view at mid p v stays refusal.Busy apart cause sought = absurd (apart refl)
refusing_view at mid p v stays refusal.NoObject apart cause sought = (sought.view, (sought.begun, (stays mid.memory sought.view sought.led sought.begun.seen.memory).apart))
refusing_view at mid p v stays refusal.RootKept apart cause sought = (sought.view, (sought.begun, (stays mid.memory sought.view sought.led sought.begun.seen.memory).apart))
refusing_view at mid p v stays refusal.OutOfRange apart cause sought = (sought.view, (sought.begun, (stays mid.memory sought.view sought.led sought.begun.seen.memory).apart))
refusing_view at mid p v stays r apart cause sought = absurd cause
