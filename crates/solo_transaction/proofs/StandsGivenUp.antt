-- What a lane has reserved and pending stands behind its transaction where that is given up, for a refusal or an abort.
use Rattle.std.proofs.Common.{◌≡◌, ◌⊎◌, inl, inr, ℕ, All, false, ◌∙◌, Contains, List, [], ◌∷◌, ◌++◌, map, Option, None, Some, refl, sym, ap, subst, arith}
use Rattle.std.proofs.lemmas.Bool.{cond-false}
use Rattle.std.proofs.lemmas.List.Elements.{All-contains}
use Rattle.std.specs.List.{filter}
use Rattle.solo_model.specs.Actions.{Pending, Reservation}
use Rattle.pm_objects.specs.declared.calls.Operation.{Operation}
use Rattle.pm_objects.specs.declared.calls.Operation.TheVariants.{Abort}
use Rattle.pm_objects.specs.declared.history.Value.{Value}
use Rattle.pm_objects.specs.declared.history.Value.TheVariants.{Refused}
use Rattle.pm_objects.specs.declared.refusal.Refusal.{Refusal}
use Rattle.pm_image.proofs.Members.{no_member}
use Rattle.solo_view.proofs.Sequences.{after_all-append}
use Rattle.solo_view.specs.Held.{is_held}
use Rattle.solo_view.specs.Log.{Log, log_drawn, no_log}
use Rattle.solo_view.specs.Log.Phase.{Idle}
use Rattle.solo_view.specs.Steps.Step.{Draw, Tell}
use Rattle.solo_view.specs.View.{Lock, Told, View}
use Rattle.solo_view.specs.Views.{after, after_all, changes_heap, unallocated}
use Rattle.solo_world.proofs.Plain.{empty_plain}
use Rattle.solo_world.specs.Lanes.{span_of}
use Rattle.solo_world.specs.Opening.{Opening}
use Rattle.solo_world.specs.Sequences.{in_turn, one}
use Rattle.solo_world.specs.declared.lane.Lane.{Lane}
use Rattle.solo_world.specs.declared.lane.Span.{Span}
use Rattle.solo_crash.specs.CallBlocks.{LeavesReserved, blocks_behind, blocks_in, no_blocks, reserved_in, reserved_object}
use Rattle.solo_crash.specs.OpenCall.{RecordsUnder}
use Rattle.solo_crash.specs.Operations.{TakesBack, Tells}
use Rattle.solo_crash.specs.Pending.{pending_in}
use Rattle.solo_crash.specs.Reserving.{HasReserved}
use Rattle.solo_crash.proofs.Includes.{made_member}
use Rattle.solo_crash.proofs.PendingOn.{pending_once_more}
use Rattle.solo_crash.proofs.ReservedStays.{given_up_stays, refusal_stays, reserved_then}
use Rattle.solo_crash.proofs.StillReserved.{HasSameHeads}
use Rattle.solo_made.specs.Made.{BlockLists}
use Rattle.solo_tx.proofs.BorneOut.{chunk_words_outside, descriptor_unrecorded, root_outside, root_unrecorded}
use Rattle.solo_tx.proofs.TakenBack.{take_back_lawful}
use Rattle.solo_tx.specs.Ending.{IsTakenBack}
use Rattle.solo_tx.specs.Learning.{Looks}
use Rattle.solo_undo.specs.Working.{IsWorking}
use Rattle.pm_image.specs.Blocks.{descriptor_word}
use Rattle.solo_world.specs.Records.{is_recorded}
use Rattle.solo_tx.specs.Sequences.{ends_call, gives_up, takes_back}
use Rattle.solo_transaction.proofs.GoingWith.{Keeps, kept_of, lies_still, looks_keep, lies_by, ReservesSame}
use Rattle.solo_transaction.proofs.RestingViews.{LeavesStanding, left_rests}
use Rattle.pm_layout.specs.Sizes.{class_of}
use Rattle.pm_objects.specs.declared.refusal.Refusal.TheVariants as refusal
use Rattle.solo_transaction.proofs.RefusedAllocs.{search_of}
use Rattle.solo_transaction.proofs.RefusedReserves.{search_keeps}
use Rattle.solo_transaction.specs.Allocating.{CameToRefuse, MayAllocate}
use Rattle.solo_transaction.specs.AtWork.{IsAtWorkWith, LiesInReserved}
use Rattle.solo_transaction.specs.Resting.{StandsAtRest}

-- ---- a draw of a call that entered nothing

module _ (u : View) (n : ℕ) (none : u.log.entries ≡ []) where
  abbrev y : View
  y = after u (Draw n)

  plain : changes_heap u ≡ false
  plain = empty_plain u none

  pub plain_knows : (i : ℕ) → Contains u.known i → Contains y.known i
  plain_knows i there = subst (λ (known : List ℕ). Contains known i) (sym (cond-false (changes_heap u) (filter (is_held (record u { reserved = unallocated u })) u.known) u.known plain)) there

  pub plain_heads : HasSameHeads u y
  plain_heads = record { lanes = refl; zones = refl; reserved = cond-false (changes_heap u) (unallocated u) u.reserved plain; described = λ c in_pool. refl; bitmaps = λ c in_pool run. refl; root = refl }

  -- leaves what is reserved standing, where the log is empty then
  pub plain_leaves : y.log ≡ no_log Idle → HasReserved u → ((r : Reservation) → Contains (pending_in u).reserved r → LiesInReserved u (reserved_object r)) → LeavesStanding u y
  plain_leaves over has within = record {
    lanes = refl;
    zones = refl;
    lane = refl;
    fresh = inl over;
    number = n;
    entries = refl;
    locks = refl;
    known = λ r i there reads. plain_knows i ((has.each r there).made.known i reads);
    words = λ r i there reads. refl;
    within = λ r there. lies_still u y plain_heads (reserved_object r) (within r there);
  }

-- ---- a call that is given up

-- The call is open, entered nothing, and recorded words of blocks that it found alone, none that describes a chunk; what is reserved stands, in
-- blocks that the lane reserved.
pub record MayLeaveStanding (v : View) : Type 0 where
  pub working : IsWorking v
  pub no_entries : v.log.entries ≡ []
  pub under : RecordsUnder v
  pub undescribed : (c : ℕ) → is_recorded v.log.records (descriptor_word v.lanes c) ≡ false
  pub has_reserved : HasReserved v
  pub within : All (LiesInReserved v) (reserved_in v)

pub at_work_may : {M : Type 0} (o : Opening) (at : M → View → Type 0) (lane : Lane M) (blocks : BlockLists) (v : View) → IsAtWorkWith o at lane blocks v → MayLeaveStanding v
at_work_may o at lane blocks v is = record {
  working = is.work.working;
  no_entries = is.work.no_entries;
  under = is.work.under_way.under;
  undescribed = descriptor_unrecorded o at lane v is.work;
  has_reserved = is.has_reserved;
  within = is.reserved_within;
}

-- so it may in another view with its log and its locks, where that stands
still_may : (v u : View) → MayLeaveStanding v → u.log ≡ v.log → u.lanes ≡ v.lanes → u.locks ≡ v.locks → IsWorking u → HasReserved u → All (LiesInReserved u) (reserved_in u) → MayLeaveStanding u
still_may v u may log lanes locks working has within =
    let same : (i : ℕ) → is_recorded u.log.records i ≡ is_recorded v.log.records i = λ i. ap (λ (l : Log). is_recorded l.records i) log in
    record {
      working = working;
      no_entries = ap (λ (l : Log). l.entries) log ∙ may.no_entries;
      under = λ i recorded. let t = may.under i (sym (same i) ∙ recorded) in record { lock = t.lock; lines = t.lines; held = subst (λ (ls : List Lock). Contains ls t.lock) (sym locks) t.held; found = t.found; from = t.from; to = t.to };
      undescribed = λ c. same (descriptor_word u.lanes c) ∙ (ap (λ k. is_recorded v.log.records (descriptor_word k c)) lanes ∙ may.undescribed c);
      has_reserved = has;
      within = within;
    }

-- behind some looks, and where it looked for a block and found none, or looked for none
pub looked_may : {M : Type 0} (o : Opening) (at : M → View → Type 0) (lane : Lane M) (blocks : BlockLists) (n : ℕ) (v u : View) → IsAtWorkWith o at lane blocks v → Looks n v u → u.log ≡ v.log → u.lanes ≡ v.lanes → u.locks ≡ v.locks → IsWorking u
    → MayLeaveStanding u
looked_may o at lane blocks n v u is looks log lanes locks working =
    let keeps : Keeps lane.locks.items blocks u = looks_keep lane.locks.items blocks n v u looks (kept_of o at lane blocks v is) in
    still_may v u (at_work_may o at lane blocks v is) log lanes locks working keeps.has_reserved keeps.reserved_within

pub came_may : {M : Type 0} (o : Opening) (at : M → View → Type 0) (lane : Lane M) (blocks : BlockLists) (v : View) → MayAllocate o at lane blocks v → (size : ℕ) (r : Refusal) (u : View) → CameToRefuse v size r u → u.log ≡ v.log → u.lanes ≡ v.lanes → u.locks ≡ v.locks
    → IsWorking u → MayLeaveStanding u
came_may o at lane blocks v may size refusal.NoSpace u none log lanes locks working =
    let found = search_of (λ (x : View). x ≡ u) v (class_of size) none in
    let keeps : Keeps lane.locks.items blocks u = subst (Keeps lane.locks.items blocks) found.1.there (search_keeps o at lane blocks v may (λ (x : View). x ≡ u) found.0 found.1) in
    still_may v u (at_work_may o at lane blocks v may.works) log lanes locks working keeps.has_reserved keeps.reserved_within
came_may o at lane blocks v may size r u came log lanes locks working = subst MayLeaveStanding (sym came) (at_work_may o at lane blocks v may.works)

module _ (v : View) (is : MayLeaveStanding v) (spans : List Span) (spans_are : spans ≡ map span_of v.log.records) (op : Operation) (reply : Option Value) (n : ℕ) where
  abbrev mid : View
  mid = after_all v (takes_back (map span_of v.log.records) v)

  abbrev told : View
  told = after mid (Tell op reply)

  back : IsTakenBack v mid
  back = (take_back_lawful v is.working is.no_entries).1

  tells : Tells v told op reply
  tells =
      let lane_is = back.call.lane in
      record {
        keeps = record { lanes = lane_is.lanes; zones = lane_is.zones; pool = lane_is.pool; lane = lane_is.lane; entries = back.call.entries; known = back.call.remembers };
        locks = back.call.locks;
        call = ap (λ (call : List Told). call ++ record { operation = op; reply = reply } ∷ []) back.call.call;
      }

  taken_back : TakesBack v told
  taken_back = let t = back.takes_back in record { restored = t.restored; known = t.known; others = t.others; records = t.records }

  reserves_same : ReservesSame v told
  reserves_same = record {
    lanes = tells.keeps.lanes;
    zones = tells.keeps.zones;
    reserved = back.call.reserved;
    described = λ c in_pool. taken_back.others (descriptor_word v.lanes c) (chunk_words_outside v.lane v.lanes c is.working.area.lane) (is.undescribed c);
  }

  -- the steps, from the call told on
  abbrev EndsAt : List Span → Type 0
  EndsAt all = after_all v (gives_up all op reply n v) ≡ after told (Draw n)

  ends : after_all v (gives_up spans op reply n v) ≡ after told (Draw n)
  unfolding gives_up ends_call in_turn one after_all
  ends = subst EndsAt (sym spans_are) (after_all-append v (takes_back (map span_of v.log.records) v) (ends_call op reply n mid))

  -- what was reserved as it was given up was before
  given_up_rests : HasReserved told → ((r : Reservation) → Contains (pending_in told).reserved r → Contains (pending_in v).reserved r) → StandsAtRest (after_all v (gives_up spans op reply n v))
  given_up_rests has before = subst StandsAtRest (sym ends)
      (left_rests told (after told (Draw n)) (let s = back.call.lane in let low = is.working.area.lane in let l = s.lane in let ls = s.lanes in omega (arith, low, l, ls)) has
      (plain_leaves told n (ap (λ (log : Log). log.entries) back.log) (ap (λ (log : Log). log_drawn log.phase log) back.log) has
      (λ r there. lies_by v told reserves_same (reserved_object r)
      (All-contains (LiesInReserved v) (reserved_in v) (reserved_object r) is.within (made_member reserved_object (pending_in v).reserved r (before r there))))))

  pub leaves_standing : LeavesReserved op reply (pending_in v) → blocks_behind op reply (pending_in v) (blocks_in v) ≡ no_blocks → StandsAtRest (after_all v (gives_up spans op reply n v))
  leaves_standing leaves none = given_up_rests (given_up_stays v told op reply is.has_reserved is.under tells taken_back leaves none)
      (λ r there. before r (reserved_then v told op reply tells.keeps.entries tells.call leaves) there) where
        before : (r : Reservation) → ((pending_in told).reserved ≡ (pending_in v).reserved) ⊎ ((pending_in told).reserved ≡ []) → Contains (pending_in told).reserved r → Contains (pending_in v).reserved r
        before r (inl same) there = subst (λ (rs : List Reservation). Contains rs r) same there
        before r (inr none) there = absurd (no_member r (subst (λ (rs : List Reservation). Contains rs r) none there))

pub refused_leaves_standing : (v : View) (is : MayLeaveStanding v) (spans : List Span) → spans ≡ map span_of v.log.records → (op : Operation) (r : Refusal) (n : ℕ)
    → StandsAtRest (after_all v (gives_up spans op (Some (Refused r)) n v))
refused_leaves_standing v is spans are op r n =
    let reply : Option Value = Some (Refused r) in
    let call : Tells v (told v is spans are op reply n) op reply = tells v is spans are op reply n in
    given_up_rests v is spans are op reply n
    (refusal_stays v (told v is spans are op reply n) op r is.has_reserved is.under call (taken_back v is spans are op reply n))
    (λ s there. subst (λ (p : Pending). Contains p.reserved s) (pending_once_more v (told v is spans are op reply n) op reply call.keeps.entries call.call) there)

pub refusal_leaves_standing : {M : Type 0} (o : Opening) (at : M → View → Type 0) (lane : Lane M) (blocks : BlockLists) (v : View) (op : Operation) (r : Refusal) (n : ℕ) → IsAtWorkWith o at lane blocks v
    → StandsAtRest (after_all v (gives_up lane.records.items op (Some (Refused r)) n v))
refusal_leaves_standing o at lane blocks v op r n is = refused_leaves_standing v (at_work_may o at lane blocks v is) lane.records.items is.work.seen.records op r n

pub abort_leaves_standing : {M : Type 0} (o : Opening) (at : M → View → Type 0) (lane : Lane M) (blocks : BlockLists) (v : View) (errnum n : ℕ) → IsAtWorkWith o at lane blocks v
    → StandsAtRest (after_all v (gives_up lane.records.items (Abort errnum) None n v))
abort_leaves_standing o at lane blocks v errnum n is = leaves_standing v (at_work_may o at lane blocks v is) lane.records.items is.work.seen.records (Abort errnum) None n (refl, refl) refl
