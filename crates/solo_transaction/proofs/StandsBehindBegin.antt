-- What a lane alone has reserved and pending stands behind steps that lead it on without a counted call, and as its transaction begins.
use Rattle.std.proofs.Common.{◌≡◌, inl, ⊎_elim, ℕ, ◌<◌, All, Contains, List, map, None, slice_index, refl, sym, ap, ◌∙◌, subst, arith}
use Rattle.std.proofs.lemmas.List.Elements.{All-contains}
use Rattle.pm_header.specs.declared.header.Header.{Header}
use Rattle.pm_image.specs.Blocks.{chunk_word, descriptor_word}
use Rattle.pm_image.specs.Reads.{ReadsBlock}
use Rattle.solo_model.specs.Actions.{Pending, Reservation}
use Rattle.pm_objects.specs.declared.calls.Operation.TheVariants.{Begin}
use Rattle.pm_objects.specs.declared.calls.Want.{Want}
use Rattle.pm_objects.specs.declared.pool.PoolView.{PoolView}
use Rattle.solo_view.specs.Area.{is_in_area}
use Rattle.solo_view.specs.Constants.{IsSameLane}
use Rattle.solo_view.specs.Founds.{IsAlone}
use Rattle.solo_view.specs.Log.{no_log}
use Rattle.solo_view.specs.Log.Phase.{Idle}
use Rattle.solo_view.specs.Steps.{Step}
use Rattle.solo_view.specs.View.{Lock, View}
use Rattle.solo_world.specs.Opening.{Opening}
use Rattle.solo_world.specs.declared.lane.Lane.{Lane}
use Rattle.solo_crash.specs.Alone.{Begins, BeginsAgain, BeginsAlone, WorksAlone}
use Rattle.solo_crash.specs.CallBlocks.{blocks_in, blocks_told, no_blocks, reserved_in, reserved_object}
use Rattle.solo_crash.specs.Pending.{pending_before, pending_in}
use Rattle.solo_crash.specs.Reserved.{IsReservedFor}
use Rattle.solo_crash.specs.Reserving.{HasReserved, ReservedLieApart, block_reserved}
use Rattle.solo_crash.proofs.AloneCourse.{begins_alone}
use Rattle.solo_crash.proofs.Includes.{made_member}
use Rattle.solo_crash.proofs.PendingOn.{pending_first, same_before}
use Rattle.solo_crash.proofs.ReservedStays.{nothing_made, stands_again}
use Rattle.solo_crash.proofs.StillReserved.{HasSameHeads}
use Rattle.solo_lock.proofs.Leads.{led_same}
use Rattle.solo_lock.proofs.LookedAlone.{led_words}
use Rattle.solo_lock.proofs.Remembered.{led_remembers}
use Rattle.solo_lock.specs.Leading.{IsLed}
use Rattle.solo_lock.specs.Resting.{IsFresh}
use Rattle.solo_epoch.specs.Reserving.{with_next_call}
use Rattle.solo_epoch.proofs.GainedObjects.{stood}
use Rattle.solo_epoch.proofs.LocksApart.{locks_apart}
use Rattle.solo_epoch.proofs.StandingPools.{own_fits}
use Rattle.solo_tx.specs.Begins.{HasBegun}
use Rattle.solo_transaction.proofs.GoingWith.{lies_still}
use Rattle.solo_transaction.proofs.NewWords.{may_fill}
use Rattle.solo_transaction.proofs.RestingViews.{NextOf, all_reserved, knew_before, lies_for, next_known, next_of, next_pending, next_word, read_in_block}
use Rattle.solo_transaction.specs.AtWork.{LiesInReserved}
use Rattle.solo_transaction.specs.Published.{HasOwnCounts}
use Rattle.solo_transaction.specs.Resting.{StandsAtRest}

-- ---- steps that lead on

module _ (v : View) (next : NextOf v (with_next_call v)) (alone : IsAlone v) (rests : StandsAtRest v) (w : View) (led : IsLed v w) where
  abbrev x : View
  x = with_next_call v

  abbrev pending : List Reservation
  pending = (pending_before v).reserved

  same_lane : IsSameLane v w
  same_lane = led_same v w led

  pub led_heads : HasSameHeads v w
  led_heads =
      let words : (i : ℕ) → slice_index w.words i ≡ slice_index v.words i = λ i. ap (λ (ws : List ℕ). slice_index ws i) (led_words v w led alone) in
      record { lanes = same_lane.lanes; zones = same_lane.zones; reserved = led.heap.reserved; described = λ c in_pool. words (descriptor_word v.lanes c); bitmaps = λ c in_pool run. words (chunk_word v.lanes c); root = words 64 }

  lay : (r : Reservation) → Contains pending r → LiesInReserved v (reserved_object r)
  lay r there = All-contains (LiesInReserved v) (map reserved_object pending) (reserved_object r) rests.within (made_member reserved_object pending r there)

  pub led_lies : (r : Reservation) → Contains pending r → LiesInReserved w (reserved_object r)
  led_lies r there = lies_still v w led_heads (reserved_object r) (lay r there)

  pending_then : (pending_in x).reserved ≡ pending
  pending_then = ap (λ (p : Pending). p.reserved) (next_pending v x next)

  knows : (r : Reservation) (i : ℕ) → Contains (pending_in x).reserved r → ReadsBlock (slice_index x.words) (block_reserved r) i → Contains w.known i
  knows r i there reads =
      let made = (rests.stands.each r there).made in
      led_remembers v w led alone i (may_fill v (reserved_object r) (lay r (subst (λ (rs : List Reservation). Contains rs r) pending_then there)) i (read_in_block x (reserved_object r) made i reads)).reserved
      (knew_before v x next i (ap (λ (k : ℕ). is_in_area k i) (sym next.lane) ∙ made.outside i reads) (made.known i reads))

  -- the same is reserved in a view of the same words, where the lane knows no less, and its call made and freed nothing
  pub stands_led : (z : View) → z.lanes ≡ w.lanes → z.zones ≡ w.zones → z.lane ≡ w.lane → z.words ≡ w.words → ((i : ℕ) → Contains w.known i → Contains z.known i) → (pending_in z).reserved ≡ pending → blocks_in z ≡ no_blocks
      → ReservedLieApart z → HasReserved z
  stands_led z lanes zones lane words more same none apart =
      stands_again x z rests.stands (same ∙ sym pending_then) none (lanes ∙ (same_lane.lanes ∙ sym next.lanes)) (zones ∙ (same_lane.zones ∙ sym next.zones)) (lane ∙ (same_lane.lane ∙ sym next.lane))
      (λ r i there reads. more i (knows r i there reads))
      (λ r there i reads. ap (λ (ws : List ℕ). slice_index ws i) (words ∙ led_words v w led alone) ∙ sym (next_word v x next i)) apart

-- a lane at rest still, with no lock more
pub looked_stands : (v w : View) → v.lane < v.lanes → IsFresh v → IsFresh w → IsAlone v → IsLed v w → w.entries ≡ v.entries → ((l : Lock) → Contains w.locks l → Contains v.locks l) → StandsAtRest v → StandsAtRest w
looked_stands v w inside fresh fresh_w alone led entries locks rests =
    let next : NextOf v (with_next_call v) = next_of v inside fresh in
    let same = led_same v w led in
    let z : View = with_next_call w in
    let next_w : NextOf w z = next_of w (let l = same.lane in let ls = same.lanes in omega (arith, inside, l, ls)) fresh_w in
    let pending_same : pending_before w ≡ pending_before v = same_before v w entries in
    let pending_z : (pending_in z).reserved ≡ (pending_before v).reserved = ap (λ (p : Pending). p.reserved) (next_pending w z next_w ∙ pending_same) in
    let pending_x : (pending_in (with_next_call v)).reserved ≡ (pending_before v).reserved = ap (λ (p : Pending). p.reserved) (next_pending v (with_next_call v) next) in
    record {
      stands = stands_led v next alone rests w led z next_w.lanes next_w.zones next_w.lane next_w.words (next_known w z next_w) pending_z (nothing_made z next_w.call)
          (λ r l lines there held is. rests.stands.apart_found r l lines (subst (λ (rs : List Reservation). Contains rs r) (pending_z ∙ sym pending_x) there)
          (subst (λ (ls : List Lock). Contains ls l) (sym next.locks) (locks l (subst (λ (ls : List Lock). Contains ls l) next_w.locks held))) is);
      within = subst (λ (p : Pending). All (LiesInReserved w) (map reserved_object p.reserved)) (sym pending_same) (all_reserved (LiesInReserved w) (pending_before v).reserved (led_lies v next alone rests w led));
    }

-- ---- a lane that works alone

-- its area lies in the pool
pub works_inside : (o : Opening) (header : Header) (pool : PoolView) (start v : View) (steps : List Step) → WorksAlone o header pool start steps v → v.lane < v.lanes
works_inside o header pool start v steps works =
    let s = stood o header pool start v steps works in
    let fits = own_fits o header pool v s in
    let lane = fits.lane.lane in let lanes = fits.lane.lanes in let low = s.goes.in_lanes in omega (arith, lane, lanes, low)

-- what it has reserved overlaps no block under a lock
pub apart_so : (o : Opening) (header : Header) (pool : PoolView) (start w : View) (steps : List Step) → WorksAlone o header pool start steps w → ((r : Reservation) → Contains (pending_in w).reserved r → LiesInReserved w (reserved_object r)) → ReservedLieApart w
apart_so o header pool start w steps works lies =
    locks_apart o header pool start w steps works (all_reserved (IsReservedFor w) (pending_in w).reserved (λ r there. lies_for w (reserved_object r) (lies r there)))

-- ---- a transaction that begins

module _ {M : Type 0} (o : Opening) (header : Header) (pool : PoolView) (at : M → View → Type 0) (v : View) (lane : Lane M) (wants : List Want) (begins : Begins o header pool v) (rests : StandsAtRest v) (begun : HasBegun at lane v wants)
    (own : HasOwnCounts begun.view) where
  abbrev w : View
  w = begun.view

  works : WorksAlone o header pool v begun.led.steps w
  works = record { begins = begins; leads = begun.led.leads; numbered = own.numbered; within = own.within }

  idle : v.log ≡ no_log Idle
  idle = ⊎_elim (λ (first : BeginsAlone o header pool v). first.fresh.idle) (λ (again : BeginsAgain o header pool v). again.rested.idle) begins

  inside : v.lane < v.lanes
  inside = let low = works_inside o header pool v w begun.led.steps works in let l = begun.same.lane in let ls = begun.same.lanes in omega (arith, low, l, ls)

  next : NextOf v (with_next_call v)
  next = next_of v inside (inl idle)

  -- what was pending is, and the call made nothing
  pending_begun : pending_in w ≡ pending_before v
  pending_begun = pending_first w (record { operation = Begin wants; reply = None }) begun.call ∙ same_before v w begun.entries

  none_made : blocks_in w ≡ no_blocks
  unfolding blocks_told
  none_made = ap (blocks_told (pending_before w) no_blocks) begun.call

  lies : (r : Reservation) → Contains (pending_in w).reserved r → LiesInReserved w (reserved_object r)
  lies r there = led_lies v next (begins_alone o header pool v begins) rests w begun.led r (subst (λ (p : Pending). Contains p.reserved r) pending_begun there)

  pub begun_stands : HasReserved w
  begun_stands = stands_led v next (begins_alone o header pool v begins) rests w begun.led w refl refl refl refl (λ i there. there) (ap (λ (p : Pending). p.reserved) pending_begun) none_made (apart_so o header pool v w begun.led.steps works lies)

  pub begun_within : All (LiesInReserved w) (reserved_in w)
  begun_within = all_reserved (LiesInReserved w) (pending_in w).reserved lies
