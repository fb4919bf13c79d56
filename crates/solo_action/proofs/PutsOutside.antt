-- A lane that is alone and whose call has begun writes a range of an object that it has reserved, and that is all of its call: an ended one, behind whose draw the lane rests with
-- what it has reserved.
use Rattle.std.proofs.Common.{◌≡◌, ◌≢◌, ◌⊎◌, ⊎_elim, inl, inr, ℕ, ◌+◌, ◌/◌, ◌^◌, ◌<◌, ◌≤◌, ◌&&◌, Bool, true, false, not, cond, eqb, ltb, Contains, List, [], ◌∷◌, ◌++◌, length, Option, None, Some, refl, sym, ap, ◌∙◌, subst, arith}
use Rattle.std.proofs.lemmas.Option.{none-some}
use Rattle.std.specs.Prelude.{unwrap_or}
use Rattle.std.proofs.lemmas.List.Elements.{All-contains}
use Rattle.pm_header.specs.declared.header.Header.{Header}
use Rattle.pm_image.proofs.Members.{no_member}
use Rattle.pm_layout.specs.declared.shape.Shape.{Shape}
use Rattle.solo_memory.specs.Solo.{AreNumbered}
use Rattle.solo_model.specs.Actions.{Pending, Reservation, bytes_reserved, is_reserved, with_put}
use Rattle.pm_objects.specs.declared.calls.Operation.{Operation}
use Rattle.pm_objects.specs.declared.calls.Operation.TheVariants.{WriteReserved}
use Rattle.pm_objects.specs.declared.history.Value.TheVariants.{Refused}
use Rattle.pm_objects.specs.declared.ids.Oid.{Oid}
use Rattle.pm_objects.specs.declared.pool.PoolView.{PoolView}
use Rattle.pm_objects.specs.declared.refusal.Refusal.{Refusal}
use Rattle.pm_objects.specs.declared.refusal.Refusal.TheVariants as refusal
use Rattle.solo_pending.specs.AllPending.{AreReservedOnce, IsPendingAs}
use Rattle.solo_pending.specs.declared.pending.PendingActions.{PendingActions}
use Rattle.pm_words.specs.Words.{AreBytes}
use Rattle.solo_view.specs.Founds.{IsAlone}
use Rattle.solo_view.specs.Log.{Log}
use Rattle.solo_view.specs.Steps.{Step}
use Rattle.solo_view.specs.Steps.Step.{Draw, Tell}
use Rattle.solo_view.specs.Area.{is_in_area}
use Rattle.solo_view.specs.View.{Lock, Told, View}
use Rattle.solo_view.specs.Views.{after, after_all}
use Rattle.solo_undo.proofs.Begun.{tell_works}
use Rattle.solo_world.proofs.Filled.{none_filled}
use Rattle.solo_world.specs.Lanes.{IsOfShape}
use Rattle.solo_world.specs.Lawful.{Allowed, OnlyFilled}
use Rattle.solo_world.specs.Opening.{Opening}
use Rattle.solo_world.specs.Sequences.{Ready, in_turn, one}
use Rattle.solo_world.specs.declared.lane.Lane.{Lane}
use Rattle.solo_alloc.specs.NewObjects.{CanMakeObject}
use Rattle.solo_crash.proofs.Includes.{made_member}
use Rattle.solo_crash.proofs.Leading.{leads_then}
use Rattle.solo_crash.proofs.PendingOn.{pending_once_more}
use Rattle.solo_crash.proofs.ReservedOutside.{outside_put_is_step}
use Rattle.solo_crash.proofs.StillReserved.{HasSameHeads}
use Rattle.solo_crash.specs.Alone.{WorksAlone}
use Rattle.solo_crash.specs.CallBlocks.{reserved_in, reserved_object}
use Rattle.solo_crash.specs.HeldHistory.{IsEndedCall}
use Rattle.solo_crash.specs.Leading.{Leads}
use Rattle.solo_crash.specs.Pending.{pending_before, pending_in}
use Rattle.solo_crash.specs.Reserved.{IsReservedFor}
use Rattle.solo_crash.specs.Reserving.{IsReservedOne, WritesReserved, put_refusal}
use Rattle.solo_epoch.proofs.OutsideCalls.{put_outside, puts_outside}
use Rattle.solo_epoch.specs.Reserving.{IsAloneBetween, IsAloneOutside}
use Rattle.solo_lock.proofs.Leading.{ready_leads}
use Rattle.solo_lock.specs.Begun.{IsBegun}
use Rattle.solo_lock.specs.Leading.{DrawEnded}
use Rattle.solo_lock.specs.Resting.{MayRest}
use Rattle.solo_memory.specs.Runs.{Stops}
use Rattle.solo_tx.specs.Ranges.{StopsUndrawn}
use Rattle.solo_tx.specs.Sequences.{ends_call, word_count, writes}
use Rattle.solo_transaction.proofs.FilledBytes.{HasFilled, fills_lawful}
use Rattle.solo_tx.proofs.WrittenBytes.{counted_covered}
use Rattle.solo_transaction.proofs.OwnRangeWords.{covered_outside, HasOwnRange, WorksInPool, range_is_low}
use Rattle.solo_transaction.proofs.OwnWrites as any
use Rattle.solo_transaction.specs.Filling.{HasReservedRange, puts_range}
use Rattle.solo_transaction.specs.Published.{HasOwnCounts}
use Rattle.solo_action.proofs.AloneStill.{can_still}
use Rattle.solo_action.proofs.BegunOn.{begun_on}
use Rattle.solo_action.proofs.RestingStill.{rests_behind_draw}
use Rattle.solo_transaction.proofs.LyingReserved.{lies_in_reserved}
use Rattle.solo_action.specs.Filling.{put_drawn, put_view}
use Rattle.solo_action.specs.Outside.{IsEndedOnceTold, RestsStill}

-- what may rest is filled
pub rest_filled : (v : View) → MayRest v → OnlyFilled v
rest_filled v = ⊎_elim (λ (none : v.changes ≡ []). none_filled v none) (λ (rest : IsAlone v × OnlyFilled v). rest.1)

module _ (o : Opening) (header : Header) (pool : PoolView) (start : View) (steps : List Step) (w : View) (shape : Shape) (c : IsAloneBetween o header pool start steps w shape) where
  of_shape : IsOfShape w shape
  of_shape = c.outside.can.run.search.shape

  base : WorksInPool w
  base = record {
    working = c.outside.can.run.working;
    size = c.outside.can.pool.size;
    few = (let lanes = shape.lanes_to in let zones = shape.zones_to in let size = of_shape.size in omega (arith, lanes, zones, size));
    objects = λ l held. absurd (no_member l (subst (λ (ls : List Lock). Contains ls l) c.outside.free held));
  }

  module _ (id : Oid) (off : ℕ) (bytes : List ℕ) (range : HasReservedRange w id off (length bytes)) where
    abbrev one_there : Reservation
    one_there = range.has.one

    own : HasOwnRange w id off (length bytes)
    own = record {
      new = reserved_object one_there;
      stands = (c.outside.reserved.each one_there range.has.is_one).made;
      lies = lies_in_reserved o header pool start steps w c.outside.works (reserved_object one_there)
          (All-contains (IsReservedFor w) (reserved_in w) (reserved_object one_there) c.outside.borne_out.pending (made_member reserved_object (pending_in w).reserved one_there range.has.is_one));
      apart = λ l lines. c.outside.reserved.apart_found one_there l lines range.has.is_one;
      place = range.has.place;
      inside = range.inside;
    }

    abbrev op : Operation
    op = WriteReserved id off bytes

    -- once the bytes are written, and once that is told
    abbrev pub filled : View
    filled = after_all w (writes (id.off + off) bytes w)

    abbrev told : View
    told = after filled (Tell op None)

    has : HasFilled w base id off bytes own (word_count (id.off + off) (length bytes)) (after_all w (writes (id.off + off) bytes w))
    has = (fills_lawful w base id off bytes own).1

    pub put_is_low : id.off + off + length bytes < 2 ^ 60
    put_is_low = range_is_low w base id off (length bytes) own

    -- no word that they cover is of the lane's area
    pub put_beside_area : (k : ℕ) → k < word_count (id.off + off) (length bytes) → is_in_area w.lane ((id.off + off) / 8 + k) ≡ false
    put_beside_area k low = covered_outside w base id off (length bytes) own ((id.off + off) / 8 + k) (counted_covered (id.off + off) (length bytes) k low)

    pub puts_first : Ready w (writes (id.off + off) bytes w)
    puts_first = any.own_writes_first w base id off bytes own op

    pub put_ready : Ready w (puts_range id off bytes w)
    unfolding puts_range
    put_ready = any.own_write_may_be_made w base id off bytes own op

    pub put_draws : DrawEnded w (puts_range id off bytes w)
    unfolding puts_range
    put_draws = any.write_draws w base id off bytes own op

    pub put_stops : (new : View → Type 0) → Stops new w (puts_range id off bytes w) → StopsUndrawn new w (puts_range id off bytes)
    unfolding puts_range
    put_stops new stops = any.own_write_stops w base id off bytes own op new stops

    pub put_is : put_view w id off bytes ≡ after (after_all w (writes (id.off + off) bytes w)) (Tell (WriteReserved id off bytes) None)
    unfolding puts_range
    put_is = (any.sequence w base id off bytes own op).1

    pub put_drawn_is : (n : ℕ) → after_all (after_all w (writes (id.off + off) bytes w)) (ends_call (WriteReserved id off bytes) None n (after_all w (writes (id.off + off) bytes w))) ≡ put_drawn w id off bytes n
    unfolding ends_call in_turn one after_all
    put_drawn_is n = ap (λ (z : View). after z (Draw n)) (sym put_is)

    -- the lane is alone still
    pub put_alone : (n : ℕ) → IsAlone (put_drawn w id off bytes n)
    put_alone n = subst (λ (z : View). IsAlone (after z (Draw n))) (sym put_is) (has.call.lane.table ∙ c.outside.can.run.alone)

    -- ---- the call has begun still, once they are written

    rests_filled : MayRest w → MayRest (after_all w (writes (id.off + off) bytes w))
    rests_filled rests = inr (has.call.lane.table ∙ c.outside.can.run.alone, has.undrained c.outside.can.pool.of_pool (rest_filled w rests))

    pub begun_filled : {M : Type 0} (at : M → View → Type 0) (lane : Lane M) → IsBegun at lane w → (memory : M) → at memory (after_all w (writes (id.off + off) bytes w)) → IsBegun at (record lane { memory = memory }) (after_all w (writes (id.off + off) bytes w))
    begun_filled at lane is memory there =
        begun_on at lane w filled is
        (record { lane = has.call.lane; locks = has.call.locks; call = has.call.call; number = has.call.number; entries = has.call.entries; log = has.log; seen = has.call.seen; below = has.working.area.below })
        (rests_filled is.undrained) memory there

    -- what is pending has the bytes then, and is listed as it was
    pub put_listed : (pending : PendingActions) → IsPendingAs pending (pending_in w) → ((p : Pending) (bs : List ℕ) → IsPendingAs pending p → AreReservedOnce p → length bs ≡ length bytes → IsPendingAs pending (with_put id.off off bs p))
        → IsPendingAs pending (pending_in (put_view w id off bytes))
    put_listed pending are listed =
        let tells = any.tells_so w base id off bytes own op in
        subst (λ (z : View). IsPendingAs pending (pending_in z)) (sym put_is)
        (subst (IsPendingAs pending) (sym (pending_once_more w told op None tells.keeps.entries tells.call)) (listed (pending_in w) bytes are c.outside.reserved.once refl))

    -- ---- the write

    module _ (are : AreBytes bytes) where
      written_told : WritesReserved w (after (after_all w (writes (id.off + off) bytes w)) (Tell (WriteReserved id off bytes) None)) id off bytes
      written_told = record {
        tells = any.tells_so w base id off bytes own op;
        logs = any.logs_so w base id off bytes own op;
        has = range.has;
        inside = range.inside;
        are_bytes = are;
        written = λ i outside. any.words_so w base id off bytes own op i;
      }

      pub put_written : WritesReserved w (put_view w id off bytes) id off bytes
      put_written = subst (λ (z : View). WritesReserved w z id off bytes) (sym put_is) written_told

      ended_told : IsEndedCall (after (after_all w (writes (id.off + off) bytes w)) (Tell (WriteReserved id off bytes) None))
      ended_told = inl (outside_put_is_step told id off bytes None (puts_outside o header pool start steps w shape c told id off bytes written_told))

      pub put_ended : IsEndedCall (put_view w id off bytes)
      put_ended = subst IsEndedCall (sym put_is) ended_told

      -- ---- and the rest behind it

      module _ (n : ℕ) (counts : HasOwnCounts (put_drawn w id off bytes n)) where
        abbrev more : List Step
        more = puts_range id off bytes w

        counts_told : HasOwnCounts (after (after (after_all w (writes (id.off + off) bytes w)) (Tell (WriteReserved id off bytes) None)) (Draw n))
        counts_told = subst (λ (z : View). HasOwnCounts (after z (Draw n))) put_is counts

        leads_told : Leads w (puts_range id off bytes w) (after (after_all w (writes (id.off + off) bytes w)) (Tell (WriteReserved id off bytes) None))
        leads_told = subst (Leads w (puts_range id off bytes w)) put_is (ready_leads w (puts_range id off bytes w) put_ready put_draws)

        works_told : WorksAlone o header pool start (steps ++ puts_range id off bytes w) (after (after_all w (writes (id.off + off) bytes w)) (Tell (WriteReserved id off bytes) None))
        works_told = record {
          begins = c.outside.works.begins;
          leads = leads_then start w told steps more c.outside.works.leads leads_told;
          numbered = subst (AreNumbered 1) (sym has.call.entries) c.outside.works.numbered;
          within = counts_told.within;
        }

        heads : HasSameHeads w (after (after_all w (writes (id.off + off) bytes w)) (Tell (WriteReserved id off bytes) None))
        heads = any.heads_so w base id off bytes own op

        can_told : CanMakeObject (after (after_all w (writes (id.off + off) bytes w)) (Tell (WriteReserved id off bytes) None)) shape
        can_told =
            let lane = has.call.lane in
            can_still o header pool start steps w shape c told (steps ++ more) works_told heads
            (record { lanes = lane.lanes; zones = lane.zones; pool = lane.pool; lane = lane.lane; stop = lane.stop; table = lane.table; size = lane.size }) has.call.zone_locks
            (tell_works filled op None has.working) (ap (λ (l : Log). l.entries) has.log ∙ c.outside.no_entries)

        outside_told : IsAloneOutside o header pool start (steps ++ puts_range id off bytes w) (after (after_all w (writes (id.off + off) bytes w)) (Tell (WriteReserved id off bytes) None)) shape
        outside_told = put_outside o header pool start steps w shape c told (steps ++ more) works_told can_told has.call.reserved id off bytes written_told

        pub put_rests_still : Allowed (after (after_all w (writes (id.off + off) bytes w)) (Tell (WriteReserved id off bytes) None)) (Draw n) → RestsStill o header pool (put_drawn w id off bytes n) shape
        put_rests_still allowed =
            subst (λ (z : View). RestsStill o header pool (after z (Draw n)) shape) (sym put_is)
            (rests_behind_draw o header pool start (steps ++ more) told shape n outside_told ended_told allowed counts_told.numbered)

-- what the lists have reserved at an offset, in the lane's pool, is reserved by the view
pub range_reserved : {M : Type 0} (at : M → View → Type 0) (lane : Lane M) (w : View) → IsBegun at lane w → (id : Oid) (off len : ℕ) → ((has : IsReservedOne lane.pool (pending_in w) id) × (off + len ≤ length has.one.bytes)) → HasReservedRange w id off len
range_reserved at lane w is id off len t =
    record { has = record { one = t.0.one; is_one = t.0.is_one; of_pool = t.0.of_pool ∙ sym is.seen.pool; place = t.0.place }; inside = t.1 }

-- ---- none of them is written

-- a put is refused for one of two reasons
pub put_reasons : (pool : ℕ) (p : Pending) (id : Oid) (off len : ℕ) (r : Refusal) → Some r ≡ put_refusal pool p id off len → (r ≡ refusal.NotReserved) ⊎ (r ≡ refusal.OutOfRange)
put_reasons pool p id off len r = two_reasons (not (eqb id.pool pool && is_reserved p id.off)) (ltb (length (bytes_reserved p id.off)) (off + len)) where
  two_reasons : (unreserved past : Bool) → Some r ≡ cond unreserved (Some refusal.NotReserved) (cond past (Some refusal.OutOfRange) None) → (r ≡ refusal.NotReserved) ⊎ (r ≡ refusal.OutOfRange)
  two_reasons true past is = inl (ap (λ (x : Option Refusal). unwrap_or x r) is)
  two_reasons false true is = inr (ap (λ (x : Option Refusal). unwrap_or x r) is)
  two_reasons false false is = absurd (none-some r (sym is))

pub put_goes_on : (pool : ℕ) (p : Pending) (id : Oid) (off len : ℕ) (r : Refusal) → Some r ≡ put_refusal pool p id off len → r ≢ refusal.Stopped
put_goes_on pool p id off len r reason stopped = ⊎_elim
    (λ (is : r ≡ refusal.NotReserved). let clash : refusal.NotReserved ≡ refusal.Stopped = sym is ∙ stopped in absurd cc)
    (λ (is : r ≡ refusal.OutOfRange). let clash : refusal.OutOfRange ≡ refusal.Stopped = sym is ∙ stopped in absurd cc)
    (put_reasons pool p id off len r reason)

-- that is all of the call, once it is told
pub refused_put_ends : {M : Type 0} (at : M → View → Type 0) (lane : Lane M) (w : View) → IsBegun at lane w → (id : Oid) (off : ℕ) (bytes : List ℕ) (r : Refusal) → put_refusal w.pool (pending_before w) id off (length bytes) ≡ Some r
    → IsEndedOnceTold w (WriteReserved id off bytes) (Some (Refused r))
refused_put_ends at lane w is id off bytes r reason =
    let told : View = after w (Tell (WriteReserved id off bytes) (Some (Refused r))) in
    inl (outside_put_is_step told id off bytes (Some r) (record {
      call = ap (λ (call : List Told). call ++ record { operation = WriteReserved id off bytes; reply = Some (Refused r) } ∷ []) is.untold;
      no_records = ap (λ (log : Log). log.records) is.log;
      no_entries = ap (λ (log : Log). log.entries) is.log;
      answer = sym reason;
    }))
