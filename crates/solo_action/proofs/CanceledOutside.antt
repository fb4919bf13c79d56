-- What a cancel outside of a transaction comes to, of a lane that rests alone: all is made persistent, it is told, and what was reserved is given back; or the lane stops before it is told.
use Rattle.std.proofs.Common.{◌≡◌, ◌↔◌, inl, ℕ, ◌<◌, true, All, List, [], ◌∷◌, ◌++◌, length, map, None, refl, sym, ap, ◌∙◌, subst, arith}
use Rattle.std.proofs.lemmas.List.Elements.{All-nil, All-weaker}
use Rattle.std.specs.List.{list_any}
use Rattle.pm_header.specs.declared.header.Header.{Header}
use Rattle.pm_layout.specs.declared.shape.Shape.{Shape}
use Rattle.solo_memory.specs.Runs.{Stops}
use Rattle.solo_model.specs.Actions.{Pending, none_pending}
use Rattle.pm_objects.specs.declared.calls.Operation.TheVariants.{Cancel}
use Rattle.pm_objects.specs.declared.pool.PoolView.{PoolView}
use Rattle.solo_pending.specs.AllPending.{IsPendingAs, object_of}
use Rattle.solo_pending.specs.declared.pending.PendingActions.{PendingActions}
use Rattle.solo_crash.specs.Alone.{WorksAlone}
use Rattle.solo_crash.specs.CallBlocks.{NewObject, block_of, reserved_object}
use Rattle.solo_crash.specs.Leading.{Leads}
use Rattle.solo_crash.specs.Pending.{pending_before}
use Rattle.solo_crash.specs.Reserved.{IsReservedFor}
use Rattle.solo_crash.proofs.Leading.{leads_then}
use Rattle.solo_crash.proofs.PendingOn.{same_before}
use Rattle.solo_crash.proofs.ReservedOn.{none_reserved}
use Rattle.solo_epoch.specs.Epochs.{ReservesNoRun}
use Rattle.solo_epoch.specs.GivingBack.{MayGiveAllBack, gives_back, with_given_back}
use Rattle.solo_epoch.specs.Reserving.{RestsWithReserved, with_next_call}
use Rattle.solo_epoch.proofs.GivenAll.{all_ready, given_all, none_making, rests_again}
use Rattle.solo_epoch.proofs.GivenBlocks.{GivesAll, HasGiven}
use Rattle.solo_epoch.proofs.NothingReserved.{rests_with_none}
use Rattle.solo_reclaim.specs.KeptBlocks.{IsKeptBit}
use Rattle.solo_transaction.specs.AtWork.{LiesInReserved}
use Rattle.solo_transaction.specs.Published.{HasOwnCounts}
use Rattle.solo_transaction.proofs.NotMaking.{not_making_by}
use Rattle.solo_transaction.proofs.RestingViews.{next_of, next_pending}
use Rattle.solo_undo.proofs.Settled.{settle_lawful}
use Rattle.solo_view.proofs.SameLane.{same_lane-then}
use Rattle.solo_view.proofs.Sequences.{after_all-append}
use Rattle.solo_view.specs.Constants.{IsSameLane}
use Rattle.solo_view.specs.Founds.{IsAlone}
use Rattle.solo_view.specs.Log.{Log, no_log}
use Rattle.solo_view.specs.Log.Phase.{Idle}
use Rattle.solo_view.specs.Steps.{Step}
use Rattle.solo_view.specs.View.{Numbered, Taken, Told, View}
use Rattle.solo_view.specs.Views.{after_all, has_bit, reserves}
use Rattle.solo_view.specs.declared.occ.Occ.{Occ}
use Rattle.solo_world.proofs.Sequencing.{ready_both}
use Rattle.solo_world.specs.Lanes.{IsOfShape}
use Rattle.solo_world.specs.Opening.{Opening}
use Rattle.solo_world.specs.Sequences.{Ready, Sequence, by_view, counted, in_turn, nothing, settles}
use Rattle.solo_world.specs.declared.lane.HeldLock.{HeldLock}
use Rattle.solo_world.specs.declared.lane.Lane.{Lane}
use Rattle.solo_lock.proofs.Drawless.{drawless, drawn_in_turn}
use Rattle.solo_lock.proofs.Leading.{ready_leads}
use Rattle.solo_lock.proofs.Leads.{led_same}
use Rattle.solo_lock.specs.Begun.{IsBegun}
use Rattle.solo_lock.specs.Leading.{DrawEnded, IsLed}
use Rattle.solo_lock.specs.Locking.{gives}
use Rattle.solo_lock.specs.Resting.{HasPlace, IsAtRest}
use Rattle.solo_tx.specs.Beginning.{IsBegunBy}
use Rattle.solo_tx.specs.Ending.{IsClosedBy, IsOver, IsStoppedIn, IsTakenBack, drawn_more, told_more}
use Rattle.solo_tx.specs.Sequences.{ends_call, starts}
use Rattle.solo_tx.proofs.Beginnings.{settled_back, works}
use Rattle.solo_tx.proofs.GivenUp.{end_is_last, end_is_over, end_ready, undrawn_lane}
use Rattle.solo_tx.proofs.SettledFirst.{after_first, draws_first, ready_first, stopped_settling}
use Rattle.solo_transaction.specs.GivingInTurn.{MayGiveInTurn}
use Rattle.solo_action.specs.Canceling.{HasCanceledOutside, IsStoppedCanceling, cancels_outside, canceled_view, gives_reserved, objects_reserved}
use Rattle.solo_action.specs.Outside.{RestsAlone, RestsStill}
use Rattle.solo_action.proofs.AloneAtRest.{each_reserved, gives_all_there, lie_apart, may_give_in_turn, rests_is_alone}
use Rattle.solo_action.proofs.Answered.{answer_whole}
use Rattle.solo_transaction.proofs.GivenInTurn.{objects_listed, seen_given}
use Rattle.solo_action.proofs.NextBegun.{has_next_begun, next_led, starts_next}
use Rattle.solo_action.proofs.SameOwn.{HasSameOwn, own_ended, own_next, own_settled, own_then, reserved_so}
use Rattle.solo_action.proofs.ToldOutside.{ending_drawn, pending_behind_one}

-- where no lock is to go back the view is the same
gives_none : (u : View) → after_all u (gives [] u) ≡ u
unfolding gives counted nothing after_all
gives_none u = refl

none_to_give : (u : View) (locks : List HeldLock) → locks ≡ [] → after_all u (gives locks u) ≡ u
none_to_give u locks none = ap (λ (held : List HeldLock). after_all u (gives held u)) none ∙ gives_none u

module _ {M : Type 0} (at : M → View → Type 0) (old mid : Lane M) (v : View) (r : RestsAlone at old v) (n : ℕ) (started : IsBegunBy at mid v (starts n)) where
  abbrev w : View
  w = with_next_call v

  abbrev m : View
  m = after_all w (settles w)

  abbrev ns : List NewObject
  ns = objects_reserved v

  alone : IsAlone v
  alone = rests_is_alone at old v r

  is : IsBegun at mid w
  is = has_next_begun at mid v n alone started

  led : IsLed v w
  led = next_led at mid v n alone started

  undrawn : w.entries ≡ v.entries
  undrawn = ap (λ (u : View). u.entries) (sym (starts_next v n alone started.ready)) ∙ started.entries

  back : IsTakenBack w m
  back = (settled_back at mid w is).1

  unentered : m.log.entries ≡ []
  unentered = ap (λ (log : Log). log.entries) back.log

  next_locks : w.locks ≡ []
  next_locks = (next_of v r.rests.place.lane r.rests.fresh).locks ∙ r.rests.free

  ns_same : objects_reserved w ≡ ns
  ns_same = ap (λ (p : Pending). map reserved_object p.reserved) (same_before v w undrawn)

  -- the steps behind the settling, by the number that the call draws
  abbrev ends : ℕ → List Step
  ends k = ends_call Cancel None k m

  abbrev y : ℕ → View
  y k = after_all m (ends k)

  abbrev x : ℕ → View
  x k = with_given_back (y k) ns

  over : (k : ℕ) → IsOver w (y k) k
  over k = end_is_over w m (works at mid w is) is.may_come back Cancel None k

  same_lane : (k : ℕ) → IsSameLane v (y k)
  same_lane k = same_lane-then v w (y k) (led_same v w led) (over k).lane

  of_shape : (k : ℕ) → IsOfShape (y k) old.shape
  of_shape k = let s = r.rests.seen.shape in let l = same_lane k in record { lanes = l.lanes ∙ s.lanes; zones = l.zones ∙ s.zones; size = l.size ∙ s.size }

  own : (k : ℕ) → HasSameOwn v (y k)
  own k = own_then v w (y k) (own_next v r.rests.free r.rests.fresh) (own_then w m (y k) (own_settled w) (own_ended m unentered Cancel None k))

  gives_all : (k : ℕ) → GivesAll (y k) old.shape (map block_of ns)
  gives_all k = gives_all_there at old v r (y k) (own k) (of_shape k) (inl (over k).log) (over k).drained

  given : (k : ℕ) → HasGiven (y k).lanes (y k) (x k) old.shape (map block_of ns) []
  given k = given_all (y k) old.shape ns (gives_all k)

  ended : (k : ℕ) → DrawEnded m (ends k)
  ended = ending_drawn m unentered Cancel None (inl (answer_whole m (back.call.call ∙ is.untold) (ap (λ (log : Log). log.records) back.log) unentered Cancel None refl))

  gives_drawless : (k : ℕ) → DrawEnded (y k) (gives_back (y k).lanes ns)
  gives_drawless k = drawless (y k) (gives_back (y k).lanes ns) (let same = ap (λ (u : View). length u.entries) (given k).same in omega (arith, same))

  abbrev behind_settling : ℕ → Sequence
  behind_settling k = in_turn (ends_call Cancel None k) (gives_reserved w)

  parts : (k : ℕ) → behind_settling k m ≡ ends k ++ gives_back (y k).lanes ns
  unfolding in_turn
  parts k = ap (λ (os : List NewObject). ends k ++ gives_back (y k).lanes os) ns_same

  then_ready : (k : ℕ) → Ready m (behind_settling k m)
  then_ready k = subst (Ready m) (sym (parts k)) (ready_both m (ends k) (gives_back (y k).lanes ns) (end_ready w m (works at mid w is) is.may_come back Cancel None k) (all_ready (y k) old.shape ns (gives_all k)))

  then_draws : (k : ℕ) → DrawEnded m (behind_settling k m)
  then_draws k = subst (DrawEnded m) (sym (parts k)) (drawn_in_turn m (ends k) (gives_back (y k).lanes ns) (ended k) (gives_drawless k))

  ready : (k : ℕ) → Ready w (cancels_outside k w)
  unfolding cancels_outside by_view
  ready k = ready_first w (behind_settling k) (then_ready k)

  draws : (k : ℕ) → DrawEnded w (cancels_outside k w)
  unfolding cancels_outside by_view
  draws k = draws_first w (behind_settling k) (then_draws k)

  behind : (k : ℕ) → canceled_view v k ≡ x k
  unfolding cancels_outside by_view
  behind k = after_first w (behind_settling k) ∙ ap (after_all m) (parts k) ∙ after_all-append m (ends k) (gives_back (y k).lanes ns)

  -- ---- the lane stopped as it made all persistent

  pub stopped_canceling : (lane : Lane M) → Stops (at lane.memory) w (settles w) → lane ≡ record mid { memory = lane.memory; stopped = true } → IsStoppedCanceling at lane v
  unfolding cancels_outside by_view
  stopped_canceling lane stops fields = record {
    led = led;
    undrawn = undrawn;
    untold = is.untold;
    works = works at mid w is;
    settling = stops;
    stopped =
        let s : IsStoppedIn at lane w (in_turn settles (behind_settling lane.last)) Cancel None =
        stopped_settling w (behind_settling lane.last) Cancel None at lane is.undrawn (then_ready lane.last) (then_draws lane.last) stops (ap (λ (l : Lane M). l.stopped) fields)
        (ap (λ (l : Lane M). l.drawn) fields ∙ undrawn_lane at mid w is.seen is.undrawn) in
        record { ready = s.ready; draws = s.draws; stops = s.stops; stopped = s.stopped; drawn = s.drawn; came = s.came };
  }

  -- ---- or it gave up what was pending

  call_is : (k : ℕ) → (y k).call ≡ record { operation = Cancel; reply = None } ∷ []
  call_is k = (end_is_last w m (works at mid w is) is.may_come back Cancel None k).0 ∙ ap (λ (call : List Told). told_more call Cancel None) is.untold

  entries_are : (k : ℕ) → (x k).entries ≡ drawn_more v.entries k (record { operation = Cancel; reply = None } ∷ [])
  entries_are k =
      ap (λ (u : View). u.entries) (given k).same
      ∙ ((end_is_last w m (works at mid w is) is.may_come back Cancel None k).1
      ∙ (λ i. drawn_more (undrawn i) k (call_is k i)))

  none_now : (k : ℕ) → pending_before (x k) ≡ none_pending
  none_now k = pending_behind_one v k Cancel None (x k) (entries_are k)

  none_before : (k : ℕ) → (pending_before (y k)).reserved ≡ []
  none_before k = ap (λ (p : Pending). p.reserved) (sym (same_before (y k) (x k) (ap (λ (u : View). u.entries) (given k).same)) ∙ none_now k)

  left : (k : ℕ) (word : Occ) (bit : ℕ) → bit < 64 → (reserves (x k) word bit ≡ true) ↔ ((reserves v word bit ≡ true) × ¬ IsKeptBit v.lanes (map block_of ns) word bit)
  left k word bit low =
      subst (λ (lanes : ℕ). (reserves (x k) word bit ≡ true) ↔ ((reserves v word bit ≡ true) × ¬ IsKeptBit lanes (map block_of ns) word bit)) (own k).lanes
      (subst (λ (taken : List Taken). (reserves (x k) word bit ≡ true) ↔ ((list_any (has_bit word bit) taken ≡ true) × ¬ IsKeptBit (y k).lanes (map block_of ns) word bit)) (own k).reserved ((given k).left word bit low))

  may_turn : (k : ℕ) → MayGiveInTurn (y k) old.shape ns
  may_turn k = may_give_in_turn at old v r (y k) (own k) (of_shape k) (inl (over k).log) (over k).drained

  -- ---- in a world

  module _ (k : ℕ) (counts : HasOwnCounts (y k)) (o : Opening) (header : Header) (pool : PoolView) (start : View) (steps : List Step) (rests : RestsWithReserved o header pool start steps v old.shape) where
    begun_leads : Leads v (starts n v) w
    begun_leads = subst (Leads v (starts n v)) (starts_next v n alone started.ready) (ready_leads v (starts n v) started.ready started.draws)

    settled_leads : Leads w (settles w) m
    settled_leads = ready_leads w (settles w) (settle_lawful w).0 (drawless w (settles w) (let same = ap (λ (es : List Numbered). length es) back.call.entries in omega (arith, same)))

    ended_leads : Leads m (ends k) (y k)
    ended_leads = ready_leads m (ends k) (end_ready w m (works at mid w is) is.may_come back Cancel None k) (ended k)

    abbrev more : List Step
    more = (starts n v ++ settles w) ++ ends k

    works_there : WorksAlone o header pool start (steps ++ more) (y k)
    works_there = record {
      begins = rests.works.begins;
      leads = leads_then start v (y k) steps more rests.works.leads (leads_then v m (y k) (starts n v ++ settles w) (ends k) (leads_then v w m (starts n v) (settles w) begun_leads settled_leads) ended_leads);
      numbered = counts.numbered;
      within = counts.within;
    }

    unlocked : (y k).zone_locks ≡ []
    unlocked = (own k).zone_locks ∙ r.quiet.unlocked

    no_run : ReservesNoRun (y k).lanes (y k)
    no_run = (gives_all k).may.no_run

    gives_there : MayGiveAllBack o header pool start (steps ++ more) (y k) old.shape ns
    gives_there = record {
      rests = rests_with_none o header pool start (steps ++ more) (y k) old.shape works_there (over k).log ((over k).locks ∙ next_locks) unlocked ((same_lane k).table ∙ alone) (of_shape k) no_run (none_before k);
      idle = (over k).log;
      drained = (over k).drained;
      of_shape = of_shape k;
      unlocked = unlocked;
      no_run = no_run;
      none = none_before k;
      reserved = All-weaker (IsReservedFor v) (IsReservedFor (y k)) (reserved_so v (y k) (own k)) ns (each_reserved at old v r);
      apart = lie_apart at old v r;
    }

    idle_there : (x k).log ≡ no_log Idle
    idle_there = ap (λ (u : View). u.log) (given k).same ∙ (over k).log

    inside_there : (x k).lane < (x k).lanes
    inside_there = subst (λ (u : View). u.lane < u.lanes) (sym (given k).same) (let low = r.rests.place.lane in let l = (same_lane k).lane in let ls = (same_lane k).lanes in omega (arith, low, l, ls))

    -- it rests there still, with nothing reserved
    pub rests_still : RestsStill o header pool (x k) old.shape
    rests_still = record {
      rests = rests_again o header pool start (y k) (steps ++ more) old.shape ns gives_there;
      stands = record {
        stands = none_reserved (with_next_call (x k)) (ap (λ (p : Pending). p.reserved) (next_pending (x k) (with_next_call (x k)) (next_of (x k) inside_there (inl idle_there)) ∙ none_now k));
        within = subst (λ (p : Pending). All (LiesInReserved (x k)) (map reserved_object p.reserved)) (sym (none_now k)) (All-nil (LiesInReserved (x k)));
      };
      quiet = not_making_by (x k) (ap (λ (u : View). u.zone_locks) (given k).same ∙ unlocked) (none_making o header pool start (y k) (steps ++ more) old.shape ns gives_there);
    }

  -- ---- what it leaves

  -- with no lock to go back the lane rests as it is told
  pub told_rests : (locks : List HeldLock) → locks ≡ [] → (told : Lane M) → IsClosedBy at told (y told.last) (gives locks) → IsAtRest at told (y told.last)
  told_rests locks none told closed = subst (IsAtRest at told) (none_to_give (y told.last) locks none) closed.rests

  -- what is reserved may be given back once the cancel is told
  pub may_give_up : (told : Lane M) → told.shape ≡ old.shape → (list : PendingActions) → IsPendingAs list (pending_before v) → MayGiveInTurn (y told.last) told.shape (map object_of list.reserved.items)
  may_give_up told same list list_is =
      subst (λ (shape : Shape). MayGiveInTurn (y told.last) shape (map object_of list.reserved.items)) (sym same)
      (subst (MayGiveInTurn (y told.last) old.shape) (sym (objects_listed list (pending_before v) list_is)) (may_turn told.last))

  module _ (told new : Lane M) (shape : told.shape ≡ old.shape) (rests : IsAtRest at told (y told.last)) (later : new ≡ record told { memory = new.memory }) (list : PendingActions) (list_is : IsPendingAs list (pending_before v))
      (gave : (u : View) → at told.memory u → u.lanes ≡ told.shape.lanes → at new.memory (with_given_back u (map object_of list.reserved.items))) where
    last : new.last ≡ told.last
    last = ap (λ (l : Lane M). l.last) later

    same_shape : new.shape ≡ old.shape
    same_shape = ap (λ (l : Lane M). l.shape) later ∙ shape

    abbrev k : ℕ
    k = told.last

    there : at new.memory (x k)
    there = subst (λ (os : List NewObject). at new.memory (with_given_back (y k) os)) (objects_listed list (pending_before v) list_is) (gave (y k) rests.seen.memory ((of_shape k).lanes ∙ ap (λ (s : Shape). s.lanes) (sym shape)))

    rests_there : IsAtRest at new (x k)
    rests_there = record {
      seen = seen_given at told new (y k) (x k) rests.seen (given k).same later there;
      answered = ap (λ (l : Lane M). l.drawn) later ∙ rests.answered;
      unharmed = ap (λ (l : Lane M). l.error) later ∙ rests.unharmed;
      unstopped = ap (λ (l : Lane M). l.stopped) later ∙ rests.unstopped;
      unlisted = ap (λ (l : Lane M). l.entries.items) later ∙ rests.unlisted;
      fresh = inl (ap (λ (u : View). u.log) (given k).same ∙ (over k).log);
      undrained = inl (ap (λ (u : View). u.changes) (given k).same ∙ (over k).drained);
      free = ap (λ (u : View). u.locks) (given k).same ∙ rests.free;
      place = subst HasPlace (sym (given k).same) (let p = rests.place in record { lane = p.lane; few = p.few; inside = p.inside });
    }

    module _ (counts : (u : View) → at told.memory u → IsAlone u → HasOwnCounts u) where
      pub canceled : HasCanceledOutside at new v
      canceled = record {
        led = led;
        undrawn = undrawn;
        ready = ready new.last;
        draws = draws new.last;
        rests = subst (λ (j : ℕ). IsAtRest at new (canceled_view v j)) (sym last) (subst (IsAtRest at new) (sym (behind k)) rests_there);
        idle = ap (λ (u : View). u.log) (behind new.last ∙ (given new.last).same) ∙ (over new.last).log;
        entries = ap (λ (u : View). u.entries) (behind new.last) ∙ entries_are new.last;
        pending = ap pending_before (behind new.last) ∙ none_now new.last;
        words = ap (λ (u : View). u.words) (behind new.last ∙ (given new.last).same) ∙ (own new.last).words;
        drained = ap (λ (u : View). u.changes) (behind new.last ∙ (given new.last).same) ∙ (over new.last).drained;
        left = λ word bit low. subst (λ (u : View). (reserves u word bit ≡ true) ↔ ((reserves v word bit ≡ true) × ¬ IsKeptBit v.lanes (map block_of ns) word bit)) (sym (behind new.last)) (left new.last word bit low);
        keeps = λ o header pool start steps world. subst (λ (j : ℕ). RestsStill o header pool (canceled_view v j) new.shape) (sym last)
            (subst (λ (u : View). RestsStill o header pool u new.shape) (sym (behind k)) (subst (RestsStill o header pool (x k)) (sym same_shape)
            (rests_still k (counts (y k) rests.seen.memory ((same_lane k).table ∙ alone)) o header pool start steps (subst (RestsWithReserved o header pool start steps v) same_shape world))));
      }
