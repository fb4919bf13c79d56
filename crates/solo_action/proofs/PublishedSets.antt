-- Words alone were pending, and published: the locks went back. Wherever the lane worked alone it rests with nothing reserved.
use Rattle.std.proofs.Common.{◌≡◌, ℕ, ◌-◌, ◌/◌, ◌≤◌, ◌%◌, false, eqb, All, List, [], ◌∷◌, ◌++◌, length, map, None, refl, sym, ap, ◌∙◌, subst, arith}
use Rattle.std.proofs.lemmas.Bool.{and_right}
use Rattle.std.proofs.lemmas.List.{append-nil, length-map}
use Rattle.std.proofs.lemmas.List.Elements.{All-nil}
use Rattle.std.proofs.lemmas.Nat.Bits.{bit_at-zero}
use Rattle.solo_crash.proofs.Leading.{leads_then}
use Rattle.solo_crash.specs.Alone.{WorksAlone}
use Rattle.solo_crash.specs.CallBlocks.{no_blocks, with_all_freed, with_all_made}
use Rattle.solo_crash.specs.OnActions.{CanSet}
use Rattle.solo_crash.specs.Operations.{TakesWanted}
use Rattle.solo_crash.specs.Pending.{pending_before, sets_before}
use Rattle.solo_epoch.specs.Epochs.{HasEnded}
use Rattle.pm_header.specs.declared.header.Header.{Header}
use Rattle.solo_made.specs.Made.{BlockLists, ListsBlocks, has_object}
use Rattle.solo_model.specs.Actions.{Action, Pending, none_pending, wants_pending}
use Rattle.pm_objects.specs.declared.calls.Operation.TheVariants.{Publish}
use Rattle.pm_objects.specs.declared.pool.PoolView.{PoolView}
use Rattle.solo_pending.specs.AllPending.{reserved_as}
use Rattle.solo_pending.specs.Pending.{action_of, entry_of, pending_of, redo_for, sets_of}
use Rattle.solo_pending.specs.declared.actions.SetAction.{SetAction}
use Rattle.solo_pending.specs.declared.pending.PendingActions.{PendingActions}
use Rattle.pm_record.specs.declared.redo.Redo.{Redo}
use Rattle.solo_view.proofs.SameLane.{same_lane-then}
use Rattle.solo_view.specs.Founds.{IsAlone}
use Rattle.solo_view.specs.Steps.{Step}
use Rattle.solo_view.specs.View.{Told, View}
use Rattle.solo_view.specs.Views.{after_all}
use Rattle.solo_world.specs.Opening.{Opening}
use Rattle.solo_world.specs.Sequences.{Ready}
use Rattle.solo_world.specs.declared.lane.Lane.{Lane}
use Rattle.solo_lock.proofs.Drawless.{drawless}
use Rattle.solo_lock.proofs.GivenBack.{all_gives_leave, none_counted}
use Rattle.solo_lock.proofs.Leading.{ready_leads}
use Rattle.solo_lock.proofs.Leads.{led_none, led_same, ready_led}
use Rattle.solo_lock.specs.Leading.{IsLed}
use Rattle.solo_lock.specs.Locking.{gives}
use Rattle.solo_tx.proofs.Beginnings.{works}
use Rattle.solo_tx.specs.Ending.{IsClosedBy, IsEndedBy, IsStoppedIn, drawn_more}
use Rattle.solo_tx.specs.Sequences.{publishes_outside}
use Rattle.solo_transaction.proofs.EndedLog.{log_ends, log_unlocks}
use Rattle.solo_transaction.proofs.NotMaking.{not_making_knowing}
use Rattle.solo_transaction.specs.AtWork.{IsNotMaking}
use Rattle.solo_transaction.specs.Published.{HasOwnCounts, LogsCall, logs_call}
use Rattle.solo_action.specs.Outside.{RestsStill}
use Rattle.solo_action.specs.Publishing.{AreSetsAlone, HoldsToPublish, IsPublishedBy, IsStoppedPublishing, MayPublishHeld, entries_of}
use Rattle.solo_action.specs.PublishingAll.{ListsPending, PublishLogs, entries_pending}
use Rattle.solo_action.proofs.HoldingAll.{holds_alone, holds_here, logs_of, own_counts}
use Rattle.solo_action.proofs.PendingLists.{lists_now, none_named, redos}
use Rattle.solo_action.proofs.PublishedHeld.{may_publish, own, pending_few, pending_some}
use Rattle.solo_action.proofs.RestedNone.{rests_empty}
use Rattle.solo_action.proofs.ToldOutside.{pending_behind_one}

-- ---- lists of a call that made and freed nothing

abbrev pub no_lists : BlockLists
no_lists = record { made = []; freed = []; dropped = [] }

none_there : (off : ℕ) → has_object [] off ≡ false
none_there off = and_right _ _ (ap (λ n. eqb n 1) (bit_at-zero ((off / 64 - 1) % 64)))

pub lists_none : ListsBlocks no_lists no_blocks
lists_none = record { made = refl; freed = refl; dropped = none_there }

-- one log decides a publish outside
pub logs_outside : (entries : List Redo) (n : ℕ) (v : View) → logs_call Publish entries n v ≡ publishes_outside entries Publish n v
unfolding logs_call publishes_outside
logs_outside entries n v = refl

module _ {M : Type 0} (at : M → View → Type 0) (held : Lane M) (pending : PendingActions) (v : View) (h : HoldsToPublish at held pending v) (no_frees : pending.frees.items ≡ []) (no_reserved : pending.reserved.items ≡ []) (some : 1 ≤ length pending.sets.items)
    (xs : List SetAction) (value : xs ≡ pending.sets.items) where
  abbrev p : Pending
  p = pending_before v

  frees_none : p.frees ≡ []
  frees_none = sym h.listed.frees ∙ no_frees

  reserved_none : p.reserved ≡ []
  reserved_none = none_named reserved_as p.reserved (sym h.listed.reserved ∙ no_reserved)

  sets_are : sets_of xs ≡ p.sets
  sets_are = ap sets_of value ∙ h.listed.sets

  all_pending : pending_of xs ≡ p
  all_pending = λ i. record { sets = sets_are i; frees = sym frees_none i; reserved = sym reserved_none i; late = sym h.holds.in_time i }

  pub sets_alone : AreSetsAlone v
  sets_alone = record {
    alone = λ i. record { sets = p.sets; frees = frees_none i; reserved = reserved_none i; late = h.holds.in_time i };
    some = let n = ap (λ (actions : List Action). length actions) h.listed.sets in let m = length-map pending.sets.items action_of in omega (arith, some, n, m);
  }

  pub may_held : MayPublishHeld at held (sets_of xs) v
  may_held = record {
    begun = h.begun;
    holds = record {
      takes = subst (λ (q : Pending). TakesWanted v [] (wants_pending q)) (sym all_pending) h.holds.takes;
      objects = h.holds.objects;
      each = subst (All (CanSet v)) (sym sets_are) h.holds.each;
    };
    sound = h.sound;
  }

  some_xs : 1 ≤ length xs
  some_xs = let n = ap (λ (ys : List SetAction). length ys) value in omega (arith, some, n)

  pub few_xs : length xs ≤ 63
  few_xs =
      let few = h.listed.few in let n = ap (λ (actions : List Action). length actions) sets_are in let m = length-map xs action_of in
      omega (arith, few, n, m)

  -- ---- it stopped

  pub stopped_sets : (lane : Lane M) → ((m : M) (u : View) → at m u → IsAlone u → HasOwnCounts u)
      → ((w : View) → MayPublishHeld at held (sets_of xs) w → pending_of xs ≡ pending_before w → IsStoppedIn at lane w (publishes_outside (entries_of (sets_of xs)) Publish lane.last) Publish None)
      → AreSetsAlone v × IsStoppedPublishing at lane (sets_before v) v
  stopped_sets lane counts stops = (
    sets_alone,
    subst (λ (actions : List Action). IsStoppedPublishing at lane actions v) sets_are (record {
      holding = v;
      led = led_none v;
      holds = may_held.holds;
      undrawn = refl;
      counts = own_counts at held pending v h counts;
      untold = h.begun.untold;
      works = works at held v h.begun;
      may = may_publish at held (sets_of xs) v may_held (pending_some xs some_xs) (pending_few xs few_xs);
      own = own at held (sets_of xs) v may_held;
      stopped = stops v may_held all_pending;
    }),
  )

  -- ---- it was published

  module _ (told rested : Lane M) (same : told.last ≡ rested.last) (counts : (m : M) (u : View) → at m u → IsAlone u → HasOwnCounts u)
      (ended : (w : View) → MayPublishHeld at held (sets_of xs) w → pending_of xs ≡ pending_before w → IsEndedBy at told w (publishes_outside (entries_of (sets_of xs)) Publish told.last) Publish None) where
    abbrev k : ℕ
    k = rested.last

    abbrev es : List Redo
    es = entries_of (sets_of xs)

    pub ended_sets : IsEndedBy at told v (publishes_outside es Publish k) Publish None
    ended_sets = subst (λ j. IsEndedBy at told v (publishes_outside es Publish j) Publish None) same (ended v may_held all_pending)

    abbrev over : View
    over = after_all v (publishes_outside es Publish k v)

    -- as a call that one log decides
    lists_there : ListsPending held.locks.items v no_lists
    lists_there = record {
      of_call = subst (ListsBlocks no_lists) (sym (lists_now v h.begun.untold ∙ (λ i. with_all_made (reserved_none i) (with_all_freed (frees_none i) no_blocks)))) lists_none;
      held = All-nil _;
    }

    entries_are : entries_pending pending v.lanes no_lists ≡ es
    entries_are = append-nil (map redo_for pending.sets.items) ∙ redos (holds_here at held pending v h) ∙ ap (map entry_of) (sym sets_are)

    logs : PublishLogs v pending no_lists
    logs = logs_of at held pending v h no_lists lists_there
        (let n = ap (λ (rs : List Redo). length rs) entries_are in let m = length-map (sets_of xs) entry_of in let j = length-map xs action_of in let low = some_xs in omega (arith, n, m, j, low))

    steps_are : logs_call Publish (entries_pending pending v.lanes no_lists) k v ≡ publishes_outside es Publish k v
    steps_are = ap (λ (rs : List Redo). logs_call Publish rs k v) entries_are ∙ logs_outside es k v

    alone_over : IsAlone over
    alone_over = ended_sets.over.lane.table ∙ holds_alone at held pending v h

    own_over : HasOwnCounts over
    own_over = counts told.memory over ended_sets.behind.seen.memory alone_over

    ready_there : Ready v (logs_call Publish (entries_pending pending v.lanes no_lists) k v)
    ready_there = subst (Ready v) (sym steps_are) ended_sets.ready

    module _ (o : Opening) (header : Header) (pool : PoolView) (start : View) (steps : List Step) (alone : WorksAlone o header pool start steps v) where
      log : LogsCall o header pool start steps Publish (sets_before v) no_lists v (entries_pending pending v.lanes no_lists)
      log = logs o header pool start steps alone

      ended_there : HasEnded o header pool over
      ended_there = subst (λ (all : List Step). HasOwnCounts (after_all v all) → HasEnded o header pool (after_all v all)) steps_are (log_ends log k ready_there) own_over

      unlocked_there : over.zone_locks ≡ []
      unlocked_there = subst (λ (all : List Step). (after_all v all).zone_locks ≡ []) steps_are (log_unlocks log k ready_there)

      quiet_over : IsNotMaking over
      quiet_over = not_making_knowing over unlocked_there ended_there.taken

    module _ (closed : IsClosedBy at rested over (gives told.locks.items)) where
      abbrev x : View
      x = after_all over (gives told.locks.items over)

      gone : x ≡ record over { locks = []; known = x.known }
      gone = closed.same

      back : IsLed over x
      back =
          ready_led over (gives told.locks.items over) closed.ready (drawless over (gives told.locks.items over) (let n = ap (λ (u : View). length u.entries) gone in omega (arith, n))) (none_counted told.locks.items over) (all_gives_leave told.locks.items over)
          (record { zone_locks = ap (λ (u : View). u.zone_locks) gone; reserved = ap (λ (u : View). u.reserved) gone; freed = ap (λ (u : View). u.freed) gone })

      call_is : over.call ≡ record { operation = Publish; reply = None } ∷ []
      call_is = ended_sets.told ∙ ap (λ (told : List Told). told ++ record { operation = Publish; reply = None } ∷ []) h.begun.untold

      entries : x.entries ≡ drawn_more v.entries k (record { operation = Publish; reply = None } ∷ [])
      entries = ap (λ (u : View). u.entries) gone ∙ (ended_sets.entries ∙ (λ i. drawn_more v.entries (same i) (call_is i)))

      none_now : pending_before x ≡ none_pending
      none_now = pending_behind_one v k Publish None x entries

      alone_now : IsAlone x
      alone_now = ap (λ (u : View). u.table) gone ∙ alone_over

      quiet_now : IsNotMaking over → IsNotMaking x
      quiet_now q = subst IsNotMaking (sym gone) (record { unlocked = q.unlocked; no_run = q.no_run })

      own_now : HasOwnCounts x
      own_now = counts rested.memory x closed.rests.seen.memory alone_now

      works_now : (o : Opening) (header : Header) (pool : PoolView) (start : View) (steps : List Step) → WorksAlone o header pool start steps v → WorksAlone o header pool start (steps ++ (publishes_outside es Publish k v ++ back.steps)) x
      works_now o header pool start steps alone = record {
        begins = alone.begins;
        leads = leads_then start v x steps (publishes_outside es Publish k v ++ back.steps) alone.leads
            (leads_then v over x (publishes_outside es Publish k v) back.steps (ready_leads v (publishes_outside es Publish k v) ended_sets.ready ended_sets.draws) back.leads);
        numbered = own_now.numbered;
        within = own_now.within;
      }

      rests_now : (o : Opening) (header : Header) (pool : PoolView) (start : View) (steps : List Step) → WorksAlone o header pool start steps v → RestsStill o header pool x rested.shape
      rests_now o header pool start steps alone =
          rests_empty o header pool start x (steps ++ (publishes_outside es Publish k v ++ back.steps)) (works_now o header pool start steps alone) alone_now (ap (λ (u : View). u.log) gone ∙ ended_sets.over.log) (ap (λ (u : View). u.changes) gone ∙ ended_sets.over.drained)
          (ap (λ (u : View). u.locks) gone) (quiet_now (quiet_over o header pool start steps alone)) none_now rested.shape closed.rests.seen.shape

      pub published_sets : AreSetsAlone v × IsPublishedBy at rested (sets_before v) v
      published_sets = (
        sets_alone,
        subst (λ (actions : List Action). IsPublishedBy at rested actions v) sets_are (record {
          holding = v;
          led = led_none v;
          holds = may_held.holds;
          undrawn = refl;
          counts = own_counts at held pending v h counts;
          ready = ended_sets.ready;
          draws = ended_sets.draws;
          view = x;
          back = back;
          same = same_lane-then v over x ended_sets.over.lane (led_same over x back);
          rests = closed.rests;
          drained = ap (λ (u : View). u.changes) gone ∙ ended_sets.over.drained;
          idle = ap (λ (u : View). u.log) gone ∙ ended_sets.over.log;
          entries = entries;
          few = pending_few xs few_xs;
          drawn_there = ap (λ (u : View). u.entries) gone;
          pending = none_now;
          keeps = rests_now;
        }),
      )
