-- What a try to hold the objects that are named comes to, once their locks are taken.
use Rattle.std.proofs.Common.{◌≡◌, inl, inr, Bool, true, false, All, List, [], map, slice_index, refl, sym, ap, ◌∙◌, subst}
use Rattle.std.specs.List.{Any}
use Rattle.std.proofs.lemmas.List.Elements.{All-map, All-weaker}
use Rattle.solo_crash.specs.CallBlocks.{FreeNoRoot}
use Rattle.solo_crash.specs.OnActions.{CanFree, CanSet, PassesObject}
use Rattle.solo_crash.specs.Operations.{IsHeld, TakesWanted}
use Rattle.solo_crash.specs.Reserved.{root_in}
use Rattle.solo_model.specs.Actions.{Pending, wants_pending}
use Rattle.pm_objects.specs.declared.calls.Want.{Want}
use Rattle.pm_objects.specs.declared.ids.Oid.{Oid}
use Rattle.pm_objects.specs.declared.refusal.Refusal.TheVariants as refusal
use Rattle.solo_pending.specs.Pending.{action_of}
use Rattle.solo_pending.specs.declared.actions.SetAction.{SetAction}
use Rattle.solo_pending.specs.declared.pending.PendingActions.{PendingActions}
use Rattle.solo_undo.specs.Working.{IsWorking}
use Rattle.solo_view.specs.Founds.{IsAlone}
use Rattle.solo_view.specs.View.{View, Lock}
use Rattle.solo_world.specs.Lanes.{lock_of}
use Rattle.solo_world.specs.declared.lane.HeldLock.{HeldLock}
use Rattle.solo_world.specs.declared.lane.Lane.{Lane}
use Rattle.solo_lock.proofs.Leads.{led_same, led_then}
use Rattle.solo_lock.proofs.OnlyLooking.{begun_looks}
use Rattle.solo_lock.specs.Finding.{HasFound}
use Rattle.solo_lock.specs.Leading.{IsLed}
use Rattle.solo_lock.specs.Locking.{HasTaken}
use Rattle.solo_lock.specs.Plans.{IsPlan, unfound}
use Rattle.solo_tx.proofs.BeganWanted.{lacks_wanted}
use Rattle.solo_tx.proofs.BeginPlanned.{entries, led, models, of_pool, plan_so}
use Rattle.solo_tx.proofs.Beginnings.{works}
use Rattle.solo_action.specs.Holding.{GoesOnTo, HasLookedAgain, HoldsEach, HoldsObject, HoldsPending, IsHoldReason, LooksAgain, named_in}
use Rattle.solo_tx.proofs.EachAction.{some_mapped}
use Rattle.solo_action.proofs.EachEnd.{Passes, Sets}
use Rattle.solo_action.proofs.HeldObjects.{each_freed, each_held, takes_all}
use Rattle.solo_action.proofs.LookedAgain.{holds_again, looks_further, objects_again, only_looks, takes_again}

-- an object that can be freed still can
freed_again : (v w : View) → LooksAgain v w → (id : Oid) → CanFree v id → CanFree w id
freed_again v w looks id can = subst (λ (z : View). CanFree z id) (sym looks.same)
    (let h : IsHeld v id true = can.0 in (record { lock = h.lock; lines = h.lines; held = h.held; block = h.block; allows = h.allows; of_pool = h.of_pool; place = h.place }, can.1))

-- and none is the root
no_root_again : (v w : View) → LooksAgain v w → (ids : List Oid) → FreeNoRoot (root_in (slice_index v.words)) ids → FreeNoRoot (root_in (slice_index w.words)) ids
no_root_again v w looks ids others = subst (λ (z : View). FreeNoRoot (root_in (slice_index z.words)) ids) (sym looks.same) others

module _ {M : Type 0} (at : M → View → Type 0) (old mid lane : Lane M) (list : PendingActions) (plan : List HeldLock) (is : IsPlan old.pool old.shape.lanes old.shape.zones (wants_pending (named_in list)) plan)
    (first : mid ≡ record old { memory = mid.memory; locks = mid.locks }) (second : lane ≡ record mid { memory = lane.memory; locks = lane.locks }) (v : View) (t : HasTaken at mid v (map lock_of (map unfound plan))) (all : Bool) (f : HasFound at lane t.view all) where
  abbrev p : Pending
  p = named_in list

  abbrev wants : List Want
  wants = wants_pending p

  abbrev w : View
  w = f.view

  pool : lane.pool ≡ old.pool
  pool = ap (λ (l : Lane M). l.pool) second ∙ ap (λ (l : Lane M). l.pool) first

  shape : lane.shape ≡ old.shape
  shape = ap (λ (l : Lane M). l.shape) second ∙ ap (λ (l : Lane M). l.shape) first

  led_there : IsLed v w
  led_there = led at old mid lane wants plan is pool shape v t all f

  entries_there : w.entries ≡ v.entries
  entries_there = entries at old mid lane wants plan is pool shape v t all f

  -- under one of the locks there is no object
  pub none_found : all ≡ false → GoesOnTo at lane v (λ u. IsHoldReason u p refusal.NoObject)
  none_found none = record {
    view = w;
    led = led_there;
    begun = f.begun;
    entries = entries_there;
    holds =
        inl (lacks_wanted old.pool w wants plan (of_pool at old mid lane wants plan is pool shape v t all f) (plan_so at old mid lane wants plan is pool shape v t all f) (models at old mid lane wants plan is pool shape v t all f)
        (f.none none));
  }

  -- the call is at work there, alone
  pub works_there : IsWorking w
  works_there = works at lane w f.begun

  pub alone_there : IsAlone v → IsAlone w
  alone_there alone = (led_same v w led_there).table ∙ alone

  module _ (found : all ≡ true) where
    plan_now : IsPlan old.pool w.lanes w.zones wants plan
    plan_now = plan_so at old mid lane wants plan is pool shape v t all f

    holds_each : HoldsEach w list.sets.items
    holds_each = each_held old.pool w list plan (of_pool at old mid lane wants plan is pool shape v t all f) plan_now (models at old mid lane wants plan is pool shape v t all f) (f.objects found) f.begun.lines

    frees_each : All (CanFree w) list.frees.items
    frees_each = each_freed old.pool w list plan (of_pool at old mid lane wants plan is pool shape v t all f) plan_now (models at old mid lane wants plan is pool shape v t all f) (f.objects found) f.begun.lines

    holds_wanted : TakesWanted w [] wants
    holds_wanted = takes_all old.pool w wants plan (of_pool at old mid lane wants plan is pool shape v t all f) plan_now (models at old mid lane wants plan is pool shape v t all f) (f.objects found)

    -- one was asked for late
    pub late_found : list.late ≡ true → GoesOnTo at lane v (λ u. IsHoldReason u p refusal.NoObject)
    late_found late = record { view = w; led = led_there; begun = f.begun; entries = entries_there; holds = inr (record { takes = holds_wanted; objects = f.objects found; late = late }) }

    module _ (memory : M) (Q : View → Type 0) (s : HasLookedAgain (at memory) w Q) where
      locks_same : s.view.locks ≡ w.locks
      locks_same = ap (λ (u : View). u.locks) s.looks.same

      goes_on : (R : View → Type 0) → R s.view → GoesOnTo at (record lane { memory = memory }) v R
      goes_on R holds = record {
        view = s.view;
        led = led_then v w s.view led_there s.looks.led;
        begun =
            begun_looks at lane (record lane { memory = memory }) w s.view f.begun (only_looks w s.view s.looks) s.there (f.begun.seen.locks ∙ sym locks_same) (ap (map (λ (l : Lock). l.line)) locks_same) refl;
        entries = ap (λ (u : View). u.entries) s.looks.same ∙ entries_there;
        holds = holds;
      }

    module _ (in_time : list.late ≡ false) where
      -- one that is to be freed is the root
      pub root_found : (memory : M) → HasLookedAgain (at memory) w (λ u. Any (λ (id : Oid). slice_index u.words 64 ≡ id.off) list.frees.items) → GoesOnTo at (record lane { memory = memory }) v (λ u. IsHoldReason u p refusal.RootKept)
      root_found memory s = goes_on memory (λ u. Any (λ (id : Oid). slice_index u.words 64 ≡ id.off) list.frees.items) s (λ u. IsHoldReason u p refusal.RootKept)
          (record { takes = takes_again w s.view s.looks [] wants holds_wanted; objects = objects_again w s.view s.looks (f.objects found); in_time = in_time; root = s.holds })

      module _ (seen : M) (r : HasLookedAgain (at seen) w (λ u. FreeNoRoot (root_in (slice_index u.words)) list.frees.items)) where
        abbrev m : View
        m = r.view

        pub each_there : HoldsEach m list.sets.items
        each_there = All-weaker (λ (a : SetAction). HoldsObject w a.id) (λ (a : SetAction). HoldsObject m a.id) (λ a. holds_again w m r.looks a.id) list.sets.items holds_each

        abbrev then : (memory : M) (Q : View → Type 0) → HasLookedAgain (at memory) m Q → HasLookedAgain (at memory) w Q
        then memory Q s = record { view = s.view; looks = looks_further w m s.view r.looks s.looks; there = s.there; holds = s.holds }

        -- an action passes the end of its object
        pub past_end : (memory : M) → HasLookedAgain (at memory) m (λ u. Any (Passes u) list.sets.items) → GoesOnTo at (record lane { memory = memory }) v (λ u. IsHoldReason u p refusal.OutOfRange)
        past_end memory s =
            let looks : LooksAgain w s.view = looks_further w m s.view r.looks s.looks in
            goes_on memory (λ u. Any (Passes u) list.sets.items) (then memory (λ u. Any (Passes u) list.sets.items) s) (λ u. IsHoldReason u p refusal.OutOfRange) (record {
              takes = takes_again w s.view looks [] wants holds_wanted;
              objects = objects_again w s.view looks (f.objects found);
              in_time = in_time;
              not_root = no_root_again m s.view s.looks list.frees.items r.holds;
              some = some_mapped (PassesObject s.view) action_of list.sets.items s.holds;
            })

        -- or none does
        pub all_held : (memory : M) → HasLookedAgain (at memory) m (λ u. All (Sets u) list.sets.items) → GoesOnTo at (record lane { memory = memory }) v (λ u. HoldsPending u p)
        all_held memory s =
            let looks : LooksAgain w s.view = looks_further w m s.view r.looks s.looks in
            goes_on memory (λ u. All (Sets u) list.sets.items) (then memory (λ u. All (Sets u) list.sets.items) s) (λ u. HoldsPending u p) (record {
              takes = takes_again w s.view looks [] wants holds_wanted;
              objects = objects_again w s.view looks (f.objects found);
              in_time = in_time;
              not_root = no_root_again m s.view s.looks list.frees.items r.holds;
              frees = All-weaker (CanFree w) (CanFree s.view) (freed_again w s.view looks) list.frees.items frees_each;
              each = All-map (CanSet s.view) action_of list.sets.items s.holds;
            })
