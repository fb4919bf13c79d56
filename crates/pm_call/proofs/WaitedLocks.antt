-- WHAT WAITING FOR THE LOCKS of an outermost level leaves of a lane whose call is open.
use Rattle.std.specs.Prelude.{take}
use Rattle.std.proofs.Common.{◌≡◌, ◌≢◌, inl, inr, ⊎_elim, ℕ, suc, ◌+◌, ◌*◌, ◌<◌, ◌≤◌, Bool, true, false, ◌==◌, ◌||◌, List, [], ◌∷◌, ◌++◌, length, refl, sym, ap, ◌∙◌, subst, arith, None, Some, Ok, Err}
use Rattle.std.proofs.lemmas.Bool.{both_ways, eqb-true}
use Rattle.std.proofs.lemmas.List.{append-nil}
use Rattle.pm_memory.specs.Runs.{Made}
use Rattle.pm_model.specs.Items.{is_among}
use Rattle.pm_model.specs.Refusals.{Seen, first_of}
use Rattle.pm_model.specs.declared.stage.Stage.TheVariants as stage
use Rattle.pm_objects.specs.declared.calls.Operation.TheVariants.{Begin}
use Rattle.pm_objects.specs.declared.calls.Want.{Want}
use Rattle.pm_objects.specs.declared.history.TxErr.TheVariants as error
use Rattle.pm_objects.specs.declared.history.Value.TheVariants.{Refused}
use Rattle.pm_objects.specs.declared.refusal.Refusal.{Refusal}
use Rattle.pm_objects.specs.declared.refusal.Refusal.TheVariants as refusal
use Rattle.pm_view.specs.Steps.{Step}
use Rattle.pm_view.specs.Steps.Step.{Draw, Tell}
use Rattle.pm_view.specs.View.{View}
use Rattle.pm_view.specs.Views.{after, after_all}
use Rattle.pm_world.specs.LaneFields.{Fields, Rests, Standing, at_rest, fields_of, moved}
use Rattle.pm_world.specs.Lawful.{Allowed}
use Rattle.pm_world.specs.declared.lane.HeldLock.{HeldLock}
use Rattle.pm_world.specs.declared.lane.Lane.{Lane}
use Rattle.pm_lock.specs.Acquiring.{Acquired, AcquiredAs, ArePlanned, CanAcquire, FindsAll, FindsNone, MayWant, RefusedUnplaced}
use Rattle.pm_lock.specs.Acquiring as acquiring
use Rattle.pm_lock.specs.Holding.{AreOnce, IsTaken, Rises}
use Rattle.pm_lock.specs.Locking.{HasGrown, lock_at}
use Rattle.pm_lock.specs.Objects.{HasLooked, MissesAt, ToldNoRun}
use Rattle.pm_lock.specs.Raising.{raised, raises}
use Rattle.pm_lock.specs.Steps.{AreWaits}
use Rattle.pm_lock.specs.Wants.{has_unplaced, wanted}
use Rattle.pm_lock.proofs.Acquired.{may_lock_wanted}
use Rattle.pm_lock.proofs.HeldLocks.{held_grow}
use Rattle.pm_lock.proofs.Holds.{waits_taken}
use Rattle.pm_plan.specs.Plans.{IsMade, Ready, Runs}
use Rattle.pm_call.specs.Did.{next, given_up, unseen}
use Rattle.pm_call.specs.GivenUp.{LeavesOver, MayEnd, with_locks}
use Rattle.pm_call.specs.LockRefusals.{TriedLocks, locking_tests}
use Rattle.pm_call.specs.Locking.{CanLock, IsOpened, LeadsLocks, TakesLocks, locks_with, to_take, to_write}
use Rattle.pm_call.specs.Opening.{WasBegun, BeginWasRefused, WaitWasStopped}
use Rattle.pm_call.specs.Plans.{ends_call, gives_up}
use Rattle.pm_call.specs.Stages.{at_level}
use Rattle.pm_call.specs.WantedTaken.{IsMissed}
use Rattle.pm_call.proofs.Quiet.{quiet_none}
use Rattle.pm_call.proofs.MissedObjects.{none_there}
use Rattle.pm_call.proofs.FirstLocks as first_locks
use Rattle.pm_call.proofs.LocksGot.{got_locks_are_taken, missed_locks_are_tried, none_looked}
use Rattle.pm_call.proofs.OpenedCalls.{opened_lanes_may_lock, transactions_may_begin}
use Rattle.pm_call.proofs.OverCalls.{over_as}
use Rattle.pm_call.proofs.RefusedBegins.{ended_so, only_ends, opened_none_back, refused_begins_end}
use Rattle.pm_call.proofs.RefusedWants as wants_
use Rattle.pm_call.proofs.TakenLocks.{after_none, locks_may_be_wanted}
use Rattle.pm_call.proofs.TriedLocks.{some}
use Rattle.pm_call.proofs.WantedTaken.{missed_before}

-- ---- ITS LOCKS ARE WAITED FOR

module _ {M : Type 0} (at : M → View → Type 0) (mid : Lane M) (wants : List Want) (s : Standing)
    (rests : Rests at mid s) (is : IsOpened s) where
  pub can_acquire : CanAcquire at mid [] s.view
  can_acquire = record {
    memory = rests.memory;
    may = subst (λ (f : Fields). MayWant s.view f.shape f.locks []) (sym rests.fields)
        (locks_may_be_wanted s (opened_lanes_may_lock s is));
  }

  pub plan_is : acquiring.to_take mid [] wants ≡ to_take s wants
  plan_is = ap (λ (f : Fields). wanted f.shape f.pool f.locks [] wants) rests.fields

  -- none that it takes is to be raised
  none_raised : (raised (to_write s wants) (s.locks ++ to_take s wants) ≡ s.locks ++ to_take s
      wants) × (raises (to_write s wants) (s.locks ++ to_take s wants) ≡ [])
  none_raised = subst (λ (ls : List HeldLock). (raised (to_write s wants) (ls ++ plan ls) ≡ ls ++
      plan ls) × (raises (to_write s wants) (ls ++ plan ls) ≡ [])) (sym is.locks)
      (first_locks.none_raised s.view.fixed.shape s.view.fixed.pool wants
      (subst (λ (ls : List HeldLock). Rises (plan ls)) is.locks
      (may_lock_wanted s.view s.view.fixed.shape s.view.fixed.pool s.locks [] wants
      (locks_may_be_wanted s (opened_lanes_may_lock s is))).takes.rises))
    where
      plan : List HeldLock → List HeldLock
      plan ls = wanted s.view.fixed.shape s.view.fixed.pool ls [] wants

  module _ (new : Lane M) where
    -- the fields, but the locks, are as they were
    grown : (more : List HeldLock) → HasGrown more mid new
        → fields_of new ≡ record (at_rest s) { locks = s.locks ++ more }
    grown more g = ap (λ (l : Lane M). fields_of l) g.0
        ∙ (ap (λ ls. record (fields_of mid) { locks = ls }) g.1
        ∙ ap (λ (f : Fields). record f { locks = f.locks ++ more }) rests.fields)

    grown_at : (x y : View) (got more : List HeldLock) → IsTaken s.view got y → HasLooked y x
        → HasGrown more mid new → fields_of new ≡ at_rest (with_locks (s.locks ++ more) (moved s x))
    grown_at x y got more taken looked g = grown more g
        ∙ subst (λ (u : View). record (at_rest s) { locks = s.locks ++ more } ≡ at_rest
        (with_locks (s.locks ++ more) (moved s u)))
        (sym (looked.same ∙ ap (λ (u : View). record u { claims = x.claims }) taken)) refl

    -- ---- all are got, and each has its object
    pub record HasTaken : Type 0 where
      pub view : View
      pub takes : TakesLocks s wants view
      pub leads : LeadsLocks s (Begin wants) wants 1 view
      pub memory : at new.memory view
      pub fields : fields_of new ≡ at_rest (with_locks (locks_with s wants) (moved s view))

    pub taken_so : AcquiredAs at (to_take s wants) wants s.view mid new (Ok tt) → HasTaken
    taken_so t = by (subst (λ (f : Fields). FindsAll (at new.memory) (after_all s.view t.1.0)
        f.shape (to_take s wants)) rests.fields t.1.2) where
          steps : List Step
          steps = t.1.0

          by : FindsAll (at new.memory) (after_all s.view steps) s.view.fixed.shape (to_take s wants)
              → HasTaken
          by found =
              let x : View = after_all (after_all s.view steps) found.steps in
              let takes : TakesLocks s wants x = subst (TakesLocks s wants)
              (ap (after_all x) none_raised.1
              ∙ after_none x) (got_locks_are_taken (at new.memory) s wants steps (inr t.1.1)
              found) in record {
                view = x;
                takes = takes;
                leads = transactions_may_begin s wants x is
                    (subst (λ (f : Fields). has_unplaced f.shape f.pool wants ≡ false) rests.fields
                    t.0.placed)
                    (subst (λ (f : Fields). length f.locks + length (to_take s wants) ≤ 64)
                    rests.fields t.0.few) takes;
                memory = found.memory;
                fields = grown_at x (after_all s.view steps) (to_take s wants) (to_take s wants)
                    (waits_taken s.view (to_take s wants) steps t.1.1) found.stays t.2
                    ∙ ap (λ (ls : List HeldLock). at_rest (with_locks ls (moved s x)))
                    (sym none_raised.0);
              }

    pub was_begun : (may : View → Step → Type 0)
        → ((v : View) (st : Step) → Allowed v st → may v st) → (last : M)
        → AcquiredAs at (to_take s wants) wants s.view mid new (Ok tt)
        → Made may (at new.memory) (at last) (Tell (Begin wants) None)
        → WasBegun at (record new { memory = last; level = 1; stage = stage.Work }) s wants
    was_begun may grants last t told = let h = taken_so t in record {
      view = h.view;
      takes = h.takes;
      leads = h.leads;
      works = record {
        memory = (told h.view h.memory (grants h.view (Tell (Begin wants) None) h.leads.allowed)).0;
        fields = ap (λ (f : Fields). record f { level = 1; stage = stage.Work }) h.fields;
      };
    }

    pub may_tell : AcquiredAs at (to_take s wants) wants s.view mid new (Ok tt) → (v : View)
        × at new.memory v × Allowed v (Tell (Begin wants) None)
    may_tell t = let h = taken_so t in (h.view, h.memory, h.leads.allowed)

    -- ---- it stopped as it waited
    pub wait_was_stopped : AcquiredAs at (to_take s wants) wants s.view mid new
        (Err refusal.Stopped) → WaitWasStopped at (record new { stopped = true }) s wants
    wait_was_stopped t = let l = t.1.1 in record {
      few = subst (λ (f : Fields). length f.locks + length (to_take s wants) ≤ 64) rests.fields
          t.0.few;
      placed = subst (λ (f : Fields). has_unplaced f.shape f.pool wants ≡ false) rests.fields
          t.0.placed;
      count = l.0;
      low = l.1;
      steps = l.2.0;
      waits = l.2.2;
      refused = l.2.1;
      memory = l.2.3;
      found = l.2.4;
      fields = ap (λ (f : Fields). record f { stopped = true })
          (grown (take l.0 (to_take s wants)) l.3);
    }

    -- ---- it is refused
    pub record HasTried (r : Refusal) : Type 0 where
      pub all : List HeldLock
      pub view : View
      pub tried : TriedLocks s wants all view
      pub seen : Seen
      pub unspent : seen.spent ≡ false
      pub unbusy : seen.busy ≡ false
      pub first : first_of (locking_tests seen s wants) ≡ Some r
      pub missing : (off : ℕ) → is_among seen.missing off ≡ true → (line : ℕ)
          × (off ≡ 64 * line + 64) × IsMissed s.view line view
      pub memory : at new.memory view
      pub fields : fields_of new ≡ at_rest (with_locks all (moved s view))

    none_among : (off : ℕ) → is_among [] off ≡ true → ⊥
    none_among off e = both_ways (is_among [] off) refl e

    -- before it tried any
    none_tried : (r : Refusal) → new ≡ mid → first_of (locking_tests unseen s wants) ≡ Some r
        → HasTried r
    none_tried r same first = record {
      all = s.locks ++ [];
      view = s.view;
      tried = none_looked s wants 0 s.view refl (λ n there. there) (quiet_none s.view);
      seen = unseen;
      unspent = refl;
      unbusy = refl;
      first = first;
      missing = λ off e. absurd (none_among off e);
      memory = subst (λ (l : Lane M). at l.memory s.view) (sym same) rests.memory;
      fields = ap (λ (l : Lane M). fields_of l) same
          ∙ (rests.fields ∙ ap (λ (ls : List HeldLock). at_rest (with_locks ls s))
          (sym (append-nil s.locks)));
    }

    pub tried_so : (r : Refusal) → AcquiredAs at (to_take s wants) wants s.view mid new (Err r)
        → r ≢ refusal.Stopped → HasTried r
    tried_so refusal.LocksFull t goes = none_tried refusal.LocksFull t.1
        (wants_.full_first s wants unseen (subst (λ (f : Fields). 64 < length f.locks + length
        (to_take s wants)) rests.fields t.0))
    tried_so refusal.NoObject t goes = ⊎_elim
        (λ (u : RefusedUnplaced (to_take s wants) wants mid new). none_tried refusal.NoObject u.2
        (wants_.unplaced_first s wants unseen
        (subst (λ (f : Fields). length f.locks + length (to_take s wants) ≤ 64) rests.fields u.0)
        (subst (λ (f : Fields). has_unplaced f.shape f.pool wants ≡ true) rests.fields u.1)))
        (λ (u : ArePlanned (to_take s wants) wants mid
        × ((steps : List Step) × AreWaits (to_take s wants) steps
        × FindsNone (at new.memory) (after_all s.view steps) mid.shape (to_take s wants))
        × HasGrown (to_take s wants) mid new).
        one_missed (subst (λ (f : Fields). length f.locks + length (to_take s wants) ≤ 64)
        rests.fields u.0.few) (subst (λ (f : Fields). has_unplaced f.shape f.pool wants ≡
        false) rests.fields u.0.placed)
        u.1.0 u.1.1 (subst (λ (f : Fields). FindsNone (at new.memory) (after_all s.view u.1.0)
        f.shape (to_take s wants)) rests.fields u.1.2) u.2)
        t
      where
        one : (b : Bool) → (b || false) ≡ true → b ≡ true
        one true e = refl
        one false e = e

        positive : (n : ℕ) → n ≢ 0 → 1 ≤ n
        positive n ne = omega (arith, ne)

        can : CanLock s
        can = opened_lanes_may_lock s is

        one_missed : length s.locks + length (to_take s wants) ≤ 64
            → has_unplaced s.view.fixed.shape s.view.fixed.pool wants ≡ false
            → (steps : List Step) → AreWaits (to_take s wants) steps
            → FindsNone (at new.memory) (after_all s.view steps) s.view.fixed.shape
            (to_take s wants) → HasGrown (to_take s wants) mid new → HasTried refusal.NoObject
        one_missed few placed steps waits missed g =
            let x : View = after_all (after_all s.view steps) missed.steps in
            let off : ℕ = 64 * (lock_at (to_take s wants) missed.before).line + 64 in
            let taken : IsTaken s.view (to_take s wants) (after_all s.view steps) = waits_taken
            s.view (to_take s wants) steps waits in
            let once : AreOnce (s.locks ++ to_take s wants) =
            (held_grow s.view (after_all s.view steps) s.view.fixed.shape s.view.fixed.pool
            s.locks [] wants (locks_may_be_wanted s can) can.holds.each taken).once in
            let high = positive (lock_at (to_take s wants) missed.before).line
            (wants_.all_at (λ (l : HeldLock). l.line ≢ 0) (to_take s wants) missed.before
            (some s wants can) missed.low) in record {
              all = s.locks ++ to_take s wants;
              view = x;
              tried = missed_locks_are_tried (at new.memory) s wants steps (inr waits) missed;
              seen = record unseen { missing = off ∷ [] };
              unspent = refl;
              unbusy = refl;
              first = wants_.missing_first s wants (record unseen { missing = off ∷ [] }) refl few
                  placed
                  (wants_.is_missing s wants off (wants_.unlisted s wants can.lists placed once
                  missed.before missed.low high false)
                  (wants_.is_wanted s wants can.lists placed once missed.before missed.low
                  high));
              missing = λ other e. (
                (lock_at (to_take s wants) missed.before).line,
                sym (eqb-true off other (one (off == other) e)),
                ⊎_elim (λ (a : MissesAt (after_all s.view steps)
                    (lock_at (to_take s wants) missed.before).line x). inl
                    (missed_before s.view (after_all s.view steps) (to_take s wants) taken
                    (lock_at (to_take s wants) missed.before).line x a))
                    (λ (a : ToldNoRun x (lock_at (to_take s wants) missed.before).line). inr a)
                    missed.misses,
              );
              memory = missed.memory;
              fields = grown_at x (after_all s.view steps) (to_take s wants) (to_take s wants)
                  taken missed.stays g;
            }
    tried_so refusal.Stopped t goes = absurd (goes refl)
    tried_so r t goes = absurd t

    module _ (r : Refusal) (h : HasTried r) where
      abbrev reply : Rattle.std.specs.Prelude.Option
          Rattle.pm_objects.specs.declared.history.Value.Value
      reply = Some (Refused r)

      leaves : (n : ℕ) → LeavesOver (with_locks h.all (moved s h.view)) (Begin wants)
          (Some (Refused r)) n
      leaves n = refused_begins_end s wants h.all h.view h.seen r n is h.tried h.unspent h.unbusy
          h.first (λ off e. let m = h.missing off e in none_there s wants h.all h.view h.tried m.0 off m.1 m.2)

      only : (n : ℕ) → gives_up (Begin wants) reply n h.view ≡ ends_call (Begin wants) reply n
          h.view
      only n = only_ends h.view (Begin wants) reply n
          (opened_none_back s wants h.all h.view is h.tried)

      pub may_end : MayEnd (at new.memory) (Begin wants) (Some (Refused r))
      unfolding MayEnd
      may_end = (h.view, h.memory, λ n. subst (Ready h.view) (only n) (leaves n).ready)

      pub begin_was_refused : (last : Lane M) (n : ℕ)
          → IsMade (at new.memory) (at last.memory) (ends_call (Begin wants) (Some (Refused r)) n)
          → fields_of last ≡ record (fields_of new) {
            level = 1;
            entries = [];
            stage = stage.OnAbort;
            error = error.Refused r;
            last = n
                + 1;
          } → BeginWasRefused at last s wants r
      unfolding Runs
      begin_was_refused last n made fields = record {
        all = h.all;
        view = h.view;
        tried = h.tried;
        seen = h.seen;
        unspent = h.unspent;
        unbusy = h.unbusy;
        first = h.first;
        missing = h.missing;
        ended = record {
          number = n;
          ready = (leaves n).ready;
          sees = record {
            memory = subst (λ (steps : List Step). at last.memory (after_all h.view steps))
                (sym (only n)) (made h.view h.memory
                (subst (Ready h.view) (only n) (leaves n).ready));
            fields = fields ∙ (ap (λ (f : Fields). record f {
              level = 1;
              entries = [];
              stage = stage.OnAbort;
              error = error.Refused r;
              last =
                  n + 1;
            }) h.fields
                ∙ ((λ i. record (given_up (error.Refused r) (moved s1 done))
                { last = (let z : n + 1 ≡ suc n = omega arith in z) i })
                ∙ ap (λ (y : View). given_up (error.Refused r) (moved s1 y))
                (sym (ap (after_all h.view) (only n)
                ∙ ended_so h.view (Begin wants) reply n))));
          };
          over = over_as (next (with_locks h.all (moved s h.view))
              (gives_up (Begin wants) reply n)) s.entries 1 (leaves n).over;
        };
      }
        where
          s1 : Standing
          s1 = at_level 1 (with_locks h.all (moved s h.view))

          done : View
          done = after (after h.view (Tell (Begin wants) (Some (Refused r)))) (Draw n)
