-- WHAT THE BEGIN OF AN OUTERMOST LEVEL leaves of a lane.
use Rattle.std.proofs.Common.{◌≡◌, ◌≢◌, ℕ, ◌+◌, true, List, [], refl, sym, subst, None, Some, Result, Ok, Err}
use Rattle.pm_memory.specs.Runs.{Made}
use Rattle.pm_model.specs.declared.stage.Stage.TheVariants as stage
use Rattle.pm_objects.specs.declared.calls.Operation.TheVariants.{Begin}
use Rattle.pm_objects.specs.declared.calls.Want.{Want}
use Rattle.pm_objects.specs.declared.history.TxErr.TheVariants as error
use Rattle.pm_objects.specs.declared.history.Value.TheVariants.{Refused}
use Rattle.pm_objects.specs.declared.refusal.Refusal.{Refusal}
use Rattle.pm_objects.specs.declared.refusal.Refusal.TheVariants as refusal
use Rattle.pm_view.specs.Steps.{Step}
use Rattle.pm_view.specs.Steps.Step.{Tell}
use Rattle.pm_view.specs.View.{View}
use Rattle.pm_world.specs.LaneFields.{Rests, Standing, fields_of}
use Rattle.pm_world.specs.Lawful.{Allowed}
use Rattle.pm_world.specs.declared.lane.HeldLock.{HeldLock}
use Rattle.pm_world.specs.declared.lane.Lane.{Lane}
use Rattle.pm_lock.specs.Acquiring.{Acquired, AcquiredAs, CanAcquire}
use Rattle.pm_plan.specs.Plans.{IsMade}
use Rattle.pm_call.specs.GivenUp.{MayEnd}
use Rattle.pm_call.specs.Locking.{to_take}
use Rattle.pm_call.specs.Between.{IsLaneBetween, MayOpen, saw_number}
use Rattle.pm_call.specs.Opening.{CallOpened, OpenedAs, OutermostBegun, OutermostBegunAs, WasOpened}
use Rattle.pm_call.specs.Plans.{ends_call}
use Rattle.pm_call.proofs.WaitedLocks.{begin_was_refused, can_acquire, may_end, may_tell, plan_is, tried_so, wait_was_stopped, was_begun}

-- ---- THE BEGIN, once the call was opened
module _ {M : Type 0} (at : M → View → Type 0) (old : Lane M) (wants : List Want) (mid : Lane M)
    (opens : CallOpened at old mid (Ok tt)) where
  opened_at : (s : Standing) → Rests at old s → MayOpen s → WasOpened at mid s
  unfolding CallOpened
  opened_at s rests between = opens s rests between

  pub may_lock : IsLaneBetween at old → (v : View) × CanAcquire at mid [] v
  may_lock lane = let w = opened_at lane.standing lane.rests lane.between in (
    (saw_number lane.standing w.number).view,
    can_acquire at mid wants
        (saw_number lane.standing w.number) w.rests w.opened,
  )

  module _ (new : Lane M) where
    got_at : (result : Result (Unit {0}) Refusal) → Acquired at [] wants mid new result
        → (s : Standing) (w : WasOpened at mid s)
        → AcquiredAs at (to_take (saw_number s w.number) wants) wants (saw_number s w.number).view
        mid new result
    unfolding Acquired
    got_at result got s w = let o = saw_number s w.number in
        subst (λ (plan : List HeldLock). AcquiredAs at plan wants o.view mid new result)
        (plan_is at mid wants o w.rests w.opened)
        (got o.view (can_acquire at mid wants o w.rests w.opened))

    pub may_tell_begin : IsLaneBetween at old → Acquired at [] wants mid new (Ok tt) → (v : View)
        × at new.memory v × Allowed v (Tell (Begin wants) None)
    may_tell_begin lane got = let w = opened_at lane.standing lane.rests lane.between in
        may_tell at mid wants (saw_number lane.standing w.number) w.rests w.opened new
        (got_at (Ok tt) got lane.standing w)

    pub begun_ok : (may : View → Step → Type 0)
        → ((v : View) (st : Step) → Allowed v st → may v st) → (last : M)
        → Acquired at [] wants mid new (Ok tt)
        → Made may (at new.memory) (at last) (Tell (Begin wants) None)
        → OutermostBegun at old (record new { memory = last; level = 1; stage = stage.Work })
        wants (Ok tt)
    unfolding OutermostBegun
    begun_ok may grants last got told s rests between = let w = opened_at s rests between in
        record {
          number = w.number;
          opened = w.opened;
          holds = was_begun at mid wants (saw_number s w.number) w.rests w.opened new may grants last
              (got_at (Ok tt) got s w) told;
        }

    pub begun_stopped : (last : Lane M) (why answer : Refusal) → why ≡ refusal.Stopped
        → Acquired at [] wants mid new (Err why) → answer ≡ refusal.Stopped
        → last ≡ record new { stopped = true } → OutermostBegun at old last wants (Err answer)
    unfolding OutermostBegun
    begun_stopped last why answer stopped got is same = subst
        (λ (r : Refusal). OutermostBegun at old last wants (Err r)) (sym is)
        (subst (λ (l : Lane M). OutermostBegun at old l wants (Err refusal.Stopped)) (sym same)
        (λ s rests between. let w = opened_at s rests between in record {
          number = w.number;
          opened = w.opened;
          holds = wait_was_stopped at mid wants (saw_number s w.number) w.rests w.opened new
              (got_at (Err refusal.Stopped) (subst
              (λ (r : Refusal). Acquired at [] wants mid new (Err r)) stopped got) s w);
        }))

    pub may_refuse : IsLaneBetween at old → (r : Refusal) → r ≢ refusal.Stopped
        → Acquired at [] wants mid new (Err r)
        → MayEnd (at new.memory) (Begin wants) (Some (Refused r))
    may_refuse lane r goes got =
        let w = opened_at lane.standing lane.rests lane.between in
        let o = saw_number lane.standing w.number in
        may_end at mid wants o w.rests w.opened new r
        (tried_so at mid wants o w.rests w.opened new r (got_at (Err r) got lane.standing w)
        goes)

    module _ (last : Lane M) (n : ℕ) where
      refused_as : (r : Refusal) → r ≢ refusal.Stopped
          → IsMade (at new.memory) (at last.memory) (ends_call (Begin wants) (Some (Refused r)) n)
          → fields_of last ≡ record (fields_of new) {
            level = 1;
            entries = [];
            stage = stage.OnAbort;
            error = error.Refused r;
            last = n
                + 1;
          }
          → (s : Standing) (w : WasOpened at mid s)
          → AcquiredAs at (to_take (saw_number s w.number) wants) wants
          (saw_number s w.number).view mid new (Err r)
          → OutermostBegunAs at last wants (Err r) s
      refused_as refusal.LocksFull goes made fields s w t = let o = saw_number s w.number in
          record {
            number = w.number;
            opened = w.opened;
            holds = begin_was_refused at mid wants o w.rests w.opened new refusal.LocksFull
                (tried_so at mid wants o w.rests w.opened new refusal.LocksFull t goes) last n made
                fields;
          }
      refused_as refusal.NoObject goes made fields s w t = let o = saw_number s w.number in record {
        number = w.number;
        opened = w.opened;
        holds = begin_was_refused at mid wants o w.rests w.opened new refusal.NoObject
            (tried_so at mid wants o w.rests w.opened new refusal.NoObject t goes) last n made
            fields;
      }
      refused_as refusal.Stopped goes made fields s w t = absurd (goes refl)
      refused_as r goes made fields s w t = absurd t

      pub begun_refused : (r : Refusal) → r ≢ refusal.Stopped
          → Acquired at [] wants mid new (Err r)
          → IsMade (at new.memory) (at last.memory) (ends_call (Begin wants) (Some (Refused r)) n)
          → fields_of last ≡ record (fields_of new) {
            level = 1;
            entries = [];
            stage = stage.OnAbort;
            error = error.Refused r;
            last = n
                + 1;
          } → OutermostBegun at old last wants (Err r)
      unfolding OutermostBegun
      begun_refused r goes got made fields s rests between = let w = opened_at s rests between in
          refused_as r goes made fields s w (got_at (Err r) got s w)

-- ---- or it was not, as no number is left
pub begun_spent : {M : Type 0} (at : M → View
    → Type 0) (old new : Lane M) (wants : List Want) (r : Refusal)
    (result : Result (Unit {0}) Refusal) → result ≡ Err r → CallOpened at old new (Err r)
    → OutermostBegun at old new wants result
unfolding CallOpened OutermostBegun
begun_spent at old new wants r result is opens = subst (OutermostBegun at old new wants) (sym is)
    (λ s rests between. by r s (opens s rests between)) where
      by : (r : Refusal) (s : Standing) → OpenedAs at new (Err r) s
          → OutermostBegunAs at new wants (Err r) s
      by refusal.Spent s none = none
      by r s none = absurd none
