-- What locking objects, for a lock or for a begin of an inner level, leaves of its lane.
use Rattle.std.proofs.Common.{◌≡◌, ◌≢◌, ℕ, ◌+◌, ◌<◌, ◌≤◌, inl, inr, List, Some, None, Result, Ok, Err, refl, sym, ap, ◌∙◌, subst}
use Rattle.pm_memory.specs.Runs.{Made}
use Rattle.pm_objects.specs.declared.calls.Operation.{Operation}
use Rattle.pm_objects.specs.declared.calls.Operation.TheVariants.{Begin, Lock}
use Rattle.pm_objects.specs.declared.calls.Want.{Want}
use Rattle.pm_objects.specs.declared.history.TxErr.TheVariants as error
use Rattle.pm_objects.specs.declared.history.Value.TheVariants.{Refused}
use Rattle.pm_objects.specs.declared.refusal.Refusal.{Refusal}
use Rattle.pm_objects.specs.declared.refusal.Refusal.TheVariants as refusal
use Rattle.pm_view.specs.Steps.{Step}
use Rattle.pm_view.specs.Steps.Step.{Tell}
use Rattle.pm_view.specs.View.{Told, View}
use Rattle.pm_view.specs.Views.{actions_told}
use Rattle.pm_world.specs.LaneFields.{Fields, Standing, Works, at_work, listed, moved}
use Rattle.pm_world.specs.Lawful.{Allowed}
use Rattle.pm_world.specs.declared.lane.HeldLock.{HeldLock}
use Rattle.pm_world.specs.declared.lane.Lane.{Lane}
use Rattle.pm_call.specs.At.{At, IsAtWith}
use Rattle.pm_call.specs.Did.{IsAt, IsAtSo}
use Rattle.pm_call.specs.GivenUp.{GivesUp, GivesUpFor, IsAtBut, Refuses, WasGivenUp, with_locks}
use Rattle.pm_call.specs.LockOps.{BeganInner, LockedAs, LockedWanted}
use Rattle.pm_call.specs.Locking.{IsLocking, LeadsLocks, MayLock, TakesLocks, locks_with}
use Rattle.pm_call.specs.WantedTaken.{RefusesWants, WantedTaken}
use Rattle.pm_call.specs.WantedTried.{AreFew, IsPlaced}
use Rattle.pm_call.proofs.MissedObjects.{none_there}
use Rattle.pm_call.proofs.LockRefusals.{deep_begins_give_up, refused_locks_give_up}
use Rattle.pm_call.proofs.LockedObjects.{objects_may_be_locked}
use Rattle.pm_call.proofs.TriedLocks.{tried_locks_leave_work}

-- neither a lock nor a begin is pending
unlisted : (op : Operation) (wants : List Want) (level next : ℕ) → IsLocking op wants level next → (actions : List Told) → actions_told op None actions ≡ actions
unlisted (Lock want) wants level next is actions = refl
unlisted (Begin these) wants level next is actions = refl
unlisted op wants level next is actions = absurd is

module _ {M : Type 0} (at : M → View → Type 0) (old : Lane M) where
  -- the level is the lane's
  pub level_is : (s : Standing) → Works at old s → old.level ≡ s.level
  level_is s works = ap (λ (f : Fields). f.level) works.fields

  module _ (op : Operation) (wants : List Want) (level : ℕ) where
    abbrev Here : Type 0
    Here = IsAtSo at old (λ s. IsLocking op wants s.level level)

    is_locking : Here → (s : Standing) → Works at old s → IsLocking op wants s.level level
    is_locking here s works = subst (λ n. IsLocking op wants n level) (sym (level_is here.standing here.works) ∙ level_is s works) here.holds

    -- ---- the locks are taken, and the operation is told
    module _ (s : Standing) (is : At s) (locks : IsLocking op wants s.level level) (few : AreFew s wants) (placed : IsPlaced s wants) (x : View) (takes : TakesLocks s wants x) where
      may : MayLock s op wants level
      may = record { is = locks; placed = placed; few = few }

      leads : LeadsLocks s op wants level x
      leads = objects_may_be_locked s op wants level x is may takes

    pub may_tell : (mid : Lane M) (done : Unit {0}) → Here → WantedTaken at old mid wants (Ok done) → (v : View) × at mid.memory v × Allowed v (Tell op None)
    unfolding WantedTaken
    may_tell mid done here taken =
        let s = here.standing in
        let t = taken s here.works here.stands in
        (t.2.0, t.2.2.memory, (leads s here.stands here.holds t.0 t.1 t.2.0 t.2.1.takes).allowed)

    pub locked_wanted : (mid : Lane M) (may : View → Step → Type 0) → ((v : View) (n : Step) → Allowed v n → may v n) → (new : M) (done end : Unit {0}) → Here → WantedTaken at old mid wants (Ok done)
        → Made may (at mid.memory) (at new) (Tell op None) → LockedWanted at old (record mid { memory = new; level = level }) op wants level (Ok end)
    unfolding WantedTaken LockedWanted
    locked_wanted mid grants_ grants new done end here taken told s works is =
        let locks = is_locking here s works in
        let t = taken s works is in
        let x : View = t.2.0 in
        let l = leads s is locks t.0 t.1 x t.2.1.takes in (
          x,
          t.2.1,
          may s is locks t.0 t.1 x t.2.1.takes,
          l.unrefused,
          record {
            memory = (told x t.2.2.memory (grants x (Tell op None) l.allowed)).0;
            fields = (λ i. record (t.2.2.fields i) { level = level })
                ∙ (λ i. record (at_work (record s { view = x; locks = locks_with s wants; level = level })) { pending = listed (sym (unlisted op wants s.level level locks x.actions) i) });
          },
          l.stands,
        )

    -- ---- one is refused, and the transaction is given up
    module _ (s : Standing) (is : At s) (locks : IsLocking op wants s.level level) (r : Refusal) (why : RefusesWants s wants r) where
      abbrev pub left : Standing
      left = moved s why.view

      left_works : IsAtWith left left.level why.all
      left_works = tried_locks_leave_work s wants why.all why.view is why.tried

      gives : GivesUp left op (Some (Refused r))
      gives = refused_locks_give_up left why.all op wants level why.seen r left_works locks why.first why.busy
          (λ off e. let m = why.missing off e in none_there s wants why.all why.view why.tried m.0 off m.1 m.2)

    pub may_refuse : (mid : Lane M) (r : Refusal) → Here → WantedTaken at old mid wants (Err r) → IsAtBut at mid (λ s. GivesUp s op (Some (Refused r)))
    unfolding WantedTaken
    may_refuse mid r here taken =
        let s = here.standing in
        let t = taken s here.works here.stands in
        record { standing = left s here.stands here.holds r t.0; locks = t.0.all; works = t.1; stands = left_works s here.stands here.holds r t.0; holds = gives s here.stands here.holds r t.0 }

    module _ (mid new : Lane M) where
      gave_up : (r answer : Refusal) (s : Standing) (locks : List HeldLock) → r ≢ refusal.Stopped → Refuses at mid new op r answer → Works at mid (with_locks locks s) → IsAtWith s s.level locks → GivesUp s op (Some (Refused r))
          → GivesUpFor at new op r answer (with_locks locks s)
      unfolding Refuses
      gave_up refusal.Stopped answer s locks goes refuses works is gives_ = absurd (goes refl)
      gave_up r answer s locks goes refuses works is gives_ = refuses s locks works is gives_

      refused_as : (s : Standing) (r answer : Refusal) (why : RefusesWants s wants r) → GivesUpFor at new op r answer (with_locks why.all (moved s why.view)) → LockedAs at new s op wants level (Err answer)
      refused_as s r refusal.Stopped why gave = (r, why, gave.0, gave.1)
      refused_as s r answer why gave = subst (λ (z : Refusal). (other : RefusesWants s wants z) × WasGivenUp at new (with_locks other.all (moved s other.view)) op (Some (Refused z)) (error.Refused z)) (sym gave.0) (why, gave.1)

      pub wanted_refused : (r answer : Refusal) → Here → WantedTaken at old mid wants (Err r) → Refuses at mid new op r answer → LockedWanted at old new op wants level (Err answer)
      unfolding WantedTaken LockedWanted
      wanted_refused r answer here taken refuses s works is =
          let locks = is_locking here s works in
          let t = taken s works is in
          refused_as s r answer t.0 (gave_up r answer (left s is locks r t.0) t.0.all t.0.unstopped refuses t.1 (left_works s is locks r t.0) (gives s is locks r t.0))

  -- ---- a begin inside of a transaction
  module _ (wants : List Want) where
    pub may_refuse_deep : IsAt at old → 64 ≤ old.level → IsAtBut at old (λ s. GivesUp s (Begin wants) (Some (Refused refusal.Deep)))
    may_refuse_deep here deep =
        let s = here.standing in
        record { standing = s; locks = s.locks; works = here.works; stands = here.stands; holds = deep_begins_give_up s wants here.stands (subst (λ n. 64 ≤ n) (level_is s here.works) deep) }

    pub began_deep : (new : Lane M) (answer : Refusal) → 64 ≤ old.level → Refuses at old new (Begin wants) refusal.Deep answer → BeganInner at old new wants (Err answer)
    unfolding Refuses BeganInner
    began_deep new answer deep refuses s works is =
        let deeper = subst (λ n. 64 ≤ n) (level_is s works) deep in
        inl (deeper, refuses s s.locks works is (deep_begins_give_up s wants is deeper))

    pub may_begin : IsAt at old → old.level < 64 → IsAtSo at old (λ s. IsLocking (Begin wants) wants s.level (old.level + 1))
    may_begin here low =
        let s = here.standing in
        record { standing = s; works = here.works; stands = here.stands; holds = (refl, ap (λ n. n + 1) (level_is s here.works), subst (λ n. n < 64) (level_is s here.works) low) }

    pub began_inner : (new : Lane M) (result : Result (Unit {0}) Refusal) → old.level < 64 → LockedWanted at old new (Begin wants) wants (old.level + 1) result → BeganInner at old new wants result
    unfolding LockedWanted BeganInner
    began_inner new result low locked s works is =
        let e = level_is s works in
        inr (subst (λ n. n < 64) e low, subst (λ n. LockedAs at new s (Begin wants) wants (n + 1) result) e (locked s works is))
