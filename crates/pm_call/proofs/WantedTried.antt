-- TRYING THE LOCKS THAT ARE WANTED leaves a lane at work with those that it got.
use Rattle.std.specs.Prelude.{take}
use Rattle.std.proofs.Common.{◌≡◌, ⊎_elim, inl, inr, ℕ, ◌+◌, ◌<◌, ◌≤◌, true, false, List, [], ◌∷◌, ◌++◌, length, refl, sym, ap, ◌∙◌, subst, Result, Ok, Err}
use Rattle.pm_objects.specs.declared.calls.Want.{Want}
use Rattle.pm_objects.specs.declared.refusal.Refusal.{Refusal}
use Rattle.pm_objects.specs.declared.refusal.Refusal.TheVariants as refusal
use Rattle.pm_view.specs.View.{View}
use Rattle.pm_view.specs.Views.{after_all}
use Rattle.pm_world.specs.LaneFields.{Fields, Standing, Works, at_work, fields_of}
use Rattle.pm_world.specs.declared.lane.HeldLock.{HeldLock}
use Rattle.pm_world.specs.declared.lane.Lane.{Lane}
use Rattle.pm_lock.specs.Acquiring.{CanAcquire, FindsAll, FindsNone, MayWant, TriedObjects, TriedObjectsAs}
use Rattle.pm_lock.specs.Acquiring as acquiring
use Rattle.pm_lock.specs.Holding.{IsTaken}
use Rattle.pm_lock.specs.Locking.{HasGrown, lock_at}
use Rattle.pm_lock.specs.Objects.{HasLooked}
use Rattle.pm_lock.specs.Steps.{takes, tries}
use Rattle.pm_lock.specs.Wants.{has_unplaced, wanted}
use Rattle.pm_lock.proofs.Holds.{tries_taken}
use Rattle.pm_lock.proofs.Stays.{stays_here}
use Rattle.pm_call.specs.At.{At}
use Rattle.pm_call.specs.Did.{IsAt}
use Rattle.pm_call.specs.Locking.{to_take}
use Rattle.pm_call.specs.WantedTried.{WantedTried, WantedTriedAs, WorksWith, got_all}
use Rattle.pm_call.proofs.LocksGot.{busy_taken}
use Rattle.pm_call.proofs.TakenLocks.{can_lock, locks_may_be_wanted}

module _ {M : Type 0} (at : M → View → Type 0) (old : Lane M) (wants : List Want) where
  can_acquire : (s : Standing) → Works at old s → At s → CanAcquire at old [] s.view
  can_acquire s works stands = record {
    memory = works.memory;
    may = subst (λ (f : Fields). MayWant s.view f.shape f.locks []) (sym works.fields) (locks_may_be_wanted s (can_lock s stands));
  }

  pub may_try : IsAt at old → (v : View) × CanAcquire at old [] v
  may_try is = (is.standing.view, can_acquire is.standing is.works is.stands)

  module _ (new : Lane M) (s : Standing) (works : Works at old s) where
    -- the fields, but the locks, are as they were
    grown : (more : List HeldLock) → HasGrown more old new → fields_of new ≡ record (at_work s) { locks = s.locks ++ more }
    grown more g = ap (λ (l : Lane M). fields_of l) g.0 ∙ (ap (λ ls. record (fields_of old) { locks = ls }) g.1 ∙ ap (λ (f : Fields). record f { locks = f.locks ++ more }) works.fields)

    here : new ≡ old → Works at new s
    here e = subst (λ (l : Lane M). Works at l s) (sym e) works

    works_with : (x y : View) (got more : List HeldLock) → IsTaken s.view got y → HasLooked y x → at new.memory x → HasGrown more old new → WorksWith at new s x more
    works_with x y got more taken looked memory g = record {
      memory = memory;
      fields = grown more g ∙ subst (λ (u : View). record (at_work s) { locks = s.locks ++ more } ≡ at_work (record s { view = u; locks = s.locks ++ more }))
          (sym (looked.same ∙ ap (λ (u : View). record u { claims = x.claims }) taken)) refl;
    }

    plan_is : acquiring.to_take old [] wants ≡ to_take s wants
    plan_is = ap (λ (f : Fields). wanted f.shape f.pool f.locks [] wants) works.fields

    tried_as : (result : Result (Unit {0}) Refusal) → TriedObjectsAs at (to_take s wants) wants s.view old new result → WantedTriedAs at new s wants result
    tried_as (Ok done) t = (
      subst (λ (f : Fields). length f.locks + length (to_take s wants) ≤ 64) works.fields t.0.few,
      subst (λ (f : Fields). has_unplaced f.shape f.pool wants ≡ false) works.fields t.0.placed,
      all_found (subst (λ (f : Fields). FindsAll (at new.memory) (got_all s wants) f.shape (to_take s wants)) works.fields t.1) t.2,
    )
      where
        all_found : (found : FindsAll (at new.memory) (got_all s wants) s.view.fixed.shape (to_take s wants)) → HasGrown (to_take s wants) old new
            → (found : FindsAll (at new.memory) (got_all s wants) s.view.fixed.shape (to_take s wants)) × WorksWith at new s (after_all (got_all s wants) found.steps) (to_take s wants)
        all_found found g = (found, works_with (after_all (got_all s wants) found.steps) (got_all s wants) (to_take s wants) (to_take s wants) (tries_taken s.view (to_take s wants)) found.stays found.memory g)
    tried_as (Err refusal.LocksFull) t = (subst (λ (f : Fields). 64 < length f.locks + length (to_take s wants)) works.fields t.0, here t.1)
    tried_as (Err refusal.NoObject) t = ⊎_elim
        (λ (u : acquiring.RefusedUnplaced (to_take s wants) wants old new). inl (
          subst (λ (f : Fields). length f.locks + length (to_take s wants) ≤ 64) works.fields u.0,
          subst (λ (f : Fields). has_unplaced f.shape f.pool wants ≡ true) works.fields u.1,
          here u.2,
        ))
        (λ (u : acquiring.ArePlanned (to_take s wants) wants old × FindsNone (at new.memory) (after_all s.view (tries (to_take s wants))) old.shape (to_take s wants) × HasGrown (to_take s wants) old new). inr (
          subst (λ (f : Fields). length f.locks + length (to_take s wants) ≤ 64) works.fields u.0.few,
          subst (λ (f : Fields). has_unplaced f.shape f.pool wants ≡ false) works.fields u.0.placed,
          one_missed (subst (λ (f : Fields). FindsNone (at new.memory) (got_all s wants) f.shape (to_take s wants)) works.fields u.1) u.2,
        ))
        t
      where
        one_missed : (missed : FindsNone (at new.memory) (got_all s wants) s.view.fixed.shape (to_take s wants)) → HasGrown (to_take s wants) old new
            → (missed : FindsNone (at new.memory) (got_all s wants) s.view.fixed.shape (to_take s wants)) × WorksWith at new s (after_all (got_all s wants) missed.steps) (to_take s wants)
        one_missed missed g = (missed, works_with (after_all (got_all s wants) missed.steps) (got_all s wants) (to_take s wants) (to_take s wants) (tries_taken s.view (to_take s wants)) missed.stays missed.memory g)
    tried_as (Err refusal.Busy) t =
        let k : ℕ = t.1.0 in
        let l : HeldLock = lock_at (to_take s wants) k in
        let x : View = after_all s.view (tries (take k (to_take s wants)) ++ takes l.line l.write false ∷ []) in (
          subst (λ (f : Fields). length f.locks + length (to_take s wants) ≤ 64) works.fields t.0.few,
          subst (λ (f : Fields). has_unplaced f.shape f.pool wants ≡ false) works.fields t.0.placed,
          (k, t.1.1, works_with x x (take k (to_take s wants)) (take k (to_take s wants)) (busy_taken s.view (take k (to_take s wants)) l.line l.write) (stays_here x) t.1.2 t.1.4),
        )
    tried_as (Err r) t = absurd t

  pub wanted_tried : (new : Lane M) (result : Result (Unit {0}) Refusal) → TriedObjects at [] wants old new result → WantedTried at old new wants result
  unfolding TriedObjects WantedTried
  wanted_tried new result tried s works stands = tried_as new s works result
      (subst (λ P. TriedObjectsAs at P wants s.view old new result) (plan_is new s works) (tried s.view (can_acquire s works stands)))
