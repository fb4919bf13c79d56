-- What a lock inside a transaction leaves of its lane.
use Rattle.std.proofs.Common.{◌≡◌, [], ◌∷◌, Some, None, Result, Err, refl, subst}
use Rattle.pm_objects.specs.declared.calls.Operation.TheVariants.{Lock}
use Rattle.pm_objects.specs.declared.calls.Want.{Want}
use Rattle.pm_objects.specs.declared.refusal.Refusal.{Refusal}
use Rattle.pm_view.specs.View.{View}
use Rattle.pm_world.specs.declared.lane.Lane.{Lane}
use Rattle.pm_call.specs.Did.{IsAt, IsAtSo, work_refusal}
use Rattle.pm_call.specs.LockOps.{LockedAs, LockedWanted}
use Rattle.pm_call.specs.Locking.{IsLocking}
use Rattle.pm_call.proofs.LockOps.{level_is}
use Rattle.pm_tx.specs.Locks.{DidLock, DidLockSo}

module _ {M : Type 0} (at : M → View → Type 0) (old : Lane M) (want : Want) where
  -- refused for its stage
  pub lock_refused : (r : Refusal) → Some r ≡ work_refusal old → DidLock at old old (Lock want) (want ∷ []) (Err r)
  unfolding DidLock
  lock_refused r e = subst (λ o. DidLockSo o at old old (Lock want) (want ∷ []) (Err r)) e (refl, refl)

  pub may_lock : IsAt at old → IsAtSo at old (λ s. IsLocking (Lock want) (want ∷ []) s.level old.level)
  may_lock is = record { standing = is.standing; works = is.works; stands = is.stands; holds = (refl, level_is at old is.standing is.works) }

  pub did_lock : (new : Lane M) (result : Result (Unit {0}) Refusal) → None ≡ work_refusal old → LockedWanted at old new (Lock want) (want ∷ []) old.level result → DidLock at old new (Lock want) (want ∷ []) result
  unfolding DidLock LockedWanted
  did_lock new result e locked = subst (λ o. DidLockSo o at old new (Lock want) (want ∷ []) result) e
      (λ s works is. subst (λ n. LockedAs at new s (Lock want) (want ∷ []) n result) (level_is at old s works) (locked s works is))
