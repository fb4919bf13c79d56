-- A PUBLISH OUTSIDE A TRANSACTION, by what opening its call came to.
use Rattle.std.proofs.Common.{◌≡◌, ℕ, zero, suc, ◌<◌, true, false, refl, sym, subst, arith, Result, Ok, Err}
use Rattle.pm_objects.specs.declared.refusal.Refusal.{Refusal}
use Rattle.pm_objects.specs.declared.refusal.Refusal.TheVariants as refusal
use Rattle.pm_view.specs.View.{View}
use Rattle.pm_world.specs.LaneFields.{Rests, Standing}
use Rattle.pm_world.specs.declared.lane.Lane.{Lane}
use Rattle.pm_call.specs.Between.{IsLaneBetween, MayOpen, saw_number}
use Rattle.pm_call.specs.Opening.{AfterOpening, CallOpened, WasOpened}
use Rattle.pm_action.specs.Publications.{IsLaneOpen, PublishedAloneAs, PublishedBy, PublishedOpen, PublishedOpenAs, PublishedOutside}

module _ {M : Type 0} (at : M → View → Type 0) (old : Lane M) where
  pub had_stopped : old.stopped ≡ true → PublishedOutside at old old (Err refusal.Stopped)
  unfolding PublishedOutside
  had_stopped e = subst (λ b. PublishedBy b old.level at old old (Err refusal.Stopped)) (sym e)
      (refl, refl)

  pub in_transaction : old.stopped ≡ false → 0 < old.level
      → PublishedOutside at old old (Err refusal.InTx)
  unfolding PublishedOutside
  in_transaction e low = subst (λ b. PublishedBy b old.level at old old (Err refusal.InTx)) (sym e)
      (by old.level low)
    where
      by : (n : ℕ) → 0 < n → PublishedBy false n at old old (Err refusal.InTx)
      by zero low = absurd (omega (arith, low))
      by (suc n) low = (refl, refl)

  module _ (running : old.stopped ≡ false) (outside : old.level ≡ 0) where
    here : (new : Lane M) (result : Result (Unit {0}) Refusal)
        → PublishedBy false zero at old new result → PublishedOutside at old new result
    unfolding PublishedOutside
    here new result p = subst (λ b. PublishedBy b old.level at old new result) (sym running)
        (subst (λ n. PublishedBy false n at old new result) (sym outside) p)

    pub unopened : (new : Lane M) (why : Refusal) (result : Result (Unit {0}) Refusal)
        → result ≡ Err why → CallOpened at old new (Err why) → PublishedOutside at old new result
    unfolding CallOpened
    unopened new why result is opened = subst (PublishedOutside at old new) (sym is)
        (here new (Err why) (by why opened))
      where
        by : (r : Refusal) → ((s : Standing) → Rests at old s → MayOpen s
            → Rattle.pm_call.specs.Opening.OpenedAs at new (Err r) s)
            → PublishedBy false zero at old new (Err r)
        by refusal.Spent opens s rests may = opens s rests may
        by r opens s rests may = absurd (opens s rests may)

    module _ (mid : Lane M) (opened : CallOpened at old mid (Ok tt)) where
      open_at : (s : Standing) → Rests at old s → MayOpen s → WasOpened at mid s
      unfolding CallOpened
      open_at s rests may = opened s rests may

      pub is_open : IsLaneBetween at old → IsLaneOpen at mid
      is_open lane =
          let w = open_at lane.standing lane.rests lane.between in record {
            standing = saw_number lane.standing w.number;
            rests = w.rests;
            opened = w.opened;
          }

      alone_as : (new : Lane M) (result : Result (Unit {0}) Refusal) (s : Standing)
          → AfterOpening s (PublishedOpenAs at new result) → PublishedAloneAs at new result s
      alone_as new (Ok done) s a = a
      alone_as new (Err refusal.Spent) s a = absurd a.holds
      alone_as new (Err r) s a = a

      pub published : (new : Lane M) (result : Result (Unit {0}) Refusal)
          → PublishedOpen at mid new result → PublishedOutside at old new result
      unfolding PublishedOpen
      published new result did = here new result (λ s rests may.
          let w = open_at s rests may in
          alone_as new result s (record {
            number = w.number;
            opened = w.opened;
            holds = did (saw_number s w.number) w.rests w.opened;
          }))
