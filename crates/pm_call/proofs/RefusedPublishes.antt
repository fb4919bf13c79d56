-- A PUBLISH OUTSIDE A TRANSACTION, by how its parts leave the lane: the words are set, or the publish
-- is refused, and the locks are given back.
use Rattle.std.proofs.Common.{◌≡◌, ℕ, suc, ◌+◌, [], refl, sym, ap, ◌∙◌, subst, arith, Some}
use Rattle.pm_objects.specs.declared.calls.Operation.TheVariants.{Publish}
use Rattle.pm_objects.specs.declared.history.Value.TheVariants.{Refused}
use Rattle.pm_objects.specs.declared.refusal.Refusal.{Refusal}
use Rattle.pm_view.specs.View.{View}
use Rattle.pm_view.specs.Views.{after_all}
use Rattle.pm_world.specs.LaneFields.{Fields, Rests, Standing, at_rest, fields_of}
use Rattle.pm_world.specs.declared.lane.Lane.{Lane}
use Rattle.pm_lock.specs.Holding.{MayGiveAll}
use Rattle.pm_lock.specs.Locking.{GivenBack, Stands}
use Rattle.pm_lock.specs.Steps.{gives}
use Rattle.pm_lock.proofs.Holds.{gives_given}
use Rattle.pm_plan.specs.Plans.{IsMade, Runs, in_turn, one}
use Rattle.pm_call.specs.Did.{IsOver, next}
use Rattle.pm_call.specs.GivenUp.{MayEnd, with_locks}
use Rattle.pm_call.specs.Outside.{EndsRefused}
use Rattle.pm_call.specs.Plans.{ends_call}
use Rattle.pm_call.specs.Publications.{unlocked}
use Rattle.pm_call.specs.Stages.{IsBetween, closed}
use Rattle.pm_call.proofs.Closing.{closes, may_give}
use Rattle.pm_call.proofs.OverCalls.{over_as}
use Rattle.pm_call.proofs.RefusedPublications.{refused_publications_end}
use Rattle.pm_call.specs.PublicationParts.{MayRefuse, PublishRefused}

-- ---- THE LOCKS ARE GIVEN BACK once a call is over
module _ {M : Type 0} (at : M → View → Type 0) (mid : Lane M) (s : Standing) (rests : Rests at mid s)
    (over : IsOver s) where
  locks_are : mid.locks.items ≡ s.locks
  locks_are = ap (λ (f : Fields). f.locks) rests.fields

  may_all : MayGiveAll s.view mid.locks.items
  may_all = subst (MayGiveAll s.view) (sym locks_are) (may_give s over)

  pub may_unlock : Stands at mid (λ v. MayGiveAll v mid.locks.items)
  may_unlock = (s.view, rests.memory, may_all)

  pub unlocks : (new : Lane M) → GivenBack at mid new → Rests at new (unlocked s)
  unfolding GivenBack
  unlocks new gave =
      let t = gave s.view rests.memory may_all in record {
        memory = subst (λ ls. at new.memory (after_all s.view (gives ls))) locks_are t.0;
        fields = ap fields_of t.1
            ∙ ((λ i. record (rests.fields i) { locks = t.2 i })
            ∙ sym (ap (λ (w : View). at_rest (record s { view = w; locks = [] }))
            (gives_given s.view s.locks)));
      }

  pub between : s.entries ≡ [] → IsBetween (unlocked s)
  between none =
      let b = closes s over none in
      record { over = over_as (closed s) s.entries s.level b.over; unlocked = refl; unlisted = none }

-- ---- IT IS REFUSED
module _ {M : Type 0} (at : M → View → Type 0) (old : Lane M) (r : Refusal) where
  ends : (s : Standing) (n : ℕ) → MayRefuse s r → EndsRefused s Publish (Some (Refused r)) n
  ends s n m =
      refused_publications_end (with_locks [] s) s.locks m.seen r n m.opens m.unspent m.why m.missing

  pub may_tell : (s : Standing) × Rests at old s × MayRefuse s r
      → MayEnd (at old.memory) Publish (Some (Refused r))
  unfolding MayEnd
  may_tell is = (is.0.view, is.1.memory, λ n. (ends is.0 n is.2).ready)

  rests_then : (s : Standing) (n : ℕ) → at_rest (next s (ends_call Publish (Some (Refused r)) n))
      ≡ record (at_rest s) { last = suc n }
  unfolding in_turn one after_all
  rests_then s n = refl

  module _ (mid : Lane M) (n : ℕ)
      (made : IsMade (at old.memory) (at mid.memory) (ends_call Publish (Some (Refused r)) n))
      (fields : fields_of mid ≡ record (fields_of old) { last = n + 1 }) where
    rests_mid : (s : Standing) → Rests at old s → MayRefuse s r
        → Rests at mid (next s (ends_call Publish (Some (Refused r)) n))
    unfolding Runs
    rests_mid s rests m = record {
      memory = made s.view rests.memory (ends s n m).ready;
      fields = fields ∙ ((λ i. record (rests.fields i)
          { last = (let z : n + 1 ≡ suc n = omega arith in z) i }) ∙ sym (rests_then s n));
    }

    pub may_give_refused : (s : Standing) × Rests at old s × MayRefuse s r
        → Stands at mid (λ v. MayGiveAll v mid.locks.items)
    may_give_refused is = may_unlock at mid (next is.0 (ends_call Publish (Some (Refused r)) n))
        (rests_mid is.0 is.1 is.2) (ends is.0 n is.2).over

    pub refused_so : (new : Lane M) → GivenBack at mid new → PublishRefused at old new r
    unfolding PublishRefused
    refused_so new gave s rests m =
        let e = ends s n m in
        let t = next s (ends_call Publish (Some (Refused r)) n) in record {
          number = n;
          ready = e.ready;
          rests = unlocks at mid t (rests_mid s rests m) e.over new gave;
          between = between at mid t (rests_mid s rests m) e.over m.unlisted;
        }
