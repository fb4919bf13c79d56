-- HOW A LANE STOPS in a call that a line makes: which calls it stops in, and that it has no number there,
-- but in a commit of the outermost level and in a publish outside a transaction.
use Rattle.std.proofs.Common.{◌≡◌, ℕ, zero, suc, false, ⊎_elim, List, Option, Some, None, Err, refl, ap, ◌∙◌, subst}
use Rattle.pm_objects.specs.declared.calls.Operation.{Operation}
use Rattle.pm_objects.specs.declared.calls.Want.{Want}
use Rattle.pm_objects.specs.declared.refusal.Refusal.{Refusal}
use Rattle.pm_objects.specs.declared.refusal.Refusal.TheVariants as refusal
use Rattle.pm_view.specs.View.{View}
use Rattle.pm_plan.specs.Plans.{Plan}
use Rattle.pm_world.specs.LaneFields.{Fields, Standing}
use Rattle.pm_world.specs.declared.lane.Lane.{Lane}
use Rattle.pm_call.specs.Did.{Did, DidSo, IsAt, work_refusal}
use Rattle.pm_call.specs.Histories.{LaneHistory}
use Rattle.pm_call.specs.LockOps.{BeganInner}
use Rattle.pm_call.specs.Opening.{OutermostBegun}
use Rattle.pm_call.specs.Standing.{StandsWith}
use Rattle.pm_tx.specs.Begins.{LevelBegun, LevelBegunSo}
use Rattle.pm_tx.specs.Commits.{LevelCommitted, LevelCommittedSo, LevelEnds, OutermostEnds}
use Rattle.pm_tx.specs.Locks.{DidLock, DidLockSo}
use Rattle.pm_tx.specs.Outcome.{Aborted, AbortedAs, AbortedSo}
use Rattle.pm_tx.specs.Publishing.{Published, PublishedSo}
use Rattle.pm_action.specs.Inside.{Cancelled, CancelledAs, CancelledSo}

abbrev drawn_in : Fields → Option ℕ
drawn_in f = f.drawn

module _ {M : Type 0} (at : M → View → Type 0) (old new : Lane M) (h : LaneHistory)
    (stands : StandsWith at old h) where
  module _ (none : work_refusal old ≡ None) where
    here : IsAt at old
    here = (stands.work none).0

    -- ---- operations

    pub did_unnumbered : {T : Type 0} (op : Operation) (plan : View → Plan)
        (Is : View → T → Type 0) → Did at old new op plan Is (Err refusal.Stopped)
        → new.drawn ≡ None
    unfolding Did
    did_unnumbered {T} op plan Is did =
        let d : DidSo None at old new op plan Is (Err refusal.Stopped) =
        subst (λ w. DidSo w at old new op plan Is (Err refusal.Stopped)) none did in
        ⊎_elim
        (λ c. ap drawn_in c.1.0.fields)
        (λ c. ap drawn_in c.3.fields)
        (d here.standing here.works here.stands).holds

    pub lock_unnumbered : (op : Operation) (wants : List Want)
        → DidLock at old new op wants (Err refusal.Stopped) → new.drawn ≡ None
    unfolding DidLock
    lock_unnumbered op wants did =
        let d : DidLockSo None at old new op wants (Err refusal.Stopped) =
        subst (λ w. DidLockSo w at old new op wants (Err refusal.Stopped)) none did in
        ap drawn_in (d here.standing here.works here.stands).3.fields

    pub published_unnumbered : Published at old new (Err refusal.Stopped) → new.drawn ≡ None
    unfolding Published
    published_unnumbered did =
        let d : PublishedSo None at old new (Err refusal.Stopped) =
        subst (λ w. PublishedSo w at old new (Err refusal.Stopped)) none did in
        ap drawn_in (d here.standing here.works here.stands).holds.cut.fields

    -- ---- what ends a level, and a cancel: no refusal but the stop

    abort_by : (errnum : ℕ) (s : Standing) (r : Refusal) → AbortedAs at new errnum (Err r) s
        → (r ≡ refusal.Stopped) × (new.drawn ≡ None)
    abort_by errnum s refusal.Stopped a = (refl, ap drawn_in a.1.fields)
    abort_by errnum s r a = absurd a

    pub abort_stops : (errnum : ℕ) (r : Refusal) → Aborted at old new errnum (Err r)
        → (r ≡ refusal.Stopped) × (new.drawn ≡ None)
    unfolding Aborted
    abort_stops errnum r did =
        let d : AbortedSo None at old new errnum (Err r) =
        subst (λ w. AbortedSo w at old new errnum (Err r)) none did in
        abort_by errnum here.standing r (d here.standing here.works here.stands)

    cancel_by : (s : Standing) (r : Refusal) → CancelledAs at new (Err r) s
        → (r ≡ refusal.Stopped) × (new.drawn ≡ None)
    cancel_by s refusal.Stopped c = (refl, ap drawn_in c.1.fields)
    cancel_by s r c = absurd c

    pub cancel_stops : (r : Refusal) → Cancelled at old new (Err r)
        → (r ≡ refusal.Stopped) × (new.drawn ≡ None)
    unfolding Cancelled
    cancel_stops r did =
        let d : CancelledSo None at old new (Err r) =
        subst (λ w. CancelledSo w at old new (Err r)) none did in
        cancel_by here.standing r (d here.standing here.works here.stands)

    outermost_by : (s : Standing) (r : Refusal) → OutermostEnds at new (Err r) s
        → r ≡ refusal.Stopped
    outermost_by s refusal.Stopped ends = refl
    outermost_by s r ends = absurd ends

    level_by : (s : Standing) (r : Refusal) (n : ℕ) → s.level ≡ n → LevelEnds at new (Err r) n s
        → (r ≡ refusal.Stopped) × (s.level ≡ 1)
    level_by s r zero is ends = absurd ends
    level_by s r (suc zero) is ends = (outermost_by _ r ends.holds, is)
    level_by s r (suc (suc n)) is ends = absurd ends

    pub commit_stops : (r : Refusal) → LevelCommitted at old new (Err r)
        → (r ≡ refusal.Stopped) × (old.level ≡ 1)
    unfolding LevelCommitted
    commit_stops r did =
        let d : LevelCommittedSo None at old new (Err r) =
        subst (λ w. LevelCommittedSo w at old new (Err r)) none did in
        let s = here.standing in
        let by = level_by s r s.level refl (d s here.works here.stands) in
        (by.0, ap (λ (f : Fields). f.level) here.works.fields ∙ by.1)

    -- ---- levels that begin

    pub inner_unnumbered : (wants : List Want)
        → LevelBegun at old new wants (Err refusal.Stopped) → new.drawn ≡ None
    unfolding LevelBegun BeganInner
    inner_unnumbered wants did =
        let d : BeganInner at old new wants (Err refusal.Stopped) =
        subst (λ w. LevelBegunSo w at old new wants (Err refusal.Stopped)) none did in
        ⊎_elim
        (λ b. ap drawn_in b.1.1.fields)
        (λ b. ap drawn_in b.1.3.fields)
        (d here.standing here.works here.stands)

  pub outermost_unnumbered : (wants : List Want) → work_refusal old ≡ Some refusal.NoTx
      → old.stopped ≡ false → old.level ≡ 0
      → LevelBegun at old new wants (Err refusal.Stopped) → new.drawn ≡ None
  unfolding LevelBegun OutermostBegun
  outermost_unnumbered wants outside going none did =
      let d : OutermostBegun at old new wants (Err refusal.Stopped) =
      subst (λ w. LevelBegunSo w at old new wants (Err refusal.Stopped)) outside did in
      let b = (stands.between going none).0 in
      ap drawn_in (d b.standing b.rests b.between).holds.fields
