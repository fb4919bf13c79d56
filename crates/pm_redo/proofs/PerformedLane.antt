-- Performing a log, from how its parts leave the lane.
use Rattle.std.proofs.Common.{◌≡◌, ℕ, List, ◌++◌, refl, sym, ap, ◌∙◌, subst, rules, Result, Ok, Err, IsErr}
use Rattle.pm_memory.specs.declared.lane_mem.Stopped.{Stopped}
use Rattle.pm_memory.specs.Runs.{Stops}
use Rattle.pm_view.specs.Steps.{Step}
use Rattle.pm_view.specs.View.{View}
use Rattle.pm_view.specs.Views.{after_all, value_in}
use Rattle.pm_world.specs.declared.lane.Lane.{Lane}
use Rattle.pm_plan.proofs.Plans.{after_all-append, stops_left, stops_right}
use Rattle.pm_plan.specs.Plans.{in_turn}
use Rattle.pm_redo.specs.Plans.{applies, clears, performs, seals}
use Rattle.pm_redo.specs.Calls.{Applied, Cleared, KeepsEntries, Performed, Sealed, StandsTo}
use Rattle.pm_redo.specs.Stages.{CanApply, CanClear, CanSeal, IsApplied}
use Rattle.pm_redo.proofs.EntriesApplied.{apply_lawful}
use Rattle.pm_redo.proofs.Performed.{can_apply, can_clear}
use Rattle.pm_redo.proofs.SealStored.{seal_lawful}

module _ {M : Type 0} (at : M → View → Type 0) (old : Lane M) where
  -- where the seal leads, and what may be done there
  abbrev sealed : View → View
  sealed v = after_all v (seals v)

  may_apply : (v : View) → CanSeal v → CanApply (sealed v)
  may_apply v can = can_apply v (λ i. 0) can (sealed v) (seal_lawful v can).1

  abbrev applied : View → (ℕ → ℕ) → View
  applied v found = after_all (sealed v) (applies found (sealed v))

  may_clear : (v : View) (found : ℕ → ℕ) → CanSeal v → CanClear (applied v found)
  may_clear v found can =
      let s = (seal_lawful v can).1 in
      let t = (apply_lawful (sealed v) found (may_apply v can)).1 in
      can_clear v found can (sealed v).calls (applied v found)
      (ap (λ (y : View). value_in y (Rattle.pm_redo.specs.Stages.seal_word v)) (sym s.same)
      ∙ s.seal)
      (subst (λ y. IsApplied y found (applied v found)) s.same t)

  steps_so : (v : View) (found : ℕ → ℕ) → performs found v ≡ seals v
      ++ (applies found (sealed v) ++ clears (applied v found))
  unfolding performs in_turn
  steps_so v found = refl

  module _ (mid : Lane M) (one : Sealed at old mid (Ok tt)) where
    pub apply_next : StandsTo at old CanSeal → StandsTo at mid CanApply
    unfolding Sealed
    apply_next s = (sealed s.0, (one s.0 s.1 s.2).0, may_apply s.0 s.2)

    module _ (last : Lane M) (two : Applied at mid last (Ok tt)) where
      keeps : (v : View) → KeepsEntries at old v → CanSeal v → (found : ℕ → ℕ)
          × KeepsEntries at last (applied v found)
      unfolding Sealed Applied
      keeps v k can = (two.0, (two.1 (sealed v) (one v k can).0 (may_apply v can)).0)

      pub clear_next : StandsTo at old CanSeal → StandsTo at last CanClear
      clear_next s = let k = keeps s.0 s.1 s.2 in (applied s.0 k.0, k.1, may_clear s.0 k.0 s.2)

      pub performed : (new : Lane M) (result : Result (Unit {0}) Stopped)
          → Cleared at last new result → Performed at old new result
      unfolding Sealed Applied Cleared Performed
      performed new (Ok done) three = (
        two.0,
        λ v k can. (
            let a = one v k can in
            let b = two.1 (sealed v) a.0 (may_apply v can) in
            let c = three (applied v two.0) b.0 (may_clear v two.0 can) in
            let there : after_all v (performs two.0 v) ≡ after_all (applied v two.0)
            (clears (applied v two.0)) = ap (after_all v) (steps_so v two.0)
            ∙ (after_all-append v (seals v) (applies two.0 (sealed v) ++ clears (applied v two.0))
            ∙ after_all-append (sealed v) (applies two.0 (sealed v)) (clears (applied v two.0)))
            in (
              subst (KeepsEntries at new) (sym there) c.0,
              (
                c.1.0,
                c.1.1
                    ∙ ap (λ (l : Lane M). record l {
                      memory = new.memory;
                      log = record l.log { records = new.log.records };
                      entries = new.entries;
                    })
                    (b.1 ∙ ap (λ (l : Lane M). record l { memory = last.memory }) a.1),
              ),
            )),
      )
      performed new (Err stopped) three = (
        two.0,
        λ v k can. (
            let a = one v k can in
            let b = two.1 (sealed v) a.0 (may_apply v can) in
            let c = three (applied v two.0) b.0 (may_clear v two.0 can) in (
              subst (λ (steps : List Step). Stops (at new.memory) v steps) (sym (steps_so v two.0))
                  (stops_right (at new.memory) v (seals v) (applies two.0 (sealed v)
                  ++ clears (applied v two.0))
                  (stops_right (at new.memory) (sealed v) (applies two.0 (sealed v))
                  (clears (applied v two.0)) c.0)),
              c.1 ∙ ap (λ (l : Lane M). record l { memory = new.memory })
                  (b.1 ∙ ap (λ (l : Lane M). record l { memory = last.memory }) a.1),
            )),
      )

    pub stopped_applying : (last : Lane M) (stopped : Stopped) (result : Result (Unit {0}) Stopped)
        → IsErr result → Applied at mid last (Err stopped) → Performed at old last result
    unfolding Sealed Applied Performed
    stopped_applying last stopped (Ok done) error two = absurd (search rules)
    stopped_applying last stopped (Err e) error two = (
      two.0,
      λ v k can. (
          let a = one v k can in
          let b = two.1 (sealed v) a.0 (may_apply v can) in (
            subst (λ (steps : List Step). Stops (at last.memory) v steps) (sym (steps_so v two.0))
                (stops_right (at last.memory) v (seals v) (applies two.0 (sealed v)
                ++ clears (applied v two.0))
                (stops_left (at last.memory) (sealed v) (applies two.0 (sealed v))
                (clears (applied v two.0)) b.0)),
            b.1 ∙ ap (λ (l : Lane M). record l { memory = last.memory }) a.1,
          )),
    )

  pub stopped_sealing : (mid : Lane M) (stopped : Stopped) (result : Result (Unit {0}) Stopped)
      → IsErr result → Sealed at old mid (Err stopped) → Performed at old mid result
  unfolding Sealed Performed
  stopped_sealing mid stopped (Ok done) error one = absurd (search rules)
  stopped_sealing mid stopped (Err e) error one = (
    (λ i. 0),
    λ v k can. (
        let a = one v k can in (
          subst (λ (steps : List Step). Stops (at mid.memory) v steps) (sym (steps_so v (λ i. 0)))
              (stops_left (at mid.memory) v (seals v) (applies (λ i. 0) (sealed v)
              ++ clears (applied v (λ i. 0))) a.0),
          a.1,
        )),
  )
