-- What committing an inner level leaves of its lane.
use Rattle.std.proofs.Common.{◌≡◌, ℕ, zero, suc, ◌-◌, ◌≤◌, refl, sym, ap, ◌∙◌, subst, arith, None}
use Rattle.pm_memory.specs.Runs.{Made}
use Rattle.pm_model.specs.declared.stage.Stage.TheVariants as stage
use Rattle.pm_objects.specs.declared.calls.Operation.TheVariants.{Commit}
use Rattle.pm_objects.specs.declared.history.TxErr.TheVariants as error
use Rattle.pm_view.specs.Steps.{Step}
use Rattle.pm_view.specs.Steps.Step.{Tell}
use Rattle.pm_view.specs.View.{View}
use Rattle.pm_view.specs.Views.{after, after_all}
use Rattle.pm_world.specs.LaneFields.{Standing}
use Rattle.pm_world.specs.Lawful.{Allowed}
use Rattle.pm_world.specs.declared.lane.Lane.{Lane}
use Rattle.pm_plan.specs.Plans.{one}
use Rattle.pm_call.specs.At.{IsAt}
use Rattle.pm_call.specs.Commits.{CommittedInner}
use Rattle.pm_call.specs.Did.{IsAtSo, next}
use Rattle.pm_call.specs.Plans.{commits_inner}
use Rattle.pm_call.specs.Stages.{IsPastAt, Leaves}
use Rattle.pm_call.proofs.InnerLevels.{inner_levels_may_be_committed}

module _ {M : Type 0} (at : M → View → Type 0) (old : Lane M) where
  pub may_tell_commit : IsAtSo at old (λ s. 2 ≤ s.level) → (v : View) × at old.memory v × Allowed v (Tell Commit None)
  may_tell_commit is = (is.standing.view, is.works.memory, is.stands.working.is_open)

  told_once : (v : View) → after_all v (commits_inner v) ≡ after v (Tell Commit None)
  unfolding one after_all
  told_once v = refl

  leaves_inner : (n : ℕ) (t : Standing) → 2 ≤ n → IsAt t (n - 1) → Leaves error.None n t
  leaves_inner zero t deep is = absurd (omega (arith, deep))
  leaves_inner (suc zero) t deep is = absurd (omega (arith, deep))
  leaves_inner (suc (suc n)) t deep is = subst (IsAt t) (omega arith) is

  pub committed_inner : (may : View → Step → Type 0) → ((v : View) (s : Step) → Allowed v s → may v s) → (new : M) → Made may (at old.memory) (at new) (Tell Commit None)
      → CommittedInner at old (record old { memory = new; stage = stage.OnCommit })
  unfolding CommittedInner
  committed_inner may grants new told s works is deep =
      let law = inner_levels_may_be_committed s is deep in (
        law.unrefused,
        record {
          sees = record {
            memory = subst (at new) (sym (told_once s.view)) (told s.view works.memory (grants s.view (Tell Commit None) is.working.is_open)).0;
            fields = (λ i. record (works.fields i) { stage = stage.OnCommit }) ∙ ap (λ (w : View). Rattle.pm_call.specs.Stages.fields_past stage.OnCommit error.None (record s { view = w })) (sym (told_once s.view));
          };
          past = record { past = refl; some = omega (arith, deep); most = is.most; leaves = leaves_inner s.level (next s commits_inner) deep law.stands };
        },
      )
