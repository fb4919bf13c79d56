-- THE OUTERMOST LEVEL OF A CALL WITH ENTRIES MAY BE COMMITTED, whatever number it takes and
-- whatever its steps find; and the call is over then. Once all is persistent its words are logged,
-- and it ends.
use Rattle.std.proofs.Common.{◌≡◌, ◌≢◌, ℕ, ◌+◌, ◌/◌, List, [], ◌∷◌, ◌++◌, refl, sym, ap, ◌∙◌, subst, None}
use Rattle.std.specs.List.{AllByRecursion}
use Rattle.pm_objects.specs.declared.calls.Operation.TheVariants.{Commit}
use Rattle.pm_record.specs.declared.redo.Redo.{Redo}
use Rattle.pm_view.specs.Log.{Recorded}
use Rattle.pm_view.specs.Steps.Step.{Tell}
use Rattle.pm_view.specs.View.{View}
use Rattle.pm_view.specs.Views.{after, after_all}
use Rattle.pm_world.specs.LaneFields.{Standing, last_number, moved}
use Rattle.pm_crash.specs.Calls.{Fact}
use Rattle.pm_plan.specs.Plans.{Plan, Ready, in_turn, persists_all}
use Rattle.pm_plan.proofs.Going.{persists_all_lawful}
use Rattle.pm_plan.proofs.Plans.{after_all-append, ready_both}
use Rattle.pm_redo.specs.Plans.{writes_log}
use Rattle.pm_call.specs.At.{At, IsAt}
use Rattle.pm_call.specs.Commits.{KnowsEntries, LeavesCommitted, OutermostLevelsMayBeCommitted, generation_left}
use Rattle.pm_call.specs.Did.{IsOver}
use Rattle.pm_call.specs.Finishing.{CanFinish, CanLogCall}
use Rattle.pm_call.specs.Plans.{commits, logs_entries}
use Rattle.pm_call.specs.Ranges.{KnowsWord}
use Rattle.pm_call.specs.Waiting.{HasPending}
use Rattle.pm_call.proofs.InnerLevels.{commit_unrefused_at}
use Rattle.pm_call.proofs.LoggedCalls as calls
use Rattle.pm_call.proofs.LoggedEnds as logs
use Rattle.pm_call.proofs.Noting.{all_map}
use Rattle.pm_call.proofs.Outermost as outermost
use Rattle.pm_call.proofs.Outermost.{leaves_committed}
use Rattle.pm_call.proofs.Persisted.{IsDrained, drained_at, drained_by, drained_view}
use Rattle.pm_call.proofs.Staying.{has_pending, pending_told}

-- what a commit of entries is
commits_are : (es : List Redo) (found : ℕ → ℕ) (n : ℕ) → es ≢ []
    → commits es found n ≡ in_turn persists_all (logs_entries Commit es found n)
commits_are [] found n some = absurd (some refl)
commits_are (e ∷ es) found n some = refl

generation_some : (es : List Redo) (records : List Recorded) (generation : ℕ) → es ≢ []
    → generation + 1 ≡ generation_left es records generation
generation_some [] records generation some = absurd (some refl)
generation_some (e ∷ es) records generation some = refl

module _ (s : Standing) (at : At s) (one_ : s.level ≡ 1) (some : s.entries ≢ [])
    (knows : KnowsEntries s) where
  abbrev v : View
  v = s.view

  d : IsDrained v (after_all v (persists_all v)) v.log.records
  d = drained_by v at.working at.unbumped v.log.records refl

  -- all is persistent
  abbrev p : View
  p = drained_view s s.level at v.log.records refl (after_all v (persists_all v)) d

  here : IsAt (moved s p) s.level
  here = drained_at s s.level at v.log.records refl (after_all v (persists_all v)) d

  known : AllByRecursion (λ (e : Redo). KnowsWord p (e.place / 8)) s.entries
  known = all_map (λ (e : Redo). KnowsWord v (e.place / 8))
      (λ (e : Redo). KnowsWord p (e.place / 8)) s.entries
      (λ e k. record {
        value = k.value;
        known = d.stays (e.place / 8) ∙ k.known;
        small = k.small;
      }) knows

  -- the view once the log is written and the commit told
  abbrev told : View
  told = after (logs.g (moved s p) s.level here known p.call p.actions p.published)
      (Tell Commit None)

  fact : Fact told
  fact = calls.logged_fact (moved s p) s.level here known (after_all p (writes_log s.entries p))
      (logs.written_log (moved s p) s.level here known p.call p.actions p.published) one_

  pending : HasPending told
  pending =
      let g : View = logs.g (moved s p) s.level here known p.call p.actions p.published in
      pending_told g Commit None (λ q. refl) refl (has_pending p g refl refl here.pending)

  -- THE LANE MAY LOG THEM, and end its call so
  pub can_log : CanLogCall (after_all s.view (persists_all s.view)) Commit s.entries
  can_log = subst (λ (y : View). CanLogCall y Commit s.entries) (sym d.same)
      (logs.can_log_call (moved s p) s.level here known p.call p.actions p.published Commit)

  module _ (found : ℕ → ℕ) (n : ℕ) where
    abbrev rest : Plan
    rest = logs_entries Commit s.entries found n

    rest_ready : Ready p (rest p)
    rest_ready = logs.logs_ready (moved s p) s.level here known p.call p.actions p.published Commit
        fact pending found n

    rest_over : IsOver (moved s (after_all p (rest p)))
    rest_over = logs.logs_over (moved s p) s.level here known p.call p.actions p.published Commit
        fact pending found n

    plan_is : commits s.entries found n v
        ≡ persists_all v ++ rest (after_all v (persists_all v))
    unfolding in_turn
    plan_is = ap (λ (plan : Plan). plan v) (commits_are s.entries found n some)

    ends_at : after_all v (commits s.entries found n v) ≡ after_all p (rest p)
    ends_at = ap (after_all v) plan_is
        ∙ (after_all-append v (persists_all v) (rest (after_all v (persists_all v)))
        ∙ ap (λ (y : View). after_all y (rest y)) d.same)

    pub leaves_logged : LeavesCommitted s found n
    leaves_logged =
        let end = ends_at ∙ logs.logs_end (moved s p) s.level here known p.call p.actions
        p.published Commit fact pending found n in record {
          unrefused = commit_unrefused_at s s.level at;
          ready = subst (Ready v) (sym plan_is)
              (ready_both v (persists_all v) (rest (after_all v (persists_all v)))
              (persists_all_lawful v).0
              (subst (λ (y : View). Ready y (rest y)) (sym d.same) rest_ready));
          over = subst (λ (y : View). IsOver (moved s y)) (sym ends_at) rest_over;
          generation = ap (λ (y : View). y.log.generation) end
              ∙ generation_some s.entries v.log.records v.log.generation some;
          number = ap (λ (y : View). last_number y.entries) end;
          fixed = ap (λ (y : View). y.fixed) end;
          pending = ap (λ (y : View). y.actions) end;
        }

-- THE LANE MAY FINISH ITS CALL once all is persistent, whatever number it takes
pub can_finish : (s : Standing) → At s → s.level ≡ 1 → KnowsEntries s
    → CanFinish (after_all s.view (persists_all s.view)) s.entries
unfolding CanFinish
can_finish s at one_ knows = by s.entries refl
  where
    by : (es : List Redo) → s.entries ≡ es
        → CanFinish (after_all s.view (persists_all s.view)) es
    by [] none = record {
      ready = λ n. outermost.numbers_ready s at one_ none n;
      then = λ n. outermost.numbers_then s at one_ none n;
    }
    by (e ∷ es) some = subst (CanLogCall (after_all s.view (persists_all s.view)) Commit) some
        (can_log s at one_ (λ z. absurd (let q : [] ≡ e ∷ es = sym z ∙ some in cc)) knows)

-- THE LAW, for both
pub outermost_levels_may_be_committed : OutermostLevelsMayBeCommitted
outermost_levels_may_be_committed s found n at one_ knows = by s.entries refl
  where
    by : (es : List Redo) → s.entries ≡ es → LeavesCommitted s found n
    by [] none = leaves_committed s at one_ none n found
    by (e ∷ es) some = leaves_logged s at one_
        (λ z. absurd (let q : [] ≡ e ∷ es = sym z ∙ some in cc)) knows found n
