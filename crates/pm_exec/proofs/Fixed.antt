-- WHAT NEVER CHANGES of a lane's view, from the beginning to the end of a run.
use Rattle.std.proofs.Common.{◌≡◌, ◌≢◌, ⊎_elim, ℕ, List, [], ◌∷◌, sym, ap, ◌∙◌}
use Rattle.std.proofs.lemmas.Bool.{cases_eq}
use Rattle.pm_shared.specs.Closings.{Closes}
use Rattle.pm_shared.specs.Openings.{fixed_of, opening_of}
use Rattle.pm_shared.specs.declared.rule.Beginning.{Beginning}
use Rattle.pm_view.specs.Steps.{Step}
use Rattle.pm_view.specs.View.{View}
use Rattle.pm_view.specs.Views.{after, after_all}
use Rattle.pm_world.specs.Runs.{IsRun, LaneStep, Leads, Moment}
use Rattle.pm_world.specs.World.{Opening, Views}
use Rattle.pm_call.proofs.Standing.{all_fixed}

one_fixed : (v : View) (s : Step) → (after v s).fixed ≡ v.fixed
unfolding after_all
one_fixed v s = all_fixed v (s ∷ [])

turn_fixed : (o : Opening) (old new : Moment) (t : LaneStep) → Leads o old t new → (k : ℕ)
    → (new.views k).fixed ≡ (old.views k).fixed
turn_fixed o old new t turn k = ⊎_elim
    (λ (e : k ≡ t.lane).
    ap (λ n. (new.views n).fixed) e ∙ ap (λ (v : View). v.fixed) turn.view.here
    ∙ one_fixed (old.views t.lane) t.step ∙ ap (λ n. (old.views n).fixed) (sym e))
    (λ (ne : k ≢ t.lane). ap (λ (v : View). v.fixed) (turn.view.else_ k ne))
    (cases_eq k t.lane)

run_fixed : (o : Opening) (turns : List LaneStep) (old new : Moment) → IsRun o old turns new
    → (k : ℕ) → (new.views k).fixed ≡ (old.views k).fixed
unfolding IsRun
run_fixed o [] old new run k = ap (λ (m : Moment). (m.views k).fixed) run
run_fixed o (t ∷ turns) old new run k =
    run_fixed o turns run.0 new run.2 k ∙ turn_fixed o old run.0 t run.1 k

pub closed_fixed : (b : Beginning) (back : List View) (words : List ℕ)
    → (closed : Closes b back words) → (k : ℕ) → (closed.last.views k).fixed ≡ fixed_of b k
closed_fixed b back words closed k =
    let run = closed.run in
    run_fixed (opening_of b) run.turns run.begun closed.last run.run k
    ∙ ap (λ (views : Views). (views k).fixed) run.begins.views_are
