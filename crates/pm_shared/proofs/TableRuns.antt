-- The run of the table's lanes: it begins with no step, and each lawful step makes it longer.
use Rattle.std.proofs.Common.{ℕ, List, [], ◌∷◌, ◌++◌, refl, sym, subst}
use Rattle.pm_world.proofs.CausesKept as causes
use Rattle.pm_world.proofs.SizesKept.{runs_keep_sizes}
use Rattle.pm_world.specs.Causes.{Causes}
use Rattle.pm_world.specs.Opens.{idle_views}
use Rattle.pm_world.specs.Runs.{IsRun, LaneStep, Leads, Moment}
use Rattle.pm_world.specs.Sizes.{ObjectsFit}
use Rattle.pm_world.specs.World.{Opening, Views}
use Rattle.pm_view.specs.View.{Constants}
use Rattle.pm_shared.specs.TableRun.{Begins, HasRun}

-- a step at the end of a run
run_then : (o : Opening) (turns : List LaneStep) (a b c : Moment) (t : LaneStep)
    → IsRun o a turns b → Leads o b t c → IsRun o a (turns ++ t ∷ []) c
unfolding IsRun
run_then o [] a b c t run leads = (c, subst (λ m. Leads o m t c) run leads, refl)
run_then o (s ∷ rest) a b c t run leads =
    (run.0, run.1, run_then o rest run.0 b c t run.2 leads)

no_step : (o : Opening) (m : Moment) → IsRun o m [] m
unfolding IsRun
no_step o m = refl

module _ (o : Opening) (first : Views) where
  pub run_begins : (m : Moment) → Begins o first m → HasRun o first m
  run_begins m begins =
      record { begun = m; begins = begins; turns = []; run = no_step o m }

  pub run_goes_on : (b c : Moment) (t : LaneStep) → HasRun o first b → Leads o b t c
      → HasRun o first c
  run_goes_on b c t r leads = record {
    begun = r.begun;
    begins = r.begins;
    turns = r.turns ++ t ∷ [];
    run = run_then o r.turns r.begun b c t r.run leads;
  }

  pub run_fits : (m : Moment) → HasRun o first m → ObjectsFit o m.past
  run_fits m r = runs_keep_sizes o r.turns r.begun m r.begins.world r.run r.begins.sizes

-- of lanes of which nothing was asked each answer has its cause
pub run_bears : (o : Opening) (fixed : ℕ → Constants) (generation : ℕ → ℕ) (m : Moment)
    → HasRun o (idle_views fixed generation) m → Causes o m.mem m.views m.past
run_bears o fixed generation m r =
    causes.runs o r.turns r.begun m r.begins.world
    (subst (λ (views : Views). Causes o r.begun.mem views r.begun.past) (sym r.begins.views_are)
    (causes.begin o r.begun.mem fixed generation r.begun.past r.begins.taken r.begins.no_call))
    r.run
