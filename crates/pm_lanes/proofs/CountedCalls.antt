-- THE COUNTED CALLS OF A LANE along a run: its view lists one more after each of its counted
-- steps, and the same after any other step.
use Rattle.std.proofs.Common.{◌≡◌, ℕ, ◌==◌, ◌&&◌, Bool, true, false, cond, List, [], ◌∷◌, ◌++◌}
use Rattle.std.proofs.Common.{map, reverse, refl, sym, ap, ◌∙◌, subst}
use Rattle.std.specs.List.{filter}
use Rattle.std.proofs.lemmas.Bool.{both_ways, eq-eqb, eqb-true}
use Rattle.std.proofs.lemmas.Grind.{reverse_onto}
use Rattle.std.proofs.lemmas.List.{append-nil, append_assoc}
use Rattle.pm_view.specs.Counts.{is_counted}
use Rattle.pm_view.specs.Log.{Phase, Idle}
use Rattle.pm_view.specs.Steps.{Step}
use Rattle.pm_view.specs.Steps.Step.{NumberSeen, Occupy}
use Rattle.pm_view.specs.View.{View}
use Rattle.pm_view.specs.Views.{after, begun}
use Rattle.pm_world.specs.Runs.{IsRun, LaneStep, Leads, Moment}
use Rattle.pm_world.specs.World.{Opening, Views}
use Rattle.pm_shared.specs.Openings.{opening_of}
use Rattle.pm_lanes.specs.Closed.{CallsAreListed, calls_in_run}

-- ---- A STEP

begun_calls : (phase : Phase) (v : View) → (begun phase v).calls ≡ v.calls
begun_calls Idle v = refl
begun_calls phase v = refl

-- a step puts itself before the calls that the view lists, where it is counted
calls_after : (v : View) (s : Step)
    → (after v s).calls ≡ cond (is_counted s) (s ∷ v.calls) v.calls
calls_after v (Occupy at bits true) = refl
calls_after v (Occupy at bits false) = refl
calls_after v (NumberSeen n) = begun_calls v.log.phase v
calls_after v s = refl

-- the step alone, or none
one : Bool → Step → List Step
one c s = cond c (s ∷ []) []

at_end : (c : Bool) (s : Step) (calls : List Step)
    → reverse (cond c (s ∷ calls) calls) ≡ reverse calls ++ one c s
unfolding one
at_end true s calls = reverse_onto calls s []
at_end false s calls = sym (append-nil (reverse calls))

at_head : (c : Bool) (t : LaneStep) (turns : List LaneStep)
    → map (λ (u : LaneStep). u.step) (cond c (t ∷ turns) turns)
    ≡ one c t.step ++ map (λ (u : LaneStep). u.step) turns
unfolding one
at_head true t turns = refl
at_head false t turns = refl

-- what the step adds to the calls of lane k
added : ℕ → LaneStep → List Step
added k t = one ((t.lane == k) && is_counted t.step) t.step

module _ (o : Opening) (old next : Moment) (t : LaneStep) (led : Leads o old t next) (k : ℕ) where
  grows_so : (own : Bool) → t.lane == k ≡ own
      → reverse (next.views k).calls
      ≡ reverse (old.views k).calls ++ one (own && is_counted t.step) t.step
  grows_so true is = subst
      (λ i. reverse (next.views i).calls
      ≡ reverse (old.views i).calls ++ one (is_counted t.step) t.step)
      (eqb-true t.lane k is)
      (ap (λ (v : View). reverse v.calls) led.view.here
      ∙ (ap reverse (calls_after (old.views t.lane) t.step)
      ∙ at_end (is_counted t.step) t.step (old.views t.lane).calls))
  grows_so false is =
      ap (λ (v : View). reverse v.calls)
      (led.view.else_ k (λ e. both_ways (t.lane == k) is (eq-eqb t.lane k (sym e))))
      ∙ at_end false t.step (old.views k).calls

  grows : reverse (next.views k).calls ≡ reverse (old.views k).calls ++ added k t
  unfolding added
  grows = grows_so (t.lane == k) refl

-- ---- A RUN

along : (o : Opening) (turns : List LaneStep) (old new : Moment) → IsRun o old turns new
    → (k : ℕ) → reverse (new.views k).calls ≡ reverse (old.views k).calls ++ calls_in_run k turns
unfolding IsRun added
along o [] old new r k =
    ap (λ (m : Moment). reverse (m.views k).calls) r
    ∙ sym (append-nil (reverse (old.views k).calls))
along o (t ∷ rest) old new r k =
    along o rest r.0 new r.2 k
    ∙ (ap (λ (l : List Step). l ++ calls_in_run k rest) (grows o old r.0 t r.1 k)
    ∙ (append_assoc (reverse (old.views k).calls) (added k t) (calls_in_run k rest)
    ∙ ap (λ (l : List Step). reverse (old.views k).calls ++ l)
    (sym (at_head ((t.lane == k) && is_counted t.step) t
    (filter (λ (u : LaneStep). (u.lane == k) && is_counted u.step) rest)))))

-- ---- AT THE END

pub listed : CallsAreListed
listed b back words n v closed there =
    let k = v.fixed.lane in
    sym (ap (λ (vs : Views). reverse (vs k).calls ++ calls_in_run k closed.run.turns)
    closed.run.begins.views_are)
    ∙ (sym (along (opening_of b) closed.run.turns closed.run.begun closed.last closed.run.run k)
    ∙ ap (λ (u : View). reverse u.calls) (closed.lanes n v there).1)
