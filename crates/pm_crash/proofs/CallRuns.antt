-- Along a run a lane that goes on in its open call knows no less, whatever other lanes do between.
use Rattle.std.proofs.Common.{◌≡◌, ◌≢◌, ⊎_elim, ℕ, ◌<◌, Bool, [], ◌∷◌, sym, subst}
use Rattle.std.proofs.lemmas.Bool.{cases_eq}
use Rattle.pm_view.specs.View.{View}
use Rattle.pm_world.specs.Runs.{IsWorld, LaneStep, Leads, Moment}
use Rattle.pm_world.specs.World.{Opening, World}
use Rattle.pm_world.proofs.EveryStep.{every_step}
use Rattle.pm_crash.specs.Sim.{Grows}
use Rattle.pm_crash.specs.SimSteps.{IsCallRun, IsOfCall, RunsGrow}
use Rattle.pm_crash.proofs.Composing.{growths_compose}
use Rattle.pm_crash.proofs.SimSteps.{steps_grow, still}

-- one step, of this lane or of another
one_grows : (o : Opening) (k : ℕ) (kept : Bool) (t : LaneStep) (old next : Moment) → IsWorld o old → k < o.lanes → Leads o old t next
    → (t.lane ≡ k → IsOfCall (old.views k) kept t.step) → Grows (old.views k) kept (next.views k) kept
one_grows o k kept t old next x ink led own = ⊎_elim
    (λ (e : t.lane ≡ k).
    let y = own e in
    let lead : Leads o old (record { lane = k; step = t.step }) next = subst (λ i. Leads o old (record { lane = i; step = t.step }) next) e led in
    subst (λ (w : View). Grows (old.views k) kept w kept) (sym lead.view.here)
    (steps_grow t.step o old.mem next.mem old.views next.views old.past k kept
    (record { world = x; runs = ink; is_open = y.is_open; lawful = lead.lawful; moves = lead.moves; turn = lead.view; goes = y.goes }) y.keeps))
    (λ (ne : t.lane ≢ k).
    subst (λ (w : View). Grows (old.views k) kept w kept) (sym (led.view.else_ k (λ e. ne (sym e))))
    (still (old.views k) kept (old.views k).changes (old.views k).calls (old.views k).occupancy (old.views k).zones (old.views k).seen))
    (cases_eq t.lane k)

pub runs_grow : RunsGrow
unfolding IsCallRun
runs_grow o k kept [] old new x ink r = subst (λ (m : Moment). Grows (old.views k) kept (m.views k) kept) (sym r)
    (still (old.views k) kept (old.views k).changes (old.views k).calls (old.views k).occupancy (old.views k).zones (old.views k).seen)
runs_grow o k kept (t ∷ rest) old new x ink r =
    let next = r.0 in
    let led : Leads o old t next = r.1 in
    let w = subst (λ p. World o next.mem next.views p) (sym led.past)
    (every_step t.step o old.mem next.mem old.views next.views old.past t.lane x led.runs led.lawful led.moves led.view).0 in
    growths_compose (old.views k) (next.views k) (new.views k) kept kept kept
    (one_grows o k kept t old next x ink led r.2) (runs_grow o k kept rest next new w ink r.3)
