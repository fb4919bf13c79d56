-- A run comes to its end: what is pending still is given up, where the lane did not stop before; or the lane stops as it is.
use Rattle.std.proofs.Common.{◌≡◌, ⊎_elim, inl, inr, ℕ, ◌+◌, ◌<◌, ◌≤◌, ◌%◌, ◌^◌, List, [], ◌∷◌, ◌++◌, append-nil, length, take, drop, Option, None, refl, sym, ap, ◌∙◌, subst, arith}
use Rattle.solo_action.specs.Canceling.{HasFinished as HasGivenBack, IsStoppedFinishing, finishes, gives_reserved}
use Rattle.solo_action.specs.Outside.{RestsAlone}
use Rattle.solo_crash.specs.Alone.{Begins, Rests, standing}
use Rattle.solo_lock.proofs.Leads.{led_none}
use Rattle.solo_lock.specs.Resting.{IsAtRest, IsFresh}
use Rattle.solo_memory.specs.Runs.{Stops}
use Rattle.solo_memory.specs.Solo.{Sees, Solo}
use Rattle.pm_objects.specs.declared.history.Entry.{Entry}
use Rattle.solo_pending.specs.AllPending.{IsPendingAs}
use Rattle.solo_pending.specs.declared.pending.PendingActions.{PendingActions}
use Rattle.solo_crash.specs.Pending.{pending_before}
use Rattle.solo_crash.proofs.PendingOn.{same_before}
use Rattle.solo_script.specs.declared.script.ScriptLine.{ScriptLine}
use Rattle.pm_text.specs.declared.report.LaneEnd.{LaneEnd}
use Rattle.pm_text.specs.declared.report.LaneEnd.TheVariants as end
use Rattle.solo_tx.proofs.StepKinds.{Each, each_first}
use Rattle.solo_view.proofs.SameLane.{same_lane-after_all}
use Rattle.solo_view.specs.Counts.{stores_among}
use Rattle.solo_view.specs.Log.{no_log}
use Rattle.solo_view.specs.Log.Phase.{Idle, Open}
use Rattle.solo_view.specs.Steps.{Step}
use Rattle.solo_view.specs.View.{View}
use Rattle.solo_view.specs.Views.{after_all}
use Rattle.solo_world.specs.Opening.{Opening}
use Rattle.solo_world.specs.Sequences.{Ready}
use Rattle.solo_world.specs.declared.lane.Lane.{Lane}
use Rattle.solo_exec.specs.Bounds.{IsWalked}
use Rattle.solo_exec.specs.Course.{IsFree, IsFrontOf}
use Rattle.solo_exec.specs.Letters.{AreGivenTo, Offsets}
use Rattle.solo_exec.specs.Running.{HasAnsweredUpTo, HasClosed, HasFinished, HasGivenUp, HasHaltedIn, HasRun, HasSpent, HasStopped, HasStoppedGivingUp}
use Rattle.solo_exec.specs.declared.calls.Names.{Names}
use Rattle.solo_exec.specs.declared.running.Halt.{Halt}
use Rattle.solo_exec.proofs.ChangeLines.{front_of}
use Rattle.solo_exec.proofs.CommitLine.{ready_front, ready_walks}
use Rattle.solo_exec.proofs.FinishSteps.{IsClosing, IsEmptyLog, closes_along, closing_stores_none, finishes_closing, rests_closed}
use Rattle.solo_exec.proofs.RestsUnbegun.{rests_alone_unbegun}

-- ---- the steps of a lane at rest

module _ (lane : Lane Solo) (v : View) (rests : IsAtRest Sees lane v) where
  empty : IsEmptyLog v.log
  empty = ⊎_elim (λ (idle : v.log ≡ no_log Idle). inl idle) (λ (begun : (v.log ≡ no_log (Open [] [])) × (v.number ≡ None) × (v.call ≡ [])). inr begun.0) rests.fresh

  closing : Each IsClosing (finishes v)
  closing = finishes_closing v rests.seen.memory.lane

  walks : (steps : List Step) → Ready v steps → Each IsClosing steps → IsWalked v (after_all v steps) 0
  walks steps ready each = record { steps = steps; walks = ready_walks v steps ready; stores = (let none = closing_stores_none steps each in omega (arith, none)) }

  pub given_up : (new : Lane Solo) → HasGivenBack Sees new v → HasGivenUp new v
  given_up new given =
      let w : View = after_all v (finishes v) in
      let closes = closes_along v (finishes v) empty closing in
      record {
        view = w;
        made = refl;
        walks = walks (finishes v) given.ready closing;
        same = same_lane-after_all v (finishes v);
        seen = given.seen.memory;
        rests = rests_closed v w rests.place.lane rests.undrained empty closes;
        entries = closes.entries;
        number = closes.number;
        phase = closes.log;
      }

  pub stopped_giving_up : (new : Lane Solo) → IsStoppedFinishing Sees new v → HasStoppedGivingUp new v
  stopped_giving_up new stopped =
      let k : ℕ = stopped.stops.made in
      let first : List Step = take k (finishes v) in
      let w : View = after_all v first in
      let each = each_first IsClosing k (finishes v) closing in
      let closes = closes_along v first empty each in
      record {
        view = w;
        stops = front_of (Sees new.memory) v (finishes v) finishes refl stopped.stops;
        walks = walks first (ready_front v (finishes v) k stopped.ready) each;
        same = same_lane-after_all v first;
        seen = stopped.stops.seen;
        rests = rests_closed v w rests.place.lane rests.undrained empty closes;
        entries = closes.entries;
        number = closes.number;
        phase = closes.log;
        at_stop = stopped.stops.stopped;
      }

-- ---- the lane that has no call left, or cannot begin the next one

-- the lane rests there, behind the calls that were answered, and may finish
pub record MayClose (o : Opening) (first : View) (lane : Lane Solo) (actions : PendingActions) (names : Names) (calls : List (List ScriptLine)) (history : List Entry) (halt : Halt) : Type 0 where
  pub view : View
  pub up_to : HasAnsweredUpTo o first names calls history halt.end view
  pub rests : RestsAlone Sees lane view
  pub pending : IsPendingAs actions (pending_before view)
  pub is_open : halt.is_open ≡ None

module _ (o : Opening) (first : View) (lane : Lane Solo) (actions : PendingActions) (names : Names) (calls : List (List ScriptLine)) (history : List Entry) (halt : Halt) where
  finished_may : HasFinished o first lane actions names calls history halt → MayClose o first lane actions names calls history halt
  finished_may f =
      let a = f.answered in
      record {
        view = a.view;
        up_to = record {
          answered = calls;
          behind = [];
          are = sym (append-nil calls);
          before = a.view;
          called = a.called;
          fresh = a.rests.fresh;
          free = record { led = led_none a.view; undrawn = refl };
          comes = inl (f.ends, refl, refl);
        };
        rests = record {
          rests = a.rests;
          quiet = a.keeps.quiet;
          stands = a.keeps.stands;
          world = (standing o a.view, f.header, f.pool, a.view, [], a.keeps.rests f.header f.pool (a.called.again f.header f.pool f.begins));
        };
        pending = a.pending;
        is_open = f.is_open;
      }

  spent_may : (answered : List (List ScriptLine)) (lines : List ScriptLine) (behind : List (List ScriptLine)) → calls ≡ answered ++ lines ∷ behind → HasSpent o first lane actions names answered lines history halt → MayClose o first lane actions names calls history halt
  spent_may answered lines behind are s =
      let u = s.unbegun in
      record {
        view = u.view;
        up_to = record {
          answered = answered;
          behind = lines ∷ behind;
          are = are;
          before = s.before;
          called = s.called;
          fresh = u.rests.fresh;
          free = u.free;
          comes = inr (s.line, s.ends, record { call = lines; behind = behind; are = refl; of_line = s.of_line; free = u.free; used_up = u.used_up });
        };
        rests = rests_alone_unbegun (standing o s.before) s.header s.pool lane s.before u.view (s.called.again s.header s.pool s.begins) s.keeps.quiet s.keeps.stands u.free u.rests;
        pending = subst (IsPendingAs actions) (sym (same_before s.before u.view u.free.undrawn)) u.pending;
        is_open = s.is_open;
      }

  -- where it did not stop in a call
  pub may_close : ((calls : ℕ) → halt.end ≡ end.Stopped calls → ⊥) → HasRun o first lane actions names calls history halt → MayClose o first lane actions names calls history halt
  may_close going run = ⊎_elim
      (λ (f : HasFinished o first lane actions names calls history halt). finished_may f)
      (λ (h : HasHaltedIn o first lane actions names calls history halt). ⊎_elim
      (λ (s : HasStopped o first lane names h.answered h.lines history halt). absurd (going (s.halted.cut.view.calls % 2 ^ 64) s.ends))
      (λ (s : HasSpent o first lane actions names h.answered h.lines history halt). spent_may h.answered h.lines h.behind h.are s)
      h.halted)
      run

  -- where it did
  pub closed_stopped : (stop : ℕ) → halt.end ≡ end.Stopped stop → (new : Lane Solo) → new ≡ lane → HasRun o first lane actions names calls history halt → HasClosed o first new names calls history halt
  closed_stopped stop ends new same run = subst (λ (l : Lane Solo). HasClosed o first l names calls history halt) (sym same) (⊎_elim
      (λ (f : HasFinished o first lane actions names calls history halt). absurd (let clash : end.Ended ≡ end.Stopped stop = sym f.ends ∙ ends in cc))
      (λ (h : HasHaltedIn o first lane actions names calls history halt). ⊎_elim
      (λ (s : HasStopped o first lane names h.answered h.lines history halt). inl (record { answered = h.answered; lines = h.lines; behind = h.behind; are = h.are; stopped = s }))
      (λ (s : HasSpent o first lane actions names h.answered h.lines history halt). absurd (let clash : end.Spent s.line ≡ end.Stopped stop = sym s.ends ∙ ends in cc))
      h.halted)
      run)

  module _ (m : MayClose o first lane actions names calls history halt) (new : Lane Solo) where
    -- what is pending is given up
    pub closed_done : HasGivenBack Sees new m.view → HasClosed o first new names calls history halt
    closed_done given = inr (record { view = m.view; ended = halt.end; up_to = m.up_to; is_open = m.is_open; closes = inl (given_up lane m.view m.rests.rests new given, refl) })

    -- or the lane stops as it is
    pub closed_cut : IsStoppedFinishing Sees new m.view → (made : ℕ) → ((v : View) → Sees new.memory v → made ≡ v.calls % 2 ^ 64) → (last : Halt) → last.is_open ≡ halt.is_open → last.end ≡ end.Stopped made → HasClosed o first new names calls history last
    closed_cut stopped made counts last opens ends =
        let t = stopped_giving_up lane m.view m.rests.rests new stopped in
        inr (record { view = m.view; ended = halt.end; up_to = m.up_to; is_open = opens ∙ m.is_open; closes = inr (t, ends ∙ ap (λ (n : ℕ). end.Stopped n) (counts t.view t.seen)) })

-- the offsets that were given are those of a run that came to its stop behind its calls
pub given_still : (history : List Entry) (given : Offsets) (halt last : Halt) (made : ℕ) → last.is_open ≡ halt.is_open → last.end ≡ end.Stopped made → AreGivenTo history halt given → AreGivenTo history last given
given_still history given halt last made opens ends are = record {
  rest = are.rest;
  are = are.are;
  opened = λ e is. are.opened e (sym opens ∙ is);
  none = λ going. absurd (going made ends);
}
