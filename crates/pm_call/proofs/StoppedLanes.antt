-- THE ENTRIES OF A LANE THAT STOPPED HAVE THEIR FACTS. A step puts an entry before those that are
-- there, or leaves them; so where those after some steps have their facts, those of each view on the
-- way have them.
use Rattle.std.proofs.Common.{ℕ, zero, suc, Bool, true, false, List, [], ◌∷◌, ◌++◌, take, refl, sym, ◌∙◌, subst, arith, inl, inr, ⊎_elim, Contains}
use Rattle.pm_objects.specs.declared.calls.Want.{Want}
use Rattle.pm_view.specs.declared.occ.Occ.{Occ}
use Rattle.pm_view.specs.Log.{Phase, Idle, Open, Drawn, Sealing, Applying, Clearing, Retiring, Voiding}
use Rattle.pm_view.specs.Steps.{Step}
use Rattle.pm_view.specs.Steps.Step.{Load, Store, Or, And, Flush, Drain, TakeWrite, TakeRead, Raise, Give, ZoneTry, ZoneGive, Occupied, Occupy, Vacate, Draw, NumberSeen, StopSeen, SetStop, Tell}
use Rattle.pm_view.specs.View.{View}
use Rattle.pm_view.specs.Views.{after, after_all, begun, occupied}
use Rattle.pm_world.specs.LaneFields.{Standing}
use Rattle.pm_world.specs.declared.lane.Lane.{Lane}
use Rattle.pm_crash.specs.Facts.{EntriesHaveFacts, HaveFacts}
use Rattle.pm_lock.specs.Locking.{lock_at}
use Rattle.pm_lock.specs.Steps.{refusals, stops, takes}
use Rattle.pm_lock.proofs.Holds.{waits_taken}
use Rattle.pm_lock.proofs.Waiting.{all_then, refusals_try, twice_more}
use Rattle.pm_plan.specs.Plans.{Plan}
use Rattle.pm_call.specs.Between.{MayOpen}
use Rattle.pm_call.specs.Commits.{CommitCut}
use Rattle.pm_call.specs.Did.{Cut}
use Rattle.pm_call.specs.Locking.{to_take}
use Rattle.pm_call.specs.Opening.{WaitWasStopped}
use Rattle.pm_call.specs.Plans.{commits}
use Rattle.pm_call.specs.Standing.{IsLaneStopped}

-- ---- STEPS

begun_had : (phase : Phase) (v : View) → HaveFacts (begun phase v) → HaveFacts v
begun_had Idle v f = f
begun_had Open v f = f
begun_had (Drawn n) v f = f
begun_had (Sealing n) v f = f
begun_had (Applying todo) v f = f
begun_had Clearing v f = f
begun_had (Retiring n) v f = f
begun_had Voiding v f = f

occupied_had : (won : Bool) (v : View) (at : Occ) (bits : ℕ) → HaveFacts (occupied won v at bits)
    → HaveFacts v
occupied_had true v at bits f = f
occupied_had false v at bits f = f

facts_before : (v : View) (s : Step) → HaveFacts (after v s) → HaveFacts v
unfolding EntriesHaveFacts
facts_before v (Load w x) f = f
facts_before v (Store w x) f = f
facts_before v (Or w bits found) f = f
facts_before v (And w bits found) f = f
facts_before v (Flush line) f = f
facts_before v Drain f = f
facts_before v (TakeWrite line won) f = f
facts_before v (TakeRead line won) f = f
facts_before v (Raise line won) f = f
facts_before v (Give line) f = f
facts_before v (ZoneTry zone won) f = f
facts_before v (ZoneGive zone) f = f
facts_before v (Occupied at found) f = f
facts_before v (Occupy at bits won) f = occupied_had won v at bits f
facts_before v (Vacate at bits) f = f
facts_before v (Draw n) f = f.1
facts_before v (NumberSeen n) f = begun_had v.log.phase v f
facts_before v (StopSeen set) f = f
facts_before v SetStop f = f
facts_before v (Tell operation reply) f = f

facts_first : (v : View) (steps : List Step) → HaveFacts (after_all v steps) → HaveFacts v
unfolding after_all
facts_first v [] f = f
facts_first v (s ∷ steps) f = facts_before v s (facts_first (after v s) steps f)

-- AFTER THE FIRST SO MANY STEPS, where it is so after all of them
pub facts_on_the_way : (v : View) (steps : List Step) (k : ℕ) → HaveFacts (after_all v steps)
    → HaveFacts (after_all v (take k steps))
unfolding after_all
facts_on_the_way v [] zero f = f
facts_on_the_way v [] (suc k) f = f
facts_on_the_way v (s ∷ steps) zero f = facts_first v (s ∷ steps) f
facts_on_the_way v (s ∷ steps) (suc k) f = facts_on_the_way (after v s) steps k f

-- ---- A LANE THAT STOPPED in a plan

module _ {M : Type 0} (at : M → View → Type 0) (lane : Lane M) (s : Standing) where
  abbrev pub cut_is_stopped : (plan : Plan) (stopped : Bool) → Cut at lane s plan stopped
      → IsLaneStopped at lane
  cut_is_stopped plan stopped cut = record {
    view = after_all s.view (take cut.stops.made (plan s.view));
    seen = cut.stops.seen;
    facts = facts_on_the_way s.view (plan s.view) cut.stops.made cut.facts;
    due = λ is. inl cut.stops.stopped;
  }

  abbrev pub commit_is_stopped : (stopped : Bool) → CommitCut at lane s stopped → IsLaneStopped at lane
  commit_is_stopped stopped cut = record {
    view = after_all s.view (take cut.stops.made (commits s.entries cut.found cut.number s.view));
    seen = cut.stops.seen;
    facts = facts_on_the_way s.view (commits s.entries cut.found cut.number s.view) cut.stops.made
        cut.facts;
    due = λ is. inl cut.stops.stopped;
  }

-- ---- AS IT WAITED for a lock: it drew no number

tried_has : (v : View) (line : ℕ) (write : Bool) → HaveFacts v
    → HaveFacts (after v (takes line write false))
tried_has v line true f = f
tried_has v line false f = f

pub stops_have : (v : View) (n line : ℕ) (write : Bool) → HaveFacts v
    → HaveFacts (after_all v (stops n line write))
unfolding stops
stops_have v n line write f =
    let u : View = after_all v (refusals n line write) in
    let on : HaveFacts u = subst HaveFacts (sym (refusals_try n v line write)) f in
    let then : List Step = takes line write false ∷ StopSeen true ∷ [] in
    subst HaveFacts (sym (all_then v (refusals n line write) then
    ∙ twice_more u (takes line write false) (StopSeen true))) (tried_has u line write on)

here : (s : Step) (rest : List Step) → Contains (s ∷ rest) s
here s rest = (0, omega arith, refl)

-- it saw the stop word set
pub stop_was_seen : (v : View) (n line : ℕ) (write : Bool)
    → Contains (after_all v (stops n line write)).seen (StopSeen true)
unfolding stops
stop_was_seen v n line write =
    let u : View = after_all v (refusals n line write) in
    let then : List Step = takes line write false ∷ StopSeen true ∷ [] in
    subst (λ (x : View). Contains x.seen (StopSeen true))
    (sym (all_then v (refusals n line write) then
    ∙ twice_more u (takes line write false) (StopSeen true)))
    (here (StopSeen true) (after u (takes line write false)).seen)

abbrev pub wait_is_stopped : {M : Type 0} (at : M → View → Type 0) (lane : Lane M) (s : Standing)
    (wants : List Want) → HaveFacts s.view → WaitWasStopped at lane s wants
    → IsLaneStopped at lane
wait_is_stopped at lane s wants f w =
    let line : ℕ = (lock_at (to_take s wants) w.count).line in
    let write : Bool = (lock_at (to_take s wants) w.count).write in
    let x : View = after_all s.view w.steps in
    let got : HaveFacts x = subst HaveFacts (sym (waits_taken s.view
    (take w.count (to_take s wants)) w.steps w.waits)) f in record {
      view = after_all s.view (w.steps ++ stops w.refused line write);
      seen = w.memory;
      facts = subst HaveFacts (sym (all_then s.view w.steps (stops w.refused line write)))
          (stops_have x w.refused line write got);
      due = λ is. inr (subst (λ (y : View). Contains y.seen (StopSeen true))
          (sym (all_then s.view w.steps (stops w.refused line write)))
          (stop_was_seen x w.refused line write));
    }

-- ---- BETWEEN TWO CALLS: its last call has its number, and no later one

pub may_open_facts : (s : Standing) → MayOpen s → HaveFacts s.view
may_open_facts s may = ⊎_elim
    (λ e. subst (λ (t : Standing). HaveFacts t.view) (sym e) may.between.over.facts)
    (λ z. subst (λ (t : Standing). HaveFacts t.view) (sym z.1) may.between.over.facts)
    may.since
