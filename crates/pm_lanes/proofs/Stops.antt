-- STOPS ALONG A RUN: what never changes of a lane's view stays, its count of calls only grows, and
-- where a lane found the stop word set some lane is at its stop.
use Rattle.std.proofs.Common.{length, ◌≡◌, ◌⊎◌, inl, inr, ⊎_elim, ℕ, zero, suc, ◌+◌, ◌<◌, ◌≤◌, ◌==◌, not}
use Rattle.std.proofs.Common.{Bool, true, false, Contains, List, [], ◌∷◌, Option, None, Some}
use Rattle.std.proofs.Common.{IsSomeAnd, refl, sym, ap, ◌∙◌, subst, arith, eq-eqb}
use Rattle.std.specs.Option.{ForSome}
use Rattle.std.specs.Prelude.{slice_index_or}
use Rattle.std.proofs.lemmas.Bool.{both_ways, cases_eq}
use mathlib.Core.Option.{some}
use lib.ListN.{get_elem?}
use Rattle.pm_view.specs.Counts.{IsAtStop}
use Rattle.pm_view.specs.Log.{Phase, Idle}
use Rattle.pm_view.specs.Steps.{Step}
use Rattle.pm_view.specs.Steps.Step.{Load, Store, Or, And, Flush, Drain, TakeWrite, TakeRead}
use Rattle.pm_view.specs.Steps.Step.{Raise, Give, ZoneTry, ZoneGive, Occupied, Occupy, Vacate}
use Rattle.pm_view.specs.Steps.Step.{Draw, NumberSeen, StopSeen, SetStop, Tell}
use Rattle.pm_view.specs.View.{Constants, View}
use Rattle.pm_view.specs.Views.{after, begun, occupied}
use Rattle.pm_view.specs.declared.occ.Occ.{Occ}
use Rattle.pm_world.specs.Memory.{Memory, StopWord}
use Rattle.pm_world.specs.Moves.{Moves}
use Rattle.pm_world.specs.Runs.{IsRun, IsWorld, LaneStep, Leads, Moment}
use Rattle.pm_world.specs.World.{Opening, Views}
use Rattle.pm_world.proofs.RunsKept.{next_world}
use Rattle.pm_shared.specs.Closings.{Closes}
use Rattle.pm_shared.specs.declared.rule.Beginning.{Beginning}
use Rattle.pm_shared.specs.Openings.{fixed_of, idle_view, opening_of}
use Rattle.pm_lanes.specs.Closed.{AllAreBack, CameToStop, SeenStopsAreReached, StopsAreReached}

-- ---- A STEP

begun_fixed : (phase : Phase) (v : View) → (begun phase v).fixed ≡ v.fixed
begun_fixed Idle v = refl
begun_fixed phase v = refl

begun_calls : (phase : Phase) (v : View) → (begun phase v).calls ≡ v.calls
begun_calls Idle v = refl
begun_calls phase v = refl

-- a call that begins forgets what was seen before
begun_seen : (phase : Phase) (v : View) (s : Step) → Contains (begun phase v).seen s
    → Contains v.seen s
begun_seen Idle v s (i, low, is) = absurd (omega (arith, low))
begun_seen phase v s is = is

occupied_fixed : (won : Bool) (v : View) (at : Occ) (bits : ℕ)
    → (occupied won v at bits).fixed ≡ v.fixed
occupied_fixed true v at bits = refl
occupied_fixed false v at bits = refl

occupied_calls : (won : Bool) (v : View) (at : Occ) (bits : ℕ)
    → (occupied won v at bits).calls ≡ v.calls
occupied_calls true v at bits = refl
occupied_calls false v at bits = refl

occupied_seen : (won : Bool) (v : View) (at : Occ) (bits : ℕ)
    → (occupied won v at bits).seen ≡ v.seen
occupied_seen true v at bits = refl
occupied_seen false v at bits = refl

pub fixed_stays : (v : View) (s : Step) → (after v s).fixed ≡ v.fixed
fixed_stays v (Occupy at bits won) = occupied_fixed won v at bits
fixed_stays v (NumberSeen n) = begun_fixed v.log.phase v
fixed_stays v s = refl

same_or_more : (n m : ℕ) → n ≡ m → m ≤ n
same_or_more n m is = omega (arith, is)

calls_grow : (v : View) (s : Step) → length v.calls ≤ length (after v s).calls
calls_grow v (Occupy at bits won) =
    same_or_more (length (occupied won v at bits).calls) (length v.calls)
    (ap length (occupied_calls won v at bits))
calls_grow v (NumberSeen n) =
    same_or_more (length (begun v.log.phase v).calls) (length v.calls)
    (ap length (begun_calls v.log.phase v))
calls_grow v s = omega arith

reached : (stop : Option ℕ) (n m : ℕ) → n ≤ m → IsSomeAnd stop (λ s. s ≤ n)
    → IsSomeAnd stop (λ s. s ≤ m)
reached None n m more at = at
reached (Some s) n m more at = omega (arith, more, at)

stop_stays : (v : View) (s : Step) → IsAtStop v → IsAtStop (after v s)
stop_stays v s at = subst (λ (c : Constants). IsSomeAnd c.stop (λ n. n ≤ length (after v s).calls))
    (sym (fixed_stays v s)) (reached v.fixed.stop (length v.calls) (length (after v s).calls) (calls_grow v s)
    at)

-- one of the steps seen is the last step, or was seen before
among : (s : Step) (seen : List Step) (t : Step) → Contains (s ∷ seen) t
    → (s ≡ t) ⊎ Contains seen t
among s seen t (zero, low, is) = inl is
among s seen t (suc i, low, is) = inr (i, omega (arith, low), is)

pub saw_so : (v : View) (s t : Step) → Contains (after v s).seen t → (s ≡ t) ⊎ Contains v.seen t
saw_so v (TakeWrite line won) t is = among (TakeWrite line won) v.seen t is
saw_so v (TakeRead line won) t is = among (TakeRead line won) v.seen t is
saw_so v (Raise line won) t is = among (Raise line won) v.seen t is
saw_so v (ZoneTry zone won) t is = among (ZoneTry zone won) v.seen t is
saw_so v (Occupy at bits won) t is = among (Occupy at bits won) v.seen t
    (subst (λ (l : List Step). Contains (Occupy at bits won ∷ l) t)
    (occupied_seen won v at bits) is)
saw_so v (NumberSeen n) t is = ⊎_elim (λ e. inl e)
    (λ c. inr (begun_seen v.log.phase v t c))
    (among (NumberSeen n) (begun v.log.phase v).seen t is)
saw_so v (StopSeen set) t is = among (StopSeen set) v.seen t is
saw_so v s t is = inr is

-- ---- A RUN

-- what never changes of lane k's view
fixed_along : (o : Opening) (turns : List LaneStep) (old new : Moment) → IsRun o old turns new
    → (k : ℕ) → (new.views k).fixed ≡ (old.views k).fixed
unfolding IsRun
fixed_along o [] old new r k = ap (λ (m : Moment). (m.views k).fixed) r
fixed_along o (t ∷ rest) old new r k =
    let led : Leads o old t r.0 = r.1 in
    fixed_along o rest r.0 new r.2 k ∙ ⊎_elim
    (λ (e : k ≡ t.lane). subst (λ i. (r.0.views i).fixed ≡ (old.views i).fixed) (sym e)
    (ap (λ (v : View). v.fixed) led.view.here ∙ fixed_stays (old.views t.lane) t.step))
    (λ (ne : k ≡ t.lane → ⊥). ap (λ (v : View). v.fixed) (led.view.else_ k ne))
    (cases_eq k t.lane)

-- some lane is at its stop, where one saw the stop word set
abbrev SomeStop : Opening → Views → Type 0
SomeStop o views = (j : ℕ) × (j < o.lanes) × IsAtStop (views j)

abbrev StopsShow : Opening → Views → Type 0
StopsShow o views = (k : ℕ) → Contains (views k).seen (StopSeen true) → SomeStop o views

module _ (o : Opening) (old next : Moment) (t : LaneStep) (led : Leads o old t next)
    (x : IsWorld o old) where
  stays : SomeStop o old.views → SomeStop o next.views
  stays s = (
    s.0,
    s.1,
    ⊎_elim
        (λ (e : s.0 ≡ t.lane). subst (λ i. IsAtStop (next.views i)) (sym e)
        (subst IsAtStop (sym led.view.here) (stop_stays (old.views t.lane) t.step
        (subst (λ i. IsAtStop (old.views i)) e s.2))))
        (λ (ne : s.0 ≡ t.lane → ⊥). subst IsAtStop (sym (led.view.else_ s.0 ne)) s.2)
        (cases_eq s.0 t.lane),
  )

  -- a stop word that is found set was set
  found_set : t.step ≡ StopSeen true → SomeStop o old.views
  found_set is =
      let moved : Moves t.lane (StopSeen true) old.mem next.mem =
      subst (λ (s : Step). Moves t.lane s old.mem next.mem) is led.moves in
      ⊎_elim
      (λ (none : old.mem StopWord ≡ 0). absurd (both_ways (old.mem StopWord == 0)
      (clear (old.mem StopWord == 0) moved.1) (eq-eqb (old.mem StopWord) 0 none)))
      (λ some. some) x.stop_word
    where
      clear : (b : Bool) → true ≡ not b → b ≡ false
      clear true is = cc
      clear false is = refl

  show : StopsShow o old.views → StopsShow o next.views
  show known k saw = stays (⊎_elim
      (λ (e : k ≡ t.lane). ⊎_elim found_set (known t.lane)
      (saw_so (old.views t.lane) t.step (StopSeen true)
      (subst (λ (v : View). Contains v.seen (StopSeen true)) led.view.here
      (subst (λ i. Contains (next.views i).seen (StopSeen true)) e saw))))
      (λ (ne : k ≡ t.lane → ⊥). known k
      (subst (λ (v : View). Contains v.seen (StopSeen true)) (led.view.else_ k ne) saw))
      (cases_eq k t.lane))

along : (o : Opening) (turns : List LaneStep) (old new : Moment) → IsWorld o old
    → IsRun o old turns new → StopsShow o old.views → StopsShow o new.views
unfolding IsRun
along o [] old new x r h = subst (λ (m : Moment). StopsShow o m.views) (sym r) h
along o (t ∷ rest) old new x r h =
    let led : Leads o old t r.0 = r.1 in
    along o rest r.0 new
    (next_world o t old r.0 x led) r.2 (show o old r.0 t led x h)

-- ---- AT THE END

module _ (b : Beginning) (back : List View) (words : List ℕ) (closed : Closes b back words) where
  abbrev last : Moment
  last = closed.last

  fixed_then : (k : ℕ) → (last.views k).fixed ≡ fixed_of b k
  fixed_then k =
      fixed_along (opening_of b) closed.run.turns closed.run.begun last closed.run.run k
      ∙ ap (λ (vs : Views). (vs k).fixed) closed.run.begins.views_are

  -- a lane that is at its stop made no call more
  exactly : (stop : Option ℕ) (n : ℕ) → ForSome stop (λ s. n ≤ s) → IsSomeAnd stop (λ s. s ≤ n)
      → stop ≡ Some n
  exactly None n most least = absurd least
  exactly (Some s) n most least =
      let fewer = most s refl in let is : s ≡ n = omega (arith, fewer, least) in
      ap (λ m. Some m) is

  came : (k : ℕ) → k < b.lanes → IsAtStop (last.views k) → (v : View) → last.views k ≡ v
      → v.fixed.lane ≡ k → CameToStop b v
  came k low at v same of_lane =
      let stop = exactly (last.views k).fixed.stop (length (last.views k).calls)
      (closed.world.each_lane k low).within at in
      ap (λ i. slice_index_or b.stops i None) of_lane
      ∙ (sym (ap (λ (c : Constants). c.stop) (fixed_then k))
      ∙ (stop ∙ ap (λ (u : View). Some (length u.calls)) same))

pub own : StopsAreReached
own b back words n v closed there at =
    let is = closed.lanes n v there in
    came b back words closed v.fixed.lane is.0 (subst IsAtStop (sym is.1) at) v is.1 refl

pub seen : SeenStopsAreReached
seen b back words n v closed all there saw =
    let is = closed.lanes n v there in
    let some = along (opening_of b) closed.run.turns closed.run.begun closed.last
    closed.run.begins.world closed.run.run
    (λ k s. absurd (unseen closed.run.begun.views closed.run.begins.views_are k s))
    v.fixed.lane (subst (λ (u : View). Contains u.seen (StopSeen true)) (sym is.1) saw) in
    let other = all some.0 some.1 in
    let here = closed.lanes other.place other.view other.there in (
      some.0,
      some.1,
      other,
      came b back words closed some.0 some.1 some.2 other.view
          (ap closed.last.views (sym other.lane_is) ∙ here.1) other.lane_is,
    )
  where
    -- lanes begin with nothing seen
    unseen : (vs : Views) → vs ≡ idle_view b → (k : ℕ) → Contains (vs k).seen (StopSeen true) → ⊥
    unseen vs is k s =
        let none : Contains (idle_view b k).seen (StopSeen true) =
        subst (λ (us : Views). Contains (us k).seen (StopSeen true)) is s in
        omega (arith, none.1)
