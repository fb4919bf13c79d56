-- A LANE STANDS WITH ITS HISTORY TURNED after a call that locks objects: a lock, and a begin of an
-- inner level or of the outermost one.
use Rattle.std.proofs.Common.{◌≡◌, ℕ, ◌+◌, ◌≤◌, true, false, ⊎_elim, List, [], Option, Some, None, Result, Ok, Err, refl, sym, ap, ◌∙◌, subst, arith}
use Rattle.pm_objects.specs.declared.calls.Operation.{Operation}
use Rattle.pm_objects.specs.declared.calls.Operation.TheVariants.{Begin, Lock}
use Rattle.pm_objects.specs.declared.calls.Want.{Want}
use Rattle.pm_objects.specs.declared.history.TxErr.TheVariants as error
use Rattle.pm_objects.specs.declared.history.Value.TheVariants.{Refused}
use Rattle.pm_objects.specs.declared.refusal.Refusal.{Refusal}
use Rattle.pm_objects.specs.declared.refusal.Refusal.TheVariants as refusal
use Rattle.pm_plan.specs.Plans.{one}
use Rattle.pm_view.specs.Steps.Step.{Tell}
use Rattle.pm_view.specs.View.{View}
use Rattle.pm_view.specs.Views.{after, after_all}
use Rattle.pm_world.specs.LaneFields.{Fields, Standing, moved}
use Rattle.pm_world.specs.declared.lane.Lane.{Lane}
use Rattle.pm_call.specs.At.{At}
use Rattle.pm_call.specs.Between.{MayOpen, saw_number}
use Rattle.pm_call.specs.Did.{work_refusal}
use Rattle.pm_call.specs.GivenUp.{with_locks}
use Rattle.pm_call.specs.Histories.{LaneHistory, no_value, told_by, told_last, told_more, turned, turned_open, unless}
use Rattle.pm_call.specs.LockOps.{BeganInner, DeepAs, LockedAs}
use Rattle.pm_call.specs.Locking.{IsLocking, IsOpened, locked_with}
use Rattle.pm_call.specs.Opening.{BegunAs, OutermostBegun, OutermostBegunAs}
use Rattle.pm_call.specs.Planned.{is_recorded_alone}
use Rattle.pm_call.specs.Planned.Planned.{Records}
use Rattle.pm_call.specs.Stages.{at_level}
use Rattle.pm_call.specs.Standing.{HasHistory, Stands, StandsWith}
use Rattle.pm_call.proofs.HasHistories.{by_operations, goes_on, plan_tells, stopped_before}
use Rattle.pm_call.proofs.Standing.{aborted_call_stands, cut_rollback_stands, same_stands, spent_stands, stands_turned, stopped_in, working_stands}
use Rattle.pm_call.proofs.StoppedLanes.{wait_is_stopped}
use Rattle.pm_call.proofs.StoppedNumbers.{ends_untold}
use Rattle.pm_call.proofs.ToldLooks.{nothing_history, saw_history, taken_told, told_open, tried_told, wait_told}
use Rattle.pm_call.proofs.ToldPlans.{tells_history}
use Rattle.pm_call.proofs.UnwrittenRests.{wait_unwritten}
use Rattle.pm_tx.specs.Begins.{LevelBegun, LevelBegunSo}
use Rattle.pm_tx.specs.Locks.{DidLock, DidLockSo}
use Rattle.pm_tx.specs.Standing.{turned_begin}
use Rattle.pm_tx.proofs.LevelBegins.{outside}

module _ {M : Type 0} (at : M → View → Type 0) (old new : Lane M) (h : LaneHistory) where
  -- ---- a lock

  -- an operation that locks objects is only recorded, as what it locked is held
  locking_alone : (op : Operation) (wants : List Want) (level behind : ℕ)
      → IsLocking op wants level behind → is_recorded_alone op ≡ true
  locking_alone (Lock want) wants level behind is = refl
  locking_alone (Begin these) wants level behind is = refl
  locking_alone op wants level behind is = absurd is

  locked_history : (op : Operation) → is_recorded_alone op ≡ true → (v : View) (h : LaneHistory)
      → v.number ≡ None → HasHistory v h → HasHistory (after v (Tell op None)) (told_more op None h)
  unfolding one after_all
  locked_history op alone v h none same = plan_tells (Records op None alone) op None v
      (after v (Tell op None)) h refl refl same (tells_history op None v none)

  locked_turns : (s : Standing) (op : Operation) (wants : List Want) (level : ℕ) → 1 ≤ s.level
      → s.level ≤ 64 → s.view.number ≡ None → HasHistory s.view h
      → (result : Result (Unit {0}) Refusal) → LockedAs at new s op wants level result
      → StandsWith at new (turned new op no_value result h)
  locked_turns s op wants level some most none same (Ok done) l =
      let took = taken_told s wants l.0 l.1.takes in
      working_stands at new (told_more op None h) (locked_with s op wants level l.0) l.4 l.5
      (locked_history op (locking_alone op wants s.level level l.2.is) l.0 h (told_open s.view l.0 took.told none)
      (nothing_history s.view l.0 h took same))
  locked_turns s op wants level some most none same (Err refusal.Stopped) l =
      let tried = tried_told s wants l.1.all l.1.view l.1.tried in
      cut_rollback_stands at new h (with_locks l.1.all (moved s l.1.view)) op (Some (Refused l.0))
      l.2 refl (told_open s.view l.1.view tried.told none)
      (nothing_history s.view l.1.view h tried same) l.3
  locked_turns s op wants level some most none same (Err r) l =
      let tried = tried_told s wants l.0.all l.0.view l.0.tried in
      aborted_call_stands at new h (with_locks l.0.all (moved s l.0.view)) op (Some (Refused r))
      (error.Refused r) some most (λ e. cc) refl (told_open s.view l.0.view tried.told none)
      (nothing_history s.view l.0.view h tried same) l.1

  pub lock_turns : (op : Operation) (wants : List Want) (result : Result (Unit {0}) Refusal)
      → StandsWith at old h → DidLock at old new op wants result
      → StandsWith at new (unless (work_refusal old) (turned new op no_value result h) h)
  unfolding DidLock
  lock_turns op wants result stands did = by (work_refusal old) refl did where
    by : (w : Option Refusal) → work_refusal old ≡ w → DidLockSo w at old new op wants result
        → StandsWith at new (unless w (turned new op no_value result h) h)
    by (Some r) some d = same_stands at old new h stands d.1
    by None none d =
        let here = stands.work none in
        let s = here.0.standing in
        locked_turns s op wants s.level here.0.stands.some here.0.stands.most
        here.0.stands.number.none here.1 result (d s here.0.works here.0.stands)

  module _ (wants : List Want) where
    -- ---- the begin of an inner level

    deep_turns : (s : Standing) → At s → HasHistory s.view h
        → (result : Result (Unit {0}) Refusal) → DeepAs at new s wants result
        → StandsWith at new (turned new (Begin wants) no_value result h)
    deep_turns s is same (Ok done) d = absurd d
    deep_turns s is same (Err refusal.Stopped) d =
        cut_rollback_stands at new h s (Begin wants) (Some (Refused refusal.Deep)) d.0 refl
        is.number.none same d.1
    deep_turns s is same (Err r) d =
        subst (λ q. StandsWith at new (told_last new.last (Begin wants) (Some (Refused q)) h))
        (sym d.0)
        (aborted_call_stands at new h s (Begin wants) (Some (Refused refusal.Deep))
        (error.Refused refusal.Deep) is.some is.most (λ e. cc) refl is.number.none same d.1)

    began_inner_turns : (result : Result (Unit {0}) Refusal) → work_refusal old ≡ None
        → StandsWith at old h → BeganInner at old new wants result
        → StandsWith at new (turned new (Begin wants) no_value result h)
    unfolding BeganInner
    began_inner_turns result none stands began =
        let here = stands.work none in
        let s = here.0.standing in
        let is = here.0.stands in
        ⊎_elim
        (λ d. deep_turns s is here.1 result d.1)
        (λ l. locked_turns s (Begin wants) wants (s.level + 1) is.some is.most is.number.none here.1
        result l.1)
        (began s here.0.works is)

    -- ---- the begin of the outermost level

    begun_turns : (s : Standing) → IsOpened s → HasHistory s.view h
        → (result : Result (Unit {0}) Refusal) → BegunAs at new wants result s
        → StandsWith at new (turned new (Begin wants) no_value result h)
    begun_turns s opened same (Ok done) b =
        let took = taken_told s wants b.view b.takes in
        working_stands at new (told_more (Begin wants) None h)
        (locked_with s (Begin wants) wants 1 b.view) b.works b.leads.stands
        (locked_history (Begin wants) refl b.view h (told_open s.view b.view took.told opened.number.none)
        (nothing_history s.view b.view h took same))
    begun_turns s opened same (Err refusal.Stopped) b =
        let told = wait_told at new s wants b in
        let drawn : new.drawn ≡ None = ap (λ (f : Fields). f.drawn) b.fields in
        stopped_in at new h s.view (Begin wants)
        (ap (λ (f : Fields). f.stopped) b.fields) (wait_is_stopped at new s wants opened.facts b)
        told.told.fixed same
        (ap (λ (x : LaneHistory). x.done) (nothing_history s.view _ h told same).is
        ∙ sym (ap (λ d. (told_by d (Begin wants) None h).done) drawn))
        (ends_untold new.drawn _ drawn (told_open s.view _ told.told opened.number.none))
        (λ n e. refl) (λ _. wait_unwritten at new s wants opened.working b)
        (stopped_before (Begin wants) (Records (Begin wants) None refl) _ h
        (told_by new.drawn (Begin wants) None h) refl
        (by_operations new.drawn (Begin wants) None h (goes_on s.view h same))
        (nothing_history s.view _ h told same))
    begun_turns s opened same (Err r) b =
        let tried = tried_told s wants b.all b.view b.tried in
        aborted_call_stands at new h (at_level 1 (with_locks b.all (moved s b.view))) (Begin wants)
        (Some (Refused r)) (error.Refused r) (omega arith) (omega arith) (λ e. cc) refl
        (told_open s.view b.view tried.told opened.number.none)
        (nothing_history s.view b.view h tried same) b.ended

    opened_turns : (s : Standing) → s.level ≡ 0 → MayOpen s → HasHistory s.view h
        → h.call ≡ [] → (result : Result (Unit {0}) Refusal)
        → OutermostBegunAs at new wants result s
        → StandsWith at new (turned_open new (Begin wants) result h)
    opened_turns s outside may same none (Err refusal.Spent) b =
        spent_stands at new h s outside may b same none
    opened_turns s outside may same none result b =
        begun_turns (saw_number s b.number) b.opened (saw_history s b.number h same none) result
        b.holds

    begun_outermost_turns : (result : Result (Unit {0}) Refusal) → old.stopped ≡ false
        → old.level ≡ 0 → StandsWith at old h → OutermostBegun at old new wants result
        → StandsWith at new (turned_open new (Begin wants) result h)
    unfolding OutermostBegun
    begun_outermost_turns result going outside stands begun =
        let here = stands.between going outside in
        let s = here.0.standing in
        opened_turns s (sym (ap (λ (f : Fields). f.level) here.0.rests.fields) ∙ outside)
        here.0.between here.1 here.2 result (begun s here.0.rests here.0.between)

    -- ---- a begin

    pub begun_level_turns : (result : Result (Unit {0}) Refusal) → StandsWith at old h
        → LevelBegun at old new wants result
        → StandsWith at new (turned_begin (work_refusal old) new wants result h)
    unfolding LevelBegun
    begun_level_turns result stands begun = by (work_refusal old) refl begun where
      by : (w : Option Refusal) → work_refusal old ≡ w → LevelBegunSo w at old new wants result
          → StandsWith at new (turned_begin w new wants result h)
      by None none b = began_inner_turns result none stands b
      by (Some refusal.NoTx) is b =
          let o = outside old.stopped old.stage old.level is in
          begun_outermost_turns result o.0 o.1 stands b
      by (Some r) is b = same_stands at old new h stands b.1

-- ---- SO IT STANDS, with whatever history

module _ {M : Type 0} (at : M → View → Type 0) (old new : Lane M) where
  pub lock_stands : (op : Operation) (wants : List Want) (result : Result (Unit {0}) Refusal)
      → Stands at old → DidLock at old new op wants result → Stands at new
  lock_stands op wants result stands did =
      stands_turned at old new _
      (λ h w. lock_turns at old new h op wants result w did) stands

  pub begun_level_stands : (wants : List Want) (result : Result (Unit {0}) Refusal) → Stands at old
      → LevelBegun at old new wants result → Stands at new
  begun_level_stands wants result stands did =
      stands_turned at old new _
      (λ h w. begun_level_turns at old new h wants result w did) stands
