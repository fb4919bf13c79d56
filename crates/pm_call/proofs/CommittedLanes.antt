-- What committing the outermost level leaves of its lane, from how its parts leave it.
use Rattle.std.proofs.Common.{◌≡◌, ℕ, suc, ◌+◌, false, List, [], refl, sym, ap, ◌∙◌, subst, arith, rules, None, Result, Ok, Err, IsErr, take}
use Rattle.pm_memory.specs.Runs.{Stops}
use Rattle.pm_memory.specs.declared.lane_mem.Stopped.{Stopped}
use Rattle.pm_model.specs.declared.stage.Stage.TheVariants as stage
use Rattle.pm_objects.specs.declared.history.TxErr.TheVariants as error
use Rattle.pm_record.specs.declared.redo.Redo.{Redo}
use Rattle.pm_view.specs.Log.{Log}
use Rattle.pm_view.specs.View.{View}
use Rattle.pm_view.specs.Views.{after_all}
use Rattle.pm_world.specs.LaneFields.{Fields, Standing, Works, fields_at, fields_of, last_number, listed, moved}
use Rattle.pm_world.specs.declared.lane.Lane.{Lane}
use Rattle.pm_plan.specs.Plans.{IsMade, IsReady, Runs, in_turn, persists_all}
use Rattle.pm_plan.proofs.Going.{persists_all_lawful}
use Rattle.pm_plan.proofs.Plans.{after_all-append}
use Rattle.pm_undo.specs.Records.{with_log}
use Rattle.pm_undo.specs.Undoing.{KeepsLog}
use Rattle.pm_call.specs.At.{At}
use Rattle.pm_call.specs.Commits.{CommitCut, Committed, CommittedArePast, KnowsEntries, LeavesCommitted}
use Rattle.pm_call.specs.Did.{IsAtSo, IsOver, next}
use Rattle.pm_call.specs.Finishing.{CanFinish, Finished, IsCutShort, StandsAs, TellsNumber, numbered}
use Rattle.pm_call.specs.Plans.{commits, finishes}
use Rattle.pm_call.specs.Stages.{Leaves, unlisted}
use Rattle.pm_call.proofs.FinishedLanes.{cut_silent, stops_silent, stops_then}
use Rattle.pm_call.proofs.LoggedCommits.{can_finish, outermost_levels_may_be_committed}
use Rattle.pm_call.proofs.OverCalls.{over_as}
use Rattle.pm_call.proofs.RollbackLanes.{keeps_at, ran_err, ran_then}
use Rattle.pm_call.proofs.SilentPlans.{silent_persists}
use Rattle.pm_call.proofs.Slotless.{unslotted_unwritten}
use Rattle.pm_call.proofs.SlotlessPlans.{commits_unslotted}
use Rattle.pm_call.proofs.TakenBack.{persisted_log}

-- the lane's fields after it, from those before it
fields_then : (s : Standing) (w : View) (n : ℕ) → w.fixed ≡ s.view.fixed → w.actions ≡ s.view.actions → last_number w.entries ≡ suc n
    → record (numbered n w (fields_at stage.Work s)) { drawn = None; stage = stage.OnCommit } ≡ record (fields_at stage.OnCommit (moved s w)) { entries = [] }
fields_then s w n fixed pending number = λ i. record (fields_at stage.OnCommit (moved s w)) { entries = []; pool = (sym fixed i).pool; pending = listed (sym pending i); last = ((let e : n + 1 ≡ suc n = omega arith in e) ∙ sym number) i }

module _ {M : Type 0} (at : M → View → Type 0) (old : Lane M) where
  abbrev pub Here : Type 0
  Here = IsAtSo at old (λ s. (s.level ≡ 1) × KnowsEntries s)

  pub persist_may : Here → IsReady (at old.memory) persists_all
  unfolding IsReady
  persist_may is = (is.standing.view, (is.works.memory, (persists_all_lawful is.standing.view).0))

  entries_are : (s : Standing) → Works at old s → old.entries.items ≡ s.entries
  entries_are s works = ap (λ (f : Fields). f.entries) works.fields

  may_finish : (s : Standing) → Works at old s → At s → s.level ≡ 1 → KnowsEntries s → CanFinish (after_all s.view (persists_all s.view)) old.entries.items
  may_finish s works is one knows = subst (CanFinish (after_all s.view (persists_all s.view))) (sym (entries_are s works)) (can_finish s is one knows)

  module _ (mem : M) where
    -- all is persistent, and the log as it was
    persisted : IsMade (at old.memory) (at mem) persists_all → (s : Standing) → Works at old s → At s → KeepsLog at (record old { memory = mem }) (after_all s.view (persists_all s.view))
    unfolding Runs
    persisted runs s works is = record {
      memory = runs s.view works.memory (persists_all_lawful s.view).0;
      fields = (keeps_at at old s works).fields
          ∙ (ap (λ (l : Log). with_log (record s.view { log = l }) (fields_of old)) (sym (persisted_log s.view.changes s.view.log is.working.is_open))
          ∙ ap (λ (y : View). with_log y (fields_of old)) (sym (persists_all_lawful s.view).1));
    }

    pub finish_may : Here → IsMade (at old.memory) (at mem) persists_all → StandsAs (KeepsLog at (record old { memory = mem })) (λ v. CanFinish v old.entries.items)
    finish_may is runs = (after_all is.standing.view (persists_all is.standing.view), persisted runs is.standing is.works is.stands, may_finish is.standing is.works is.stands is.holds.0 is.holds.1)

    pub committed_ok : (new : Lane M) → IsMade (at old.memory) (at mem) persists_all → Finished at (record old { memory = mem }) new (Ok tt) → Committed at old (record new { drawn = None; stage = stage.OnCommit }) (Ok tt)
    unfolding Committed Finished in_turn
    committed_ok new runs finished s works is one knows =
        let p : View = after_all s.view (persists_all s.view) in
        let m = finished.2 p (persisted runs s works is) (may_finish s works is one knows) in
        let law : LeavesCommitted s finished.0 finished.1 = outermost_levels_may_be_committed s finished.0 finished.1 is one knows in
        let same : after_all p (finishes old.entries.items finished.0 finished.1 p) ≡ after_all s.view (commits s.entries finished.0 finished.1 s.view) =
        ap (λ (es : List Redo). after_all p (finishes es finished.0 finished.1 p)) (entries_are s works) ∙ sym (after_all-append s.view (persists_all s.view) (finishes s.entries finished.0 finished.1 p)) in
        let w : View = after_all s.view (commits s.entries finished.0 finished.1 s.view) in
        record {
          found = finished.0;
          number = finished.1;
          ready = law.ready;
          sees = record {
            memory = subst (at new.memory) same m.memory;
            fields = ap (λ (g : Fields). record g { drawn = None; stage = stage.OnCommit }) (m.fields ∙ (ap (λ (y : View). numbered finished.1 y (fields_of old)) same ∙ ap (numbered finished.1 w) works.fields))
                ∙ fields_then s w finished.1 law.fixed law.pending law.number;
          };
          over = law.over;
          unrefused = law.unrefused;
        }

    cut_fields : (new : Lane M) (s : Standing) → Works at old s → fields_of new ≡ record (fields_of old) { generation = new.log.generation; records = new.log.records.items; entries = new.entries.items; drawn = new.drawn; last = new.last }
        → fields_of new ≡ record (fields_at stage.Work s) { generation = new.log.generation; records = new.log.records.items; entries = new.entries.items; drawn = new.drawn; last = new.last }
    cut_fields new s works e = e ∙ ap (λ (g : Fields). record g { generation = new.log.generation; records = new.log.records.items; entries = new.entries.items; drawn = new.drawn; last = new.last }) works.fields

    -- it tells its number as it begins
    tells : (s : Standing) → Works at old s → At s → TellsNumber old s.view
    tells s works is = record {
      drawn = ap (λ (f : Fields). f.drawn) works.fields ∙ sym is.number.none;
      last = ap (λ (f : Fields). f.last) works.fields;
    }

    cut_so : (new : Lane M) (s : Standing) (found : ℕ → ℕ) (n : ℕ) → Works at old s → At s
        → LeavesCommitted s found n
        → Stops (λ w. at new.memory w × IsCutShort old new s.view w) s.view
        (commits s.entries found n s.view)
        → CommitCut at new s false
    cut_so new s found n works is law cut = record {
      found = found;
      number = n;
      ready = law.ready;
      stops = record {
        made = cut.made;
        fewer = cut.fewer;
        seen = cut.seen.0;
        stopped = cut.stopped;
        due = cut.due;
      };
      numbered = cut.seen.1.numbered (tells s works is);
      fields = cut_fields new s works cut.seen.1.same;
      facts = law.over.facts;
      unwritten = unslotted_unwritten
          (after_all s.view (take cut.made (commits s.entries found n s.view)))
          (commits_unslotted s.view s.entries found n cut.made is.working is.room law.ready);
    }

    pub persist_cut : (stopped : Stopped) (result : Result (Unit {0}) Stopped) → IsErr result → Runs {T = Unit {0}} (at old.memory) (at mem) persists_all (Err stopped) → Committed at old (record old { memory = mem }) result
    unfolding Committed Runs
    persist_cut stopped (Ok done) error runs s works is one knows = absurd (search rules)
    persist_cut stopped (Err e) error runs s works is one knows =
        let new : Lane M = record old { memory = mem } in
        let law : LeavesCommitted s (λ i. 0) 0 = outermost_levels_may_be_committed s (λ i. 0) 0 is one knows in
        cut_so new s (λ i. 0) 0 works is law
        (ran_err (λ w. at mem w × IsCutShort old new s.view w) s.view persists_all
        (finishes s.entries (λ i. 0) 0) stopped law.ready
        (stops_silent old new at s.view (persists_all s.view) (silent_persists s.view)
        (runs s.view works.memory (persists_all_lawful s.view).0) refl))

    pub finish_cut : (new : Lane M) (stopped : Stopped) (result : Result (Unit {0}) Stopped) → IsErr result → IsMade (at old.memory) (at mem) persists_all → Finished at (record old { memory = mem }) new (Err stopped) → Committed at old new result
    unfolding Committed Finished
    finish_cut new stopped (Ok done) error runs finished s works is one knows = absurd (search rules)
    finish_cut new stopped (Err e) error runs finished s works is one knows =
        let p : View = after_all s.view (persists_all s.view) in
        let mid : Lane M = record old { memory = mem } in
        let m = finished.2 p (persisted runs s works is) (may_finish s works is one knows) in
        let law : LeavesCommitted s finished.0 finished.1 = outermost_levels_may_be_committed s finished.0 finished.1 is one knows in
        cut_so new s finished.0 finished.1 works is law
        (ran_then {T = Unit {0}} (λ w. at new.memory w × IsCutShort old new s.view w) s.view
        persists_all (finishes s.entries finished.0 finished.1) (Err stopped) law.ready
        (stops_then old new at mid s.view p (finishes s.entries finished.0 finished.1 p)
        (cut_silent old mid s.view (persists_all s.view) (silent_persists s.view) refl)
        (subst (λ (es : List Redo). Stops (λ w. at new.memory w × IsCutShort mid new p w) p
        (finishes es finished.0 finished.1 p)) (entries_are s works) m)))

-- ---- A CALL THAT WAS COMMITTED is past its work
pub committed_are_past : {M : Type 0} (at : M → View → Type 0) → CommittedArePast at
committed_are_past at lane s is one_ by = record {
  sees = record { memory = by.sees.memory; fields = by.sees.fields };
  past = record { past = refl; some = is.some; most = is.most; leaves = subst (λ n. Leaves error.None n t) (sym one_) (over, refl) };
}
  where
    t : Standing
    t = unlisted (next s (commits s.entries by.found by.number))

    over : IsOver (unlisted (next s (commits s.entries by.found by.number)))
    over = over_as (next s (commits s.entries by.found by.number)) [] s.level by.over
