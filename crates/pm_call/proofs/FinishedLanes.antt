-- How the parts of a commit leave their lane, from how their own parts leave it.
use Rattle.std.proofs.Common.{◌≡◌, ◌≢◌, ℕ, suc, ◌+◌, ◌^◌, ◌<◌, ◌==◌, cond, List, [], ◌∷◌, length, map, take, refl, sym, ap, ◌∙◌, subst, arith, rules, None, Some, Result, Ok, Err, IsErr}
use Rattle.std.proofs.lemmas.Bool.{cond-false, ne_eqb}
use Rattle.pm_memory.specs.Runs.{Stops}
use Rattle.pm_memory.specs.declared.lane_mem.Stopped.{Stopped}
use Rattle.pm_objects.specs.declared.calls.Operation.{Operation}
use Rattle.pm_objects.specs.declared.calls.Operation.TheVariants.{Commit}
use Rattle.pm_record.specs.declared.redo.Redo.{Redo}
use Rattle.pm_view.specs.Log.{Idle, Recorded, next_log}
use Rattle.pm_view.specs.Steps.{Step}
use Rattle.pm_view.specs.View.{View}
use Rattle.pm_view.specs.Views.{after_all}
use Rattle.pm_world.specs.LaneFields.{Fields, IsSeenAs, fields_of, kept_of, last_number}
use Rattle.pm_world.specs.declared.lane.Lane.{Lane}
use Rattle.pm_plan.specs.Plans.{IsMade, Ready, Runs, in_turn, one}
use Rattle.pm_plan.proofs.Plans.{after_all-append, ready_both}
use Rattle.pm_redo.specs.Calls.{Logged, MayLog, Performed}
use Rattle.pm_redo.specs.Entries.{listed_entries}
use Rattle.pm_redo.specs.Plans.{performs, writes_log}
use Rattle.pm_redo.specs.Stages.{CanSeal, drained_as}
use Rattle.pm_redo.proofs.LogWritten.{log_lawful}
use Rattle.pm_redo.proofs.Performed.{perform_lawful}
use Rattle.pm_undo.specs.Plans.{retires}
use Rattle.pm_undo.specs.Records.{with_log}
use Rattle.pm_undo.specs.Undoing.{KeepsLog, LogMoves, Retired, Stands}
use Rattle.pm_undo.specs.Working.{CanRetire}
use Rattle.pm_undo.proofs.Retired.{retire_lawful}
use Rattle.pm_call.specs.Finishing.{CanEndRecords, CanFinish, CanLogCall, CanNumber, EndedRecords, Finished, FinishedAs, FinishedEntries, FinishedRecords, IsCutShort, KeepsCall, PerformedCall, PerformedEntries, StandsAs, numbered}
use Rattle.pm_call.specs.GivenUp.{MayEnd, MovesLog}
use Rattle.pm_call.specs.Plans.{ends_call, ends_records, finishes, logs_entries, performs_call}
use Rattle.pm_call.proofs.RollbackLanes.{ran_err, ran_then, records_so, same_moves}
use Rattle.pm_call.proofs.SilentPlans.{AreSilent, IsAsTold, silent_ends_records, silent_log, silent_performs, silent_so_far, silent_steps}

pub no_items : {A : Type 0} (xs : List A) → length xs ≡ 0 → xs ≡ []
no_items [] e = refl
no_items (x ∷ xs) e = absurd (omega (arith, e))

-- ---- the plans

ends_none : (v : View) → v.log.records ≡ [] → ends_records v ≡ []
ends_none v e = ap (λ rs. cond (length rs == 0) [] (retires v)) e

ends_some : (v : View) → length v.log.records ≢ 0 → ends_records v ≡ retires v
ends_some v some = cond-false (length v.log.records == 0) [] (retires v) (ne_eqb (length v.log.records) 0 some)

ends_ready : (v : View) → CanEndRecords v → Ready v (ends_records v)
unfolding CanEndRecords Ready
ends_ready v can = by v.log.records refl
  where
    by : (rs : List Recorded) → v.log.records ≡ rs → Ready v (ends_records v)
    by [] none = subst (Ready v) (sym (ends_none v none)) tt
    by (r ∷ rs) are = subst (Ready v) (sym (ends_some v (λ e. absurd (let z : suc (length rs) ≡ 0 = sym (ap length are) ∙ e in omega (arith, z)))))
        (retire_lawful v (can (λ e. absurd (let z : r ∷ rs ≡ [] = sym are ∙ e in cc)))).0

no_record : (sh : Rattle.pm_layout.specs.declared.shape.Shape.Shape) (rs : List Recorded) → map (kept_of sh) rs ≡ [] → rs ≡ []
no_record sh [] e = refl
no_record sh (r ∷ rs) e = absurd cc

finishes_some : (es : List Redo) (found : ℕ → ℕ) (n : ℕ) → length es ≢ 0 → finishes es found n ≡ logs_entries Commit es found n
finishes_some [] found n some = absurd (some refl)
finishes_some (e ∷ es) found n some = refl

can_some : (v : View) (es : List Redo) → length es ≢ 0 → CanFinish v es → CanLogCall v Commit es
unfolding CanFinish
can_some v [] some can = absurd (some refl)
can_some v (e ∷ es) some can = can

can_none : (v : View) (es : List Redo) → es ≡ [] → CanFinish v es → CanNumber v Commit CanEndRecords
unfolding CanFinish
can_none v es e can = subst (CanFinish v) e can

-- a number that is taken changes nothing of the log's records and entries
same_log : (op : Operation) (v : View) (n : ℕ) (f : Fields) → with_log (after_all v (ends_call op None n v)) f ≡ with_log v f
unfolding in_turn one after_all
same_log op v n f = refl

same_entries : (op : Operation) (v : View) (n : ℕ) → listed_entries (after_all v (ends_call op None n v)) ≡ listed_entries v
unfolding in_turn one after_all
same_entries op v n = refl

same_generation : (op : Operation) (v : View) (n : ℕ) → (after_all v (ends_call op None n v)).log.generation ≡ v.log.generation
unfolding in_turn one after_all
same_generation op v n = refl

same_shape : (op : Operation) (v : View) (n : ℕ) → (after_all v (ends_call op None n v)).fixed.shape ≡ v.fixed.shape
unfolding in_turn one after_all
same_shape op v n = refl

-- ---- CUT SHORT, on the way from one view to another

module _ {M : Type 0} (old new : Lane M) where
  -- of the fields these may be others
  abbrev cut_of : Fields → Fields
  cut_of f = record f {
    generation = new.log.generation;
    records = new.log.records.items;
    entries = new.entries.items;
    drawn = new.drawn;
    last = new.last;
  }

  -- nothing was told, and no number was taken
  cut_untold : (v w : View) → IsAsTold v w → new.drawn ≡ old.drawn → new.last ≡ old.last
      → fields_of new ≡ cut_of (fields_of old) → IsCutShort old new v w
  cut_untold v w told drawn last same = record {
    numbered = λ tells. record {
      drawn = drawn ∙ (tells.drawn ∙ sym told.number);
      last = last ∙ (tells.last ∙ ap last_number (sym told.entries));
    };
    same = same;
  }

  -- all of these steps were made
  pub cut_silent : (v : View) (steps : List Step) → AreSilent steps
      → fields_of new ≡ fields_of old → IsCutShort old new v (after_all v steps)
  cut_silent v steps silent same = cut_untold v (after_all v steps) (silent_steps v steps silent)
      (ap (λ (f : Fields). f.drawn) same) (ap (λ (f : Fields). f.last) same) (ap cut_of same)

  -- once the call took its number
  cut_drawn : (op : Operation) (n : ℕ) (v : View)
      → new ≡ record old { memory = new.memory; drawn = Some (n + 1); last = n + 1 }
      → IsCutShort old new v (after_all v (ends_call op None n v))
  unfolding in_turn one after_all
  cut_drawn op n v same =
      let more : n + 1 ≡ suc n = omega arith in record {
        numbered = λ tells. record {
          drawn = ap (λ (l : Lane M). l.drawn) same ∙ ap (λ k. Some k) more;
          last = ap (λ (l : Lane M). l.last) same ∙ more;
        };
        same = ap (λ (l : Lane M). cut_of (fields_of l)) same;
      }

  -- a part before, and a part after
  cut_then : (mid : Lane M) (v w z : View) → IsCutShort old mid v w → IsCutShort mid new w z
      → IsCutShort old new v z
  cut_then mid v w z first more = record {
    numbered = λ tells. more.numbered (first.numbered tells);
    same = more.same ∙ ap cut_of first.same;
  }

  module _ (at : M → View → Type 0) where
    -- it stopped in silent steps, with its fields as before
    pub stops_silent : (v : View) (steps : List Step) → AreSilent steps
        → Stops (at new.memory) v steps → fields_of new ≡ fields_of old
        → Stops (λ w. at new.memory w × IsCutShort old new v w) v steps
    stops_silent v steps silent stops same = record {
      made = stops.made;
      fewer = stops.fewer;
      seen = (
        stops.seen,
        cut_untold v (after_all v (take stops.made steps))
            (silent_so_far v steps stops.made silent) (ap (λ (f : Fields). f.drawn) same)
            (ap (λ (f : Fields). f.last) same) (ap cut_of same),
      );
      stopped = stops.stopped;
      due = stops.due;
    }

    -- it stopped after a part that was made
    pub stops_then : (mid : Lane M) (v w : View) (steps : List Step) → IsCutShort old mid v w
        → Stops (λ z. at new.memory z × IsCutShort mid new w z) w steps
        → Stops (λ z. at new.memory z × IsCutShort old new v z) w steps
    stops_then mid v w steps first stops = record {
      made = stops.made;
      fewer = stops.fewer;
      seen = (
        stops.seen.0,
        cut_then mid v w (after_all w (take stops.made steps)) first stops.seen.1,
      );
      stopped = stops.stopped;
      due = stops.due;
    }

module _ {M : Type 0} (at : M → View → Type 0) (old : Lane M) where
  -- ---- records end
  some_records : (v : View) → KeepsLog at old v → length old.log.records.items ≢ 0 → v.log.records ≢ []
  some_records v keeps some e = some (ap length (records_so at old v keeps) ∙ ap (λ rs. length (map (kept_of v.fixed.shape) rs)) e)

  pub retire_may : StandsAs (KeepsLog at old) CanEndRecords → length old.log.records.items ≢ 0 → Stands at old CanRetire
  unfolding CanEndRecords
  retire_may is some = (is.0, is.1, is.2 (some_records is.0 is.1 some))

  pub ended_none : old.log.records.items ≡ [] → EndedRecords at old old (Ok tt)
  unfolding EndedRecords after_all
  ended_none none v keeps may = subst (λ steps. LogMoves at old old (after_all v steps)) (sym (ends_none v (no_record v.fixed.shape v.log.records (sym (records_so at old v keeps) ∙ none)))) keeps

  pub ended_some : (new : Lane M) (result : Result (Unit {0}) Stopped) → length old.log.records.items ≢ 0 → Retired at old new result → EndedRecords at old new result
  unfolding EndedRecords Retired CanEndRecords
  ended_some new result some retired v keeps may = same_moves at old new retires ends_records v result
      (sym (ends_some v (λ e. some (ap length (records_so at old v keeps) ∙ (Rattle.std.proofs.lemmas.List.length-map v.log.records (kept_of v.fixed.shape) ∙ e)))))
      (moves result (retired v keeps (may (some_records v keeps some))))
    where
      moves : (r : Result (Unit {0}) Stopped) → Rattle.pm_undo.specs.Undoing.RetiredAs at v old new r → MovesLog at old new retires v r
      moves (Ok done) m = m
      moves (Err stopped) m = m

  -- ---- the call is numbered
  pub may_number : (op : Operation) (Keeps : View → Type 0) (P : View → Type 0) → ((v : View) → Keeps v → at old.memory v) → StandsAs Keeps (λ v. CanNumber v op P) → MayEnd (at old.memory) op None
  unfolding MayEnd
  may_number op Keeps P seen is = (is.0, seen is.0 is.1, is.2.ready)

  module _ (op : Operation) (mid : Lane M) (n : ℕ) (same : mid ≡ record old { memory = mid.memory; drawn = Some (n + 1); last = n + 1 }) (made : IsMade (at old.memory) (at mid.memory) (ends_call op None n)) where
    memory_then : (v : View) → at old.memory v → Ready v (ends_call op None n v) → at mid.memory (after_all v (ends_call op None n v))
    unfolding Runs
    memory_then v seen ready = made v seen ready

    keeps_numbered : (v : View) → KeepsLog at old v → Ready v (ends_call op None n v) → KeepsLog at mid (after_all v (ends_call op None n v))
    keeps_numbered v keeps ready = record {
      memory = memory_then v keeps.memory ready;
      fields = ap fields_of same
          ∙ (ap (λ (f : Fields). record f { drawn = Some (n + 1); last = n + 1 }) keeps.fields
          ∙ (sym (same_log op v n (record (fields_of old) { drawn = Some (n + 1); last = n + 1 }))
          ∙ ap (with_log (after_all v (ends_call op None n v))) (sym (ap fields_of same))));
    }

    call_numbered : (v : View) → KeepsCall at old v → Ready v (ends_call op None n v) → KeepsCall at mid (after_all v (ends_call op None n v))
    call_numbered v keeps ready = record {
      keeps = record {
        memory = memory_then v keeps.keeps.memory ready;
        shape = ap (λ (l : Lane M). l.shape) same ∙ (keeps.keeps.shape ∙ sym (same_shape op v n));
        entries = ap (λ (l : Lane M). l.entries.items) same ∙ (keeps.keeps.entries ∙ sym (same_entries op v n));
      };
      generation = ap (λ (l : Lane M). l.log.generation) same ∙ (keeps.generation ∙ sym (same_generation op v n));
    }

    pub records_stand : StandsAs (KeepsLog at old) (λ v. CanNumber v op CanEndRecords) → StandsAs (KeepsLog at mid) CanEndRecords
    records_stand is = (after_all is.0 (ends_call op None n is.0), keeps_numbered is.0 is.1 (is.2.ready n), is.2.then n)

    pub call_stands : StandsAs (KeepsCall at old) (λ v. CanNumber v op CanSeal) → StandsAs (KeepsCall at mid) CanSeal
    call_stands is = (after_all is.0 (ends_call op None n is.0), call_numbered is.0 is.1 (is.2.ready n), is.2.then n)

    -- it stopped in silent steps after that
    stops_numbered : (new : Lane M) (v : View) (steps : List Step) → AreSilent steps
        → Stops (at new.memory) (after_all v (ends_call op None n v)) steps
        → fields_of new ≡ fields_of mid
        → Stops (λ z. at new.memory z × IsCutShort old new v z)
        (after_all v (ends_call op None n v)) steps
    stops_numbered new v steps silent stops fields =
        let w : View = after_all v (ends_call op None n v) in
        stops_then old new at mid v w steps (cut_drawn old mid op n v same)
        (stops_silent mid new at w steps silent stops fields)

    pub finished_records : (new : Lane M) (result : Result (Unit {0}) Stopped) → old.entries.items ≡ [] → EndedRecords at mid new result → FinishedRecords at op old new result
    unfolding FinishedRecords EndedRecords in_turn
    finished_records new (Ok done) empty ended = (
      n,
      λ v keeps can.
          let w : View = after_all v (ends_call op None n v) in
          let m : LogMoves at mid new (after_all w (ends_records w)) = ended w (keeps_numbered v keeps (can.ready n)) (can.then n) in
          subst (λ (z : View). IsSeenAs at new z (numbered n z (fields_of old))) (sym (after_all-append v (ends_call op None n v) (ends_records w))) (record {
            memory = m.memory;
            fields = m.fields
                ∙ (ap (λ (l : Lane M). with_log (after_all w (ends_records w)) (fields_of l)) same
                ∙ ap (λ (es : List Redo). record (with_log (after_all w (ends_records w)) (fields_of old)) { entries = es; drawn = Some (n + 1); last = n + 1 }) empty);
          }),
    )
    finished_records new (Err stopped) empty ended = (
      n,
      λ v keeps can.
          let w : View = after_all v (ends_call op None n v) in
          let m = ended w (keeps_numbered v keeps (can.ready n)) (can.then n) in
          ran_then {T = Unit {0}} (λ z. at new.memory z × IsCutShort old new v z) v
          (ends_call op None n) ends_records (Err stopped)
          (ready_both v (ends_call op None n v) (ends_records w) (can.ready n)
          (ends_ready w (can.then n)))
          (stops_numbered new v (ends_records w) (silent_ends_records w) m.0 m.1),
    )

    pub performed_call : (new : Lane M) (result : Result (Unit {0}) Stopped) → PerformedEntries at mid new result → PerformedCall at op old new result
    unfolding PerformedCall PerformedEntries in_turn
    performed_call new (Ok done) performed = (
      performed.0,
      n,
      λ v keeps can.
          let w : View = after_all v (ends_call op None n v) in
          let m = performed.1 w (call_numbered v keeps (can.ready n)) (can.then n) in
          subst (λ (z : View). IsSeenAs at new z (numbered n z (fields_of old))) (sym (after_all-append v (ends_call op None n v) (performs performed.0 w))) (record {
            memory = m.memory;
            fields = m.fields ∙ ap (λ (l : Lane M). record (with_log (after_all w (performs performed.0 w)) (fields_of l)) { entries = [] }) same;
          }),
    )
    performed_call new (Err stopped) performed = (
      performed.0,
      n,
      λ v keeps can.
          let w : View = after_all v (ends_call op None n v) in
          let m = performed.1 w (call_numbered v keeps (can.ready n)) (can.then n) in
          ran_then {T = Unit {0}} (λ z. at new.memory z × IsCutShort old new v z) v
          (ends_call op None n) (performs performed.0) (Err stopped)
          (ready_both v (ends_call op None n v) (performs performed.0 w) (can.ready n)
          (perform_lawful w performed.0 (can.then n)).0)
          (stops_numbered new v (performs performed.0 w) (silent_performs performed.0 w) m.0
          m.1),
    )

  -- ---- entries are performed
  pub next_fits : (mid : Lane M) → StandsAs (KeepsCall at old) CanSeal → Performed at old mid (Ok tt) → mid.log.generation < 2 ^ 62
  unfolding Performed
  next_fits mid is performed =
      let r = performed.1 is.0 is.1.keeps is.2 in
      subst (λ k. k < 2 ^ 62) (sym (ap (λ (l : Lane M). l.log.generation) r.1.1 ∙ is.1.generation)) (let b = is.2.log_.below in omega (arith, b))

  pub performed_ok : (mid : Lane M) → Performed at old mid (Ok tt) → PerformedEntries at old (record mid { log = record mid.log { generation = mid.log.generation + 1 } }) (Ok tt)
  unfolding PerformedEntries Performed
  performed_ok mid performed = (
    performed.0,
    λ v keeps can.
        let r = performed.1 v keeps.keeps can in
        let w : View = after_all v (performs performed.0 v) in
        let is : w ≡ drained_as v w (next_log Idle v.log) = (perform_lawful v performed.0 can).1.same in
        let none : mid.entries.items ≡ [] = r.0.entries ∙ ap listed_entries is in
        record {
          memory = r.0.memory;
          fields = ap (λ (l : Lane M). fields_of (record l { log = record l.log { generation = l.log.generation + 1 } })) r.1.1
              ∙ ((λ i. record (fields_of old) { shape = keeps.keeps.shape i; generation = keeps.generation i + 1; records = r.1.0 i; entries = none i })
              ∙ sym (ap (λ (y : View). record (with_log y (fields_of old)) { entries = [] }) is));
        },
  )

  pub performed_err : (mid : Lane M) (stopped : Stopped) (result : Result (Unit {0}) Stopped) → IsErr result → Performed at old mid (Err stopped) → PerformedEntries at old mid result
  unfolding PerformedEntries Performed
  performed_err mid stopped (Ok done) error performed = absurd (search rules)
  performed_err mid stopped (Err e) error performed = (performed.0, λ v keeps can. let r = performed.1 v keeps.keeps can in (r.0, ap fields_of r.1))

  -- ---- they are logged before
  logged_ready : (op : Operation) (v : View) (es : List Redo) (found : ℕ → ℕ) (n : ℕ) → CanLogCall v op es → Ready v (logs_entries op es found n v)
  unfolding in_turn
  logged_ready op v es found n can =
      let w : View = after_all v (writes_log es v) in
      ready_both v (writes_log es v) (performs_call op found n w) (log_lawful v es can.logs).0
      (ready_both w (ends_call op None n w) (performs found (after_all w (ends_call op None n w))) (can.numbers.ready n) (perform_lawful (after_all w (ends_call op None n w)) found (can.numbers.then n)).0)

  module _ (op : Operation) (mid : Lane M) where
    logged_keeps : Logged at old.log.generation old mid (Ok tt) → (v : View) → MayLog at old old.log.generation v → CanLogCall v op old.entries.items → KeepsCall at mid (after_all v (writes_log old.entries.items v))
    unfolding Logged
    logged_keeps logged v may can = let r = logged v may in record {
      keeps = r.0;
      generation = ap (λ (l : Lane M). l.log.generation) r.1 ∙ (may.generation_ ∙ sym (ap (λ (y : View). y.log.generation) (log_lawful v old.entries.items can.logs).1.same));
    }

    logged_same : Logged at old.log.generation old mid (Ok tt) → (v : View) → MayLog at old old.log.generation v → mid ≡ record old { memory = mid.memory; entries = mid.entries }
    unfolding Logged
    logged_same logged v may = (logged v may).1

    logged_cut : Logged at old.log.generation old mid (Ok tt) → (v : View) → MayLog at old old.log.generation v → IsCutShort old mid v (after_all v (writes_log old.entries.items v))
    logged_cut logged v may =
        let same = logged_same logged v may in
        cut_untold old mid v (after_all v (writes_log old.entries.items v))
        (silent_steps v (writes_log old.entries.items v) (silent_log old.entries.items v))
        (ap (λ (l : Lane M). l.drawn) same) (ap (λ (l : Lane M). l.last) same)
        (ap (λ (l : Lane M). cut_of old mid (fields_of l)) same)

    pub logged_stands : StandsAs (MayLog at old old.log.generation) (λ v. CanLogCall v op old.entries.items) → Logged at old.log.generation old mid (Ok tt) → StandsAs (KeepsCall at mid) (λ v. CanNumber v op CanSeal)
    logged_stands is logged = (after_all is.0 (writes_log old.entries.items is.0), logged_keeps logged is.0 is.1 is.2, is.2.numbers)

    pub finished_entries : (new : Lane M) (result : Result (Unit {0}) Stopped) → Logged at old.log.generation old mid (Ok tt) → PerformedCall at op mid new result → FinishedEntries at op old new result
    unfolding FinishedEntries PerformedCall in_turn
    finished_entries new (Ok done) logged performed = (
      performed.0,
      performed.1,
      λ v may can.
          let w : View = after_all v (writes_log old.entries.items v) in
          let m = performed.2 w (logged_keeps logged v may can) can.numbers in
          subst (λ (z : View). IsSeenAs at new z (numbered performed.1 z (fields_of old))) (sym (after_all-append v (writes_log old.entries.items v) (performs_call op performed.0 performed.1 w))) (record {
            memory = m.memory;
            fields = m.fields ∙ ap (λ (l : Lane M). numbered performed.1 (after_all w (performs_call op performed.0 performed.1 w)) (fields_of l)) (logged_same logged v may);
          }),
    )
    finished_entries new (Err stopped) logged performed = (
      performed.0,
      performed.1,
      λ v may can.
          let w : View = after_all v (writes_log old.entries.items v) in
          let m = performed.2 w (logged_keeps logged v may can) can.numbers in
          ran_then {T = Unit {0}} (λ z. at new.memory z × IsCutShort old new v z) v
          (writes_log old.entries.items) (performs_call op performed.0 performed.1)
          (Err stopped) (logged_ready op v old.entries.items performed.0 performed.1 can)
          (stops_then old new at mid v w (performs_call op performed.0 performed.1 w)
          (logged_cut logged v may) m),
    )

    pub logged_err : (stopped : Stopped) (result : Result (Unit {0}) Stopped) → IsErr result → Logged at old.log.generation old mid (Err stopped) → FinishedEntries at op old mid result
    unfolding FinishedEntries Logged
    logged_err stopped (Ok done) error logged = absurd (search rules)
    logged_err stopped (Err e) error logged = (
      (λ i. 0),
      0,
      λ v may can.
          let r = logged v may in
          ran_err (λ w. at mid.memory w × IsCutShort old mid v w) v (writes_log old.entries.items)
          (performs_call op (λ i. 0) 0) stopped
          (logged_ready op v old.entries.items (λ i. 0) 0 can)
          (stops_silent old mid at v (writes_log old.entries.items v)
          (silent_log old.entries.items v) r.0 (ap fields_of r.1)),
    )

  -- ---- the call is finished
  abbrev pub MayFinish : Type 0
  MayFinish = StandsAs (KeepsLog at old) (λ v. CanFinish v old.entries.items)

  may_log : (v : View) → KeepsLog at old v → CanLogCall v Commit old.entries.items → MayLog at old old.log.generation v
  may_log v keeps can = record { memory = keeps.memory; shape = ap (λ (f : Fields). f.shape) keeps.fields; generation_ = ap (λ (f : Fields). f.generation) keeps.fields; can = can.logs }

  pub records_may : MayFinish → old.entries.items ≡ [] → StandsAs (KeepsLog at old) (λ v. CanNumber v Commit CanEndRecords)
  records_may is none = (is.0, is.1, can_none is.0 old.entries.items none is.2)

  pub entries_may : MayFinish → length old.entries.items ≢ 0 → StandsAs (MayLog at old old.log.generation) (λ v. CanLogCall v Commit old.entries.items)
  entries_may is some = let can = can_some is.0 old.entries.items some is.2 in (is.0, may_log is.0 is.1 can, can)

  pub finished_none : (new : Lane M) (result : Result (Unit {0}) Stopped) → old.entries.items ≡ [] → FinishedRecords at Commit old new result → Finished at old new result
  unfolding Finished FinishedRecords
  finished_none new result none finished = (
    (λ i. 0),
    finished.0,
    λ v keeps can.
        subst (λ (es : List Redo). FinishedAs at old new (finishes es (λ i. 0) finished.0) finished.0 v result) (sym none) (finished.1 v keeps (can_none v old.entries.items none can)),
  )

  pub finished_some : (new : Lane M) (result : Result (Unit {0}) Stopped) → length old.entries.items ≢ 0 → FinishedEntries at Commit old new result → Finished at old new result
  unfolding Finished FinishedEntries
  finished_some new result some finished = (
    finished.0,
    finished.1,
    λ v keeps can.
        let logs = can_some v old.entries.items some can in
        subst (λ (plan : Rattle.pm_plan.specs.Plans.Plan). FinishedAs at old new plan finished.1 v result) (sym (finishes_some old.entries.items finished.0 finished.1 some)) (finished.2 v (may_log v keeps logs) logs),
  )
