-- How a rollback leaves its lane, from how its parts leave it.
use Rattle.std.proofs.Common.{◌≡◌, ◌≢◌, ℕ, suc, ◌+◌, ◌^◌, ◌<◌, ◌==◌, true, false, cond, List, [], ◌∷◌, length, map, refl, sym, ap, ◌∙◌, subst, arith, rules, Option, Some, Result, Ok, Err, IsErr}
use Rattle.std.proofs.lemmas.Bool.{cond-false, ne_eqb}
use Rattle.pm_memory.specs.Runs.{Made, Ran, Stops}
use Rattle.pm_memory.specs.declared.lane_mem.Stopped.{Stopped}
use Rattle.pm_model.specs.declared.stage.Stage.TheVariants as stage
use Rattle.pm_objects.specs.declared.calls.Operation.{Operation}
use Rattle.pm_objects.specs.declared.history.TxErr.{TxErr}
use Rattle.pm_objects.specs.declared.history.TxErr.TheVariants as error
use Rattle.pm_objects.specs.declared.history.Value.{Value}
use Rattle.pm_objects.specs.declared.history.Value.TheVariants.{Refused}
use Rattle.pm_objects.specs.declared.refusal.Refusal.{Refusal}
use Rattle.pm_objects.specs.declared.refusal.Refusal.TheVariants as refusal
use Rattle.pm_view.specs.Log.{Log, Recorded}
use Rattle.pm_view.specs.Steps.{Step}
use Rattle.pm_view.specs.Steps.Step.{Draw, Tell}
use Rattle.pm_view.specs.View.{View}
use Rattle.pm_view.specs.Views.{after, after_all}
use Rattle.pm_world.specs.LaneFields.{Fields, Standing, Works, fields_at, fields_of, kept_of, listed, moved}
use Rattle.pm_world.specs.Lawful.{Allowed}
use Rattle.pm_world.specs.declared.lane.HeldLock.{HeldLock}
use Rattle.pm_world.specs.declared.lane.KeptRecord.{KeptRecord}
use Rattle.pm_world.specs.declared.lane.Lane.{Lane}
use Rattle.pm_plan.specs.Plans.{IsMade, IsReady, Plan, Ready, Runs, in_turn, one, persists_all}
use Rattle.pm_plan.proofs.Going.{persists_all_lawful}
use Rattle.pm_plan.proofs.Plans.{after_all-append, ready_right, runs_err, runs_then}
use Rattle.pm_undo.specs.Plans.{restores, retires}
use Rattle.pm_undo.specs.Records.{kept_by, with_log}
use Rattle.pm_undo.specs.Undoing.{KeepsLog, LogMoves, Restored, Retired, Stands}
use Rattle.pm_undo.specs.Working.{CanRetire, IsWorking}
use Rattle.pm_undo.proofs.Restored.{restore_lawful}
use Rattle.pm_call.specs.At.{IsAtWith}
use Rattle.pm_call.specs.Did.{Cut, given_up, next}
use Rattle.pm_call.specs.GivenUp.{GivenUp, GivesUp, GivesUpFor, IsAtBut, MayEnd, MovedLog, MovesLog, Refuses, WasGivenUp, with_locks}
use Rattle.pm_call.specs.Plans.{ends_call, gives_up, takes_back}
use Rattle.pm_call.proofs.GivingUp as giving
use Rattle.pm_call.proofs.GivingUp.{ends_at, leaves_over, actions_same, taken_at}
use Rattle.pm_call.proofs.TakenBack.{may_retire, persisted_log, undo_ready}

-- ---- two plans in turn, from one view
pub ran_then : {T : Type 0} (new : View → Type 0) (v : View) (s t : Plan) (result : Result T Stopped) → Ready v (in_turn s t v) → Ran new (after_all v (s v)) (t (after_all v (s v))) result → Ran new v (in_turn s t v) result
unfolding Runs
ran_then new v s t result ready ran = runs_then {T = Unit {0}} (λ w. w ≡ v) (λ w. w ≡ after_all v (s v)) new s t tt result (λ w e r. ap (λ z. after_all z (s z)) e) (λ w e r. subst (λ z. Ran new z (t z) result) (sym e) ran) v refl ready

pub ran_err : (new : View → Type 0) (v : View) (s t : Plan) (stopped : Stopped) → Ready v (in_turn s t v) → Stops new v (s v) → Stops new v (in_turn s t v)
unfolding Runs
ran_err new v s t stopped ready stops = runs_err {U = Unit {0}} (Unit {0}) (λ w. w ≡ v) new s t stopped (Err stopped) (search rules) (λ w e r. subst (λ z. Stops new z (s z)) (sym e) stops) v refl ready

ready_ends : (v : View) (op : Operation) (reply : Option Value) (n : ℕ) → Ready v (gives_up op reply n v) → Ready (after_all v (takes_back v)) (ends_call op reply n (after_all v (takes_back v)))
unfolding in_turn
ready_ends v op reply n r = ready_right v (takes_back v) (ends_call op reply n (after_all v (takes_back v))) r

-- a number that is taken is far below 2^64
pub few_drawn : (may : View → Step → Type 0) → ((v : View) (s : Step) → Allowed v s → may v s) → (old new : View → Type 0) (n : ℕ) → (v : View) × old v × ((k : ℕ) → Allowed v (Draw k)) → Made may old new (Draw n) → n < 2 ^ 63
few_drawn may grants old new n v made = (made v.0 v.1 (grants v.0 (Draw n) (v.2 n))).1.2

-- ---- the call ends: its operation is told, and it takes its number
module _ (may : View → Step → Type 0) (grants : (v : View) (s : Step) → Allowed v s → may v s) (old : View → Type 0) (op : Operation) (reply : Option Value) where
  pub end_tell : MayEnd old op reply → (v : View) × old v × Allowed v (Tell op reply)
  unfolding MayEnd Ready in_turn one
  end_tell m = (m.0, m.1, (m.2 0).0)

  pub end_draw : (mid : View → Type 0) → MayEnd old op reply → Made may old mid (Tell op reply) → (v : View) × mid v × ((n : ℕ) → Allowed v (Draw n))
  unfolding MayEnd Ready in_turn one after_all
  end_draw mid m told = (after m.0 (Tell op reply), (told m.0 m.1 (grants m.0 (Tell op reply) (m.2 0).0)).0, λ n. (m.2 n).2.0)

  pub end_made : (mid new : View → Type 0) (n : ℕ) → Made may old mid (Tell op reply) → Made may mid new (Draw n) → IsMade old new (ends_call op reply n)
  unfolding Runs Ready in_turn one after_all
  end_made mid new n told drew v seen r =
      (drew (after v (Tell op reply)) (told v seen (grants v (Tell op reply) r.0)).0 (grants (after v (Tell op reply)) (Draw n) r.2.0)).0

-- ---- the plan of a rollback, by its records
none_kept : (f : Recorded → KeptRecord) (rs : List Recorded) → map f rs ≡ [] → rs ≡ []
none_kept f [] e = refl
none_kept f (r ∷ rs) e = absurd cc

takes_none : (v : View) → v.log.records ≡ [] → takes_back v ≡ persists_all v
takes_none v none = ap (λ rs. cond (length rs == 0) (persists_all v) (in_turn restores retires v)) none

takes_some : (v : View) → length v.log.records ≢ 0 → takes_back v ≡ in_turn restores retires v
takes_some v some = cond-false (length v.log.records == 0) (persists_all v) (in_turn restores retires v) (ne_eqb (length v.log.records) 0 some)

module _ {M : Type 0} (at : M → View → Type 0) (old : Lane M) where
  pub records_so : (v : View) → KeepsLog at old v → old.log.records.items ≡ kept_by v
  records_so v keeps = ap (λ (f : Fields). f.records) keeps.fields

  pub same_moves : (new : Lane M) (s t : Plan) (v : View) (result : Result (Unit {0}) Stopped) → s v ≡ t v → MovesLog at old new s v result → MovesLog at old new t v result
  same_moves new s t v (Ok done) e m = subst (λ steps. LogMoves at old new (after_all v steps)) e m
  same_moves new s t v (Err stopped) e m = (subst (Stops (at new.memory) v) e m.0, m.1)

  -- ---- words are put back, and their generation is ended
  restored_keeps : (mid : Lane M) → Restored at old mid (Ok tt) → (v : View) → KeepsLog at old v → IsWorking v → KeepsLog at mid (after_all v (restores v))
  unfolding Restored
  restored_keeps mid restored v keeps working =
      let r = restored v keeps working in
      let u : View = after_all v (restores v) in
      record {
        memory = r.0;
        fields = r.1 ∙ (keeps.fields ∙ (ap (λ (y : View). with_log y (fields_of old)) (sym (restore_lawful v working).1.same) ∙ ap (with_log u) (sym r.1)));
      }

  pub retire_stands : (mid : Lane M) → Restored at old mid (Ok tt) → Stands at old IsWorking → Stands at mid CanRetire
  retire_stands mid restored stands = (after_all stands.0 (restores stands.0), restored_keeps mid restored stands.0 stands.1 stands.2, may_retire stands.0 stands.2)

  pub undone_then : (mid new : Lane M) (result : Result (Unit {0}) Stopped) → Restored at old mid (Ok tt) → Retired at mid new result → MovedLog at old new (in_turn restores retires) result
  unfolding MovedLog Restored Retired in_turn
  undone_then mid new (Ok done) restored retired v keeps working =
      let u : View = after_all v (restores v) in
      let m = retired u (restored_keeps mid restored v keeps working) (may_retire v working) in
      subst (LogMoves at old new) (sym (after_all-append v (restores v) (retires u)))
      (record { memory = m.memory; fields = m.fields ∙ ap (with_log (after_all u (retires u))) (restored v keeps working).1 })
  undone_then mid new (Err stopped) restored retired v keeps working =
      let u : View = after_all v (restores v) in
      let m = retired u (restored_keeps mid restored v keeps working) (may_retire v working) in
      (ran_then {T = Unit {0}} (at new.memory) v restores retires (Err stopped) (undo_ready v working) m.0, m.1 ∙ (restored v keeps working).1)

  pub undone_err : (new : Lane M) (stopped : Stopped) (result : Result (Unit {0}) Stopped) → IsErr result → Restored at old new (Err stopped) → MovedLog at old new (in_turn restores retires) result
  unfolding MovedLog Restored
  undone_err new stopped (Ok done) error restored v keeps working = absurd (search rules)
  undone_err new stopped (Err e) error restored v keeps working = let r = restored v keeps working in (ran_err (at new.memory) v restores retires stopped (undo_ready v working) r.0, r.1)

  -- ---- nothing is recorded
  pub persist_ready : Stands at old IsWorking → IsReady (at old.memory) persists_all
  unfolding IsReady
  persist_ready stands = (stands.0, (stands.1.memory, (persists_all_lawful stands.0).0))

  pub taken_none : (new : M) (result : Result (Unit {0}) Stopped) → old.log.records.items ≡ [] → Runs (at old.memory) (at new) persists_all result → MovedLog at old (record old { memory = new }) takes_back result
  unfolding MovedLog Runs
  taken_none new result none runs v keeps working =
      same_moves (record old { memory = new }) persists_all takes_back v result (sym (takes_none v (none_kept (kept_of v.fixed.shape) v.log.records (sym (records_so v keeps) ∙ none))))
      (moves result (runs v keeps.memory (persists_all_lawful v).0))
    where
      moves : (r : Result (Unit {0}) Stopped) → Ran (at new) v (persists_all v) r → MovesLog at old (record old { memory = new }) persists_all v r
      moves (Ok done) seen = record {
        memory = seen;
        fields = keeps.fields
            ∙ (ap (λ (l : Log). with_log (record v { log = l }) (fields_of old)) (sym (persisted_log v.changes v.log working.is_open))
            ∙ ap (λ (y : View). with_log y (fields_of old)) (sym (persists_all_lawful v).1));
      }
      moves (Err stopped) stops = (stops, refl)

  pub taken_some : (new : Lane M) (result : Result (Unit {0}) Stopped) → length old.log.records.items ≢ 0 → MovedLog at old new (in_turn restores retires) result → MovedLog at old new takes_back result
  unfolding MovedLog
  taken_some new result some moved_ v keeps working = same_moves new (in_turn restores retires) takes_back v result
      (sym (takes_some v (λ e. some (ap length (records_so v keeps) ∙ (Rattle.std.proofs.lemmas.List.length-map v.log.records (kept_of v.fixed.shape) ∙ e))))) (moved_ v keeps working)

  -- ---- the call is given up
  pub keeps_at : (s : Standing) → Works at old s → KeepsLog at old s.view
  keeps_at s works = record { memory = works.memory; fields = works.fields ∙ ap (with_log s.view) (sym works.fields) }

  module _ (op : Operation) (reply : Option Value) where
    abbrev pub Here : Type 0
    Here = IsAtBut at old (λ s. GivesUp s op reply)

    pub back_stands : Here → Stands at old IsWorking
    back_stands here = (here.standing.view, keeps_at (with_locks here.locks here.standing) here.works, here.stands.working)

    pub may_end : (mid : Lane M) → Here → MovedLog at old mid takes_back (Ok tt) → MayEnd (at mid.memory) op reply
    unfolding MayEnd MovedLog in_turn
    may_end mid here back =
        let s = here.standing in
        let v : View = s.view in (
          after_all v (takes_back v),
          (back v (keeps_at (with_locks here.locks s) here.works) here.stands.working).memory,
          λ n. ready_right v (takes_back v) (ends_call op reply n (after_all v (takes_back v))) (leaves_over s here.locks here.stands op reply here.holds n).ready,
        )

    module _ (s : Standing) (locks : List HeldLock) where
      abbrev all : Standing
      all = with_locks locks s

      fields_after : (e : TxErr) (n : ℕ) (is : IsAtWith s s.level locks) (gives : GivesUp s op reply)
          → record (with_log (after_all s.view (takes_back s.view)) (fields_at stage.Work all)) { entries = []; stage = stage.OnAbort; error = e; last = n + 1 } ≡ given_up e (next all (gives_up op reply n))
      fields_after e n is gives =
          ap (λ (w : View). record (with_log w (fields_at stage.Work all)) { entries = []; stage = stage.OnAbort; error = e; last = n + 1 }) (taken_at s locks is op reply gives)
          ∙ (same ∙ ap (λ (w : View). given_up e (moved all w)) (sym (ends_at s locks is op reply gives n)))
        where
          same : record (with_log (giving.back s locks is op reply gives) (fields_at stage.Work all)) { entries = []; stage = stage.OnAbort; error = e; last = n + 1 } ≡ given_up e (moved all (giving.done s locks is op reply gives n))
          same = (λ i. record (given_up e (moved all (giving.done s locks is op reply gives n))) { pending = listed (sym (actions_same s locks is op reply gives) i); last = (let z : n + 1 ≡ suc n = omega arith in z) i })

    pub gave_ok : (mid new : Lane M) (e : TxErr) (n : ℕ) → MovedLog at old mid takes_back (Ok tt) → IsMade (at mid.memory) (at new.memory) (ends_call op reply n)
        → fields_of new ≡ record (fields_of mid) { entries = []; stage = stage.OnAbort; error = e; last = n + 1 } → GivenUp at old new op reply e (Ok tt)
    unfolding GivenUp MovedLog Runs
    gave_ok mid new e n back made fields s locks works is gives =
        let v : View = s.view in
        let b = back v (keeps_at (with_locks locks s) works) is.working in
        let l = leaves_over s locks is op reply gives n in
        record {
          number = n;
          ready = l.ready;
          sees = record {
            memory = ran_then {T = Unit {0}} (at new.memory) v takes_back (ends_call op reply n) (Ok tt) l.ready (made (after_all v (takes_back v)) b.memory (ready_ends v op reply n l.ready));
            fields = fields
                ∙ (ap (λ (f : Fields). record f { entries = []; stage = stage.OnAbort; error = e; last = n + 1 }) (b.fields ∙ ap (with_log (after_all v (takes_back v))) works.fields)
                ∙ fields_after s locks e n is gives);
          };
          over = l.over;
        }

    pub gave_err : (new : Lane M) (e : TxErr) (stopped : Stopped) (result : Result (Unit {0}) Stopped) → IsErr result → MovedLog at old new takes_back (Err stopped) → GivenUp at old new op reply e result
    unfolding GivenUp MovedLog
    gave_err new e stopped (Ok done) error back s locks works is gives = absurd (search rules)
    gave_err new e stopped (Err z) error back s locks works is gives =
        let v : View = s.view in
        let b = back v (keeps_at (with_locks locks s) works) is.working in
        let l = leaves_over s locks is op reply gives 0 in
        let f : fields_of new ≡ fields_at stage.Work (with_locks locks s) = b.1 ∙ works.fields in (
          0,
          record {
            working = is.working;
            ready = l.ready;
            stops = ran_err (at new.memory) v takes_back (ends_call op reply 0) stopped l.ready b.0;
            fields = (λ i. record (fields_of new) { stopped = (f i).stopped }) ∙ ap (λ (g : Fields). record g { generation = new.log.generation; records = new.log.records.items; stopped = false }) f;
            facts = l.over.facts;
          },
        )

-- ---- for a refusal
not_stopped : {M : Type 0} (at : M → View → Type 0) (old new : Lane M) (op : Operation) (why answer : Refusal) → why ≢ refusal.Stopped
    → ((s : Standing) (locks : List HeldLock) → Works at old (with_locks locks s) → IsAtWith s s.level locks → GivesUp s op (Some (Refused why)) → GivesUpFor at new op why answer (with_locks locks s)) → Refuses at old new op why answer
unfolding Refuses
not_stopped at old new op refusal.Stopped answer goes so = absurd (goes refl)
not_stopped at old new op why answer goes so = so

gives : {M : Type 0} (at : M → View → Type 0) (new : Lane M) (op : Operation) (why answer : Refusal) (s : Standing) → answer ≢ refusal.Stopped → answer ≡ why → WasGivenUp at new s op (Some (Refused why)) (error.Refused why)
    → GivesUpFor at new op why answer s
gives at new op why refusal.Stopped s goes is gave = absurd (goes refl)
gives at new op why answer s goes is gave = (is, gave)

-- for a stop there is nothing to give up
pub refuses_stop : {M : Type 0} (at : M → View → Type 0) (old new : Lane M) (op : Operation) (why answer : Refusal) → why ≡ refusal.Stopped → answer ≡ refusal.Stopped → new ≡ record old { stopped = true } → Refuses at old new op why answer
unfolding Refuses
refuses_stop at old new op why answer e is same = subst (λ (r : Refusal). Refuses at old new op r answer) (sym e) (is, same)

module _ {M : Type 0} (at : M → View → Type 0) (old : Lane M) (op : Operation) (why : Refusal) where
  pub refuses_ok : (new : Lane M) → why ≢ refusal.Stopped → GivenUp at old new op (Some (Refused why)) (error.Refused why) (Ok tt) → Refuses at old new op why why
  unfolding GivenUp
  refuses_ok new goes gave = not_stopped at old new op why why goes (λ s locks works is refused. gives at new op why why (with_locks locks s) goes refl (gave s locks works is refused))

  pub refuses_cut : (mid new : Lane M) (answer : Refusal) (stopped : Stopped) → why ≢ refusal.Stopped → GivenUp at old mid op (Some (Refused why)) (error.Refused why) (Err stopped)
      → answer ≡ refusal.Stopped → new ≡ record mid { stopped = true } → Refuses at old new op why answer
  unfolding GivenUp
  refuses_cut mid new answer stopped goes gave is_stopped says = subst (λ (r : Refusal). Refuses at old new op why r) (sym is_stopped) (not_stopped at old new op why refusal.Stopped goes (λ s locks works is refused.
      let c : (n : ℕ) × Cut at mid (with_locks locks s) (gives_up op (Some (Refused why)) n) false = gave s locks works is refused in (
        c.0,
        subst (λ (lane : Lane M). Cut at lane (with_locks locks s) (gives_up op (Some (Refused why)) c.0) true) (sym says)
            (record { working = c.1.working; ready = c.1.ready; stops = c.1.stops; fields = ap (λ (f : Fields). record f { stopped = true }) c.1.fields; facts = c.1.facts }),
      )))
