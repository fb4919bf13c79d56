-- How an engine's part leaves its lane, from how it leaves the memory.
use Rattle.std.proofs.Common.{◌≡◌, ℕ, ◌+◌, ◌<◌, ◌≤◌, List, [], ◌∷◌, length, map, refl, sym, ap, ◌∙◌, subst, arith, rules, Result, Ok, Err, IsErr}
use Rattle.std.specs.List.{All, AllByRecursion}
use Rattle.std.proofs.lemmas.List.Elements.{All-from_recursion}
use Rattle.pm_layout.specs.Areas.{word_of_generation}
use Rattle.pm_layout.specs.declared.shape.Shape.{Shape}
use Rattle.pm_memory.specs.Runs.{Ran}
use Rattle.pm_memory.specs.declared.lane_mem.Stopped.{Stopped}
use Rattle.pm_view.specs.Log.{Recorded}
use Rattle.pm_view.specs.View.{View}
use Rattle.pm_view.specs.Views.{after_all}
use Rattle.pm_world.specs.LaneFields.{Fields, fields_of, kept_of}
use Rattle.pm_world.specs.declared.lane.KeptRecord.{KeptRecord}
use Rattle.pm_world.specs.declared.lane.Lane.{Lane}
use Rattle.pm_plan.specs.Plans.{IsReady, Ready, Runs, in_turn, persists_all}
use Rattle.pm_undo.specs.Plans.{ends_word, puts_back, restores, retires}
use Rattle.pm_undo.specs.Records.{kept_by}
use Rattle.pm_undo.specs.Undoing.{IsKept, KeepsLog, LogMoves, Restored, Retired, Stands}
use Rattle.pm_undo.specs.Working.{CanRetire, IsStanding, IsWorking}
use Rattle.pm_undo.proofs.OneRecord.{first_small_at}
use Rattle.pm_undo.proofs.Restored.{restore_lawful}
use Rattle.pm_undo.proofs.Retired.{retire_lawful}

module _ {M : Type 0} (at : M → View → Type 0) (lane : Lane M) where
  pub shape_so : (v : View) → KeepsLog at lane v → lane.shape ≡ v.fixed.shape
  shape_so v k = ap (λ (f : Fields). f.shape) k.fields

  pub generation_so : (v : View) → KeepsLog at lane v → lane.log.generation ≡ v.log.generation
  generation_so v k = ap (λ (f : Fields). f.generation) k.fields

  pub records_so : (v : View) → KeepsLog at lane v → lane.log.records.items ≡ kept_by v
  records_so v k = ap (λ (f : Fields). f.records) k.fields

  -- the same fields but for a log that is what the view says
  pub log_moves : (new : Lane M) (w : View) (generation : ℕ) (records : List KeptRecord)
      → fields_of new ≡ record (fields_of lane) { generation = generation; records = records }
      → at new.memory w → lane.shape ≡ w.fixed.shape → generation ≡ w.log.generation
      → records ≡ kept_by w → LogMoves at lane new w
  log_moves new w generation records is seen sh g rs = record {
    memory = seen;
    fields = is
        ∙ (ap (λ (s : Shape). record (fields_of lane) {
          shape = s;
          generation = generation;
          records = records;
        }) sh
        ∙ (ap (λ n. record (fields_of lane) {
          shape = w.fixed.shape;
          generation = n;
          records = records;
        }) g ∙ ap (λ ks. record (fields_of lane) {
          shape = w.fixed.shape;
          generation = w.log.generation;
          records = ks;
        }) rs));
  }

  -- ---- ending the generation
  module _ (number : ℕ) (is_number : (v : View) → at lane.memory v → number ≡ v.fixed.lane)
      (word : ℕ) (is : word ≡ word_of_generation lane.shape number) where
    ends_so : (v : View) → KeepsLog at lane v → ends_word word lane.log.generation v ≡ retires v
    unfolding retires
    ends_so v k = ap (λ w. ends_word w lane.log.generation v)
        (is ∙ ap (word_of_generation lane.shape) (is_number v k.memory))
        ∙ ap (λ g. ends_word (word_of_generation v.fixed.shape v.fixed.lane) g v)
        (generation_so v k)

    pub retire_ready : Stands at lane CanRetire → IsReady (at lane.memory)
        (ends_word word lane.log.generation)
    unfolding IsReady
    retire_ready s = let v : View = s.0 in
        (v, (s.1.memory, subst (Ready v) (sym (ends_so v s.1)) (retire_lawful v s.2).0))

    ran : {T : Type 0} (new : M) (result : Result T Stopped) → Runs (at lane.memory) (at new)
        (ends_word word lane.log.generation) result → (v : View) → KeepsLog at lane v → CanRetire v
        → Ran (at new) v (retires v) result
    unfolding Runs
    ran new result runs v k can = subst (λ steps. Ran (at new) v steps result) (ends_so v k)
        (runs v k.memory (subst (Ready v) (sym (ends_so v k)) (retire_lawful v can).0))

    pub retired_err : (T : Type 0) (new : M) (stopped : Stopped)
        (result : Result (Unit {0}) Stopped) → IsErr result → Runs {T = T} (at lane.memory) (at new)
        (ends_word word lane.log.generation) (Err stopped)
        → Retired at lane (record lane { memory = new }) result
    unfolding Retired
    retired_err T new stopped (Ok done) error runs v k can = absurd (search rules)
    retired_err T new stopped (Err e) error runs v k can =
        (ran new (Err stopped) runs v k can, refl)

    pub retired_ok : (next : Lane M) → Runs {T = Unit {0}} (at lane.memory) (at next.memory)
        (ends_word word lane.log.generation) (Ok tt) → fields_of next ≡ record (fields_of lane)
        { generation = lane.log.generation + 1; records = [] } → Retired at lane next (Ok tt)
    unfolding Retired
    retired_ok next runs ended v k can =
        let t = (retire_lawful v can).1 in
        log_moves next (after_all v (retires v)) (lane.log.generation + 1) [] ended
        (ran next.memory (Ok tt) runs v k can) (shape_so v k ∙ ap (λ (y : View). y.fixed.shape)
        (sym t.same))
        (ap (λ g. g + 1) (generation_so v k) ∙ ap (λ (y : View). y.log.generation) (sym t.same))
        (ap kept_by (sym t.same))

  -- ---- putting back
  fit_all : (v : View) (rs : List Recorded) → v.fixed.shape.lanes ≤ 32 → v.fixed.shape.zones ≤ 32
      → AllByRecursion (IsStanding v) rs → AllByRecursion IsKept (map (kept_of v.fixed.shape) rs)
  fit_all v [] lanes zones all = tt
  fit_all v (r ∷ rs) lanes zones all =
      let s = all.0 in let some : 0 < length r.old = (let a = s.some in omega (arith, a)) in (
        record {
          most = s.most;
          low = first_small_at v.fixed.shape r lanes zones (s.data_ 0 some)
              some s.row;
        },
        fit_all v rs lanes zones all.1,
      )

  module _ (records : List KeptRecord) (are : records ≡ lane.log.records.items) where
    pub restore_fit : Stands at lane IsWorking → All IsKept records
    restore_fit s = subst (λ (rs : List KeptRecord). All IsKept rs) (sym (are ∙ records_so s.0 s.1))
        (All-from_recursion IsKept (kept_by s.0) (fit_all s.0 s.0.log.records s.2.lanes s.2.zones
        s.2.standing))

    restores_so : (v : View) → KeepsLog at lane v → in_turn (puts_back records) persists_all
        v ≡ restores v
    unfolding restores
    restores_so v k = ap (λ rs. in_turn (puts_back rs) persists_all v) (are ∙ records_so v k)

    pub restore_ready : Stands at lane IsWorking → IsReady (at lane.memory)
        (in_turn (puts_back records) persists_all)
    unfolding IsReady
    restore_ready s = (
      s.0,
      (
        s.1.memory,
        subst (Ready s.0) (sym (restores_so s.0 s.1))
            (restore_lawful s.0 s.2).0,
      ),
    )

    pub restored_lane : (new : M) (result : Result (Unit {0}) Stopped)
        → Runs (at lane.memory) (at new) (in_turn (puts_back records) persists_all) result
        → Restored at lane (record lane { memory = new }) result
    unfolding Restored Runs
    restored_lane new result runs v k working =
        let same = restores_so v k in (
          subst (λ steps. Ran (at new) v steps result) same
              (runs v k.memory (subst (Ready v) (sym same) (restore_lawful v working).0)),
          refl,
        )
