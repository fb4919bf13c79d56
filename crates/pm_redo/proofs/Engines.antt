-- How an engine's part leaves its lane, from how it leaves the memory.
use Rattle.std.proofs.Common.{◌≡◌, ℕ, ◌*◌, ◌/◌, List, [], ◌∷◌, ◌++◌, length, map, refl, sym, ap, ◌∙◌, subst, arith, rules, Result, Ok, Err, IsErr}
use Rattle.std.specs.List.{AllByRecursion}
use Rattle.std.proofs.lemmas.List.{length-map, map-append}
use Rattle.pm_layout.specs.declared.shape.Shape.{Shape}
use Rattle.pm_layout.specs.Areas.{word_of_seal}
use Rattle.pm_memory.specs.declared.lane_mem.Stopped.{Stopped}
use Rattle.pm_memory.specs.Runs.{Ran, Stops}
use Rattle.pm_record.specs.declared.redo.Redo.{Redo}
use Rattle.pm_view.specs.View.{View, Constants}
use Rattle.pm_view.specs.Views.{after_all}
use Rattle.pm_world.specs.declared.lane.Lane.{Lane}
use Rattle.pm_plan.specs.Plans.{Plan, IsReady, Ready, Runs, IsReadyFor, RunsFor}
use Rattle.pm_redo.specs.Entries.{ending, listed_entries, listed_entry, logged_entry}
use Rattle.pm_redo.specs.Plans.{applies, applies_all, clears, seals, writes_entries, writes_log, writes_seal}
use Rattle.pm_redo.specs.Calls.{Applied, LeftAs, Cleared, KeepsEntries, Logged, MayLog, Sealed, StandsTo}
use Rattle.pm_redo.specs.Stages.{CanApply, CanClear, CanEnter, CanSeal}
use Rattle.pm_redo.proofs.EntriesApplied.{apply_lawful}
use Rattle.pm_redo.proofs.LogWritten.{log_lawful}
use Rattle.pm_redo.proofs.SealStored.{clear_lawful, seal_lawful}

-- an entry that was logged is listed as it was
listed_again : (v : View) (es : List Redo) → AllByRecursion (CanEnter v) es
    → map listed_entry (map (logged_entry v) es) ≡ es
listed_again v [] all = refl
listed_again v (e ∷ es) all =
    ap (λ place. record e { place = place } ∷ map listed_entry (map (logged_entry v) es))
    (let a = all.0.aligned in let q : 8 * (e.place / 8) ≡ e.place = omega (arith, a) in q)
    ∙ ap (λ t. e ∷ t) (listed_again v es all.1)

module _ {M : Type 0} (at : M → View → Type 0) (lane : Lane M) where
  -- a plan that leaves the shape and the log's entries leaves the list
  carried : (v : View) (plan : Plan) (new : M) (result : Result (Unit {0}) Stopped)
      → KeepsEntries at lane v → (after_all v (plan v)).fixed ≡ v.fixed
      → (after_all v (plan v)).log.entries ≡ v.log.entries → Ran (at new) v (plan v) result
      → LeftAs at v plan (record lane { memory = new } ≡ record lane { memory = new }) lane
      (record lane { memory = new }) result
  carried v plan new (Ok done) k fixed_ entries_ ran = (
    record {
      memory = ran;
      shape = k.shape ∙ ap (λ (f : Constants). f.shape) (sym fixed_);
      entries = k.entries ∙ ap (map listed_entry) (sym entries_);
    },
    refl,
  )
  carried v plan new (Err stopped) k fixed_ entries_ ran = (ran, refl)

  -- ---- applying
  applies_so : (v : View) → KeepsEntries at lane v → (entries : List Redo)
      → entries ≡ lane.entries.items → (found : ℕ → ℕ) → applies_all entries found v ≡ applies found
      v
  unfolding applies
  applies_so v k entries is found = ap (λ es. applies_all es found v) (is ∙ k.entries)

  pub apply_ready : StandsTo at lane CanApply → (entries : List Redo) → entries ≡ lane.entries.items
      → IsReadyFor (at lane.memory) (applies_all entries)
  unfolding IsReady IsReadyFor
  apply_ready s entries is found = (
    s.0,
    (
      s.1.memory,
      subst (Ready s.0) (sym (applies_so s.0 s.1 entries is found))
          (apply_lawful s.0 found s.2).0,
    ),
  )

  pub applied_lane : (new : M) (entries : List Redo) (result : Result (Unit {0}) Stopped)
      → entries ≡ lane.entries.items → RunsFor (at lane.memory) (at new) (applies_all entries)
      result → Applied at lane (record lane { memory = new }) result
  unfolding Applied Runs RunsFor
  applied_lane new entries result is runs = (
    runs.0,
    λ v k can. (
        let same = applies_so v k entries is runs.0 in
        let t = apply_lawful v runs.0 can in
        carried v (applies runs.0) new result k (ap (λ (y : View). y.fixed) t.1.same)
        (ap (λ (y : View). y.log.entries) t.1.same)
        (subst (λ steps. Ran (at new) v steps result) same
        (runs.1 v k.memory (subst (Ready v) (sym same) t.0)))),
  )

  module _ (number : ℕ) (is_number : (v : View) → at lane.memory v → number ≡ v.fixed.lane) where
    -- ---- writing the log
    module _ (generation : ℕ) (entries : List Redo) (is : entries ≡ lane.entries.items)
        (last : Redo) (is_last : last ≡ ending lane.shape number generation) where
      written_so : (v : View) → MayLog at lane generation v → writes_entries lane.shape number
          entries last v ≡ writes_log lane.entries.items v
      unfolding writes_log
      written_so v m =
          ap (λ es. writes_entries lane.shape number es last v) is
          ∙ (ap (λ e. writes_entries lane.shape number lane.entries.items e v) is_last
          ∙ (ap (λ (sh : Shape). writes_entries sh number lane.entries.items
          (ending sh number generation) v) m.shape
          ∙ (ap (λ n. writes_entries v.fixed.shape n lane.entries.items
          (ending v.fixed.shape n generation) v) (is_number v m.memory)
          ∙ ap (λ g. writes_entries v.fixed.shape v.fixed.lane lane.entries.items
          (ending v.fixed.shape v.fixed.lane g) v) m.generation_)))

      pub log_ready : (v : View) × MayLog at lane generation v → IsReady (at lane.memory)
          (writes_entries lane.shape number entries last)
      unfolding IsReady
      log_ready s = (
        s.0,
        (
          s.1.memory,
          subst (Ready s.0) (sym (written_so s.0 s.1))
              (log_lawful s.0 lane.entries.items s.1.can).0,
        ),
      )

      module _ (new : M) where
        pub logged_err : (T : Type 0) (stopped : Stopped) (result : Result (Unit {0}) Stopped)
            → IsErr result → Runs {T = T} (at lane.memory) (at new)
            (writes_entries lane.shape number entries last) (Err stopped)
            → Logged at generation lane (record lane { memory = new }) result
        unfolding Logged Runs
        logged_err T stopped (Ok done) error runs v m = absurd (search rules)
        logged_err T stopped (Err e) error runs v m = (
          subst (λ steps. Stops (at new) v steps) (written_so v m)
              (runs v m.memory
              (subst (Ready v) (sym (written_so v m)) (log_lawful v lane.entries.items m.can).0)),
          refl,
        )

        pub logged_ok : (pushed : Lane M) → Runs {T = Unit {0}} (at lane.memory) (at new)
            (writes_entries lane.shape number entries last) (Ok tt)
            → pushed ≡ record lane { memory = new; entries = pushed.entries }
            → pushed.entries.items ≡ lane.entries.items ++ last ∷ []
            → Logged at generation lane pushed (Ok tt)
        unfolding Logged Runs
        logged_ok pushed runs lane_is longer v m =
            let t = log_lawful v lane.entries.items m.can in
            let there : at new (after_all v (writes_log lane.entries.items v)) =
            subst (λ steps. at new (after_all v steps)) (written_so v m)
            (runs v m.memory (subst (Ready v) (sym (written_so v m)) t.0)) in
            let ends : last ≡ ending v.fixed.shape v.fixed.lane v.log.generation = is_last
            ∙ (ap (λ (sh : Shape). ending sh number generation) m.shape
            ∙ (ap (λ n. ending v.fixed.shape n generation) (is_number v m.memory)
            ∙ ap (ending v.fixed.shape v.fixed.lane) m.generation_)) in (
              record {
                memory = subst (λ n. at n (after_all v (writes_log lane.entries.items v)))
                    (sym (ap (λ (l : Lane M). l.memory) lane_is)) there;
                shape = ap (λ (l : Lane M). l.shape) lane_is
                    ∙ (m.shape ∙ ap (λ (y : View). y.fixed.shape) (sym t.1.same));
                entries = longer
                    ∙ (ap (λ e. lane.entries.items ++ e ∷ []) ends
                    ∙ (ap (λ es. es ++ ending v.fixed.shape v.fixed.lane v.log.generation ∷ [])
                    (sym (listed_again v lane.entries.items m.can.each))
                    ∙ (sym (map-append listed_entry (map (logged_entry v) lane.entries.items)
                    (Rattle.pm_world.specs.Logs.ends_with v.fixed.shape v.fixed.lane
                    v.log.generation ∷ []))
                    ∙ ap listed_entries (sym t.1.same))));
              },
              lane_is ∙ ap (λ n. record lane { memory = n; entries = pushed.entries })
                  (sym (ap (λ (l : Lane M). l.memory) lane_is)),
            )

    -- ---- the seal
    module _ (word : ℕ) (is_word : word ≡ word_of_seal lane.shape number) where
      word_so : (v : View) → KeepsEntries at lane v → word ≡ word_of_seal v.fixed.shape v.fixed.lane
      word_so v k = is_word ∙ (ap (λ (sh : Shape). word_of_seal sh number) k.shape
          ∙ ap (word_of_seal v.fixed.shape) (is_number v k.memory))

      module _ (count : ℕ) (is_count : count ≡ length lane.entries.items) where
        seals_so : (v : View) → KeepsEntries at lane v → writes_seal word count v ≡ seals v
        unfolding seals
        seals_so v k = ap (λ w. writes_seal w count v) (word_so v k)
            ∙ ap (λ n. writes_seal (word_of_seal v.fixed.shape v.fixed.lane) n v)
            (is_count ∙ (ap length k.entries ∙ length-map v.log.entries listed_entry))

        pub seal_ready : StandsTo at lane CanSeal → IsReady (at lane.memory)
            (writes_seal word count)
        unfolding IsReady
        seal_ready s =
            (s.0, (s.1.memory, subst (Ready s.0) (sym (seals_so s.0 s.1)) (seal_lawful s.0 s.2).0))

        pub sealed_lane : (new : M) (result : Result (Unit {0}) Stopped)
            → Runs (at lane.memory) (at new) (writes_seal word count) result
            → Sealed at lane (record lane { memory = new }) result
        unfolding Sealed Runs
        sealed_lane new result runs v k can =
            let t = seal_lawful v can in
            carried v seals new result k (ap (λ (y : View). y.fixed) t.1.same)
            (ap (λ (y : View). y.log.entries) t.1.same)
            (subst (λ steps. Ran (at new) v steps result) (seals_so v k)
            (runs v k.memory (subst (Ready v) (sym (seals_so v k)) t.0)))

      clears_so : (v : View) → KeepsEntries at lane v → writes_seal word 0 v ≡ clears v
      unfolding clears
      clears_so v k = ap (λ w. writes_seal w 0 v) (word_so v k)

      pub clear_ready : StandsTo at lane CanClear → IsReady (at lane.memory) (writes_seal word 0)
      unfolding IsReady
      clear_ready s =
          (s.0, (s.1.memory, subst (Ready s.0) (sym (clears_so s.0 s.1)) (clear_lawful s.0 s.2).0))

      module _ (new : M) where
        pub cleared_err : (T : Type 0) (stopped : Stopped) (result : Result (Unit {0}) Stopped)
            → IsErr result → Runs {T = T} (at lane.memory) (at new) (writes_seal word 0)
            (Err stopped) → Cleared at lane (record lane { memory = new }) result
        unfolding Cleared Runs
        cleared_err T stopped (Ok done) error runs v k can = absurd (search rules)
        cleared_err T stopped (Err e) error runs v k can = (
          subst (λ steps. Stops (at new) v steps) (clears_so v k)
              (runs v k.memory (subst (Ready v) (sym (clears_so v k)) (clear_lawful v can).0)),
          refl,
        )

        pub cleared_ok : (emptied : Lane M) → Runs {T = Unit {0}} (at lane.memory) (at new)
            (writes_seal word 0) (Ok tt) → emptied ≡ record lane {
              memory = new;
              log = record lane.log { records = emptied.log.records };
              entries = emptied.entries;
            } → emptied.entries.items ≡ []
            → emptied.log.records.items ≡ []
            → Cleared at lane emptied (Ok tt)
        unfolding Cleared Runs
        cleared_ok emptied runs lane_is no_entries no_records v k can =
            let t = clear_lawful v can in
            let there : at new (after_all v (clears v)) =
            subst (λ steps. at new (after_all v steps)) (clears_so v k)
            (runs v k.memory (subst (Ready v) (sym (clears_so v k)) t.0)) in (
              record {
                memory = subst (λ n. at n (after_all v (clears v)))
                    (sym (ap (λ (l : Lane M). l.memory) lane_is)) there;
                shape = ap (λ (l : Lane M). l.shape) lane_is
                    ∙ (k.shape ∙ ap (λ (y : View). y.fixed.shape) (sym t.1.same));
                entries = no_entries ∙ ap listed_entries (sym t.1.same);
              },
              (
                no_records,
                lane_is ∙ ap (λ n. record lane {
                  memory = n;
                  log = record lane.log { records = emptied.log.records };
                  entries = emptied.entries;
                }) (sym (ap (λ (l : Lane M). l.memory) lane_is)),
              ),
            )
