-- How a snapshot leaves its lane, from how its parts leave the memory.
use Rattle.std.proofs.Common.{◌≡◌, ℕ, ◌+◌, ◌^◌, ◌<◌, ◌≤◌, List, [], ◌∷◌, ◌++◌, length, map, refl, sym, ap, ◌∙◌, subst, arith, rules, Result, Ok, Err, IsErr}
use Rattle.std.specs.List.{All, AllByRecursion}
use Rattle.std.proofs.lemmas.List.{length-map, map-append}
use Rattle.std.proofs.lemmas.List.Elements.{All-from_recursion, recursion_from_All}
use Rattle.pm_layout.specs.declared.shape.Shape.{Shape}
use Rattle.pm_memory.specs.declared.lane_mem.Stopped.{Stopped}
use Rattle.pm_memory.specs.Runs.{Ran, Stops}
use Rattle.pm_model.specs.Transaction.{covered_words, new_words}
use Rattle.pm_objects.specs.declared.refusal.Refusal.TheVariants as refusal
use Rattle.pm_view.specs.View.{View, Constants}
use Rattle.pm_view.specs.Views.{after_all}
use Rattle.pm_world.specs.declared.lane.Lane.{Lane}
use Rattle.pm_undo.specs.declared.spans.Span.{Span}
use Rattle.pm_world.specs.LaneFields.{fields_of, kept_of}
use Rattle.pm_plan.specs.Plans.{IsMade, IsReady, Plan, Ready, Runs, in_turn, nothing}
use Rattle.pm_plan.proofs.Plans.{ready_left, ready_then, runs_then}
use Rattle.pm_undo.specs.Plans.{logs, logs_here, looked_first, looks_at, records_all, snapshots, writes_all}
use Rattle.pm_undo.specs.Records.{kept_by, kept_in, recorded_in}
use Rattle.pm_undo.specs.Spans.{ArePast, IsSpan, plan_of, words_in}
use Rattle.pm_undo.specs.Undoing.{KeepsLog, LogMoves, LoggedSpans, MayLog, Snapshotted, Stands, needed}
use Rattle.pm_undo.specs.Working.{CanSnapshot, HasSlots, IsSnapshot}
use Rattle.pm_world.specs.declared.lane.KeptRecord.{KeptRecord}
use Rattle.pm_undo.proofs.Engines.{generation_so, log_moves, records_so, shape_so}
use Rattle.pm_undo.proofs.Kept.{all_known}
use Rattle.pm_undo.proofs.Logging.{fixed_so}
use Rattle.pm_undo.proofs.Snapshotting.{clean_start, looks_all}
use Rattle.pm_undo.proofs.Snapshotted.{all_kept}
use Rattle.pm_undo.proofs.Rising.{plan_past}
use Rattle.pm_undo.proofs.Standing.{recorded_lawful}

-- ---- where there are no records nothing is written
pub no_logs : (sh : Shape) (lane generation slot : ℕ) (records : List KeptRecord)
    → length records ≡ 0 → logs sh lane generation slot records ≡ nothing
unfolding logs
no_logs sh lane generation slot [] none = refl
no_logs sh lane generation slot (r ∷ records) none = absurd (omega (arith, none))

pub some_logs : (sh : Shape) (lane generation slot : ℕ) (records : List KeptRecord)
    → (length records ≡ 0 → ⊥) → logs sh lane generation slot records ≡ writes_all sh lane
    generation slot records
unfolding logs
some_logs sh lane generation slot [] some = absurd (some refl)
some_logs sh lane generation slot (r ∷ records) some = refl

-- ---- the lane's number is what every view has
module _ (old : View → Type 0) (lane : ℕ) (is_lane : (v : View) → old v → lane ≡ v.fixed.lane)
    (sh : Shape) (generation slot : ℕ) (records : List KeptRecord) where
  pub here_ready : IsReady old (logs_here sh generation slot records)
      → IsReady old (logs sh lane generation slot records)
  unfolding IsReady logs_here
  here_ready r = (
    r.0,
    (
      r.1.0,
      subst (λ n. Ready r.0 (logs sh n generation slot records r.0))
          (sym (is_lane r.0 r.1.0)) r.1.1,
    ),
  )

  pub here_runs : {T : Type 0} (new : View → Type 0) (result : Result T Stopped)
      → Runs old new (logs sh lane generation slot records) result
      → Runs old new (logs_here sh generation slot records) result
  unfolding Runs logs_here
  here_runs new result runs v seen r =
      subst (λ n. Ran new v (logs sh n generation slot records v) result) (is_lane v seen)
      (runs v seen (subst (λ n. Ready v (logs sh n generation slot records v))
      (sym (is_lane v seen)) r))

-- ---- spans are recorded
module _ {M : Type 0} (at : M → View → Type 0) (lane : Lane M) (spans : List Span)
    (room : length lane.log.records.items + length spans ≤ 64) (slot : ℕ)
    (slot_is : slot ≡ length lane.log.records.items) where
  abbrev pub CanNow : Type 0
  CanNow = Stands at lane (λ v. MayLog v spans)

  many_so : (v : View) → KeepsLog at lane v → length lane.log.records.items ≡ length v.log.records
  many_so v k = ap length (records_so at lane v k) ∙ length-map v.log.records
      (kept_of v.fixed.shape)

  lawful : (v : View) → KeepsLog at lane v → MayLog v spans → Ready v (records_all spans v)
      × IsSnapshot v spans (after_all v (records_all spans v))
  lawful v k can = recorded_lawful v can.0.working spans can.1 can.0
      (let a = many_so v k in omega (arith, room, a))

  abbrev writes : List KeptRecord → Plan
  writes kept = logs_here lane.shape lane.log.generation slot kept

  -- the plan, with what was read
  plan_so : (v : View) → KeepsLog at lane v → (kept : List KeptRecord)
      → kept ≡ map (kept_in v) spans → in_turn (looks_at spans) (writes kept) v ≡ records_all spans
      v
  unfolding records_all
  plan_so v k kept is = ap (λ ks. in_turn (looks_at spans) (writes ks) v) is
      ∙ (ap (λ (sh : Shape). in_turn (looks_at spans)
      (logs_here sh lane.log.generation slot (map (kept_in v) spans)) v) (shape_so at lane v k)
      ∙ (ap (λ g. in_turn (looks_at spans) (logs_here v.fixed.shape g slot (map (kept_in v) spans))
      v) (generation_so at lane v k)
      ∙ ap (λ n. in_turn (looks_at spans) (logs_here v.fixed.shape v.log.generation n
      (map (kept_in v) spans)) v) (slot_is ∙ many_so v k)))

  -- it may be carried out
  plan_ready : (v : View) → KeepsLog at lane v → MayLog v spans → (kept : List KeptRecord)
      → kept ≡ map (kept_in v) spans → Ready v (in_turn (looks_at spans) (writes kept) v)
  plan_ready v k can kept is = subst (Ready v) (sym (plan_so v k kept is)) (lawful v k can).0

  looks_ready : (v : View) → KeepsLog at lane v → MayLog v spans → Ready v (looks_at spans v)
  unfolding in_turn
  looks_ready v k can = ready_left v (looks_at spans v)
      (writes (map (kept_in v) spans) (after_all v (looks_at spans v)))
      (plan_ready v k can (map (kept_in v) spans) refl)

  pub look_ready : CanNow → IsReady (at lane.memory) (looks_at spans)
  unfolding IsReady
  look_ready s = (s.0, (s.1.memory, looks_ready s.0 s.1 s.2))

  module _ (mid : M) (kept : List KeptRecord)
      (made : IsMade (at lane.memory) (at mid) (looks_at spans)) (found : (v : View)
      → at lane.memory v → Ready v (looks_at spans v) → kept ≡ looked_first spans (length spans) v)
    where
      kept_so : (v : View) → KeepsLog at lane v → MayLog v spans → kept ≡ map (kept_in v) spans
      kept_so v k can = found v k.memory (looks_ready v k can) ∙ all_known v can.0.working spans
          can.0.each

      pub write_ready : CanNow → IsReady (at mid) (writes kept)
      unfolding IsReady
      write_ready s = ready_then {T = Unit {0}} (at lane.memory) (at mid) (looks_at spans)
          (writes kept) tt (s.0, (s.1.memory, plan_ready s.0 s.1 s.2 kept (kept_so s.0 s.1 s.2))) made

      pub write_lane : CanNow → (v : View) × at mid v × v.fixed.lane < lane.shape.lanes
      unfolding Runs
      write_lane s =
          let v : View = s.0 in
          let working = s.2.0.working in
          let clean = (looks_all v working spans s.2.0.each v (clean_start v working)).1 in (
            after_all v (looks_at spans v),
            made v s.1.memory (looks_ready v s.1 s.2),
            subst (λ (sh : Shape). (after_all v (looks_at spans v)).fixed.lane < sh.lanes)
                (sym (shape_so at lane v s.1))
                (subst (λ (g : Constants). g.lane < v.fixed.shape.lanes) (sym (fixed_so clean.0))
                working.lane),
          )

      low_spans : (v : View) (ss : List Span) → AllByRecursion IsSpan ss
          → AllByRecursion (λ (r : KeptRecord). r.word < 2 ^ 60) (map (kept_in v) ss)
      low_spans v [] all = tt
      low_spans v (s ∷ ss) all = (all.0.low, low_spans v ss all.1)

      pub write_low : CanNow → All IsSpan spans → All (λ (r : KeptRecord). r.word < 2 ^ 60) kept
      write_low s fits = subst (λ (ks : List KeptRecord). All (λ (r : KeptRecord). r.word < 2 ^ 60)
          ks) (sym (kept_so s.0 s.1 s.2)) (All-from_recursion (λ (r : KeptRecord). r.word < 2 ^ 60)
          (map (kept_in s.0) spans) (low_spans s.0 spans (recursion_from_All IsSpan spans fits)))

      whole_runs : {T : Type 0} (new : M) (result : Result T Stopped)
          → Runs (at mid) (at new) (writes kept) result → (v : View) → KeepsLog at lane v
          → MayLog v spans → Ran (at new) v (records_all spans v) result
      unfolding Runs
      whole_runs new result runs v k can =
          let is = kept_so v k can in
          subst (λ steps. Ran (at new) v steps result) (plan_so v k kept is)
          (runs_then {T = Unit {0}} (at lane.memory) (at mid) (at new) (looks_at spans) (writes kept)
          tt result made runs v k.memory (plan_ready v k can kept is))

      pub logged_err : (T : Type 0) (new : M) (stopped : Stopped) (result : Result (Unit {0}) Stopped)
          → IsErr result → Runs {T = T} (at mid) (at new) (writes kept) (Err stopped)
          → LoggedSpans at spans lane (record lane { memory = new }) result
      unfolding LoggedSpans
      logged_err T new stopped (Ok done) error runs v k can = absurd (search rules)
      logged_err T new stopped (Err e) error runs v k can =
          (whole_runs new (Err stopped) runs v k can, refl)

      pub logged_ok : (new : Lane M) → Runs {T = Unit {0}} (at mid) (at new.memory) (writes kept)
          (Ok tt) → fields_of new ≡ record (fields_of lane) {
            generation = lane.log.generation;
            records = lane.log.records.items ++ kept;
          } → LoggedSpans at spans lane new (Ok tt)
      unfolding LoggedSpans
      logged_ok new runs grown v k can =
          let t = (lawful v k can).1 in
          log_moves at lane new (after_all v (records_all spans v)) lane.log.generation
          (lane.log.records.items ++ kept) grown (whole_runs new.memory (Ok tt) runs v k can)
          (shape_so at lane v k ∙ ap (λ (y : View). y.fixed.shape) (sym t.same))
          (generation_so at lane v k ∙ ap (λ (y : View). y.log.generation) (sym t.same))
          (ap (λ (ks : List KeptRecord). ks ++ kept) (records_so at lane v k)
          ∙ (ap (λ ks. kept_by v ++ ks) (kept_so v k can ∙ all_kept v spans can.0.each)
          ∙ (sym (map-append (kept_of v.fixed.shape) v.log.records (map (recorded_in v) spans))
          ∙ ap kept_by (sym t.same))))

-- ---- those that a range needs
module _ {M : Type 0} (at : M → View → Type 0) (lane : Lane M) (place len : ℕ) where
  needed_so : (v : View) → KeepsLog at lane v → plan_of lane.log.records.items place len ≡ needed v
      place len
  needed_so v k = ap (λ (rs : List KeptRecord). plan_of rs place len) (records_so at lane v k)

  -- more records are needed than are free
  pub refused : 64 < length lane.log.records.items + length
      (plan_of lane.log.records.items place len) → Snapshotted at place len lane lane
      (Err refusal.LogFull)
  unfolding Snapshotted
  refused full v k can = (
    let a = ap length (records_so at lane v k) ∙ length-map v.log.records
        (kept_of v.fixed.shape) in let b = ap length (needed_so v k) in omega (arith, full, a, b),
    refl,
  )

  module _ (spans : List Span) (are : spans ≡ plan_of lane.log.records.items place len)
      (room : length lane.log.records.items + length spans ≤ 64) where
    spans_so : (v : View) → KeepsLog at lane v → spans ≡ needed v place len
    spans_so v k = are ∙ needed_so v k

    may_log : (v : View) → KeepsLog at lane v → CanSnapshot v (needed v place len) → MayLog v spans
    may_log v k can = (
      subst (CanSnapshot v) (sym (spans_so v k)) can,
      subst (ArePast 0) (sym are)
          (plan_past lane.log.records.items place len),
    )

    pub spans_stand : Stands at lane (λ v. CanSnapshot v (needed v place len))
        → Stands at lane (λ v. MayLog v spans)
    spans_stand s = (s.0, s.1, may_log s.0 s.1 s.2)

    room_so : (v : View) → KeepsLog at lane v → HasSlots v (needed v place len)
    room_so v k = let a = ap length (records_so at lane v k) ∙ length-map v.log.records
        (kept_of v.fixed.shape) in let b = ap length (spans_so v k) in omega (arith, room, a, b)

    pub snapped_err : (new : Lane M) (stopped : Stopped) → LoggedSpans at spans lane new
        (Err stopped) → Snapshotted at place len lane new (Err refusal.Stopped)
    unfolding Snapshotted LoggedSpans snapshots
    snapped_err new stopped logged v k can = let t = logged v k (may_log v k can) in (
      room_so v k,
      subst (λ ss. Stops (at new.memory) v (records_all ss v)) (spans_so v k) t.0,
      t.1,
    )

    pub snapped_ok : (new : Lane M) (count : ℕ) → LoggedSpans at spans lane new (Ok tt)
        → count ≡ length (new_words (words_in lane.log.records.items) (covered_words place len))
        → Snapshotted at place len lane new (Ok count)
    unfolding Snapshotted LoggedSpans snapshots
    snapped_ok new count logged counted v k can = (
      room_so v k,
      counted ∙ ap
          (λ (rs : List KeptRecord). length (new_words (words_in rs) (covered_words place len)))
          (records_so at lane v k),
      subst (λ ss. LogMoves at lane new (after_all v (records_all ss v))) (spans_so v k)
          (logged v k (may_log v k can)),
    )
