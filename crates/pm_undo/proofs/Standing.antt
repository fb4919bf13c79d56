-- What a snapshot leaves: a lane at work, whose records may be put back.
use Rattle.std.proofs.Common.{◌≡◌, ℕ, ◌+◌, ◌<◌, ◌≤◌, inl, false, List, [], ◌∷◌, ◌++◌, length, map, refl, sym, ap, ◌∙◌, subst, arith, length-append}
use Rattle.std.specs.List.{AllByRecursion}
use Rattle.std.proofs.lemmas.List.{append-nil, length-map}
use Rattle.pm_layout.specs.declared.shape.Shape.{Shape}
use Rattle.pm_view.specs.Log.{Recorded}
use Rattle.pm_view.specs.Places.{place_after}
use Rattle.pm_view.specs.View.{View, Constants}
use Rattle.pm_view.specs.Views.{after_all}
use Rattle.pm_world.specs.Lawful.{CanRecord}
use Rattle.pm_world.specs.Sights.{is_recorded}
use Rattle.pm_plan.specs.Plans.{Ready, in_turn, nothing}
use Rattle.pm_plan.proofs.Going.{Goes, goes_nothing, goes_then, goes_weaker}
use Rattle.pm_undo.specs.Plans.{looks_at, logs, logs_here, records_all, snapshots, writes_all}
use Rattle.pm_undo.specs.Records.{kept_by, kept_in, recorded_in}
use Rattle.pm_undo.specs.Spans.{ArePast, plan_of}
use Rattle.pm_undo.specs.Working.{CanSnapshot, HasSlots, IsSnapshot, IsStanding, IsWorking}
use Rattle.pm_undo.specs.declared.spans.Span.{Span}
use Rattle.pm_undo.proofs.Apart.{apart_from, once_both, past_once}
use Rattle.pm_undo.proofs.Logging.{beyond_slots, fixed_so, knows_so, log_again, pictures_so, still_working}
use Rattle.pm_undo.proofs.Rising.{plan_past}
use Rattle.pm_undo.proofs.Snapshotted.{all_kept, all_past, all_rows}
use Rattle.pm_undo.proofs.Snapshotting.{HasClean, clean_start, logs_some, looks_all}

both_all : {A : Type 0} (P : A → Type 0) (xs ys : List A) → AllByRecursion P xs
    → AllByRecursion P ys → AllByRecursion P (xs ++ ys)
both_all P [] ys a b = b
both_all P (x ∷ xs) ys a b = (a.0, both_all P xs ys a.1 b)

module _ (v : View) where
  -- what the records of spans are, that may be written
  abbrev CanAll : List Span → Type 0
  CanAll spans = AllByRecursion (λ (s : Span). CanRecord v (recorded_in v s)) spans

  all_stand : (spans : List Span) → CanAll spans → AllByRecursion (IsStanding v)
      (map (recorded_in v) spans)
  all_stand [] all = tt
  all_stand (s ∷ spans) all = let can = all.0 in (
    record {
      some = can.some;
      most = can.most;
      data_ = λ i low. (can.each i low).word.plain;
      row = can.row;
      use_ = λ i low. (can.each i low).word.use_;
      small = λ i low. (can.each i low).small;
    },
    all_stand spans all.1,
  )

  all_new : (spans : List Span) → CanAll spans → AllByRecursion (λ (r : Recorded). (i : ℕ)
      → i < length r.old → is_recorded v.log.records (place_after r.place i) ≡ false)
      (map (recorded_in v) spans)
  all_new [] all = tt
  all_new (s ∷ spans) all = ((λ i low. (all.0.each i low).word.new), all_new spans all.1)

  module _ (working : IsWorking v) where
    abbrev sh : Shape
    sh = v.fixed.shape

    abbrev Clean : List Recorded → View → Type 0
    Clean records = HasClean v working records

    logs_all : (spans : List Span) → CanAll spans → ArePast 0 spans → length v.log.records + length
        spans ≤ 64
        → Goes (Clean v.log.records) (logs sh v.fixed.lane v.log.generation (length v.log.records)
        (map (kept_in v) spans)) (Clean (v.log.records ++ map (recorded_in v) spans))
    unfolding logs
    logs_all [] can past room = goes_weaker (Clean v.log.records) (Clean v.log.records)
        (Clean v.log.records) (Clean (v.log.records ++ [])) nothing (λ u p. p)
        (λ u p. subst (λ rs. Clean rs u) (sym (append-nil v.log.records)) p)
        (goes_nothing (Clean v.log.records))
    logs_all (s ∷ spans) can past room =
        subst (λ ks. Goes (Clean v.log.records) (writes_all sh v.fixed.lane v.log.generation
        (length v.log.records) ks) (Clean (v.log.records ++ map (recorded_in v) (s ∷ spans))))
        (sym (all_kept v (s ∷ spans) can))
        (logs_some v working (s ∷ spans) can past room (omega arith))

    logs_here_all : (spans : List Span) → CanAll spans → ArePast 0 spans
        → length v.log.records + length spans ≤ 64
        → Goes (Clean v.log.records) (logs_here sh v.log.generation (length v.log.records)
        (map (kept_in v) spans)) (Clean (v.log.records ++ map (recorded_in v) spans))
    unfolding logs_here
    logs_here_all spans can past room u p =
        subst (λ (g : Constants). Ready u (logs sh g.lane v.log.generation (length v.log.records)
        (map (kept_in v) spans) u) × Clean (v.log.records ++ map (recorded_in v) spans)
        (after_all u (logs sh g.lane v.log.generation (length v.log.records) (map (kept_in v) spans)
        u)))
        (sym (fixed_so p.0)) (logs_all spans can past room u p)

    -- A SNAPSHOT IS LAWFUL, AND LEAVES ITS RECORDS
    pub recorded_lawful : (spans : List Span) → ArePast 0 spans → CanSnapshot v spans
        → HasSlots v spans → Ready v (records_all spans v)
        × IsSnapshot v spans (after_all v (records_all spans v))
    unfolding records_all
    recorded_lawful spans past can room =
        let new : List Recorded = map (recorded_in v) spans in
        let all : List Recorded = v.log.records ++ new in
        let t = goes_then (Clean v.log.records) (Clean v.log.records) (Clean all) (looks_at spans)
        (logs_here sh v.log.generation (length v.log.records) (map (kept_in v) spans))
        (looks_all v working spans can.each) (logs_here_all spans can.each past room) v
        (clean_start v working) in
        let w : View =
        after_all v
        (in_turn (looks_at spans) (logs_here sh v.log.generation (length v.log.records)
        (map (kept_in v) spans)) v) in
        let p : Clean all w = t.1 in (
          t.0,
          record {
            same = p.0.same ∙ ap (λ l. record v {
              claims = w.claims;
              changes = w.changes;
              calls = w.calls;
              log = l;
            }) (sym (log_again v working all));
            noted = record { notes = p.0.notes; are = p.0.are; each = p.0.each };
            changes = p.1;
            known = λ y far. knows_so p.0 y (beyond_slots v working y far);
            others = λ y out. pictures_so p.0 y out;
            working = still_working p.0 working (inl (omega arith)) p.1 refl (let a = length-append v.log.records new in
                let b = length-map spans (recorded_in v) in omega (arith, a, b, room))
                (both_all (IsStanding v) v.log.records new working.standing
                (all_stand spans can.each))
                (once_both v.log.records new working.once
                (past_once sh 0 new (all_past v 0 spans can.each past)
                (all_rows v spans can.each))
                (apart_from v.log.records new (all_new spans can.each)));
          },
        )

pub snapshot_lawful : (v : View) (place len : ℕ) → CanSnapshot v (plan_of (kept_by v) place len)
    → HasSlots v (plan_of (kept_by v) place len) → Ready v (snapshots place len v)
    × IsSnapshot v (plan_of (kept_by v) place len) (after_all v (snapshots place len v))
unfolding snapshots
snapshot_lawful v place len can room = recorded_lawful v can.working (plan_of (kept_by v) place len)
    (plan_past (kept_by v) place len) can room
