-- Words may be recorded, and what that leaves.
use Rattle.std.proofs.Common.{◌≡◌, ℕ, ◌+◌, ◌<◌, ◌≤◌, not, List, [], ◌∷◌, ◌++◌, map, length, is_some, refl, sym, ap, ◌∙◌, subst, arith, length-append}
use Rattle.std.specs.List.{All, list_any}
use Rattle.std.proofs.lemmas.List.{append-nil, length-map, take_all}
use Rattle.pm_image.specs.Logs.{slot_line}
use Rattle.solo_model.specs.Bytes.{covered_words}
use Rattle.solo_view.specs.declared.change.Change.{Change}
use Rattle.solo_view.specs.Area.{area_word}
use Rattle.solo_view.specs.Changes.{drained, is_in_line}
use Rattle.solo_view.specs.Log.{Log, log_drained}
use Rattle.solo_view.specs.Log.Phase.{Open}
use Rattle.solo_view.specs.Steps.Step.{Drain}
use Rattle.solo_view.specs.View.{View}
use Rattle.solo_view.specs.Views.{after, after_all, log_after_drain}
use Rattle.solo_world.specs.Lanes.{span_of}
use Rattle.solo_world.specs.Records.{generation_of}
use Rattle.solo_world.specs.Sequences.{by_lane, by_view, looks, nothing, one, with_word, Ready}
use Rattle.solo_world.specs.declared.lane.Span.{Span}
use Rattle.solo_world.proofs.Going.{goes_one, goes_then, goes_weaker}
use Rattle.solo_undo.specs.Sequences.{logs, logs_any, recorded_in, snapshots, with_generation, writes_all, writes_records}
use Rattle.solo_undo.specs.Spans.{plan_of}
use Rattle.solo_undo.specs.Working.{CanSnapshot, IsSnapshot, IsWorking}
use Rattle.solo_undo.proofs.Areas.{generation_in_area}
use Rattle.solo_undo.proofs.Kept.{area_kept, records_kept}
use Rattle.solo_undo.proofs.Retired.{area_look}
use Rattle.solo_undo.proofs.Rising.{plan_is}
use Rattle.solo_undo.proofs.Staying.{looked, same_call, same_call-then, same_coursed}
use Rattle.solo_undo.proofs.Storing.{Is}
use Rattle.solo_undo.proofs.Unflushed.{clean_drained, drained_clean}
use Rattle.solo_undo.proofs.Writing.{IsLogging, IsPlan, look_keeps, records_written}

open_drained : (changes : List Change) (v : View) → v.log.phase ≡ Open [] [] → log_after_drain changes v ≡ v.log
open_drained [] v e = ap (λ p. log_drained p (is_some v.number) v.log) e
open_drained (c ∷ changes) v e = refl

module _ (v : View) (working : IsWorking v) (planned : List Span) (plan : IsPlan v planned) where
  begun : IsLogging v planned 0 v
  begun = record {
    call = same_call v;
    outside = λ u out. refl;
    generation = refl;
    is_open = working.is_open;
    records = sym (append-nil v.log.records);
    entries = refl;
    has = working.records;
    clean = λ slot low. clean_drained (slot_line v.lane slot) v.changes (working.drained slot (omega (arith, low)));
    some = λ none. absurd (omega (arith, none));
    free = λ j i from to low. (plan.fresh j to).new i low;
  }

  drained_all : (u : View) → 0 < length planned → IsLogging v planned (length planned) u → IsSnapshot planned v (after u Drain)
  drained_all u more p =
      let w : View = after u Drain in
      let log : w.log ≡ u.log = open_drained (drained u.changes) u p.is_open in
      let on = same_coursed u (drained u.changes) (u.calls + 1) w.log in
      let call = same_call-then v u w p.call on in
      let area = area_kept v u p.call p.generation working.area in
      let records : w.log.records ≡ v.log.records ++ map (recorded_in v) planned =
      ap (λ (l : Log). l.records) log ∙ (p.records ∙ ap (λ l. v.log.records ++ map (recorded_in v) l) (take_all (length planned) planned (omega arith))) in
      record {
        stays = record { call = call; outside = p.outside; generation = p.generation };
        working = record {
          is_open = ap (λ (l : Log). l.phase) log ∙ p.is_open;
          undrawn = call.number ∙ working.undrawn;
          area = area_kept v w call p.generation working.area;
          records = records_kept u w on area p.has (ap (λ (l : Log). l.records) log) refl (λ z from to. refl);
          drained = λ slot low.
              let n = ap length records in let a = length-append v.log.records (map (recorded_in v) planned) in let b = length-map planned (recorded_in v) in
              ap (λ k. not (list_any (is_in_line (slot_line k slot)) (drained u.changes))) call.lane.lane
              ∙ ap not (drained_clean (slot_line v.lane slot) u.changes (p.clean slot (omega (arith, low, n, a, b))));
        };
        records = records;
        entries = ap (λ (l : Log). l.entries) log ∙ p.entries;
      }

  logs_lawful : 0 < length planned → Ready v (logs (length v.log.records) planned v) × IsSnapshot planned v (after_all v (logs (length v.log.records) planned v))
  unfolding logs with_generation by_lane with_word by_view writes_all
  logs_lawful more =
      goes_then (Is v) (IsLogging v planned 0) (IsSnapshot planned v) (looks (area_word v.lane)) (writes_all (length v.log.records) planned v.lane (generation_of v))
      (goes_weaker (Is v) (Is v) (Is (looked v (area_word v.lane))) (IsLogging v planned 0) (looks (area_word v.lane)) (λ u is. is)
      (λ u is. subst (IsLogging v planned 0) (sym is) (look_keeps v working planned plan 0 v (area_word v.lane) begun))
      (area_look v working.area (area_word v.lane) (generation_in_area v.lane) (let most = working.area.inside in omega (arith, most))))
      (goes_then (IsLogging v planned 0) (IsLogging v planned (length planned)) (IsSnapshot planned v) (writes_records v.lane (generation_of v) (length v.log.records) planned) (one Drain)
      (records_written v working planned plan)
      (goes_one (IsLogging v planned (length planned)) (IsSnapshot planned v) Drain (λ u p. (p.some more, tt, drained_all u more p))))
      v refl

-- with nothing to record all is as it is
nothing_logged : (v : View) → IsWorking v → IsSnapshot [] v v
nothing_logged v working = record {
  stays = record { call = same_call v; outside = λ u out. refl; generation = refl };
  working = working;
  records = sym (append-nil v.log.records);
  entries = refl;
}

any_logged : (v : View) → IsWorking v → (planned : List Span) → IsPlan v planned → Ready v (logs_any (length v.log.records) planned v) × IsSnapshot planned v (after_all v (logs_any (length v.log.records) planned v))
unfolding logs_any nothing Ready after_all
any_logged v working [] plan = (tt, nothing_logged v working)
any_logged v working (s ∷ planned) plan = logs_lawful v working (s ∷ planned) plan (omega arith)

pub snapshot_lawful : (v : View) (place len : ℕ) → IsWorking v → All (CanSnapshot v) (covered_words place len) → length v.log.records + length (plan_of (map span_of v.log.records) place len) ≤ 64
    → Ready v (snapshots (map span_of v.log.records) place len v) × IsSnapshot (plan_of (map span_of v.log.records) place len) v (after_all v (snapshots (map span_of v.log.records) place len v))
unfolding snapshots
snapshot_lawful v place len working can room =
    let planned : List Span = plan_of (map span_of v.log.records) place len in
    subst (λ n. Ready v (logs_any n planned v) × IsSnapshot planned v (after_all v (logs_any n planned v))) (sym (length-map v.log.records span_of))
    (any_logged v working planned (plan_is v place len can room))
