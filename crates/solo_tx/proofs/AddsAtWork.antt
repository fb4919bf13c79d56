-- A lane at work may record a range that it knows; it stays at work, and its call is what the plain model's record makes of it.
use Rattle.std.proofs.Common.{◌≡◌, ℕ, ◌+◌, ◌-◌, ◌*◌, ◌^◌, ◌<◌, ◌≤◌, ◌&&◌, ◌||◌, not, Bool, All, Contains, IsTrue, List, [], ◌∷◌, ◌++◌, length, map, None, true, false, is_some, eqb, leb, eq-eqb, refl, sym, ap, ◌∙◌, subst, arith}
use Rattle.std.specs.List.{list_any}
use Rattle.std.proofs.lemmas.Bool.{and_from, and_parts, leb-true, or_right}
use Rattle.std.proofs.lemmas.List.{length-map, map-append}
use Rattle.std.proofs.lemmas.List.Elements.{All-append, All-contains_itself, All-weaker}
use Rattle.std.proofs.lemmas.List.Folds.{list_any_at}
use Rattle.solo_crash.specs.CallBlocks.{IsOldIn}
use Rattle.solo_crash.proofs.AddOn.{add_goes_on}
use Rattle.solo_crash.proofs.CallWords.{behind_is_outside}
use Rattle.solo_crash.proofs.NewRecords.{new_is_covered}
use Rattle.solo_crash.specs.OpenCall.{words_recorded}
use Rattle.solo_crash.specs.Operations.{AddsRange, HasRange, Overfills}
use Rattle.solo_model.specs.Bytes.{covered_words}
use Rattle.pm_objects.specs.declared.calls.Operation.TheVariants.{AddRange}
use Rattle.pm_objects.specs.declared.ids.Oid.{Oid}
use Rattle.solo_view.specs.Area.{is_in_area}
use Rattle.solo_view.specs.Held.{is_known, is_under}
use Rattle.solo_view.specs.Log.{Phase, Recorded}
use Rattle.solo_view.specs.Rights.{is_written}
use Rattle.solo_view.specs.Steps.Step.{Tell}
use Rattle.solo_view.specs.View.{View, Lock, Told}
use Rattle.solo_view.specs.Views.{after, after_all}
use Rattle.solo_undo.proofs.Begun.{tell_works}
use Rattle.solo_undo.proofs.Covering.{range_recorded}
use Rattle.solo_undo.proofs.Fitting.{plan_fits}
use Rattle.solo_undo.proofs.Learned.{opening_kept}
use Rattle.solo_undo.proofs.Lockings.{locked_is_plain, locked_may_be_recorded}
use Rattle.solo_undo.proofs.Snapshotted.{snapshot_lawful}
use Rattle.solo_undo.proofs.Storing.{Is, goes_from}
use Rattle.solo_undo.specs.Sequences.{recorded_in, snapshots}
use Rattle.solo_undo.specs.Spans.{IsSpan, plan_of}
use Rattle.solo_undo.specs.Working.{CanSnapshot, FindsOpening, IsSnapshot}
use Rattle.solo_view.specs.Blocks.{chunk_of, descriptor_word, is_chunk, zone_of, zone_page}
use Rattle.solo_world.proofs.Going.{goes_then}
use Rattle.solo_world.specs.Lanes.{span_of}
use Rattle.solo_world.specs.Lawful.{MayTell}
use Rattle.solo_world.specs.Opening.{Opening}
use Rattle.solo_world.specs.Records.{is_recorded}
use Rattle.solo_world.specs.Sequences.{Ready, one}
use Rattle.solo_world.specs.declared.lane.Lane.{Lane}
use Rattle.solo_world.specs.declared.lane.Span.{Span}
use Rattle.solo_lock.proofs.Drawless.{drawless}
use Rattle.solo_lock.specs.Leading.{DrawEnded}
use Rattle.solo_tx.proofs.GoingOn.{HasSameFields, KeepsObjects, goes_on}
use Rattle.solo_tx.proofs.NoneMade.{made_none_before}
use Rattle.solo_tx.proofs.Objects.{covered_block, covered_under, is_found, size_under}
use Rattle.solo_tx.proofs.PlannedRecords.{extents_planned, planned_count, present_planned, spans_again}
use Rattle.solo_memory.specs.Runs.{Stops}
use Rattle.solo_tx.proofs.Fronts.{front_undrawn}
use Rattle.solo_tx.specs.AtWork.{IsAtWork}
use Rattle.solo_tx.specs.Ranges.{CanAdd, HasAddedRange, StopsUndrawn, adds_range}
use Rattle.solo_crash.proofs.PendingOn.{published_once_more}
use Rattle.solo_crash.specs.Pending.{published_in}
use Rattle.std.proofs.lemmas.List.{append-nil}

-- a word in the list is known
pub listed_is_known : (v : View) (u : ℕ) → Contains v.known u → is_known v u ≡ true
listed_is_known v u there = or_right (is_in_area v.lane u) (list_any (λ other. eqb other u) v.known) (list_any_at (λ other. eqb other u) v.known there.0 u there.1 (eq-eqb _ u there.2))

-- a word that describes a chunk is of no lane's area
descriptor_is_outside : (v : View) (page : ℕ) → v.lane < v.lanes → is_chunk v.lanes page ≡ true → is_in_area v.lane (descriptor_word v.lanes page) ≡ false
descriptor_is_outside v page lane chunk =
    let some = leb-true 1 (chunk_of v.lanes page) (and_parts (leb (zone_page v.lanes 0) page) (leb 1 (chunk_of v.lanes page)) chunk).1 in
    behind_is_outside v.lane v.lanes (descriptor_word v.lanes page) lane (high (zone_of v.lanes page) (chunk_of v.lanes page) some) where
      high : (zone chunk : ℕ) → 1 ≤ chunk → 512 + 1024 * v.lanes ≤ 512 * zone_page v.lanes zone + chunk - 1
      high zone chunk some = omega (arith, some)

allowed : (b : Bool) → (b || not true) ≡ true → b ≡ true
allowed true e = refl
allowed false e = absurd cc

module _ {M : Type 0} (o : Opening) (at : M → View → Type 0) (lane : Lane M) (v : View) (work : IsAtWork o at lane v) (id : Oid) (off len : ℕ) where
  -- a covered word is held for writing
  covered_written : HasRange v id off len true → (i : ℕ) → Contains (covered_words (id.off + off) len) i → is_written v i ≡ true
  covered_written range i there =
      let l : Lock = range.object.lock in
      let held = range.object.held in
      list_any_at (λ (l : Lock). l.write && is_some l.block && is_under i l) v.locks held.0 l held.1
      (ap (λ (l : Lock). l.write && is_some l.block && is_under i l) held.2
      ∙ and_from (l.write && is_some l.block) (is_under i l) (and_from l.write (is_some l.block) (allowed l.write range.object.allows) (is_found v work.objects l held)) (covered_under v work.objects id off len true range i there))

  module _ (can : CanAdd v id off len) where
    may_record : All (CanSnapshot v) (covered_words (id.off + off) len)
    may_record =
        All-weaker (Contains (covered_words (id.off + off) len)) (CanSnapshot v)
        (λ i there. locked_may_be_recorded o work.sound v work.opening i (covered_written can.range i there) (listed_is_known v i (can.known i there)))
        (covered_words (id.off + off) len) (All-contains_itself (covered_words (id.off + off) len))

    module _ (room : length v.log.records + length (plan_of (map span_of v.log.records) (id.off + off) len) ≤ 64) where
      abbrev spans : List Span
      spans = map span_of v.log.records

      abbrev plan : List Span
      plan = plan_of (map span_of v.log.records) (id.off + off) len

      abbrev u : View
      u = after_all v (snapshots (map span_of v.log.records) (id.off + off) len v)

      abbrev w : View
      w = after u (Tell (AddRange id off len) None)

      made : Ready v (snapshots spans (id.off + off) len v) × IsSnapshot plan v u
      made = snapshot_lawful v (id.off + off) len work.working may_record room

      pub adds_first : Ready v (snapshots (map span_of v.log.records) (id.off + off) len v)
      adds_first = made.0

      may_tell : MayTell u.log.phase
      may_tell = subst (λ (p : Phase). MayTell p) (sym made.1.working.is_open) tt

      sequence : Ready v (adds_range spans id off len v) × (after_all v (adds_range spans id off len v) ≡ w)
      unfolding adds_range one Ready after_all
      sequence =
          goes_then (Is v) (Is u) (Is w) (snapshots spans (id.off + off) len) (one (Tell (AddRange id off len) None))
          (goes_from v (Is u) (snapshots spans (id.off + off) len) (made.0, refl))
          (goes_from u (Is w) (one (Tell (AddRange id off len) None)) ((may_tell, tt, tt), refl)) v refl

      pub add_may_be_made : Ready v (adds_range (map span_of v.log.records) id off len v)
      add_may_be_made = sequence.0

      range_added : AddsRange v w id off len
      range_added =
          let call = made.1.stays.call in
          record {
            tells = record {
              keeps = record { lanes = call.lane.lanes; zones = call.lane.zones; pool = call.lane.pool; lane = call.lane.lane; entries = call.entries; known = call.remembers };
              locks = call.locks;
              call = ap (λ (told : List Told). told ++ record { operation = AddRange id off len; reply = None } ∷ []) call.call;
            };
            keeps = record { words = made.1.stays.outside };
            range = can.range;
            added = map (recorded_in v) plan;
            records = made.1.records;
            entries = made.1.entries;
            extents = extents_planned v (id.off + off) len;
            present = present_planned v (id.off + off) len can.known;
            under = λ i is. covered_block v work.objects id off len true can.range i
                (new_is_covered (map (recorded_in v) plan) (words_recorded v.log.records) (covered_words (id.off + off) len) i (extents_planned v (id.off + off) len) is);
            room = (let n = length-map plan (recorded_in v) in omega (arith, n, room));
          }

      objects : KeepsObjects v w
      objects =
          let call = made.1.stays.call in
          record {
            lane = (let s = call.lane in record { lanes = s.lanes; zones = s.zones; pool = s.pool; lane = s.lane; stop = s.stop; table = s.table; size = s.size });
            locks = call.locks;
            number = call.number;
            entries = call.entries;
            remembers = call.remembers;
            seen = call.seen;
            sizes = λ l held.
                made.1.stays.outside (8 * l.line + 1) (locked_is_plain o work.sound v work.opening l (8 * l.line + 1) held (is_found v work.objects l held) (size_under v work.objects l held)).2;
          }

      add_few : length (after_all v (adds_range (map span_of v.log.records) id off len v)).entries ≤ length v.entries
      add_few = let same = ap (λ (u : View). length u.entries) sequence.1 in let e = ap length objects.entries in omega (arith, same, e)

      add_draws : DrawEnded v (adds_range (map span_of v.log.records) id off len v)
      add_draws = drawless v (adds_range (map span_of v.log.records) id off len v) add_few

      -- it stopped before the range was told
      pub add_stops : (new : View → Type 0) → Stops new v (adds_range (map span_of v.log.records) id off len v) → StopsUndrawn new v (adds_range (map span_of v.log.records) id off len)
      add_stops new stops =
          let none = front_undrawn v (adds_range (map span_of v.log.records) id off len v) stops.made add_few work.working.undrawn in
          record { ready = add_may_be_made; draws = add_draws; stops = stops; number = none.0; entries = none.1 }

      pub add_is_made : IsOldIn v id.off → id.off + off + len < 2 ^ 60 → (next : Lane M) → HasSameFields lane next → next.records.items ≡ lane.records.items ++ plan → at next.memory w → HasAddedRange o at next v (map span_of v.log.records) id off len
      add_is_made old low next fields records seen =
          let call = made.1.stays.call in
          let added : AddsRange v w id off len = range_added in
          let opening_u : FindsOpening o u =
          opening_kept o v u work.opening call.lane call.locks (λ page chunk. made.1.stays.outside (descriptor_word v.lanes page) (descriptor_is_outside v page work.opening.lane chunk)) in
          let opening : FindsOpening o w = record { lane = opening_u.lane; lanes = opening_u.lanes; size = opening_u.size; descriptors = opening_u.descriptors; locks = opening_u.locks } in
          let works : IsAtWork o at next w =
          goes_on o at lane next v w work fields objects seen
          (records ∙ ap (λ (l : List Span). l ++ plan) work.seen.records ∙ ap (λ (l : List Span). map span_of v.log.records ++ l) (sym (spans_again v plan)) ∙ sym (map-append span_of v.log.records (map (recorded_in v) plan)) ∙ ap (map span_of) (sym made.1.records))
          (subst (λ (l : List Span). All IsSpan l) (sym records) (All-append IsSpan lane.records.items plan work.spans (plan_fits spans (id.off + off) len low)))
          opening
          (tell_works u (AddRange id off len) None made.1.working)
          (made.1.entries ∙ work.no_entries)
          (published_once_more v w (AddRange id off len) None added.tells.keeps.entries added.tells.call ∙ append-nil (published_in v))
          (made_none_before v w (AddRange id off len) None added.tells.keeps.entries added.tells.call tt)
          (add_goes_on v w id off len lane.level work.level work.under_way added old) in
          record {
            ready = add_may_be_made;
            draws = add_draws;
            works = subst (IsAtWork o at next) (sym sequence.1) works;
            added = subst (λ (z : View). AddsRange v z id off len) (sym sequence.1) added;
            recorded =
                subst (λ (z : View). All (λ i. IsTrue (is_recorded z.log.records i)) (covered_words (id.off + off) len)) (sym sequence.1)
                (subst (λ (rs : List Recorded). All (λ i. IsTrue (is_recorded rs i)) (covered_words (id.off + off) len)) (sym made.1.records) (range_recorded v v.log.records (id.off + off) len));
          }

  -- the same by the lane's own records
  module _ (can : CanAdd v id off len) where
    few : (spans : List Span) → spans ≡ map span_of v.log.records → length spans + length (plan_of spans (id.off + off) len) ≤ 64 → length v.log.records + length (plan_of (map span_of v.log.records) (id.off + off) len) ≤ 64
    few spans is room = let n = length-map v.log.records span_of in let a = ap length is in let b = ap (λ s. length (plan_of s (id.off + off) len)) is in omega (arith, room, n, a, b)

    pub lane_adds_first : length lane.records.items + length (plan_of lane.records.items (id.off + off) len) ≤ 64 → Ready v (snapshots lane.records.items (id.off + off) len v)
    lane_adds_first room = subst (λ s. Ready v (snapshots s (id.off + off) len v)) (sym work.seen.records) (adds_first can (few lane.records.items work.seen.records room))

    pub lane_may_add : length lane.records.items + length (plan_of lane.records.items (id.off + off) len) ≤ 64 → Ready v (adds_range lane.records.items id off len v)
    lane_may_add room = subst (λ s. Ready v (adds_range s id off len v)) (sym work.seen.records) (add_may_be_made can (few lane.records.items work.seen.records room))

    pub lane_has_added : IsOldIn v id.off → length lane.records.items + length (plan_of lane.records.items (id.off + off) len) ≤ 64 → id.off + off + len < 2 ^ 60 → (next : Lane M) → HasSameFields lane next
        → next.records.items ≡ lane.records.items ++ plan_of lane.records.items (id.off + off) len → at next.memory (after (after_all v (snapshots lane.records.items (id.off + off) len v)) (Tell (AddRange id off len) None))
        → HasAddedRange o at next v lane.records.items id off len
    lane_has_added old room low next fields records seen =
        subst (λ s. HasAddedRange o at next v s id off len) (sym work.seen.records)
        (add_is_made can (few lane.records.items work.seen.records room) old low next fields
        (records ∙ ap (λ s. lane.records.items ++ plan_of s (id.off + off) len) work.seen.records)
        (subst (λ s. at next.memory (after (after_all v (snapshots s (id.off + off) len v)) (Tell (AddRange id off len) None))) work.seen.records seen))

    pub lane_stops : length lane.records.items + length (plan_of lane.records.items (id.off + off) len) ≤ 64 → (new : View → Type 0) → Stops new v (adds_range lane.records.items id off len v) → StopsUndrawn new v (adds_range lane.records.items id off len)
    lane_stops room new stops =
        subst (λ s. StopsUndrawn new v (adds_range s id off len)) (sym work.seen.records)
        (add_stops can (few lane.records.items work.seen.records room) new (subst (λ s. Stops new v (adds_range s id off len v)) work.seen.records stops))

    pub lane_overfills : 64 < length lane.records.items + length (plan_of lane.records.items (id.off + off) len) → Overfills v id off len true
    lane_overfills over = record {
      range = can.range;
      overfull = (
          let n = length-map v.log.records span_of in let a = ap length work.seen.records in let b = ap (λ s. length (plan_of s (id.off + off) len)) work.seen.records in let c = planned_count v.log.records (id.off + off) len in
          omega (arith, over, n, a, b, c)
          );
    }
