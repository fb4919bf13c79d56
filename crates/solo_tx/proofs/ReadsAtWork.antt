-- A lane at work may read a range that it knows; it stays at work, and what it reads is what the plain model does.
use Rattle.std.proofs.Common.{◌≡◌, ◌≢◌, ℕ, ◌+◌, ◌-◌, ◌*◌, ◌/◌, ◌%◌, ◌<◌, ◌≤◌, ⊎_elim, All, Contains, List, [], ◌∷◌, ◌++◌, length, map, take, drop, slice_index, Some, false, refl, sym, ap, ◌∙◌, subst, arith}
use Rattle.std.specs.List.{range_with_len}
use Rattle.std.proofs.lemmas.Bool.{cases_eq}
use Rattle.std.proofs.lemmas.List.{ext_get_or, get_or-drop, get_or-take, length-drop, length-take-le}
use Rattle.std.proofs.lemmas.List.FromFn.{length-map-range_with_len}
use Rattle.pm_words.proofs.Reading.{length-bytes_of}
use Rattle.pm_words.specs.Words.{bytes_of}
use Rattle.solo_crash.specs.CallBlocks.{IsOldIn}
use Rattle.solo_crash.proofs.Bytewise.{byte_of_words}
use Rattle.solo_crash.proofs.Covered.{count_of, covers_some}
use Rattle.solo_crash.proofs.ReadOn.{read_goes_on}
use Rattle.solo_crash.specs.Operations.{ReadsBytes, bytes_seen}
use Rattle.solo_model.specs.Bytes.{covered_words}
use Rattle.pm_objects.specs.declared.calls.Operation.TheVariants.{Read}
use Rattle.pm_objects.specs.declared.history.Value.TheVariants.{Bytes}
use Rattle.pm_objects.specs.declared.ids.Oid.{Oid}
use Rattle.solo_view.specs.Log.{Log, Phase}
use Rattle.solo_view.specs.Steps.Step.{Tell}
use Rattle.solo_view.specs.View.{View, Told}
use Rattle.solo_view.specs.Views.{after, after_all}
use Rattle.solo_undo.proofs.Begun.{tell_works}
use Rattle.solo_undo.proofs.Lockings.{locked_is_plain}
use Rattle.solo_undo.proofs.Retired.{may_look}
use Rattle.solo_undo.proofs.Staying.{looked, same_call, same_call-then, same_looked}
use Rattle.solo_undo.proofs.Storing.{Is, goes_from}
use Rattle.solo_undo.proofs.Written.{work_goes_on}
use Rattle.solo_undo.specs.Sequences.{looks_from}
use Rattle.solo_undo.specs.Spans.{IsSpan}
use Rattle.solo_undo.specs.Working.{FindsOpening, IsSameCall, IsWorking}
use Rattle.solo_world.proofs.Going.{Goes, goes_counted, goes_then}
use Rattle.solo_world.specs.Lanes.{span_of}
use Rattle.solo_world.specs.Lawful.{MayTell}
use Rattle.solo_world.specs.Opening.{Opening}
use Rattle.solo_world.specs.Sequences.{Ready, looks, one}
use Rattle.solo_world.specs.declared.lane.Lane.{Lane}
use Rattle.solo_lock.proofs.Drawless.{drawless}
use Rattle.solo_tx.proofs.AddsAtWork.{listed_is_known}
use Rattle.solo_tx.proofs.GoingOn.{HasSameFields, goes_on}
use Rattle.solo_tx.proofs.NoneMade.{made_none_before}
use Rattle.solo_tx.proofs.Objects.{covered_under, is_found}
use Rattle.solo_tx.proofs.WrittenBytes.{counted_covered}
use Rattle.solo_tx.specs.AtWork.{IsAtWork}
use Rattle.solo_tx.specs.Ranges.{HasReadRange, KnowsRange, reads_range}
use Rattle.solo_tx.specs.Sequences.{byte_in, reads, word_count}
use Rattle.solo_crash.proofs.PendingOn.{published_once_more}
use Rattle.solo_crash.specs.Pending.{published_in}
use Rattle.std.proofs.lemmas.List.{append-nil}

-- the bytes that stand from a place on are those of the words that cover them
some_seen : (v : View) (id : Oid) (off len : ℕ) (told : List ℕ) → 0 < len → id.off % 8 ≡ 0 → length told ≡ len → ((k : ℕ) → k < len → slice_index told k ≡ byte_in v.words (id.off + off + k)) → told ≡ bytes_seen v id off len
some_seen v id off len told some even long each =
    let place : ℕ = id.off + off in
    let count : ℕ = count_of (id.off + off) len in
    let words : List ℕ = map (slice_index v.words) (range_with_len ((id.off + off) / 8) (count_of (id.off + off) len)) in
    let many : length words ≡ count_of (id.off + off) len = length-map-range_with_len (slice_index v.words) ((id.off + off) / 8) (count_of (id.off + off) len) in
    let bytes : length (bytes_of words) ≡ 8 * length words = length-bytes_of words in
    let behind : length (drop (off % 8) (bytes_of words)) ≡ length (bytes_of words) - off % 8 = length-drop (off % 8) (bytes_of words) in
    let enough : off % 8 + len ≤ 8 * count_of (id.off + off) len = omega (arith, some, even) in
    let size : length (take len (drop (off % 8) (bytes_of words))) ≡ len = length-take-le len (drop (off % 8) (bytes_of words)) (omega (arith, many, bytes, behind, enough)) in
    ext_get_or 0 told (take len (drop (off % 8) (bytes_of words))) (long ∙ sym size)
    (λ k low.
    let inside : k < len = omega (arith, low, long) in
    each k inside
    ∙ sym (get_or-take len (drop (off % 8) (bytes_of words)) k 0 inside
    ∙ (get_or-drop (off % 8) (bytes_of words) k 0
    ∙ byte_of_words (slice_index v.words) ((id.off + off) / 8) (count_of (id.off + off) len) (off % 8 + k) (id.off + off + k) (omega (arith, enough, inside)) (omega (arith, even)))))
    ∙ ap (λ ws. take len (drop (off % 8) (bytes_of (map (slice_index v.words) ws)))) (sym (covers_some (id.off + off) len some))

none_told : (told : List ℕ) → length told ≡ 0 → told ≡ []
none_told [] none = refl
none_told (b ∷ told) none = absurd (omega (arith, none))

pub told_is_seen : (v : View) (id : Oid) (off len : ℕ) (told : List ℕ) → id.off % 8 ≡ 0 → length told ≡ len → ((k : ℕ) → k < len → slice_index told k ≡ byte_in v.words (id.off + off + k)) → told ≡ bytes_seen v id off len
told_is_seen v id off len told even long each = ⊎_elim
    (λ (none : len ≡ 0). none_told told (long ∙ none) ∙ ap (λ n. take n (drop (off % 8) (bytes_of (map (slice_index v.words) (covered_words (id.off + off) len))))) (sym none))
    (λ (some : len ≢ 0). some_seen v id off len told (let e : 0 < len = grind (arith, some) in e) even long each)
    (cases_eq len 0)

module _ {M : Type 0} (o : Opening) (at : M → View → Type 0) (lane : Lane M) (v : View) (work : IsAtWork o at lane v) (id : Oid) (off len : ℕ) (can : KnowsRange v id off len false) where
  -- the lane looked at some of the words
  record HasLooked (w : View) : Type 0 where
    call : IsSameCall v w
    working : IsWorking w
    log : w.log ≡ v.log
    opening : FindsOpening o w
    words : w.words ≡ v.words

  look : (k : ℕ) → k < word_count (id.off + off) len → Goes HasLooked (looks ((id.off + off) / 8 + k)) HasLooked
  look k below u has =
      let word : ℕ = (id.off + off) / 8 + k in
      let there = counted_covered (id.off + off) len k below in
      let lock = can.range.object.lock in
      let held = subst (λ locks. Contains locks can.range.object.lock) (sym has.call.locks) can.range.object.held in
      let t = locked_is_plain o work.sound u has.opening can.range.object.lock ((id.off + off) / 8 + k) held (is_found v work.objects can.range.object.lock can.range.object.held)
      (covered_under v work.objects id off len false can.range ((id.off + off) / 8 + k) there) in
      may_look u ((id.off + off) / 8 + k) HasLooked t.1 (has.call.known ((id.off + off) / 8 + k) (listed_is_known v ((id.off + off) / 8 + k) (can.known ((id.off + off) / 8 + k) there))) t.0.quiet
      (record {
        call = same_call-then v u (looked u ((id.off + off) / 8 + k)) has.call (same_looked u ((id.off + off) / 8 + k));
        working = work_goes_on u (looked u ((id.off + off) / 8 + k)) has.working (same_looked u ((id.off + off) / 8 + k)) refl (λ z inside. refl) has.working.drained;
        log = has.log;
        opening = record { lane = has.opening.lane; lanes = has.opening.lanes; size = has.opening.size; descriptors = has.opening.descriptors; locks = has.opening.locks };
        words = has.words;
      })

  abbrev u : View
  u = after_all v (reads (id.off + off) len v)

  made : Ready v (reads (id.off + off) len v) × HasLooked u
  unfolding reads looks_from
  made =
      goes_counted (λ k. HasLooked) (λ i. looks ((id.off + off) / 8 + i)) (word_count (id.off + off) len) look v
      (record { call = same_call v; working = work.working; log = refl; opening = work.opening; words = refl })

  pub reads_first : Ready v (reads (id.off + off) len v)
  reads_first = made.0

  may_tell : MayTell u.log.phase
  may_tell = subst (λ (p : Phase). MayTell p) (sym made.1.working.is_open) tt

  module _ (bytes : List ℕ) where
    abbrev w : View
    w = after u (Tell (Read id off len) (Some (Bytes bytes)))

    sequence : Ready v (reads_range id off len bytes v) × (after_all v (reads_range id off len bytes v) ≡ w)
    unfolding reads_range one Ready after_all
    sequence =
        goes_then (Is v) (Is u) (Is w) (reads (id.off + off) len) (one (Tell (Read id off len) (Some (Bytes bytes))))
        (goes_from v (Is u) (reads (id.off + off) len) (made.0, refl))
        (goes_from u (Is w) (one (Tell (Read id off len) (Some (Bytes bytes)))) ((may_tell, tt, tt), refl)) v refl

    pub read_may_be_made : Ready v (reads_range id off len bytes v)
    read_may_be_made = sequence.0

    read_few : length (after_all v (reads_range id off len bytes v)).entries ≤ length v.entries
    read_few = let same = ap (λ (u : View). length u.entries) sequence.1 in let e = ap length made.1.call.entries in omega (arith, same, e)

    pub read_is_made : IsOldIn v id.off → bytes ≡ bytes_seen v id off len → (next : Lane M) → HasSameFields lane next → next.records ≡ lane.records → at next.memory w → HasReadRange o at next v id off len bytes
    read_is_made old is next fields records seen =
        let call = made.1.call in
        let read : ReadsBytes v w id off len = record {
          tells = record {
            keeps = record { lanes = call.lane.lanes; zones = call.lane.zones; pool = call.lane.pool; lane = call.lane.lane; entries = call.entries; known = call.remembers };
            locks = call.locks;
            call = ap (λ (told : List Told). told ++ record { operation = Read id off len; reply = Some (Bytes bytes) } ∷ []) call.call ∙ ap (λ bs. v.call ++ record { operation = Read id off len; reply = Some (Bytes bs) } ∷ []) is;
          };
          logs = record { records = ap (λ (l : Log). l.records) made.1.log; entries = ap (λ (l : Log). l.entries) made.1.log };
          keeps = record { words = λ i outside. ap (λ ws. slice_index ws i) made.1.words };
          range = can.range;
          known = can.known;
        } in
        let opening : FindsOpening o w = record { lane = made.1.opening.lane; lanes = made.1.opening.lanes; size = made.1.opening.size; descriptors = made.1.opening.descriptors; locks = made.1.opening.locks } in
        let works : IsAtWork o at next w =
        goes_on o at lane next v w work fields
        (record {
          lane = (let s = call.lane in record { lanes = s.lanes; zones = s.zones; pool = s.pool; lane = s.lane; stop = s.stop; table = s.table; size = s.size });
          locks = call.locks;
          number = call.number;
          entries = call.entries;
          remembers = call.remembers;
          seen = call.seen;
          sizes = λ l held. ap (λ ws. slice_index ws (8 * l.line + 1)) made.1.words;
        })
        seen (ap (λ rs. rs.items) records ∙ (work.seen.records ∙ ap (λ (l : Log). map span_of l.records) (sym made.1.log))) (subst (λ rs. All IsSpan rs.items) (sym records) work.spans)
        opening (tell_works u (Read id off len) (Some (Bytes bytes)) made.1.working) (ap (λ (l : Log). l.entries) made.1.log ∙ work.no_entries) (published_once_more v w (Read id off len) _ read.tells.keeps.entries read.tells.call ∙ append-nil (published_in v))
        (made_none_before v w (Read id off len) (Some (Bytes (bytes_seen v id off len))) read.tells.keeps.entries read.tells.call tt)
        (read_goes_on v w id off len lane.level work.level work.under_way read old) in
        record {
          ready = read_may_be_made;
          draws = drawless v (reads_range id off len bytes v) read_few;
          works = subst (IsAtWork o at next) (sym sequence.1) works;
          read = subst (λ (z : View). ReadsBytes v z id off len) (sym sequence.1) read;
          seen = is;
        }
