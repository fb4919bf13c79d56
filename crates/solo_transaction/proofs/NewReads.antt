-- A lane at work may read a range of an object that its call made; it stays at work, and what it reads is what the plain model does.
use Rattle.std.proofs.Common.{◌≡◌, ℕ, ◌+◌, ◌*◌, ◌/◌, ◌<◌, ◌≤◌, All, List, [], ◌∷◌, ◌++◌, length, map, slice_index, Some, refl, sym, ap, ◌∙◌, subst, arith}
use Rattle.std.proofs.lemmas.List.{append-nil}
use Rattle.solo_made.specs.Made.{BlockLists}
use Rattle.pm_objects.specs.declared.calls.Operation.TheVariants.{Read}
use Rattle.pm_objects.specs.declared.history.Value.TheVariants.{Bytes}
use Rattle.pm_objects.specs.declared.ids.Oid.{Oid}
use Rattle.solo_view.specs.Blocks.{tells_nothing}
use Rattle.solo_view.specs.Log.{Log, Phase}
use Rattle.solo_view.specs.Steps.Step.{Tell}
use Rattle.solo_view.specs.View.{Told, View}
use Rattle.solo_view.specs.Views.{after, after_all}
use Rattle.solo_undo.proofs.Begun.{tell_works}
use Rattle.solo_undo.proofs.Retired.{may_look}
use Rattle.solo_undo.proofs.Staying.{looked, same_call, same_call-then, same_looked}
use Rattle.solo_undo.proofs.Storing.{Is, goes_from}
use Rattle.solo_undo.proofs.Written.{work_goes_on}
use Rattle.solo_undo.specs.Sequences.{looks_from}
use Rattle.solo_undo.specs.Spans.{IsSpan}
use Rattle.solo_undo.specs.Working.{FindsOpening, IsSameCall, IsWorking}
use Rattle.solo_world.proofs.Going.{Goes, goes_counted, goes_then}
use Rattle.solo_world.specs.Lanes.{span_of}
use Rattle.solo_world.specs.Lawful.{MayTell}
use Rattle.solo_world.specs.Opening.{Opening}
use Rattle.solo_world.specs.Sequences.{Ready, looks, one}
use Rattle.solo_world.specs.declared.lane.HeldLock.{HeldLock}
use Rattle.solo_world.specs.declared.lane.Lane.{Lane}
use Rattle.solo_lock.proofs.Drawless.{drawless}
use Rattle.solo_crash.proofs.ReservedStays.{told_stays}
use Rattle.solo_crash.proofs.CallBlocks.{blocks_once_more}
use Rattle.solo_crash.proofs.KeptWords.{keeps_known}
use Rattle.solo_crash.proofs.NewRanges.{new_read_goes_on}
use Rattle.solo_crash.proofs.PendingOn.{published_once_more}
use Rattle.solo_crash.specs.Operations.{HasNewRange, ReadsNewBytes, bytes_seen}
use Rattle.solo_crash.specs.Pending.{published_in}
use Rattle.solo_crash.proofs.StillReserved.{HasSameHeads}
use Rattle.solo_tx.proofs.GoingOn.{HasSameFields, goes_on}
use Rattle.solo_tx.proofs.NoneMade.{made_none_before}
use Rattle.solo_tx.proofs.WrittenBytes.{counted_covered}
use Rattle.solo_tx.specs.AtWork.{IsAtWork}
use Rattle.solo_tx.specs.Ranges.{reads_range}
use Rattle.solo_tx.specs.Sequences.{reads, word_count}
use Rattle.solo_transaction.proofs.GoingWith.{Keeps, keeps_told, kept_of, with_lists}
use Rattle.solo_transaction.proofs.NewRangeWords.{covered_fill, covered_in_pool, covered_is_known, quiet_word}
use Rattle.solo_transaction.proofs.SameHeap.{reads_leave}
use Rattle.solo_transaction.specs.AtWork.{IsAtWorkWith}
use Rattle.solo_transaction.specs.NewRanges.{HasReadNew}

module _ {M : Type 0} (o : Opening) (at : M → View → Type 0) (lane : Lane M) (blocks : BlockLists) (v : View) (all : IsAtWorkWith o at lane blocks v) (id : Oid) (off len : ℕ) (range : HasNewRange v id off len) where
  -- the lane looked at some of the words
  record HasLookedAt (w : View) : Type 0 where
    call : IsSameCall v w
    working : IsWorking w
    log : w.log ≡ v.log
    opening : FindsOpening o w
    words : w.words ≡ v.words

  look : (k : ℕ) → k < word_count (id.off + off) len → Goes HasLookedAt (looks ((id.off + off) / 8 + k)) HasLookedAt
  look k below u has =
      let word : ℕ = (id.off + off) / 8 + k in
      let there = counted_covered (id.off + off) len k below in
      let inside = covered_in_pool o at lane blocks v all id off len range word there in
      let size = has.call.lane.size in
      let plain = (covered_fill o at lane blocks v all id off len range word there).plain in
      may_look u word HasLookedAt (omega (arith, inside, size)) (has.call.known word (covered_is_known o at lane blocks v all id off len range word there))
      (quiet_word u word ((λ j. tells_nothing (has.call.lane.lanes j) (has.words j) word) ∙ plain))
      (record {
        call = same_call-then v u (looked u word) has.call (same_looked u word);
        working = work_goes_on u (looked u word) has.working (same_looked u word) refl (λ z inside. refl) has.working.drained;
        log = has.log;
        opening = record { lane = has.opening.lane; lanes = has.opening.lanes; size = has.opening.size; descriptors = has.opening.descriptors; locks = has.opening.locks };
        words = has.words;
      })

  abbrev u : View
  u = after_all v (reads (id.off + off) len v)

  made : Ready v (reads (id.off + off) len v) × HasLookedAt u
  unfolding reads looks_from
  made =
      goes_counted (λ k. HasLookedAt) (λ i. looks ((id.off + off) / 8 + i)) (word_count (id.off + off) len) look v
      (record { call = same_call v; working = all.work.working; log = refl; opening = all.work.opening; words = refl })

  pub new_reads_first : Ready v (reads (id.off + off) len v)
  new_reads_first = made.0

  may_tell : MayTell u.log.phase
  may_tell = subst (λ (p : Phase). MayTell p) (sym made.1.working.is_open) tt

  module _ (bytes : List ℕ) where
    abbrev w : View
    w = after u (Tell (Read id off len) (Some (Bytes bytes)))

    sequence : Ready v (reads_range id off len bytes v) × (after_all v (reads_range id off len bytes v) ≡ w)
    unfolding reads_range one Ready after_all
    sequence =
        goes_then (Is v) (Is u) (Is w) (reads (id.off + off) len) (one (Tell (Read id off len) (Some (Bytes bytes))))
        (goes_from v (Is u) (reads (id.off + off) len) (made.0, refl))
        (goes_from u (Is w) (one (Tell (Read id off len) (Some (Bytes bytes)))) ((may_tell, tt, tt), refl)) v refl

    pub new_read_may_be_made : Ready v (reads_range id off len bytes v)
    new_read_may_be_made = sequence.0

    read_few : length (after_all v (reads_range id off len bytes v)).entries ≤ length v.entries
    read_few = let same = ap (λ (u : View). length u.entries) sequence.1 in let e = ap length made.1.call.entries in omega (arith, same, e)

    heads : HasSameHeads v w
    heads =
        let words : (i : ℕ) → slice_index w.words i ≡ slice_index v.words i = λ i. ap (λ ws. slice_index ws i) made.1.words in
        record { lanes = made.1.call.lane.lanes; zones = made.1.call.lane.zones; reserved = made.1.call.reserved; described = λ c in_pool. words _; bitmaps = λ c in_pool run. words _; root = words 64 }

    pub new_read_is_made : bytes ≡ bytes_seen v id off len → (next : Lane M) → HasSameFields lane next → next.records ≡ lane.records → at next.memory w → HasReadNew o at next blocks v id off len bytes
    new_read_is_made is next fields records seen =
        let call = made.1.call in
        let read : ReadsNewBytes v w id off len = record {
          tells = record {
            keeps = record { lanes = call.lane.lanes; zones = call.lane.zones; pool = call.lane.pool; lane = call.lane.lane; entries = call.entries; known = call.remembers };
            locks = call.locks;
            call = ap (λ (told : List Told). told ++ record { operation = Read id off len; reply = Some (Bytes bytes) } ∷ []) call.call ∙ ap (λ bs. v.call ++ record { operation = Read id off len; reply = Some (Bytes bs) } ∷ []) is;
          };
          logs = record { records = ap (λ (l : Log). l.records) made.1.log; entries = ap (λ (l : Log). l.entries) made.1.log };
          keeps = record { words = λ i outside. ap (λ ws. slice_index ws i) made.1.words };
          range = range;
        } in
        let opening : FindsOpening o w = record { lane = made.1.opening.lane; lanes = made.1.opening.lanes; size = made.1.opening.size; descriptors = made.1.opening.descriptors; locks = made.1.opening.locks } in
        let works : IsAtWork o at next w =
        goes_on o at lane next v w all.work fields
        (record {
          lane = (let s = call.lane in record { lanes = s.lanes; zones = s.zones; pool = s.pool; lane = s.lane; stop = s.stop; table = s.table; size = s.size });
          locks = call.locks;
          number = call.number;
          entries = call.entries;
          remembers = call.remembers;
          seen = call.seen;
          sizes = λ l held. ap (λ ws. slice_index ws (8 * l.line + 1)) made.1.words;
        })
        seen (ap (λ rs. rs.items) records ∙ (all.work.seen.records ∙ ap (λ (l : Log). map span_of l.records) (sym made.1.log))) (subst (λ rs. All IsSpan rs.items) (sym records) all.work.spans)
        opening (tell_works u (Read id off len) (Some (Bytes bytes)) made.1.working) (ap (λ (l : Log). l.entries) made.1.log ∙ all.work.no_entries) (published_once_more v w (Read id off len) _ read.tells.keeps.entries read.tells.call ∙ append-nil (published_in v))
        (made_none_before v w (Read id off len) (Some (Bytes (bytes_seen v id off len))) read.tells.keeps.entries read.tells.call tt)
        (new_read_goes_on v w id off len lane.level all.work.level all.work.under_way read) in
        let keeps : Keeps next.locks.items blocks w =
        keeps_told v w heads next.locks.items blocks (subst (λ (ls : List HeldLock). Keeps ls blocks v) (ap (λ ls. ls.items) (sym fields.locks)) (kept_of o at lane blocks v all)) call.lane.table (ap (λ (z : View). z.zone_locks) (sym sequence.1) ∙ (reads_leave id off len bytes v).zone_locks) (blocks_once_more v w (Read id off len) _ read.tells.keeps.entries read.tells.call) (Read id off len) _ read.tells.keeps.entries read.tells.call (refl, refl) (λ root. tt)
        (told_stays v w (Read id off len) _ all.has_reserved read.tells (keeps_known v w read.keeps) (refl, refl) refl) in
        record {
          ready = new_read_may_be_made;
          draws = drawless v (reads_range id off len bytes v) read_few;
          works = subst (IsAtWorkWith o at next blocks) (sym sequence.1) (with_lists o at next blocks w works keeps);
          read = subst (λ (z : View). ReadsNewBytes v z id off len) (sym sequence.1) read;
          seen = is;
        }
