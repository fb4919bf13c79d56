-- Behind an operation on an object that the call found, the lane has still what it has with its lists.
use Rattle.std.proofs.Common.{◌≡◌, ◌≢◌, ℕ, ◌+◌, ◌<◌, ◌&&◌, true, false, List, length, slice_index, Contains, is_some, None, refl, sym, ap, ◌∙◌, subst, arith}
use Rattle.std.proofs.lemmas.Bool.{and_parts, false_from_ne_true, leb-true, false≢true}
use Rattle.std.proofs.lemmas.List.Folds.{Any-from_list_any}
use Rattle.pm_image.specs.Blocks.{descriptor_word, chunk_word}
use Rattle.solo_made.specs.Made.{BlockLists}
use Rattle.solo_model.specs.Bytes.{covered_words}
use Rattle.pm_objects.specs.declared.calls.Operation.TheVariants.{AddRange, Read, Write}
use Rattle.pm_objects.specs.declared.ids.Oid.{Oid}
use Rattle.solo_view.proofs.SameLane.{same_lane-after_all}
use Rattle.solo_view.specs.Area.{area_word, is_in_area}
use Rattle.solo_view.specs.Held.{is_under}
use Rattle.solo_view.specs.Rights.{is_written}
use Rattle.solo_view.specs.View.{Lock, View}
use Rattle.solo_view.specs.Views.{after_all}
use Rattle.solo_undo.proofs.Kept.{is_of}
use Rattle.solo_undo.proofs.Lockings.{found_guards, written_is_plain}
use Rattle.solo_undo.specs.Working.{IsUserWord}
use Rattle.solo_world.specs.Opening.{Guards, Opening}
use Rattle.solo_world.specs.Records.{is_recorded}
use Rattle.solo_world.specs.declared.lane.Lane.{Lane}
use Rattle.solo_world.specs.declared.lane.Span.{Span}
use Rattle.solo_crash.proofs.CallBlocks.{blocks_once_more}
use Rattle.solo_crash.proofs.KeptWords.{keeps_known}
use Rattle.solo_crash.proofs.CallWords.{behind_is_outside}
use Rattle.solo_crash.proofs.Covered.{written_words}
use Rattle.solo_crash.proofs.FoundBlocks.{IsPageOf, page_of_chunk}
use Rattle.solo_crash.proofs.NewRuns.{page_at}
use Rattle.solo_crash.proofs.ReservedStays.{told_stays, write_stays}
use Rattle.solo_crash.specs.OpenCall.{IsUnderBlock, RecordsUnder}
use Rattle.solo_crash.specs.Operations.{AddsRange, ReadsBytes, WritesBytes}
use Rattle.solo_crash.proofs.StillReserved.{HasSameHeads}
use Rattle.solo_tx.proofs.BorneOut.{same_heads_outside, bitmap_unrecorded}
use Rattle.solo_tx.specs.AtWork.{IsAtWork}
use Rattle.solo_tx.specs.Ranges.{HasAddedRange, HasReadRange, HasWrittenRange, adds_range, reads_range, writes_range}
use Rattle.solo_transaction.proofs.GoingWith.{Keeps, keeps_told, with_lists}
use Rattle.solo_transaction.proofs.SameHeap.{adds_leave, reads_leave, writes_leave}
use Rattle.solo_transaction.specs.AtWork.{IsAtWorkWith}
use Rattle.solo_view.specs.Blocks.{is_run}

module _ {M : Type 0} (o : Opening) (at : M → View → Type 0) (next : Lane M) (blocks : BlockLists) (v : View) (keeps : Keeps next.locks.items blocks v) (inside : v.lane < v.lanes) (id : Oid) (off : ℕ) where
  pub read_with_lists : (len : ℕ) (bytes : List ℕ) → HasReadRange o at next v id off len bytes → IsAtWorkWith o at next blocks (after_all v (reads_range id off len bytes v))
  read_with_lists len bytes has =
      let w : View = after_all v (reads_range id off len bytes v) in
      let read : ReadsBytes v w id off len = has.read in
      let heads : HasSameHeads v w = same_heads_outside v w inside read.tells.keeps.lanes read.tells.keeps.zones (reads_leave id off len bytes v).reserved read.keeps.words in
      with_lists o at next blocks w has.works
      (keeps_told v w heads next.locks.items blocks keeps (same_lane-after_all v (reads_range id off len bytes v)).table (reads_leave id off len bytes v).zone_locks (blocks_once_more v w (Read id off len) _ read.tells.keeps.entries read.tells.call) (Read id off len) _ read.tells.keeps.entries read.tells.call (refl, refl) (λ root. tt)
      (told_stays v w (Read id off len) _ keeps.has_reserved read.tells (keeps_known v w read.keeps) (refl, refl) refl))

  pub added_with_lists : (len : ℕ) (spans : List Span) → HasAddedRange o at next v spans id off len → IsAtWorkWith o at next blocks (after_all v (adds_range spans id off len v))
  added_with_lists len spans has =
      let w : View = after_all v (adds_range spans id off len v) in
      let added : AddsRange v w id off len = has.added in
      let heads : HasSameHeads v w = same_heads_outside v w inside added.tells.keeps.lanes added.tells.keeps.zones (adds_leave spans id off len v).reserved added.keeps.words in
      with_lists o at next blocks w has.works
      (keeps_told v w heads next.locks.items blocks keeps (same_lane-after_all v (adds_range spans id off len v)).table (adds_leave spans id off len v).zone_locks (blocks_once_more v w (AddRange id off len) None added.tells.keeps.entries added.tells.call) (AddRange id off len) None added.tells.keeps.entries added.tells.call (refl, refl) (λ root. tt)
      (told_stays v w (AddRange id off len) None keeps.has_reserved added.tells (keeps_known v w added.keeps) (refl, refl) refl))

  module _ (bytes : List ℕ) (has : HasWrittenRange o at next v id off bytes) where
    abbrev w : View
    w = after_all v (writes_range id off bytes v)

    written : WritesBytes v w id off bytes
    written = has.written

    works : IsAtWork o at next w
    works = has.works

    -- a word that is written was recorded, and so lies under a lock
    under_lock : (i : ℕ) → Contains (covered_words (id.off + off) (length bytes)) i → is_written w i ≡ true
    under_lock i there =
        let recorded : is_recorded w.log.records i ≡ true = ap (λ rs. is_recorded rs i) written.logs.records ∙ written.added i there in
        let t = is_of w.log.records i recorded in
        let user : IsUserWord w i = works.working.records.each t.slot t.recorded i t.there t.covering in
        user.own

    not_the_roots : (i : ℕ) → Contains (covered_words (id.off + off) (length bytes)) i → i ≢ 64
    not_the_roots i there is =
        let t = Any-from_list_any (λ (l : Lock). l.write && is_some l.block && is_under i l) w.locks (under_lock i there) in
        let guarded : Guards o t.1.line i = found_guards o w works.opening t.1 i (t.0, t.2, t.3) t.1.write t.4 in
        let behind = works.sound.behind_areas t.1.line i guarded in
        let some = works.sound.some_lanes in
        omega (arith, behind, is, some)

    no_descriptor : (i : ℕ) → Contains (covered_words (id.off + off) (length bytes)) i → (c : ℕ) → i ≢ descriptor_word v.lanes c
    no_descriptor i there c is =
        let page : ℕ = page_at w.lanes c in
        let of : IsPageOf w.lanes page c = page_of_chunk w.lanes page c refl in
        (written_is_plain o works.sound w works.opening i (under_lock i there)).plain page of.in_chunk (is ∙ ap (λ m. descriptor_word m c) (sym written.tells.keeps.lanes) ∙ sym of.descriptor)

    same_beside : (i : ℕ) → is_in_area v.lane i ≡ false → (Contains (covered_words (id.off + off) (length bytes)) i → ⊥) → slice_index w.words i ≡ slice_index v.words i
    same_beside i outside never = written.written i outside ∙ (written_words (slice_index v.words) (id.off + off) bytes).others i never

    -- nor is one of them a run's bitmap
    no_bitmap : (c : ℕ) → is_run (slice_index v.words (descriptor_word v.lanes c)) ≡ true → Contains (covered_words (id.off + off) (length bytes)) (chunk_word v.lanes c) → ⊥
    no_bitmap c run there =
        let described : slice_index w.words (descriptor_word v.lanes c) ≡ slice_index v.words (descriptor_word v.lanes c) =
        same_beside (descriptor_word v.lanes c) (behind_is_outside v.lane v.lanes (descriptor_word v.lanes c) inside (omega arith)) (λ is. no_descriptor (descriptor_word v.lanes c) is c refl) in
        let run_now : is_run (slice_index w.words (descriptor_word w.lanes c)) ≡ true = ap (λ m. is_run (slice_index w.words (descriptor_word m c))) written.tells.keeps.lanes ∙ (ap is_run described ∙ run) in
        let recorded : is_recorded w.log.records (chunk_word v.lanes c) ≡ true = ap (λ rs. is_recorded rs (chunk_word v.lanes c)) written.logs.records ∙ written.added (chunk_word v.lanes c) there in
        false≢true (sym (bitmap_unrecorded o at next w works c run_now) ∙ (ap (λ m. is_recorded w.log.records (chunk_word m c)) written.tells.keeps.lanes ∙ recorded))

    heads : HasSameHeads v w
    heads = record {
      lanes = written.tells.keeps.lanes;
      zones = written.tells.keeps.zones;
      reserved = (writes_leave id off bytes v).reserved;
      described = λ c in_pool. same_beside (descriptor_word v.lanes c) (behind_is_outside v.lane v.lanes (descriptor_word v.lanes c) inside (omega arith)) (λ there. no_descriptor (descriptor_word v.lanes c) there c refl);
      bitmaps = λ c in_pool run. same_beside (chunk_word v.lanes c) (behind_is_outside v.lane v.lanes (chunk_word v.lanes c) inside (omega arith)) (no_bitmap c run);
      root = same_beside 64 (root_outside v.lane) (λ there. not_the_roots 64 there refl);
    } where
      root_outside : (lane : ℕ) → is_in_area lane 64 ≡ false
      root_outside lane = false_from_ne_true (is_in_area lane 64) (λ is. let low = leb-true (area_word lane) 64 (and_parts _ _ is).0 in omega (arith, low))

    -- what it recorded before lies under the same locks
    under_before : RecordsUnder v
    under_before i recorded =
        let t : IsUnderBlock w i = has.works.under_way.under i (ap (λ rs. is_recorded rs i) written.logs.records ∙ recorded) in
        record { lock = t.lock; lines = t.lines; held = subst (λ (ls : List Lock). Contains ls t.lock) written.tells.locks t.held; found = t.found; from = t.from; to = t.to }

    pub written_with_lists : IsAtWorkWith o at next blocks (after_all v (writes_range id off bytes v))
    written_with_lists =
        with_lists o at next blocks w works
        (keeps_told v w heads next.locks.items blocks keeps (same_lane-after_all v (writes_range id off bytes v)).table (writes_leave id off bytes v).zone_locks (blocks_once_more v w (Write id off bytes) None written.tells.keeps.entries written.tells.call) (Write id off bytes) None written.tells.keeps.entries written.tells.call (refl, refl) (λ root. tt)
        (write_stays v w id off bytes keeps.has_reserved under_before written))
