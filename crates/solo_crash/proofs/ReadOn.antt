-- A read of what the lane knows under its lock tells the bytes that the model reads, and leaves all as it is.
use Rattle.std.proofs.Common.{◌≡◌, ℕ, ◌+◌, ◌*◌, ◌/◌, ◌≤◌, ◌%◌, false, List, length, map, take, drop, slice_index, Some, refl, sym, ◌∙◌, ap, subst, arith}
use Rattle.std.specs.List.{Contains}
use Rattle.std.proofs.lemmas.Bool.{le-ltb}
use Rattle.std.proofs.lemmas.Grind.{div_ceil_times}
use Rattle.pm_header.specs.declared.header.Header.{Header}
use Rattle.pm_words.specs.Words.{bytes_of as bytes_of_words}
use Rattle.pm_objects.specs.declared.calls.Operation.TheVariants.{Read}
use Rattle.pm_objects.specs.declared.history.TxErr.TheVariants as error
use Rattle.pm_objects.specs.declared.history.Value.TheVariants.{Bytes}
use Rattle.pm_objects.specs.declared.ids.Oid.{Oid}
use Rattle.pm_objects.specs.declared.pool.PoolView.{PoolView}
use Rattle.pm_image.specs.declared.block.Block.{Block}
use Rattle.pm_image.specs.Blocks.{blocks}
use Rattle.pm_image.specs.Contents.{data_words, offset_in, size_in}
use Rattle.pm_image.proofs.FaultFree.{block_good}
use Rattle.pm_image.proofs.HeapWords.{object_fits}
use Rattle.pm_image.proofs.Members.{map_same}
use Rattle.solo_model.specs.declared.stage.Stage.TheVariants as stage
use Rattle.solo_model.specs.Bytes.{bytes_at, bytes_of, covered_words}
use Rattle.solo_model.specs.Answers.{Answers}
use Rattle.solo_view.specs.View.{View}
use Rattle.solo_view.specs.Log.{Recorded}
use Rattle.solo_crash.proofs.CallWords.{locks_kept}
use Rattle.solo_crash.specs.CallBlocks.{IsOldIn}
use Rattle.solo_crash.specs.Held.{HoldsPool}
use Rattle.solo_crash.specs.OpenCall.{IsBefore, call_words, ComesTo, IsOpen, IsUnderBlock, IsUnderWay, block_at_line, words_recorded, IsPerformable}
use Rattle.solo_crash.specs.Operations.{ReadsBytes, bytes_seen}
use Rattle.solo_crash.proofs.CallWords.{call_works, covered_is_outside, held_is_locked, known_call_word, object_under, one_is_kept, same_pool, IsObjectOf}
use Rattle.solo_crash.proofs.CallBlocks.{keeps_on, old_of_none}
use Rattle.solo_crash.proofs.Covered.{covered_has_byte}
use Rattle.solo_crash.proofs.Continued.{answers_done, known_new, leaves_told, left_changed, left_new, left_tracks, still_under_way, told_has, LeavesBlocks}
use Rattle.solo_crash.proofs.KeptWords.{goes_back, keeps_known, same_call_words, same_found}
use Rattle.solo_crash.proofs.ObjectBytes.{range_is_read}
use Rattle.solo_crash.proofs.Passing.{passes_all, AsksNoLock, Works}
use Rattle.std.proofs.lemmas.List.Elements.{All-nil}
use Rattle.std.proofs.lemmas.List.{append-nil}

-- so many bytes are in their words
in_words : (size : ℕ) → size ≤ 8 * data_words size
in_words size = let enough = (div_ceil_times size 8 (omega arith)).0 in omega arith

-- the bytes seen are the model's
seen_is_read : (v next : View) (id : Oid) (off len level : ℕ) (w : ℕ → ℕ) (header : Header) (pool : PoolView) → IsUnderWay v level stage.Work error.None → (reads : ReadsBytes v next id off len) → IsOldIn v id.off → IsBefore v w
    → (c : ComesTo v w header pool level stage.Work error.None) → bytes_seen v id off len ≡ bytes_at off len (bytes_of c.tx.pool.objects id.off)
seen_is_read v next id off len level w header pool under_way reads old before c =
    let held = reads.range.object in
    let object : IsObjectOf v w c.tx id held.lock.line = object_under v w header pool level id false under_way before c held reads.range.size_known old in
    let words : ℕ → ℕ = call_words v w in
    let inside : off + len ≤ slice_index v.words (8 * held.lock.line + 1) = reads.range.inside in
    let size : size_in words object.block ≡ slice_index v.words (8 * held.lock.line + 1) = object.size in
    let fits : off + len ≤ size_in words object.block = omega arith in
    let found : Block = block_at_line held.lock.line held.lines in
    let is_there : Contains (blocks words v.lanes v.zones) found = subst (λ (bs : List Block). Contains bs found) (sym c.blocks_stay) (before.found held.lock held.lines held.held held.block) in
    let room : 8 + data_words (size_in words found) ≤ 8 * held.lines = object_fits words found (block_good words v.lanes v.zones found c.holds.no_fault is_there) in
    let same_size : size_in words object.block ≡ size_in words found = ap (λ (place : ℕ). words (place / 8 + 1)) object.place in
    let under : (i : ℕ) → Contains (covered_words (id.off + off) len) i → IsUnderBlock v i = λ i there.
    let has = covered_has_byte (id.off + off) len i there in
    let low = has.1 in
    let high = has.2 in
    let begins : object.block.place ≡ 64 * held.lock.line = object.place in
    let place : id.off ≡ 64 * held.lock.line + 64 = held.place in
    let filled : size_in words object.block ≤ 8 * data_words (size_in words object.block) = in_words (size_in words object.block) in
    record { lock = held.lock; lines = held.lines; held = held.held; found = held.block; from = omega arith; to = omega arith } in
    let known : map (slice_index v.words) (covered_words (id.off + off) len) ≡ map words (covered_words (id.off + off) len) =
    map_same (slice_index v.words) words (covered_words (id.off + off) len) (λ i there.
    sym (known_call_word v w i before (reads.known i there) (covered_is_outside v id false off len i under_way.in_lanes under_way.chunks held there) (under i there))) in
    let moved : map words (covered_words (id.off + off) len) ≡ map words (covered_words (offset_in object.block + off) len) = ap (λ (o : ℕ). map words (covered_words (o + off) len)) (sym object.offset) in
    ap (λ (ws : List ℕ). take len (drop (off % 8) (bytes_of_words ws))) (known ∙ moved)
    ∙ sym (range_is_read words v.lanes v.zones off len object.block object.is_there fits)
    ∙ sym (ap (bytes_at off len) object.bytes)

-- what it read the call found, and did not free
pub read_goes_on : (v next : View) (id : Oid) (off len level : ℕ) → 1 ≤ level → IsUnderWay v level stage.Work error.None → ReadsBytes v next id off len → IsOldIn v id.off → IsUnderWay next level stage.Work error.None
read_goes_on v next id off len level some under_way reads old =
    let held = reads.range.object in
    let bytes : List ℕ = bytes_seen v id off len in
    let leaves : LeavesBlocks v next = leaves_told v next (Read id off len) (Some (Bytes bytes)) reads.tells.keeps.entries reads.tells.call refl (known_new v next (keeps_known v next reads.keeps) under_way.has.each) in
    still_under_way v next level level (Read id off len) (Some (Bytes bytes)) under_way reads.tells
    (goes_back v next reads.tells.keeps (same_found v next reads.tells.locks) reads.logs (λ i outside none. reads.keeps.words i outside) under_way.outside under_way.under)
    (told_has v next leaves reads.tells under_way.has)
    (λ w header pool holds same_id before next_before room c.
    let object : IsObjectOf v w c.tx id held.lock.line = object_under v w header pool level id false under_way before c held reads.range.size_known old in
    let works : Works c.tx = call_works v w header pool level some under_way c in
    let inside : off + len ≤ slice_index v.words (8 * held.lock.line + 1) = reads.range.inside in
    let long : length (bytes_of c.tx.pool.objects id.off) ≡ slice_index v.words (8 * held.lock.line + 1) = object.long in
    let same : call_words next w ≡ call_words v w = same_call_words v next reads.logs.records reads.keeps under_way.outside w in
    let asks : AsksNoLock (Read id off len) = record { no_wants = refl; no_begin = refl; no_alloc = refl; no_free = refl; no_put = refl; no_publish = refl; aligned = refl; no_more = λ tx. refl; no_action = refl } in
    let answers : Answers c.tx (Read id off len) (Some (Bytes bytes)) =
    answers_done c.tx (Read id off len) (Some (Bytes bytes)) refl asks
    (passes_all c.tx (Read id off len) works asks (one_is_kept v c.tx c.tracks id.off old)
    (held_is_locked v id false c.tx held c.locks (same_pool v w header c.base c.tx c.holds c.changed same_id))
    (le-ltb (length (bytes_of c.tx.pool.objects id.off)) (off + len) (omega arith)) refl refl)
    (ap (λ (bs : List ℕ). Some (Bytes bs)) (seen_is_read v next id off len level w header pool under_way reads old before c)) in
    record {
      answers = answers;
      base = c.base;
      holds = subst (λ (f : ℕ → ℕ). HoldsPool f v.lanes v.zones header c.base) (sym same) c.holds;
      changed = left_changed v next c.base c.tx.pool leaves c.changed;
      unfound = λ o new. c.unfound o (sym (left_new v next o leaves) ∙ new);
      tracks = left_tracks v next c.tx leaves c.tracks;
      before = refl;
      locks = locks_kept c.tx v next reads.tells.locks c.locks;
      recorded = c.recorded ∙ ap words_recorded (sym reads.logs.records);
      records = c.records ∙ ap (λ (rs : List Recorded). length rs) (sym reads.logs.records);
      levels = c.levels;
      stands = refl;
      fails = refl;
      moved = sym (append-nil c.tx.moved);
      performable = All-nil (IsPerformable v w);
      blocks_stay = ap (λ (f : ℕ → ℕ). blocks f v.lanes v.zones) same;
      sizes_stay = λ block there. ap (λ (f : ℕ → ℕ). size_in f block) same;
    })

-- so is a read of a call that allocated and freed nothing
pub read_keeps_open : (v next : View) (id : Oid) (off len level : ℕ) → 1 ≤ level → IsOpen v level stage.Work error.None → ReadsBytes v next id off len → IsOpen next level stage.Work error.None
read_keeps_open v next id off len level some is_open reads = record {
  under_way = read_goes_on v next id off len level some is_open.under_way reads (old_of_none v is_open.keeps id.off);
  keeps = keeps_on v next (Read id off len) (Some (Bytes (bytes_seen v id off len))) reads.tells.keeps.entries reads.tells.call refl refl (λ root. tt) is_open.keeps;
}
