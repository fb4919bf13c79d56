-- Ranges of an object that the call made: it needs no lock and no record, and its bytes are those of its block by the lane's words.
use Rattle.std.proofs.Common.{◌≡◌, ℕ, ◌+◌, ◌%◌, ◌≤◌, Bool, true, false, not, eqb, ltb, List, [], ◌∷◌, ◌++◌, drop, length, map, slice_index, take, Option, Some, None, refl, sym, ◌∙◌, ap, subst, arith}
use Rattle.std.specs.List.{list_any}
use Rattle.std.specs.Option.{option_map_or}
use Rattle.std.proofs.lemmas.Bool.{and_from, and_left, cond-true, eq-eqb, le-ltb, or_from, or_left}
use Rattle.std.proofs.lemmas.List.{append-nil}
use Rattle.std.proofs.lemmas.List.Elements.{All-nil}
use Rattle.std.proofs.lemmas.List.Folds.{list_any-from_Any}
use Rattle.pm_header.specs.declared.header.Header.{Header}
use Rattle.pm_words.specs.Words.{bytes_of as bytes_of_words}
use Rattle.pm_objects.specs.Pool.{object_at}
use Rattle.pm_objects.specs.declared.calls.Operation.TheVariants.{AddRange, Read}
use Rattle.pm_objects.specs.declared.history.TxErr.TheVariants as error
use Rattle.pm_objects.specs.declared.history.Value.TheVariants.{Bytes}
use Rattle.pm_objects.specs.declared.ids.Oid.{Oid}
use Rattle.pm_objects.specs.declared.pool.Object.{Object}
use Rattle.pm_objects.specs.declared.pool.PoolView.{PoolView}
use Rattle.pm_image.specs.Blocks.{blocks}
use Rattle.pm_image.specs.Contents.{bytes_in, offset_in, size_in}
use Rattle.pm_image.proofs.Pools.{length-bytes_in}
use Rattle.solo_model.specs.declared.stage.Stage.TheVariants as stage
use Rattle.solo_model.specs.Answers.{after_reply}
use Rattle.solo_model.specs.Bytes.{bytes_at, bytes_of, covered_words, new_words, records_of}
use Rattle.solo_model.specs.Checks.{is_not_held}
use Rattle.solo_model.specs.Transaction.{Transaction, holds_object, is_gone, is_locked, is_new}
use Rattle.solo_view.specs.Log.{Recorded}
use Rattle.solo_view.specs.View.{View}
use Rattle.solo_crash.specs.CallBlocks.{IsMadeIn, NewObject, block_of, blocks_in, is_at, is_made_in}
use Rattle.solo_crash.specs.Held.{HoldsPool}
use Rattle.solo_crash.specs.Locks.{AreSameLocks}
use Rattle.solo_crash.specs.OpenCall.{ComesTo, IsChanged, IsUnderWay, TracksBlocks, call_words, locks_of, words_recorded, IsPerformable}
use Rattle.solo_crash.specs.Operations.{AddsNewRange, IsMade, ReadsNewBytes, bytes_seen}
use Rattle.solo_crash.proofs.CallBlocks.{all_tracks_gone, tracks_new}
use Rattle.solo_crash.proofs.CallWords.{call_works, locks_kept, same_pool}
use Rattle.solo_crash.proofs.Continued.{answers_done, known_new, leaves_told, left_changed, left_new, left_tracks, still_under_way, told_has, LeavesBlocks}
use Rattle.solo_crash.proofs.KeptWords.{goes_back, keeps_known, same_call_words, same_found}
use Rattle.solo_crash.proofs.ObjectBytes.{aligned_range}
use Rattle.solo_crash.proofs.Passing.{passes_all, AsksNoLock, Works}

-- ---- the object in the transaction

module _ (v : View) (w : ℕ → ℕ) (header : Header) (pool : PoolView) (level : ℕ) (under_way : IsUnderWay v level stage.Work error.None) (c : ComesTo v w header pool level stage.Work error.None) (id : Oid) (made : IsMade v id) where
  abbrev n : NewObject
  n = made.new

  is : IsMadeIn v n
  is = under_way.has.each n made.has

  -- it is new, so it is held
  pub new_to_it : is_new c.tx id.off ≡ true
  new_to_it = tracks_new v c.tx c.tracks id.off
      ∙ or_left (is_made_in v id.off) (list_any (is_at id.off) (blocks_in v).dropped) (list_any-from_Any (is_at id.off) (blocks_in v).made (made.has.0, n, made.has.1, made.has.2, eq-eqb n.off id.off (sym made.place)))

  pub new_is_held : (write : Bool) → v.pool ≡ header.id → is_not_held c.tx write id ≡ false
  new_is_held write same_id =
      ap not (and_from (eqb id.pool c.tx.pool.id) (holds_object c.tx id.off write) (eq-eqb id.pool c.tx.pool.id (made.of_pool ∙ sym (same_pool v w header c.base c.tx c.holds c.changed same_id)))
      (or_left (is_new c.tx id.off) (is_locked c.tx.locks id.off write) new_to_it))

  -- and it is not gone
  pub new_is_kept : list_any (is_gone c.tx) (id.off ∷ []) ≡ false
  new_is_kept = or_from (is_gone c.tx id.off) false (ap (is_gone c.tx) made.place ∙ all_tracks_gone v c.tx c.tracks n.off ∙ under_way.has.kept n made.has) refl

  -- its bytes are those of its block
  pub new_bytes : bytes_of c.tx.pool.objects id.off ≡ bytes_in (slice_index v.words) (block_of n)
  new_bytes = ap (λ (o : Option Object). option_map_or (λ (x : Object). x.bytes) o []) (ap (object_at c.tx.pool.objects) made.place ∙ c.changed.new n made.has)

  pub new_long : length (bytes_of c.tx.pool.objects id.off) ≡ n.size
  new_long = ap (λ (bs : List ℕ). length bs) new_bytes ∙ is.long

  begins : (block_of n).place % 8 ≡ 0
  begins = let behind = is.behind in let aligned = is.aligned in omega (arith, behind, aligned)

  offset : offset_in (block_of n) ≡ id.off
  offset = let behind = is.behind in let place = made.place in omega (arith, behind, place)

  pub new_is_read : (off len : ℕ) → off + len ≤ n.size → bytes_seen v id off len ≡ bytes_at off len (bytes_of c.tx.pool.objects id.off)
  new_is_read off len inside =
      let size : size_in (slice_index v.words) (block_of n) ≡ n.size = sym (length-bytes_in (slice_index v.words) (block_of n)) ∙ is.long in
      ap (λ (o : ℕ). take len (drop (off % 8) (bytes_of_words (map (slice_index v.words) (covered_words (o + off) len))))) (sym offset)
      ∙ sym (aligned_range (slice_index v.words) off len (block_of n) begins (omega (arith, inside, size)))
      ∙ ap (bytes_at off len) (sym new_bytes)

-- ---- a read, and a range to be recorded

pub new_read_goes_on : (v next : View) (id : Oid) (off len level : ℕ) → 1 ≤ level → IsUnderWay v level stage.Work error.None → ReadsNewBytes v next id off len → IsUnderWay next level stage.Work error.None
new_read_goes_on v next id off len level some under_way reads =
    let bytes : List ℕ = bytes_seen v id off len in
    let leaves : LeavesBlocks v next = leaves_told v next (Read id off len) (Some (Bytes bytes)) reads.tells.keeps.entries reads.tells.call refl (known_new v next (keeps_known v next reads.keeps) under_way.has.each) in
    still_under_way v next level level (Read id off len) (Some (Bytes bytes)) under_way reads.tells
    (goes_back v next reads.tells.keeps (same_found v next reads.tells.locks) reads.logs (λ i outside none. reads.keeps.words i outside) under_way.outside under_way.under)
    (told_has v next leaves reads.tells under_way.has)
    (λ w header pool holds same_id before next_before room c.
    let works : Works c.tx = call_works v w header pool level some under_way c in
    let made : IsMade v id = reads.range.made in
    let inside : off + len ≤ made.new.size = reads.range.inside in
    let long = new_long v w header pool level under_way c id made in
    let same : call_words next w ≡ call_words v w = same_call_words v next reads.logs.records reads.keeps under_way.outside w in
    let asks : AsksNoLock (Read id off len) = record { no_wants = refl; no_begin = refl; no_alloc = refl; no_free = refl; no_put = refl; no_publish = refl; aligned = refl; no_more = λ tx. refl; no_action = refl } in
    record {
      answers =
          answers_done c.tx (Read id off len) (Some (Bytes bytes)) refl asks
          (passes_all c.tx (Read id off len) works asks (new_is_kept v w header pool level under_way c id made) (new_is_held v w header pool level under_way c id made false same_id)
          (le-ltb (length (bytes_of c.tx.pool.objects id.off)) (off + len) (omega (arith, long, inside))) refl refl)
          (ap (λ (bs : List ℕ). Some (Bytes bs)) (new_is_read v w header pool level under_way c id made off len inside));
      base = c.base;
      holds = subst (λ (f : ℕ → ℕ). HoldsPool f v.lanes v.zones header c.base) (sym same) c.holds;
      changed = left_changed v next c.base c.tx.pool leaves c.changed;
      unfound = λ o new. c.unfound o (sym (left_new v next o leaves) ∙ new);
      tracks = left_tracks v next c.tx leaves c.tracks;
      before = refl;
      locks = locks_kept c.tx v next reads.tells.locks c.locks;
      recorded = c.recorded ∙ ap words_recorded (sym reads.logs.records);
      records = c.records ∙ ap (λ (rs : List Recorded). length rs) (sym reads.logs.records);
      levels = c.levels;
      stands = refl;
      fails = refl;
      moved = sym (append-nil c.tx.moved);
      performable = All-nil (IsPerformable v w);
      blocks_stay = ap (λ (f : ℕ → ℕ). blocks f v.lanes v.zones) same;
      sizes_stay = λ block there. ap (λ (f : ℕ → ℕ). size_in f block) same;
    })

-- it needs no record
pub new_add_goes_on : (v next : View) (id : Oid) (off len level : ℕ) → 1 ≤ level → IsUnderWay v level stage.Work error.None → AddsNewRange v next id off len → IsUnderWay next level stage.Work error.None
new_add_goes_on v next id off len level some under_way adds =
    let leaves : LeavesBlocks v next = leaves_told v next (AddRange id off len) None adds.tells.keeps.entries adds.tells.call refl (known_new v next (keeps_known v next adds.keeps) under_way.has.each) in
    still_under_way v next level level (AddRange id off len) None under_way adds.tells
    (goes_back v next adds.tells.keeps (same_found v next adds.tells.locks) adds.logs (λ i outside none. adds.keeps.words i outside) under_way.outside under_way.under)
    (told_has v next leaves adds.tells under_way.has)
    (λ w header pool holds same_id before next_before allowed c.
    let works : Works c.tx = call_works v w header pool level some under_way c in
    let made : IsMade v id = adds.range.made in
    let inside : off + len ≤ made.new.size = adds.range.inside in
    let long = new_long v w header pool level under_way c id made in
    let words : List ℕ = covered_words (id.off + off) len in
    let new : is_new c.tx id.off ≡ true = new_to_it v w header pool level under_way c id made in
    let more : Transaction = record c.tx { recorded = c.tx.recorded ++ new_words c.tx.recorded words; records = c.tx.records + length (records_of (new_words c.tx.recorded words)) } in
    let leads : after_reply (AddRange id off len) None c.tx ≡ c.tx = cond-true (is_new c.tx id.off) c.tx more new in
    let same : call_words next w ≡ call_words v w = same_call_words v next adds.logs.records adds.keeps under_way.outside w in
    let asks : AsksNoLock (AddRange id off len) = record { no_wants = refl; no_begin = refl; no_alloc = refl; no_free = refl; no_put = refl; no_publish = refl; aligned = refl; no_more = λ tx. refl; no_action = refl } in
    record {
      answers =
          answers_done c.tx (AddRange id off len) None refl asks
          (passes_all c.tx (AddRange id off len) works asks (new_is_kept v w header pool level under_way c id made) (new_is_held v w header pool level under_way c id made true same_id)
          (le-ltb (length (bytes_of c.tx.pool.objects id.off)) (off + len) (omega (arith, long, inside))) refl
          (and_left (not (is_new c.tx id.off)) (ltb 64 (c.tx.records + length (records_of (new_words c.tx.recorded words)))) (ap not new)))
          refl;
      base = c.base;
      holds = subst (λ (f : ℕ → ℕ). HoldsPool f v.lanes v.zones header c.base) (sym same) c.holds;
      changed = subst (λ (x : Transaction). IsChanged next c.base x.pool) (sym leads) (left_changed v next c.base c.tx.pool leaves c.changed);
      unfound = λ o is. c.unfound o (sym (left_new v next o leaves) ∙ is);
      tracks = subst (λ (x : Transaction). TracksBlocks x (blocks_in next)) (sym leads) (left_tracks v next c.tx leaves c.tracks);
      before = ap (λ (x : Transaction). x.before) leads;
      locks = subst (λ (x : Transaction). AreSameLocks x.locks (locks_of next)) (sym leads) (locks_kept c.tx v next adds.tells.locks c.locks);
      recorded = ap (λ (x : Transaction). x.recorded) leads ∙ c.recorded ∙ ap words_recorded (sym adds.logs.records);
      records = ap (λ (x : Transaction). x.records) leads ∙ c.records ∙ ap (λ (rs : List Recorded). length rs) (sym adds.logs.records);
      levels = ap (λ (x : Transaction). x.level) leads ∙ c.levels;
      stands = ap (λ (x : Transaction). x.stage) leads;
      fails = ap (λ (x : Transaction). x.error) leads;
      moved = ap (λ (x : Transaction). x.moved) leads ∙ sym (append-nil c.tx.moved);
      performable = All-nil (IsPerformable v w);
      blocks_stay = ap (λ (f : ℕ → ℕ). blocks f v.lanes v.zones) same;
      sizes_stay = λ block there. ap (λ (f : ℕ → ℕ). size_in f block) same;
    })
