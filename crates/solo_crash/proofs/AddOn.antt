-- A range whose new words are recorded as they are is the model's, and changes no word of the call.
use Rattle.std.proofs.Common.{◌≡◌, ⊎_elim, ℕ, ◌+◌, ◌-◌, ◌*◌, ◌<◌, ◌≤◌, ◌||◌, Bool, true, false, not, leb, ltb, List, ◌++◌, length, slice_get, slice_index, Some, None, refl, sym, ◌∙◌, ap, subst, arith}
use Rattle.std.proofs.lemmas.Bool.{and_parts, and_right, cases_Bool, cond-false, le-ltb, leb-true, ltb-true, or_from, or_left, or_right, or_cases}
use Rattle.std.proofs.lemmas.List.{append-nil, length-append}
use Rattle.std.proofs.lemmas.List.Folds.{list_any-append}
use Rattle.pm_objects.specs.declared.calls.Operation.TheVariants.{AddRange}
use Rattle.pm_objects.specs.declared.history.TxErr.TheVariants as error
use Rattle.pm_objects.specs.declared.ids.Oid.{Oid}
use Rattle.pm_image.specs.Blocks.{blocks}
use Rattle.pm_image.specs.Contents.{size_in}
use Rattle.solo_model.specs.declared.stage.Stage.TheVariants as stage
use Rattle.solo_model.specs.Bytes.{bytes_of, covered_words, new_words, records_of}
use Rattle.solo_model.specs.Answers.{after_reply}
use Rattle.solo_model.specs.Transaction.{Transaction, is_new}
use Rattle.solo_view.specs.Area.{is_in_area}
use Rattle.solo_view.specs.Log.{Recorded}
use Rattle.solo_view.specs.View.{View}
use Rattle.solo_world.specs.Records.{covers, is_recorded}
use Rattle.solo_crash.specs.CallBlocks.{IsOldIn, blocks_in}
use Rattle.solo_crash.specs.Held.{HoldsPool}
use Rattle.solo_crash.specs.Locks.{AreSameLocks}
use Rattle.solo_crash.specs.OpenCall.{IsBefore, IsChanged, IsOpen, IsUnderWay, TracksBlocks, call_words, locks_of, words_recorded, IsPerformable}
use Rattle.solo_crash.specs.Operations.{AddsRange, IsPresent}
use Rattle.solo_crash.proofs.CallBlocks.{keeps_on, old_of_none, tracks_new}
use Rattle.solo_crash.proofs.CallWords.{call_works, covered_is_outside, held_is_locked, locks_kept, object_under, one_is_kept, other_call_word, recorded_call_word, same_pool, IsObjectOf}
use Rattle.solo_crash.proofs.Continued.{answers_done, known_new, leaves_told, left_changed, left_new, left_tracks, still_under_way, told_has, tracks_more, LeavesBlocks}
use Rattle.solo_crash.proofs.KeptWords.{found_back, keeps_known, same_found, under_further}
use Rattle.solo_crash.proofs.NewRecords.{new_is_covered, number_of_new, recorded_member, slot_added, slot_kept, words_of_all, words_of_new}
use Rattle.solo_crash.proofs.Passing.{passes_all, AsksNoLock, Works}
use Rattle.std.proofs.lemmas.List.Elements.{All-nil}

-- a word is recorded after where it was before, or is new
recorded_after : (v next : View) (id : Oid) (off len i : ℕ) → (adds : AddsRange v next id off len) → is_recorded next.log.records i ≡ (is_recorded v.log.records i || is_recorded adds.added i)
recorded_after v next id off len i adds =
    ap (λ (records : List Recorded). is_recorded records i) adds.records ∙ list_any-append (λ (r : Recorded). covers r i) v.log.records adds.added

new_is_outside : (v next : View) (id : Oid) (off len level i : ℕ) → IsUnderWay v level stage.Work error.None → (adds : AddsRange v next id off len) → is_recorded adds.added i ≡ true
    → is_in_area v.lane i ≡ false
new_is_outside v next id off len level i under_way adds is =
    covered_is_outside v id true off len i under_way.in_lanes under_way.chunks adds.range.object
    (new_is_covered adds.added (words_recorded v.log.records) (covered_words (id.off + off) len) i adds.extents is)

-- a new record has the value of its words from before the call
new_is_before : (v next : View) (id : Oid) (off len i : ℕ) (w : ℕ → ℕ) → (adds : AddsRange v next id off len) → IsBefore next w → is_recorded adds.added i ≡ true
    → w i ≡ slice_index v.words i
new_is_before v next id off len i w adds before is =
    let found = recorded_member adds.added i is in
    let r : Recorded = found.0 in
    let parts = and_parts (leb r.word i) (ltb i (r.word + length r.old)) found.2 in
    let low : r.word ≤ i = leb-true r.word i parts.0 in
    let high : i < r.word + length r.old = ltb-true i (r.word + length r.old) parts.1 in
    let k : ℕ = i - r.word in
    let inside : k < length r.old = omega arith in
    let place : r.word + k ≡ i = omega arith in
    let slot = slot_added v.log.records adds.added r found.1 in
    let at : slice_get next.log.records slot.0 ≡ Some r = ap (λ (records : List Recorded). slice_get records slot.0) adds.records ∙ slot.1 in
    let present : IsPresent v r = adds.present r found.1 in
    ap w (sym place) ∙ before.recorded slot.0 r k at inside ∙ present.value k inside ∙ ap (slice_index v.words) place

add_back : (v next : View) (id : Oid) (off len : ℕ) → AddsRange v next id off len → (w : ℕ → ℕ) → IsBefore next w → IsBefore v w
add_back v next id off len adds w before =
    record {
      recorded = λ slot r i at inside.
          before.recorded slot r i (ap (λ (records : List Recorded). slice_get records slot) adds.records ∙ slot_kept v.log.records adds.added slot r at) inside;
      known = λ i known outside none under. ⊎_elim
          (λ (is : is_recorded adds.added i ≡ true). new_is_before v next id off len i w adds before is)
          (λ (is : is_recorded adds.added i ≡ false).
          before.known i (adds.tells.keeps.known i known) (ap (λ (n : ℕ). is_in_area n i) adds.tells.keeps.lane ∙ outside)
          (recorded_after v next id off len i adds ∙ or_from (is_recorded v.log.records i) (is_recorded adds.added i) none is) (under_further v next (same_found v next adds.tells.locks) i under)
          ∙ adds.keeps.words i outside)
          (cases_Bool (is_recorded adds.added i));
      found = found_back v next adds.tells.keeps (same_found v next adds.tells.locks) w before;
    }

-- the words of the call stay
add_keeps_word : (v next : View) (id : Oid) (off len level : ℕ) → IsUnderWay v level stage.Work error.None → AddsRange v next id off len → (w : ℕ → ℕ) → IsBefore next w
    → (i : ℕ) → call_words next w i ≡ call_words v w i
add_keeps_word v next id off len level under_way adds w before i =
    let old : Bool = is_recorded v.log.records i in
    let new : Bool = is_recorded adds.added i in
    let after : is_recorded next.log.records i ≡ (old || new) = recorded_after v next id off len i adds in
    ⊎_elim
    (λ (is : old ≡ true).
    recorded_call_word next w i (after ∙ or_left old new is) ∙ adds.keeps.words i (under_way.outside i is) ∙ sym (recorded_call_word v w i is))
    (λ (not_old : old ≡ false). ⊎_elim
    (λ (is : new ≡ true).
    recorded_call_word next w i (after ∙ or_right old new is) ∙ adds.keeps.words i (new_is_outside v next id off len level i under_way adds is)
    ∙ sym (new_is_before v next id off len i w adds before is) ∙ sym (other_call_word v w i not_old))
    (λ (is : new ≡ false). other_call_word next w i (after ∙ or_from old new not_old is) ∙ sym (other_call_word v w i not_old))
    (cases_Bool new))
    (cases_Bool old)

-- what it recorded the call found, and did not free
pub add_goes_on : (v next : View) (id : Oid) (off len level : ℕ) → 1 ≤ level → IsUnderWay v level stage.Work error.None → AddsRange v next id off len → IsOldIn v id.off → IsUnderWay next level stage.Work error.None
add_goes_on v next id off len level some under_way adds old =
    let held = adds.range.object in
    let words : List ℕ = covered_words (id.off + off) len in
    let old_words : List ℕ = words_recorded v.log.records in
    let added : List Recorded = adds.added in
    let leaves : LeavesBlocks v next = leaves_told v next (AddRange id off len) None adds.tells.keeps.entries adds.tells.call refl (known_new v next (keeps_known v next adds.keeps) under_way.has.each) in
    still_under_way v next level level (AddRange id off len) None under_way adds.tells
    (record {
      outside = λ i is. ⊎_elim
          (λ (old : is_recorded v.log.records i ≡ true). under_way.outside i old)
          (λ (new : is_recorded added i ≡ true). new_is_outside v next id off len level i under_way adds new)
          (or_cases (is_recorded v.log.records i) (is_recorded added i) (sym (recorded_after v next id off len i adds) ∙ is));
      under = λ i is. under_further v next (same_found v next adds.tells.locks) i (⊎_elim
          (λ (old : is_recorded v.log.records i ≡ true). under_way.under i old)
          (λ (new : is_recorded added i ≡ true). adds.under i new)
          (or_cases (is_recorded v.log.records i) (is_recorded added i) (sym (recorded_after v next id off len i adds) ∙ is)));
      before = λ w header pool holds room. add_back v next id off len adds w;
      entries = adds.entries;
    })
    (told_has v next leaves adds.tells under_way.has)
    (λ w header pool holds same_id before next_before allowed c.
    let object : IsObjectOf v w c.tx id held.lock.line = object_under v w header pool level id true under_way before c held adds.range.size_known old in
    let works : Works c.tx = call_works v w header pool level some under_way c in
    let inside : off + len ≤ slice_index v.words (8 * held.lock.line + 1) = adds.range.inside in
    let long : length (bytes_of c.tx.pool.objects id.off) ≡ slice_index v.words (8 * held.lock.line + 1) = object.long in
    let same : call_words next w ≡ call_words v w = (λ j i. add_keeps_word v next id off len level under_way adds w next_before i j) in
    let records : c.tx.records ≡ length v.log.records = c.records in
    let number : length (records_of (new_words c.tx.recorded words)) ≡ length added =
    ap (λ (ws : List ℕ). length (records_of (new_words ws words))) c.recorded ∙ number_of_new added (new_words old_words words) adds.extents in
    let room : length v.log.records + length added ≤ 64 = adds.room in
    let all : length next.log.records ≡ length v.log.records + length added = ap (λ (rs : List Recorded). length rs) adds.records ∙ length-append v.log.records added in
    let found : is_new c.tx id.off ≡ false = tracks_new v c.tx c.tracks id.off ∙ old.found in
    let more : Transaction = record c.tx { recorded = c.tx.recorded ++ new_words c.tx.recorded words; records = c.tx.records + length (records_of (new_words c.tx.recorded words)) } in
    let leads : after_reply (AddRange id off len) None c.tx ≡ more = cond-false (is_new c.tx id.off) c.tx more found in
    let asks : AsksNoLock (AddRange id off len) = record { no_wants = refl; no_begin = refl; no_alloc = refl; no_free = refl; no_put = refl; no_publish = refl; aligned = refl; no_more = λ tx. refl; no_action = refl } in
    record {
      answers =
          answers_done c.tx (AddRange id off len) None refl asks
          (passes_all c.tx (AddRange id off len) works asks (one_is_kept v c.tx c.tracks id.off old)
          (held_is_locked v id true c.tx held c.locks (same_pool v w header c.base c.tx c.holds c.changed same_id))
          (le-ltb (length (bytes_of c.tx.pool.objects id.off)) (off + len) (omega arith))
          refl
          (and_right (not (is_new c.tx id.off)) (ltb 64 (c.tx.records + length (records_of (new_words c.tx.recorded words)))) (le-ltb 64 (c.tx.records + length (records_of (new_words c.tx.recorded words))) (omega arith))))
          refl;
      base = c.base;
      holds = subst (λ (f : ℕ → ℕ). HoldsPool f v.lanes v.zones header c.base) (sym same) c.holds;
      changed = subst (λ (x : Transaction). IsChanged next c.base x.pool) (sym leads) (left_changed v next c.base c.tx.pool leaves c.changed);
      unfound = λ o new. c.unfound o (sym (left_new v next o leaves) ∙ new);
      tracks = subst (λ (x : Transaction). TracksBlocks x (blocks_in next)) (sym leads) (tracks_more c.tx more refl refl refl (left_tracks v next c.tx leaves c.tracks));
      before = ap (λ (x : Transaction). x.before) leads;
      locks = subst (λ (x : Transaction). AreSameLocks x.locks (locks_of next)) (sym leads) (locks_kept c.tx v next adds.tells.locks c.locks);
      recorded =
          ap (λ (x : Transaction). x.recorded) leads
          ∙ ap (λ (ws : List ℕ). ws ++ new_words ws words) c.recorded
          ∙ ap (λ (ws : List ℕ). old_words ++ ws) (sym (words_of_new added (new_words old_words words) adds.extents))
          ∙ sym (words_of_all v.log.records added)
          ∙ ap words_recorded (sym adds.records);
      records = ap (λ (x : Transaction). x.records) leads ∙ omega arith;
      levels = ap (λ (x : Transaction). x.level) leads ∙ c.levels;
      stands = ap (λ (x : Transaction). x.stage) leads;
      fails = ap (λ (x : Transaction). x.error) leads;
      moved = ap (λ (x : Transaction). x.moved) leads ∙ sym (append-nil c.tx.moved);
      performable = All-nil (IsPerformable v w);
      blocks_stay = ap (λ (f : ℕ → ℕ). blocks f v.lanes v.zones) same;
      sizes_stay = λ block there. ap (λ (f : ℕ → ℕ). size_in f block) same;
    })

-- so is a range of a call that allocated and freed nothing
pub add_keeps_open : (v next : View) (id : Oid) (off len level : ℕ) → 1 ≤ level → IsOpen v level stage.Work error.None → AddsRange v next id off len → IsOpen next level stage.Work error.None
add_keeps_open v next id off len level some is_open adds = record {
  under_way = add_goes_on v next id off len level some is_open.under_way adds (old_of_none v is_open.keeps id.off);
  keeps = keeps_on v next (AddRange id off len) None adds.tells.keeps.entries adds.tells.call refl refl (λ root. tt) is_open.keeps;
}
