-- What keeps a lane's records, and what they say of words.
use Rattle.std.proofs.Common.{◌≡◌, ℕ, zero, suc, ◌+◌, ◌-◌, ◌*◌, ◌<◌, ◌≤◌, true, false, leb, ltb, ◌&&◌, List, [], ◌∷◌, length, take, drop, slice_index, slice_range, slice_get, Some, refl, sym, ap, ◌∙◌, subst, arith}
use Rattle.std.proofs.lemmas.Bool.{and_from, or_left, or_right, le-leb, lt-ltb, false≢true, false_from_ne_true}
use Rattle.std.proofs.lemmas.List.{length-take-le, length-drop, get_or-take, get_or-drop, ext_get_or}
use Rattle.std.proofs.lemmas.List.Folds.{list_any_at, Any-from_list_any}
use Rattle.std.proofs.lemmas.Option.{none-some, same_Some, slice_get_within, get_or_from_slice_get, slice_get-get_or}
use Rattle.pm_image.specs.Logs.{undo_slot, slot_line}
use Rattle.solo_view.specs.Area.{is_in_area}
use Rattle.solo_view.specs.Log.{Recorded}
use Rattle.solo_view.specs.Rights.{is_written}
use Rattle.solo_view.specs.View.{View}
use Rattle.solo_world.specs.Records.{IsRecordAt, generation_of, covers, is_recorded, is_drained_slot, is_logged_from, spelled}
use Rattle.solo_undo.specs.Working.{HasArea, HasRecords, IsSameCall, IsUserWord}

-- eight words of a range
pub word_in_range : (words : List ℕ) (from i : ℕ) → i < 8 → slice_index (slice_range words from (from + 8)) i ≡ slice_index words (from + i)
word_in_range words from i low =
    ap (λ n. slice_index (take n (drop from words)) i) (let e : from + 8 - from ≡ 8 = omega arith in e) ∙ (get_or-take 8 (drop from words) i 0 low ∙ get_or-drop from words i 0)

length_range : (words : List ℕ) (from : ℕ) → from + 8 ≤ length words → length (slice_range words from (from + 8)) ≡ 8
length_range words from inside =
    let behind = length-drop from words in
    ap (λ n. length (take n (drop from words))) (let e : from + 8 - from ≡ 8 = omega arith in e) ∙ length-take-le 8 (drop from words) (omega (arith, behind, inside))

-- they are these
pub range_is : (words slot : List ℕ) (from : ℕ) → length slot ≡ 8 → from + 8 ≤ length words → ((i : ℕ) → i < 8 → slice_index words (from + i) ≡ slice_index slot i) → slice_range words from (from + 8) ≡ slot
range_is words slot from size inside same =
    let eight = length_range words from inside in
    ext_get_or 0 (slice_range words from (from + 8)) slot (eight ∙ sym size)
    (λ i low. let here : i < 8 = omega (arith, low, eight) in word_in_range words from i here ∙ same i here)

range_same : (words other : List ℕ) (from : ℕ) → from + 8 ≤ length words → from + 8 ≤ length other → ((i : ℕ) → i < 8 → slice_index words (from + i) ≡ slice_index other (from + i)) → slice_range words from (from + 8) ≡ slice_range other from (from + 8)
range_same words other from inside also same = range_is words (slice_range other from (from + 8)) from (length_range other from also) inside (λ i low. same i low ∙ sym (word_in_range other from i low))

pub covers_own : (r : Recorded) (i : ℕ) → i < length r.old → covers r (r.word + i) ≡ true
covers_own r i low = and_from (leb r.word (r.word + i)) (ltb (r.word + i) (r.word + length r.old)) (le-leb r.word (r.word + i) (omega arith)) (lt-ltb (r.word + i) (r.word + length r.old) (omega (arith, low)))

pub recorded_at : (records : List Recorded) (slot w : ℕ) (r : Recorded) → slice_get records slot ≡ Some r → covers r w ≡ true → is_recorded records w ≡ true
recorded_at records slot w r there of = list_any_at (λ q. covers q w) records slot r (slice_get_within records slot r there) (ap (λ q. covers q w) (get_or_from_slice_get records slot r r there) ∙ of)

-- some record covers the word
pub record IsOf (records : List Recorded) (w : ℕ) : Type 0 where
  pub slot : ℕ
  pub recorded : Recorded
  pub there : slice_get records slot ≡ Some recorded
  pub covering : covers recorded w ≡ true

pub is_of : (records : List Recorded) (w : ℕ) → is_recorded records w ≡ true → IsOf records w
is_of records w e =
    let t = Any-from_list_any (λ r. covers r w) records e in
    record { slot = t.0; recorded = t.1; there = slice_get-get_or records t.0 t.1 t.2 ∙ ap Some t.3; covering = t.4 }

-- a record, where there are so many
pub stands_at : (records : List Recorded) (n : ℕ) → n < length records → (r : Recorded) × (slice_get records n ≡ Some r)
stands_at [] n low = absurd (omega (arith, low))
stands_at (r ∷ records) zero low = (r, refl)
stands_at (r ∷ records) (suc n) low = stands_at records n (omega (arith, low))

-- no word of the lane's area is recorded
pub area_unrecorded : (v : View) → HasRecords v → (w : ℕ) → is_in_area v.lane w ≡ true → is_recorded v.log.records w ≡ false
area_unrecorded v has w inside =
    false_from_ne_true (is_recorded v.log.records w) (λ e. let t = is_of v.log.records w e in false≢true (sym (has.each t.slot t.recorded w t.there t.covering).outside ∙ inside))

-- a word of a record whose slot is drained would be restored
pub logged_at : (v : View) (from slot : ℕ) (records : List Recorded) (r : Recorded) (w : ℕ) → slice_get records slot ≡ Some r → covers r w ≡ true → is_drained_slot v (from + slot) ≡ true → is_logged_from v from records w ≡ true
logged_at v from slot [] r w there covering drained = absurd (none-some r there)
logged_at v from zero (q ∷ records) r w there covering drained =
    or_left (covers q w && is_drained_slot v from) (is_logged_from v (from + 1) records w)
    (and_from (covers q w) (is_drained_slot v from) (ap (λ (x : Recorded). covers x w) (same_Some q r there) ∙ covering) (ap (is_drained_slot v) (let e : from ≡ from + zero = omega arith in e) ∙ drained))
logged_at v from (suc slot) (q ∷ records) r w there covering drained =
    or_right (covers q w && is_drained_slot v from) (is_logged_from v (from + 1) records w)
    (logged_at v (from + 1) slot records r w there covering (ap (is_drained_slot v) (let e : from + 1 + slot ≡ from + suc slot = omega arith in e) ∙ drained))

module _ (v w : View) (call : IsSameCall v w) where
  pub written_kept : (u : ℕ) → is_written v u ≡ true → is_written w u ≡ true
  written_kept u e = subst (λ locks. is_written (record w { locks = locks }) u ≡ true) (sym call.locks) e

  pub user_word_kept : (u : ℕ) → IsUserWord v u → IsUserWord w u
  user_word_kept u user = record {
    own = written_kept u user.own;
    known = call.known u user.known;
    outside = ap (λ n. is_in_area n u) call.lane.lane ∙ user.outside;
    inside = let low = user.inside in let size = call.lane.size in omega (arith, low, size);
  }

  pub area_kept : generation_of w ≡ generation_of v → HasArea v → HasArea w
  area_kept generation area = record {
    lane = subst (λ n. n < w.lanes) (sym call.lane.lane) (subst (λ n. v.lane < n) (sym call.lane.lanes) area.lane);
    few = subst (λ n. n < 32) (sym call.lane.lane) area.few;
    inside = let same = call.lane.lane in let size = call.lane.size in let most = area.inside in omega (arith, same, size, most);
    below = let most = area.below in omega (arith, most, generation);
  }

  pub records_kept : HasArea v → HasRecords v → w.log.records ≡ v.log.records → generation_of w ≡ generation_of v
      → ((u : ℕ) → 8 * slot_line v.lane 0 ≤ u → u < 8 * slot_line v.lane (length v.log.records) → slice_index w.words u ≡ slice_index v.words u) → HasRecords w
  records_kept area has records generation same = record {
    most = (let most = has.most in let many = ap length records in omega (arith, most, many));
    stored = λ slot r there. ap (λ n. undo_slot w.words n slot) call.lane.lane ∙ slot_same slot (slice_get_within v.log.records slot r (at slot r there)) ∙ has.stored slot r (at slot r there) ∙ ap (λ n. spelled n r) (sym generation);
    some = λ slot r there. has.some slot r (at slot r there);
    few = λ slot r there. has.few slot r (at slot r there);
    each = λ slot r u there covering. user_word_kept u (has.each slot r u (at slot r there) covering);
    once = λ slot other r q u there also one two. has.once slot other r q u (at slot r there) (at other q also) one two;
  } where
    at : (slot : ℕ) (r : Recorded) → IsRecordAt w slot r → IsRecordAt v slot r
    at slot r there = subst (λ rs. slice_get rs slot ≡ Some r) records there

    slot_same : (slot : ℕ) → slot < length v.log.records → undo_slot w.words v.lane slot ≡ undo_slot v.words v.lane slot
    slot_same slot low =
        let size = call.lane.size in let most = area.inside in let many = has.most in
        range_same w.words v.words (8 * slot_line v.lane slot) (omega (arith, size, most, many, low)) (omega (arith, most, many, low)) (λ i small. same (8 * slot_line v.lane slot + i) (omega arith) (omega (arith, low, small)))
