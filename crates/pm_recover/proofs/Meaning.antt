-- What is recovered means what it meant.
use Rattle.std.proofs.Common.{◌≡◌, ◌≢◌, ◌⊎◌, ⊎_elim, inl, inr, ℕ, ◌+◌, ◌*◌, ◌/◌, ◌%◌, ◌<◌, ◌≤◌, ◌&&◌, true, false, not, leb, ltb, List, [], length, slice_index, drop, take, Option, None, refl, sym, ◌∙◌, ap, subst, arith}
use Rattle.std.specs.List.{filter, flat_map, range_with_len}
use Rattle.std.specs.Option.{option_map_or}
use Rattle.std.proofs.lemmas.Bool.{and_from, cases_lt, le-leb, not_from_true}
use Rattle.std.proofs.lemmas.List.{ext_get_or, get_or-drop, get_or-take, get_or_past, length-drop, length-take}
use Rattle.pm_record.specs.declared.undo.Undo.{Undo}
use Rattle.pm_objects.specs.declared.pool.PoolView.{PoolView}
use Rattle.pm_image.specs.Logs.{area_word, covers, generation_word, recovered_at, records, restored, seal_word}
use Rattle.pm_image.specs.LogFaults.{bad_slot, good_lane, good_record, log_fault}
use Rattle.pm_image.specs.HeapFaults.{heap_fault}
use Rattle.pm_image.specs.Means.{HasShape, IsMeaning, page}
use Rattle.pm_image.specs.Reads.{AgreeInMeaning, IsHeapWord}
use Rattle.pm_image.specs.Steps.{HasLanes, valid_record}
use Rattle.pm_image.proofs.FaultFree.{neither}
use Rattle.pm_image.proofs.Firsts.{none_passes}
use Rattle.pm_image.proofs.HeapWords.{reads_heap}
use Rattle.pm_image.proofs.InPlace.{recovered_in_place}
use Rattle.pm_image.proofs.LocalMeaning.{meaning_local}
use Rattle.pm_image.proofs.Unsealed.{no_entries_for, nothing_in, records_row}
use Rattle.pm_recover.specs.Recovery.{IsCleanLog, IsRecovered}
use Rattle.pm_recover.specs.Steps.{HasSoundLogs}
use Rattle.pm_recover.proofs.Clean.{clean, clean_has_none}
use Rattle.pm_recover.proofs.PutBack.{first_for, lanes_cover_none}
use Rattle.pm_recover.proofs.Recovered.{by_records, past_end}
use Rattle.pm_recover.proofs.Slots.{generation_stands, no_record_in}
use Rattle.pm_recover.proofs.Sound.{header_if_meaning, lanes_of_meaning, logs_of_meaning, logs_sound}
use Rattle.pm_recover.proofs.Targets.{HasHeaderKept}

-- all lanes of an image of this length have clean logs
pub record HasCleanLogs (image : List ℕ) (lanes : ℕ) : Type 0 where
  pub has_lanes : HasLanes image lanes
  pub clean : (lane : ℕ) → lane < lanes → IsCleanLog image lane

pub clean_logs : (before after : List ℕ) (lanes : ℕ) → HasSoundLogs before lanes → IsRecovered before after lanes → HasCleanLogs after lanes
clean_logs before after lanes sound is =
    let has : HasLanes before lanes = sound.has_lanes in
    let long : length after ≡ length before = is.as_long in
    record { has_lanes = record { lanes_fit = has.lanes_fit; areas = omega arith; small = omega arith }; clean = λ lane inside. clean before after lanes lane sound is inside }

none_valid : (image : List ℕ) (lanes lane slot : ℕ) → HasCleanLogs image lanes → lane < lanes → slot < 64 → valid_record image lane slot ≡ None
none_valid image lanes lane slot logs in_lanes in_slots = no_record_in image lane slot (clean_has_none image lane (logs.clean lane in_lanes)) in_slots

pub clean_sound : (image : List ℕ) (lanes : ℕ) → HasCleanLogs image lanes → HasSoundLogs image lanes
clean_sound image lanes logs = record {
  has_lanes = logs.has_lanes;
  first_generation = λ lane inside. subst (λ (n : ℕ). 1 ≤ n) (sym (generation_stands image lane (logs.clean lane inside).unsealed)) (logs.clean lane inside).first_generation;
  last_generation = λ lane inside. subst (λ (n : ℕ). n ≤ 4611686018427387904) (sym (generation_stands image lane (logs.clean lane inside).unsealed)) (logs.clean lane inside).last_generation;
  restorable = λ lane slot u in_lanes in_slots is. let clash = sym (none_valid image lanes lane slot logs in_lanes in_slots) ∙ is in absurd cc;
}

no_records_at_all : (image : List ℕ) (lanes : ℕ) → HasCleanLogs image lanes → flat_map (records image) (range_with_len 0 lanes) ≡ []
no_records_at_all image lanes logs = nothing_in (records image) lanes (λ lane inside. clean_has_none image lane (logs.clean lane inside))

-- with clean logs the words are recovered as they stand
pub as_they_stand : (image : List ℕ) (lanes i : ℕ) → HasCleanLogs image lanes → recovered_at image lanes i ≡ slice_index image i
as_they_stand image lanes i logs =
    ⊎_elim
    (λ (inside : i < length image).
    recovered_in_place image lanes i inside ∙ by_records image lanes i (no_entries_for image lanes (8 * i) (λ lane near. (logs.clean lane near).unsealed))
    ∙ ap (λ (us : List Undo). restored (first_for us i) (8 * i) (slice_index image i)) (no_records_at_all image lanes logs))
    (λ (past : length image ≤ i). past_end image lanes i past ∙ sym (get_or_past image i 0 past))
    (cases_lt i (length image))

-- nor do logs without a fault change a word of the header page, but for the root's
pub page_stands : (image : List ℕ) (lanes i : ℕ) → HasSoundLogs image lanes → HasHeaderKept image lanes → i < 512 → i ≢ 64 → recovered_at image lanes i ≡ slice_index image i
page_stands image lanes i sound header low other =
    let areas : 512 + 1024 * lanes ≤ length image = sound.has_lanes.areas in
    recovered_in_place image lanes i (omega arith) ∙ by_records image lanes i (header.kept i low other)
    ∙ ap (λ (o : Option Undo). restored o (8 * i) (slice_index image i)) (lanes_cover_none image lanes 0 lanes i sound (omega arith) (omega arith))

-- clean logs have no fault
lane_good : (image : List ℕ) (lane : ℕ) → IsCleanLog image lane → good_lane image lane ≡ true
unfolding good_lane
lane_good image lane log =
    let g : ℕ = generation_word image lane in
    let s : ℕ = seal_word image lane in
    let none : seal_word image lane ≡ 0 = log.unsealed in
    and_from (leb 1 g && leb g 4611686018427387904) (leb s 64)
    (and_from (leb 1 g) (leb g 4611686018427387904) (le-leb 1 (generation_word image lane) log.first_generation) (le-leb (generation_word image lane) 4611686018427387904 log.last_generation))
    (le-leb (seal_word image lane) 64 (omega arith))

slot_free : (image : List ℕ) (lanes zones lane slot : ℕ) → valid_record image lane slot ≡ None → bad_slot image lanes zones lane slot ≡ false
unfolding bad_slot
slot_free image lanes zones lane slot none = ap (λ (o : Option Undo). option_map_or (λ u. not (good_record lanes zones u)) o false) none

pub no_log_fault : (image : List ℕ) (lanes zones : ℕ) → HasCleanLogs image lanes → log_fault image lanes zones ≡ None
no_log_fault image lanes zones logs =
    sym (records_row image lanes zones [] None (λ lane inside. (logs.clean lane inside).unsealed)
    (none_passes (λ k. not (good_lane image k)) lanes (λ lane inside. not_from_true (good_lane image lane) (lane_good image lane (logs.clean lane inside))))
    (none_passes (λ n. bad_slot image lanes zones (n / 64) (n % 64)) (64 * lanes) (λ n inside. slot_free image lanes zones (n / 64) (n % 64) (none_valid image lanes (n / 64) (n % 64) logs (omega arith) (omega arith))))
    (sym (no_records_at_all image lanes logs))
    (none_passes (λ i. ltb 1 (length (filter (λ u. covers u (8 * i)) []))) (length image) (λ i inside. refl)))

-- so many words of it from one on
words_same : (before after : List ℕ) (lanes from n : ℕ) → HasSoundLogs before lanes → HasHeaderKept before lanes → IsRecovered before after lanes → from + n ≤ 512 → (from + n ≤ 64) ⊎ (64 < from)
    → take n (drop from (page after)) ≡ take n (drop from (page before))
words_same before after lanes from n sound header is low apart =
    let areas : 512 + 1024 * lanes ≤ length before = sound.has_lanes.areas in
    let long : length after ≡ length before = is.as_long in
    let count : (xs : List ℕ) → 512 ≤ length xs → length (take n (drop from (take 512 xs))) ≡ n = λ xs h.
    let first = length-take 512 xs in let dropped = length-drop from (take 512 xs) in let taken = length-take n (drop from (take 512 xs)) in omega (arith, first, dropped, taken) in
    let at : (xs : List ℕ) (i : ℕ) → i < n → slice_index (take n (drop from (take 512 xs))) i ≡ slice_index xs (from + i) = λ xs i near.
    get_or-take n (drop from (take 512 xs)) i 0 near ∙ get_or-drop from (take 512 xs) i 0 ∙ get_or-take 512 xs (from + i) 0 (omega arith) in
    ext_get_or 0 (take n (drop from (take 512 after))) (take n (drop from (take 512 before))) (count after (omega arith) ∙ sym (count before (omega arith)))
    (λ i h.
    let near : i < n = omega (arith, count after (omega arith)) in
    let other : from + i ≢ 64 = λ same. ⊎_elim (λ (before_it : from + n ≤ 64). omega (arith, same, near, before_it)) (λ (behind : 64 < from). omega (arith, same, behind)) apart in
    at after i near ∙ is.words (from + i) (inl (omega arith)) ∙ page_stands before lanes (from + i) sound header (omega arith) other ∙ sym (at before i near))

-- the words that a meaning reads are outside of the lanes' areas
outside : (lanes zones i : ℕ) → IsHeapWord lanes zones i → (i < area_word 0) ⊎ (area_word lanes ≤ i)
outside lanes zones i (inl root) = inl (omega arith)
outside lanes zones i (inr zone) = inr zone.0

agree_in_meaning : (before after : List ℕ) (lanes zones : ℕ) → HasShape before lanes zones → log_fault before lanes zones ≡ None → heap_fault (recovered_at before lanes) lanes zones ≡ None
    → HasHeaderKept before lanes → IsRecovered before after lanes → AgreeInMeaning before after lanes zones
agree_in_meaning before after lanes zones shape logs heap header is =
    let sound : HasSoundLogs before lanes = logs_sound before lanes zones shape logs in
    let clean_after : HasCleanLogs after lanes = clean_logs before after lanes sound is in
    record {
      shape = shape;
      other_shape = record { shape = shape.shape; size = shape.size ∙ ap (λ (n : ℕ). 8 * n) (sym is.as_long) };
      main = words_same before after lanes 0 16 sound header is (omega arith) (inl (omega arith));
      copy = words_same before after lanes 256 16 sound header is (omega arith) (inr (omega arith));
      logs = logs;
      other_logs = no_log_fault after lanes zones clean_after;
      words = record {
        same = λ i read. sym (is.words i (outside lanes zones i (reads_heap (recovered_at before lanes) lanes zones i heap read))) ∙ sym (as_they_stand after lanes i clean_after);
      };
    }

pub meaning_kept : (before after : List ℕ) (pool : PoolView) → IsMeaning before pool → IsRecovered before after pool.lanes → IsMeaning after pool
meaning_kept before after pool means is =
    let same : pool.lanes ≡ means.lanes = sym (lanes_of_meaning before pool means) in
    let heap : heap_fault (recovered_at before means.lanes) means.lanes means.zones ≡ None =
    (neither (log_fault before means.lanes means.zones) (heap_fault (recovered_at before means.lanes) means.lanes means.zones) means.no_fault).1 in
    let agree : AgreeInMeaning before after means.lanes means.zones =
    agree_in_meaning before after means.lanes means.zones means.has_header.has_shape (logs_of_meaning before pool means) heap
    (subst (HasHeaderKept before) same (header_if_meaning before pool means)) (subst (IsRecovered before after) same is) in
    (meaning_local before after means.lanes means.zones agree).pools pool means
