-- The entries of an image without a fault are for its words.
use Rattle.std.proofs.Common.{◌≡◌, ⊎_elim, ℕ, ◌+◌, ◌-◌, ◌*◌, ◌/◌, ◌%◌, ◌<◌, ◌≤◌, ◌&&◌, ◌||◌, Bool, true, false, cond, not, eqb, leb, ltb, All, List, [], length, Option, Some, None, sym, ◌∙◌, subst, arith}
use Rattle.std.specs.Option.{option_to_list}
use Rattle.std.proofs.lemmas.Bool.{and_parts, cases_Bool, eqb-true, leb-true, ltb-true, lt-ltb, not-false, or_from, false≢true}
use Rattle.std.proofs.lemmas.List.Elements.{All-cons, All-nil}
use Rattle.pm_record.specs.Redo.{redo_of}
use Rattle.pm_record.specs.declared.redo.Redo.{Redo}
use Rattle.pm_objects.specs.declared.pool.PoolView.{PoolView}
use Rattle.pm_image.specs.Logs.{area_word, entries, entry_pair, generation_word, is_sealed, seal_word}
use Rattle.pm_image.specs.LogFaults.{bad_entry, ends_log, good_entry, in_chunk, in_descriptors, is_set, is_target, zones_word}
use Rattle.pm_image.specs.Means.{HasShape, IsMeaning}
use Rattle.pm_image.proofs.Firsts.{fails_at_each}
use Rattle.pm_image.proofs.Gathering.{entries_by_number, entry_at}
use Rattle.pm_image.proofs.Redoing.{entries_unsealed, sealed_few}
use Rattle.pm_recover.proofs.Sound.{lanes_of_meaning, logs_of_meaning, no_log_faults}
use Rattle.pm_recover.proofs.Targets.{NoBadEntry}
use Rattle.pm_reopen.specs.Premise.{HasTargets}
use Rattle.pm_reopen.proofs.Inside.{all_parts}

-- an entry below the seal is a good one
pub entry_good : (image : List ℕ) (lanes zones lane i : ℕ) → NoBadEntry image lanes zones → lane < lanes → is_sealed image lane ≡ true → i < seal_word image lane
    → good_entry image lanes zones lane i (redo_of (entry_pair image lane i)) ≡ true
entry_good image lanes zones lane i none inside sealed below =
    let few : seal_word image lane ≤ 64 = sealed_few image lane sealed in
    let is_lane : lane ≡ (64 * lane + i) / 64 = omega arith in
    let is_entry : i ≡ (64 * lane + i) % 64 = omega arith in
    let good : Bool = good_entry image lanes zones lane i (redo_of (entry_pair image lane i)) in
    let passes : bad_entry image lanes zones lane i ≡ false = (λ j. bad_entry image lanes zones (is_lane j) (is_entry j)) ∙ none (64 * lane + i) (omega arith) in
    not-false good (sym (λ j. (sealed j && lt-ltb i (seal_word image lane) below j) && not good) ∙ passes)

pub end_place : (image : List ℕ) (lane : ℕ) (e : Redo) → ends_log image lane e ≡ true → e.place ≡ 8 * area_word lane
end_place image lane e ends =
    let near : Bool = eqb (generation_word image lane) e.value || eqb (generation_word image lane + 1) e.value in
    let first = and_parts (is_set e.op && eqb e.place (8 * area_word lane) && leb 2 e.value && leb e.value 4611686018427387904) near ends in
    let second = and_parts (is_set e.op && eqb e.place (8 * area_word lane) && leb 2 e.value) (leb e.value 4611686018427387904) first.0 in
    let third = and_parts (is_set e.op && eqb e.place (8 * area_word lane)) (leb 2 e.value) second.0 in
    let fourth = and_parts (is_set e.op) (eqb e.place (8 * area_word lane)) third.0 in
    eqb-true e.place (8 * area_word lane) fourth.1

-- a target is a word of the pool
target_inside : (lanes zones word : ℕ) → is_target lanes zones word ≡ true → word < 512 + 1024 * lanes + 33280 * zones
target_inside lanes zones word is = ⊎_elim
    (λ (root : eqb word 64 ≡ true). let same : word ≡ 64 = eqb-true word 64 root in omega (arith, same))
    (λ (other : eqb word 64 ≡ false). ⊎_elim
    (λ (of : in_descriptors lanes zones word ≡ true).
    let first = and_parts (leb (zones_word lanes) word && ltb ((word - zones_word lanes) / 33280) zones) (ltb ((word - zones_word lanes) % 33280) 64) of in
    let second = and_parts (leb (zones_word lanes) word) (ltb ((word - zones_word lanes) / 33280) zones) first.0 in
    let from : zones_word lanes ≤ word = leb-true (zones_word lanes) word second.0 in
    let to : (word - zones_word lanes) / 33280 < zones = ltb-true ((word - zones_word lanes) / 33280) zones second.1 in
    omega (arith, from, to))
    (λ (not_of : in_descriptors lanes zones word ≡ false). ⊎_elim
    (λ (of : in_chunk lanes zones word ≡ true).
    let first = and_parts (leb (zones_word lanes) word && ltb ((word - zones_word lanes) / 33280) zones) (leb 512 ((word - zones_word lanes) % 33280)) of in
    let second = and_parts (leb (zones_word lanes) word) (ltb ((word - zones_word lanes) / 33280) zones) first.0 in
    let from : zones_word lanes ≤ word = leb-true (zones_word lanes) word second.0 in
    let to : (word - zones_word lanes) / 33280 < zones = ltb-true ((word - zones_word lanes) / 33280) zones second.1 in
    omega (arith, from, to))
    (λ (nor : in_chunk lanes zones word ≡ false). absurd (false≢true (sym (or_from (eqb word 64 || in_descriptors lanes zones word) (in_chunk lanes zones word) (or_from (eqb word 64) (in_descriptors lanes zones word) other not_of) nor) ∙ is)))
    (cases_Bool (in_chunk lanes zones word)))
    (cases_Bool (in_descriptors lanes zones word)))
    (cases_Bool (eqb word 64))

good_inside : (image : List ℕ) (lanes zones lane i : ℕ) (o : Option Redo) → 512 + 1024 * lanes + 33280 * zones ≡ length image → lane < lanes → good_entry image lanes zones lane i o ≡ true
    → All (λ (e : Redo). e.place / 8 < length image) (option_to_list o)
good_inside image lanes zones lane i None size inside good = All-nil (λ (e : Redo). e.place / 8 < length image)
good_inside image lanes zones lane i (Some e) size inside good =
    All-cons (λ (f : Redo). f.place / 8 < length image) e [] (go (eqb (i + 1) (seal_word image lane)) good) (All-nil (λ (f : Redo). f.place / 8 < length image)) where
      go : (b : Bool) → cond b (ends_log image lane e) (is_target lanes zones (e.place / 8)) ≡ true → e.place / 8 < length image
      go true ends = let place = end_place image lane e ends in omega (arith, place, size, inside)
      go false target = let low = target_inside lanes zones (e.place / 8) target in omega (arith, low, size)

lane_inside : (image : List ℕ) (lanes zones lane : ℕ) → 512 + 1024 * lanes + 33280 * zones ≡ length image → NoBadEntry image lanes zones → lane < lanes → All (λ (e : Redo). e.place / 8 < length image) (entries image lane)
lane_inside image lanes zones lane size none inside = ⊎_elim
    (λ (sealed : is_sealed image lane ≡ true).
    subst (All (λ (e : Redo). e.place / 8 < length image)) (sym (entries_by_number image lane sealed))
    (all_parts (λ (e : Redo). e.place / 8 < length image) (entry_at image lane) 0 (seal_word image lane) (λ i from to.
    good_inside image lanes zones lane i (redo_of (entry_pair image lane i)) size inside (entry_good image lanes zones lane i none inside sealed (omega (arith, to))))))
    (λ (unsealed : is_sealed image lane ≡ false). subst (All (λ (e : Redo). e.place / 8 < length image)) (sym (entries_unsealed image lane unsealed)) (All-nil (λ (e : Redo). e.place / 8 < length image)))
    (cases_Bool (is_sealed image lane))

pub size_of_shape : (image : List ℕ) (lanes zones : ℕ) → HasShape image lanes zones → 512 + 1024 * lanes + 33280 * zones ≡ length image
size_of_shape image lanes zones shape = let size : 4096 + 8192 * lanes + 266240 * zones ≡ 8 * length image = shape.size in omega (arith, size)

pub targets_if_meaning : (image : List ℕ) (pool : PoolView) → IsMeaning image pool → HasTargets image pool.lanes
targets_if_meaning image pool is =
    subst (HasTargets image) (lanes_of_meaning image pool is)
    (record {
      inside = λ lane inside. lane_inside image is.lanes is.zones lane (size_of_shape image is.lanes is.zones is.has_header.has_shape)
          (fails_at_each (λ n. bad_entry image is.lanes is.zones (n / 64) (n % 64)) (64 * is.lanes) (no_log_faults image is.lanes is.zones (logs_of_meaning image pool is)).entry_row) inside;
    })

pub whole_lines : (image : List ℕ) (pool : PoolView) → IsMeaning image pool → length image % 8 ≡ 0
whole_lines image pool is = let size = size_of_shape image is.lanes is.zones is.has_header.has_shape in omega (arith, size)
