-- Which words of a lane's area are what, and that none of them tells of a block.
use Rattle.std.proofs.Common.{◌≡◌, ℕ, ◌+◌, ◌-◌, ◌*◌, ◌/◌, ◌<◌, ◌≤◌, Bool, true, false, not, cond, eqb, leb, ltb, ◌&&◌, List, slice_index, refl, ap, ◌∙◌, arith, ne_eqb, Some, None}
use Rattle.std.proofs.lemmas.Bool.{cond-true, cond-false, and_from, and_parts, le-leb, leb-true, lt-ltb, le-ltb}
use Rattle.pm_image.specs.Logs.{slot_line}
use Rattle.solo_view.specs.Area.{area_word, is_in_area, part_in_area, part_of}
use Rattle.solo_view.specs.Area.Part.{GenerationWord, SlotWord, OtherWord}
use Rattle.solo_view.specs.Blocks.{zone_page, zone_of, chunk_of, descriptor_word, bitmap_word, is_run, is_chunk, allocation_word, is_word}
use Rattle.solo_world.proofs.Apart.{area_bounds}

pub in_area : (lane w : ℕ) → 512 + 1024 * lane ≤ w → w < 512 + 1024 * lane + 1024 → is_in_area lane w ≡ true
in_area lane w from to = and_from (leb (area_word lane) w) (ltb w (area_word lane + 1024)) (le-leb (area_word lane) w from) (lt-ltb w (area_word lane + 1024) to)

pub generation_in_area : (lane : ℕ) → is_in_area lane (area_word lane) ≡ true
generation_in_area lane = in_area lane (area_word lane) (omega arith) (omega arith)

pub generation_word : (lane : ℕ) → part_of lane (area_word lane) ≡ GenerationWord
generation_word lane = cond-true (is_in_area lane (area_word lane)) (part_in_area (area_word lane - area_word lane)) OtherWord (generation_in_area lane)
    ∙ ap part_in_area (let e : area_word lane - area_word lane ≡ 0 = omega arith in e)

pub other_part : (lane w : ℕ) → is_in_area lane w ≡ false → part_of lane w ≡ OtherWord
other_part lane w e = cond-false (is_in_area lane w) (part_in_area (w - area_word lane)) OtherWord e

slot_offset : (n : ℕ) → 136 ≤ n → n < 648 → part_in_area n ≡ SlotWord
slot_offset n from to =
    cond-false (eqb n 0) _ _ (ne_eqb n 0 (λ e. absurd (omega (arith, e, from))))
    ∙ cond-false (eqb n 1) _ _ (ne_eqb n 1 (λ e. absurd (omega (arith, e, from))))
    ∙ cond-false (leb 8 n && ltb n 136) _ _ (ap (λ b. leb 8 n && b) (le-ltb n 136 from) ∙ none (leb 8 n))
    ∙ cond-true (leb 136 n && ltb n 648) SlotWord OtherWord (and_from (leb 136 n) (ltb n 648) (le-leb 136 n from) (lt-ltb n 648 to)) where
      none : (b : Bool) → (b && false) ≡ false
      none true = refl
      none false = refl

pub slot_part : (lane slot i w : ℕ) → slot < 64 → i < 8 → w ≡ 8 * slot_line lane slot + i → (part_of lane w ≡ SlotWord) × (is_in_area lane w ≡ true)
slot_part lane slot i w low small here =
    let inside : is_in_area lane w ≡ true = in_area lane w (omega (arith, here)) (omega (arith, here, low, small)) in
    (cond-true (is_in_area lane w) (part_in_area (w - area_word lane)) OtherWord inside ∙ slot_offset (w - area_word lane) (omega (arith, here)) (omega (arith, here, low, small)), inside)

-- a word of a lane's area is in no zone
pub area_tells_nothing : (lanes lane w line : ℕ) (words : List ℕ) → lane < lanes → is_in_area lane w ≡ true → is_word (allocation_word lanes words line) w ≡ false
area_tells_nothing lanes lane w line words low inside = at (is_chunk lanes (line / 64)) refl where
  page : ℕ
  page = line / 64

  high : w < 1536 + 1024 * lane
  high = (area_bounds lane w inside).1

  run : Bool
  run = is_run (slice_index words (descriptor_word lanes page))

  one : (b : Bool) → is_chunk lanes page ≡ true → is_word (Some (cond b (bitmap_word page) (descriptor_word lanes page))) w ≡ false
  one true c =
      let from = leb-true (zone_page lanes 0) page (and_parts (leb (zone_page lanes 0) page) (leb 1 (chunk_of lanes page)) c).0 in
      ne_eqb (bitmap_word page) w (λ e. absurd (omega (arith, e, from, high, low)))
  one false c =
      let some = leb-true 1 (chunk_of lanes page) (and_parts (leb (zone_page lanes 0) page) (leb 1 (chunk_of lanes page)) c).1 in
      ne_eqb (descriptor_word lanes page) w (λ e. absurd (descriptor_high (zone_of lanes page) (chunk_of lanes page) some e)) where
        descriptor_high : (zone chunk : ℕ) → 1 ≤ chunk → 512 * zone_page lanes zone + chunk - 1 ≡ w → ⊥
        descriptor_high zone chunk some e = omega (arith, e, some, high, low)

  at : (b : Bool) → is_chunk lanes page ≡ b → is_word (cond (not b) None (Some (cond run (bitmap_word page) (descriptor_word lanes page)))) w ≡ false
  at true c = one run c
  at false c = refl

-- what tells of a block is behind the areas, so it is told as well where words of one lane's area are others
pub allocation_kept : (lanes lane line : ℕ) (words other : List ℕ) → lane < lanes → ((u : ℕ) → is_in_area lane u ≡ false → slice_index other u ≡ slice_index words u) → allocation_word lanes other line ≡ allocation_word lanes words line
allocation_kept lanes lane line words other low same = at (is_chunk lanes page) refl where
  page : ℕ
  page = line / 64

  high : (zone chunk : ℕ) → 1 ≤ chunk → is_in_area lane (512 * zone_page lanes zone + chunk - 1) ≡ false
  high zone chunk some = ap (λ b. leb (area_word lane) (512 * zone_page lanes zone + chunk - 1) && b) (le-ltb (512 * zone_page lanes zone + chunk - 1) (area_word lane + 1024) (omega (arith, some, low))) ∙ none (leb (area_word lane) (512 * zone_page lanes zone + chunk - 1)) where
    none : (b : Bool) → (b && false) ≡ false
    none true = refl
    none false = refl

  at : (b : Bool) → is_chunk lanes page ≡ b
      → cond (not b) None (Some (cond (is_run (slice_index other (descriptor_word lanes page))) (bitmap_word page) (descriptor_word lanes page)))
      ≡ cond (not b) None (Some (cond (is_run (slice_index words (descriptor_word lanes page))) (bitmap_word page) (descriptor_word lanes page)))
  at true c =
      let some = leb-true 1 (chunk_of lanes page) (and_parts (leb (zone_page lanes 0) page) (leb 1 (chunk_of lanes page)) c).1 in
      ap (λ d. Some (cond (is_run d) (bitmap_word page) (descriptor_word lanes page))) (same (descriptor_word lanes page) (high (zone_of lanes page) (chunk_of lanes page) some))
  at false c = refl
