-- Which words of a lane's area the pairs of entries and the seal are.
use Rattle.std.proofs.Common.{◌≡◌, ℕ, ◌+◌, ◌-◌, ◌<◌, ◌≤◌, true, eqb, leb, ltb, ◌&&◌, ap, ◌∙◌, arith, ne_eqb}
use Rattle.std.proofs.lemmas.Bool.{cond-true, cond-false, and_from, le-leb, lt-ltb}
use Rattle.solo_view.specs.Area.{area_word, is_in_area, part_in_area, part_of}
use Rattle.solo_view.specs.Area.Part.{EntryWord, SealWord, OtherWord}
use Rattle.solo_world.specs.Entries.{entry_word}
use Rattle.solo_undo.proofs.Areas.{in_area}

entry_offset : (n : ℕ) → 8 ≤ n → n < 136 → part_in_area n ≡ EntryWord
entry_offset n from to =
    cond-false (eqb n 0) _ _ (ne_eqb n 0 (λ e. absurd (omega (arith, e, from))))
    ∙ cond-false (eqb n 1) _ _ (ne_eqb n 1 (λ e. absurd (omega (arith, e, from))))
    ∙ cond-true (leb 8 n && ltb n 136) _ _ (and_from (leb 8 n) (ltb n 136) (le-leb 8 n from) (lt-ltb n 136 to))

-- a word of an entry's pair
pub pair_part : (lane i k w : ℕ) → i < 64 → k < 2 → w ≡ entry_word lane i + k → (part_of lane w ≡ EntryWord) × (is_in_area lane w ≡ true)
pair_part lane i k w low small here =
    let inside : is_in_area lane w ≡ true = in_area lane w (omega (arith, here)) (omega (arith, here, low, small)) in
    (cond-true (is_in_area lane w) (part_in_area (w - area_word lane)) OtherWord inside ∙ entry_offset (w - area_word lane) (omega (arith, here)) (omega (arith, here, low, small)), inside)

-- the seal
pub seal_part : (lane : ℕ) → (part_of lane (area_word lane + 1) ≡ SealWord) × (is_in_area lane (area_word lane + 1) ≡ true)
seal_part lane =
    let inside : is_in_area lane (area_word lane + 1) ≡ true = in_area lane (area_word lane + 1) (omega arith) (omega arith) in
    (cond-true (is_in_area lane (area_word lane + 1)) (part_in_area (area_word lane + 1 - area_word lane)) OtherWord inside ∙ ap part_in_area (let e : area_word lane + 1 - area_word lane ≡ 1 = omega arith in e), inside)
