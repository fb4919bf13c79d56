-- A chunk that passes its tests by one heap's words does so by another's that tell the same of it.
use Rattle.std.proofs.Common.{◌≡◌, ℕ, ◌+◌, ◌-◌, ◌*◌, ◌/◌, ◌%◌, ◌<◌, ◌≤◌, ◌&&◌, Bool, true, false, not, cond, eqb, leb, ltb, List, [], ◌∷◌, Option, Some, None, refl, sym, ◌∙◌, ap, arith}
use Rattle.std.specs.List.{Contains, list_all, range_with_len}
use Rattle.std.proofs.lemmas.Bool.{and_from, eq-eqb, eqb-true, le-leb}
use Rattle.pm_layout.specs.Sizes.{blocks_of}
use Rattle.pm_layout.specs.declared.class.Class.{Class}
use Rattle.pm_layout.specs.declared.class.Class.TheVariants.{Lines, Chunks}
use Rattle.pm_image.specs.Blocks.{chunk_word, class_in, descriptor_word}
use Rattle.pm_image.specs.HeapFaults.{bad_bitmap, bad_chunk, is_bad_bitmap, is_described, zeros_behind}
use Rattle.pm_image.proofs.FaultFree.{described}
use Rattle.pm_image.proofs.HeapWords.{chunks_fit}
use Rattle.pm_image.proofs.Members.{first_member, in_range, later_member}

-- what each number of a list passes
all_pass : (p : ℕ → Bool) (xs : List ℕ) → ((x : ℕ) → Contains xs x → p x ≡ true) → list_all p xs ≡ true
all_pass p [] passes = refl
all_pass p (x ∷ xs) passes = and_from (p x) (list_all p xs) (passes x (first_member x xs)) (all_pass p xs (λ y there. passes y (later_member x xs y there)))

-- the first of some chunks of a zone, with 0 in the descriptors of the further ones, is described
pub first_is_described : (v : ℕ → ℕ) (lanes c n : ℕ) → c % 64 + n ≤ 64 → ((j : ℕ) → j < n - 1 → v (descriptor_word lanes (c + 1 + j)) ≡ 0) → is_described v (descriptor_word lanes c) c (Some (Chunks n)) ≡ true
unfolding zeros_behind
first_is_described v lanes c n fits zeros =
    let at : ℕ = descriptor_word lanes c in
    ap (λ (t : Bool). cond t (zeros_behind v at n) false) (le-leb (c % 64 + n) 64 fits)
    ∙ all_pass (λ j. eqb (v (at + 1 + j)) 0) (range_with_len 0 (n - 1)) (λ j there.
    let within : (0 ≤ j) × (j < 0 + (n - 1)) = in_range 0 (n - 1) j there in
    let place : at + 1 + j ≡ descriptor_word lanes (c + 1 + j) = omega arith in
    eq-eqb (v (at + 1 + j)) 0 (ap v place ∙ zeros j (omega arith)))

-- a chunk by what its descriptor makes of it
pub good_by_class : (v : ℕ → ℕ) (lanes c : ℕ) (class : Option Class) → class_in (v (descriptor_word lanes c)) ≡ class → is_described v (descriptor_word lanes c) c class ≡ true → bad_chunk v lanes c ≡ false
unfolding bad_chunk
good_by_class v lanes c class is described = ap (λ (o : Option Class). not (is_described v (descriptor_word lanes c) c o)) is ∙ ap not described

pub good_bitmap_by_class : (v : ℕ → ℕ) (lanes c : ℕ) (class : Option Class) → class_in (v (descriptor_word lanes c)) ≡ class → is_bad_bitmap class (v (chunk_word lanes c)) ≡ false → bad_bitmap v lanes c ≡ false
unfolding bad_bitmap
good_bitmap_by_class v lanes c class is good = ap (λ (o : Option Class). is_bad_bitmap o (v (chunk_word lanes c))) is ∙ good

-- with the same descriptor, and still 0 in the further ones, a good chunk is good
pub good_chunk_kept : (w v : ℕ → ℕ) (lanes k : ℕ) → bad_chunk w lanes k ≡ false → v (descriptor_word lanes k) ≡ w (descriptor_word lanes k)
    → ((n j : ℕ) → class_in (w (descriptor_word lanes k)) ≡ Some (Chunks n) → j < n - 1 → v (descriptor_word lanes (k + 1 + j)) ≡ 0) → bad_chunk v lanes k ≡ false
good_chunk_kept w v lanes k good same zeros = good_by_class v lanes k (class_in (w (descriptor_word lanes k))) (ap class_in same) (go (class_in (w (descriptor_word lanes k))) refl) where
  go : (class : Option Class) → class_in (w (descriptor_word lanes k)) ≡ class → is_described v (descriptor_word lanes k) k class ≡ true
  go None is = eq-eqb (v (descriptor_word lanes k)) 0 (same ∙ eqb-true (w (descriptor_word lanes k)) 0 (described w lanes k None good is))
  go (Some (Lines lines)) is = refl
  go (Some (Chunks n)) is = first_is_described v lanes k n (chunks_fit w lanes k n good is) (λ j near. zeros n j is near)

-- and a good bitmap with the same bits
pub good_bitmap_kept : (w v : ℕ → ℕ) (lanes k : ℕ) → bad_bitmap w lanes k ≡ false → v (descriptor_word lanes k) ≡ w (descriptor_word lanes k)
    → ((lines : ℕ) → class_in (w (descriptor_word lanes k)) ≡ Some (Lines lines) → v (chunk_word lanes k) ≡ w (chunk_word lanes k)) → bad_bitmap v lanes k ≡ false
unfolding bad_bitmap
good_bitmap_kept w v lanes k good same bits = good_bitmap_by_class v lanes k (class_in (w (descriptor_word lanes k))) (ap class_in same) (go (class_in (w (descriptor_word lanes k))) refl) where
  go : (class : Option Class) → class_in (w (descriptor_word lanes k)) ≡ class → is_bad_bitmap class (v (chunk_word lanes k)) ≡ false
  go None is = refl
  go (Some (Lines lines)) is = ap (is_bad_bitmap (Some (Lines lines))) (bits lines is) ∙ sym (ap (λ (o : Option Class). is_bad_bitmap o (w (chunk_word lanes k))) is) ∙ good
  go (Some (Chunks n)) is = refl

-- a descriptor of so many whole chunks
pub class_of_first : (d n : ℕ) → d ≡ 2 + 256 * n → 1 ≤ n → n ≤ 64 → class_in d ≡ Some (Chunks n)
unfolding class_in
class_of_first d n is some most =
    let low : d % 256 ≡ 2 = omega arith in
    let high : d / 256 ≡ n = omega arith in
    let no_run : (eqb (d % 256) 1 && ltb 0 (blocks_of (d / 256))) ≡ false = ap (λ (k : ℕ). eqb k 1 && ltb 0 (blocks_of (d / 256))) low in
    let whole : (eqb (d % 256) 2 && (leb 1 (d / 256) && leb (d / 256) 64)) ≡ true =
    and_from (eqb (d % 256) 2) (leb 1 (d / 256) && leb (d / 256) 64) (eq-eqb (d % 256) 2 low)
    (and_from (leb 1 (d / 256)) (leb (d / 256) 64) (ap (leb 1) high ∙ le-leb 1 n some) (ap (λ (k : ℕ). leb k 64) high ∙ le-leb n 64 most)) in
    (λ j. cond (no_run j) (Some (Lines (d / 256))) (cond (whole j) (Some (Chunks (d / 256))) None)) ∙ ap (λ (k : ℕ). Some (Chunks k)) high
