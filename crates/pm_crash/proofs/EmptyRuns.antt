-- A free chunk and a run without blocks hold the same: nothing. So words that differ in such chunks alone have the same heap.
use Rattle.std.proofs.Common.{◌≡◌, ◌⊎◌, inl, inr, ℕ, ◌+◌, ◌-◌, ◌*◌, ◌/◌, ◌%◌, ◌^◌, ◌<◌, ◌≤◌, ◌&&◌, Bool, true, false, not, cond, eqb, leb, ltb, List, [], ◌∷◌, map, Option, Some, None, refl, sym, ◌∙◌, ap, subst, arith, eq-eqb, pow_pos}
use Rattle.std.specs.Int.{bit_at}
use Rattle.std.specs.List.{Contains, filter, list_all, range_with_len}
use Rattle.std.proofs.lemmas.Bool.{and_from, lt-leb, lt-ltb}
use Rattle.std.proofs.lemmas.Nat.Bits.{bit_at-zero}
use Rattle.pm_layout.specs.Sizes.{block_place, blocks_of}
use Rattle.pm_layout.specs.declared.class.Class.{Class}
use Rattle.pm_layout.specs.declared.class.Class.TheVariants.{Lines, Chunks}
use Rattle.pm_image.specs.declared.block.Block.{Block}
use Rattle.pm_image.specs.Blocks.{blocks, blocks_in, chunk_blocks, chunk_word, class_in, descriptor_word, run_blocks}
use Rattle.pm_image.specs.HeapFaults.{bad_bitmap, bad_chunk, heap_fault, is_bad_bitmap, is_described, zeros_behind}
use Rattle.pm_image.specs.Reads.{AgreeOn, ReadsBlock, SameHeap}
use Rattle.pm_image.proofs.FaultFree.{chunk_good, described}
use Rattle.pm_image.proofs.HeapWords.{both}
use Rattle.pm_image.proofs.Members.{first_member, in_range, later_member, range_member}
use Rattle.pm_image.proofs.Ordered.{no_class}
use Rattle.pm_image.proofs.SameParts.{heap_of_parts}

-- the chunk has no blocks, and passes the tests
pub record HasNothing (w : ℕ → ℕ) (lanes c : ℕ) : Type 0 where
  pub no_blocks : chunk_blocks w lanes c ≡ []
  pub good : bad_chunk w lanes c ≡ false
  pub good_bitmap : bad_bitmap w lanes c ≡ false

-- so does a free one
pub nothing_free : (w : ℕ → ℕ) (lanes c : ℕ) → w (descriptor_word lanes c) ≡ 0 → HasNothing w lanes c
unfolding chunk_blocks bad_chunk bad_bitmap
nothing_free w lanes c free =
    let none : class_in (w (descriptor_word lanes c)) ≡ None = ap class_in free ∙ no_class in
    record {
      no_blocks = ap (λ (o : Option Class). blocks_in o (8 * chunk_word lanes c) (w (chunk_word lanes c))) none;
      good = ap (λ (o : Option Class). not (is_described w (descriptor_word lanes c) c o)) none ∙ ap (λ (d : ℕ). not (eqb d 0)) free;
      good_bitmap = ap (λ (o : Option Class). is_bad_bitmap o (w (chunk_word lanes c))) none;
    }

-- and a run without blocks
no_bits : (xs : List ℕ) → filter (λ i. eqb (bit_at 0 i) 1) xs ≡ []
no_bits [] = refl
no_bits (x ∷ xs) = ap (λ (k : ℕ). cond (eqb k 1) (x ∷ filter (λ i. eqb (bit_at 0 i) 1) xs) (filter (λ i. eqb (bit_at 0 i) 1) xs)) (bit_at-zero x) ∙ no_bits xs

pub nothing_in_run : (w : ℕ → ℕ) (lanes c lines : ℕ) → class_in (w (descriptor_word lanes c)) ≡ Some (Lines lines) → w (chunk_word lanes c) ≡ 0 → HasNothing w lanes c
unfolding chunk_blocks run_blocks bad_chunk bad_bitmap
nothing_in_run w lanes c lines run empty =
    let place : ℕ = 8 * chunk_word lanes c in
    record {
      no_blocks = ap (λ (o : Option Class). blocks_in o place (w (chunk_word lanes c))) run ∙ ap (λ (b : ℕ). run_blocks place b lines) empty
          ∙ ap (map (λ i. record { place = block_place place lines i; lines = lines })) (no_bits (range_with_len 0 (blocks_of lines)));
      good = ap (λ (o : Option Class). not (is_described w (descriptor_word lanes c) c o)) run;
      good_bitmap = ap (λ (o : Option Class). is_bad_bitmap o (w (chunk_word lanes c))) run ∙ ap (leb (2 ^ blocks_of lines)) empty ∙ lt-leb (2 ^ blocks_of lines) 0 (pow_pos (blocks_of lines));
    }

pub class_of_run : (d lines : ℕ) → d ≡ 1 + 256 * lines → 0 < blocks_of lines → class_in d ≡ Some (Lines lines)
unfolding class_in
class_of_run d lines is some =
    let low : d % 256 ≡ 1 = omega arith in
    let high : d / 256 ≡ lines = omega arith in
    let test : (eqb (d % 256) 1 && ltb 0 (blocks_of (d / 256))) ≡ true =
    and_from (eqb (d % 256) 1) (ltb 0 (blocks_of (d / 256))) (eq-eqb (d % 256) 1 low) (lt-ltb 0 (blocks_of (d / 256)) (subst (λ (n : ℕ). 0 < blocks_of n) (sym high) some)) in
    ap (λ (t : Bool). cond t (Some (Lines (d / 256))) (cond (eqb (d % 256) 2 && (leb 1 (d / 256) && leb (d / 256) 64)) (Some (Chunks (d / 256))) None)) test
    ∙ ap (λ (n : ℕ). Some (Lines n)) high

-- a list of which each member passes
pub all_pass : (p : ℕ → Bool) (xs : List ℕ) → ((x : ℕ) → Contains xs x → p x ≡ true) → list_all p xs ≡ true
all_pass p [] h = refl
all_pass p (x ∷ xs) h = and_from (p x) (list_all p xs) (h x (first_member x xs)) (all_pass p xs (λ y there. h y (later_member x xs y there)))

-- both tell the same of the chunk, or nothing stands there
abbrev pub IsAlike : (ℕ → ℕ) → (ℕ → ℕ) → ℕ → ℕ → Type 0
IsAlike w v lanes c =
    ((v (descriptor_word lanes c) ≡ w (descriptor_word lanes c)) × ((lines : ℕ) → class_in (w (descriptor_word lanes c)) ≡ Some (Lines lines) → v (chunk_word lanes c) ≡ w (chunk_word lanes c)))
    ⊎ (HasNothing w lanes c × HasNothing v lanes c)

-- the descriptors of the further chunks of one block are 0
abbrev pub HasZerosBehind : (ℕ → ℕ) → (ℕ → ℕ) → ℕ → ℕ → Type 0
HasZerosBehind w v lanes zones = (c n j : ℕ) → c < 64 * zones → class_in (w (descriptor_word lanes c)) ≡ Some (Chunks n) → j < n - 1 → v (descriptor_word lanes c + 1 + j) ≡ 0

module _ (w v : ℕ → ℕ) (lanes zones : ℕ) (none : heap_fault w lanes zones ≡ None) (alike : (c : ℕ) → c < 64 * zones → IsAlike w v lanes c) (behind : HasZerosBehind w v lanes zones)
    (contents : (block : Block) → Contains (blocks w lanes zones) block → AgreeOn (ReadsBlock w block) w v) (root : v 64 ≡ w 64) where
  blocks_by_class : (c : ℕ) (class : Option Class) → class_in (w (descriptor_word lanes c)) ≡ class
      → ((lines : ℕ) → class_in (w (descriptor_word lanes c)) ≡ Some (Lines lines) → v (chunk_word lanes c) ≡ w (chunk_word lanes c))
      → blocks_in class (8 * chunk_word lanes c) (v (chunk_word lanes c)) ≡ blocks_in class (8 * chunk_word lanes c) (w (chunk_word lanes c))
  blocks_by_class c None is same = refl
  blocks_by_class c (Some (Lines lines)) is same = ap (λ (b : ℕ). blocks_in (Some (Lines lines)) (8 * chunk_word lanes c) b) (same lines is)
  blocks_by_class c (Some (Chunks n)) is same = refl

  bitmap_by_class : (c : ℕ) (class : Option Class) → class_in (w (descriptor_word lanes c)) ≡ class
      → ((lines : ℕ) → class_in (w (descriptor_word lanes c)) ≡ Some (Lines lines) → v (chunk_word lanes c) ≡ w (chunk_word lanes c))
      → is_bad_bitmap class (v (chunk_word lanes c)) ≡ is_bad_bitmap class (w (chunk_word lanes c))
  bitmap_by_class c None is same = refl
  bitmap_by_class c (Some (Lines lines)) is same = ap (λ (b : ℕ). is_bad_bitmap (Some (Lines lines)) b) (same lines is)
  bitmap_by_class c (Some (Chunks n)) is same = refl

  blocks_of_chunk : (c : ℕ) → c < 64 * zones → chunk_blocks v lanes c ≡ chunk_blocks w lanes c
  unfolding chunk_blocks
  blocks_of_chunk c inside = elim (alike c inside) [
    | inl same ↦ ap (λ (d : ℕ). blocks_in (class_in d) (8 * chunk_word lanes c) (v (chunk_word lanes c))) same.0
        ∙ blocks_by_class c (class_in (w (descriptor_word lanes c))) refl same.1
    | inr nothing ↦ nothing.1.no_blocks ∙ sym nothing.0.no_blocks
  ]

  test_of_bitmap : (c : ℕ) → c < 64 * zones → bad_bitmap v lanes c ≡ bad_bitmap w lanes c
  unfolding bad_bitmap
  test_of_bitmap c inside = elim (alike c inside) [
    | inl same ↦ ap (λ (d : ℕ). is_bad_bitmap (class_in d) (v (chunk_word lanes c))) same.0
        ∙ bitmap_by_class c (class_in (w (descriptor_word lanes c))) refl same.1
    | inr nothing ↦ nothing.1.good_bitmap ∙ sym nothing.0.good_bitmap
  ]

  behind_same : (c n : ℕ) → c < 64 * zones → class_in (w (descriptor_word lanes c)) ≡ Some (Chunks n) → zeros_behind v (descriptor_word lanes c) n ≡ zeros_behind w (descriptor_word lanes c) n
  unfolding zeros_behind
  behind_same c n inside whole =
      let at : ℕ = descriptor_word lanes c in
      let good : bad_chunk w lanes c ≡ false = chunk_good w lanes zones c none (range_member (64 * zones) c inside) in
      all_pass (λ j. eqb (v (at + 1 + j)) 0) (range_with_len 0 (n - 1)) (λ j there.
      let within : (0 ≤ j) × (j < 0 + (n - 1)) = in_range 0 (n - 1) j there in
      eq-eqb (v (at + 1 + j)) 0 (behind c n j inside whole (omega arith)))
      ∙ sym (both (leb (c % 64 + n) 64) (zeros_behind w at n) (described w lanes c (Some (Chunks n)) good whole)).1

  described_same : (c : ℕ) (class : Option Class) → c < 64 * zones → v (descriptor_word lanes c) ≡ w (descriptor_word lanes c) → class_in (w (descriptor_word lanes c)) ≡ class
      → is_described v (descriptor_word lanes c) c class ≡ is_described w (descriptor_word lanes c) c class
  described_same c None inside same is = ap (λ (d : ℕ). eqb d 0) same
  described_same c (Some (Lines lines)) inside same is = refl
  described_same c (Some (Chunks n)) inside same is = ap (λ (t : Bool). cond (leb (c % 64 + n) 64) t false) (behind_same c n inside is)

  test_of_chunk : (c : ℕ) → c < 64 * zones → bad_chunk v lanes c ≡ bad_chunk w lanes c
  unfolding bad_chunk
  test_of_chunk c inside = elim (alike c inside) [
    | inl same ↦ ap (λ (d : ℕ). not (is_described v (descriptor_word lanes c) c (class_in d))) same.0
        ∙ ap not (described_same c (class_in (w (descriptor_word lanes c))) inside same.0 refl)
    | inr nothing ↦ nothing.1.good ∙ sym nothing.0.good
  ]

  -- BOTH HAVE THE SAME HEAP
  pub same_heap : SameHeap w v lanes zones
  same_heap = heap_of_parts w v lanes zones (record {
    blocks_of_chunk = blocks_of_chunk;
    test_of_chunk = test_of_chunk;
    test_of_bitmap = test_of_bitmap;
    words_of_block = contents;
    root = root;
  })
