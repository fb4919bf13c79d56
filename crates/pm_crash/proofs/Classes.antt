-- What a descriptor says of its chunk, read backwards; and that a good one is told by its low byte.
use Rattle.std.proofs.Common.{◌≡◌, ◌≢◌, ⊎_elim, ℕ, ◌/◌, ◌%◌, ◌^◌, ◌<◌, ◌≤◌, ◌&&◌, Bool, true, false, cond, eqb, ltb, leb, Option, Some, None, refl, sym, ◌∙◌, ap, subst, arith}
use Rattle.std.specs.Int.{bit_at}
use Rattle.std.proofs.lemmas.Bool.{and_from, and_parts, cases_Bool, cases_eq, cases_lt, eq-eqb, eqb-true, le-leb, leb-false, leb-true, ltb-true}
use Rattle.std.proofs.lemmas.Nat.Bits.{bit_at_above}
use Rattle.pm_layout.specs.Sizes.{blocks_of}
use Rattle.pm_layout.specs.declared.class.Class.{Class}
use Rattle.pm_layout.specs.declared.class.Class.TheVariants.{Lines, Chunks}
use Rattle.pm_image.specs.Blocks.{descriptor_word, chunk_word, class_in}
use Rattle.pm_image.specs.HeapFaults.{bad_bitmap, bad_chunk, is_bad_bitmap}
use Rattle.pm_image.proofs.FaultFree.{described}

-- by the two tests of a descriptor
by_tests : (run whole : Bool) (d : ℕ) → Option Class
by_tests run whole d = cond run (Some (Lines (d / 256))) (cond whole (Some (Chunks (d / 256))) None)

is_run_class : ℕ → Bool
is_run_class d = eqb (d % 256) 1 && ltb 0 (blocks_of (d / 256))

is_whole_class : ℕ → Bool
is_whole_class d = eqb (d % 256) 2 && (leb 1 (d / 256) && leb (d / 256) 64)

class_by_tests : (d : ℕ) → class_in d ≡ by_tests (is_run_class d) (is_whole_class d) d
unfolding class_in by_tests is_run_class is_whole_class
class_by_tests d = refl

-- a descriptor of a run, and one of whole chunks
lines_tested : (run whole : Bool) (d lines : ℕ) → by_tests run whole d ≡ Some (Lines lines) → (run ≡ true) × (d / 256 ≡ lines)
unfolding by_tests
lines_tested true whole d lines is = (refl, let same : Some (Lines (d / 256)) ≡ Some (Lines lines) = is in cc)
lines_tested false true d lines is = absurd (let clash : Some (Chunks (d / 256)) ≡ Some (Lines lines) = is in cc)
lines_tested false false d lines is = absurd (let clash : None ≡ Some (Lines lines) = is in cc)

pub lines_of_class : (d lines : ℕ) → class_in d ≡ Some (Lines lines) → (d % 256 ≡ 1) × (d / 256 ≡ lines)
unfolding is_run_class
lines_of_class d lines is =
    let tested = lines_tested (is_run_class d) (is_whole_class d) d lines (sym (class_by_tests d) ∙ is) in
    (eqb-true (d % 256) 1 (and_parts (eqb (d % 256) 1) (ltb 0 (blocks_of (d / 256))) tested.0).0, tested.1)

chunks_tested : (run whole : Bool) (d chunks : ℕ) → by_tests run whole d ≡ Some (Chunks chunks) → (whole ≡ true) × (d / 256 ≡ chunks)
unfolding by_tests
chunks_tested true whole d chunks is = absurd (let clash : Some (Lines (d / 256)) ≡ Some (Chunks chunks) = is in cc)
chunks_tested false true d chunks is = (refl, let same : Some (Chunks (d / 256)) ≡ Some (Chunks chunks) = is in cc)
chunks_tested false false d chunks is = absurd (let clash : None ≡ Some (Chunks chunks) = is in cc)

pub chunks_of_class : (d chunks : ℕ) → class_in d ≡ Some (Chunks chunks) → (d % 256 ≡ 2) × (d / 256 ≡ chunks)
unfolding is_whole_class
chunks_of_class d chunks is =
    let tested = chunks_tested (is_run_class d) (is_whole_class d) d chunks (sym (class_by_tests d) ∙ is) in
    (eqb-true (d % 256) 2 (and_parts (eqb (d % 256) 2) (leb 1 (d / 256) && leb (d / 256) 64) tested.0).0, tested.1)

-- a good descriptor that is not 0 has a class
free_is_zero : (w : ℕ → ℕ) (lanes c : ℕ) → bad_chunk w lanes c ≡ false → class_in (w (descriptor_word lanes c)) ≡ None → w (descriptor_word lanes c) ≡ 0
free_is_zero w lanes c good none = eqb-true (w (descriptor_word lanes c)) 0 (described w lanes c None good none)

-- so the low byte of a good descriptor tells whether it is a run's, or that of whole chunks
pub run_by_byte : (w : ℕ → ℕ) (lanes c : ℕ) → bad_chunk w lanes c ≡ false → w (descriptor_word lanes c) % 256 ≡ 1 → class_in (w (descriptor_word lanes c)) ≡ Some (Lines (w (descriptor_word lanes c) / 256))
unfolding by_tests
run_by_byte w lanes c good low =
    let d : ℕ = w (descriptor_word lanes c) in
    ⊎_elim
    (λ (run : is_run_class d ≡ true). class_by_tests d ∙ ap (λ (b : Bool). by_tests b (is_whole_class d) d) run)
    (λ (no_run : is_run_class d ≡ false). ⊎_elim
    (λ (whole : is_whole_class d ≡ true). let two = (chunks_of_class d (d / 256) (class_by_tests d ∙ (λ j. by_tests (no_run j) (whole j) d))).0 in absurd (omega arith))
    (λ (no_whole : is_whole_class d ≡ false). let free = free_is_zero w lanes c good (class_by_tests d ∙ (λ j. by_tests (no_run j) (no_whole j) d)) in absurd (omega arith))
    (cases_Bool (is_whole_class d)))
    (cases_Bool (is_run_class d))

pub whole_by_byte : (w : ℕ → ℕ) (lanes c : ℕ) → bad_chunk w lanes c ≡ false → w (descriptor_word lanes c) % 256 ≡ 2 → class_in (w (descriptor_word lanes c)) ≡ Some (Chunks (w (descriptor_word lanes c) / 256))
unfolding by_tests
whole_by_byte w lanes c good low =
    let d : ℕ = w (descriptor_word lanes c) in
    ⊎_elim
    (λ (run : is_run_class d ≡ true). let one = (lines_of_class d (d / 256) (class_by_tests d ∙ ap (λ (b : Bool). by_tests b (is_whole_class d) d) run)).0 in absurd (omega arith))
    (λ (no_run : is_run_class d ≡ false). ⊎_elim
    (λ (whole : is_whole_class d ≡ true). class_by_tests d ∙ (λ j. by_tests (no_run j) (whole j) d))
    (λ (no_whole : is_whole_class d ≡ false). let free = free_is_zero w lanes c good (class_by_tests d ∙ (λ j. by_tests (no_run j) (no_whole j) d)) in absurd (omega arith))
    (cases_Bool (is_whole_class d)))
    (cases_Bool (is_run_class d))

-- a set bit of a good bitmap is that of one of the run's blocks
pub bit_in_run : (w : ℕ → ℕ) (lanes c lines k : ℕ) → bad_bitmap w lanes c ≡ false → class_in (w (descriptor_word lanes c)) ≡ Some (Lines lines) → bit_at (w (chunk_word lanes c)) k ≡ 1 → k < blocks_of lines
unfolding bad_bitmap
bit_in_run w lanes c lines k good run set =
    let bitmap : ℕ = w (chunk_word lanes c) in
    let tested : leb (2 ^ blocks_of lines) bitmap ≡ false = sym (ap (λ (o : Option Class). is_bad_bitmap o bitmap) run) ∙ good in
    let small : bitmap < 2 ^ blocks_of lines = leb-false (2 ^ blocks_of lines) bitmap tested in
    ⊎_elim
    (λ (inside : k < blocks_of lines). inside)
    (λ (past : blocks_of lines ≤ k). let none : bit_at bitmap k ≡ 0 = bit_at_above bitmap (blocks_of lines) k small past in absurd (omega arith))
    (cases_lt k (blocks_of lines))

-- a run has a class, so its blocks have lines
pub run_has_lines : (lines k : ℕ) → k < blocks_of lines → 1 ≤ lines
run_has_lines lines k inside = ⊎_elim
    (λ (none : lines ≡ 0). let no_blocks : k < blocks_of 0 = subst (λ (n : ℕ). k < blocks_of n) none inside in absurd (omega arith))
    (λ (some : lines ≢ 0). grind arith)
    (cases_eq lines 0)

-- and blocks
pub class_has_blocks : (d lines : ℕ) → class_in d ≡ Some (Lines lines) → 0 < blocks_of lines
unfolding is_run_class
class_has_blocks d lines is =
    let tested = lines_tested (is_run_class d) (is_whole_class d) d lines (sym (class_by_tests d) ∙ is) in
    subst (λ (n : ℕ). 0 < blocks_of n) tested.1 (ltb-true 0 (blocks_of (d / 256)) (and_parts (eqb (d % 256) 1) (ltb 0 (blocks_of (d / 256))) tested.0).1)

-- some chunks are 1 to 64
pub class_has_chunks : (d chunks : ℕ) → class_in d ≡ Some (Chunks chunks) → (1 ≤ chunks) × (chunks ≤ 64)
unfolding is_whole_class
class_has_chunks d chunks is =
    let tested = chunks_tested (is_run_class d) (is_whole_class d) d chunks (sym (class_by_tests d) ∙ is) in
    let range = and_parts (leb 1 (d / 256)) (leb (d / 256) 64) (and_parts (eqb (d % 256) 2) (leb 1 (d / 256) && leb (d / 256) 64) tested.0).1 in
    (subst (λ (n : ℕ). 1 ≤ n) tested.1 (leb-true 1 (d / 256) range.0), subst (λ (n : ℕ). n ≤ 64) tested.1 (leb-true (d / 256) 64 range.1))

-- and a descriptor says so of them
pub class_of_chunks : (d chunks : ℕ) → d % 256 ≡ 2 → d / 256 ≡ chunks → 1 ≤ chunks → chunks ≤ 64 → class_in d ≡ Some (Chunks chunks)
unfolding class_in
class_of_chunks d chunks low high some most =
    let no_run : (eqb (d % 256) 1 && ltb 0 (blocks_of (d / 256))) ≡ false = ap (λ (n : ℕ). eqb n 1 && ltb 0 (blocks_of (d / 256))) low in
    let whole : (eqb (d % 256) 2 && (leb 1 (d / 256) && leb (d / 256) 64)) ≡ true =
    and_from (eqb (d % 256) 2) (leb 1 (d / 256) && leb (d / 256) 64) (eq-eqb (d % 256) 2 low)
    (and_from (leb 1 (d / 256)) (leb (d / 256) 64) (le-leb 1 (d / 256) (omega arith)) (le-leb (d / 256) 64 (omega arith))) in
    (λ j. cond (no_run j) (Some (Lines (d / 256))) (cond (whole j) (Some (Chunks (d / 256))) None)) ∙ ap (λ (n : ℕ). Some (Chunks n)) high
