-- The words of the zones after the root's block was put into the first chunk.
use Rattle.std.proofs.Common.{◌≡◌, ◌≢◌, ℕ, ◌+◌, ◌-◌, ◌*◌, ◌<◌, ◌≤◌, List, length, set, slice_index, inl, inr, sym, ◌∙◌, ap, arith, length-set, get_or-set_same, get_or-set_other}
use Rattle.std.proofs.lemmas.Bool.{cases_eq, cases_lt}
use Rattle.std.proofs.lemmas.Bool.Decides.{nat_tests}
use Rattle.pm_layout.specs.declared.class.Class.{Class}
use Rattle.pm_layout.specs.declared.class.Class.TheVariants.{Lines, Chunks}
use Rattle.pm_layout.specs.Sizes.{class_of, descriptor_of}
use Rattle.pm_pool.specs.Created.{chunk_word, zone_word}

descriptor_there : (root at : ℕ) → root ≢ 0 → at ≡ 0 → zone_word root at ≡ descriptor_of (class_of root)
descriptor_there root at some here = grind (arith, nat_tests)

page_empty : (root at : ℕ) → 0 < at → at < 4096 → zone_word root at ≡ 0
page_empty root at behind within = grind (arith, nat_tests)

chunk_there : (root at : ℕ) → root ≢ 0 → 4096 ≤ at → zone_word root at ≡ chunk_word (class_of root) root (at - 4096)
chunk_there root at some behind = grind (arith, nat_tests)

bitmap_there : (lines root at : ℕ) → at ≡ 0 → chunk_word (Lines lines) root at ≡ 1
bitmap_there lines root at here = grind (arith, nat_tests)

size_in_run : (lines root at : ℕ) → at ≡ 72 → chunk_word (Lines lines) root at ≡ root
size_in_run lines root at here = grind (arith, nat_tests)

run_empty : (lines root at : ℕ) → at ≢ 0 → at ≢ 72 → chunk_word (Lines lines) root at ≡ 0
run_empty lines root at other another = grind (arith, nat_tests)

size_in_chunks : (chunks root at : ℕ) → at ≡ 8 → chunk_word (Chunks chunks) root at ≡ root
size_in_chunks chunks root at here = grind (arith, nat_tests)

chunks_empty : (chunks root at : ℕ) → at ≢ 8 → chunk_word (Chunks chunks) root at ≡ 0
chunks_empty chunks root at other = grind (arith, nat_tests)

pub set_here : (xs : List ℕ) (j i x : ℕ) → i ≡ j → j < length xs → slice_index (set xs j x) i ≡ x
set_here xs j i x same inside = ap (slice_index (set xs j x)) same ∙ get_or-set_same xs j x 0 inside

pub set_elsewhere : (xs : List ℕ) (j i x : ℕ) → i ≢ j → slice_index (set xs j x) i ≡ slice_index xs i
set_elsewhere xs j i x other = get_or-set_other xs j i x 0 other

-- where the words go, by the number v of the zones' first word
pub record Places (old : List ℕ) (v root : ℕ) : Type 0 where
  pub room : v + 600 ≤ length old
  pub zero : (i : ℕ) → v ≤ i → slice_index old i ≡ 0
  pub some : root ≢ 0

-- a root in a run
pub run_put : (old : List ℕ) (v lines root d a b c i : ℕ) → Places old v root → class_of root ≡ Lines lines → d ≡ descriptor_of (class_of root) → a ≡ v → b ≡ v + 512 → c ≡ v + 521 → v ≤ i
    → slice_index (set (set (set old a d) b 1) c root) i ≡ zone_word root (8 * i - 8 * v)
run_put old v lines root d a b c i places is_run d_is a_is b_is c_is behind =
    let first : List ℕ = set old a d in
    let second : List ℕ = set first b 1 in
    let long : length first ≡ length old = length-set old a d in
    let longer : length second ≡ length first = length-set first b 1 in
    let room : v + 600 ≤ length old = places.room in
    let in_chunk : 512 + v ≤ i → zone_word root (8 * i - 8 * v) ≡ chunk_word (Lines lines) root (8 * i - 8 * v - 4096) =
    λ h. chunk_there root (8 * i - 8 * v) places.some (omega arith) ∙ ap (λ (k : Class). chunk_word k root (8 * i - 8 * v - 4096)) is_run in
    elim (cases_eq i c) [
      | inl here ↦ set_here second c i root here (omega arith) ∙ sym (in_chunk (omega arith) ∙ size_in_run lines root (8 * i - 8 * v - 4096) (omega arith))
      | inr not_size ↦ set_elsewhere second c i root not_size ∙ elim (cases_eq i b) [
        | inl here ↦ set_here first b i 1 here (omega arith) ∙ sym (in_chunk (omega arith) ∙ bitmap_there lines root (8 * i - 8 * v - 4096) (omega arith))
        | inr not_bitmap ↦ set_elsewhere first b i 1 not_bitmap ∙ elim (cases_eq i a) [
          | inl here ↦ set_here old a i d here (omega arith) ∙ d_is ∙ sym (descriptor_there root (8 * i - 8 * v) places.some (omega arith))
          | inr not_descriptor ↦ set_elsewhere old a i d not_descriptor ∙ places.zero i behind ∙ sym (elim (cases_lt i (v + 512)) [
            | inl within ↦ page_empty root (8 * i - 8 * v) (omega arith) (omega arith)
            | inr beyond ↦ in_chunk (omega arith) ∙ run_empty lines root (8 * i - 8 * v - 4096) (omega arith) (omega arith)
          ])
        ]
      ]
    ]

-- a root in chunks of its own
pub chunks_put : (old : List ℕ) (v chunks root d a c i : ℕ) → Places old v root → class_of root ≡ Chunks chunks → d ≡ descriptor_of (class_of root) → a ≡ v → c ≡ v + 513 → v ≤ i
    → slice_index (set (set old a d) c root) i ≡ zone_word root (8 * i - 8 * v)
chunks_put old v chunks root d a c i places is_huge d_is a_is c_is behind =
    let first : List ℕ = set old a d in
    let long : length first ≡ length old = length-set old a d in
    let room : v + 600 ≤ length old = places.room in
    let in_chunk : 512 + v ≤ i → zone_word root (8 * i - 8 * v) ≡ chunk_word (Chunks chunks) root (8 * i - 8 * v - 4096) =
    λ h. chunk_there root (8 * i - 8 * v) places.some (omega arith) ∙ ap (λ (k : Class). chunk_word k root (8 * i - 8 * v - 4096)) is_huge in
    elim (cases_eq i c) [
      | inl here ↦ set_here first c i root here (omega arith) ∙ sym (in_chunk (omega arith) ∙ size_in_chunks chunks root (8 * i - 8 * v - 4096) (omega arith))
      | inr not_size ↦ set_elsewhere first c i root not_size ∙ elim (cases_eq i a) [
        | inl here ↦ set_here old a i d here (omega arith) ∙ d_is ∙ sym (descriptor_there root (8 * i - 8 * v) places.some (omega arith))
        | inr not_descriptor ↦ set_elsewhere old a i d not_descriptor ∙ places.zero i behind ∙ sym (elim (cases_lt i (v + 512)) [
          | inl within ↦ page_empty root (8 * i - 8 * v) (omega arith) (omega arith)
          | inr beyond ↦ in_chunk (omega arith) ∙ chunks_empty chunks root (8 * i - 8 * v - 4096) (omega arith)
        ])
      ]
    ]
