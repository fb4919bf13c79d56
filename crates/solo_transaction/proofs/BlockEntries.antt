-- The redo entry of an object's block is that of the change of the heap which frees or allocates the block: of the run's bitmap, or of the first chunk's descriptor.
use Rattle.std.proofs.Common.{◌≡◌, ℕ, ◌+◌, ◌-◌, ◌*◌, ◌/◌, ◌^◌, ◌<◌, ◌≤◌, ltb, List, refl, sym, ap, ◌∙◌, arith}
use Rattle.std.proofs.lemmas.Bool.{cond-false, cond-true, le-ltb, lt-ltb}
use Rattle.std.proofs.Math.Nat.{mul-div_cancel_left}
use Rattle.std.proofs.Math.Pow.{pow-lt}
use Rattle.pm_image.specs.declared.block.Block.{Block}
use Rattle.pm_image.specs.Blocks.{chunk_word, descriptor_word}
use Rattle.pm_image.proofs.Rooms.{run_fits}
use Rattle.pm_layout.specs.Sizes.{blocks_of, class_of, descriptor_of}
use Rattle.pm_layout.specs.declared.class.Class.{Class}
use Rattle.pm_layout.specs.declared.class.Class.TheVariants.{Chunks, Lines}
use Rattle.pm_objects.specs.Pool.{block_lines}
use Rattle.pm_record.specs.declared.redo.Op.{Op}
use Rattle.pm_record.specs.declared.redo.Op.TheVariants.{And, Or, Set}
use Rattle.pm_record.specs.declared.redo.Redo.{Redo}
use Rattle.solo_redo.specs.Entering.{final_of}
use Rattle.solo_view.specs.Blocks.{descriptor_word as lane_descriptor}
use Rattle.solo_world.specs.Entries.{final_by}
use Rattle.solo_crash.specs.HeapChanges.{entry_of}
use Rattle.solo_crash.specs.HeapChanges.HeapChange.{AllocatesChunks, AllocatesInRun, FreesChunks, FreesInRun}
use Rattle.solo_crash.specs.NewObjects.{block_of_chunks, block_of_run}
use Rattle.solo_crash.proofs.BitMore.{index_small}
use Rattle.solo_crash.proofs.Classes.{run_has_lines}
use Rattle.solo_crash.proofs.FoundBlocks.{page_of_chunk}
use Rattle.solo_made.specs.declared.objects.Freed.{Freed}
use Rattle.solo_made.specs.declared.objects.Made.{Made}
use Rattle.solo_made.specs.Entries.{block_freed, block_made, entry_freeing, entry_making, entry_of_class, index_of, line_of, page_of}

-- an entry of the word with this number
abbrev pub entry_at_word : ℕ → Op → ℕ → Redo
entry_at_word i op value = record { place = 8 * i; op = op; value = value }

-- what it makes final
final_at : (i : ℕ) (op : Op) (value : ℕ) → final_of (entry_at_word i op value) ≡ final_by op i value
final_at i op value = let word : 8 * i / 8 ≡ i = omega arith in ap (λ k. final_by op k value) word

-- ---- where a block begins

-- that of a run
record BeginsInRun (lanes c lines index off : ℕ) : Type 0 where
  page : 4096 * page_of off ≡ 8 * chunk_word lanes c
  index_is : index_of off lines ≡ index
  few : lines < 64

begins_in_run : (lanes c lines index off : ℕ) → index < blocks_of lines → (block_of_run lanes c lines index).place ≡ off - 64 → BeginsInRun lanes c lines index off
begins_in_run lanes c lines index off low begins =
    let before : ℕ = lines * index in
    let fits : 1 + before + lines ≤ 64 = run_fits lines index low in
    let some : 1 ≤ lines = run_has_lines lines index low in
    let place : 8 * chunk_word lanes c + 64 * (1 + before) ≡ off - 64 = begins in
    let line : line_of off - 1 ≡ lines * index = omega (arith, place, fits) in
    record {
      page = omega (arith, place, fits, some);
      index_is = ap (λ k. k / lines) line ∙ mul-div_cancel_left index some;
      few = omega (arith, fits);
    }

-- whole chunks
descriptor_here : (lanes c off : ℕ) → 8 * chunk_word lanes c ≡ off - 64 → lane_descriptor lanes (page_of off) ≡ descriptor_word lanes c
descriptor_here lanes c off begins = (page_of_chunk lanes (page_of off) c (omega (arith, begins))).descriptor

-- ---- entries that free

pub freeing_in_run : (lanes c index : ℕ) (f : Freed) → index < blocks_of f.lines → block_of_run lanes c f.lines index ≡ block_freed f → entry_freeing lanes f ≡ entry_at_word (chunk_word lanes c) And (2 ^ 64 - 1 - 2 ^ index)
freeing_in_run lanes c index f low is =
    let b = begins_in_run lanes c f.lines index f.off low (ap (λ (x : Block). x.place) is) in
    cond-true (ltb f.lines 64) (record { place = 4096 * page_of f.off; op = And; value = 2 ^ 64 - 1 - 2 ^ index_of f.off f.lines }) (record { place = 8 * lane_descriptor lanes (page_of f.off); op = Set; value = 0 }) (lt-ltb f.lines 64 b.few)
    ∙ (λ j. let e : Redo = record { place = b.page j; op = And; value = 2 ^ 64 - 1 - 2 ^ b.index_is j } in e)

pub freeing_chunks : (lanes c chunks : ℕ) (f : Freed) → 1 ≤ chunks → block_of_chunks lanes c chunks ≡ block_freed f → entry_freeing lanes f ≡ entry_at_word (descriptor_word lanes c) Set 0
freeing_chunks lanes c chunks f some is =
    let lines : 64 * chunks ≡ f.lines = ap (λ (x : Block). x.lines) is in
    let word = descriptor_here lanes c f.off (ap (λ (x : Block). x.place) is) in
    cond-false (ltb f.lines 64) (record { place = 4096 * page_of f.off; op = And; value = 2 ^ 64 - 1 - 2 ^ index_of f.off f.lines }) (record { place = 8 * lane_descriptor lanes (page_of f.off); op = Set; value = 0 })
    (le-ltb f.lines 64 (omega (arith, lines, some)))
    ∙ ap (λ i. entry_at_word i Set 0) word

-- what they make final is what the change does, and their values are words
pub frees_in_run : (lanes c lines index : ℕ) → final_of (entry_at_word (chunk_word lanes c) And (2 ^ 64 - 1 - 2 ^ index)) ≡ entry_of lanes (FreesInRun c lines index)
frees_in_run lanes c lines index = final_at (chunk_word lanes c) And (2 ^ 64 - 1 - 2 ^ index)

pub frees_chunks : (lanes c chunks : ℕ) → final_of (entry_at_word (descriptor_word lanes c) Set 0) ≡ entry_of lanes (FreesChunks c chunks)
frees_chunks lanes c chunks = final_at (descriptor_word lanes c) Set 0

-- ---- entries that allocate

-- the class of an object whose block is one of a run, or whole chunks
class_in_run : (class : Class) (lines : ℕ) → block_lines class ≡ lines → 1 ≤ lines → lines < 64 → class ≡ Lines lines
class_in_run (Lines n) lines same some few = ap Lines same
class_in_run (Chunks n) lines same some few = let long : 64 * n ≡ lines = same in absurd (omega (arith, long, some, few))

class_of_chunks : (class : Class) (chunks : ℕ) → ((n : ℕ) → class ≡ Lines n → n < 64) → block_lines class ≡ 64 * chunks → 1 ≤ chunks → class ≡ Chunks chunks
class_of_chunks (Lines n) chunks few same some = let low = few n refl in let long : n ≡ 64 * chunks = same in absurd (omega (arith, long, some, low))
class_of_chunks (Chunks n) chunks few same some = let long : 64 * n ≡ 64 * chunks = same in let e : n ≡ chunks = omega (arith, long) in ap Chunks e

pub making_in_run : (lanes c lines index : ℕ) (m : Made) → index < blocks_of lines → block_made m ≡ block_of_run lanes c lines index → entry_making lanes m ≡ entry_at_word (chunk_word lanes c) Or (2 ^ index)
making_in_run lanes c lines index m low is =
    let b = begins_in_run lanes c lines index m.off low (sym (ap (λ (x : Block). x.place) is)) in
    let some : 1 ≤ lines = run_has_lines lines index low in
    let class : class_of m.size ≡ Lines lines = class_in_run (class_of m.size) lines (ap (λ (x : Block). x.lines) is) some b.few in
    ap (entry_of_class lanes m.off) class ∙ (λ j. let e : Redo = record { place = b.page j; op = Or; value = 2 ^ b.index_is j } in e)

pub making_chunks : (lanes c chunks : ℕ) (m : Made) → ((n : ℕ) → class_of m.size ≡ Lines n → n < 64) → 1 ≤ chunks → block_made m ≡ block_of_chunks lanes c chunks
    → entry_making lanes m ≡ entry_at_word (descriptor_word lanes c) Set (descriptor_of (Chunks chunks))
making_chunks lanes c chunks m few some is =
    let word = descriptor_here lanes c m.off (sym (ap (λ (x : Block). x.place) is)) in
    let class : class_of m.size ≡ Chunks chunks = class_of_chunks (class_of m.size) chunks few (ap (λ (x : Block). x.lines) is) some in
    ap (entry_of_class lanes m.off) class ∙ ap (λ i. entry_at_word i Set (descriptor_of (Chunks chunks))) word

pub makes_in_run : (lanes c lines index kind : ℕ) (bytes : List ℕ) → final_of (entry_at_word (chunk_word lanes c) Or (2 ^ index)) ≡ entry_of lanes (AllocatesInRun c lines index kind bytes)
makes_in_run lanes c lines index kind bytes = final_at (chunk_word lanes c) Or (2 ^ index)

pub makes_chunks : (lanes c chunks kind : ℕ) (bytes : List ℕ) → final_of (entry_at_word (descriptor_word lanes c) Set (descriptor_of (Chunks chunks))) ≡ entry_of lanes (AllocatesChunks c chunks kind bytes)
makes_chunks lanes c chunks kind bytes = final_at (descriptor_word lanes c) Set (descriptor_of (Chunks chunks))

-- the bit of a block in its run is a word's
pub bit_fits : (lines index : ℕ) → index < blocks_of lines → 2 ^ index < 2 ^ 64
bit_fits lines index low = pow-lt {i = index} {j = 64} (index_small lines index low)
