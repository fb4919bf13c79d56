-- Where a block stands: it is one of a run that its bitmap has, or it is whole chunks. Each begins a line.
use Rattle.std.proofs.Common.{◌≡◌, ◌⊎◌, inl, inr, ℕ, ◌+◌, ◌*◌, ◌%◌, ◌<◌, ◌≤◌, eqb, List, [], ◌∷◌, Option, Some, None, refl, sym, subst, arith}
use Rattle.std.specs.Int.{bit_at}
use Rattle.std.specs.List.{Contains, filter, range_with_len}
use Rattle.std.proofs.lemmas.Bool.{eq-eqb, eqb-true}
use Rattle.pm_layout.specs.Sizes.{block_place, blocks_of}
use Rattle.pm_layout.specs.declared.class.Class.{Class}
use Rattle.pm_layout.specs.declared.class.Class.TheVariants.{Lines, Chunks}
use Rattle.pm_image.specs.declared.block.Block.{Block}
use Rattle.pm_image.specs.Blocks.{descriptor_word, chunk_word, class_in, run_blocks, blocks_in, chunk_blocks, blocks}
use Rattle.pm_image.proofs.Members.{first_member, in_range, member_kept, member_made, member_of_part, no_member, only_member, range_member}
use Rattle.pm_world.proofs.Includes.{kept_member, kept_passes, made_member, part_member}

-- block i of a run at a chunk
abbrev run_block : ℕ → ℕ → ℕ → ℕ → Block
run_block lanes c lines i = record { place = block_place (8 * chunk_word lanes c) lines i; lines = lines }

-- the block is one of those of a run that the bitmap has
pub record IsRunBlock (w : ℕ → ℕ) (lanes c : ℕ) (block : Block) : Type 0 where
  pub lines : ℕ
  pub index : ℕ
  pub is_run : class_in (w (descriptor_word lanes c)) ≡ Some (Lines lines)
  pub inside : index < blocks_of lines
  pub is_set : bit_at (w (chunk_word lanes c)) index ≡ 1
  pub is_block : run_block lanes c lines index ≡ block

-- the block is whole chunks, of which this is the first
pub record IsChunkBlock (w : ℕ → ℕ) (lanes c : ℕ) (block : Block) : Type 0 where
  pub chunks : ℕ
  pub is_first : class_in (w (descriptor_word lanes c)) ≡ Some (Chunks chunks)
  pub is_block : record { place = 8 * chunk_word lanes c; lines = 64 * chunks } ≡ block

pub record Stands (w : ℕ → ℕ) (lanes zones : ℕ) (block : Block) : Type 0 where
  pub chunk : ℕ
  pub in_zones : chunk < 64 * zones
  pub is : IsRunBlock w lanes chunk block ⊎ IsChunkBlock w lanes chunk block

in_run : (w : ℕ → ℕ) (lanes c lines : ℕ) (block : Block) → class_in (w (descriptor_word lanes c)) ≡ Some (Lines lines)
    → Contains (run_blocks (8 * chunk_word lanes c) (w (chunk_word lanes c)) lines) block → IsRunBlock w lanes c block
unfolding run_blocks
in_run w lanes c lines block run there =
    let bitmap : ℕ = w (chunk_word lanes c) in
    let kept : List ℕ = filter (λ k. eqb (bit_at bitmap k) 1) (range_with_len 0 (blocks_of lines)) in
    let found : (k : ℕ) × (Contains kept k × (run_block lanes c lines k ≡ block)) = member_made (run_block lanes c lines) kept block there in
    let within : (0 ≤ found.0) × (found.0 < 0 + blocks_of lines) = in_range 0 (blocks_of lines) found.0 (member_kept (λ k. eqb (bit_at bitmap k) 1) (range_with_len 0 (blocks_of lines)) found.0 found.1.0) in
    record {
      lines = lines;
      index = found.0;
      is_run = run;
      inside = omega arith;
      is_set = eqb-true (bit_at bitmap found.0) 1 (kept_passes (λ k. eqb (bit_at bitmap k) 1) (range_with_len 0 (blocks_of lines)) found.0 found.1.0);
      is_block = found.1.1;
    }

in_chunk : (w : ℕ → ℕ) (lanes c : ℕ) (block : Block) (class : Option Class) → class_in (w (descriptor_word lanes c)) ≡ class
    → Contains (blocks_in class (8 * chunk_word lanes c) (w (chunk_word lanes c))) block → IsRunBlock w lanes c block ⊎ IsChunkBlock w lanes c block
in_chunk w lanes c block None is there = absurd (no_member block there)
in_chunk w lanes c block (Some (Lines lines)) is there = inl (in_run w lanes c lines block is there)
in_chunk w lanes c block (Some (Chunks chunks)) is there =
    inr (record { chunks = chunks; is_first = is; is_block = only_member (record { place = 8 * chunk_word lanes c; lines = 64 * chunks }) block there })

pub block_stands : (w : ℕ → ℕ) (lanes zones : ℕ) (block : Block) → Contains (blocks w lanes zones) block → Stands w lanes zones block
unfolding blocks chunk_blocks
block_stands w lanes zones block there =
    let found : (c : ℕ) × (Contains (range_with_len 0 (64 * zones)) c × Contains (chunk_blocks w lanes c) block) = member_of_part (chunk_blocks w lanes) (range_with_len 0 (64 * zones)) block there in
    let within : (0 ≤ found.0) × (found.0 < 0 + 64 * zones) = in_range 0 (64 * zones) found.0 found.1.0 in
    record { chunk = found.0; in_zones = omega arith; is = in_chunk w lanes found.0 block (class_in (w (descriptor_word lanes found.0))) refl found.1.1 }

-- and what stands so is a block
chunk_has : (w : ℕ → ℕ) (lanes c : ℕ) (block : Block) → IsRunBlock w lanes c block ⊎ IsChunkBlock w lanes c block → Contains (chunk_blocks w lanes c) block
unfolding chunk_blocks run_blocks
chunk_has w lanes c block (inl run) =
    let bitmap : ℕ = w (chunk_word lanes c) in
    let kept : Contains (filter (λ k. eqb (bit_at bitmap k) 1) (range_with_len 0 (blocks_of run.lines))) run.index =
    kept_member (λ k. eqb (bit_at bitmap k) 1) (range_with_len 0 (blocks_of run.lines)) run.index (range_member (blocks_of run.lines) run.index run.inside) (eq-eqb (bit_at bitmap run.index) 1 run.is_set) in
    let made : Contains (run_blocks (8 * chunk_word lanes c) bitmap run.lines) (run_block lanes c run.lines run.index) =
    made_member (run_block lanes c run.lines) (filter (λ k. eqb (bit_at bitmap k) 1) (range_with_len 0 (blocks_of run.lines))) run.index kept in
    subst (λ (o : Option Class). Contains (blocks_in o (8 * chunk_word lanes c) bitmap) block) (sym run.is_run) (subst (Contains (run_blocks (8 * chunk_word lanes c) bitmap run.lines)) run.is_block made)
chunk_has w lanes c block (inr whole) =
    let first : Block = record { place = 8 * chunk_word lanes c; lines = 64 * whole.chunks } in
    subst (λ (o : Option Class). Contains (blocks_in o (8 * chunk_word lanes c) (w (chunk_word lanes c))) block) (sym whole.is_first) (subst (Contains (first ∷ [])) whole.is_block (first_member first []))

pub standing_is_block : (w : ℕ → ℕ) (lanes zones : ℕ) (block : Block) → Stands w lanes zones block → Contains (blocks w lanes zones) block
unfolding blocks
standing_is_block w lanes zones block stands =
    part_member (chunk_blocks w lanes) (range_with_len 0 (64 * zones)) stands.chunk block (range_member (64 * zones) stands.chunk stands.in_zones) (chunk_has w lanes stands.chunk block stands.is)

-- a block begins a line
line_of_standing : (w : ℕ → ℕ) (lanes c : ℕ) (block : Block) → IsRunBlock w lanes c block ⊎ IsChunkBlock w lanes c block → block.place % 64 ≡ 0
line_of_standing w lanes c block (inl run) =
    let before : ℕ = run.lines * run.index in
    let here : (run_block lanes c run.lines run.index).place % 64 ≡ 0 = omega arith in
    subst (λ (b : Block). b.place % 64 ≡ 0) run.is_block here
line_of_standing w lanes c block (inr whole) =
    let here : 8 * chunk_word lanes c % 64 ≡ 0 = omega arith in
    subst (λ (b : Block). b.place % 64 ≡ 0) whole.is_block here

pub block_begins_line : (w : ℕ → ℕ) (lanes zones : ℕ) (block : Block) → Contains (blocks w lanes zones) block → block.place % 64 ≡ 0
block_begins_line w lanes zones block there =
    let stands : Stands w lanes zones block = block_stands w lanes zones block there in
    line_of_standing w lanes stands.chunk block stands.is
