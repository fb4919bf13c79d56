-- Heaps of which all chunks but one tell the same have the same blocks there; and what that one chunk tells where it has a block more.
use Rattle.std.proofs.Common.{◌≡◌, ◌≢◌, ◌⊎◌, ⊎_elim, inl, inr, ℕ, ◌+◌, ◌*◌, ◌/◌, ◌<◌, ◌≤◌, Some, None, refl, sym, ◌∙◌, ap, subst, arith}
use Rattle.std.specs.Int.{bit_at}
use Rattle.std.specs.List.{Contains}
use Rattle.std.proofs.lemmas.Bool.{cases_eq}
use Rattle.std.proofs.lemmas.Nat.Bits.{bit_at-zero}
use Rattle.std.proofs.Math.Nat.{mul-div_cancel_left}
use Rattle.pm_layout.specs.Sizes.{blocks_of}
use Rattle.pm_layout.specs.declared.class.Class.TheVariants.{Lines, Chunks}
use Rattle.pm_image.specs.declared.block.Block.{Block}
use Rattle.pm_image.specs.Blocks.{blocks, chunk_word, class_in, descriptor_word}
use Rattle.pm_image.proofs.Rooms.{run_fits}
use Rattle.solo_crash.specs.NewObjects.{block_of_chunks, block_of_run}
use Rattle.solo_crash.proofs.BitMore.{HasBitMore}
use Rattle.solo_crash.proofs.Classes.{run_has_lines}
use Rattle.solo_crash.proofs.EmptyRuns.{some_chunks}
use Rattle.solo_crash.proofs.Standing.{block_stands, standing_is_block, IsChunkBlock, IsRunBlock, Stands}

-- the block is one of the chunk's
abbrev pub StandsIn : (ℕ → ℕ) → ℕ → ℕ → Block → Type 0
StandsIn w lanes c block = IsRunBlock w lanes c block ⊎ IsChunkBlock w lanes c block

-- a chunk of which both tell the same has the same blocks
stays_in : (w v : ℕ → ℕ) (lanes k : ℕ) (b : Block) → v (descriptor_word lanes k) ≡ w (descriptor_word lanes k)
    → ((lines : ℕ) → class_in (w (descriptor_word lanes k)) ≡ Some (Lines lines) → v (chunk_word lanes k) ≡ w (chunk_word lanes k)) → StandsIn w lanes k b → StandsIn v lanes k b
stays_in w v lanes k b same bits (inl run) = inl (record {
  lines = run.lines;
  index = run.index;
  is_run = ap class_in same ∙ run.is_run;
  inside = run.inside;
  is_set = ap (λ (n : ℕ). bit_at n run.index) (bits run.lines run.is_run) ∙ run.is_set;
  is_block = run.is_block;
})
stays_in w v lanes k b same bits (inr whole) = inr (record { chunks = whole.chunks; is_first = ap class_in same ∙ whole.is_first; is_block = whole.is_block })

-- each block has lines
pub lines_in : (w : ℕ → ℕ) (lanes c : ℕ) (b : Block) → StandsIn w lanes c b → 1 ≤ b.lines
lines_in w lanes c b (inl run) = subst (λ (x : Block). 1 ≤ x.lines) run.is_block (run_has_lines run.lines run.index run.inside)
lines_in w lanes c b (inr whole) =
    let some : 0 < whole.chunks = some_chunks (w (descriptor_word lanes c)) whole.chunks whole.is_first in
    subst (λ (x : Block). 1 ≤ x.lines) whole.is_block (omega arith)

-- v tells the same of all chunks but this one, which has the block more
pub record ChunkHasMore (w v : ℕ → ℕ) (lanes zones c : ℕ) (block : Block) : Type 0 where
  pub in_zones : c < 64 * zones
  pub descriptors : (k : ℕ) → k < 64 * zones → k ≢ c → v (descriptor_word lanes k) ≡ w (descriptor_word lanes k)
  pub bitmaps : (k lines : ℕ) → k < 64 * zones → k ≢ c → class_in (w (descriptor_word lanes k)) ≡ Some (Lines lines) → v (chunk_word lanes k) ≡ w (chunk_word lanes k)
  pub has : StandsIn v lanes c block
  pub keeps : (b : Block) → StandsIn w lanes c b → StandsIn v lanes c b
  pub only : (b : Block) → StandsIn v lanes c b → (b ≡ block) ⊎ StandsIn w lanes c b

module _ (w v : ℕ → ℕ) (lanes zones c : ℕ) (block : Block) (more : ChunkHasMore w v lanes zones c block) where
  pub more_there : Contains (blocks v lanes zones) block
  more_there = standing_is_block v lanes zones block (record { chunk = c; in_zones = more.in_zones; is = more.has })

  pub more_keeps : (b : Block) → Contains (blocks w lanes zones) b → Contains (blocks v lanes zones) b
  more_keeps b inside = standing_is_block v lanes zones b (record { chunk = stands.chunk; in_zones = stands.in_zones; is = still }) where
    stands : Stands w lanes zones b
    stands = block_stands w lanes zones b inside

    still : StandsIn v lanes stands.chunk b
    still = ⊎_elim
        (λ (here : stands.chunk ≡ c). subst (λ (k : ℕ). StandsIn v lanes k b) (sym here) (more.keeps b (subst (λ (k : ℕ). StandsIn w lanes k b) here stands.is)))
        (λ (other : stands.chunk ≢ c). stays_in w v lanes stands.chunk b (more.descriptors stands.chunk stands.in_zones other) (λ lines run. more.bitmaps stands.chunk lines stands.in_zones other run) stands.is)
        (cases_eq stands.chunk c)

  pub more_only : (b : Block) → Contains (blocks v lanes zones) b → (b ≡ block) ⊎ Contains (blocks w lanes zones) b
  more_only b inside = ⊎_elim
      (λ (here : stands.chunk ≡ c). ⊎_elim
      (λ (same : b ≡ block). inl same)
      (λ (old : StandsIn w lanes c b). inr (standing_is_block w lanes zones b (record { chunk = c; in_zones = more.in_zones; is = old })))
      (more.only b (subst (λ (k : ℕ). StandsIn v lanes k b) here stands.is)))
      (λ (other : stands.chunk ≢ c).
      let same : v (descriptor_word lanes stands.chunk) ≡ w (descriptor_word lanes stands.chunk) = more.descriptors stands.chunk stands.in_zones other in
      inr (standing_is_block w lanes zones b (record {
        chunk = stands.chunk;
        in_zones = stands.in_zones;
        is = stays_in v w lanes stands.chunk b (sym same) (λ lines run. sym (more.bitmaps stands.chunk lines stands.in_zones other (ap class_in (sym same) ∙ run))) stands.is;
      })))
      (cases_eq stands.chunk c) where
        stands : Stands v lanes zones b
        stands = block_stands v lanes zones b inside

  pub more_lines : (b : Block) → Contains (blocks v lanes zones) b → 1 ≤ b.lines
  more_lines b inside = let stands : Stands v lanes zones b = block_stands v lanes zones b inside in lines_in v lanes stands.chunk b stands.is

-- where a block of a run stands in some chunk, it is that run's, and the bit is set
pub record IsThatRunBlock (w : ℕ → ℕ) (lanes c k lines index : ℕ) : Type 0 where
  pub same_chunk : k ≡ c
  pub is_run : class_in (w (descriptor_word lanes c)) ≡ Some (Lines lines)
  pub is_set : bit_at (w (chunk_word lanes c)) index ≡ 1

pub that_run_block : (w : ℕ → ℕ) (lanes c k lines index : ℕ) → index < blocks_of lines → StandsIn w lanes k (block_of_run lanes c lines index) → IsThatRunBlock w lanes c k lines index
that_run_block w lanes c k lines index inside (inl run) =
    let before : ℕ = run.lines * run.index in
    let fits : 1 + before + run.lines ≤ 64 = run_fits run.lines run.index run.inside in
    let own : ℕ = lines * index in
    let own_fits : 1 + own + lines ≤ 64 = run_fits lines index inside in
    let some : 1 ≤ lines = run_has_lines lines index inside in
    let some_there : 1 ≤ run.lines = run_has_lines run.lines run.index run.inside in
    let place : 8 * chunk_word lanes k + 64 * (1 + before) ≡ 8 * chunk_word lanes c + 64 * (1 + own) = ap (λ (b : Block). b.place) run.is_block in
    let same_lines : run.lines ≡ lines = ap (λ (b : Block). b.lines) run.is_block in
    let zone : k / 64 ≡ c / 64 = omega arith in
    let chunk : k ≡ c = omega arith in
    let product : lines * run.index ≡ lines * index = ap (λ (n : ℕ). n * run.index) (sym same_lines) ∙ (let e : before ≡ own = omega arith in e) in
    let same_index : run.index ≡ index = sym (mul-div_cancel_left run.index some) ∙ ap (λ (n : ℕ). n / lines) product ∙ mul-div_cancel_left index some in
    record {
      same_chunk = chunk;
      is_run = ap (λ (n : ℕ). class_in (w (descriptor_word lanes n))) (sym chunk) ∙ run.is_run ∙ ap (λ (n : ℕ). Some (Lines n)) same_lines;
      is_set = (λ j. bit_at (w (chunk_word lanes (sym chunk j))) (sym same_index j)) ∙ run.is_set;
    }
that_run_block w lanes c k lines index inside (inr whole) =
    let own : ℕ = lines * index in
    let own_fits : 1 + own + lines ≤ 64 = run_fits lines index inside in
    let some : 1 ≤ lines = run_has_lines lines index inside in
    let same_lines : 64 * whole.chunks ≡ lines = ap (λ (b : Block). b.lines) whole.is_block in
    absurd (omega arith)

-- and so with a block of whole chunks
pub record IsThatChunksBlock (w : ℕ → ℕ) (lanes c k chunks : ℕ) : Type 0 where
  pub same_chunk : k ≡ c
  pub is_first : class_in (w (descriptor_word lanes c)) ≡ Some (Chunks chunks)

pub that_chunks_block : (w : ℕ → ℕ) (lanes c k chunks : ℕ) → StandsIn w lanes k (block_of_chunks lanes c chunks) → IsThatChunksBlock w lanes c k chunks
that_chunks_block w lanes c k chunks (inl run) =
    let before : ℕ = run.lines * run.index in
    let fits : 1 + before + run.lines ≤ 64 = run_fits run.lines run.index run.inside in
    let some : 1 ≤ run.lines = run_has_lines run.lines run.index run.inside in
    let same_lines : run.lines ≡ 64 * chunks = ap (λ (b : Block). b.lines) run.is_block in
    absurd (omega arith)
that_chunks_block w lanes c k chunks (inr whole) =
    let place : 8 * chunk_word lanes k ≡ 8 * chunk_word lanes c = ap (λ (b : Block). b.place) whole.is_block in
    let same_lines : 64 * whole.chunks ≡ 64 * chunks = ap (λ (b : Block). b.lines) whole.is_block in
    let same_chunks : whole.chunks ≡ chunks = omega arith in
    let chunk : k ≡ c = omega arith in
    record { same_chunk = chunk; is_first = ap (λ (n : ℕ). class_in (w (descriptor_word lanes n))) (sym chunk) ∙ whole.is_first ∙ ap (λ (n : ℕ). Some (Chunks n)) same_chunks }

-- a run whose bitmap has one bit more has that block more
module _ (w v : ℕ → ℕ) (lanes c lines index : ℕ) (inside : index < blocks_of lines) (run : class_in (w (descriptor_word lanes c)) ≡ Some (Lines lines)) (still : class_in (v (descriptor_word lanes c)) ≡ Some (Lines lines))
    (bit : HasBitMore (w (chunk_word lanes c)) (v (chunk_word lanes c)) index) where
  pub run_has : StandsIn v lanes c (block_of_run lanes c lines index)
  run_has = inl (record { lines = lines; index = index; is_run = still; inside = inside; is_set = bit.is_set; is_block = refl })

  pub run_keeps : (b : Block) → StandsIn w lanes c b → StandsIn v lanes c b
  run_keeps b (inl is) =
      let other : is.index ≢ index = λ same. (let clear = bit.is_clear in let set : bit_at (w (chunk_word lanes c)) index ≡ 1 = ap (bit_at (w (chunk_word lanes c))) (sym same) ∙ is.is_set in omega arith) in
      inl (record {
        lines = is.lines;
        index = is.index;
        is_run = still ∙ sym run ∙ is.is_run;
        inside = is.inside;
        is_set = bit.others is.index other ∙ is.is_set;
        is_block = is.is_block;
      })
  run_keeps b (inr whole) = absurd (let clash : Some (Lines lines) ≡ Some (Chunks whole.chunks) = sym run ∙ whole.is_first in cc)

  pub run_only : (b : Block) → StandsIn v lanes c b → (b ≡ block_of_run lanes c lines index) ⊎ StandsIn w lanes c b
  run_only b (inl is) =
      let same : Some (Lines is.lines) ≡ Some (Lines lines) = sym is.is_run ∙ still in
      let same_lines : is.lines ≡ lines = cc in
      ⊎_elim
      (λ (here : is.index ≡ index). inl (sym is.is_block ∙ (λ j. block_of_run lanes c (same_lines j) (here j))))
      (λ (other : is.index ≢ index). inr (inl (record {
        lines = is.lines;
        index = is.index;
        is_run = run ∙ sym still ∙ is.is_run;
        inside = is.inside;
        is_set = sym (bit.others is.index other) ∙ is.is_set;
        is_block = is.is_block;
      })))
      (cases_eq is.index index)
  run_only b (inr whole) = absurd (let clash : Some (Lines lines) ≡ Some (Chunks whole.chunks) = sym still ∙ whole.is_first in cc)

-- a chunk that is nothing has no block
pub nothing_in : (w : ℕ → ℕ) (lanes c : ℕ) (b : Block) → class_in (w (descriptor_word lanes c)) ≡ None → StandsIn w lanes c b → ⊥
nothing_in w lanes c b none (inl run) = let clash : None ≡ Some (Lines run.lines) = sym none ∙ run.is_run in cc
nothing_in w lanes c b none (inr whole) = let clash : None ≡ Some (Chunks whole.chunks) = sym none ∙ whole.is_first in cc

-- one that is the first of whole chunks has their block alone
pub whole_only : (v : ℕ → ℕ) (lanes c chunks : ℕ) (b : Block) → class_in (v (descriptor_word lanes c)) ≡ Some (Chunks chunks) → StandsIn v lanes c b → b ≡ block_of_chunks lanes c chunks
whole_only v lanes c chunks b is (inl run) = absurd (let clash : Some (Chunks chunks) ≡ Some (Lines run.lines) = sym is ∙ run.is_run in cc)
whole_only v lanes c chunks b is (inr whole) =
    let same : Some (Chunks whole.chunks) ≡ Some (Chunks chunks) = sym whole.is_first ∙ is in
    let same_chunks : whole.chunks ≡ chunks = cc in
    sym whole.is_block ∙ ap (block_of_chunks lanes c) same_chunks

-- and a run with the one bit has that block alone
pub lone_block : (v : ℕ → ℕ) (lanes c lines index : ℕ) (b : Block) → class_in (v (descriptor_word lanes c)) ≡ Some (Lines lines) → HasBitMore 0 (v (chunk_word lanes c)) index → StandsIn v lanes c b → b ≡ block_of_run lanes c lines index
lone_block v lanes c lines index b is bit (inl run) =
    let same : Some (Lines run.lines) ≡ Some (Lines lines) = sym run.is_run ∙ is in
    let same_lines : run.lines ≡ lines = cc in
    ⊎_elim
    (λ (here : run.index ≡ index). sym run.is_block ∙ (λ j. block_of_run lanes c (same_lines j) (here j)))
    (λ (other : run.index ≢ index). let none : bit_at (v (chunk_word lanes c)) run.index ≡ 0 = bit.others run.index other ∙ bit_at-zero run.index in let set = run.is_set in absurd (omega arith))
    (cases_eq run.index index)
lone_block v lanes c lines index b is bit (inr whole) = absurd (let clash : Some (Lines lines) ≡ Some (Chunks whole.chunks) = sym is ∙ whole.is_first in cc)
