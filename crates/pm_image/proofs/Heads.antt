-- What of the heap is read beside the objects' bytes: the root's word, descriptors, bitmaps of runs, and the header lines of blocks.
use Rattle.std.proofs.Common.{◌≡◌, ◌⊎◌, inl, inr, ℕ, ◌+◌, ◌/◌, ◌<◌, ◌≤◌, sym, arith}
use Rattle.std.specs.List.{Contains}
use Rattle.pm_image.specs.declared.block.Block.{Block}
use Rattle.pm_image.specs.Blocks.{blocks}
use Rattle.pm_image.specs.Contents.{header_word}
use Rattle.pm_image.specs.Reads.{AgreeOn, IsBitmapWord, IsDescriptorWord, Reads, ReadsBlock}

-- the word is of the block's header line
pub record ReadsHeader (block : Block) (i : ℕ) : Type 0 where
  pub from : block.place / 8 ≤ i
  pub to : i < block.place / 8 + 8

-- it is of some block's
pub record IsHeaderWord (w : ℕ → ℕ) (lanes zones i : ℕ) : Type 0 where
  pub block : Block
  pub is_there : Contains (blocks w lanes zones) block
  pub is_read : ReadsHeader block i

abbrev pub ReadsHeads : (ℕ → ℕ) → ℕ → ℕ → ℕ → Type 0
ReadsHeads w lanes zones i = (i ≡ 64) ⊎ (IsDescriptorWord lanes zones i ⊎ (IsBitmapWord w lanes zones i ⊎ IsHeaderWord w lanes zones i))

-- the meaning reads all of that
pub reads_header : (w : ℕ → ℕ) (block : Block) (i : ℕ) → ReadsHeader block i → ReadsBlock w block i
reads_header w block i is = let before : i < block.place / 8 + 8 = is.to in record { from = is.from; to = omega arith }

reads_heads : (w : ℕ → ℕ) (lanes zones i : ℕ) → ReadsHeads w lanes zones i → Reads w lanes zones i
reads_heads w lanes zones i (inl root) = inl root
reads_heads w lanes zones i (inr (inl descriptor)) = inr (inl descriptor)
reads_heads w lanes zones i (inr (inr (inl bitmap))) = inr (inr (inl bitmap))
reads_heads w lanes zones i (inr (inr (inr header))) = inr (inr (inr (record { block = header.block; is_there = header.is_there; is_read = reads_header w header.block i header.is_read })))

pub agree_on_heads : (w v : ℕ → ℕ) (lanes zones : ℕ) → AgreeOn (Reads w lanes zones) w v → AgreeOn (ReadsHeads w lanes zones) w v
agree_on_heads w v lanes zones agree = record { same = λ i read. agree.same i (reads_heads w lanes zones i read) }

-- word k of the header line
pub head_same : (w v : ℕ → ℕ) (block : Block) (k : ℕ) → k < 8 → AgreeOn (ReadsHeader block) w v → header_word v block k ≡ header_word w block k
head_same w v block k inside agree = sym (agree.same (block.place / 8 + k) (record { from = omega arith; to = omega arith }))

-- the header line of one of the blocks
pub agree_on_header : (w v : ℕ → ℕ) (lanes zones : ℕ) (block : Block) → AgreeOn (ReadsHeads w lanes zones) w v → Contains (blocks w lanes zones) block → AgreeOn (ReadsHeader block) w v
agree_on_header w v lanes zones block agree there =
    record { same = λ i read. agree.same i (inr (inr (inr (record { block = block; is_there = there; is_read = read })))) }
