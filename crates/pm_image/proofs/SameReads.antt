-- Functions that agree on what the first one's meaning reads are read at the same words, so the agreement goes both ways.
use Rattle.std.proofs.Common.{◌≡◌, inl, inr, ℕ, List, ◌+◌, ◌/◌, ◌<◌, sym, ◌∙◌, ap, subst, arith}
use Rattle.std.specs.List.{Contains}
use Rattle.pm_image.specs.declared.block.Block.{Block}
use Rattle.pm_image.specs.Blocks.{class_in}
use Rattle.pm_image.specs.Contents.{data_words, size_in}
use Rattle.pm_image.specs.Reads.{IsBitmapWord, IsContentsWord, Reads, AgreeOn}
use Rattle.pm_image.proofs.Heads.{agree_on_heads}
use Rattle.pm_image.proofs.LocalContents.{header_same}
use Rattle.pm_image.proofs.LocalHeap.{agree_on_block, blocks_same, descriptor_same}

bitmap_read : (w v : ℕ → ℕ) (lanes zones i : ℕ) → AgreeOn (Reads w lanes zones) w v → IsBitmapWord v lanes zones i → IsBitmapWord w lanes zones i
bitmap_read w v lanes zones i agree is = record {
  chunk = is.chunk;
  lines = is.lines;
  in_range = is.in_range;
  is_run = sym (ap class_in (descriptor_same w v lanes zones is.chunk (agree_on_heads w v lanes zones agree) is.in_range)) ∙ is.is_run;
  is_word = is.is_word;
}

contents_read : (w v : ℕ → ℕ) (lanes zones i : ℕ) → AgreeOn (Reads w lanes zones) w v → IsContentsWord v lanes zones i → IsContentsWord w lanes zones i
contents_read w v lanes zones i agree is =
    let there = subst (λ (bs : List Block). Contains bs is.block) (blocks_same w v lanes zones (agree_on_heads w v lanes zones agree)) is.is_there in
    let size : size_in v is.block ≡ size_in w is.block = header_same w v is.block 1 (omega arith) (agree_on_block w v lanes zones is.block agree there) in
    record {
      block = is.block;
      is_there = there;
      is_read = record { from = is.is_read.from; to = subst (λ (n : ℕ). i < is.block.place / 8 + 8 + data_words n) size is.is_read.to };
    }

-- the second one's meaning reads no other words
pub reads_same : (w v : ℕ → ℕ) (lanes zones i : ℕ) → AgreeOn (Reads w lanes zones) w v → Reads v lanes zones i → Reads w lanes zones i
reads_same w v lanes zones i agree (inl root) = inl root
reads_same w v lanes zones i agree (inr (inl descriptor)) = inr (inl descriptor)
reads_same w v lanes zones i agree (inr (inr (inl bitmap))) = inr (inr (inl (bitmap_read w v lanes zones i agree bitmap)))
reads_same w v lanes zones i agree (inr (inr (inr contents))) = inr (inr (inr (contents_read w v lanes zones i agree contents)))

pub agree_back : (w v : ℕ → ℕ) (lanes zones : ℕ) → AgreeOn (Reads w lanes zones) w v → AgreeOn (Reads v lanes zones) v w
agree_back w v lanes zones agree = record { same = λ i read. sym (agree.same i (reads_same w v lanes zones i agree read)) }
