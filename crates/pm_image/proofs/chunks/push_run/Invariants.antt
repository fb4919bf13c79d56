use Rattle.std.proofs.Common.{◌≡◌, ◌++◌, ℕ, eqb, map}
use Rattle.std.specs.Int.{bit_at}
use Rattle.std.specs.List.{All, filter, range_with_len}
use Rattle.pm_layout.specs.Sizes.{block_place}
use Rattle.pm_image.specs.Blocks.{IsAddressable}
use Rattle.pm_image.specs.declared.block.Block.{Block}
use Rattle.pm_image.proofs.chunks.push_run.Given as goal

abbrev pub invariant-loop-index : goal.invariant-loop-index
invariant-loop-index l =
    let made : ℕ → Block = λ i. record { place = block_place l.place l.lines i; lines = l.lines } in
    record {
      items : l.found.items ≡ l.initial.found.items ++ map made (filter (λ i. eqb (bit_at l.bitmap i) 1) (range_with_len 0 l.index));
      addressable : All IsAddressable l.initial.found.items → All IsAddressable l.found.items;
    }
