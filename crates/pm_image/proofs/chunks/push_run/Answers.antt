use Rattle.std.proofs.Common.{◌≡◌, ◌++◌, ℕ, Bool, cond, List, [], ◌∷◌, eqb, map, sym, ◌∙◌, ap, arith}
use Rattle.std.specs.Int.{bit_at}
use Rattle.std.specs.List.{filter, range_with_len}
use Rattle.std.proofs.lemmas.List.{append_assoc}
use Rattle.pm_layout.specs.Sizes.{block_place, blocks_of}
use Rattle.pm_image.specs.Blocks.{run_blocks}
use Rattle.pm_image.specs.declared.block.Block.{Block}
use Rattle.pm_image.proofs.Ranges.{kept_more}
use Rattle.pm_image.proofs.chunks.push_run.Goals as goal

pub loop-index-preserved : goal.loop-index-preserved
loop-index-preserved c =
    let made : ℕ → Block = λ i. record { place = block_place c.args.place c.args.lines i; lines = c.args.lines } in
    let is_set : ℕ → Bool = λ i. eqb (bit_at c.args.bitmap i) 1 in
    let last : List Block = cond (is_set c.loop-index.index) (made c.loop-index.index ∷ []) [] in
    record {
      addressable = λ all. c.in_ok-push_block.ensures.addressable (c.loop-index.invariant.addressable all);
      items =
          c.in_ok-push_block.ensures.items ∙ ap (λ (bs : List Block). bs ++ last) c.loop-index.invariant.items
          ∙ append_assoc c.args.found.now.items (map made (filter is_set (range_with_len 0 c.loop-index.index))) last
          ∙ ap (λ (bs : List Block). c.args.found.now.items ++ bs) (sym (kept_more is_set made c.loop-index.index));
    }

pub returns-clause-items : goal.returns-clause-items
unfolding run_blocks
returns-clause-items c =
    let made : ℕ → Block = λ i. record { place = block_place c.args.place c.args.lines i; lines = c.args.lines } in
    let is_set : ℕ → Bool = λ i. eqb (bit_at c.args.bitmap i) 1 in
    let end : c.loop-index.index ≡ blocks_of c.args.lines = omega arith in
    c.loop-index.invariant.items ∙ ap (λ (n : ℕ). c.args.found.now.items ++ map made (filter is_set (range_with_len 0 n))) end
