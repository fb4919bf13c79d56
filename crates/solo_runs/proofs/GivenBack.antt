-- A block of a run is given back: its bit of the run's occupancy word, by the block's place.
use Rattle.std.proofs.Common.{◌≡◌, ℕ, ◌+◌, ◌-◌, ◌*◌, ◌/◌, ◌%◌, ◌^◌, ◌<◌, ap, ◌∙◌}
use Rattle.std.proofs.lemmas.Nat.{one_shl}
use Rattle.pm_layout.specs.Sizes.{blocks_of}
use Rattle.pm_image.specs.declared.block.Block.{Block}
use Rattle.solo_view.specs.declared.occ.Occ.TheVariants.{Run}
use Rattle.solo_view.specs.Steps.{Step}
use Rattle.solo_view.specs.Steps.Step.{Vacate}
use Rattle.solo_runs.specs.Runs.{page_of, run_block, run_of}
use Rattle.solo_runs.proofs.Rows.{chunk_of_block, index_low, index_of_block}

-- the bit that is cleared for a block at a place
abbrev pub vacates : ℕ → ℕ → Step
vacates place lines = Vacate (Run (place - place % 4096)) (1 * 2 ^ ((place % 4096 / 64 - 1) / lines) % 2 ^ 64)

pub vacates_its_bit : (lanes chunk index : ℕ) (block : Block) → index < blocks_of block.lines → block ≡ run_block lanes chunk block.lines index
    → vacates block.place block.lines ≡ Vacate (run_of lanes chunk) (2 ^ index)
vacates_its_bit lanes chunk index block inside is =
    let lines : ℕ = block.lines in
    let page : ℕ = page_of lanes chunk in
    ap (λ (b : Block). vacates b.place lines) is
    ∙ ap (λ n. Vacate (Run n) (1 * 2 ^ (((4096 * page + 64 * (1 + lines * index)) % 4096 / 64 - 1) / lines) % 2 ^ 64)) (chunk_of_block page lines index inside)
    ∙ ap (λ n. Vacate (run_of lanes chunk) (1 * 2 ^ n % 2 ^ 64)) (index_of_block page lines index inside)
    ∙ ap (λ n. Vacate (run_of lanes chunk) n) (one_shl index 64 (index_low lines index inside))
