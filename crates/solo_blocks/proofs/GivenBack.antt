-- What is given back of a block, by its lines: those of whole chunks make up chunks, and those of a run's block do not.
use Rattle.std.proofs.Common.{◌≡◌, ◌≢◌, inl, inr, ℕ, ◌+◌, ◌-◌, ◌*◌, ◌/◌, ◌%◌, ◌^◌, ◌<◌, ◌≤◌, ◌==◌, if◌then◌else◌, ap, ◌∙◌, arith}
use Rattle.pm_layout.specs.Sizes.{blocks_of}
use Rattle.pm_image.specs.declared.block.Block.{Block}
use Rattle.pm_image.proofs.Rooms.{run_fits}
use Rattle.solo_view.specs.Steps.Step.{Vacate}
use Rattle.solo_view.specs.declared.occ.Occ.TheVariants.{Run, Zone}
use Rattle.solo_view.specs.View.{View}
use Rattle.solo_chunks.specs.Chunks.{chunk_bits, chunk_block}
use Rattle.solo_runs.specs.Runs.{MayGiveBack as MayGiveBackInRun, page_of, run_block, run_of}
use Rattle.solo_runs.proofs.Rows.{has_lines, index_of_block}
use Rattle.solo_blocks.specs.Giving.{MayGiveBackBlock, vacates_block, vacates_chunks, vacates_in_run}

-- a block of a run has fewer lines than a chunk
pub run_lines : (lines index : ℕ) → index < blocks_of lines → lines % 64 ≢ 0
run_lines lines index inside whole = let before : ℕ = lines * index in let fits : 1 + before + lines ≤ 64 = run_fits lines index inside in let some = has_lines lines index inside in omega (arith, fits, some, whole)

-- so the lines tell which of the two the block is
pub given_in_run : (v : View) (block : Block) → MayGiveBackBlock v block → block.lines % 64 ≢ 0 → MayGiveBackInRun v block
given_in_run v block (inl chunks) part = absurd (part (let lines = ap (λ (b : Block). b.lines) chunks.is_block in omega (arith, lines)))
given_in_run v block (inr run) part = run

-- the step that gives back the block of a run
pub vacates_its_bit : (lanes chunk index : ℕ) (block : Block) → index < blocks_of block.lines → block ≡ run_block lanes chunk block.lines index → vacates_in_run block ≡ Vacate (run_of lanes chunk) (2 ^ index)
vacates_its_bit lanes chunk index block inside is =
    let lines : ℕ = block.lines in
    let page : ℕ = page_of lanes chunk in
    let place : ℕ = 4096 * page + 64 * (1 + lines * index) in
    let begins : place / 4096 * 4096 ≡ 4096 * page = (let before : ℕ = lines * index in let fits : 1 + before + lines ≤ 64 = run_fits lines index inside in let some = has_lines lines index inside in omega (arith, fits, some)) in
    ap (λ (b : Block). vacates_in_run (record { place = b.place; lines = lines })) is
    ∙ ap (λ n. Vacate (Run n) (2 ^ ((place % 4096 / 64 - 1) / lines))) begins
    ∙ ap (λ n. Vacate (run_of lanes chunk) (2 ^ n)) (index_of_block page lines index inside)

-- and the one that gives back whole chunks
pub vacates_its_chunks : (lanes zone first count : ℕ) (block : Block) → 1 ≤ count → first + count ≤ 64 → block ≡ chunk_block lanes zone first count
    → vacates_chunks lanes block ≡ Vacate (Zone zone) (chunk_bits first count)
vacates_its_chunks lanes zone first count block some fits is =
    let page : ℕ = 2 + 2 * lanes + 65 * zone + first in
    let page_is : 4096 * page / 4096 ≡ page = omega arith in
    let zone_is : (page - (1 + 2 * lanes + 65 * 0)) / 65 ≡ zone = omega (arith, some, fits) in
    let first_is : (page - (1 + 2 * lanes + 65 * 0)) % 65 - 1 ≡ first = omega (arith, some, fits) in
    let count_is : 64 * count / 64 ≡ count = omega arith in
    ap (vacates_chunks lanes) is
    ∙ ap (λ (n : ℕ). Vacate (Zone ((n - (1 + 2 * lanes + 65 * 0)) / 65)) (chunk_bits ((n - (1 + 2 * lanes + 65 * 0)) % 65 - 1) (64 * count / 64))) page_is
    ∙ ap (λ (n : ℕ). Vacate (Zone n) (chunk_bits ((page - (1 + 2 * lanes + 65 * 0)) % 65 - 1) (64 * count / 64))) zone_is
    ∙ ap (λ (n : ℕ). Vacate (Zone zone) (chunk_bits n (64 * count / 64))) first_is
    ∙ ap (λ (n : ℕ). Vacate (Zone zone) (chunk_bits first n)) count_is

-- the step that gives it back, by its lines
pub vacates_whole : (lanes : ℕ) (block : Block) → block.lines % 64 ≡ 0 → vacates_block lanes block ≡ vacates_chunks lanes block
vacates_whole lanes block whole = ap (λ (n : ℕ). if n == 0 then vacates_chunks lanes block else vacates_in_run block) whole

pub vacates_part : (lanes : ℕ) (block : Block) → block.lines % 64 ≢ 0 → vacates_block lanes block ≡ vacates_in_run block
vacates_part lanes block part = grind arith
