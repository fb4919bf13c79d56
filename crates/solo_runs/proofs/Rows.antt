-- The blocks of a run stand in its chunk, one behind another.
use Rattle.std.proofs.Common.{◌≡◌, ◌≢◌, ⊎_elim, ℕ, ◌+◌, ◌-◌, ◌*◌, ◌/◌, ◌%◌, ◌<◌, ◌≤◌, ap, ◌∙◌, subst, arith}
use Rattle.std.proofs.Math.Nat.{mul-div_cancel_left}
use Rattle.std.proofs.lemmas.Bool.{cases_eq}
use Rattle.pm_layout.specs.Sizes.{blocks_of}
use Rattle.pm_image.proofs.Rooms.{run_fits}

-- a run has a class, so its blocks have lines
pub has_lines : (lines k : ℕ) → k < blocks_of lines → 0 < lines
has_lines lines k inside = ⊎_elim
    (λ (none : lines ≡ 0). let no_blocks : k < blocks_of 0 = subst (λ (n : ℕ). k < blocks_of n) none inside in absurd (omega arith))
    (λ (some : lines ≢ 0). omega (arith, some))
    (cases_eq lines 0)

at_least : (lines k : ℕ) → 0 < lines → k ≤ lines * k
at_least lines k some = grind arith

pub index_low : (lines k : ℕ) → k < blocks_of lines → k < 64
index_low lines k inside = let fits = run_fits lines k inside in let some = has_lines lines k inside in let less = at_least lines k some in omega (arith, fits, some, less)

-- the block's chunk and index, by its place
module _ (page lines k : ℕ) (inside : k < blocks_of lines) where
  abbrev place : ℕ
  place = 4096 * page + 64 * (1 + lines * k)

  pub chunk_of_block : place - place % 4096 ≡ 4096 * page
  chunk_of_block = let fits = run_fits lines k inside in let some = has_lines lines k inside in omega (arith, fits, some)

  line_of_block : place % 4096 / 64 - 1 ≡ lines * k
  line_of_block = let fits = run_fits lines k inside in let some = has_lines lines k inside in omega (arith, fits, some)

  pub index_of_block : (place % 4096 / 64 - 1) / lines ≡ k
  index_of_block = ap (λ n. n / lines) line_of_block ∙ mul-div_cancel_left k (has_lines lines k inside)
