-- Where an allocated block lies by what describes chunks: among a run's, with its bit set, or as whole chunks. What is free lies apart from it.
use Rattle.std.proofs.Common.{◌≡◌, ⊎_elim, inl, inr, ℕ, ◌+◌, ◌-◌, ◌*◌, ◌/◌, ◌%◌, ◌<◌, ◌≤◌, Contains, None, true, sym, ap, ◌∙◌, subst, arith, eq-eqb, ltb}
use Rattle.std.specs.Int.{bit_at}
use Rattle.std.specs.List.{list_any, range_with_len}
use Rattle.std.proofs.lemmas.Bool.{and_from, false≢true, lt-ltb, or_left, or_right}
use Rattle.pm_image.specs.declared.block.Block.{Block}
use Rattle.pm_image.specs.Blocks.{blocks, chunk_word, descriptor_word}
use Rattle.pm_image.specs.HeapFaults.{heap_fault}
use Rattle.solo_view.specs.Blocks.{is_huge, is_run, zone_page}
use Rattle.solo_view.specs.Occupancy.{is_chunk_taken, reaches}
use Rattle.solo_world.proofs.CrashReplays.{lane_some}
use Rattle.solo_crash.specs.HeapChanges.{AreDisjoint}
use Rattle.solo_crash.specs.Lying.{InARun, Lies, OfChunks}
use Rattle.solo_crash.specs.NewObjects.{AreFreeChunks, IsFreeInRun, block_of_chunks, block_of_run}
use Rattle.solo_crash.proofs.Classes.{chunks_of_class, lines_of_class}
use Rattle.solo_crash.proofs.Standing.{block_stands, IsChunkBlock, IsRunBlock, Stands}
use Rattle.solo_crash.proofs.BlocksApart.{chunks_apart, free_in, run_chunks, runs_apart, whole_in}

module _ (w : ℕ → ℕ) (lanes zones : ℕ) where
  -- each block lies so, where the words have no fault
  pub each_lies : heap_fault w lanes zones ≡ None → (b : Block) → Contains (blocks w lanes zones) b → Lies w lanes zones b
  each_lies none b there =
      let stands : Stands w lanes zones b = block_stands w lanes zones b there in
      let c : ℕ = stands.chunk in
      ⊎_elim
      (λ (run : IsRunBlock w lanes c b).
      let class = lines_of_class (w (descriptor_word lanes c)) run.lines run.is_run in
      let low = class.0 in let high = class.1 in
      InARun c run.lines run.index stands.in_zones (record { inside = run.inside; described = omega (arith, low, high) }) run.is_set run.is_block)
      (λ (whole : IsChunkBlock w lanes c b).
      let class = chunks_of_class (w (descriptor_word lanes c)) whole.chunks whole.is_first in
      let low = class.0 in let high = class.1 in
      let is : w (descriptor_word lanes c) ≡ 2 + 256 * whole.chunks = omega (arith, low, high) in
      OfChunks c whole.chunks stands.in_zones (whole_in w lanes zones none c whole.chunks stands.in_zones is) is whole.is_block)
      stands.is

  -- ---- the chunks of such a block are taken

  run_taken : (c lines : ℕ) → w (descriptor_word lanes c) ≡ 1 + 256 * lines → is_chunk_taken w lanes (c / 64) (c % 64) ≡ true
  run_taken c lines is =
      let place : 512 * zone_page lanes (c / 64) + c % 64 ≡ descriptor_word lanes c = omega arith in
      or_left (is_run (w (512 * zone_page lanes (c / 64) + c % 64))) (list_any (reaches w lanes (c / 64) (c % 64)) (range_with_len 0 (c % 64 + 1)))
      (ap (λ i. is_run (w i)) place ∙ eq-eqb (w (descriptor_word lanes c) % 256) 1 (omega (arith, is)))

  chunks_taken : (c chunks bit : ℕ) → w (descriptor_word lanes c) ≡ 2 + 256 * chunks → c % 64 ≤ bit → bit < c % 64 + chunks → is_chunk_taken w lanes (c / 64) bit ≡ true
  chunks_taken c chunks bit is from to =
      let place : 512 * zone_page lanes (c / 64) + c % 64 ≡ descriptor_word lanes c = omega arith in
      let d : ℕ = w (512 * zone_page lanes (c / 64) + c % 64) in
      let here : d ≡ 2 + 256 * chunks = ap w place ∙ is in
      let reached : reaches w lanes (c / 64) bit (c % 64) ≡ true =
      and_from (is_huge d) (ltb bit (c % 64 + d / 256)) (eq-eqb (d % 256) 2 (omega (arith, here))) (lt-ltb bit (c % 64 + d / 256) (omega (arith, here, to))) in
      or_right (is_run (w (512 * zone_page lanes (c / 64) + bit))) (list_any (reaches w lanes (c / 64) bit) (range_with_len 0 (bit + 1))) (lane_some (reaches w lanes (c / 64) bit) (bit + 1) (c % 64) (omega (arith, from)) reached)

  -- so each of them by its number
  pub numbered_taken : (c chunks k : ℕ) → w (descriptor_word lanes c) ≡ 2 + 256 * chunks → c % 64 + chunks ≤ 64 → k < chunks → is_chunk_taken w lanes ((c + k) / 64) ((c + k) % 64) ≡ true
  numbered_taken c chunks k first fits near =
      let zone : c / 64 ≡ (c + k) / 64 = omega (arith, fits, near) in
      let number : c % 64 + k ≡ (c + k) % 64 = omega (arith, fits, near) in
      (λ j. is_chunk_taken w lanes (sym zone j) (sym number j)) ∙ chunks_taken c chunks (c % 64 + k) first (omega arith) (omega (arith, near))

  -- ---- what is free lies apart

  pub free_run_apart : (c lines index : ℕ) (b : Block) → IsFreeInRun w lanes zones c lines index → Lies w lanes zones b → AreDisjoint (block_of_run lanes c lines index) b
  free_run_apart c lines index b free (InARun d many i in_zones other set is) =
      subst (AreDisjoint (block_of_run lanes c lines index)) is
      (runs_apart w lanes zones c lines index d many i (record { inside = free.inside; described = free.is_run }) other
      (λ same equal. let clear = free.is_clear in let bit : bit_at (w (chunk_word lanes c)) index ≡ bit_at (w (chunk_word lanes d)) i = (λ j. bit_at (w (chunk_word lanes (same j))) (equal j)) in omega (arith, clear, set, bit)))
  free_run_apart c lines index b free (OfChunks d chunks in_zones other first is) =
      subst (AreDisjoint (block_of_run lanes c lines index)) is (run_chunks w lanes zones c lines index d chunks (record { inside = free.inside; described = free.is_run }) other)

  turned : (a b : Block) → AreDisjoint a b → AreDisjoint b a
  turned a b (inl before) = inr before
  turned a b (inr behind) = inl behind

  pub free_chunks_apart : (c count : ℕ) (b : Block) → 1 ≤ count → AreFreeChunks w lanes zones c count → Lies w lanes zones b → AreDisjoint (block_of_chunks lanes c count) b
  free_chunks_apart c count b some free (InARun d many i in_zones other set is) =
      subst (AreDisjoint (block_of_chunks lanes c count)) is
      (turned (block_of_run lanes d many i) (block_of_chunks lanes c count) (run_chunks w lanes zones d many i c count other (free_in w lanes zones c count some free)))
  free_chunks_apart c count b some free (OfChunks d chunks in_zones other first is) =
      subst (AreDisjoint (block_of_chunks lanes c count)) is
      (chunks_apart w lanes zones c count d chunks (free_in w lanes zones c count some free) other
      (λ bit same from to from_too to_too.
      let number : c % 64 + (bit - c % 64) ≡ bit = omega (arith, from) in
      false≢true (sym (free.are_free (bit - c % 64) (omega (arith, from, to))) ∙ ((λ j. is_chunk_taken w lanes (same j) (number j)) ∙ chunks_taken d chunks bit first from_too to_too))))

-- ---- by other words that describe taken chunks as these do

-- what describes a chunk that is taken is the same by both words, and so is the bitmap of a run
pub record SameTaken (w v : ℕ → ℕ) (lanes zones : ℕ) : Type 0 where
  pub descriptor : (c : ℕ) → c < 64 * zones → is_chunk_taken w lanes (c / 64) (c % 64) ≡ true → v (descriptor_word lanes c) ≡ w (descriptor_word lanes c)
  pub bitmap : (c : ℕ) → c < 64 * zones → is_chunk_taken w lanes (c / 64) (c % 64) ≡ true → is_run (w (descriptor_word lanes c)) ≡ true → v (chunk_word lanes c) ≡ w (chunk_word lanes c)

-- what lies by the one lies by the other
pub lies_still : (w v : ℕ → ℕ) (lanes zones : ℕ) (b : Block) → SameTaken w v lanes zones → Lies w lanes zones b → Lies v lanes zones b
lies_still w v lanes zones b same (InARun c lines index in_zones in_run set is) =
    let described = in_run.described in
    let taken = run_taken w lanes zones c lines described in
    InARun c lines index in_zones (record { inside = in_run.inside; described = same.descriptor c in_zones taken ∙ described })
    (ap (λ n. bit_at n index) (same.bitmap c in_zones taken (eq-eqb (w (descriptor_word lanes c) % 256) 1 (omega (arith, described)))) ∙ set) is
lies_still w v lanes zones b same (OfChunks c chunks in_zones in_chunks first is) =
    let fits = in_chunks.fits in
    let some = in_chunks.some in
    OfChunks c chunks in_zones (record {
      some = some;
      fits = fits;
      no_run = λ k near run.
          in_chunks.no_run k near (ap (λ n. n % 256) (sym (same.descriptor (c + k) (omega (arith, fits, near, in_zones)) (numbered_taken w lanes zones c chunks k first fits near))) ∙ run);
    })
    (same.descriptor c in_zones (chunks_taken w lanes zones c chunks (c % 64) first (omega arith) (omega (arith, some))) ∙ first) is
