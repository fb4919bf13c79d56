-- Blocks of runs and of whole chunks that lie apart, by what describes the chunks.
use Rattle.std.proofs.Common.{◌≡◌, ◌≢◌, ⊎_elim, inl, inr, ℕ, zero, suc, ◌+◌, ◌*◌, ◌/◌, ◌%◌, ◌<◌, ◌≤◌, ◌⊎◌, Some, None, false, ap, ◌∙◌, sym, ◌-◌, arith}
use Rattle.std.proofs.Math.Nat.{mul-le-mul_left, mul-suc}
use Rattle.std.proofs.lemmas.Bool.{cases_eq, cases_lt, eq-eqb, false≢true, or_parts}
use Rattle.std.specs.List.{list_any, range_with_len}
use Rattle.pm_layout.specs.declared.class.Class.TheVariants.{Chunks}
use Rattle.pm_image.specs.Blocks.{chunk_word, class_in, descriptor_word}
use Rattle.pm_image.specs.HeapFaults.{bad_chunk, heap_fault}
use Rattle.pm_image.proofs.HeapWords.{chunks_fit}
use Rattle.pm_image.proofs.Ordered.{further_zeros}
use Rattle.pm_image.proofs.Rooms.{run_fits}
use Rattle.solo_view.specs.Blocks.{is_run, zone_page}
use Rattle.solo_view.specs.Occupancy.{reaches}
use Rattle.solo_crash.specs.HeapChanges.{AreDisjoint}
use Rattle.solo_crash.specs.Lying.{InChunks, InRun}
use Rattle.solo_crash.specs.NewObjects.{AreFreeChunks, block_of_chunks, block_of_run}
use Rattle.solo_crash.proofs.Apart.{good_chunk}
use Rattle.solo_crash.proofs.Classes.{whole_by_byte}
use Rattle.solo_crash.proofs.EmptyRuns.{some_chunks}

module _ (w : ℕ → ℕ) (lanes zones : ℕ) where
  pub free_in : (c chunks : ℕ) → 1 ≤ chunks → AreFreeChunks w lanes zones c chunks → InChunks w lanes c chunks
  free_in c chunks some free = record {
    some = some;
    fits = free.in_zone;
    no_run = λ k near run.
        let fits = free.in_zone in
        let at : 512 * zone_page lanes (c / 64) + (c % 64 + k) ≡ descriptor_word lanes (c + k) = omega (arith, fits, near) in
        let reached = list_any (reaches w lanes (c / 64) (c % 64 + k)) (range_with_len 0 (c % 64 + k + 1)) in
        false≢true (sym (or_parts (is_run (w (512 * zone_page lanes (c / 64) + (c % 64 + k)))) reached (free.are_free k near)).0 ∙ (ap (λ i. is_run (w i)) at ∙ eq-eqb (w (descriptor_word lanes (c + k)) % 256) 1 run));
  }

  -- two blocks of runs
  pub runs_apart : (c lines index d many i : ℕ) → InRun w lanes c lines index → InRun w lanes d many i → ((c ≡ d) → index ≢ i) → AreDisjoint (block_of_run lanes c lines index) (block_of_run lanes d many i)
  runs_apart c lines index d many i one other differ =
      let fits : 1 + lines * index + lines ≤ 64 = run_fits lines index one.inside in
      let fits_too : 1 + many * i + many ≤ 64 = run_fits many i other.inside in
      ⊎_elim
      (λ (same : c ≡ d).
      let first = one.described in let second = ap (λ n. w (descriptor_word lanes n)) same ∙ other.described in
      let lines_same : lines ≡ many = omega (arith, first, second) in
      let word : chunk_word lanes c ≡ chunk_word lanes d = ap (chunk_word lanes) same in
      ⊎_elim
      (λ (before : index < i).
      let more : lines * suc index ≤ lines * i = mul-le-mul_left lines before in
      let last : lines * suc index ≡ lines * index + lines = mul-suc lines index in
      let turned : lines * i ≡ many * i = ap (λ n. n * i) lines_same in inl (omega (arith, more, last, turned, word)))
      (λ (behind : i ≤ index).
      let strictly : i < index = omega (arith, behind, differ same) in
      let more : many * suc i ≤ many * index = mul-le-mul_left many strictly in
      let last : many * suc i ≡ many * i + many = mul-suc many i in
      let turned : lines * index ≡ many * index = ap (λ n. n * index) lines_same in inr (omega (arith, more, last, turned, word)))
      (cases_lt index i))
      (λ (other_chunk : c ≢ d).
      ⊎_elim (λ (before : c < d). inl (omega (arith, fits, before))) (λ (behind : d ≤ c). inr (omega (arith, fits_too, behind, other_chunk))) (cases_lt c d))
      (cases_eq c d)

  -- one of a run and whole chunks
  pub run_chunks : (c lines index d chunks : ℕ) → InRun w lanes c lines index → InChunks w lanes d chunks → AreDisjoint (block_of_run lanes c lines index) (block_of_chunks lanes d chunks)
  run_chunks c lines index d chunks one other =
      let fits : 1 + lines * index + lines ≤ 64 = run_fits lines index one.inside in
      let room = other.fits in
      ⊎_elim
      (λ (before : c < d). inl (omega (arith, fits, before)))
      (λ (from : d ≤ c). ⊎_elim
      (λ (near : c < d + chunks).
      let run : w (descriptor_word lanes c) % 256 ≡ 1 = let is = one.described in omega (arith, is) in
      absurd (other.no_run (c - d) (omega (arith, from, near)) (ap (λ n. w (descriptor_word lanes n) % 256) (let same : d + (c - d) ≡ c = omega (arith, from) in same) ∙ run)))
      (λ (behind : d + chunks ≤ c). inr (omega (arith, behind, room)))
      (cases_lt c (d + chunks)))
      (cases_lt c d)

  -- whole chunks and others, which have none in common
  pub chunks_apart : (c chunks d count : ℕ) → InChunks w lanes c chunks → InChunks w lanes d count → ((bit : ℕ) → c / 64 ≡ d / 64 → c % 64 ≤ bit → bit < c % 64 + chunks → d % 64 ≤ bit → bit < d % 64 + count → ⊥)
      → AreDisjoint (block_of_chunks lanes c chunks) (block_of_chunks lanes d count)
  chunks_apart c chunks d count one other differ =
      let room = one.fits in let room_too = other.fits in let some = one.some in let some_too = other.some in
      ⊎_elim
      (λ (before : c + chunks ≤ d). inl (omega (arith, before, room)))
      (λ (over : d < c + chunks). ⊎_elim
      (λ (behind : d + count ≤ c). inr (omega (arith, behind, room_too)))
      (λ (over_too : c < d + count). absurd (⊎_elim
      (λ (first : c < d). let same : c / 64 ≡ d / 64 = omega (arith, first, over, room) in differ (d % 64) same (omega (arith, first, same)) (omega (arith, over, same)) (omega arith) (omega (arith, some_too)))
      (λ (last : d ≤ c). let same : c / 64 ≡ d / 64 = omega (arith, last, over_too, room_too) in differ (c % 64) same (omega arith) (omega (arith, some)) (omega (arith, last, same)) (omega (arith, over_too, same)))
      (cases_lt c d)))
      (le_or d count c))
      (le_or c chunks d) where
        le_or : (a n b : ℕ) → (a + n ≤ b) ⊎ (b < a + n)
        le_or a n b = ⊎_elim (λ (below : b < a + n). inr below) (λ (reached : a + n ≤ b). inl reached) (cases_lt b (a + n))

  -- ---- where the words have no fault

  module _ (none : heap_fault w lanes zones ≡ None) where
    -- whole chunks that are a block
    pub whole_in : (c chunks : ℕ) → c < 64 * zones → w (descriptor_word lanes c) ≡ 2 + 256 * chunks → InChunks w lanes c chunks
    whole_in c chunks in_zones is =
        let d : ℕ = w (descriptor_word lanes c) in
        let good = good_chunk w lanes zones c none in_zones in
        let high : d / 256 ≡ chunks = omega (arith, is) in
        let whole : class_in d ≡ Some (Chunks chunks) = whole_by_byte w lanes c good (omega (arith, is)) ∙ ap (λ n. Some (Chunks n)) high in
        record { some = some_chunks d chunks whole; fits = chunks_fit w lanes c chunks good whole; no_run = apart good whole } where
          apart : bad_chunk w lanes c ≡ false → class_in (w (descriptor_word lanes c)) ≡ Some (Chunks chunks) → (k : ℕ) → k < chunks → w (descriptor_word lanes (c + k)) % 256 ≢ 1
          apart good whole zero near run = let here : w (descriptor_word lanes (c + 0)) ≡ 2 + 256 * chunks = ap (λ n. w (descriptor_word lanes n)) (let same : c + 0 ≡ c = omega arith in same) ∙ is in omega (arith, here, run)
          apart good whole (suc k) near run =
              let here : w (descriptor_word lanes (c + suc k)) ≡ 0 = ap (λ n. w (descriptor_word lanes n)) (let same : c + suc k ≡ c + 1 + k = omega arith in same) ∙ further_zeros w lanes c chunks good whole k (omega (arith, near)) in omega (arith, here, run)
