-- The words that tell of blocks: those of the opening where a chunk was taken, and else what the memory has of the chunk's descriptor, and no block.
use Rattle.std.proofs.Common.{◌≡◌, ℕ, ◌+◌, ◌-◌, ◌*◌, ◌/◌, ◌%◌, ◌<◌, ◌≤◌, ◌⊎◌, inl, inr, ⊎_elim, true, false, not, cond, leb, ltb, eqb, ◌&&◌, ◌||◌, slice_index, sym, ap, ◌∙◌, arith, eq-eqb, subst}
use Rattle.std.specs.List.{list_any, range_with_len}
use Rattle.std.proofs.lemmas.Bool.{and_parts, and_from, cases_Bool, cond-true, cond-false, eqb-true, false_from_ne_true, false≢true, le-leb, leb-true, lt-ltb, ltb-true, ne_eqb, not-true, or_cases, or_left, or_parts, or_right}
use Rattle.solo_view.specs.Blocks.{zone_page, zone_of, chunk_of, descriptor_word, describes, bitmap_word, is_run, is_huge, is_chunk, page_told}
use Rattle.solo_view.specs.Occupancy.{describes_free, is_chunk_taken, reaches, is_taken}
use Rattle.solo_world.specs.Heap.{AreNewRuns, HasNoBlock, heap_words, is_free_bitmap}
use Rattle.solo_world.specs.Memory.{Memory}
use Rattle.solo_world.specs.Memory.Location.{PoolWord}
use Rattle.solo_world.specs.Opening.{IsChunk, IsPoolChunk, Opening, is_free_chunk}
use Rattle.solo_world.proofs.CrashReplays.{lane_some}
use Rattle.solo_world.proofs.Losses.{some_lane}
use Rattle.solo_view.specs.declared.occ.Occ.TheVariants.{Run}
use Rattle.pm_layout.specs.Sizes.{blocks_of}
use Rattle.std.specs.Int.{bit_at}

-- ---- where descriptors lie

pub describes_it : (lanes page : ℕ) → IsChunk lanes page → describes lanes (descriptor_word lanes page) ≡ true
describes_it lanes page chunk =
    let low = chunk.0 in let first = chunk.1 in
    let w : ℕ = descriptor_word lanes page in
    and_from (leb (zone_page lanes 0) (w / 512) && eqb (chunk_of lanes (w / 512)) 0) (ltb (w % 512) 64)
    (and_from (leb (zone_page lanes 0) (w / 512)) (eqb (chunk_of lanes (w / 512)) 0) (le-leb (zone_page lanes 0) (w / 512) (omega arith)) (eq-eqb (chunk_of lanes (w / 512)) 0 (omega arith)))
    (lt-ltb (w % 512) 64 (omega arith))

pub descriptor_zone : (lanes page : ℕ) → IsChunk lanes page → zone_of lanes (descriptor_word lanes page / 512) ≡ zone_of lanes page
descriptor_zone lanes page chunk = let low = chunk.0 in let first = chunk.1 in omega arith

pub descriptor_number : (lanes page : ℕ) → IsChunk lanes page → descriptor_word lanes page % 512 ≡ chunk_of lanes page - 1
descriptor_number lanes page chunk = let low = chunk.0 in let first = chunk.1 in omega arith

pub descriptor_tells : (lanes page : ℕ) → IsChunk lanes page → page_told lanes (descriptor_word lanes page) ≡ page
descriptor_tells lanes page chunk =
    let low = chunk.0 in let first = chunk.1 in
    let w : ℕ = descriptor_word lanes page in
    cond-true (describes lanes w) (w / 512 + 1 + w % 512) (w / 512) (describes_it lanes page chunk) ∙ omega arith

-- what a word describes
pub record Described (lanes w : ℕ) : Type 0 where
  pub low : zone_page lanes 0 ≤ w / 512
  pub first : chunk_of lanes (w / 512) ≡ 0
  pub few : w % 512 < 64

pub described : (lanes w : ℕ) → describes lanes w ≡ true → Described lanes w
described lanes w e =
    let t = and_parts (leb (zone_page lanes 0) (w / 512) && eqb (chunk_of lanes (w / 512)) 0) (ltb (w % 512) 64) e in
    let s = and_parts (leb (zone_page lanes 0) (w / 512)) (eqb (chunk_of lanes (w / 512)) 0) t.0 in
    record { low = leb-true (zone_page lanes 0) (w / 512) s.0; first = eqb-true (chunk_of lanes (w / 512)) 0 s.1; few = ltb-true (w % 512) 64 t.1 }

-- the page of the chunk that it describes
pub described_chunk : (lanes w : ℕ) → Described lanes w → IsChunk lanes (w / 512 + 1 + w % 512)
described_chunk lanes w d = let low = d.low in let first = d.first in let few = d.few in (omega arith, omega arith)

pub described_word : (lanes w : ℕ) → Described lanes w → descriptor_word lanes (w / 512 + 1 + w % 512) ≡ w
described_word lanes w d = let low = d.low in let first = d.first in let few = d.few in omega arith

-- the page of a zone's chunk
abbrev pub page_in : ℕ → ℕ → ℕ → ℕ
page_in lanes zone chunk = zone_page lanes zone + 1 + chunk

pub page_in_chunk : (lanes zone chunk : ℕ) → chunk < 64 → IsChunk lanes (page_in lanes zone chunk)
page_in_chunk lanes zone chunk low = (omega arith, omega arith)

pub page_in_zone : (lanes zone chunk : ℕ) → chunk < 64 → zone_of lanes (page_in lanes zone chunk) ≡ zone
page_in_zone lanes zone chunk low = omega arith

pub page_in_number : (lanes zone chunk : ℕ) → chunk < 64 → chunk_of lanes (page_in lanes zone chunk) - 1 ≡ chunk
page_in_number lanes zone chunk low = omega arith

pub page_in_word : (lanes zone chunk : ℕ) → chunk < 64 → descriptor_word lanes (page_in lanes zone chunk) ≡ 512 * zone_page lanes zone + chunk
page_in_word lanes zone chunk low = omega arith

-- ---- what the words that tell of blocks are

-- a chunk's descriptor describes what is free where the chunk is
pub describing_free : (o : Opening) (page : ℕ) → IsChunk o.lanes page → describes_free (slice_index o.words) o.lanes (descriptor_word o.lanes page) ≡ is_free_chunk (slice_index o.words) o.lanes page
describing_free o page chunk =
    ap (λ b. b && not (is_chunk_taken (slice_index o.words) o.lanes (zone_of o.lanes (descriptor_word o.lanes page / 512)) (descriptor_word o.lanes page % 512))) (describes_it o.lanes page chunk)
    ∙ (λ i. not (is_chunk_taken (slice_index o.words) o.lanes (descriptor_zone o.lanes page chunk i) (descriptor_number o.lanes page chunk i)))

pub no_chunk_page : (lanes page : ℕ) → chunk_of lanes page ≡ 0 → is_chunk lanes page ≡ false
no_chunk_page lanes page first = false_from_ne_true (is_chunk lanes page) (λ e. let some = leb-true 1 (chunk_of lanes page) (and_parts (leb (zone_page lanes 0) page) (leb 1 (chunk_of lanes page)) e).1 in absurd (omega (arith, some, first)))

module _ (o : Opening) (mem : Memory) where
  abbrev opening : ℕ → ℕ
  opening = slice_index o.words

  pub free_descriptor : (page : ℕ) → IsChunk o.lanes page → is_free_chunk opening o.lanes page ≡ true → heap_words o mem (descriptor_word o.lanes page) ≡ mem (PoolWord (descriptor_word o.lanes page))
  free_descriptor page chunk free = cond-true (describes_free opening o.lanes (descriptor_word o.lanes page)) _ _ (describing_free o page chunk ∙ free)

  -- a descriptor is no chunk's first word
  pub no_bitmap : (w : ℕ) → is_chunk o.lanes (w / 512) ≡ false → is_free_bitmap o w ≡ false
  no_bitmap w none = false_from_ne_true (is_free_bitmap o w) (λ e. false≢true (sym none ∙ (and_parts (eqb (w % 512) 0) (is_chunk o.lanes (w / 512)) (and_parts (eqb (w % 512) 0 && is_chunk o.lanes (w / 512)) _ e).0).1))

  pub taken_descriptor : (page : ℕ) → IsChunk o.lanes page → is_free_chunk opening o.lanes page ≡ false → heap_words o mem (descriptor_word o.lanes page) ≡ opening (descriptor_word o.lanes page)
  taken_descriptor page chunk taken =
      let w : ℕ = descriptor_word o.lanes page in
      let low = chunk.0 in let first = chunk.1 in
      cond-false (describes_free opening o.lanes w) _ _ (describing_free o page chunk ∙ taken)
      ∙ cond-false (is_free_bitmap o w) 0 (opening w) (no_bitmap w (no_chunk_page o.lanes (w / 512) (omega arith)))

  -- a chunk's word describes none
  not_describing : (page w : ℕ) → 1 ≤ chunk_of o.lanes page → w / 512 ≡ page → describes_free opening o.lanes w ≡ false
  not_describing page w some here = false_from_ne_true (describes_free opening o.lanes w) (λ e.
      let first = (described o.lanes w (and_parts (describes o.lanes w) _ e).0).first in absurd (omega (arith, first, some, here)))

  free_first : (page : ℕ) → IsChunk o.lanes page → is_free_bitmap o (bitmap_word page) ≡ is_free_chunk opening o.lanes page
  free_first page chunk =
      let w : ℕ = bitmap_word page in
      let here : w / 512 ≡ page = omega arith in
      let first : (eqb (w % 512) 0 && is_chunk o.lanes (w / 512)) ≡ true = and_from (eqb (w % 512) 0) (is_chunk o.lanes (w / 512)) (eq-eqb (w % 512) 0 (omega arith))
      (and_from (leb (zone_page o.lanes 0) (w / 512)) (leb 1 (chunk_of o.lanes (w / 512))) (le-leb (zone_page o.lanes 0) (w / 512) (let low = chunk.0 in omega (arith, here, low))) (le-leb 1 (chunk_of o.lanes (w / 512)) (let some = chunk.1 in omega (arith, here, some)))) in
      ap (λ b. b && is_free_chunk opening o.lanes (w / 512)) first ∙ ap (λ p. is_free_chunk opening o.lanes p) here

  pub free_bitmap : (page : ℕ) → IsChunk o.lanes page → is_free_chunk opening o.lanes page ≡ true → heap_words o mem (bitmap_word page) ≡ 0
  free_bitmap page chunk free =
      cond-false (describes_free opening o.lanes (bitmap_word page)) _ _ (not_describing page (bitmap_word page) chunk.1 (omega arith))
      ∙ cond-true (is_free_bitmap o (bitmap_word page)) 0 (opening (bitmap_word page)) (free_first page chunk ∙ free)

  pub taken_bitmap : (page : ℕ) → IsChunk o.lanes page → is_free_chunk opening o.lanes page ≡ false → heap_words o mem (bitmap_word page) ≡ opening (bitmap_word page)
  taken_bitmap page chunk taken =
      cond-false (describes_free opening o.lanes (bitmap_word page)) _ _ (not_describing page (bitmap_word page) chunk.1 (omega arith))
      ∙ cond-false (is_free_bitmap o (bitmap_word page)) 0 (opening (bitmap_word page)) (free_first page chunk ∙ taken)

-- ---- which chunks are taken

-- a free chunk is no run
pub free_no_run : (words : ℕ → ℕ) (lanes page : ℕ) → IsChunk lanes page → is_free_chunk words lanes page ≡ true → is_run (words (descriptor_word lanes page)) ≡ false
free_no_run words lanes page chunk free =
    let some = chunk.1 in
    let zone : ℕ = zone_of lanes page in
    let number : ℕ = chunk_of lanes page - 1 in
    let at : descriptor_word lanes page ≡ 512 * zone_page lanes zone + number = omega (arith, some) in
    ap (λ d. is_run (words d)) at
    ∙ (or_parts (is_run (words (512 * zone_page lanes zone + number))) (list_any (reaches words lanes zone number) (range_with_len 0 (number + 1))) (not-true (is_chunk_taken words lanes zone number) free)).0

-- the descriptor of a chunk without a block is no huge block's
pub no_huge : (words : ℕ → ℕ) (lanes page : ℕ) → HasNoBlock words lanes page → is_huge (words (descriptor_word lanes page)) ≡ false
no_huge words lanes page (inl zero) = ap is_huge zero
no_huge words lanes page (inr run) = ne_eqb (words (descriptor_word lanes page) % 256) 2 (λ e. absurd (let is = run.described in omega (arith, e, is)))

-- whether a zone's chunk is free, by its number
pub free_in : (words : ℕ → ℕ) (lanes zone chunk : ℕ) → chunk < 64 → is_free_chunk words lanes (page_in lanes zone chunk) ≡ not (is_chunk_taken words lanes zone chunk)
free_in words lanes zone chunk low = λ i. not (is_chunk_taken words lanes (page_in_zone lanes zone chunk low i) (page_in_number lanes zone chunk low i))

module _ (o : Opening) (mem : Memory) (new : AreNewRuns o (λ w. mem (PoolWord w))) where
  abbrev heap : ℕ → ℕ
  heap = heap_words o mem

  -- a free chunk has no block, as the words tell now
  pub now_no_block : (page : ℕ) → IsPoolChunk o.lanes o.zones page → is_free_chunk (slice_index o.words) o.lanes page ≡ true → HasNoBlock heap o.lanes page
  now_no_block page chunk free =
      let d = free_descriptor o mem page chunk.0 free in
      ⊎_elim (λ (zero : mem (PoolWord (descriptor_word o.lanes page)) ≡ 0). inl (d ∙ zero))
      (λ run. inr (record { lines = run.lines; some_blocks = run.some_blocks; described = d ∙ run.described; no_block = free_bitmap o mem page chunk.0 free })) (new page chunk free)

  module _ (zone chunk : ℕ) (in_pool : zone < o.zones) (low : chunk < 64) where
    -- by whether the chunk of a number was free: what its descriptor is now
    in_zone : (first : ℕ) → first ≤ chunk → IsPoolChunk o.lanes o.zones (page_in o.lanes zone first)
    in_zone first less = (page_in_chunk o.lanes zone first (omega (arith, less, low)), omega (arith, in_pool, less, low))

    abbrev word_of : ℕ → ℕ
    word_of first = 512 * zone_page o.lanes zone + first

    taken_word : (first : ℕ) → first ≤ chunk → is_chunk_taken (slice_index o.words) o.lanes zone first ≡ true → heap (word_of first) ≡ slice_index o.words (word_of first)
    taken_word first less taken =
        let few : first < 64 = omega (arith, less, low) in
        let at = page_in_word o.lanes zone first few in
        sym (ap heap at) ∙ (taken_descriptor o mem (page_in o.lanes zone first) (page_in_chunk o.lanes zone first few) (free_in (slice_index o.words) o.lanes zone first few ∙ ap not taken) ∙ ap (slice_index o.words) at)

    free_word : (first : ℕ) → first ≤ chunk → is_chunk_taken (slice_index o.words) o.lanes zone first ≡ false → is_huge (heap (word_of first)) ≡ false
    free_word first less free =
        let few : first < 64 = omega (arith, less, low) in
        let at = page_in_word o.lanes zone first few in
        ap (λ w. is_huge (heap w)) (sym at) ∙ no_huge heap o.lanes (page_in o.lanes zone first) (now_no_block (page_in o.lanes zone first) (in_zone first less) (free_in (slice_index o.words) o.lanes zone first few ∙ ap not free))

    -- a chunk that is reached from another, which is taken itself
    reaching : (words : ℕ → ℕ) (first : ℕ) → first ≤ chunk → reaches words o.lanes zone chunk first ≡ true → is_chunk_taken words o.lanes zone first ≡ true
    reaching words first less e =
        let t = and_parts (is_huge (words (word_of first))) (ltb chunk (first + words (word_of first) / 256)) e in
        let far = ltb-true chunk (first + words (word_of first) / 256) t.1 in
        or_right (is_run (words (word_of first))) (list_any (reaches words o.lanes zone first) (range_with_len 0 (first + 1)))
        (lane_some (reaches words o.lanes zone first) (first + 1) first (omega arith)
        (and_from (is_huge (words (word_of first))) (ltb first (first + words (word_of first) / 256)) t.0 (lt-ltb first (first + words (word_of first) / 256) (omega (arith, far, less)))))

    -- what was taken is
    pub taken_still : is_chunk_taken (slice_index o.words) o.lanes zone chunk ≡ true → is_chunk_taken heap o.lanes zone chunk ≡ true
    taken_still taken =
        ⊎_elim
        (λ (run : is_run (slice_index o.words (word_of chunk)) ≡ true). or_left (is_run (heap (word_of chunk))) (list_any (reaches heap o.lanes zone chunk) (range_with_len 0 (chunk + 1))) (ap is_run (taken_word chunk (omega arith) taken) ∙ run))
        (λ (reached : list_any (reaches (slice_index o.words) o.lanes zone chunk) (range_with_len 0 (chunk + 1)) ≡ true).
        let t = some_lane (reaches (slice_index o.words) o.lanes zone chunk) 0 (chunk + 1) reached in
        let less : t.0 ≤ chunk = let high = t.2 in omega arith in
        or_right (is_run (heap (word_of chunk))) (list_any (reaches heap o.lanes zone chunk) (range_with_len 0 (chunk + 1)))
        (lane_some (reaches heap o.lanes zone chunk) (chunk + 1) t.0 (let high = t.2 in omega arith) (ap (λ d. is_huge d && ltb chunk (t.0 + d / 256)) (taken_word t.0 less (reaching (slice_index o.words) t.0 less t.3)) ∙ t.3)))
        (or_cases (is_run (slice_index o.words (word_of chunk))) (list_any (reaches (slice_index o.words) o.lanes zone chunk) (range_with_len 0 (chunk + 1))) taken)

    -- and what is taken was, or is a new run
    pub taken_before : is_chunk_taken heap o.lanes zone chunk ≡ true → (is_chunk_taken (slice_index o.words) o.lanes zone chunk ≡ true) ⊎ (is_run (heap (word_of chunk)) ≡ true)
    taken_before taken =
        ⊎_elim inr
        (λ (reached : list_any (reaches heap o.lanes zone chunk) (range_with_len 0 (chunk + 1)) ≡ true).
        let t = some_lane (reaches heap o.lanes zone chunk) 0 (chunk + 1) reached in
        let less : t.0 ≤ chunk = let high = t.2 in omega arith in
        ⊎_elim
        (λ (was : is_chunk_taken (slice_index o.words) o.lanes zone t.0 ≡ true). inl (or_right (is_run (slice_index o.words (word_of chunk))) (list_any (reaches (slice_index o.words) o.lanes zone chunk) (range_with_len 0 (chunk + 1)))
        (lane_some (reaches (slice_index o.words) o.lanes zone chunk) (chunk + 1) t.0 (let high = t.2 in omega arith) (ap (λ d. is_huge d && ltb chunk (t.0 + d / 256)) (sym (taken_word t.0 less was)) ∙ t.3))))
        (λ (free : is_chunk_taken (slice_index o.words) o.lanes zone t.0 ≡ false). absurd (false≢true (sym (free_word t.0 less free) ∙ (and_parts (is_huge (heap (word_of t.0))) _ t.3).0)))
        (cases_Bool (is_chunk_taken (slice_index o.words) o.lanes zone t.0)))
        (or_cases (is_run (heap (word_of chunk))) (list_any (reaches heap o.lanes zone chunk) (range_with_len 0 (chunk + 1))) taken)

-- ---- where descriptors stay

-- each chunk's descriptor is as it was
abbrev pub AreDescribedSame : Opening → Memory → Memory → Type 0
AreDescribedSame o old new = (page : ℕ) → IsChunk o.lanes page → new (PoolWord (descriptor_word o.lanes page)) ≡ old (PoolWord (descriptor_word o.lanes page))

pub heap_same : (o : Opening) (old new : Memory) → AreDescribedSame o old new → heap_words o new ≡ heap_words o old
heap_same o old new same = λ i w. each w i where
  each : (w : ℕ) → heap_words o new w ≡ heap_words o old w
  each w =
      let rest : ℕ = cond (is_free_bitmap o w) 0 (slice_index o.words w) in
      ⊎_elim
      (λ (free : describes_free (slice_index o.words) o.lanes w ≡ true).
      let d = described o.lanes w (and_parts (describes o.lanes w) _ free).0 in
      let at = described_word o.lanes w d in
      ap (λ x. cond (describes_free (slice_index o.words) o.lanes w) x rest) (ap (λ u. new (PoolWord u)) (sym at) ∙ (same (w / 512 + 1 + w % 512) (described_chunk o.lanes w d) ∙ ap (λ u. old (PoolWord u)) at)))
      (λ (none : describes_free (slice_index o.words) o.lanes w ≡ false).
      cond-false (describes_free (slice_index o.words) o.lanes w) (new (PoolWord w)) rest none ∙ sym (cond-false (describes_free (slice_index o.words) o.lanes w) (old (PoolWord w)) rest none))
      (cases_Bool (describes_free (slice_index o.words) o.lanes w))

-- the new runs of a memory of the same words
pub runs_same : (o : Opening) (old new : Memory) → ((w : ℕ) → new (PoolWord w) ≡ old (PoolWord w)) → AreNewRuns o (λ w. old (PoolWord w)) → AreNewRuns o (λ w. new (PoolWord w))
runs_same o old new same runs = subst (AreNewRuns o) (λ i w. sym (same w) i) runs

pub words_described : (o : Opening) (old new : Memory) → ((w : ℕ) → new (PoolWord w) ≡ old (PoolWord w)) → AreDescribedSame o old new
words_described o old new same page chunk = same (descriptor_word o.lanes page)

-- ---- of what is no run each block is taken

pub no_run_taken : (words : ℕ → ℕ) (lanes place bit : ℕ) → is_run (words (descriptor_word lanes (place / 4096))) ≡ false → is_taken words lanes (Run place) bit ≡ true
no_run_taken words lanes place bit none =
    let d : ℕ = words (descriptor_word lanes (place / 4096)) in
    or_left (not (is_run d) || leb (blocks_of (d / 256)) bit) (eqb (bit_at (words (bitmap_word (place / 4096))) bit) 1) (or_left (not (is_run d)) (leb (blocks_of (d / 256)) bit) (ap not none))
