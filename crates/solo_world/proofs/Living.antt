-- Which words are living: those that a lock guards, and those that tell of the blocks in chunks that were taken.
use Rattle.std.proofs.Common.{◌≡◌, ℕ, ◌+◌, ◌*◌, ◌/◌, ◌%◌, ◌<◌, ◌⊎◌, ◌-◌, inl, inr, ⊎_elim, Bool, true, false, not, leb, eqb, ◌&&◌, ◌||◌, IsTrue, length, slice_index, sym, ap, ◌∙◌, subst, arith, eq-eqb}
use Rattle.std.proofs.lemmas.Bool.{and_parts, and_right, false≢true, false_from_ne_true, leb-true}
use Rattle.solo_view.specs.Blocks.{zone_page, zone_of, chunk_of, descriptor_word, describes, bitmap_word, is_run, is_chunk}
use Rattle.solo_view.specs.Occupancy.{describes_free, is_chunk_taken, is_idle, is_in_block}
use Rattle.pm_image.specs.Reads.{IsHeapWord}
use Rattle.solo_world.specs.Opening.{Guards, IsChunk, IsLivingWord, IsSound, Opening, is_free_chunk}
use Rattle.solo_world.proofs.HeapWords.{described, describing_free}
use Rattle.solo_world.proofs.Reserved.{is_chunk_from}

-- the parts of what makes a word idle
not_idle : (describes chunk block bitmap : Bool) → describes ≡ false → (chunk ≡ true → block ≡ false → bitmap ≡ true) → (describes || chunk && not block && not bitmap) ≡ false
not_idle describes false block bitmap none tells = ap (λ b. b || false) none
not_idle describes true true bitmap none tells = ap (λ b. b || false) none
not_idle describes true false bitmap none tells = (λ i. none i || not (tells (λ j. true) (λ j. false) i))

-- a word of a chunk describes none
pub chunk_describes : (words : ℕ → ℕ) (lanes w : ℕ) → is_chunk lanes (w / 512) ≡ true → describes_free words lanes w ≡ false
chunk_describes words lanes w chunk = false_from_ne_true (describes_free words lanes w) (λ e.
    let first = (described lanes w (and_parts (describes lanes w) _ e).0).first in
    let some = leb-true 1 (chunk_of lanes (w / 512)) (and_parts (leb (zone_page lanes 0) (w / 512)) (leb 1 (chunk_of lanes (w / 512))) chunk).1 in absurd (omega (arith, first, some)))

-- a word of an allocated block lies in a chunk
pub block_chunk : (words : ℕ → ℕ) (lanes w : ℕ) → is_in_block words lanes w ≡ true → is_chunk lanes (w / 512) ≡ true
block_chunk words lanes w inside = (and_parts (is_chunk lanes (w / 512)) _ (and_parts (is_chunk lanes (w / 512) && is_chunk_taken words lanes (zone_of lanes (w / 512)) (chunk_of lanes (w / 512) - 1)) _ inside).0).0

-- each word of an allocated block is living
pub living_block : (o : Opening) (w : ℕ) → IsHeapWord o.lanes o.zones w → is_in_block (slice_index o.words) o.lanes w ≡ true → IsLivingWord o w
living_block o w heap inside = record {
  heap = heap;
  living = not_idle (describes_free (slice_index o.words) o.lanes w) (is_chunk o.lanes (w / 512)) (is_in_block (slice_index o.words) o.lanes w) (eqb (w % 512) 0 && is_run (slice_index o.words (descriptor_word o.lanes (w / 512))))
      (chunk_describes (slice_index o.words) o.lanes w (block_chunk (slice_index o.words) o.lanes w inside))
      (λ chunk outside. absurd (false≢true (sym outside ∙ inside)));
}

-- what a lock guards lies in an allocated block
pub guarded_lives : (o : Opening) → IsSound o → (line w : ℕ) → Guards o line w → IsLivingWord o w
guarded_lives o sound line w guard =
    let size = sound.size in
    let within = sound.within line w guard in
    living_block o w (inr (sound.behind_areas line w guard, omega arith)) (sound.in_blocks line w guard)

-- the page of a zone's descriptors is no chunk
no_chunk : (lanes page : ℕ) → chunk_of lanes page ≡ 0 → is_chunk lanes page ≡ false
no_chunk lanes page first = and_right (leb (zone_page lanes 0) page) (leb 1 (chunk_of lanes page)) (ap (leb 1) first)

pub descriptor_page : (lanes page : ℕ) → IsChunk lanes page → is_chunk lanes (descriptor_word lanes page / 512) ≡ false
descriptor_page lanes page chunk =
    let low = chunk.0 in let first = chunk.1 in
    no_chunk lanes (descriptor_word lanes page / 512) (omega arith)

-- a run's bitmap is living
bitmap_lives : (o : Opening) (page : ℕ) → IsChunk o.lanes page → IsTrue (is_run (slice_index o.words (descriptor_word o.lanes page))) → is_idle (slice_index o.words) o.lanes (bitmap_word page) ≡ false
bitmap_lives o page chunk run =
    let w : ℕ = bitmap_word page in
    let here : w / 512 ≡ page = omega arith in
    not_idle (describes_free (slice_index o.words) o.lanes w) (is_chunk o.lanes (w / 512)) (is_in_block (slice_index o.words) o.lanes w) (eqb (w % 512) 0 && is_run (slice_index o.words (descriptor_word o.lanes (w / 512))))
    (chunk_describes (slice_index o.words) o.lanes w (ap (is_chunk o.lanes) here ∙ is_chunk_from o.lanes page chunk))
    (λ at outside. both (eqb (w % 512) 0) _ (eq-eqb (w % 512) 0 (omega arith)) (subst (λ p. is_run (slice_index o.words (descriptor_word o.lanes p)) ≡ true) (sym here) run))
  where
    both : (a b : Bool) → a ≡ true → b ≡ true → (a && b) ≡ true
    both a b one two = (λ i. one i && b) ∙ two

-- so is the descriptor of a chunk that is taken
descriptor_lives : (o : Opening) (page : ℕ) → IsChunk o.lanes page → is_free_chunk (slice_index o.words) o.lanes page ≡ false → is_idle (slice_index o.words) o.lanes (descriptor_word o.lanes page) ≡ false
descriptor_lives o page chunk taken =
    let w : ℕ = descriptor_word o.lanes page in
    not_idle (describes_free (slice_index o.words) o.lanes w) (is_chunk o.lanes (w / 512)) (is_in_block (slice_index o.words) o.lanes w) (eqb (w % 512) 0 && is_run (slice_index o.words (descriptor_word o.lanes (w / 512))))
    (describing_free o page chunk ∙ taken) (λ at outside. absurd (false≢true (sym (descriptor_page o.lanes page chunk) ∙ at)))

-- the word tells of a chunk that was taken: it is its descriptor, or its bitmap where it is a run
abbrev pub TellsOf : Opening → ℕ → ℕ → Type 0
TellsOf o page w = (w ≡ descriptor_word o.lanes page) ⊎ ((w ≡ bitmap_word page) × IsTrue (is_run (slice_index o.words (descriptor_word o.lanes page))))

-- what tells of such a chunk is living
pub told_lives : (o : Opening) → IsSound o → (page w : ℕ) → IsChunk o.lanes page → is_free_chunk (slice_index o.words) o.lanes page ≡ false → TellsOf o page w → w < length o.words → IsLivingWord o w
told_lives o sound page w chunk taken tells within =
    let size = sound.size in let low = chunk.0 in let first = chunk.1 in record {
      heap = inr (⊎_elim (λ (e : w ≡ descriptor_word o.lanes page). omega (arith, e, first)) (λ (t : (w ≡ bitmap_word page) × IsTrue (is_run (slice_index o.words (descriptor_word o.lanes page)))). let e = t.0 in omega (arith, e, low)) tells, omega arith);
      living = ⊎_elim (λ (e : w ≡ descriptor_word o.lanes page). subst (λ u. is_idle (slice_index o.words) o.lanes u ≡ false) (sym e) (descriptor_lives o page chunk taken))
          (λ (t : (w ≡ bitmap_word page) × IsTrue (is_run (slice_index o.words (descriptor_word o.lanes page)))). subst (λ u. is_idle (slice_index o.words) o.lanes u ≡ false) (sym t.0) (bitmap_lives o page chunk t.1))
          tells;
    }

-- a word before the zones is not idle
pub before_zones : (o : Opening) (w : ℕ) → w < 512 + 1024 * o.lanes → is_idle (slice_index o.words) o.lanes w ≡ false
before_zones o w low =
    let front : is_chunk o.lanes (w / 512) ≡ false = false_from_ne_true (is_chunk o.lanes (w / 512)) (λ e. absurd (let behind = leb-true (zone_page o.lanes 0) (w / 512) (and_parts (leb (zone_page o.lanes 0) (w / 512)) (leb 1 (chunk_of o.lanes (w / 512))) e).0 in omega arith)) in
    not_idle (describes_free (slice_index o.words) o.lanes w) (is_chunk o.lanes (w / 512)) (is_in_block (slice_index o.words) o.lanes w) (eqb (w % 512) 0 && is_run (slice_index o.words (descriptor_word o.lanes (w / 512))))
    (false_from_ne_true (describes_free (slice_index o.words) o.lanes w) (λ e. let behind = (described o.lanes w (and_parts (describes o.lanes w) _ e).0).low in absurd (omega (arith, behind, low))))
    (λ at outside. absurd (false≢true (sym front ∙ at)))

-- so is the root's word
pub root_lives : (o : Opening) → IsLivingWord o 64
root_lives o = record {
  heap = inl (λ i. 64);
  living = before_zones o 64 (omega arith);
}
