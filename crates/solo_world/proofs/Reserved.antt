-- What a lane reserved lies behind the lanes' areas, and in no block that is allocated; so no lock guards it.
use Rattle.std.proofs.Common.{◌≡◌, ℕ, ◌+◌, ◌-◌, ◌*◌, ◌/◌, ◌%◌, ◌<◌, ◌≤◌, ◌⊎◌, inl, inr, ⊎_elim, Bool, true, false, not, leb, eqb, ◌&&◌, ◌||◌, All, List, [], ◌∷◌, slice_index, refl, sym, ap, ◌∙◌, subst, arith, eq-eqb, ◌^◌}
use Rattle.std.specs.Int.{bit_at}
use Rattle.std.specs.List.{list_any}
use Rattle.std.proofs.lemmas.Bool.{and_parts, and_from, cases_Bool, cond-false, cond-true, false_from_ne_true, le-leb, not_from_false, or_cases, or_left, or_right, or_parts, leb-true, eqb-true, false≢true, cases_lt}
use Rattle.std.proofs.lemmas.List.Elements.{All-head, All-tail, All-contains}
use Rattle.pm_layout.specs.Sizes.{blocks_of}
use Rattle.solo_view.specs.declared.occ.Occ.{Occ}
use Rattle.solo_view.specs.declared.occ.Occ.TheVariants.{Run, Zone}
use Rattle.solo_view.specs.Blocks.{zone_page, zone_of, chunk_of, descriptor_word, describes, bitmap_word, is_run, is_chunk, page_told, covers}
use Rattle.solo_view.specs.Held.{is_reserved}
use Rattle.solo_view.specs.Occupancy.{describes_free, is_block_taken, is_chunk_taken, is_idle, is_in_block, is_unread}
use Rattle.solo_view.specs.View.{View, Taken}
use Rattle.solo_view.specs.Views.{chunk_bit, has_bit, is_same_occ, reserves, zone_at, has_chunk}
use Rattle.solo_world.specs.Heap.{BlocksFit, IsFree, IsOcc, describing, heap_words}
use Rattle.solo_world.specs.Memory.{Memory}
use Rattle.solo_world.specs.Opening.{IsChunk, Opening, is_free_chunk}
use Rattle.solo_world.proofs.HeapWords.{described, free_no_run, no_chunk_page, taken_bitmap, taken_descriptor, page_in, page_in_chunk, page_in_word, descriptor_tells}
use Rattle.std.proofs.lemmas.List.Folds.{Any-from_list_any}
use Rattle.std.proofs.lemmas.Nat.Bits.{bit_at_above}
use Rattle.solo_world.specs.Lawful.{MayDescribe}

pub same_occ : (at : Occ) → is_same_occ at at ≡ true
same_occ (Run place) = eq-eqb place place refl
same_occ (Zone zone) = eq-eqb zone zone refl

pub occ_same : (at other : Occ) → is_same_occ at other ≡ true → at ≡ other
occ_same (Run place) (Run other) e = ap Run (eqb-true place other e)
occ_same (Run place) (Zone other) e = absurd (false≢true e)
occ_same (Zone zone) (Run other) e = absurd (false≢true e)
occ_same (Zone zone) (Zone other) e = ap Zone (eqb-true zone other e)

pub bit_had : (t : Taken) (bit : ℕ) → bit_at t.bits bit ≡ 1 → has_bit t.at bit t ≡ true
bit_had t bit set = and_from (is_same_occ t.at t.at) (eqb (bit_at t.bits bit) 1) (same_occ t.at) (eq-eqb (bit_at t.bits bit) 1 set)

-- what is held by the one part or the other is so still, where each part is
pub held_by_parts : (core core' own own' : Bool) → (core ≡ true → core' ≡ true) → (own ≡ true → own' ≡ true) → (core || own) ≡ true → (core' || own') ≡ true
held_by_parts core core' own own' first second e =
    ⊎_elim (λ (one : core ≡ true). or_left core' own' (first one)) (λ (two : own ≡ true). or_right core' own' (second two)) (or_cases core own e)

-- by its page the word is a chunk's, behind the lanes' areas
pub behind_page : (lanes page : ℕ) → is_chunk lanes page ≡ true → 1 + 2 * lanes ≤ page
behind_page lanes page e = let low = leb-true (zone_page lanes 0) page (and_parts (leb (zone_page lanes 0) page) (leb 1 (chunk_of lanes page)) e).0 in omega arith

-- a word of a chunk that is in no allocated block and no run's bitmap is idle
pub idle_from : (words : ℕ → ℕ) (lanes w : ℕ) → is_chunk lanes (w / 512) ≡ true → (is_in_block words lanes w ≡ true → ⊥) → (w % 512 ≡ 0 → is_run (words (descriptor_word lanes (w / 512))) ≡ true → ⊥)
    → is_idle words lanes w ≡ true
idle_from words lanes w chunk outside no_bitmap =
    let bitmap : Bool = eqb (w % 512) 0 && is_run (words (descriptor_word lanes (w / 512))) in
    let none : bitmap ≡ false = false_from_ne_true bitmap (λ e. let t = and_parts (eqb (w % 512) 0) (is_run (words (descriptor_word lanes (w / 512)))) e in no_bitmap (eqb-true (w % 512) 0 t.0) t.1) in
    or_right (describes_free words lanes w) (is_unread words lanes w)
    (and_from (is_chunk lanes (w / 512) && not (is_in_block words lanes w)) (not bitmap)
    (and_from (is_chunk lanes (w / 512)) (not (is_in_block words lanes w)) chunk (not_from_false (is_in_block words lanes w) (false_from_ne_true (is_in_block words lanes w) outside)))
    (not_from_false bitmap none))

-- the word lies behind the lanes' areas, in the zones, and in no allocated block; no meaning reads it
pub record IsApart (words : ℕ → ℕ) (lanes zones w : ℕ) : Type 0 where
  pub outside : is_in_block words lanes w ≡ true → ⊥
  pub idle : is_idle words lanes w ≡ true
  pub behind : 512 + 1024 * lanes ≤ w
  pub within : w < 512 + 1024 * lanes + 33280 * zones

-- a word that one of a run's blocks has, whose lines these words tell
pub record InRun (lanes : ℕ) (picture : List ℕ) (place bits w : ℕ) : Type 0 where
  pub here : w / 512 ≡ place / 4096
  pub beyond : 8 ≤ w % 512
  pub set : bit_at bits ((w % 512 / 8 - 1) / (slice_index picture (descriptor_word lanes (place / 4096)) / 256)) ≡ 1

pub in_run : (lanes : ℕ) (picture : List ℕ) (place bits w : ℕ) → covers lanes picture (Run place) bits w ≡ true → InRun lanes picture place bits w
in_run lanes picture place bits w covered =
    let first = and_parts (eqb (w / 512) (place / 4096) && leb 8 (w % 512)) (eqb (bit_at bits ((w % 512 / 8 - 1) / (slice_index picture (descriptor_word lanes (place / 4096)) / 256))) 1) covered in
    let second = and_parts (eqb (w / 512) (place / 4096)) (leb 8 (w % 512)) first.0 in
    record { here = eqb-true (w / 512) (place / 4096) second.0; beyond = leb-true 8 (w % 512) second.1; set = eqb-true _ 1 first.1 }

-- a word that lies in one of a zone's chunks, or describes it
pub record InChunk (lanes zone bits w : ℕ) : Type 0 where
  pub chunk : IsChunk lanes (page_told lanes w)
  pub zoned : zone_of lanes (page_told lanes w) ≡ zone
  pub set : bit_at bits (chunk_of lanes (page_told lanes w) - 1) ≡ 1

pub in_chunk : (lanes : ℕ) (picture : List ℕ) (zone bits w : ℕ) → covers lanes picture (Zone zone) bits w ≡ true → InChunk lanes zone bits w
in_chunk lanes picture zone bits w covered =
    let page : ℕ = page_told lanes w in
    let first = and_parts (is_chunk lanes page && eqb (zone_of lanes page) zone) (eqb (bit_at bits (chunk_of lanes page - 1)) 1) covered in
    let second = and_parts (is_chunk lanes page) (eqb (zone_of lanes page) zone) first.0 in
    let third = and_parts (leb (zone_page lanes 0) page) (leb 1 (chunk_of lanes page)) second.0 in
    record { chunk = (leb-true (zone_page lanes 0) page third.0, leb-true 1 (chunk_of lanes page) third.1); zoned = eqb-true (zone_of lanes page) zone second.1; set = eqb-true _ 1 first.1 }

-- a word that describes no chunk and tells of a page lies in it
pub told_here : (lanes w : ℕ) → describes lanes w ≡ false → page_told lanes w ≡ w / 512
told_here lanes w none = cond-false (describes lanes w) (w / 512 + 1 + w % 512) (w / 512) none

pub told_behind : (lanes w : ℕ) → describes lanes w ≡ true → page_told lanes w ≡ w / 512 + 1 + w % 512
told_behind lanes w so = cond-true (describes lanes w) (w / 512 + 1 + w % 512) (w / 512) so

-- a word of a chunk describes none
pub chunk_word_here : (lanes w : ℕ) → 1 ≤ chunk_of lanes (w / 512) → page_told lanes w ≡ w / 512
chunk_word_here lanes w some = told_here lanes w (false_from_ne_true (describes lanes w) (λ e. let first = (described lanes w e).first in absurd (omega (arith, first, some))))

pub is_chunk_from : (lanes page : ℕ) → IsChunk lanes page → is_chunk lanes page ≡ true
is_chunk_from lanes page chunk = and_from (leb (zone_page lanes 0) page) (leb 1 (chunk_of lanes page)) (le-leb (zone_page lanes 0) page chunk.0) (le-leb 1 (chunk_of lanes page) chunk.1)

module _ (o : Opening) (mem : Memory) (picture : List ℕ) (w : ℕ) where
  abbrev page : ℕ
  page = w / 512

  abbrev heap : ℕ → ℕ
  heap = heap_words o mem

  abbrev lanes : ℕ
  lanes = o.lanes

  -- what the lane reserved of one word: free, and as its picture describes it
  pub record IsHeld (at : Occ) (bits : ℕ) : Type 0 where
    pub of_pool : IsOcc o.lanes o.zones at
    pub free : (bit : ℕ) → bit_at bits bit ≡ 1 → IsFree o (heap_words o mem) at bit
    pub described : (bit : ℕ) → bit_at bits bit ≡ 1 → slice_index picture (describing o.lanes at bit) ≡ heap_words o mem (describing o.lanes at bit)

  -- the lines of the run's blocks are those that the words tell
  run_lines : (place bits : ℕ) → IsHeld (Run place) bits → (c : InRun lanes picture place bits w) → slice_index picture (descriptor_word lanes (place / 4096)) / 256 ≡ heap (descriptor_word lanes page) / 256
  run_lines place bits held c = ap (λ d. d / 256) (held.described _ c.set) ∙ ap (λ p. heap (descriptor_word lanes p) / 256) (sym c.here)

  abbrev block : ℕ
  block = (w % 512 / 8 - 1) / (heap (descriptor_word lanes page) / 256)

  run_set : (place bits : ℕ) → IsHeld (Run place) bits → (c : InRun lanes picture place bits w) → bit_at bits block ≡ 1
  run_set place bits held c = ap (λ n. bit_at bits ((w % 512 / 8 - 1) / n)) (sym (run_lines place bits held c)) ∙ c.set

  run_free : (place bits : ℕ) → IsHeld (Run place) bits → (c : InRun lanes picture place bits w) → is_block_taken heap lanes page block ≡ false
  run_free place bits held c = subst (λ p. is_block_taken heap lanes p block ≡ false) (sym c.here) (held.free block (run_set place bits held c))

  -- a word of these blocks, each of which is free, is in no block that was allocated at the opening
  apart_at : (at : Occ) (bits : ℕ) → IsHeld at bits → covers o.lanes picture at bits w ≡ true → IsApart (slice_index o.words) o.lanes o.zones w
  apart_at (Run place) bits held covered =
      let c = in_run lanes picture place bits w covered in
      let here = c.here in let beyond = c.beyond in
      let clear = run_free place bits held c in
      let low = held.of_pool.1.0 in let some = held.of_pool.1.1 in
      let high = held.of_pool.2 in
      let chunk : IsChunk lanes page = subst (IsChunk lanes) (sym here) held.of_pool.1 in
      let parts = or_parts (not (is_run (heap (descriptor_word lanes page))) || leb (blocks_of (heap (descriptor_word lanes page) / 256)) block) (eqb (bit_at (heap (bitmap_word page)) block) 1) clear in
      let run : not (is_run (heap (descriptor_word lanes page))) ≡ false = (or_parts (not (is_run (heap (descriptor_word lanes page)))) (leb (blocks_of (heap (descriptor_word lanes page) / 256)) block) parts.0).0 in
      let not_in : is_in_block (slice_index o.words) lanes w ≡ true → ⊥ = λ inside.
      let both = and_parts (is_chunk lanes page && is_chunk_taken (slice_index o.words) lanes (zone_of lanes page) (chunk_of lanes page - 1))
      (not (is_run (slice_index o.words (descriptor_word lanes page))) || leb 8 (w % 512) && eqb (bit_at (slice_index o.words (bitmap_word page)) ((w % 512 / 8 - 1) / (slice_index o.words (descriptor_word lanes page) / 256))) 1) inside in
      let taken : is_free_chunk (slice_index o.words) lanes page ≡ false = ap not (and_parts (is_chunk lanes page) (is_chunk_taken (slice_index o.words) lanes (zone_of lanes page) (chunk_of lanes page - 1)) both.0).1 in
      let d = taken_descriptor o mem page chunk taken in let m = taken_bitmap o mem page chunk taken in
      let now : (not (is_run (heap (descriptor_word lanes page))) || leb 8 (w % 512) && eqb (bit_at (heap (bitmap_word page)) block) 1) ≡ true =
      (λ i. not (is_run (d i)) || leb 8 (w % 512) && eqb (bit_at (m i) ((w % 512 / 8 - 1) / (d i / 256))) 1) ∙ both.1 in
      ⊎_elim (λ (none : not (is_run (heap (descriptor_word lanes page))) ≡ true). false≢true (sym run ∙ none))
      (λ (allocated : (leb 8 (w % 512) && eqb (bit_at (heap (bitmap_word page)) block) 1) ≡ true). false≢true (sym parts.1 ∙ (and_parts (leb 8 (w % 512)) (eqb (bit_at (heap (bitmap_word page)) block) 1) allocated).1))
      (or_cases (not (is_run (heap (descriptor_word lanes page)))) (leb 8 (w % 512) && eqb (bit_at (heap (bitmap_word page)) block) 1) now) in record {
        outside = not_in;
        idle = idle_from (slice_index o.words) lanes w (is_chunk_from lanes page chunk) not_in (λ first_word. absurd (omega (arith, first_word, beyond)));
        behind = omega (arith, here, low);
        within = omega (arith, here, high);
      }
  apart_at (Zone zone) bits held covered =
      let c = in_chunk lanes picture zone bits w covered in
      let clear : is_chunk_taken (slice_index o.words) lanes zone (chunk_of lanes (page_told lanes w) - 1) ≡ false = held.free _ c.set in
      let of_pool = held.of_pool in
      ⊎_elim
      (λ (so : describes lanes w ≡ true).
      let d = described lanes w so in
      let low = d.low in let first = d.first in let few = d.few in let in_zone = c.zoned in
      let told = told_behind lanes w so in
      let zoned : zone_of lanes (w / 512) ≡ zone = omega (arith, told, in_zone, low, first, few) in
      let number : chunk_of lanes (page_told lanes w) - 1 ≡ w % 512 = omega (arith, told, low, first, few) in record {
        outside = λ inside. let chunk = (and_parts (is_chunk lanes page) _ (and_parts (is_chunk lanes page && is_chunk_taken (slice_index o.words) lanes (zone_of lanes page) (chunk_of lanes page - 1)) _ inside).0).0 in
            false≢true (sym (no_chunk_page lanes page first) ∙ chunk);
        idle = or_left (describes_free (slice_index o.words) lanes w) (is_unread (slice_index o.words) lanes w)
            (and_from (describes lanes w) (not (is_chunk_taken (slice_index o.words) lanes (zone_of lanes (w / 512)) (w % 512))) so (not_from_false (is_chunk_taken (slice_index o.words) lanes (zone_of lanes (w / 512)) (w % 512)) ((λ i. is_chunk_taken (slice_index o.words) lanes (zoned i) (sym number i)) ∙ clear)));
        behind = omega (arith, low);
        within = omega (arith, zoned, of_pool, low, first, few);
      })
      (λ (none : describes lanes w ≡ false).
      let told = told_here lanes w none in
      let chunk : IsChunk lanes page = subst (IsChunk lanes) told c.chunk in
      let low = chunk.0 in let some = chunk.1 in
      let in_zone : zone_of lanes page ≡ zone = ap (zone_of lanes) (sym told) ∙ c.zoned in
      let free : is_chunk_taken (slice_index o.words) lanes (zone_of lanes page) (chunk_of lanes page - 1) ≡ false = (λ i. is_chunk_taken (slice_index o.words) lanes (in_zone i) (chunk_of lanes (sym told i) - 1)) ∙ clear in
      let not_in : is_in_block (slice_index o.words) lanes w ≡ true → ⊥ = λ inside.
      let both = and_parts (is_chunk lanes page) (is_chunk_taken (slice_index o.words) lanes (zone_of lanes page) (chunk_of lanes page - 1)) (and_parts (is_chunk lanes page && is_chunk_taken (slice_index o.words) lanes (zone_of lanes page) (chunk_of lanes page - 1)) _ inside).0 in
      false≢true (sym free ∙ both.1) in record {
        outside = not_in;
        idle = idle_from (slice_index o.words) lanes w (is_chunk_from lanes page chunk) not_in
            (λ first_word run. false≢true (sym (free_no_run (slice_index o.words) lanes page chunk (not_from_false (is_chunk_taken (slice_index o.words) lanes (zone_of lanes page) (chunk_of lanes page - 1)) free)) ∙ run));
        behind = omega (arith, low);
        within = omega (arith, in_zone, of_pool);
      })
      (cases_Bool (describes lanes w))

  -- the bit that stands for the word's chunk is had, or that of the run's block
  abbrev pub IsBitHad : (Occ → ℕ → Bool) → Type 0
  IsBitHad has =
      (has (zone_at o.lanes (page_told o.lanes w)) (chunk_bit o.lanes (page_told o.lanes w)) ≡ true)
      ⊎ (IsChunk o.lanes (w / 512) × (has (Run (4096 * (w / 512))) ((w % 512 / 8 - 1) / (heap_words o mem (descriptor_word o.lanes (w / 512)) / 256)) ≡ true))

  bit_of_one : (at : Occ) (bits : ℕ) → IsHeld at bits → covers o.lanes picture at bits w ≡ true → IsBitHad (λ other bit. has_bit other bit (record { at = at; bits = bits }))
  bit_of_one (Run place) bits held covered =
      let c = in_run lanes picture place bits w covered in
      let here = c.here in
      let aligned = held.of_pool.0 in
      inr (
        subst (IsChunk lanes) (sym here) held.of_pool.1,
        and_from (eqb (4096 * page) place) (eqb (bit_at bits block) 1) (eq-eqb (4096 * page) place (omega (arith, here, aligned))) (eq-eqb (bit_at bits block) 1 (run_set place bits held c)),
      )
  bit_of_one (Zone zone) bits held covered =
      let c = in_chunk lanes picture zone bits w covered in
      inl (and_from (eqb (zone_of lanes (page_told lanes w)) zone) (eqb (bit_at bits (chunk_of lanes (page_told lanes w) - 1)) 1) (eq-eqb (zone_of lanes (page_told lanes w)) zone c.zoned) (eq-eqb (bit_at bits (chunk_of lanes (page_told lanes w) - 1)) 1 c.set))

  -- the lane's blocks, by what holds of each bit of them
  pub record AreHeld (blocks : List Taken) : Type 0 where
    pub of_pool : All (λ (t : Taken). IsOcc o.lanes o.zones t.at) blocks
    pub free : (at : Occ) (bit : ℕ) → list_any (has_bit at bit) blocks ≡ true → IsFree o (heap_words o mem) at bit
    pub described : (at : Occ) (bit : ℕ) → list_any (has_bit at bit) blocks ≡ true → slice_index picture (describing o.lanes at bit) ≡ heap_words o mem (describing o.lanes at bit)

  first_held : (t : Taken) (blocks : List Taken) → AreHeld (t ∷ blocks) → IsHeld t.at t.bits
  first_held t blocks held = record {
    of_pool = All-head (λ (u : Taken). IsOcc o.lanes o.zones u.at) t blocks held.of_pool;
    free = λ bit set. held.free t.at bit (or_left (has_bit t.at bit t) (list_any (has_bit t.at bit) blocks) (bit_had t bit set));
    described = λ bit set. held.described t.at bit (or_left (has_bit t.at bit t) (list_any (has_bit t.at bit) blocks) (bit_had t bit set));
  }

  later_held : (t : Taken) (blocks : List Taken) → AreHeld (t ∷ blocks) → AreHeld blocks
  later_held t blocks held = record {
    of_pool = All-tail (λ (u : Taken). IsOcc o.lanes o.zones u.at) t blocks held.of_pool;
    free = λ at bit there. held.free at bit (or_right (has_bit at bit t) (list_any (has_bit at bit) blocks) there);
    described = λ at bit there. held.described at bit (or_right (has_bit at bit t) (list_any (has_bit at bit) blocks) there);
  }

  apart_among : (blocks : List Taken) → AreHeld blocks → list_any (λ (t : Taken). covers o.lanes picture t.at t.bits w) blocks ≡ true → IsApart (slice_index o.words) o.lanes o.zones w
  apart_among [] held e = absurd (false≢true e)
  apart_among (t ∷ blocks) held e =
      ⊎_elim (λ (here : covers o.lanes picture t.at t.bits w ≡ true). apart_at t.at t.bits (first_held t blocks held) here)
      (λ (later : list_any (λ (u : Taken). covers o.lanes picture u.at u.bits w) blocks ≡ true). apart_among blocks (later_held t blocks held) later)
      (or_cases (covers o.lanes picture t.at t.bits w) (list_any (λ (u : Taken). covers o.lanes picture u.at u.bits w) blocks) e)

  bit_among : (blocks : List Taken) → AreHeld blocks → list_any (λ (t : Taken). covers o.lanes picture t.at t.bits w) blocks ≡ true → IsBitHad (λ at bit. list_any (has_bit at bit) blocks)
  bit_among [] held e = absurd (false≢true e)
  bit_among (t ∷ blocks) held e =
      ⊎_elim (λ (here : covers o.lanes picture t.at t.bits w ≡ true).
      had (λ at bit. has_bit at bit t) (λ at bit there. or_left (has_bit at bit t) (list_any (has_bit at bit) blocks) there) (bit_of_one t.at t.bits (first_held t blocks held) here))
      (λ (later : list_any (λ (u : Taken). covers o.lanes picture u.at u.bits w) blocks ≡ true).
      had (λ at bit. list_any (has_bit at bit) blocks) (λ at bit there. or_right (has_bit at bit t) (list_any (has_bit at bit) blocks) there) (bit_among blocks (later_held t blocks held) later))
      (or_cases (covers o.lanes picture t.at t.bits w) (list_any (λ (u : Taken). covers o.lanes picture u.at u.bits w) blocks) e)
    where
      had : (has : Occ → ℕ → Bool) → ((at : Occ) (bit : ℕ) → has at bit ≡ true → list_any (has_bit at bit) (t ∷ blocks) ≡ true) → IsBitHad has → IsBitHad (λ at bit. list_any (has_bit at bit) (t ∷ blocks))
      had has more (inl there) = inl (more _ _ there)
      had has more (inr (chunk, there)) = inr (chunk, more _ _ there)

pub blocks_held : (o : Opening) (mem : Memory) (v : View) (w : ℕ) → BlocksFit o (heap_words o mem) v → AreHeld o mem v.words w v.reserved
blocks_held o mem v w fits = record { of_pool = fits.of_pool; free = fits.free; described = fits.described }

-- a word of what the lane reserved is of a bit that the lane reserved
pub reserved_bit : (o : Opening) (mem : Memory) (v : View) (w : ℕ) → v.lanes ≡ o.lanes → BlocksFit o (heap_words o mem) v → is_reserved v w ≡ true → IsBitHad o mem v.words w (reserves v)
reserved_bit o mem v w of fits e = bit_among o mem v.words w v.reserved (blocks_held o mem v w fits) (ap (λ n. list_any (λ (t : Taken). covers n v.words t.at t.bits w) v.reserved) (sym of) ∙ e)

-- a word of what the lane reserved
pub reserved_apart : (o : Opening) (mem : Memory) (v : View) (w : ℕ) → v.lanes ≡ o.lanes → BlocksFit o (heap_words o mem) v → is_reserved v w ≡ true → IsApart (slice_index o.words) o.lanes o.zones w
reserved_apart o mem v w of fits e = apart_among o mem v.words w v.reserved (blocks_held o mem v w fits) (ap (λ n. list_any (λ (t : Taken). covers n v.words t.at t.bits w) v.reserved) (sym of) ∙ e)

-- it is reserved by another picture too, which has the same descriptors of what is reserved
module _ (lanes zones : ℕ) (picture others : List ℕ) (w : ℕ) where
  abbrev IsSameAt : Occ → ℕ → Type 0
  IsSameAt at bit = slice_index others (describing lanes at bit) ≡ slice_index picture (describing lanes at bit)

  covers_same : (at : Occ) (bits : ℕ) → ((place bit : ℕ) → at ≡ Run place → bit_at bits bit ≡ 1 → IsSameAt (Run place) bit) → covers lanes picture at bits w ≡ true → covers lanes others at bits w ≡ true
  covers_same (Run place) bits same e =
      let c = in_run lanes picture place bits w e in
      ap (λ d. eqb (w / 512) (place / 4096) && leb 8 (w % 512) && eqb (bit_at bits ((w % 512 / 8 - 1) / (d / 256))) 1) (same place _ refl c.set) ∙ e
  covers_same (Zone zone) bits same e = e

  among_same : (blocks : List Taken) → ((place bit : ℕ) → list_any (has_bit (Run place) bit) blocks ≡ true → IsSameAt (Run place) bit) → list_any (λ (t : Taken). covers lanes picture t.at t.bits w) blocks ≡ true → list_any (λ (t : Taken). covers lanes others t.at t.bits w) blocks ≡ true
  among_same [] same e = e
  among_same (t ∷ blocks) same e =
      held_by_parts (covers lanes picture t.at t.bits w) (covers lanes others t.at t.bits w) (list_any (λ (u : Taken). covers lanes picture u.at u.bits w) blocks) (list_any (λ (u : Taken). covers lanes others u.at u.bits w) blocks)
      (covers_same t.at t.bits (λ place bit is set. same place bit (or_left (has_bit (Run place) bit t) (list_any (has_bit (Run place) bit) blocks) (subst (λ y. has_bit y bit t ≡ true) is (bit_had t bit set)))))
      (among_same blocks (λ place bit there. same place bit (or_right (has_bit (Run place) bit t) (list_any (has_bit (Run place) bit) blocks) there))) e

pub reserved_again : (o : Opening) (v v' : View) (w : ℕ) → v.lanes ≡ o.lanes → v'.lanes ≡ v.lanes → v'.reserved ≡ v.reserved
    → ((place bit : ℕ) → reserves v (Run place) bit ≡ true → slice_index v'.words (descriptor_word o.lanes (place / 4096)) ≡ slice_index v.words (descriptor_word o.lanes (place / 4096))) → is_reserved v w ≡ true → is_reserved v' w ≡ true
reserved_again o v v' w of still reserved same e =
    let before : list_any (λ (t : Taken). covers o.lanes v.words t.at t.bits w) v.reserved ≡ true = ap (λ n. list_any (λ (t : Taken). covers n v.words t.at t.bits w) v.reserved) (sym of) ∙ e in
    let after_all : list_any (λ (t : Taken). covers o.lanes v'.words t.at t.bits w) v.reserved ≡ true = among_same o.lanes o.zones v.words v'.words w v.reserved same before in
    (λ i. list_any (λ (t : Taken). covers ((still ∙ of) i) v'.words t.at t.bits w) (reserved i)) ∙ after_all

-- ---- a chunk that the lane reserved

-- the picture has its descriptor as it is now
pub chunk_seen : (o : Opening) (mem : Memory) (v : View) → v.lanes ≡ o.lanes → BlocksFit o (heap_words o mem) v → (page : ℕ) → IsChunk o.lanes page → has_chunk v page ≡ true
    → slice_index v.words (descriptor_word v.lanes page) ≡ heap_words o mem (descriptor_word o.lanes page)
chunk_seen o mem v lanes fits page chunk has =
    let some = chunk.1 in
    let at_word : 512 * zone_page o.lanes (zone_of o.lanes page) + chunk_bit o.lanes page ≡ descriptor_word o.lanes page = omega (arith, some) in
    let here = fits.described (zone_at o.lanes page) (chunk_bit o.lanes page) (ap (λ n. reserves v (zone_at n page) (chunk_bit n page)) (sym lanes) ∙ has) in
    ap (λ n. slice_index v.words (descriptor_word n page)) lanes ∙ (ap (slice_index v.words) (sym at_word) ∙ (here ∙ ap (heap_words o mem) at_word))

-- it was free at the opening
pub chunk_was_free : (o : Opening) (mem : Memory) (v : View) → v.lanes ≡ o.lanes → BlocksFit o (heap_words o mem) v → (page : ℕ) → has_chunk v page ≡ true → is_free_chunk (slice_index o.words) o.lanes page ≡ true
chunk_was_free o mem v lanes fits page has = ap not (fits.free (zone_at o.lanes page) (chunk_bit o.lanes page) (ap (λ n. reserves v (zone_at n page) (chunk_bit n page)) (sym lanes) ∙ has))

-- its descriptor is a word that the lane reserved
pub descriptor_reserved : (v : View) (page : ℕ) → IsChunk v.lanes page → has_chunk v page ≡ true → is_reserved v (descriptor_word v.lanes page) ≡ true
descriptor_reserved v page chunk has = among v.reserved has where
  among : (blocks : List Taken) → list_any (has_bit (zone_at v.lanes page) (chunk_bit v.lanes page)) blocks ≡ true → list_any (λ (t : Taken). covers v.lanes v.words t.at t.bits (descriptor_word v.lanes page)) blocks ≡ true
  among [] e = e
  among (t ∷ blocks) e = held_by_parts (has_bit (zone_at v.lanes page) (chunk_bit v.lanes page) t) (covers v.lanes v.words t.at t.bits (descriptor_word v.lanes page)) (list_any (has_bit (zone_at v.lanes page) (chunk_bit v.lanes page)) blocks)
      (list_any (λ (u : Taken). covers v.lanes v.words u.at u.bits (descriptor_word v.lanes page)) blocks)
      (λ here. let s = and_parts (is_same_occ (zone_at v.lanes page) t.at) (eqb (bit_at t.bits (chunk_bit v.lanes page)) 1) here in
      subst (λ y. covers v.lanes v.words y t.bits (descriptor_word v.lanes page) ≡ true) (occ_same (zone_at v.lanes page) t.at s.0)
      (subst (λ p. (is_chunk v.lanes p && eqb (zone_of v.lanes p) (zone_of v.lanes page) && eqb (bit_at t.bits (chunk_of v.lanes p - 1)) 1) ≡ true) (sym (descriptor_tells v.lanes page chunk))
      (and_from (is_chunk v.lanes page && eqb (zone_of v.lanes page) (zone_of v.lanes page)) (eqb (bit_at t.bits (chunk_of v.lanes page - 1)) 1)
      (and_from (is_chunk v.lanes page) (eqb (zone_of v.lanes page) (zone_of v.lanes page)) (is_chunk_from v.lanes page chunk) (eq-eqb (zone_of v.lanes page) (zone_of v.lanes page) refl)) s.1)))
      (among blocks) e

-- so a descriptor that it may store is one
pub describing_reserved : (v : View) (w x : ℕ) → MayDescribe v w x → is_reserved v w ≡ true
describing_reserved v w x may = ap (is_reserved v) may.at ∙ descriptor_reserved v may.page may.chunk may.reserved

-- what holds of each word that describes what the lane reserved holds of the descriptor of a reserved word's chunk
pub reserved_described : (o : Opening) (mem : Memory) (v : View) (w : ℕ) → v.lanes ≡ o.lanes → BlocksFit o (heap_words o mem) v → is_reserved v w ≡ true → IsChunk o.lanes (w / 512)
    → (Q : ℕ → Type 0) → ((at : Occ) (bit : ℕ) → reserves v at bit ≡ true → Q (describing o.lanes at bit)) → Q (descriptor_word o.lanes (w / 512))
reserved_described o mem v w of fits e chunk Q each =
    let some = chunk.1 in
    ⊎_elim
    (λ (one : reserves v (zone_at o.lanes (page_told o.lanes w)) (chunk_bit o.lanes (page_told o.lanes w)) ≡ true).
    subst Q (let here = chunk_word_here o.lanes w some in omega (arith, here, some)) (each (zone_at o.lanes (page_told o.lanes w)) (chunk_bit o.lanes (page_told o.lanes w)) one))
    (λ two. subst (λ p. Q (descriptor_word o.lanes p)) (let there : (4096 * (w / 512)) / 4096 ≡ w / 512 = omega arith in there) (each (Run (4096 * (w / 512))) _ two.1))
    (reserved_bit o mem v w of fits e)

-- what the lane reserved is of the pool, and by a bit of a word of 64
pub reserved_of_pool : (o : Opening) (heap : ℕ → ℕ) (v : View) (at : Occ) (bit : ℕ) → BlocksFit o heap v → reserves v at bit ≡ true → IsOcc o.lanes o.zones at
reserved_of_pool o heap v at bit fits has =
    let t = Any-from_list_any (has_bit at bit) v.reserved has in
    let held = and_parts (is_same_occ at t.1.at) (eqb (bit_at t.1.bits bit) 1) t.4 in
    subst (IsOcc o.lanes o.zones) (sym (occ_same at t.1.at held.0)) (All-contains (λ (u : Taken). IsOcc o.lanes o.zones u.at) v.reserved t.1 fits.of_pool (t.0, t.2, t.3))

pub reserved_low : (o : Opening) (heap : ℕ → ℕ) (v : View) (at : Occ) (bit : ℕ) → BlocksFit o heap v → reserves v at bit ≡ true → bit < 64
reserved_low o heap v at bit fits has =
    let t = Any-from_list_any (has_bit at bit) v.reserved has in
    let held = and_parts (is_same_occ at t.1.at) (eqb (bit_at t.1.bits bit) 1) t.4 in
    let few : t.1.bits < 2 ^ 64 = All-contains (λ (u : Taken). u.bits < 2 ^ 64) v.reserved t.1 fits.small (t.0, t.2, t.3) in
    ⊎_elim (λ (low : bit < 64). low) (λ (high : 64 ≤ bit). absurd (let none = bit_at_above t.1.bits 64 bit few high in let one = eqb-true (bit_at t.1.bits bit) 1 held.1 in omega (arith, one, none))) (cases_lt bit 64)

-- what describes what the lane reserved is the descriptor of a chunk of the pool
pub describing_chunk : (o : Opening) (heap : ℕ → ℕ) (v : View) (at : Occ) (bit : ℕ) → BlocksFit o heap v → reserves v at bit ≡ true → (page : ℕ) × (IsChunk o.lanes page × (descriptor_word o.lanes page ≡ describing o.lanes at bit))
describing_chunk o heap v at bit fits has =
    by_word at (reserved_of_pool o heap v at bit fits has) (reserved_low o heap v at bit fits has)
  where
    by_word : (other : Occ) → IsOcc o.lanes o.zones other → bit < 64 → (page : ℕ) × (IsChunk o.lanes page × (descriptor_word o.lanes page ≡ describing o.lanes other bit))
    by_word (Run place) of low = (place / 4096, (of.1, refl))
    by_word (Zone zone) of low = (page_in o.lanes zone bit, (page_in_chunk o.lanes zone bit low, page_in_word o.lanes zone bit low))
