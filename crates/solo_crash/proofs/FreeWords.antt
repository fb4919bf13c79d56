-- No meaning reads a word of a free block of a run, or of a free chunk.
use Rattle.std.proofs.Common.{◌≡◌, ◌≢◌, ⊎_elim, inl, inr, ℕ, ◌+◌, ◌-◌, ◌*◌, ◌/◌, ◌%◌, ◌^◌, ◌<◌, ◌≤◌, ◌&&◌, ◌||◌, Bool, true, false, not, eqb, leb, List, [], ◌∷◌, slice_index, None, refl, sym, ◌∙◌, ap, subst, arith, eq-eqb, div-le_self}
use Rattle.std.specs.Int.{bit_at}
use Rattle.std.specs.List.{Contains, list_any, range_with_len}
use Rattle.std.proofs.lemmas.Bool.{and_from, and_parts, cases_Bool, cases_eq, eqb-true, false≢true, leb-true, not-true, or_cases, or_left, or_parts, or_right}
use Rattle.std.proofs.lemmas.List.Elements.{All-head, All-tail}
use Rattle.std.proofs.lemmas.Nat.Bits.{bit_at-pow_other, bit_at-pow_same}
use Rattle.pm_layout.specs.Sizes.{blocks_of}
use Rattle.pm_image.specs.declared.block.Block.{Block}
use Rattle.pm_image.specs.Blocks.{blocks, chunk_word, descriptor_word}
use Rattle.pm_image.specs.Contents.{data_words, size_in}
use Rattle.pm_image.specs.HeapFaults.{heap_fault}
use Rattle.pm_image.specs.Reads.{Reads, ReadsBlock}
use Rattle.pm_image.proofs.FaultFree.{block_good}
use Rattle.pm_image.proofs.HeapWords.{object_fits}
use Rattle.solo_view.specs.declared.occ.Occ.{Occ}
use Rattle.solo_view.specs.declared.occ.Occ.TheVariants.{Run, Zone}
use Rattle.solo_view.specs.Blocks.{bitmap_word, chunk_of, covers, describes, descriptor_word as lane_descriptor, is_chunk, is_run, page_told, zone_of, zone_page}
use Rattle.solo_view.specs.Held.{is_reserved}
use Rattle.solo_view.specs.Occupancy.{is_chunk_taken, is_in_block, is_taken, reaches}
use Rattle.solo_view.specs.View.{Taken, View}
use Rattle.solo_view.specs.Views.{has_bit}
use Rattle.solo_world.specs.Heap.{BlocksFit, IsOcc, heap_words}
use Rattle.solo_world.specs.Memory.{Memory}
use Rattle.solo_world.specs.Opening.{IsChunk, Opening, is_free_chunk}
use Rattle.solo_world.proofs.HeapWords.{taken_bitmap, taken_descriptor}
use Rattle.solo_world.proofs.Reserved.{AreHeld, IsHeld, bit_had, blocks_held, in_chunk, in_run, is_chunk_from, told_here}
use Rattle.solo_crash.specs.FreeWords.{HasDescriptor, IsFreeWord}
use Rattle.solo_crash.proofs.Apart.{good_chunk}
use Rattle.solo_crash.proofs.Classes.{lines_of_class}
use Rattle.solo_crash.proofs.FoundBlocks.{page_of_chunk, IsPageOf}
use Rattle.solo_crash.proofs.InBlocks.{in_chunk_block, in_run_block, IsIn}
use Rattle.solo_crash.proofs.Standing.{block_begins_line, block_stands, IsChunkBlock, IsRunBlock, Stands}

-- what a block reads lies in a block as lanes see it
pub read_in_block : (w : ℕ → ℕ) (lanes zones i : ℕ) (block : Block) → heap_fault w lanes zones ≡ None → Contains (blocks w lanes zones) block → ReadsBlock w block i → is_in_block w lanes i ≡ true
read_in_block w lanes zones i block none there read =
    let stands : Stands w lanes zones block = block_stands w lanes zones block there in
    let line = block_begins_line w lanes zones block there in
    let fits : 8 + data_words (size_in w block) ≤ 8 * block.lines = object_fits w block (block_good w lanes zones block none there) in
    let from = read.from in
    let to = read.to in
    let inside : IsIn block i = record { from = omega arith; to = omega arith } in
    ⊎_elim (λ (run : IsRunBlock w lanes stands.chunk block). in_run_block w lanes stands.chunk i block run inside)
    (λ (whole : IsChunkBlock w lanes stands.chunk block). in_chunk_block w lanes stands.chunk i block (good_chunk w lanes zones stands.chunk none stands.in_zones) whole inside)
    stands.is

-- and in a chunk that is taken
pub in_taken_chunk : (w : ℕ → ℕ) (lanes i : ℕ) → is_in_block w lanes i ≡ true
    → (1 ≤ chunk_of lanes (i / 512)) × (is_chunk_taken w lanes (zone_of lanes (i / 512)) (chunk_of lanes (i / 512) - 1) ≡ true)
    × ((not (is_run (w (lane_descriptor lanes (i / 512)))) || leb 8 (i % 512) && eqb (bit_at (w (bitmap_word (i / 512))) ((i % 512 / 8 - 1) / (w (lane_descriptor lanes (i / 512)) / 256))) 1) ≡ true)
in_taken_chunk w lanes i is =
    let page : ℕ = i / 512 in
    let taken : Bool = is_chunk_taken w lanes (zone_of lanes page) (chunk_of lanes page - 1) in
    let last = and_parts (is_chunk lanes page && taken) (not (is_run (w (lane_descriptor lanes page))) || leb 8 (i % 512) && eqb (bit_at (w (bitmap_word page)) ((i % 512 / 8 - 1) / (w (lane_descriptor lanes page) / 256))) 1) is in
    let first = and_parts (is_chunk lanes page) taken last.0 in
    (leb-true 1 (chunk_of lanes page) (and_parts (leb (zone_page lanes 0) page) (leb 1 (chunk_of lanes page)) first.0).1, first.1, last.1)

-- the word is behind the lanes' areas and no zone's first page, is no run's bitmap, and lies in no block
pub record IsApart (w : ℕ → ℕ) (lanes i : ℕ) : Type 0 where
  pub behind : 1 + 2 * lanes ≤ i / 512
  pub in_chunk : 1 ≤ chunk_of lanes (i / 512)
  pub no_bitmap : i % 512 ≡ 0 → is_run (w (lane_descriptor lanes (i / 512))) ≡ true → ⊥
  pub outside : is_in_block w lanes i ≡ true → ⊥

pub not_read : (w : ℕ → ℕ) (lanes zones i : ℕ) → heap_fault w lanes zones ≡ None → IsApart w lanes i → Reads w lanes zones i → ⊥
not_read w lanes zones i none apart (inl root) = let behind = apart.behind in omega arith
not_read w lanes zones i none apart (inr (inl descriptor)) =
    let is : i ≡ descriptor_word lanes descriptor.chunk = descriptor.is_word in
    let in_chunk = apart.in_chunk in
    omega arith
not_read w lanes zones i none apart (inr (inr (inl bitmap))) =
    let c : ℕ = bitmap.chunk in
    let is : i ≡ chunk_word lanes c = bitmap.is_word in
    let of : IsPageOf lanes (i / 512) c = page_of_chunk lanes (i / 512) c (omega arith) in
    let low = (lines_of_class (w (descriptor_word lanes c)) bitmap.lines bitmap.is_run).0 in
    apart.no_bitmap (omega arith) (eq-eqb (w (lane_descriptor lanes (i / 512)) % 256) 1 (ap (λ (n : ℕ). w n % 256) of.descriptor ∙ low))
not_read w lanes zones i none apart (inr (inr (inr contents))) = apart.outside (read_in_block w lanes zones i contents.block none contents.is_there contents.is_read)

-- so is a word of free blocks
module _ (w : ℕ → ℕ) (words : List ℕ) (lanes zones i bits : ℕ) where
  abbrev page : ℕ
  page = i / 512

  free_apart : (at : Occ) → IsOcc lanes zones at → HasDescriptor words w lanes at → ((bit : ℕ) → bit < 64 → bit_at bits bit ≡ 1 → is_taken w lanes at bit ≡ false) → covers lanes words at bits i ≡ true
      → describes lanes i ≡ false → IsApart w lanes i
  free_apart (Run place) of_pool seen free covered none =
      let first = and_parts (eqb page (place / 4096) && leb 8 (i % 512)) (eqb (bit_at bits ((i % 512 / 8 - 1) / (slice_index words (lane_descriptor lanes (place / 4096)) / 256))) 1) covered in
      let second = and_parts (eqb page (place / 4096)) (leb 8 (i % 512)) first.0 in
      let here : page ≡ place / 4096 = eqb-true page (place / 4096) second.0 in
      let low : 8 ≤ i % 512 = leb-true 8 (i % 512) second.1 in
      let d : ℕ = w (lane_descriptor lanes page) in
      let bitmap : ℕ = w (bitmap_word page) in
      let line : ℕ = i % 512 / 8 - 1 in
      let block : ℕ = line / (d / 256) in
      let few : block < 64 = let most = div-le_self line (d / 256) in omega arith in
      let told : slice_index words (lane_descriptor lanes (place / 4096)) / 256 ≡ d / 256 = ap (λ n. n / 256) (seen place refl) ∙ ap (λ p. w (lane_descriptor lanes p) / 256) (sym here) in
      let set : bit_at bits block ≡ 1 = ap (λ n. bit_at bits (line / n)) (sym told) ∙ eqb-true (bit_at bits (line / (slice_index words (lane_descriptor lanes (place / 4096)) / 256))) 1 first.1 in
      let clear : (not (is_run d) || leb (blocks_of (d / 256)) block || eqb (bit_at bitmap block) 1) ≡ false =
      subst (λ p. (not (is_run (w (lane_descriptor lanes p))) || leb (blocks_of (w (lane_descriptor lanes p) / 256)) block || eqb (bit_at (w (bitmap_word p)) block) 1) ≡ false) (sym here) (free block few set) in
      let parts = or_parts (not (is_run d) || leb (blocks_of (d / 256)) block) (eqb (bit_at bitmap block) 1) clear in
      let run : not (is_run d) ≡ false = (or_parts (not (is_run d)) (leb (blocks_of (d / 256)) block) parts.0).0 in
      let chunk : (zone_page lanes 0 ≤ place / 4096) × (1 ≤ chunk_of lanes (place / 4096)) = of_pool.1 in
      record {
        behind = omega arith;
        in_chunk = subst (λ p. 1 ≤ chunk_of lanes p) (sym here) chunk.1;
        no_bitmap = λ first_word is. omega arith;
        outside = λ inside. ⊎_elim (λ (no_run : not (is_run d) ≡ true). false≢true (sym run ∙ no_run))
            (λ (in_one : (leb 8 (i % 512) && eqb (bit_at bitmap block) 1) ≡ true). false≢true (sym parts.1 ∙ (and_parts (leb 8 (i % 512)) (eqb (bit_at bitmap block) 1) in_one).1))
            (or_cases (not (is_run d)) (leb 8 (i % 512) && eqb (bit_at bitmap block) 1) (in_taken_chunk w lanes i inside).2);
      }
  free_apart (Zone zone) of_pool seen free covered none =
      let c = in_chunk lanes words zone bits i covered in
      let told : page_told lanes i ≡ page = told_here lanes i none in
      let in_one : IsChunk lanes page = subst (IsChunk lanes) told c.chunk in
      let chunk : ℕ = chunk_of lanes page - 1 in
      let low : zone_page lanes 0 ≤ page = in_one.0 in
      let some : 1 ≤ chunk_of lanes page = in_one.1 in
      let here : zone_of lanes page ≡ zone = ap (zone_of lanes) (sym told) ∙ c.zoned in
      let clear : is_chunk_taken w lanes zone chunk ≡ false = free chunk (omega arith) (ap (λ p. bit_at bits (chunk_of lanes p - 1)) (sym told) ∙ c.set) in
      let no_run = (or_parts (is_run (w (512 * zone_page lanes zone + chunk))) (list_any (reaches w lanes zone chunk) (range_with_len 0 (chunk + 1))) clear).0 in
      let place : lane_descriptor lanes page ≡ 512 * zone_page lanes zone + chunk = ap (λ z. 512 * zone_page lanes z + chunk_of lanes page - 1) here ∙ (let e : 512 * zone_page lanes zone + chunk_of lanes page - 1 ≡ 512 * zone_page lanes zone + chunk = omega arith in e) in
      record {
        behind = omega arith;
        in_chunk = some;
        no_bitmap = λ first_word is. false≢true (sym no_run ∙ ap (λ n. is_run (w n)) (sym place) ∙ is);
        outside = λ inside. false≢true (sym clear ∙ subst (λ z. is_chunk_taken w lanes z chunk ≡ true) here (in_taken_chunk w lanes i inside).1);
      }

pub free_not_read : (w : ℕ → ℕ) (lanes zones i : ℕ) → heap_fault w lanes zones ≡ None → IsFreeWord w lanes zones i → Reads w lanes zones i → ⊥
free_not_read w lanes zones i none free read = not_read w lanes zones i none (free_apart w free.words lanes zones i free.bits free.at free.of_pool free.seen free.free free.covered free.undescribing) read

-- of one bit alone
one_bit : (bit other : ℕ) → bit_at (2 ^ bit) other ≡ 1 → other ≡ bit
one_bit bit other set = ⊎_elim
    (λ (same : other ≡ bit). same)
    (λ (differ : other ≢ bit). let none : bit_at (2 ^ bit) other ≡ 0 = bit_at-pow_other bit other differ in absurd (omega arith))
    (cases_eq other bit)

pub bit_not_read : (w : ℕ → ℕ) (words : List ℕ) (lanes zones : ℕ) (at : Occ) (bit i : ℕ) → heap_fault w lanes zones ≡ None → IsOcc lanes zones at → HasDescriptor words w lanes at → is_taken w lanes at bit ≡ false
    → covers lanes words at (2 ^ bit) i ≡ true → describes lanes i ≡ false → Reads w lanes zones i → ⊥
bit_not_read w words lanes zones at bit i none of_pool seen free covered undescribing =
    free_not_read w lanes zones i none (record {
      words = words;
      at = at;
      bits = 2 ^ bit;
      of_pool = of_pool;
      seen = seen;
      free = λ other low set. ap (is_taken w lanes at) (one_bit bit other set) ∙ free;
      covered = covered;
      undescribing = undescribing;
    })

-- ---- and of what a lane reserved: by the opening's words it is free, though chunks that were free then may be runs now

no_zone : (place zone : ℕ) → Zone zone ≡ Run place → ⊥
no_zone place zone is = false≢true (ap is_run_word is) where
  is_run_word : Occ → Bool
  is_run_word (Run p) = true
  is_run_word (Zone z) = false

same_place : (place other : ℕ) → Run place ≡ Run other → place ≡ other
same_place place other is = ap place_in is where
  place_in : Occ → ℕ
  place_in (Run p) = p
  place_in (Zone z) = 0

module _ (o : Opening) (mem : Memory) (words : List ℕ) (i : ℕ) (undescribing : describes o.lanes i ≡ false) where
  abbrev w : ℕ → ℕ
  w = slice_index o.words

  abbrev lanes : ℕ
  lanes = o.lanes

  -- a word of a chunk that was free
  of_free_chunk : IsChunk lanes (i / 512) → i / 512 < 1 + 2 * lanes + 65 * o.zones → is_free_chunk w lanes (i / 512) ≡ true → IsFreeWord w lanes o.zones i
  of_free_chunk chunk in_pool free =
      let low = chunk.0 in let some = chunk.1 in
      let zone : ℕ = zone_of lanes (i / 512) in
      let bit : ℕ = chunk_of lanes (i / 512) - 1 in
      let told : page_told lanes i ≡ i / 512 = told_here lanes i undescribing in record {
        words = words;
        at = Zone zone;
        bits = 2 ^ bit;
        of_pool = omega (arith, in_pool, low, some);
        seen = λ place is. absurd (no_zone place zone is);
        free = λ other few set. ap (is_chunk_taken w lanes zone) (one_bit bit other set) ∙ not-true (is_chunk_taken w lanes zone bit) free;
        covered =
            (λ j. is_chunk lanes (told j) && eqb (zone_of lanes (told j)) zone && eqb (bit_at (2 ^ bit) (chunk_of lanes (told j) - 1)) 1)
            ∙ and_from (is_chunk lanes (i / 512) && eqb zone zone) (eqb (bit_at (2 ^ bit) bit) 1) (and_from (is_chunk lanes (i / 512)) (eqb zone zone) (is_chunk_from lanes (i / 512) chunk) (eq-eqb zone zone refl)) (eq-eqb (bit_at (2 ^ bit) bit) 1 (bit_at-pow_same bit));
        undescribing = undescribing;
      }

  free_of_one : (at : Occ) (bits : ℕ) → IsHeld o mem words i at bits → covers lanes words at bits i ≡ true → IsFreeWord w lanes o.zones i
  free_of_one (Run place) bits held covered =
      let here : i / 512 ≡ place / 4096 = (in_run lanes words place bits i covered).here in
      let chunk : IsChunk lanes (place / 4096) = held.of_pool.1 in
      ⊎_elim
      (λ (free : is_free_chunk w lanes (place / 4096) ≡ true).
      of_free_chunk (subst (IsChunk lanes) (sym here) chunk) (subst (λ p. p < 1 + 2 * lanes + 65 * o.zones) (sym here) held.of_pool.2) (ap (is_free_chunk w lanes) here ∙ free))
      (λ (taken : is_free_chunk w lanes (place / 4096) ≡ false).
      let d = taken_descriptor o mem (place / 4096) chunk taken in
      let m = taken_bitmap o mem (place / 4096) chunk taken in record {
        words = words;
        at = Run place;
        bits = bits;
        of_pool = held.of_pool;
        seen = λ other is. ap (λ p. slice_index words (lane_descriptor lanes (p / 4096))) (sym (same_place place other is))
            ∙ (held.described _ (in_run lanes words place bits i covered).set ∙ d)
            ∙ ap (λ p. w (lane_descriptor lanes (p / 4096))) (same_place place other is);
        free = λ bit few set. (λ j. not (is_run (sym d j)) || leb (blocks_of (sym d j / 256)) bit || eqb (bit_at (sym m j) bit) 1) ∙ held.free bit set;
        covered = covered;
        undescribing = undescribing;
      })
      (cases_Bool (is_free_chunk w lanes (place / 4096)))
  free_of_one (Zone zone) bits held covered = record {
    words = words;
    at = Zone zone;
    bits = bits;
    of_pool = held.of_pool;
    seen = λ place is. absurd (no_zone place zone is);
    free = λ bit few set. held.free bit set;
    covered = covered;
    undescribing = undescribing;
  }

  first_of : (t : Taken) (blocks : List Taken) → AreHeld o mem words i (t ∷ blocks) → IsHeld o mem words i t.at t.bits
  first_of t blocks held = record {
    of_pool = All-head (λ (u : Taken). IsOcc o.lanes o.zones u.at) t blocks held.of_pool;
    free = λ bit set. held.free t.at bit (or_left (has_bit t.at bit t) (list_any (has_bit t.at bit) blocks) (bit_had t bit set));
    described = λ bit set. held.described t.at bit (or_left (has_bit t.at bit t) (list_any (has_bit t.at bit) blocks) (bit_had t bit set));
  }

  others_of : (t : Taken) (blocks : List Taken) → AreHeld o mem words i (t ∷ blocks) → AreHeld o mem words i blocks
  others_of t blocks held = record {
    of_pool = All-tail (λ (u : Taken). IsOcc o.lanes o.zones u.at) t blocks held.of_pool;
    free = λ at bit there. held.free at bit (or_right (has_bit at bit t) (list_any (has_bit at bit) blocks) there);
    described = λ at bit there. held.described at bit (or_right (has_bit at bit t) (list_any (has_bit at bit) blocks) there);
  }

  free_among : (blocks : List Taken) → AreHeld o mem words i blocks → list_any (λ (t : Taken). covers lanes words t.at t.bits i) blocks ≡ true → IsFreeWord w lanes o.zones i
  free_among [] held is = absurd (false≢true is)
  free_among (t ∷ blocks) held is =
      ⊎_elim
      (λ (here : covers lanes words t.at t.bits i ≡ true). free_of_one t.at t.bits (first_of t blocks held) here)
      (λ (later : list_any (λ (u : Taken). covers lanes words u.at u.bits i) blocks ≡ true). free_among blocks (others_of t blocks held) later)
      (or_cases (covers lanes words t.at t.bits i) (list_any (λ (u : Taken). covers lanes words u.at u.bits i) blocks) is)

pub reserved_is_free : (o : Opening) (mem : Memory) (i : ℕ) (v : View) → v.lanes ≡ o.lanes → BlocksFit o (heap_words o mem) v → is_reserved v i ≡ true → describes o.lanes i ≡ false
    → IsFreeWord (slice_index o.words) o.lanes o.zones i
reserved_is_free o mem i v of fits is undescribing =
    free_among o mem v.words i undescribing v.reserved (blocks_held o mem v i fits) (ap (λ (n : ℕ). list_any (λ (t : Taken). covers n v.words t.at t.bits i) v.reserved) (sym of) ∙ is)
