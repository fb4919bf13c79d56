-- What a change of the heap asks of the words before it they still have after a change of another block, which lies apart.
use Rattle.std.proofs.Common.{◌≡◌, ◌≢◌, ◌⊎◌, ⊎_elim, inl, inr, ℕ, ◌+◌, ◌*◌, ◌/◌, ◌%◌, ◌<◌, ◌≤◌, ◌&&◌, Bool, false, ltb, List, Some, None, sym, ◌∙◌, ap, subst, arith, ne_eqb, length}
use Rattle.std.specs.Int.{bit_at}
use Rattle.std.specs.List.{Contains, list_any, range_with_len}
use Rattle.std.proofs.lemmas.Bool.{and_parts, cases_eq, eqb-true, false_from_ne_true, false≢true, ltb-true, or_from, or_parts}
use Rattle.pm_layout.specs.Sizes.{blocks_of, class_of, descriptor_of, lines_for}
use Rattle.pm_layout.specs.declared.class.Class.TheVariants.{Lines, Chunks}
use Rattle.pm_objects.specs.Pool.{block_lines}
use Rattle.pm_image.specs.declared.block.Block.{Block}
use Rattle.pm_image.specs.Blocks.{chunk_word, class_in, descriptor_word}
use Rattle.pm_image.specs.HeapFaults.{heap_fault}
use Rattle.pm_image.proofs.Members.{in_range}
use Rattle.pm_image.proofs.Rooms.{lines_needed, run_fits}
use Rattle.solo_view.specs.Blocks.{is_huge, is_run, zone_page}
use Rattle.solo_view.specs.Occupancy.{is_chunk_taken, reaches}
use Rattle.solo_crash.specs.HeapChanges.{block_changed, AreDisjoint, CanChange, HeapChange}
use Rattle.solo_crash.specs.HeapChanges.HeapChange.{AllocatesChunks, AllocatesInRun, FreesChunks, FreesInRun}
use Rattle.solo_crash.specs.NewObjects.{block_of_chunks, block_of_run, HasNewObject, MayFreeChunks}
use Rattle.solo_crash.proofs.Apart.{good_chunk}
use Rattle.solo_crash.proofs.Classes.{run_has_lines, whole_by_byte}
use Rattle.solo_crash.proofs.EmptyRuns.{some_chunks}
use Rattle.solo_crash.proofs.NoHeapFault.{member_passes, passing_member}
use Rattle.solo_crash.proofs.OneChange.{chunks_block_words, object_stays, run_block_words}

-- a change of a run: one bit of its bitmap, and nothing else
pub record OfRun (w u : ℕ → ℕ) (lanes c lines index : ℕ) : Type 0 where
  pub inside : index < blocks_of lines
  pub is_run : w (descriptor_word lanes c) ≡ descriptor_of (Lines lines)
  pub bits : (i : ℕ) → i ≢ index → bit_at (u (chunk_word lanes c)) i ≡ bit_at (w (chunk_word lanes c)) i
  pub others : (i : ℕ) → i ≢ chunk_word lanes c → u i ≡ w i

-- a change of whole chunks: the first one's descriptor becomes that of a block of them, or 0
pub record OfChunks (w u : ℕ → ℕ) (lanes c chunks : ℕ) : Type 0 where
  pub some : 1 ≤ chunks
  pub fits : c % 64 + chunks ≤ 64
  pub becomes : (u (descriptor_word lanes c) ≡ 2 + 256 * chunks) ⊎ (u (descriptor_word lanes c) ≡ 0)
  pub others : (i : ℕ) → i ≢ descriptor_word lanes c → u i ≡ w i

-- the block of a run lies in its chunk, behind the bitmap's line
record IsPlaced (lanes c lines index : ℕ) : Type 0 where
  some : 1 ≤ lines
  from : 8 * chunk_word lanes c + 64 ≤ (block_of_run lanes c lines index).place
  to : (block_of_run lanes c lines index).place + 64 * lines ≤ 8 * chunk_word lanes c + 4096

placed : (lanes c lines index : ℕ) → index < blocks_of lines → IsPlaced lanes c lines index
placed lanes c lines index inside =
    let before : ℕ = lines * index in
    let fits : 1 + before + lines ≤ 64 = run_fits lines index inside in
    record { some = run_has_lines lines index inside; from = omega arith; to = omega arith }

-- so blocks of a run that lie apart have not the same index, and whole chunks that lie apart from a block of a run are not of its chunk
other_index : (lanes c lines index other : ℕ) → index < blocks_of lines → AreDisjoint (block_of_run lanes c lines index) (block_of_run lanes c lines other) → other ≢ index
other_index lanes c lines index other inside (inl before) same =
    let at = placed lanes c lines index inside in
    let some = at.some in
    let place : (block_of_run lanes c lines other).place ≡ (block_of_run lanes c lines index).place = ap (λ (i : ℕ). (block_of_run lanes c lines i).place) same in
    omega arith
other_index lanes c lines index other inside (inr behind) same =
    let at = placed lanes c lines index inside in
    let some = at.some in
    let place : (block_of_run lanes c lines other).place ≡ (block_of_run lanes c lines index).place = ap (λ (i : ℕ). (block_of_run lanes c lines i).place) same in
    omega arith

not_of_chunks : (lanes c lines index first chunks : ℕ) → index < blocks_of lines → first % 64 + chunks ≤ 64 → AreDisjoint (block_of_run lanes c lines index) (block_of_chunks lanes first chunks)
    → chunk_word lanes first ≤ chunk_word lanes c → chunk_word lanes c < chunk_word lanes first + 512 * chunks → ⊥
not_of_chunks lanes c lines index first chunks inside fits (inl before) from to =
    let at = placed lanes c lines index inside in
    let some = at.some in
    let begins = at.from in
    let ends = at.to in
    omega arith
not_of_chunks lanes c lines index first chunks inside fits (inr behind) from to =
    let at = placed lanes c lines index inside in
    let some = at.some in
    let begins = at.from in
    let ends = at.to in
    let zone : c / 64 ≡ first / 64 = omega arith in
    omega arith

-- a block of whole chunks has some
pub some_of_first : (w : ℕ → ℕ) (lanes zones c chunks : ℕ) → heap_fault w lanes zones ≡ None → MayFreeChunks w lanes zones c chunks → 1 ≤ chunks
some_of_first w lanes zones c chunks none may =
    let is : w (descriptor_word lanes c) ≡ 2 + 256 * chunks = may.is_first in
    let high : w (descriptor_word lanes c) / 256 ≡ chunks = omega arith in
    let whole : class_in (w (descriptor_word lanes c)) ≡ Some (Chunks (w (descriptor_word lanes c) / 256)) = whole_by_byte w lanes c (good_chunk w lanes zones c none may.in_zones) (omega arith) in
    let some : 0 < w (descriptor_word lanes c) / 256 = some_chunks (w (descriptor_word lanes c)) (w (descriptor_word lanes c) / 256) whole in
    omega arith

pub some_of_object : (v : ℕ → ℕ) (lanes c chunks kind : ℕ) (bytes : List ℕ) → HasNewObject v (block_of_chunks lanes c chunks) kind bytes → 1 ≤ chunks
some_of_object v lanes c chunks kind bytes object =
    let is : block_lines (class_of (length bytes)) ≡ 64 * chunks = object.of_size in
    let needed : lines_for (length bytes) ≤ block_lines (class_of (length bytes)) = lines_needed (length bytes) in
    omega arith

turned : (a b : Block) → AreDisjoint a b → AreDisjoint b a
turned a b (inl before) = inr before
turned a b (inr behind) = inl behind

module _ (w u : ℕ → ℕ) (lanes : ℕ) where
  -- a run of which a block lies apart has its descriptor and that block's bit still
  record KeepsBit (c index : ℕ) : Type 0 where
    descriptor : u (descriptor_word lanes c) ≡ w (descriptor_word lanes c)
    bit : bit_at (u (chunk_word lanes c)) index ≡ bit_at (w (chunk_word lanes c)) index

  bit_by_run : (c lines index k other_lines other : ℕ) → OfRun w u lanes c lines index → other < blocks_of other_lines → w (descriptor_word lanes k) ≡ descriptor_of (Lines other_lines)
      → AreDisjoint (block_of_run lanes c lines index) (block_of_run lanes k other_lines other) → KeepsBit k other
  bit_by_run c lines index k other_lines other of inside is apart = record {
    descriptor = of.others (descriptor_word lanes k) (λ same. omega arith);
    bit = ⊎_elim
        (λ (here : k ≡ c).
        let own : w (descriptor_word lanes c) ≡ 1 + 256 * lines = of.is_run in
        let is_here : w (descriptor_word lanes c) ≡ 1 + 256 * other_lines = ap (λ (n : ℕ). w (descriptor_word lanes n)) (sym here) ∙ is in
        let same_lines : other_lines ≡ lines = omega arith in
        let in_run : AreDisjoint (block_of_run lanes c lines index) (block_of_run lanes c lines other) =
        subst (λ (n : ℕ). AreDisjoint (block_of_run lanes c lines index) (block_of_run lanes n lines other)) here
        (subst (λ (n : ℕ). AreDisjoint (block_of_run lanes c lines index) (block_of_run lanes k n other)) same_lines apart) in
        subst (λ (n : ℕ). bit_at (u (chunk_word lanes n)) other ≡ bit_at (w (chunk_word lanes n)) other) (sym here) (of.bits other (other_index lanes c lines index other of.inside in_run)))
        (λ (differ : k ≢ c). ap (λ (n : ℕ). bit_at n other) (of.others (chunk_word lanes k) (λ same. differ (omega arith))))
        (cases_eq k c);
  }

  bit_by_chunks : (c chunks k lines index : ℕ) → OfChunks w u lanes c chunks → index < blocks_of lines → AreDisjoint (block_of_chunks lanes c chunks) (block_of_run lanes k lines index) → KeepsBit k index
  bit_by_chunks c chunks k lines index of inside apart = record {
    descriptor = of.others (descriptor_word lanes k) (λ same.
        let here : k ≡ c = omega arith in
        let some = of.some in
        let word : chunk_word lanes c ≡ chunk_word lanes k = ap (chunk_word lanes) (sym here) in
        not_of_chunks lanes k lines index c chunks inside of.fits (turned (block_of_chunks lanes c chunks) (block_of_run lanes k lines index) apart) (omega arith) (omega arith));
    bit = ap (λ (n : ℕ). bit_at n index) (of.others (chunk_word lanes k) (λ same. omega arith));
  }

  -- a new object's words stay
  object_by_run : (c lines index : ℕ) (block : Block) (kind : ℕ) (bytes : List ℕ) → OfRun w u lanes c lines index → ((i : ℕ) → block.place / 8 ≤ i → i < block.place / 8 + 8 * block.lines → i ≢ chunk_word lanes c) → HasNewObject w block kind bytes → HasNewObject u block kind bytes
  object_by_run c lines index block kind bytes of apart object = object_stays w u block kind bytes object (λ i from to. of.others i (apart i from to))

  object_by_chunks : (c chunks : ℕ) (block : Block) (kind : ℕ) (bytes : List ℕ) → OfChunks w u lanes c chunks → ((i : ℕ) → block.place / 8 ≤ i → i < block.place / 8 + 8 * block.lines → i ≢ descriptor_word lanes c) → HasNewObject w block kind bytes → HasNewObject u block kind bytes
  object_by_chunks c chunks block kind bytes of apart object = object_stays w u block kind bytes object (λ i from to. of.others i (apart i from to))

  -- a chunk is free still where its descriptor is no run's, and no block of whole chunks reaches it
  pub free_still : (zone chunk : ℕ) → is_chunk_taken w lanes zone chunk ≡ false → is_run (u (512 * zone_page lanes zone + chunk)) ≡ false
      → ((k : ℕ) → k ≤ chunk → reaches w lanes zone chunk k ≡ false → reaches u lanes zone chunk k ≡ false) → is_chunk_taken u lanes zone chunk ≡ false
  free_still zone chunk free no_run still =
      let row : List ℕ = range_with_len 0 (chunk + 1) in
      let parts = or_parts (is_run (w (512 * zone_page lanes zone + chunk))) (list_any (reaches w lanes zone chunk) row) free in
      or_from (is_run (u (512 * zone_page lanes zone + chunk))) (list_any (reaches u lanes zone chunk) row) no_run
      (false_from_ne_true (list_any (reaches u lanes zone chunk) row) (λ any.
      let found = passing_member (reaches u lanes zone chunk) row any in
      let within : (0 ≤ found.0) × (found.0 < 0 + (chunk + 1)) = in_range 0 (chunk + 1) found.0 found.1.0 in
      let before : reaches w lanes zone chunk found.0 ≡ false = none_in (reaches w lanes zone chunk) row found.0 parts.1 found.1.0 in
      false≢true (sym (still found.0 (omega arith) before) ∙ found.1.1)))
    where
      none_in : (p : ℕ → Bool) (xs : List ℕ) (x : ℕ) → list_any p xs ≡ false → Contains xs x → p x ≡ false
      none_in p xs x none there = false_from_ne_true (p x) (λ passes. false≢true (sym none ∙ member_passes p xs x there passes))

  -- so chunks are, after a change of a run, and after one of whole chunks that lie apart
  free_by_run : (c lines index : ℕ) → OfRun w u lanes c lines index → (zone chunk : ℕ) → chunk < 64 → is_chunk_taken w lanes zone chunk ≡ false → is_chunk_taken u lanes zone chunk ≡ false
  free_by_run c lines index of zone chunk low free =
      let parts = or_parts (is_run (w (512 * zone_page lanes zone + chunk))) (list_any (reaches w lanes zone chunk) (range_with_len 0 (chunk + 1))) free in
      free_still zone chunk free
      (ap is_run (of.others (512 * zone_page lanes zone + chunk) (λ same. omega arith)) ∙ parts.0)
      (λ k near before. ap (λ (d : ℕ). is_huge d && ltb chunk (k + d / 256)) (of.others (512 * zone_page lanes zone + k) (λ same. omega arith)) ∙ before)

  free_by_chunks : (c chunks first count j : ℕ) → OfChunks w u lanes c chunks → AreDisjoint (block_of_chunks lanes c chunks) (block_of_chunks lanes first count) → first % 64 + count ≤ 64 → j < count
      → is_chunk_taken w lanes (first / 64) (first % 64 + j) ≡ false → is_chunk_taken u lanes (first / 64) (first % 64 + j) ≡ false
  free_by_chunks c chunks first count j of apart in_zone near free =
      let parts = or_parts (is_run (w (512 * zone_page lanes zone + chunk))) (list_any (reaches w lanes zone chunk) (range_with_len 0 (chunk + 1))) free in
      free_still zone chunk free
      (⊎_elim
      (λ (here : 512 * zone_page lanes zone + chunk ≡ descriptor_word lanes c). ap (λ (n : ℕ). is_run (u n)) here ∙ ne_eqb (u (descriptor_word lanes c) % 256) 1 no_run)
      (λ (differ : 512 * zone_page lanes zone + chunk ≢ descriptor_word lanes c). ap is_run (of.others (512 * zone_page lanes zone + chunk) differ) ∙ parts.0)
      (cases_eq (512 * zone_page lanes zone + chunk) (descriptor_word lanes c)))
      (λ k below before. ⊎_elim
      (λ (here : 512 * zone_page lanes zone + k ≡ descriptor_word lanes c). ap (λ (n : ℕ). is_huge (u n) && ltb chunk (k + u n / 256)) here ∙ unreached k below here)
      (λ (differ : 512 * zone_page lanes zone + k ≢ descriptor_word lanes c). ap (λ (d : ℕ). is_huge d && ltb chunk (k + d / 256)) (of.others (512 * zone_page lanes zone + k) differ) ∙ before)
      (cases_eq (512 * zone_page lanes zone + k) (descriptor_word lanes c)))
    where
      zone : ℕ
      zone = first / 64

      chunk : ℕ
      chunk = first % 64 + j

      no_run : u (descriptor_word lanes c) % 256 ≡ 1 → ⊥
      no_run one = ⊎_elim (λ (whole : u (descriptor_word lanes c) ≡ 2 + 256 * chunks). omega arith) (λ (zero_now : u (descriptor_word lanes c) ≡ 0). omega arith) of.becomes

      unreached : (k : ℕ) → k ≤ first % 64 + j → 512 * zone_page lanes (first / 64) + k ≡ descriptor_word lanes c
          → (is_huge (u (descriptor_word lanes c)) && ltb (first % 64 + j) (k + u (descriptor_word lanes c) / 256)) ≡ false
      unreached k below here = false_from_ne_true (is_huge (u (descriptor_word lanes c)) && ltb (first % 64 + j) (k + u (descriptor_word lanes c) / 256)) (λ reached.
          let both = and_parts (is_huge (u (descriptor_word lanes c))) (ltb (first % 64 + j) (k + u (descriptor_word lanes c) / 256)) reached in
          let two : u (descriptor_word lanes c) % 256 ≡ 2 = eqb-true (u (descriptor_word lanes c) % 256) 2 both.0 in
          let within : first % 64 + j < k + u (descriptor_word lanes c) / 256 = ltb-true (first % 64 + j) (k + u (descriptor_word lanes c) / 256) both.1 in
          let fits = of.fits in
          let same_zone : c / 64 ≡ first / 64 = omega arith in
          let same_place : c % 64 ≡ k = omega arith in
          ⊎_elim
          (λ (whole : u (descriptor_word lanes c) ≡ 2 + 256 * chunks).
          let count_is : u (descriptor_word lanes c) / 256 ≡ chunks = omega arith in
          ⊎_elim
          (λ (before : 8 * chunk_word lanes c + 64 * (64 * chunks) ≤ 8 * chunk_word lanes first). omega arith)
          (λ (behind : 8 * chunk_word lanes first + 64 * (64 * count) ≤ 8 * chunk_word lanes c). omega arith)
          apart)
          (λ (zero_now : u (descriptor_word lanes c) ≡ 0). omega arith)
          of.becomes)

-- what another change asks is there still, after a change of a run and after one of whole chunks
module _ (w u : ℕ → ℕ) (lanes zones : ℕ) (none : heap_fault w lanes zones ≡ None) where
  pub still_after_run : (c lines index : ℕ) → OfRun w u lanes c lines index → (other : HeapChange) → AreDisjoint (block_of_run lanes c lines index) (block_changed lanes other) → CanChange w lanes zones other → CanChange u lanes zones other
  still_after_run c lines index of (AllocatesInRun k many i kind bytes) apart can =
      let kept : KeepsBit w u lanes k i = bit_by_run w u lanes c lines index k many i of can.0.inside can.0.is_run apart in (
        record { in_zones = can.0.in_zones; inside = can.0.inside; is_run = kept.descriptor ∙ can.0.is_run; is_clear = kept.bit ∙ can.0.is_clear },
        object_by_run w u lanes c lines index (block_of_run lanes k many i) kind bytes of (λ n from to same.
            let at = run_block_words lanes k many i n can.0.inside from to in
            let begins = at.0 in
            let ends = at.1 in
            omega arith) can.1,
      )
  still_after_run c lines index of (AllocatesChunks k chunks kind bytes) apart can =
      let fits : k % 64 + chunks ≤ 64 = can.0.in_zone in (
        record { in_zones = can.0.in_zones; in_zone = can.0.in_zone; are_free = λ j near. free_by_run w u lanes c lines index of (k / 64) (k % 64 + j) (omega arith) (can.0.are_free j near) },
        object_by_run w u lanes c lines index (block_of_chunks lanes k chunks) kind bytes of (λ n from to same.
            let at = chunks_block_words lanes k chunks n from to in
            let begins = at.0 in
            let ends = at.1 in
            not_of_chunks lanes c lines index k chunks of.inside fits apart (omega arith) (omega arith)) can.1,
      )
  still_after_run c lines index of (FreesInRun k many i) apart can =
      let kept : KeepsBit w u lanes k i = bit_by_run w u lanes c lines index k many i of can.inside can.is_run apart in
      record { in_zones = can.in_zones; inside = can.inside; is_run = kept.descriptor ∙ can.is_run; is_set = kept.bit ∙ can.is_set; not_root = λ root. can.not_root (sym (of.others 64 (λ same. omega arith)) ∙ root) }
  still_after_run c lines index of (FreesChunks k chunks) apart can =
      record { in_zones = can.in_zones; is_first = of.others (descriptor_word lanes k) (λ same. omega arith) ∙ can.is_first; not_root = λ root. can.not_root (sym (of.others 64 (λ same. omega arith)) ∙ root) }

  pub still_after_chunks : (c chunks : ℕ) → OfChunks w u lanes c chunks → (other : HeapChange) → AreDisjoint (block_of_chunks lanes c chunks) (block_changed lanes other) → CanChange w lanes zones other → CanChange u lanes zones other
  still_after_chunks c chunks of (AllocatesInRun k many i kind bytes) apart can =
      let kept : KeepsBit w u lanes k i = bit_by_chunks w u lanes c chunks k many i of can.0.inside apart in (
        record { in_zones = can.0.in_zones; inside = can.0.inside; is_run = kept.descriptor ∙ can.0.is_run; is_clear = kept.bit ∙ can.0.is_clear },
        object_by_chunks w u lanes c chunks (block_of_run lanes k many i) kind bytes of (λ n from to same.
            let at = run_block_words lanes k many i n can.0.inside from to in
            let begins = at.0 in
            let ends = at.1 in
            omega arith) can.1,
      )
  still_after_chunks c chunks of (AllocatesChunks k count kind bytes) apart can =
      let fits : k % 64 + count ≤ 64 = can.0.in_zone in (
        record { in_zones = can.0.in_zones; in_zone = can.0.in_zone; are_free = λ j near. free_by_chunks w u lanes c chunks k count j of apart fits near (can.0.are_free j near) },
        object_by_chunks w u lanes c chunks (block_of_chunks lanes k count) kind bytes of (λ n from to same.
            let at = chunks_block_words lanes k count n from to in
            let begins = at.0 in
            let ends = at.1 in
            omega arith) can.1,
      )
  still_after_chunks c chunks of (FreesInRun k many i) apart can =
      let kept : KeepsBit w u lanes k i = bit_by_chunks w u lanes c chunks k many i of can.inside apart in
      record { in_zones = can.in_zones; inside = can.inside; is_run = kept.descriptor ∙ can.is_run; is_set = kept.bit ∙ can.is_set; not_root = λ root. can.not_root (sym (of.others 64 (λ same. omega arith)) ∙ root) }
  still_after_chunks c chunks of (FreesChunks k count) apart can =
      let some : 1 ≤ count = some_of_first w lanes zones k count none can in
      let own : 1 ≤ chunks = of.some in
      let elsewhere : descriptor_word lanes k ≢ descriptor_word lanes c = λ same.
      let here : k ≡ c = omega arith in
      let word : chunk_word lanes k ≡ chunk_word lanes c = ap (chunk_word lanes) here in
      ⊎_elim
      (λ (before : 8 * chunk_word lanes c + 64 * (64 * chunks) ≤ 8 * chunk_word lanes k). omega arith)
      (λ (behind : 8 * chunk_word lanes k + 64 * (64 * count) ≤ 8 * chunk_word lanes c). omega arith)
      apart in
      record { in_zones = can.in_zones; is_first = of.others (descriptor_word lanes k) elsewhere ∙ can.is_first; not_root = λ root. can.not_root (sym (of.others 64 (λ same. omega arith)) ∙ root) }
