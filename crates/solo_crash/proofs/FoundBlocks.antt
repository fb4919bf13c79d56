-- What a lane finds to begin at a line is a block of the heap, and each block is found at its line.
use Rattle.std.proofs.Common.{◌≡◌, ◌↔◌, ⊎_elim, inl, inr, ℕ, ◌+◌, ◌-◌, ◌*◌, ◌/◌, ◌%◌, ◌<◌, ◌≤◌, ◌&&◌, ◌⊎◌, Bool, true, false, not, cond, eqb, leb, List, length, slice_index, Option, Some, None, refl, sym, ◌∙◌, ap, arith}
use Rattle.std.specs.Int.{bit_at}
use Rattle.std.specs.List.{Contains}
use Rattle.std.proofs.lemmas.Bool.{and_from, and_parts, cases_lt, eq-eqb, eqb-true, false≢true, le-leb, leb-true, ne_eqb}
use Rattle.std.proofs.lemmas.List.{get_or_past}
use Rattle.std.proofs.Math.Nat.{div-add-mod, mul-div_cancel_left, mul-mod_right}
use Rattle.pm_layout.specs.Sizes.{blocks_of}
use Rattle.pm_layout.specs.declared.class.Class.TheVariants.{Lines}
use Rattle.solo_view.specs.Blocks.{bitmap_word, block_at, chunk_of, descriptor_word as lane_descriptor, has_block, is_chunk, is_huge, is_run, zone_of, zone_page}
use Rattle.pm_image.specs.declared.block.Block.{Block}
use Rattle.pm_image.specs.Blocks.{blocks, chunk_word, class_in, descriptor_word, pool_words}
use Rattle.pm_image.specs.HeapFaults.{bad_bitmap, bad_chunk, heap_fault}
use Rattle.pm_image.proofs.FaultFree.{bitmap_good}
use Rattle.pm_image.proofs.Members.{range_member}
use Rattle.pm_image.proofs.Rooms.{run_fits}
use Rattle.solo_crash.specs.Lines.{AgreeAtLine}
use Rattle.solo_crash.proofs.Apart.{good_chunk}
use Rattle.solo_crash.proofs.Classes.{bit_in_run, chunks_of_class, lines_of_class, run_by_byte, run_has_lines, whole_by_byte}
use Rattle.solo_crash.proofs.Standing.{block_stands, standing_is_block, IsChunkBlock, IsRunBlock, Stands}

-- the block by the chunk's descriptor and bitmap, and the line in the chunk
abbrev block_by : Bool → ℕ → ℕ → ℕ → Option ℕ
block_by in_chunk descriptor bitmap line =
    cond (not in_chunk) None (cond (is_run descriptor && has_block bitmap (descriptor / 256) line) (Some (descriptor / 256)) (cond (is_huge descriptor && eqb line 0) (Some (64 * (descriptor / 256))) None))

bitmap_matters : (in_chunk run : Bool) (d a b line : ℕ) → is_run d ≡ run → (run ≡ true → a ≡ b) → block_by in_chunk d a line ≡ block_by in_chunk d b line
bitmap_matters in_chunk true d a b line is same = ap (λ (bitmap : ℕ). block_by in_chunk d bitmap line) (same refl)
bitmap_matters in_chunk false d a b line is same =
    ap (λ (t : Bool). cond (not in_chunk) None (cond (t && has_block a (d / 256) line) (Some (d / 256)) (cond (is_huge d && eqb line 0) (Some (64 * (d / 256))) None))) is
    ∙ sym (ap (λ (t : Bool). cond (not in_chunk) None (cond (t && has_block b (d / 256) line) (Some (d / 256)) (cond (is_huge d && eqb line 0) (Some (64 * (d / 256))) None))) is)

-- what the lane sees is what the others have
seen : (words : List ℕ) (w : ℕ → ℕ) (lanes line : ℕ) → AgreeAtLine words w lanes line
    → block_at lanes words line ≡ block_by (is_chunk lanes (line / 64)) (w (lane_descriptor lanes (line / 64))) (w (bitmap_word (line / 64))) (line % 64)
seen words w lanes line agree =
    ap (λ (d : ℕ). block_by (is_chunk lanes (line / 64)) d (slice_index words (bitmap_word (line / 64))) (line % 64)) agree.descriptor
    ∙ bitmap_matters (is_chunk lanes (line / 64)) (is_run (w (lane_descriptor lanes (line / 64)))) (w (lane_descriptor lanes (line / 64))) (slice_index words (bitmap_word (line / 64))) (w (bitmap_word (line / 64))) (line % 64) refl agree.bitmap

-- the page of a chunk
pub record IsPageOf (lanes page c : ℕ) : Type 0 where
  pub descriptor : lane_descriptor lanes page ≡ descriptor_word lanes c
  pub bitmap : bitmap_word page ≡ chunk_word lanes c
  pub in_chunk : is_chunk lanes page ≡ true

pub page_of_chunk : (lanes page c : ℕ) → page ≡ 2 + 2 * lanes + 65 * (c / 64) + c % 64 → IsPageOf lanes page c
page_of_chunk lanes page c is =
    let behind : zone_page lanes 0 ≤ page = omega arith in
    let zone : zone_of lanes page ≡ c / 64 = omega arith in
    let chunk : chunk_of lanes page ≡ 1 + c % 64 = omega arith in
    record {
      descriptor = omega arith;
      bitmap = omega arith;
      in_chunk = and_from (leb (zone_page lanes 0) page) (leb 1 (chunk_of lanes page)) (le-leb (zone_page lanes 0) page behind) (le-leb 1 (chunk_of lanes page) (omega arith));
    }

-- and the chunk of a page
pub record IsChunkOf (lanes zones page c : ℕ) : Type 0 where
  pub page_is : page ≡ 2 + 2 * lanes + 65 * (c / 64) + c % 64
  pub in_zones : c < 64 * zones

pub chunk_of_page : (lanes zones page : ℕ) → 512 * page < pool_words lanes zones → is_chunk lanes page ≡ true → (c : ℕ) × IsChunkOf lanes zones page c
chunk_of_page lanes zones page inside is =
    let parts = and_parts (leb (zone_page lanes 0) page) (leb 1 (chunk_of lanes page)) is in
    let behind : zone_page lanes 0 ≤ page = leb-true (zone_page lanes 0) page parts.0 in
    let some : 1 ≤ chunk_of lanes page = leb-true 1 (chunk_of lanes page) parts.1 in
    let c : ℕ = 64 * zone_of lanes page + (chunk_of lanes page - 1) in
    let zone : c / 64 ≡ zone_of lanes page = omega arith in
    let chunk : c % 64 ≡ chunk_of lanes page - 1 = omega arith in
    (c, record { page_is = omega arith; in_zones = omega arith })

-- what is found is something
found_where : (in_chunk run huge : Bool) (a b lines : ℕ) → cond (not in_chunk) None (cond run (Some a) (cond huge (Some b) None)) ≡ Some lines
    → (in_chunk ≡ true) × (((run ≡ true) × (a ≡ lines)) ⊎ ((huge ≡ true) × (b ≡ lines)))
found_where true true huge a b lines is = (refl, inl (refl, cc))
found_where true false true a b lines is = (refl, inr (refl, cc))
found_where true false false a b lines is = absurd cc
found_where false run huge a b lines is = absurd cc

pub block_in_chunk : (words : List ℕ) (lanes line lines : ℕ) → block_at lanes words line ≡ Some lines → is_chunk lanes (line / 64) ≡ true
block_in_chunk words lanes line lines found =
    let d : ℕ = slice_index words (lane_descriptor lanes (line / 64)) in
    let b : ℕ = slice_index words (bitmap_word (line / 64)) in
    (found_where (is_chunk lanes (line / 64)) (is_run d && has_block b (d / 256) (line % 64)) (is_huge d && eqb (line % 64) 0) (d / 256) (64 * (d / 256)) lines found).0

found_run : (w : ℕ → ℕ) (lanes c line lines : ℕ) → bad_chunk w lanes c ≡ false → bad_bitmap w lanes c ≡ false → 8 * chunk_word lanes c + 64 * (line % 64) ≡ 64 * line
    → (is_run (w (descriptor_word lanes c)) && has_block (w (chunk_word lanes c)) (w (descriptor_word lanes c) / 256) (line % 64)) ≡ true → w (descriptor_word lanes c) / 256 ≡ lines
    → IsRunBlock w lanes c (record { place = 64 * line; lines = lines })
found_run w lanes c line lines good good_bitmap here found count =
    let d : ℕ = w (descriptor_word lanes c) in
    let m : ℕ = line % 64 in
    let k : ℕ = (m - 1) / (d / 256) in
    let p = and_parts (is_run d) (has_block (w (chunk_word lanes c)) (d / 256) m) found in
    let q = and_parts (leb 1 m && eqb ((m - 1) % (d / 256)) 0) (eqb (bit_at (w (chunk_word lanes c)) k) 1) p.1 in
    let r = and_parts (leb 1 m) (eqb ((m - 1) % (d / 256)) 0) q.0 in
    let some : 1 ≤ m = leb-true 1 m r.0 in
    let whole : (m - 1) % (d / 256) ≡ 0 = eqb-true ((m - 1) % (d / 256)) 0 r.1 in
    let set : bit_at (w (chunk_word lanes c)) k ≡ 1 = eqb-true (bit_at (w (chunk_word lanes c)) k) 1 q.1 in
    let run : class_in d ≡ Some (Lines (d / 256)) = run_by_byte w lanes c good (eqb-true (d % 256) 1 p.0) in
    let inside : k < blocks_of (d / 256) = bit_in_run w lanes c (d / 256) k good_bitmap run set in
    let before : d / 256 * k ≡ m - 1 = div_exact (m - 1) (d / 256) whole in
    let place : 8 * chunk_word lanes c + 64 * (1 + d / 256 * k) ≡ 64 * line = omega arith in
    record {
      lines = d / 256;
      index = k;
      is_run = run;
      inside = inside;
      is_set = set;
      is_block = (λ j. record { place = place j; lines = count j });
    } where
      div_exact : (n m : ℕ) → n % m ≡ 0 → m * (n / m) ≡ n
      div_exact n m whole = let split = div-add-mod n m in omega arith

found_whole : (w : ℕ → ℕ) (lanes c line lines : ℕ) → bad_chunk w lanes c ≡ false → 8 * chunk_word lanes c + 64 * (line % 64) ≡ 64 * line
    → (is_huge (w (descriptor_word lanes c)) && eqb (line % 64) 0) ≡ true → 64 * (w (descriptor_word lanes c) / 256) ≡ lines → IsChunkBlock w lanes c (record { place = 64 * line; lines = lines })
found_whole w lanes c line lines good here found count =
    let d : ℕ = w (descriptor_word lanes c) in
    let p = and_parts (is_huge d) (eqb (line % 64) 0) found in
    let first : line % 64 ≡ 0 = eqb-true (line % 64) 0 p.1 in
    let place : 8 * chunk_word lanes c ≡ 64 * line = omega arith in
    record {
      chunks = d / 256;
      is_first = whole_by_byte w lanes c good (eqb-true (d % 256) 2 p.0);
      is_block = (λ j. record { place = place j; lines = count j });
    }

found_stands : (w : ℕ → ℕ) (lanes c line lines : ℕ) → bad_chunk w lanes c ≡ false → bad_bitmap w lanes c ≡ false → 8 * chunk_word lanes c + 64 * (line % 64) ≡ 64 * line
    → block_by true (w (descriptor_word lanes c)) (w (chunk_word lanes c)) (line % 64) ≡ Some lines
    → IsRunBlock w lanes c (record { place = 64 * line; lines = lines }) ⊎ IsChunkBlock w lanes c (record { place = 64 * line; lines = lines })
found_stands w lanes c line lines good good_bitmap here found =
    let d : ℕ = w (descriptor_word lanes c) in
    let in_run : Bool = is_run d && has_block (w (chunk_word lanes c)) (d / 256) (line % 64) in
    let is_whole : Bool = is_huge d && eqb (line % 64) 0 in
    ⊎_elim
    (λ (run : (in_run ≡ true) × (d / 256 ≡ lines)). inl (found_run w lanes c line lines good good_bitmap here run.0 run.1))
    (λ (whole : (is_whole ≡ true) × (64 * (d / 256) ≡ lines)). inr (found_whole w lanes c line lines good here whole.0 whole.1))
    (found_where true in_run is_whole (d / 256) (64 * (d / 256)) lines found).1

found_in_chunk : (w : ℕ → ℕ) (lanes zones line lines c : ℕ) → heap_fault w lanes zones ≡ None → IsChunkOf lanes zones (line / 64) c
    → block_by (is_chunk lanes (line / 64)) (w (lane_descriptor lanes (line / 64))) (w (bitmap_word (line / 64))) (line % 64) ≡ Some lines
    → Contains (blocks w lanes zones) (record { place = 64 * line; lines = lines })
found_in_chunk w lanes zones line lines c none chunk found =
    let in_zones : c < 64 * zones = chunk.in_zones in
    let of : IsPageOf lanes (line / 64) c = page_of_chunk lanes (line / 64) c chunk.page_is in
    let bitmap : bitmap_word (line / 64) ≡ chunk_word lanes c = of.bitmap in
    let here : 8 * chunk_word lanes c + 64 * (line % 64) ≡ 64 * line = omega arith in
    let same : block_by (is_chunk lanes (line / 64)) (w (lane_descriptor lanes (line / 64))) (w (bitmap_word (line / 64))) (line % 64) ≡ block_by true (w (descriptor_word lanes c)) (w (chunk_word lanes c)) (line % 64) =
    (λ j. block_by (of.in_chunk j) (w (of.descriptor j)) (w (of.bitmap j)) (line % 64)) in
    standing_is_block w lanes zones (record { place = 64 * line; lines = lines }) (record {
      chunk = c;
      in_zones = in_zones;
      is = found_stands w lanes c line lines (good_chunk w lanes zones c none in_zones) (bitmap_good w lanes zones c none (range_member (64 * zones) c in_zones)) here (sym same ∙ found);
    })

pub found_is_block : (words : List ℕ) (w : ℕ → ℕ) (lanes zones line lines : ℕ) → heap_fault w lanes zones ≡ None → AgreeAtLine words w lanes line → 8 * line < pool_words lanes zones
    → block_at lanes words line ≡ Some lines → Contains (blocks w lanes zones) (record { place = 64 * line; lines = lines })
found_is_block words w lanes zones line lines none agree inside found =
    let page : ℕ = line / 64 in
    let d : ℕ = w (lane_descriptor lanes page) in
    let b : ℕ = w (bitmap_word page) in
    let there : block_by (is_chunk lanes page) d b (line % 64) ≡ Some lines = sym (seen words w lanes line agree) ∙ found in
    let is : is_chunk lanes page ≡ true = (found_where (is_chunk lanes page) (is_run d && has_block b (d / 256) (line % 64)) (is_huge d && eqb (line % 64) 0) (d / 256) (64 * (d / 256)) lines there).0 in
    let chunk : (c : ℕ) × IsChunkOf lanes zones page c = chunk_of_page lanes zones page (omega arith) is in
    found_in_chunk w lanes zones line lines chunk.0 none chunk.1 there

-- a block of a run is found at its line, and so is one of whole chunks
run_found : (w : ℕ → ℕ) (lanes c line lines : ℕ) → (run : IsRunBlock w lanes c (record { place = 64 * line; lines = lines }))
    → (line / 64 ≡ 2 + 2 * lanes + 65 * (c / 64) + c % 64) × (block_by true (w (descriptor_word lanes c)) (w (chunk_word lanes c)) (line % 64) ≡ Some lines)
run_found w lanes c line lines run =
    let d : ℕ = w (descriptor_word lanes c) in
    let b : ℕ = w (chunk_word lanes c) in
    let n : ℕ = run.lines in
    let before : ℕ = n * run.index in
    let fits : 1 + n * run.index + n ≤ 64 = run_fits n run.index run.inside in
    let some : 1 ≤ n = run_has_lines n run.index run.inside in
    let place : 8 * chunk_word lanes c + 64 * (1 + n * run.index) ≡ 64 * line = ap (λ (x : Block). x.place) run.is_block in
    let count : n ≡ lines = ap (λ (x : Block). x.lines) run.is_block in
    let in_page : line % 64 ≡ 1 + n * run.index = omega arith in
    let behind : line % 64 - 1 ≡ n * run.index = omega arith in
    let class = lines_of_class d n run.is_run in
    let whole : (line % 64 - 1) % n ≡ 0 = ap (λ (k : ℕ). k % n) behind ∙ mul-mod_right n run.index in
    let index : (line % 64 - 1) / n ≡ run.index = ap (λ (k : ℕ). k / n) behind ∙ mul-div_cancel_left run.index some in
    let has : has_block b n (line % 64) ≡ true =
    and_from (leb 1 (line % 64) && eqb ((line % 64 - 1) % n) 0) (eqb (bit_at b ((line % 64 - 1) / n)) 1)
    (and_from (leb 1 (line % 64)) (eqb ((line % 64 - 1) % n) 0) (le-leb 1 (line % 64) (omega arith)) (eq-eqb ((line % 64 - 1) % n) 0 whole))
    (eq-eqb (bit_at b ((line % 64 - 1) / n)) 1 (ap (bit_at b) index ∙ run.is_set)) in
    let test : (is_run d && has_block b (d / 256) (line % 64)) ≡ true =
    and_from (is_run d) (has_block b (d / 256) (line % 64)) (eq-eqb (d % 256) 1 class.0) (ap (λ (k : ℕ). has_block b k (line % 64)) class.1 ∙ has) in (
      omega arith,
      ap (λ (t : Bool). cond t (Some (d / 256)) (cond (is_huge d && eqb (line % 64) 0) (Some (64 * (d / 256))) None)) test ∙ ap (λ (k : ℕ). Some k) (class.1 ∙ count),
    )

whole_found : (w : ℕ → ℕ) (lanes c line lines : ℕ) → (whole : IsChunkBlock w lanes c (record { place = 64 * line; lines = lines }))
    → (line / 64 ≡ 2 + 2 * lanes + 65 * (c / 64) + c % 64) × (block_by true (w (descriptor_word lanes c)) (w (chunk_word lanes c)) (line % 64) ≡ Some lines)
whole_found w lanes c line lines whole =
    let d : ℕ = w (descriptor_word lanes c) in
    let b : ℕ = w (chunk_word lanes c) in
    let n : ℕ = whole.chunks in
    let place : 8 * chunk_word lanes c ≡ 64 * line = ap (λ (x : Block). x.place) whole.is_block in
    let count : 64 * n ≡ lines = ap (λ (x : Block). x.lines) whole.is_block in
    let in_page : line % 64 ≡ 0 = omega arith in
    let class = chunks_of_class d n whole.is_first in
    let low = class.0 in
    let no_run : (is_run d && has_block b (d / 256) (line % 64)) ≡ false = ap (λ (t : Bool). t && has_block b (d / 256) (line % 64)) (ne_eqb (d % 256) 1 (λ one. omega arith)) in
    let huge : (is_huge d && eqb (line % 64) 0) ≡ true = and_from (is_huge d) (eqb (line % 64) 0) (eq-eqb (d % 256) 2 low) (eq-eqb (line % 64) 0 in_page) in (
      omega arith,
      (λ j. cond (no_run j) (Some (d / 256)) (cond (huge j) (Some (64 * (d / 256))) None)) ∙ ap (λ (k : ℕ). Some k) (ap (λ (k : ℕ). 64 * k) class.1 ∙ count),
    )

pub block_is_found : (words : List ℕ) (w : ℕ → ℕ) (lanes zones line lines : ℕ) → heap_fault w lanes zones ≡ None → AgreeAtLine words w lanes line
    → Contains (blocks w lanes zones) (record { place = 64 * line; lines = lines }) → block_at lanes words line ≡ Some lines
block_is_found words w lanes zones line lines none agree there =
    let stands : Stands w lanes zones (record { place = 64 * line; lines = lines }) = block_stands w lanes zones (record { place = 64 * line; lines = lines }) there in
    let c : ℕ = stands.chunk in
    let found : (line / 64 ≡ 2 + 2 * lanes + 65 * (c / 64) + c % 64) × (block_by true (w (descriptor_word lanes c)) (w (chunk_word lanes c)) (line % 64) ≡ Some lines) =
    ⊎_elim
    (λ (run : IsRunBlock w lanes c (record { place = 64 * line; lines = lines })). run_found w lanes c line lines run)
    (λ (whole : IsChunkBlock w lanes c (record { place = 64 * line; lines = lines })). whole_found w lanes c line lines whole)
    stands.is in
    let of : IsPageOf lanes (line / 64) c = page_of_chunk lanes (line / 64) c found.0 in
    seen words w lanes line agree
    ∙ (λ j. block_by (of.in_chunk j) (w (of.descriptor j)) (w (of.bitmap j)) (line % 64))
    ∙ found.1

-- past the pool's end a list has no words, so nothing is found there
no_descriptor : (words : List ℕ) (lanes zones page : ℕ) → length words ≤ pool_words lanes zones → pool_words lanes zones ≤ 512 * page → 1 ≤ chunk_of lanes page → slice_index words (lane_descriptor lanes page) ≡ 0
no_descriptor words lanes zones page few past some =
    let zone : zones ≤ zone_of lanes page = omega arith in
    get_or_past words (lane_descriptor lanes page) 0 (omega arith)

pub found_within : (words : List ℕ) (lanes zones line lines : ℕ) → length words ≤ pool_words lanes zones → block_at lanes words line ≡ Some lines → 8 * line < pool_words lanes zones
found_within words lanes zones line lines few found = ⊎_elim
    (λ (inside : 8 * line < pool_words lanes zones). inside)
    (λ (past : pool_words lanes zones ≤ 8 * line).
    let page : ℕ = line / 64 in
    let d : ℕ = slice_index words (lane_descriptor lanes page) in
    let b : ℕ = slice_index words (bitmap_word page) in
    let is : is_chunk lanes page ≡ true = (found_where (is_chunk lanes page) (is_run d && has_block b (d / 256) (line % 64)) (is_huge d && eqb (line % 64) 0) (d / 256) (64 * (d / 256)) lines found).0 in
    let some : 1 ≤ chunk_of lanes page = leb-true 1 (chunk_of lanes page) (and_parts (leb (zone_page lanes 0) page) (leb 1 (chunk_of lanes page)) is).1 in
    let zero : d ≡ 0 = no_descriptor words lanes zones page few (omega arith) some in
    let nothing : block_by (is_chunk lanes page) 0 b (line % 64) ≡ Some lines = sym (ap (λ (n : ℕ). block_by (is_chunk lanes page) n b (line % 64)) zero) ∙ found in
    let never = (found_where (is_chunk lanes page) false false 0 0 lines nothing).1 in
    ⊎_elim (λ (run : (false ≡ true) × (0 ≡ lines)). absurd (false≢true run.0)) (λ (whole : (false ≡ true) × (0 ≡ lines)). absurd (false≢true whole.0)) never)
    (cases_lt (8 * line) (pool_words lanes zones))

-- of all the words of a pool
pub found_of_words : (words : List ℕ) (lanes zones line lines : ℕ) → heap_fault (slice_index words) lanes zones ≡ None → length words ≤ pool_words lanes zones
    → (block_at lanes words line ≡ Some lines) ↔ Contains (blocks (slice_index words) lanes zones) (record { place = 64 * line; lines = lines })
found_of_words words lanes zones line lines none few =
    let agree : AgreeAtLine words (slice_index words) lanes line = record { descriptor = refl; bitmap = λ run. refl } in (
      λ found. found_is_block words (slice_index words) lanes zones line lines none agree (found_within words lanes zones line lines few found) found,
      block_is_found words (slice_index words) lanes zones line lines none agree,
    )
