-- Chunks that were reserved have room for an object.
use Rattle.std.proofs.Common.{◌≡◌, ⊎_elim, ℕ, ◌+◌, ◌-◌, ◌*◌, ◌/◌, ◌%◌, ◌<◌, ◌≤◌, ◌&&◌, eqb, true, false, All, List, [], ◌∷◌, slice_index, sym, ap, ◌∙◌, subst, arith, eq-eqb}
use Rattle.std.specs.Int.{bit_at}
use Rattle.std.specs.List.{list_any}
use Rattle.std.proofs.lemmas.Bool.{and_from, false≢true, or_cases, or_left}
use Rattle.std.proofs.lemmas.List.Elements.{All-cons, All-nil}
use Rattle.pm_image.specs.declared.block.Block.{Block}
use Rattle.pm_layout.specs.declared.shape.Shape.{Shape}
use Rattle.solo_view.specs.declared.occ.Occ.TheVariants.{Zone}
use Rattle.solo_view.specs.Blocks.{chunk_of, covers, describes, descriptor_word, is_chunk, is_run, page_told, zone_of}
use Rattle.solo_view.specs.Held.{is_reserved}
use Rattle.solo_view.specs.View.{Taken, View}
use Rattle.solo_world.proofs.Chunks.{chunk_is}
use Rattle.solo_world.proofs.Reserved.{in_chunk, told_here}
use Rattle.solo_world.specs.Heap.{IsOcc}
use Rattle.solo_chunks.proofs.ChunkBits.{bit_inside}
use Rattle.solo_chunks.specs.Chunks.{AreFree, AreLeastFree, HasGot, chunk_bits, taken_chunks}
use Rattle.solo_fresh.specs.Filled.{HasWholePool}
use Rattle.solo_fresh.specs.Making.{page_in, run_at}
use Rattle.solo_blocks.proofs.StillMay.{may_still}
use Rattle.solo_blocks.specs.NewRuns.{IsUnused, MayMakeRun}
use Rattle.solo_alloc.specs.NewObjects.{ArePictured}
use Rattle.solo_alloc.proofs.Pictures.{pictured_still}
use Rattle.solo_alloc.proofs.Unreserved.{block_number, reserved_by}
use Rattle.solo_view.specs.Views.{has_chunk, reserves}
use Rattle.solo_alloc.proofs.Remaining.{set_inside}
use Rattle.solo_alloc.proofs.Rooms.{IsRoom, plain_word}
use Rattle.solo_alloc.proofs.StillWhole.{beside_still, lanes_still, own_still, pool_still, words_still}

module _ (v : View) (shape : Shape) (may : MayMakeRun v shape) (pool : HasWholePool v) (pictured : ArePictured v) (at : View → Type 0) (count : ℕ) (block : Block) (some : 1 ≤ count) (got : HasGot at v count block) (least : AreLeastFree v count block) where
  abbrev zone : ℕ
  zone = got.zone

  abbrev first : ℕ
  first = got.first

  abbrev w : View
  w = got.searched.view

  abbrev blocks : List Taken
  blocks = taken_chunks zone first count ∷ []

  places : 4096 * (2 + 2 * v.lanes + 65 * least.zone + least.first) ≡ 4096 * (2 + 2 * v.lanes + 65 * zone + first)
  places = ap (λ (b : Block). b.place) (sym least.is_block ∙ got.is_block)

  same_zone : least.zone ≡ zone
  same_zone = let e = places in let here = got.in_zone in let there = least.free.in_zone in omega (arith, e, here, there, some)

  same_first : least.first ≡ first
  same_first = let e = places in let here = got.in_zone in let there = least.free.in_zone in omega (arith, e, here, there, some)

  free : AreFree v count zone first
  free = subst (λ z. AreFree v count z first) same_zone (subst (AreFree v count least.zone) same_first least.free)

  unused : (k : ℕ) → first ≤ k → k < first + count → IsUnused v (page_in v.lanes zone k)
  unused k low high = may.unused zone k got.in_zones (let within = got.in_zone in omega (arith, high, within)) (free.clear k low high)

  no_run : (u : ℕ) → u % 512 ≡ 0 → describes v.lanes u ≡ false → list_any (λ (t : Taken). covers v.lanes v.words t.at t.bits u) blocks ≡ true → is_run (slice_index v.words (descriptor_word v.lanes (u / 512))) ≡ false
  no_run u start plain there = ⊎_elim
      (λ (here : covers v.lanes v.words (Zone zone) (chunk_bits first count) u ≡ true).
      let inside = in_chunk v.lanes v.words zone (chunk_bits first count) u here in
      let told : page_told v.lanes u ≡ u / 512 = told_here v.lanes u plain in
      let k : ℕ = chunk_of v.lanes (u / 512) - 1 in
      let set : bit_at (chunk_bits first count) k ≡ 1 = ap (λ p. bit_at (chunk_bits first count) (chunk_of v.lanes p - 1)) (sym told) ∙ inside.set in
      let bounds = set_inside first count k set in
      let low = subst (λ p. 1 + 2 * v.lanes ≤ p) told (let from = inside.chunk.0 in omega (arith, from)) in
      let any : 1 ≤ chunk_of v.lanes (u / 512) = subst (λ p. 1 ≤ chunk_of v.lanes p) told inside.chunk.1 in
      let zoned : zone_of v.lanes (u / 512) ≡ zone = ap (zone_of v.lanes) (sym told) ∙ inside.zoned in
      let page : u / 512 ≡ page_in v.lanes zone k = omega (arith, low, any, zoned) in
      ap (λ p. is_run (slice_index v.words (descriptor_word v.lanes p))) page ∙ ap is_run (unused k bounds.0 bounds.1).undescribed)
      (λ (none : false ≡ true). absurd (false≢true none))
      (or_cases (covers v.lanes v.words (Zone zone) (chunk_bits first count) u) false there)

  of_pool : All (λ (t : Taken). IsOcc v.lanes v.zones t.at) blocks
  of_pool = All-cons (λ (t : Taken). IsOcc v.lanes v.zones t.at) (taken_chunks zone first count) [] got.in_zones (All-nil (λ (t : Taken). IsOcc v.lanes v.zones t.at))

  pub pool_of_chunks : HasWholePool w
  pool_of_chunks = pool_still v shape may at blocks _ got.searched pool of_pool no_run

  -- each word of the block is of one of the chunks
  module _ (u : ℕ) (from : 8 * (block.place / 64) ≤ u) (to : u < 8 * (block.place / 64 + block.lines)) where
    place_is : block.place ≡ 4096 * (2 + 2 * v.lanes + 65 * zone + first)
    place_is = ap (λ (b : Block). b.place) got.is_block

    lines_are : block.lines ≡ 64 * count
    lines_are = ap (λ (b : Block). b.lines) got.is_block

    page_from : 2 + 2 * v.lanes + 65 * zone + first ≤ u / 512
    page_from = let place = place_is in omega (arith, place, from)

    page_to : u / 512 < 2 + 2 * v.lanes + 65 * zone + first + count
    page_to = let place = place_is in let lines = lines_are in omega (arith, place, lines, to)

    chunk : 1 ≤ chunk_of v.lanes (u / 512)
    chunk = let low = page_from in let high = page_to in let within = got.in_zone in omega (arith, low, high, within)

    number : chunk_of v.lanes (u / 512) ≡ u / 512 - (1 + 2 * v.lanes + 65 * zone)
    number = let low = page_from in let high = page_to in let within = got.in_zone in omega (arith, low, high, within)

    in_zone : zone_of v.lanes (u / 512) ≡ zone
    in_zone = let low = page_from in let high = page_to in let within = got.in_zone in omega (arith, low, high, within)

    plain : describes v.lanes u ≡ false
    plain = plain_word v.lanes u chunk

    set : bit_at (chunk_bits first count) (chunk_of v.lanes (u / 512) - 1) ≡ 1
    set =
        let low = page_from in let high = page_to in let n = number in
        bit_inside first count (chunk_of v.lanes (u / 512) - 1) (omega (arith, low, n)) (omega (arith, high, n, low))

    covered_here : (is_chunk v.lanes (u / 512) && eqb (zone_of v.lanes (u / 512)) zone && eqb (bit_at (chunk_bits first count) (chunk_of v.lanes (u / 512) - 1)) 1) ≡ true
    covered_here =
        and_from (is_chunk v.lanes (u / 512) && eqb (zone_of v.lanes (u / 512)) zone) (eqb (bit_at (chunk_bits first count) (chunk_of v.lanes (u / 512) - 1)) 1)
        (and_from (is_chunk v.lanes (u / 512)) (eqb (zone_of v.lanes (u / 512)) zone) (chunk_is v.lanes (u / 512) ((let low = page_from in omega (arith, low)), chunk)) (eq-eqb (zone_of v.lanes (u / 512)) zone in_zone))
        (eq-eqb (bit_at (chunk_bits first count) (chunk_of v.lanes (u / 512) - 1)) 1 set)

    covered : covers v.lanes v.words (Zone zone) (chunk_bits first count) u ≡ true
    covered = ap (λ p. is_chunk v.lanes p && eqb (zone_of v.lanes p) zone && eqb (bit_at (chunk_bits first count) (chunk_of v.lanes p - 1)) 1) (told_here v.lanes u plain) ∙ covered_here

    own_chunk : (is_reserved w u ≡ true) × (describes w.lanes u ≡ false)
    own_chunk = (
      own_still v shape may at blocks _ got.searched u (or_left (covers v.lanes v.words (Zone zone) (chunk_bits first count) u) false covered),
      ap (λ n. describes n u) (lanes_still v shape may at blocks _ got.searched) ∙ plain,
    )

    is_page : u / 512 ≡ page_in v.lanes zone (chunk_of v.lanes (u / 512) - 1)
    is_page = let low = page_from in let n = number in omega (arith, low, n)

    pub not_reserved : is_reserved v u ≡ true → ⊥
    not_reserved has =
        let low = page_from in let high = page_to in let n = number in
        let it = unused (chunk_of v.lanes (u / 512) - 1) (omega (arith, low, n)) (omega (arith, high, n, low)) in
        let page : ℕ = page_in v.lanes zone (chunk_of v.lanes (u / 512) - 1) in
        ⊎_elim
        (λ (by_chunk : has_chunk v page ≡ true). false≢true (sym it.no_chunk ∙ by_chunk))
        (λ (by_block : reserves v (run_at page) (block_number v pool page u) ≡ true). false≢true (sym (it.no_block (block_number v pool page u)) ∙ by_block))
        (reserved_by v pool page u is_page plain has)

  pub room_of_chunks : IsRoom v w shape block
  room_of_chunks = record {
    may = may_still v shape may at blocks _ got.searched;
    pool = pool_of_chunks;
    pictured = pictured_still v shape may pictured at blocks _ got.searched pool_of_chunks;
    fresh = not_reserved;
    some = (let lines = ap (λ (b : Block). b.lines) got.is_block in omega (arith, lines, some));
    own = own_chunk;
    beside = beside_still v shape may at blocks _ got.searched;
    others = λ u no. ap (λ ws. slice_index ws u) (words_still v shape may at blocks _ got.searched);
  }
