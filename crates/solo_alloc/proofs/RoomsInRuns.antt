-- A block of a run that was reserved has room for an object.
use Rattle.std.proofs.Common.{◌≡◌, ⊎_elim, ℕ, ◌+◌, ◌-◌, ◌*◌, ◌/◌, ◌%◌, ◌^◌, ◌<◌, ◌≤◌, ◌&&◌, eqb, leb, true, false, All, List, [], ◌∷◌, slice_index, refl, sym, ap, ◌∙◌, subst, arith, eq-eqb}
use Rattle.std.specs.Int.{bit_at}
use Rattle.std.specs.List.{list_any}
use Rattle.std.proofs.Math.Nat.{mul-div_cancel_left, mul_comm}
use Rattle.std.proofs.lemmas.Bool.{and_from, false≢true, le-leb, or_cases, or_left}
use Rattle.std.proofs.lemmas.List.Elements.{All-cons, All-nil}
use Rattle.std.proofs.lemmas.Nat.{div-mul-add}
use Rattle.std.proofs.lemmas.Nat.Bits.{bit_at-pow_same}
use Rattle.pm_image.specs.declared.block.Block.{Block}
use Rattle.pm_image.proofs.Rooms.{run_fits}
use Rattle.pm_layout.specs.Sizes.{blocks_of}
use Rattle.pm_layout.specs.declared.shape.Shape.{Shape}
use Rattle.solo_view.specs.declared.occ.Occ.TheVariants.{Run}
use Rattle.solo_view.specs.Blocks.{chunk_of, covers, describes, descriptor_word, is_run}
use Rattle.solo_view.specs.Held.{is_reserved}
use Rattle.solo_view.specs.View.{Taken, View}
use Rattle.solo_world.proofs.Reserved.{in_run}
use Rattle.solo_world.specs.Heap.{IsOcc}
use Rattle.solo_world.specs.Opening.{IsChunk}
use Rattle.solo_runs.proofs.Rows.{has_lines}
use Rattle.solo_runs.specs.Runs.{HasGot, IsLeastFree, page_of, taken_block}
use Rattle.solo_fresh.specs.Filled.{HasWholePool}
use Rattle.solo_blocks.proofs.StillMay.{may_still}
use Rattle.solo_blocks.specs.NewRuns.{MayMakeRun}
use Rattle.solo_alloc.specs.NewObjects.{ArePictured}
use Rattle.solo_alloc.proofs.Pictures.{pictured_still}
use Rattle.solo_alloc.proofs.Unreserved.{block_number, no_chunk_of_run, reserved_by}
use Rattle.solo_view.specs.Views.{has_chunk, occ_in, reserves}
use Rattle.solo_fresh.specs.Making.{run_at}
use Rattle.solo_alloc.proofs.Rooms.{IsRoom, plain_word}
use Rattle.solo_alloc.proofs.StillWhole.{beside_still, lanes_still, own_still, pool_still, words_still}

-- a word of the block is covered by its bit
module _ (lanes page lines index u : ℕ) (words : List ℕ) (place n : ℕ) (inside : index < blocks_of lines) (place_is : place ≡ 4096 * page + 64 * (1 + lines * index)) (lines_are : n ≡ lines)
    (described : slice_index words (descriptor_word lanes page) / 256 ≡ lines) (from : 8 * (place / 64) ≤ u) (to : u < 8 * (place / 64 + n)) where
  fits : 1 + lines * index + lines ≤ 64
  fits = run_fits lines index inside

  line_is : place / 64 ≡ 64 * page + (1 + lines * index)
  line_is = let place_here = place_is in omega (arith, place_here)

  pub on_page : u / 512 ≡ page
  on_page = let line = line_is in let room = fits in omega (arith, line, room, from, to, lines_are)

  behind : 8 ≤ u % 512
  behind = let line = line_is in let room = fits in let page_here = on_page in omega (arith, line, room, from, to, lines_are, page_here)

  low : lines * index ≤ u % 512 / 8 - 1
  low = let line = line_is in let room = fits in let page_here = on_page in omega (arith, line, room, from, to, lines_are, page_here)

  high : u % 512 / 8 - 1 < lines * index + lines
  high = let line = line_is in let room = fits in let page_here = on_page in omega (arith, line, room, from, to, lines_are, page_here)

  pub number : (u % 512 / 8 - 1) / lines ≡ index
  number =
      let rest : ℕ = u % 512 / 8 - 1 - lines * index in
      let least = low in let most = high in
      let turned : lines * index ≡ index * lines = mul_comm lines index in
      let split : u % 512 / 8 - 1 ≡ index * lines + rest = omega (arith, least, turned) in
      ap (λ k. k / lines) split ∙ div-mul-add index lines rest (omega (arith, least, most))

  pub block_covers : covers lanes words (Run (4096 * page)) (2 ^ index) u ≡ true
  block_covers =
      let here : page ≡ 4096 * page / 4096 = omega arith in
      let d : ℕ = slice_index words (descriptor_word lanes (4096 * page / 4096)) / 256 in
      let d_is : d ≡ lines = ap (λ p. slice_index words (descriptor_word lanes p) / 256) (sym here) ∙ described in
      let bit : bit_at (2 ^ index) ((u % 512 / 8 - 1) / d) ≡ 1 = ap (λ m. bit_at (2 ^ index) ((u % 512 / 8 - 1) / m)) d_is ∙ (ap (bit_at (2 ^ index)) number ∙ bit_at-pow_same index) in
      and_from (eqb (u / 512) (4096 * page / 4096) && leb 8 (u % 512)) (eqb (bit_at (2 ^ index) ((u % 512 / 8 - 1) / d)) 1)
      (and_from (eqb (u / 512) (4096 * page / 4096)) (leb 8 (u % 512)) (eq-eqb (u / 512) (4096 * page / 4096) (on_page ∙ here)) (le-leb 8 (u % 512) behind))
      (eq-eqb (bit_at (2 ^ index) ((u % 512 / 8 - 1) / d)) 1 bit)

module _ (v : View) (shape : Shape) (may : MayMakeRun v shape) (pool : HasWholePool v) (pictured : ArePictured v) (at : View → Type 0) (lines : ℕ) (block : Block) (got : HasGot at v block) (least : IsLeastFree v lines block) where
  abbrev w : View
  w = got.searched.view

  abbrev page : ℕ
  page = page_of v.lanes got.chunk

  abbrev blocks : List Taken
  blocks = taken_block v.lanes got.chunk got.index ∷ []

  lines_same : block.lines ≡ lines
  lines_same = ap (λ (b : Block). b.lines) least.is_block

  place_is : block.place ≡ 4096 * page + 64 * (1 + block.lines * got.index)
  place_is = ap (λ (b : Block). b.place) got.is_block

  page_same : page ≡ page_of v.lanes least.chunk
  page_same =
      let here = place_is in let there = ap (λ (b : Block). b.place) least.is_block in
      let room = run_fits block.lines got.index got.in_run in let other = run_fits lines least.index least.free.in_run in
      omega (arith, here, there, room, other)

  described : slice_index v.words (descriptor_word v.lanes page) / 256 ≡ block.lines
  described =
      let is = ap (λ p. slice_index v.words (descriptor_word v.lanes p)) page_same ∙ least.free.is_run in
      let same = lines_same in
      omega (arith, is, same)

  chunk : IsChunk v.lanes page
  chunk = (omega arith, omega arith)

  of_pool : All (λ (t : Taken). IsOcc v.lanes v.zones t.at) blocks
  of_pool =
      let here : page ≡ 4096 * page / 4096 = omega arith in
      let few = got.in_zones in
      All-cons (λ (t : Taken). IsOcc v.lanes v.zones t.at) (taken_block v.lanes got.chunk got.index) [] (omega arith, subst (IsChunk v.lanes) here chunk, omega (arith, few)) (All-nil (λ (t : Taken). IsOcc v.lanes v.zones t.at))

  no_run : (u : ℕ) → u % 512 ≡ 0 → describes v.lanes u ≡ false → list_any (λ (t : Taken). covers v.lanes v.words t.at t.bits u) blocks ≡ true → is_run (slice_index v.words (descriptor_word v.lanes (u / 512))) ≡ false
  no_run u start plain there = ⊎_elim
      (λ (here : covers v.lanes v.words (Run (4096 * page)) (2 ^ got.index) u ≡ true). let far = (in_run v.lanes v.words (4096 * page) (2 ^ got.index) u here).beyond in absurd (omega (arith, far, start)))
      (λ (none : false ≡ true). absurd (false≢true none))
      (or_cases (covers v.lanes v.words (Run (4096 * page)) (2 ^ got.index) u) false there)

  own_block : (u : ℕ) → 8 * (block.place / 64) ≤ u → u < 8 * (block.place / 64 + block.lines) → (is_reserved w u ≡ true) × (describes w.lanes u ≡ false)
  own_block u from to =
      let covered = block_covers v.lanes page block.lines got.index u v.words block.place block.lines got.in_run place_is refl described from to in
      let here = on_page v.lanes page block.lines got.index u v.words block.place block.lines got.in_run place_is refl described from to in (
        own_still v shape may at blocks _ got.searched u (or_left (covers v.lanes v.words (Run (4096 * page)) (2 ^ got.index) u) false covered),
        ap (λ n. describes n u) (lanes_still v shape may at blocks _ got.searched) ∙ plain_word v.lanes u (subst (λ p. 1 ≤ chunk_of v.lanes p) (sym here) chunk.1),
      )

  index_same : got.index ≡ least.index
  index_same =
      let here = place_is in let there = ap (λ (b : Block). b.place) least.is_block in
      let room = run_fits block.lines got.index got.in_run in let other = run_fits lines least.index least.free.in_run in
      let some = has_lines lines least.index least.free.in_run in
      let as_many : block.lines * got.index ≡ lines * got.index = ap (λ n. n * got.index) lines_same in
      let same : lines * got.index ≡ lines * least.index = omega (arith, here, there, room, other, as_many) in
      sym (mul-div_cancel_left got.index some) ∙ (ap (λ n. n / lines) same ∙ mul-div_cancel_left least.index some)

  is_run_here : is_run (slice_index v.words (descriptor_word v.lanes page)) ≡ true
  is_run_here = let is = ap (λ p. slice_index v.words (descriptor_word v.lanes p)) page_same ∙ least.free.is_run in eq-eqb (slice_index v.words (descriptor_word v.lanes page) % 256) 1 (omega (arith, is))

  not_reserved : (u : ℕ) → 8 * (block.place / 64) ≤ u → u < 8 * (block.place / 64 + block.lines) → is_reserved v u ≡ true → ⊥
  not_reserved u from to has =
      let here = on_page v.lanes page block.lines got.index u v.words block.place block.lines got.in_run place_is refl described from to in
      let n = number v.lanes page block.lines got.index u v.words block.place block.lines got.in_run place_is refl described from to in
      let plain = plain_word v.lanes u (subst (λ p. 1 ≤ chunk_of v.lanes p) (sym here) chunk.1) in
      let is : block_number v pool page u ≡ least.index = ap (λ d. (u % 512 / 8 - 1) / d) described ∙ (n ∙ index_same) in
      ⊎_elim
      (λ (by_chunk : has_chunk v page ≡ true). no_chunk_of_run v pool page chunk is_run_here by_chunk)
      (λ (by_block : reserves v (run_at page) (block_number v pool page u) ≡ true).
      least.free.clear (subst (λ p. bit_at (occ_in v (run_at p)) least.index ≡ 1) page_same (subst (λ k. bit_at (occ_in v (run_at page)) k ≡ 1) is (pictured.taken (run_at page) (block_number v pool page u) by_block))))
      (reserved_by v pool page u here plain has)

  pool_now : HasWholePool w
  pool_now = pool_still v shape may at blocks _ got.searched pool of_pool no_run

  pub room_in_run : IsRoom v w shape block
  room_in_run = record {
    may = may_still v shape may at blocks _ got.searched;
    pool = pool_now;
    pictured = pictured_still v shape may pictured at blocks _ got.searched pool_now;
    fresh = not_reserved;
    some = has_lines block.lines got.index got.in_run;
    own = own_block;
    beside = beside_still v shape may at blocks _ got.searched;
    others = λ u no. ap (λ ws. slice_index ws u) (words_still v shape may at blocks _ got.searched);
  }
