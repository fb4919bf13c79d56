-- A word that the lane has not reserved.
use Rattle.std.proofs.Common.{◌≡◌, ◌⊎◌, inl, inr, ⊎_elim, ℕ, ◌-◌, ◌*◌, ◌/◌, ◌%◌, ◌≤◌, ◌&&◌, eqb, true, false, All, List, [], ◌∷◌, slice_index, sym, ap, ◌∙◌, subst, arith, eq-eqb}
use Rattle.std.specs.Int.{bit_at}
use Rattle.std.specs.List.{list_any}
use Rattle.std.proofs.lemmas.Bool.{and_from, and_parts, false≢true, or_cases, or_left, or_right}
use Rattle.std.proofs.lemmas.List.Elements.{All-head, All-tail}
use Rattle.solo_view.specs.declared.occ.Occ.{Occ}
use Rattle.solo_view.specs.declared.occ.Occ.TheVariants.{Run, Zone}
use Rattle.solo_view.specs.Blocks.{bitmap_word, chunk_of, covers, describes, descriptor_word, is_chunk, is_run, page_told, zone_of}
use Rattle.solo_view.specs.Held.{is_reserved}
use Rattle.solo_view.specs.View.{Taken, View}
use Rattle.solo_view.specs.Views.{chunk_bit, has_bit, has_chunk, is_same_occ, reserves, zone_at}
use Rattle.solo_world.proofs.Chunks.{chunk_is}
use Rattle.solo_world.proofs.Reserved.{in_chunk, in_run, occ_same, told_here}
use Rattle.solo_world.specs.Heap.{IsOcc}
use Rattle.solo_world.specs.Opening.{IsChunk}
use Rattle.solo_fresh.specs.Filled.{HasWholePool}
use Rattle.solo_fresh.specs.Making.{run_at}
use Rattle.solo_alloc.proofs.Rooms.{plain_word}

-- a word is reserved by its chunk, or by a block of its run
module _ (lanes zones u page : ℕ) (words : List ℕ) (here : u / 512 ≡ page) (plain : describes lanes u ≡ false) where
  abbrev number : ℕ
  number = (u % 512 / 8 - 1) / (slice_index words (descriptor_word lanes page) / 256)

  abbrev ByChunk : List Taken → Type 0
  ByChunk blocks = list_any (has_bit (zone_at lanes page) (chunk_bit lanes page)) blocks ≡ true

  abbrev ByBlock : List Taken → Type 0
  ByBlock blocks = list_any (has_bit (run_at page) number) blocks ≡ true

  told : page_told lanes u ≡ page
  told = told_here lanes u plain ∙ here

  by_one : (at : Occ) (bits : ℕ) → IsOcc lanes zones at → covers lanes words at bits u ≡ true
      → (let t : Taken = record { at = at; bits = bits } in (has_bit (zone_at lanes page) (chunk_bit lanes page) t ≡ true) ⊎ (has_bit (run_at page) number t ≡ true))
  by_one (Run place) bits of covered =
      let inside = in_run lanes words place bits u covered in
      let whole = of.0 in let same = inside.here in
      let page_is : place / 4096 ≡ page = sym inside.here ∙ here in
      let place_is : 4096 * page ≡ place = omega (arith, whole, page_is) in
      let set : bit_at bits number ≡ 1 = ap (λ p. bit_at bits ((u % 512 / 8 - 1) / (slice_index words (descriptor_word lanes p) / 256))) (sym page_is) ∙ inside.set in
      inr (and_from (eqb (4096 * page) place) (eqb (bit_at bits number) 1) (eq-eqb (4096 * page) place place_is) (eq-eqb (bit_at bits number) 1 set))
  by_one (Zone zone) bits of covered =
      let inside = in_chunk lanes words zone bits u covered in
      let zoned : zone_of lanes page ≡ zone = ap (zone_of lanes) (sym told) ∙ inside.zoned in
      let set : bit_at bits (chunk_of lanes page - 1) ≡ 1 = ap (λ p. bit_at bits (chunk_of lanes p - 1)) (sym told) ∙ inside.set in
      inl (and_from (eqb (zone_of lanes page) zone) (eqb (bit_at bits (chunk_of lanes page - 1)) 1) (eq-eqb (zone_of lanes page) zone zoned) (eq-eqb (bit_at bits (chunk_of lanes page - 1)) 1 set))

  by_any : (blocks : List Taken) → All (λ (t : Taken). IsOcc lanes zones t.at) blocks → list_any (λ (t : Taken). covers lanes words t.at t.bits u) blocks ≡ true → ByChunk blocks ⊎ ByBlock blocks
  by_any [] of has = absurd (false≢true has)
  by_any (t ∷ blocks) of has =
      ⊎_elim
      (λ (this : covers lanes words t.at t.bits u ≡ true). ⊎_elim
      (λ (one : has_bit (zone_at lanes page) (chunk_bit lanes page) t ≡ true). inl (or_left (has_bit (zone_at lanes page) (chunk_bit lanes page) t) (list_any (has_bit (zone_at lanes page) (chunk_bit lanes page)) blocks) one))
      (λ (one : has_bit (run_at page) number t ≡ true). inr (or_left (has_bit (run_at page) number t) (list_any (has_bit (run_at page) number) blocks) one))
      (by_one t.at t.bits (All-head (λ (q : Taken). IsOcc lanes zones q.at) t blocks of) this))
      (λ (later : list_any (λ (q : Taken). covers lanes words q.at q.bits u) blocks ≡ true). ⊎_elim
      (λ (rest : ByChunk blocks). inl (or_right (has_bit (zone_at lanes page) (chunk_bit lanes page) t) (list_any (has_bit (zone_at lanes page) (chunk_bit lanes page)) blocks) rest))
      (λ (rest : ByBlock blocks). inr (or_right (has_bit (run_at page) number t) (list_any (has_bit (run_at page) number) blocks) rest))
      (by_any blocks (All-tail (λ (q : Taken). IsOcc lanes zones q.at) t blocks of) later))
      (or_cases (covers lanes words t.at t.bits u) (list_any (λ (q : Taken). covers lanes words q.at q.bits u) blocks) has)

  -- and what has the chunk has the word
  chunk_has : IsChunk lanes page → (blocks : List Taken) → ByChunk blocks → list_any (λ (t : Taken). covers lanes words t.at t.bits u) blocks ≡ true
  chunk_has chunk [] has = absurd (false≢true has)
  chunk_has chunk (t ∷ blocks) has = ⊎_elim
      (λ (this : has_bit (zone_at lanes page) (chunk_bit lanes page) t ≡ true).
      let both = and_parts (is_same_occ (zone_at lanes page) t.at) (eqb (bit_at t.bits (chunk_bit lanes page)) 1) this in
      let covered : (is_chunk lanes page && eqb (zone_of lanes page) (zone_of lanes page) && eqb (bit_at t.bits (chunk_of lanes page - 1)) 1) ≡ true =
      and_from (is_chunk lanes page && eqb (zone_of lanes page) (zone_of lanes page)) (eqb (bit_at t.bits (chunk_of lanes page - 1)) 1)
      (and_from (is_chunk lanes page) (eqb (zone_of lanes page) (zone_of lanes page)) (chunk_is lanes page chunk) (eq-eqb (zone_of lanes page) (zone_of lanes page) (ap (zone_of lanes) (sym here ∙ here)))) both.1 in
      let at_zone : covers lanes words (Zone (zone_of lanes page)) t.bits u ≡ true =
      ap (λ p. is_chunk lanes p && eqb (zone_of lanes p) (zone_of lanes page) && eqb (bit_at t.bits (chunk_of lanes p - 1)) 1) told ∙ covered in
      or_left (covers lanes words t.at t.bits u) (list_any (λ (q : Taken). covers lanes words q.at q.bits u) blocks) (subst (λ o. covers lanes words o t.bits u ≡ true) (occ_same (zone_at lanes page) t.at both.0) at_zone))
      (λ (later : ByChunk blocks). or_right (covers lanes words t.at t.bits u) (list_any (λ (q : Taken). covers lanes words q.at q.bits u) blocks) (chunk_has chunk blocks later))
      (or_cases (has_bit (zone_at lanes page) (chunk_bit lanes page) t) (list_any (has_bit (zone_at lanes page) (chunk_bit lanes page)) blocks) has)

module _ (v : View) (pool : HasWholePool v) (page : ℕ) where
  abbrev pub block_number : ℕ → ℕ
  block_number u = (u % 512 / 8 - 1) / (slice_index v.words (descriptor_word v.lanes page) / 256)

  pub reserved_by : (u : ℕ) → u / 512 ≡ page → describes v.lanes u ≡ false → is_reserved v u ≡ true → (has_chunk v page ≡ true) ⊎ (reserves v (run_at page) (block_number u) ≡ true)
  reserved_by u here plain has = by_any v.lanes v.zones u page v.words here plain v.reserved pool.of_pool has

  -- a chunk that is a run the lane has not as a chunk
  pub no_chunk_of_run : IsChunk v.lanes page → is_run (slice_index v.words (descriptor_word v.lanes page)) ≡ true → has_chunk v page ≡ true → ⊥
  no_chunk_of_run chunk run has =
      let b : ℕ = bitmap_word page in
      let here : b / 512 ≡ page = omega arith in
      let plain : describes v.lanes b ≡ false = plain_word v.lanes b (subst (λ p. 1 ≤ chunk_of v.lanes p) (sym here) chunk.1) in
      let there : is_reserved v b ≡ true = chunk_has v.lanes v.zones b page v.words here plain chunk v.reserved has in
      false≢true (sym (pool.no_bitmap b there plain (omega arith)) ∙ (ap (λ p. is_run (slice_index v.words (descriptor_word v.lanes p))) here ∙ run))
