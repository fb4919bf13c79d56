-- What a lane knows of its pool stays so as it makes a chunk a run, whatever it finds under locks.
use Rattle.std.proofs.Common.{◌≡◌, ◌≢◌, ⊎_elim, ℕ, ◌+◌, ◌-◌, ◌*◌, ◌/◌, ◌%◌, ◌^◌, ◌<◌, ◌&&◌, ◌||◌, Bool, true, false, not, cond, eqb, leb, bit_and, All, List, [], ◌∷◌, ◌++◌, map, slice_index, refl, sym, ap, ◌∙◌, subst, arith, eq-eqb, ne_eqb}
use Rattle.std.specs.Int.{bit_at, bit_not, w64}
use Rattle.std.specs.List.{filter, list_any}
use Rattle.std.proofs.lemmas.Bool.{and_from, and_parts, cond-false, eqb-true, false≢true, leb-true, not_from_false, or_cases, or_left, or_right}
use Rattle.std.proofs.lemmas.List.Elements.{All-append, All-cons, All-nil}
use Rattle.std.proofs.lemmas.List.Folds.{Any-from_list_any, list_any-append, list_any_at}
use Rattle.std.proofs.lemmas.Nat.Bits.{bit_at-pow_same}
use Rattle.solo_view.specs.declared.occ.Occ.{Occ}
use Rattle.solo_view.specs.declared.occ.Occ.TheVariants.{Run, Zone}
use Rattle.solo_view.specs.Blocks.{chunk_of, covers, describes, descriptor_word, is_chunk, is_run, page_told, zone_of}
use Rattle.solo_view.specs.Held.{is_reserved}
use Rattle.solo_view.specs.View.{View, Taken}
use Rattle.solo_view.specs.Views.{chunk_bit, is_same_occ, zone_at}
use Rattle.solo_world.specs.Heap.{IsOcc}
use Rattle.solo_world.specs.Opening.{IsChunk}
use Rattle.solo_world.proofs.Exchanged.{chunk_small}
use Rattle.solo_world.proofs.HeapWords.{descriptor_tells}
use Rattle.solo_world.proofs.Vacated.{and_bits, not_both, vacated_all}
use Rattle.solo_fresh.specs.Filled.{HasWholePool}
use Rattle.solo_fresh.specs.Made.{CanMakeRun, IsRunMade, first_block, without_chunk}
use Rattle.solo_fresh.specs.Making.{run_at}
use Rattle.solo_fresh.proofs.Reservable.{IsOfChunk, of_chunks}

-- what passes among those that are left passed before, by another test
any_left : {X : Type 0} (p q r : X → Bool) (f : X → X) → ((x : X) → p (f x) ≡ true → r x ≡ true) → (xs : List X) → list_any p (filter q (map f xs)) ≡ true → list_any r xs ≡ true
any_left p q r f each [] e = absurd (false≢true e)
any_left p q r f each (x ∷ xs) e = at (q (f x)) (any_left p q r f each xs) e where
  at : (b : Bool) → (list_any p (filter q (map f xs)) ≡ true → list_any r xs ≡ true) → list_any p (cond b (f x ∷ filter q (map f xs)) (filter q (map f xs))) ≡ true → (r x || list_any r xs) ≡ true
  at true behind has = ⊎_elim (λ (here : p (f x) ≡ true). or_left (r x) (list_any r xs) (each x here)) (λ (later : list_any p (filter q (map f xs)) ≡ true). or_right (r x) (list_any r xs) (behind later))
      (or_cases (p (f x)) (list_any p (filter q (map f xs))) has)
  at false behind has = or_right (r x) (list_any r xs) (behind has)

-- a chunk's first word is in no block of a run
not_in_run : (lanes : ℕ) (words : List ℕ) (place bits u : ℕ) → u % 512 ≡ 0 → covers lanes words (Run place) bits u ≡ true → ⊥
not_in_run lanes words place bits u first e =
    let t = and_parts (eqb (u / 512) (place / 4096) && leb 8 (u % 512)) (eqb (bit_at bits ((u % 512 / 8 - 1) / (slice_index words (descriptor_word lanes (place / 4096)) / 256))) 1) e in
    let far = leb-true 8 (u % 512) (and_parts (eqb (u / 512) (place / 4096)) (leb 8 (u % 512)) t.0).1 in
    omega (arith, far, first)

module _ (lanes page u : ℕ) (words others : List ℕ) (first : u % 512 ≡ 0) where
  abbrev told : ℕ
  told = page_told lanes u

  abbrev lost : ℕ
  lost = 2 ^ chunk_bit lanes page

  abbrev given : Taken → Taken
  given t = cond (is_same_occ (zone_at lanes page) t.at) (record t { bits = bit_and t.bits (bit_not w64 lost) }) t

  -- it is of a chunk that is left
  abbrev of_other : Occ → ℕ → Bool
  of_other at bits = covers lanes words at bits u && not (eqb told page)

  zone_bit : (zone bits : ℕ) → covers lanes others (Zone zone) bits u ≡ true → (zone_of lanes told ≡ zone) × (bit_at bits (chunk_of lanes told - 1) ≡ 1)
  zone_bit zone bits e =
      let t = and_parts (is_chunk lanes told && eqb (zone_of lanes told) zone) (eqb (bit_at bits (chunk_of lanes told - 1)) 1) e in
      (eqb-true (zone_of lanes told) zone (and_parts (is_chunk lanes told) (eqb (zone_of lanes told) zone) t.0).1, eqb-true (bit_at bits (chunk_of lanes told - 1)) 1 t.1)

  with_bits : (zone bits other : ℕ) → covers lanes others (Zone zone) bits u ≡ true → bit_at other (chunk_of lanes told - 1) ≡ 1 → covers lanes words (Zone zone) other u ≡ true
  with_bits zone bits other e set =
      let t = and_parts (is_chunk lanes told && eqb (zone_of lanes told) zone) (eqb (bit_at bits (chunk_of lanes told - 1)) 1) e in
      and_from (is_chunk lanes told && eqb (zone_of lanes told) zone) (eqb (bit_at other (chunk_of lanes told - 1)) 1) t.0 (ap (λ n. eqb n 1) set)

  other_page : (told ≢ page) → not (eqb told page) ≡ true
  other_page apart = not_from_false (eqb told page) (ne_eqb told page apart)

  of_left : (at : Occ) (bits : ℕ) (same : Bool) → is_same_occ (zone_at lanes page) at ≡ same
      → (let t : Taken = record { at = at; bits = bits } in let g : Taken = cond same (record t { bits = bit_and bits (bit_not w64 lost) }) t in covers lanes others g.at g.bits u) ≡ true → of_other at bits ≡ true
  of_left (Run place) bits true is e = absurd (not_in_run lanes others place (bit_and bits (bit_not w64 lost)) u first e)
  of_left (Run place) bits false is e = absurd (not_in_run lanes others place bits u first e)
  of_left (Zone zone) bits true is e =
      let has = zone_bit zone (bit_and bits (bit_not w64 lost)) e in
      let both = and_bits bits (bit_not w64 lost) (chunk_of lanes told - 1) has.1 in
      and_from (covers lanes words (Zone zone) bits u) (not (eqb told page)) (with_bits zone (bit_and bits (bit_not w64 lost)) bits e both.0)
      (other_page (λ same. not_both lost (chunk_of lanes told - 1) (chunk_small lanes page) (omega arith) both.1 (ap (λ p. bit_at lost (chunk_of lanes p - 1)) same ∙ bit_at-pow_same (chunk_bit lanes page))))
  of_left (Zone zone) bits false is e =
      let has = zone_bit zone bits e in
      and_from (covers lanes words (Zone zone) bits u) (not (eqb told page)) (with_bits zone bits bits e has.1)
      (other_page (λ same. false≢true (sym is ∙ eq-eqb (zone_of lanes page) zone (sym (ap (zone_of lanes) same) ∙ has.0))))

  left_of_others : (blocks : List Taken) → list_any (λ (t : Taken). covers lanes others t.at t.bits u) (filter (λ (t : Taken). not (eqb t.bits 0)) (map given blocks)) ≡ true → list_any (λ (t : Taken). of_other t.at t.bits) blocks ≡ true
  left_of_others blocks e =
      any_left (λ (t : Taken). covers lanes others t.at t.bits u) (λ (t : Taken). not (eqb t.bits 0)) (λ (t : Taken). of_other t.at t.bits) given (λ t has. of_left t.at t.bits (is_same_occ (zone_at lanes page) t.at) refl has) blocks e

-- ---- the pool

module _ (v w : View) (page lines : ℕ) (pool : HasWholePool v) (can : CanMakeRun v page lines) (made : IsRunMade v page lines w) where
  lanes_same : w.lanes ≡ v.lanes
  lanes_same = ap (λ (z : View). z.lanes) made.same

  zones_same : w.zones ≡ v.zones
  zones_same = ap (λ (z : View). z.zones) made.same

  lane_same : w.lane ≡ v.lane
  lane_same = ap (λ (z : View). z.lane) made.same

  in_lanes : v.lane < v.lanes → w.lane < w.lanes
  in_lanes low = omega (arith, low, lanes_same, lane_same)

  -- other chunks are described as they were
  described_as : (p : ℕ) → IsChunk v.lanes p → p ≢ page → slice_index w.words (descriptor_word v.lanes p) ≡ slice_index v.words (descriptor_word v.lanes p)
  described_as p chunk other = made.others (descriptor_word v.lanes p)
      (λ same. other (sym (descriptor_tells v.lanes p chunk) ∙ (ap (page_told v.lanes) same ∙ descriptor_tells v.lanes page can.of_pool.0)))
      (λ same. let low = chunk.0 in let some = chunk.1 in let from = can.of_pool.0.0 in let any = can.of_pool.0.1 in absurd (omega (arith, low, some, from, any, same)))

  abbrev OfPool : Taken → Type 0
  OfPool t = IsOcc v.lanes v.zones t.at

  of_pool : All OfPool w.reserved
  of_pool = subst (All OfPool) (sym made.reserved)
      (All-append OfPool (without_chunk v page) (first_block page ∷ [])
      (vacated_all (zone_at v.lanes page) (2 ^ chunk_bit v.lanes page) (chunk_small v.lanes page) (IsOcc v.lanes v.zones) v.reserved pool.of_pool)
      (All-cons OfPool (first_block page) [] (omega arith, subst (IsChunk v.lanes) (let e : page ≡ 4096 * page / 4096 = omega arith in e) can.of_pool.0, (let below = can.of_pool.1 in omega (arith, below))) (All-nil OfPool)))

  -- a chunk's first word that it has still is of a chunk that it had, and of another
  still : (u : ℕ) → u % 512 ≡ 0 → is_reserved w u ≡ true → (is_reserved v u ≡ true) × (page_told v.lanes u ≢ page)
  still u first e =
      let now : list_any (λ (t : Taken). covers v.lanes w.words t.at t.bits u) (without_chunk v page ++ first_block page ∷ []) ≡ true = sym (λ i. list_any (λ (t : Taken). covers (lanes_same i) w.words t.at t.bits u) (made.reserved i)) ∙ e in
      let split = sym (list_any-append (λ (t : Taken). covers v.lanes w.words t.at t.bits u) (without_chunk v page) (first_block page ∷ [])) ∙ now in
      ⊎_elim
      (λ (left : list_any (λ (t : Taken). covers v.lanes w.words t.at t.bits u) (without_chunk v page) ≡ true).
      let t = Any-from_list_any (λ (t : Taken). of_other v.lanes page u v.words w.words first t.at t.bits) v.reserved (left_of_others v.lanes page u v.words w.words first v.reserved left) in
      let both = and_parts (covers v.lanes v.words t.1.at t.1.bits u) (not (eqb (page_told v.lanes u) page)) t.4 in (
        list_any_at (λ (b : Taken). covers v.lanes v.words b.at b.bits u) v.reserved t.0 t.1 t.2 (ap (λ (b : Taken). covers v.lanes v.words b.at b.bits u) t.3 ∙ both.0),
        λ same. false≢true (sym (ap not (eq-eqb (page_told v.lanes u) page same)) ∙ both.1),
      ))
      (λ (here : (covers v.lanes w.words (run_at page) 1 u || false) ≡ true). ⊎_elim (λ (run : covers v.lanes w.words (run_at page) 1 u ≡ true). absurd (not_in_run v.lanes w.words (4096 * page) 1 u first run)) (λ (none : false ≡ true). absurd (false≢true none))
      (or_cases (covers v.lanes w.words (run_at page) 1 u) false here))
      (or_cases (list_any (λ (t : Taken). covers v.lanes w.words t.at t.bits u) (without_chunk v page)) (covers v.lanes w.words (run_at page) 1 u || false) split)

  no_bitmap : (u : ℕ) → is_reserved w u ≡ true → describes w.lanes u ≡ false → u % 512 ≡ 0 → is_run (slice_index w.words (descriptor_word w.lanes (u / 512))) ≡ false
  no_bitmap u there plain first =
      let before = still u first there in
      let plain_before : describes v.lanes u ≡ false = ap (λ n. describes n u) (sym lanes_same) ∙ plain in
      let of_chunk : IsOfChunk v.lanes v.zones u = of_chunks v pool u before.0 plain_before in
      let told : page_told v.lanes u ≡ u / 512 = cond-false (describes v.lanes u) (u / 512 + 1 + u % 512) (u / 512) plain_before in
      ap (λ n. is_run (slice_index w.words (descriptor_word n (u / 512)))) lanes_same
      ∙ (ap is_run (described_as (u / 512) (let behind = of_chunk.behind in (omega (arith, behind), of_chunk.chunk)) (λ same. before.1 (told ∙ same))) ∙ pool.no_bitmap u before.0 plain_before first)

  pub made_pool : HasWholePool w
  made_pool = record {
    lane = in_lanes pool.lane;
    size = (let size = pool.size in let words = made.size in omega (arith, size, words, lanes_same, zones_same));
    of_pool = subst (λ lanes. All (λ (t : Taken). IsOcc lanes w.zones t.at) w.reserved) (sym lanes_same) (subst (λ zones. All (λ (t : Taken). IsOcc v.lanes zones t.at) w.reserved) (sym zones_same) of_pool);
    no_bitmap = no_bitmap;
  }
