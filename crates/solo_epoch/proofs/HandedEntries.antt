-- What the entry of each thing that a lane alone publishes allocates and frees in the lane's view: a change of the heap its bits, an action none.
use Rattle.std.proofs.Common.{◌≡◌, ◌≢◌, ⊎_elim, inl, inr, ℕ, ◌+◌, ◌-◌, ◌*◌, ◌/◌, ◌%◌, ◌^◌, ◌<◌, ◌≤◌, ◌&&◌, true, false, not, eqb, leb, ltb, List, [], ◌∷◌, None, slice_index, refl, sym, ap, ◌∙◌, subst, arith, eq-eqb, ne_eqb, pow_pos}
use Rattle.std.specs.Int.{bit_at, bit_not, w64}
use Rattle.std.proofs.Math.Pow.{pow-lt}
use Rattle.std.proofs.lemmas.Bool.{and_from, and_parts, cases_Bool, false_from_ne_true, false≢true, ltb-true, or_from}
use Rattle.std.proofs.lemmas.List.Elements.{All-cons, All-nil}
use Rattle.std.proofs.lemmas.Nat.Bits.{bit_at-zero}
use Rattle.solo_chunks.specs.Chunks.{chunk_bits}
use Rattle.solo_chunks.proofs.ChunkBits.{bit_inside, bits_small}
use Rattle.solo_reclaim.specs.Reclaims.{AreOfPool}
use Rattle.pm_image.specs.Blocks.{chunk_word, descriptor_word}
use Rattle.pm_image.specs.HeapFaults.{heap_fault}
use Rattle.pm_image.proofs.HeapWords.{chunks_fit}
use Rattle.solo_view.specs.declared.occ.Occ.{Occ}
use Rattle.solo_view.specs.declared.occ.Occ.TheVariants.{Run, Zone}
use Rattle.solo_view.specs.Area.{area_word, is_in_area}
use Rattle.solo_view.specs.Blocks.{chunk_of, describes, is_chunk, is_run, zone_of}
use Rattle.solo_view.specs.Blocks.{descriptor_word as lane_descriptor}
use Rattle.solo_view.specs.Log.{Final}
use Rattle.solo_view.specs.Occupancy.{is_chunk_taken}
use Rattle.solo_view.specs.Rights.{is_written}
use Rattle.solo_view.specs.View.{Taken, View}
use Rattle.solo_view.specs.Views.{allocated_by, chunks_described, freed_by, is_bitmap, is_of_heap}
use Rattle.solo_world.specs.Fits.{LaneFits}
use Rattle.solo_world.specs.Heap.{IsOcc, heap_words}
use Rattle.solo_world.specs.Memory.{Memory}
use Rattle.solo_world.specs.Opening.{Guards, IsChunk, IsSound, Opening, is_free_chunk}
use Rattle.solo_world.proofs.Exclusion.{writes_under}
use Rattle.solo_world.proofs.HeapWords.{described, describes_it, taken_descriptor}
use Rattle.solo_crash.specs.HeapChanges.{entry_of}
use Rattle.solo_crash.specs.HeapChanges.HeapChange.{AllocatesChunks, AllocatesInRun, FreesChunks, FreesInRun}
use Rattle.solo_crash.specs.Publishing.{CanPublish, Published, entry_published}
use Rattle.solo_crash.specs.Publishing.Published.{Changes, Performs}
use Rattle.solo_crash.specs.Taken.{AllocatesBit, FreesBit}
use Rattle.solo_crash.proofs.Apart.{good_chunk}
use Rattle.solo_crash.proofs.ChangesApart.{some_of_first}
use Rattle.solo_crash.proofs.BitMore.{index_small}
use Rattle.solo_crash.proofs.Classes.{whole_by_byte}
use Rattle.solo_crash.proofs.FoundBlocks.{IsPageOf, page_of_chunk}
use Rattle.solo_epoch.proofs.EntryBits.{HaveBits, block_bits, chunks_allocate, chunks_free, no_bits, none_telling, row_bits, row_described, run_allocates, run_frees}
use Rattle.solo_epoch.proofs.EntryWords.{tells_none}

-- the bits that this makes taken, and those that it makes free
abbrev pub MakesTaken : ℕ → Published → Occ → ℕ → Type 0
MakesTaken lanes (Performs action) at bit = ⊥
MakesTaken lanes (Changes change) at bit = AllocatesBit lanes change at bit

abbrev pub MakesFree : ℕ → Published → Occ → ℕ → Type 0
MakesFree lanes (Performs action) at bit = ⊥
MakesFree lanes (Changes change) at bit = FreesBit lanes change at bit

pub record IsHanded (v : View) (s : Published) : Type 0 where
  pub allocates : HaveBits (allocated_by v (entry_published v.lanes s)) (MakesTaken v.lanes s)
  pub frees : HaveBits (freed_by v (entry_published v.lanes s)) (MakesFree v.lanes s)
  pub places : AreOfPool v.lanes v.zones (freed_by v (entry_published v.lanes s))

-- the mask of an AND that clears one bit is that bit
turned_twice : (index : ℕ) → index < 64 → bit_not w64 (2 ^ 64 - 1 - 2 ^ index) ≡ 2 ^ index
turned_twice index low = let small : 2 ^ index < 2 ^ 64 = pow-lt {i = index} {j = 64} low in omega (arith, small)

module _ (o : Opening) (mem : Memory) (before : ℕ → ℕ) (flies : ℕ → List Final → Type 0) (k : ℕ) (v : View) (sound : IsSound o) (in_lanes : k < o.lanes) (fits : LaneFits o mem before flies k v)
    (none : heap_fault (slice_index v.words) v.lanes v.zones ≡ None) where
  abbrev w : ℕ → ℕ
  w = slice_index v.words

  -- ---- what tells of blocks is of the heap

  lanes : v.lanes ≡ o.lanes
  lanes = fits.lane.lanes

  outside : (i : ℕ) → 512 + 1024 * v.lanes ≤ i → is_in_area v.lane i ≡ false
  outside i behind = false_from_ne_true (is_in_area v.lane i) (λ e.
      let high = ltb-true i (area_word v.lane + 1024) (and_parts (leb (area_word v.lane) i) (ltb i (area_word v.lane + 1024)) e).1 in
      let own = fits.lane.lane in let same = lanes in omega (arith, behind, high, own, same, in_lanes))

  of_heap : (f : Final) → 512 + 1024 * v.lanes ≤ f.word → ((line : ℕ) → Guards o line f.word → ⊥) → is_of_heap v f ≡ true
  of_heap f behind unguarded = ap not (or_from (is_in_area v.lane f.word) (is_written v f.word) (outside f.word behind)
      (false_from_ne_true (is_written v f.word) (λ written. let under = writes_under o mem k v f.word fits.locks written in unguarded under.0 under.1)))

  -- the page of a chunk in the row of all
  abbrev page_of : ℕ → ℕ
  page_of c = 2 + 2 * o.lanes + 65 * (c / 64) + c % 64

  is_page : (c : ℕ) → IsChunk o.lanes (page_of c)
  is_page c = (omega arith, omega arith)

  descriptor_at : (c : ℕ) → descriptor_word v.lanes c ≡ lane_descriptor o.lanes (page_of c)
  descriptor_at c = let same = lanes in omega (arith, same)

  descriptor_of_heap : (f : Final) (c : ℕ) → f.word ≡ descriptor_word v.lanes c → is_of_heap v f ≡ true
  descriptor_of_heap f c is = of_heap f (omega (arith, is)) (λ line guard. sound.apart line f.word guard (page_of c, (is_page c, inl (is ∙ descriptor_at c))))

  -- a run's bitmap: what was a run at the opening is one still, and what was free is guarded by no lock
  bitmap_of_heap : (f : Final) (c : ℕ) → f.word ≡ chunk_word v.lanes c → is_run (w (descriptor_word v.lanes c)) ≡ true → is_of_heap v f ≡ true
  bitmap_of_heap f c is run = of_heap f (omega (arith, is)) (λ line guard.
      let page : ℕ = page_of c in
      let same = lanes in
      let bitmap : f.word ≡ 512 * page = omega (arith, is, same) in
      ⊎_elim
      (λ (free : is_free_chunk (slice_index o.words) o.lanes page ≡ true).
      let here : f.word / 512 ≡ page = omega (arith, bitmap) in
      let inside = and_parts (is_chunk o.lanes (f.word / 512) && is_chunk_taken (slice_index o.words) o.lanes (zone_of o.lanes (f.word / 512)) (chunk_of o.lanes (f.word / 512) - 1)) _ (sound.in_blocks line f.word guard) in
      let taken = (and_parts (is_chunk o.lanes (f.word / 512)) (is_chunk_taken (slice_index o.words) o.lanes (zone_of o.lanes (f.word / 512)) (chunk_of o.lanes (f.word / 512) - 1)) inside.0).1 in
      false≢true (sym (ap not (ap (λ p. is_chunk_taken (slice_index o.words) o.lanes (zone_of o.lanes p) (chunk_of o.lanes p - 1)) (sym here) ∙ taken)) ∙ free))
      (λ (taken : is_free_chunk (slice_index o.words) o.lanes page ≡ false).
      let d : ℕ = lane_descriptor o.lanes page in
      let seen : w d ≡ slice_index o.words d = ⊎_elim (λ (was : w d ≡ slice_index o.words d). was) (λ (now : w d ≡ heap_words o mem d). now ∙ taken_descriptor o mem page (is_page c) taken) (fits.picture.descriptors page (is_page c)) in
      sound.apart line f.word guard (page, (is_page c, inr (bitmap, ap is_run (sym seen ∙ ap w (sym (descriptor_at c))) ∙ run))))
      (cases_Bool (is_free_chunk (slice_index o.words) o.lanes page)))

  -- ---- what the words are to the view

  abbrev own_page : ℕ → ℕ
  own_page c = 2 + 2 * v.lanes + 65 * (c / 64) + c % 64

  is_of : (c : ℕ) → IsPageOf v.lanes (own_page c) c
  is_of c = page_of_chunk v.lanes (own_page c) c refl

  descriptor_describes : (c : ℕ) → describes v.lanes (descriptor_word v.lanes c) ≡ true
  descriptor_describes c = subst (λ i. describes v.lanes i ≡ true) (is_of c).descriptor (describes_it v.lanes (own_page c) (omega arith, omega arith))

  bitmap_plain : (c : ℕ) → describes v.lanes (chunk_word v.lanes c) ≡ false
  bitmap_plain c = false_from_ne_true (describes v.lanes (chunk_word v.lanes c)) (λ e. let first = (described v.lanes (chunk_word v.lanes c) e).first in omega (arith, first))

  bitmap_is : (c : ℕ) → is_run (w (descriptor_word v.lanes c)) ≡ true → is_bitmap v (chunk_word v.lanes c) ≡ true
  bitmap_is c run =
      let i : ℕ = chunk_word v.lanes c in
      let here : i / 512 ≡ own_page c = omega arith in
      and_from (is_chunk v.lanes (i / 512) && eqb (i % 512) 0) (is_run (w (lane_descriptor v.lanes (i / 512))))
      (and_from (is_chunk v.lanes (i / 512)) (eqb (i % 512) 0) (ap (is_chunk v.lanes) here ∙ (is_of c).in_chunk) (eq-eqb (i % 512) 0 (omega arith)))
      (ap (λ p. is_run (w (lane_descriptor v.lanes p))) here ∙ (ap (λ i. is_run (w i)) (is_of c).descriptor ∙ run))

  run_described : (c lines : ℕ) → w (descriptor_word v.lanes c) ≡ 1 + 256 * lines → is_run (w (descriptor_word v.lanes c)) ≡ true
  run_described c lines is = eq-eqb (w (descriptor_word v.lanes c) % 256) 1 (omega (arith, is))

  -- ---- what is freed is of the pool

  none_of_pool : (blocks : List Taken) → blocks ≡ [] → AreOfPool v.lanes v.zones blocks
  none_of_pool blocks none = subst (AreOfPool v.lanes v.zones) (sym none)
      (record { of_pool = All-nil (λ (t : Taken). IsOcc v.lanes v.zones t.at); small = All-nil (λ (t : Taken). t.bits < 2 ^ 64); some = All-nil (λ (t : Taken). t.bits ≢ 0) })

  one_of_pool : (blocks : List Taken) (t : Taken) → blocks ≡ t ∷ [] → IsOcc v.lanes v.zones t.at → t.bits < 2 ^ 64 → t.bits ≢ 0 → AreOfPool v.lanes v.zones blocks
  one_of_pool blocks t is of small some = subst (AreOfPool v.lanes v.zones) (sym is)
      (record {
        of_pool = All-cons (λ (u : Taken). IsOcc v.lanes v.zones u.at) t [] of (All-nil (λ (u : Taken). IsOcc v.lanes v.zones u.at));
        small = All-cons (λ (u : Taken). u.bits < 2 ^ 64) t [] small (All-nil (λ (u : Taken). u.bits < 2 ^ 64));
        some = All-cons (λ (u : Taken). u.bits ≢ 0) t [] some (All-nil (λ (u : Taken). u.bits ≢ 0));
      })

  bit_of_pool : (c index : ℕ) (blocks : List Taken) → c < 64 * v.zones → index < 64
      → blocks ≡ record { at = Run (8 * chunk_word v.lanes c); bits = bit_not w64 (2 ^ 64 - 1 - 2 ^ index) } ∷ [] → AreOfPool v.lanes v.zones blocks
  bit_of_pool c index blocks inside low is =
      let turned = turned_twice index low in
      let small : 2 ^ index < 2 ^ 64 = pow-lt {i = index} {j = 64} low in
      let some : 1 ≤ 2 ^ index = pow_pos index in
      one_of_pool blocks (record { at = Run (8 * chunk_word v.lanes c); bits = bit_not w64 (2 ^ 64 - 1 - 2 ^ index) }) is
      (omega arith, (omega arith, omega arith), omega (arith, inside))
      (omega (arith, turned, small)) (λ zero. omega (arith, turned, some, zero))

  row_of_pool : (c chunks descriptor : ℕ) (blocks : List Taken) → c < 64 * v.zones → 1 ≤ chunks → c % 64 + chunks ≤ 64 → descriptor / 256 ≡ chunks
      → blocks ≡ chunks_described v.lanes (descriptor_word v.lanes c) descriptor ∷ [] → AreOfPool v.lanes v.zones blocks
  row_of_pool c chunks descriptor blocks inside some fits high is =
      let t : Taken = record { at = Zone (c / 64); bits = chunk_bits (c % 64) chunks } in
      let set = bit_inside (c % 64) chunks (c % 64) (omega arith) (omega (arith, some)) in
      one_of_pool blocks t (is ∙ ap (λ (x : Taken). x ∷ []) (row_described v.lanes c chunks descriptor high)) (omega (arith, inside)) (bits_small (c % 64) chunks fits)
      (λ zero. let none = bit_at-zero (c % 64) in let clear = sym (ap (λ n. bit_at n (c % 64)) zero) ∙ set in omega (arith, none, clear))

  -- ---- each of what may be published

  pub handed : (s : Published) → CanPublish w v.lanes v.zones s → IsHanded v s
  handed (Performs a) can =
      let tells = tells_none w v.lanes v.zones none a can in
      let nothing = none_telling v (entry_published v.lanes (Performs a)) tells.plain tells.no_bitmap in
      record { allocates = no_bits (allocated_by v (entry_published v.lanes (Performs a))) nothing.0; frees = no_bits (freed_by v (entry_published v.lanes (Performs a))) nothing.1; places = none_of_pool (freed_by v (entry_published v.lanes (Performs a))) nothing.1 }
  handed (Changes (AllocatesInRun c lines index kind bytes)) can =
      let f : Final = entry_of v.lanes (AllocatesInRun c lines index kind bytes) in
      let run = run_described c lines can.is_run in
      let told = run_allocates v f (bitmap_of_heap f c refl run) (bitmap_plain c) (bitmap_is c run) refl in
      record { allocates = block_bits v.lanes c index (2 ^ index) (allocated_by v f) (index_small lines index can.inside) refl told.0; frees = no_bits (freed_by v f) told.1; places = none_of_pool (freed_by v f) told.1 }
  handed (Changes (FreesInRun c lines index)) can =
      let f : Final = entry_of v.lanes (FreesInRun c lines index) in
      let run = run_described c lines can.is_run in
      let told = run_frees v f (bitmap_of_heap f c refl run) (bitmap_plain c) (bitmap_is c run) refl in
      let low : index < 64 = index_small lines index can.inside in
      record { allocates = no_bits (allocated_by v f) told.0; frees = block_bits v.lanes c index (bit_not w64 (2 ^ 64 - 1 - 2 ^ index)) (freed_by v f) low (turned_twice index low) told.1; places = bit_of_pool c index (freed_by v f) can.in_zones low told.1 }
  handed (Changes (AllocatesChunks c chunks kind bytes)) can =
      let f : Final = entry_of v.lanes (AllocatesChunks c chunks kind bytes) in
      let told = chunks_allocate v f (descriptor_of_heap f c refl) (descriptor_describes c) (eq-eqb ((2 + 256 * chunks) % 256) 2 (omega arith)) (ne_eqb (2 + 256 * chunks) 0 (λ zero. omega (arith, zero))) in
      record { allocates = row_bits v.lanes c chunks (2 + 256 * chunks) (allocated_by v f) can.1.in_zone (omega arith) told.0; frees = no_bits (freed_by v f) told.1; places = none_of_pool (freed_by v f) told.1 }
  handed (Changes (FreesChunks c chunks)) can =
      let f : Final = entry_of v.lanes (FreesChunks c chunks) in
      let is : w (descriptor_word v.lanes c) ≡ 2 + 256 * chunks = can.is_first in
      let high : w (descriptor_word v.lanes c) / 256 ≡ chunks = omega (arith, is) in
      let good = good_chunk w v.lanes v.zones c none can.in_zones in
      let whole = whole_by_byte w v.lanes c good (omega (arith, is)) in
      let room = chunks_fit w v.lanes c (w (descriptor_word v.lanes c) / 256) good whole in
      let told = chunks_free v f (descriptor_of_heap f c refl) (descriptor_describes c) refl refl in
      record {
        allocates = no_bits (allocated_by v f) told.0;
        frees = row_bits v.lanes c chunks (w (descriptor_word v.lanes c)) (freed_by v f) (omega (arith, room, high)) high told.1;
        places = row_of_pool c chunks (w (descriptor_word v.lanes c)) (freed_by v f) can.in_zones (some_of_first w v.lanes v.zones c chunks none can) (omega (arith, room, high)) high told.1;
      }
