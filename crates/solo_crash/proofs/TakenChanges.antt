-- What is taken by words in which a block was made a new object's, or freed.
use Rattle.std.proofs.Common.{◌≡◌, ◌≢◌, ◌⊎◌, ◌↔◌, inl, inr, ⊎_elim, ℕ, ◌+◌, ◌-◌, ◌*◌, ◌/◌, ◌%◌, ◌<◌, ◌≤◌, ◌||◌, Bool, true, false, not, eqb, leb, ltb, Some, None, sym, ◌∙◌, ap, subst, arith, eq-eqb, List}
use Rattle.std.specs.Int.{bit_at}
use Rattle.std.specs.List.{list_any, range_with_len}
use Rattle.std.proofs.lemmas.Bool.{and_from, and_parts, cases_Bool, cases_eq, cases_lt, eqb-true, false≢true, false_from_ne_true, lt-leb, lt-ltb, ltb-true, ne_eqb, or_cases, or_from, or_left, or_right}
use Rattle.pm_layout.specs.Sizes.{blocks_of}
use Rattle.pm_layout.specs.declared.class.Class.TheVariants.{Lines}
use Rattle.pm_image.specs.Blocks.{chunk_word, class_in, descriptor_word}
use Rattle.pm_image.specs.HeapFaults.{heap_fault}
use Rattle.pm_image.proofs.Ordered.{further_zeros}
use Rattle.solo_view.specs.declared.occ.Occ.{Occ}
use Rattle.solo_view.specs.declared.occ.Occ.TheVariants.{Run, Zone}
use Rattle.solo_view.specs.Blocks.{bitmap_word, chunk_of, descriptor_word as lane_descriptor, is_huge, is_run, zone_of, zone_page}
use Rattle.solo_view.specs.Occupancy.{is_block_taken, is_chunk_taken, is_taken, reaches}
use Rattle.solo_world.specs.Heap.{IsOcc}
use Rattle.solo_world.specs.Opening.{IsChunk}
use Rattle.solo_world.proofs.CrashReplays.{lane_some}
use Rattle.solo_world.proofs.Losses.{some_lane}
use Rattle.solo_crash.specs.NewObjects.{FreesChunksBlock, FreesRunBlock, MakesChunksObject, MakesRunObject}
use Rattle.solo_crash.specs.Taken.{IsBlockBit, IsChunkBit, TakesLess, TakesMore}
use Rattle.solo_crash.proofs.Apart.{good_chunk}
use Rattle.solo_crash.proofs.BitMore.{HasBitMore}
use Rattle.solo_crash.proofs.Classes.{run_by_byte, whole_by_byte}
use Rattle.solo_crash.proofs.FoundBlocks.{IsPageOf, page_of_chunk}
use Rattle.solo_crash.proofs.FreedBlocks as freeing
use Rattle.solo_crash.proofs.MadeObjects as making

-- the chunk of a page
pub chunk_in : ℕ → ℕ → ℕ
chunk_in lanes page = 64 * zone_of lanes page + (chunk_of lanes page - 1)

pub record PageChunk (lanes zones page c : ℕ) : Type 0 where
  pub in_zones : c < 64 * zones
  pub of : IsPageOf lanes page c
  pub is : page ≡ 2 + 2 * lanes + 65 * (c / 64) + c % 64

pub page_chunk : (lanes zones page : ℕ) → IsChunk lanes page → page < 1 + 2 * lanes + 65 * zones → PageChunk lanes zones page (chunk_in lanes page)
unfolding chunk_in
page_chunk lanes zones page chunk inside =
    let low = chunk.0 in let some = chunk.1 in
    let c : ℕ = 64 * zone_of lanes page + (chunk_of lanes page - 1) in
    let is : page ≡ 2 + 2 * lanes + 65 * (c / 64) + c % 64 = omega (arith, low, some) in
    record { in_zones = omega (arith, low, some, inside); of = page_of_chunk lanes page c is; is = is }

-- a zone's descriptor, by the chunk's number in the row
pub row_word : (lanes zone chunk : ℕ) → chunk < 64 → 512 * zone_page lanes zone + chunk ≡ descriptor_word lanes (64 * zone + chunk)
row_word lanes zone chunk low = omega arith

-- ---- what makes a chunk taken

reached_by : (w : ℕ → ℕ) (lanes zone chunk first : ℕ) → first ≤ chunk → reaches w lanes zone chunk first ≡ true → is_chunk_taken w lanes zone chunk ≡ true
reached_by w lanes zone chunk first less e =
    or_right (is_run (w (512 * zone_page lanes zone + chunk))) (list_any (reaches w lanes zone chunk) (range_with_len 0 (chunk + 1))) (lane_some (reaches w lanes zone chunk) (chunk + 1) first (omega arith) e)

run_taken : (w : ℕ → ℕ) (lanes zone chunk : ℕ) → is_run (w (512 * zone_page lanes zone + chunk)) ≡ true → is_chunk_taken w lanes zone chunk ≡ true
run_taken w lanes zone chunk e = or_left (is_run (w (512 * zone_page lanes zone + chunk))) (list_any (reaches w lanes zone chunk) (range_with_len 0 (chunk + 1))) e

record ReachedFrom (w : ℕ → ℕ) (lanes zone chunk : ℕ) : Type 0 where
  first : ℕ
  less : first ≤ chunk
  is_first : is_huge (w (512 * zone_page lanes zone + first)) ≡ true
  far : chunk < first + w (512 * zone_page lanes zone + first) / 256

taken_by : (w : ℕ → ℕ) (lanes zone chunk : ℕ) → is_chunk_taken w lanes zone chunk ≡ true → (is_run (w (512 * zone_page lanes zone + chunk)) ≡ true) ⊎ ReachedFrom w lanes zone chunk
taken_by w lanes zone chunk e = ⊎_elim inl
    (λ (any : list_any (reaches w lanes zone chunk) (range_with_len 0 (chunk + 1)) ≡ true).
    let t = some_lane (reaches w lanes zone chunk) 0 (chunk + 1) any in
    let d : ℕ = w (512 * zone_page lanes zone + t.0) in
    let s = and_parts (is_huge d) (ltb chunk (t.0 + d / 256)) t.3 in
    let high = t.2 in
    inr (record { first = t.0; less = omega (arith, high); is_first = s.0; far = ltb-true chunk (t.0 + d / 256) s.1 }))
    (or_cases (is_run (w (512 * zone_page lanes zone + chunk))) (list_any (reaches w lanes zone chunk) (range_with_len 0 (chunk + 1))) e)

reaches_from : (w : ℕ → ℕ) (lanes zone chunk first : ℕ) → first ≤ chunk → is_huge (w (512 * zone_page lanes zone + first)) ≡ true → chunk < first + w (512 * zone_page lanes zone + first) / 256
    → is_chunk_taken w lanes zone chunk ≡ true
reaches_from w lanes zone chunk first less is far =
    let d : ℕ = w (512 * zone_page lanes zone + first) in
    reached_by w lanes zone chunk first less (and_from (is_huge d) (ltb chunk (first + d / 256)) is (lt-ltb chunk (first + d / 256) far))

-- where each descriptor of the zone is the same, the same chunks are taken
pub still_taken : (w v : ℕ → ℕ) (lanes zone chunk : ℕ) → ((k : ℕ) → k ≤ chunk → v (512 * zone_page lanes zone + k) ≡ w (512 * zone_page lanes zone + k)) → is_chunk_taken w lanes zone chunk ≡ true → is_chunk_taken v lanes zone chunk ≡ true
still_taken w v lanes zone chunk same taken = ⊎_elim
    (λ (run : is_run (w (512 * zone_page lanes zone + chunk)) ≡ true). run_taken v lanes zone chunk (ap is_run (same chunk (omega arith)) ∙ run))
    (λ (from : ReachedFrom w lanes zone chunk).
    let d = same from.first from.less in
    reaches_from v lanes zone chunk from.first from.less (ap is_huge d ∙ from.is_first) (let far = from.far in subst (λ n. chunk < from.first + n / 256) (sym d) far))
    (taken_by w lanes zone chunk taken)

-- ---- blocks of a run

module _ (w v : ℕ → ℕ) (lanes zones : ℕ) (none : heap_fault w lanes zones ≡ None) where
  -- a run's block is taken where it was, by the same descriptor and bit
  pub block_still : (page bit : ℕ) → v (lane_descriptor lanes page) ≡ w (lane_descriptor lanes page) → (is_run (w (lane_descriptor lanes page)) ≡ true → bit_at (v (bitmap_word page)) bit ≡ bit_at (w (bitmap_word page)) bit)
      → is_block_taken v lanes page bit ≡ is_block_taken w lanes page bit
  block_still page bit same bits =
      let d : ℕ = w (lane_descriptor lanes page) in
      ap (λ x. not (is_run x) || leb (blocks_of (x / 256)) bit || eqb (bit_at (v (bitmap_word page)) bit) 1) same
      ∙ ⊎_elim
      (λ (run : is_run d ≡ true). ap (λ y. not (is_run d) || leb (blocks_of (d / 256)) bit || eqb y 1) (bits run))
      (λ (no_run : is_run d ≡ false).
      ap (λ b. not b || leb (blocks_of (d / 256)) bit || eqb (bit_at (v (bitmap_word page)) bit) 1) no_run
      ∙ sym (ap (λ b. not b || leb (blocks_of (d / 256)) bit || eqb (bit_at (w (bitmap_word page)) bit) 1) no_run))
      (cases_Bool (is_run d))

  -- a run of the pool has a class
  pub run_class : (k : ℕ) → k < 64 * zones → is_run (w (descriptor_word lanes k)) ≡ true → class_in (w (descriptor_word lanes k)) ≡ Some (Lines (w (descriptor_word lanes k) / 256))
  run_class k inside run = run_by_byte w lanes k (good_chunk w lanes zones k none inside) (eqb-true (w (descriptor_word lanes k) % 256) 1 run)

  -- the words of another chunk's runs stay
  blocks_elsewhere : (c : ℕ) → ((k : ℕ) → k < 64 * zones → k ≢ c → v (descriptor_word lanes k) ≡ w (descriptor_word lanes k))
      → ((k lines : ℕ) → k < 64 * zones → k ≢ c → class_in (w (descriptor_word lanes k)) ≡ Some (Lines lines) → v (chunk_word lanes k) ≡ w (chunk_word lanes k))
      → (page bit k : ℕ) → PageChunk lanes zones page k → k ≢ c → is_block_taken v lanes page bit ≡ is_block_taken w lanes page bit
  blocks_elsewhere c descriptors bitmaps page bit k at other =
      let of = at.of in
      block_still page bit (ap v of.descriptor ∙ (descriptors k at.in_zones other ∙ ap w (sym of.descriptor)))
      (λ run. ap (λ n. bit_at n bit) (ap v of.bitmap ∙ (bitmaps k (w (descriptor_word lanes k) / 256) at.in_zones other (run_class k at.in_zones (ap (λ i. is_run (w i)) (sym of.descriptor) ∙ run)) ∙ ap w (sym of.bitmap))))

-- the occupancy word of the page is not that of another's
run_place : (lanes zones place k c : ℕ) → IsOcc lanes zones (Run place) → PageChunk lanes zones (place / 4096) k → Run place ≡ Run (8 * chunk_word lanes c) → k ≡ c
run_place lanes zones place k c of at same =
    let is = at.is in
    let whole = of.0 in
    let here : place ≡ 8 * chunk_word lanes c = ap place_of same in
    omega (arith, is, whole, here)
  where
    place_of : Occ → ℕ
    place_of (Run p) = p
    place_of (Zone z) = z

occ_place : (lanes zones place k : ℕ) → IsOcc lanes zones (Run place) → PageChunk lanes zones (place / 4096) k → place ≡ 8 * chunk_word lanes k
occ_place lanes zones place k of at = let is = at.is in let whole = of.0 in omega (arith, is, whole)

zone_place : (zone place : ℕ) → Zone zone ≡ Run place → ⊥
zone_place zone place same = absurd (let e = ap kind same in omega (arith, e)) where
  kind : Occ → ℕ
  kind (Run p) = 0
  kind (Zone z) = 1

place_zone : (place zone : ℕ) → Run place ≡ Zone zone → ⊥
place_zone place zone same = zone_place zone place (sym same)

same_zone : (zone other : ℕ) → Zone zone ≡ Zone other → zone ≡ other
same_zone zone other same = ap zone_in same where
  zone_in : Occ → ℕ
  zone_in (Run p) = p
  zone_in (Zone z) = z

either_way : (a b : Bool) → a ≡ b → (P : Type 0) → ¬ P → (a ≡ true) ↔ ((b ≡ true) ⊎ P)
either_way a b same P never = (λ yes. inl (sym same ∙ yes), λ some. ⊎_elim (λ yes. same ∙ yes) (λ p. absurd (never p)) some)

-- ---- a block of a run becomes an object's

module _ (w v : ℕ → ℕ) (lanes zones c lines index kind : ℕ) (bytes : List ℕ) (none : heap_fault w lanes zones ≡ None) (made : MakesRunObject w v lanes zones c lines index kind bytes) where
  descriptors : (k : ℕ) → k < 64 * zones → v (descriptor_word lanes k) ≡ w (descriptor_word lanes k)
  descriptors = making.descriptors_here w v lanes zones c lines index kind bytes none made

  zones_still : (zone bit k : ℕ) → zone < zones → bit < 64 → k ≤ bit → v (512 * zone_page lanes zone + k) ≡ w (512 * zone_page lanes zone + k)
  zones_still zone bit k inside low less =
      let at = row_word lanes zone k (omega (arith, less, low)) in ap v at ∙ (descriptors (64 * zone + k) (omega (arith, inside, less, low)) ∙ ap w (sym at))

  bit : HasBitMore (w (chunk_word lanes c)) (v (chunk_word lanes c)) index
  bit = making.bit_here w v lanes zones c lines index kind bytes none made

  run_here : is_run (w (descriptor_word lanes c)) ≡ true
  run_here = let is : w (descriptor_word lanes c) ≡ 1 + 256 * lines = made.free.is_run in eq-eqb (w (descriptor_word lanes c) % 256) 1 (omega (arith, is))

  -- of the run's own bits
  own_block : (page i : ℕ) → PageChunk lanes zones page c → i < 64 → (is_block_taken v lanes page i ≡ true) ↔ ((is_block_taken w lanes page i ≡ true) ⊎ (i ≡ index))
  own_block page i at low = ⊎_elim
      (λ (here : i ≡ index). (
        (λ taken. inr here),
        (λ some. let set = bit.is_set in
            or_right (not (is_run (v (lane_descriptor lanes page))) || leb (blocks_of (v (lane_descriptor lanes page) / 256)) i) (eqb (bit_at (v (bitmap_word page)) i) 1)
            (eq-eqb (bit_at (v (bitmap_word page)) i) 1 ((λ j. bit_at (v (at.of.bitmap j)) (here j)) ∙ set))),
      ))
      (λ (other : i ≢ index). either_way (is_block_taken v lanes page i) (is_block_taken w lanes page i)
      (block_still w v lanes zones none page i (ap v at.of.descriptor ∙ (descriptors c at.in_zones ∙ ap w (sym at.of.descriptor)))
      (λ run. ap (λ n. bit_at n i) (ap v at.of.bitmap) ∙ (bit.others i other ∙ ap (λ n. bit_at n i) (ap w (sym at.of.bitmap))))) (i ≡ index) other)
      (cases_eq i index)

  pub made_takes : TakesMore w v lanes zones (IsBlockBit lanes c index)
  made_takes (Zone zone) i of low = (
    (λ taken. inl (still_taken v w lanes zone i (λ k less. sym (zones_still zone i k of low less)) taken)),
    (λ some. ⊎_elim (λ taken. still_taken w v lanes zone i (λ k less. zones_still zone i k of low less) taken) (λ (t : IsBlockBit lanes c index (Zone zone) i). absurd (zone_place zone (8 * chunk_word lanes c) t.0)) some),
  )
  made_takes (Run place) i of low =
      let page : ℕ = place / 4096 in
      let k : ℕ = chunk_in lanes page in
      let at = page_chunk lanes zones page of.1 of.2 in
      ⊎_elim
      (λ (here : k ≡ c).
      let own = own_block page i (subst (PageChunk lanes zones page) here at) low in
      let word : Run place ≡ Run (8 * chunk_word lanes c) = ap Run (occ_place lanes zones place k of at ∙ ap (λ n. 8 * chunk_word lanes n) here) in (
        (λ taken. ⊎_elim (λ was. inl was) (λ (is : i ≡ index). inr (word, is)) (own.0 taken)),
        (λ some. own.1 (⊎_elim (λ was. inl was) (λ (t : IsBlockBit lanes c index (Run place) i). inr t.1) some)),
      ))
      (λ (other : k ≢ c). either_way (is_block_taken v lanes page i) (is_block_taken w lanes page i)
      (blocks_elsewhere w v lanes zones none c (λ j inside differ. descriptors j inside) (making.bitmaps_here w v lanes zones c lines index kind bytes none made) page i k at other)
      (IsBlockBit lanes c index (Run place) i) (λ t. other (run_place lanes zones place k c of at t.0)))
      (cases_eq k c)

-- ---- and is freed

both_ways : (a b : Bool) → a ≡ b → (P : Type 0) → ¬ P → (a ≡ true) ↔ ((b ≡ true) × ¬ P)
both_ways a b same P never = (λ yes. (sym same ∙ yes, never), λ t. same ∙ t.0)

module _ (w v : ℕ → ℕ) (lanes zones c lines index : ℕ) (none : heap_fault w lanes zones ≡ None) (freed : FreesRunBlock w v lanes zones c lines index) where
  descriptors_kept : (k : ℕ) → k < 64 * zones → v (descriptor_word lanes k) ≡ w (descriptor_word lanes k)
  descriptors_kept = freeing.descriptors_here w v lanes zones c lines index none freed

  zones_kept : (zone i k : ℕ) → zone < zones → i < 64 → k ≤ i → v (512 * zone_page lanes zone + k) ≡ w (512 * zone_page lanes zone + k)
  zones_kept zone i k inside low less =
      let at = row_word lanes zone k (omega (arith, less, low)) in ap v at ∙ (descriptors_kept (64 * zone + k) (omega (arith, inside, less, low)) ∙ ap w (sym at))

  bit_freed : HasBitMore (v (chunk_word lanes c)) (w (chunk_word lanes c)) index
  bit_freed = freeing.bit_here w v lanes zones c lines index none freed

  was_run : w (descriptor_word lanes c) ≡ 1 + 256 * lines
  was_run = freed.may.is_run

  -- the block itself is free by v, and was taken by w
  now_free : (page : ℕ) → PageChunk lanes zones page c → is_block_taken v lanes page index ≡ false
  now_free page at =
      let d = ap v at.of.descriptor ∙ (descriptors_kept c at.in_zones ∙ was_run) in
      let few : lines ≡ (1 + 256 * lines) / 256 = omega arith in
      let within = freed.may.inside in
      let clear = bit_freed.is_clear in
      or_from (not (is_run (v (lane_descriptor lanes page))) || leb (blocks_of (v (lane_descriptor lanes page) / 256)) index) (eqb (bit_at (v (bitmap_word page)) index) 1)
      (or_from (not (is_run (v (lane_descriptor lanes page)))) (leb (blocks_of (v (lane_descriptor lanes page) / 256)) index)
      (ap (λ x. not (is_run x)) d ∙ ap not (eq-eqb ((1 + 256 * lines) % 256) 1 (omega arith)))
      (ap (λ x. leb (blocks_of (x / 256)) index) d ∙ (ap (λ n. leb (blocks_of n) index) (sym few) ∙ lt-leb (blocks_of lines) index within)))
      (ne_eqb (bit_at (v (bitmap_word page)) index) 1 (λ one. let here = ap (λ n. bit_at n index) (ap v at.of.bitmap) in absurd (omega (arith, one, here, clear))))

  was_taken : (page : ℕ) → PageChunk lanes zones page c → is_block_taken w lanes page index ≡ true
  was_taken page at =
      or_right (not (is_run (w (lane_descriptor lanes page))) || leb (blocks_of (w (lane_descriptor lanes page) / 256)) index) (eqb (bit_at (w (bitmap_word page)) index) 1)
      (eq-eqb (bit_at (w (bitmap_word page)) index) 1 (ap (λ n. bit_at n index) (ap w at.of.bitmap) ∙ freed.may.is_set))

  own_freed : (page i : ℕ) → PageChunk lanes zones page c → (is_block_taken v lanes page i ≡ true) ↔ ((is_block_taken w lanes page i ≡ true) × ¬ (i ≡ index))
  own_freed page i at = ⊎_elim
      (λ (here : i ≡ index). ((λ taken. absurd (false≢true (sym (now_free page at) ∙ (ap (is_block_taken v lanes page) (sym here) ∙ taken)))), (λ t. absurd (t.1 here))))
      (λ (other : i ≢ index). both_ways (is_block_taken v lanes page i) (is_block_taken w lanes page i)
      (block_still w v lanes zones none page i (ap v at.of.descriptor ∙ (descriptors_kept c at.in_zones ∙ ap w (sym at.of.descriptor)))
      (λ run. ap (λ n. bit_at n i) (ap v at.of.bitmap) ∙ (sym (bit_freed.others i other) ∙ ap (λ n. bit_at n i) (ap w (sym at.of.bitmap))))) (i ≡ index) other)
      (cases_eq i index)

  pub freed_takes : TakesLess w v lanes zones (IsBlockBit lanes c index)
  freed_takes = record { less = less; were = were } where
    less : (at : Occ) (i : ℕ) → IsOcc lanes zones at → i < 64 → (is_taken v lanes at i ≡ true) ↔ ((is_taken w lanes at i ≡ true) × ¬ IsBlockBit lanes c index at i)
    less (Zone zone) i of low = (
      (λ taken. (still_taken v w lanes zone i (λ k near. sym (zones_kept zone i k of low near)) taken, λ t. zone_place zone (8 * chunk_word lanes c) t.0)),
      (λ t. still_taken w v lanes zone i (λ k near. zones_kept zone i k of low near) t.0),
    )
    less (Run place) i of low =
        let page : ℕ = place / 4096 in
        let k : ℕ = chunk_in lanes page in
        let at = page_chunk lanes zones page of.1 of.2 in
        ⊎_elim
        (λ (here : k ≡ c).
        let own = own_freed page i (subst (PageChunk lanes zones page) here at) in
        let word : Run place ≡ Run (8 * chunk_word lanes c) = ap Run (occ_place lanes zones place k of at ∙ ap (λ n. 8 * chunk_word lanes n) here) in (
          (λ taken. let t = own.0 taken in (t.0, λ s. t.1 s.1)),
          (λ t. own.1 (t.0, λ is. t.1 (word, is))),
        ))
        (λ (other : k ≢ c). both_ways (is_block_taken v lanes page i) (is_block_taken w lanes page i)
        (blocks_elsewhere w v lanes zones none c (λ j inside differ. descriptors_kept j inside) (freeing.bitmaps_here w v lanes zones c lines index none freed) page i k at other)
        (IsBlockBit lanes c index (Run place) i) (λ t. other (run_place lanes zones place k c of at t.0)))
        (cases_eq k c)

    were : (at : Occ) (i : ℕ) → IsOcc lanes zones at → i < 64 → IsBlockBit lanes c index at i → is_taken w lanes at i ≡ true
    were (Zone zone) i of low t = absurd (zone_place zone (8 * chunk_word lanes c) t.0)
    were (Run place) i of low t =
        let page : ℕ = place / 4096 in
        let at = page_chunk lanes zones page of.1 of.2 in
        ap (is_block_taken w lanes page) t.1 ∙ was_taken page (subst (PageChunk lanes zones page) (run_place lanes zones place (chunk_in lanes page) c of at t.0) at)

-- ---- chunks become an object's

-- the descriptor of so many whole chunks
whole : (d chunks : ℕ) → d ≡ 2 + 256 * chunks → (is_huge d ≡ true) × (d / 256 ≡ chunks)
whole d chunks is = (eq-eqb (d % 256) 2 (omega (arith, is)), omega (arith, is))

huge_no_run : (d : ℕ) → is_huge d ≡ true → is_run d ≡ false
huge_no_run d huge = let two = eqb-true (d % 256) 2 huge in ne_eqb (d % 256) 1 (λ one. absurd (omega (arith, two, one)))

zero_no_run : (d : ℕ) → d ≡ 0 → (is_run d ≡ false) × (is_huge d ≡ false)
zero_no_run d zero_word = (ap is_run zero_word, ap is_huge zero_word)

-- of what is no run each block is taken
no_run_block : (w : ℕ → ℕ) (lanes page bit : ℕ) → is_run (w (lane_descriptor lanes page)) ≡ false → is_block_taken w lanes page bit ≡ true
no_run_block w lanes page bit none =
    let d : ℕ = w (lane_descriptor lanes page) in
    or_left (not (is_run d) || leb (blocks_of (d / 256)) bit) (eqb (bit_at (w (bitmap_word page)) bit) 1) (or_left (not (is_run d)) (leb (blocks_of (d / 256)) bit) (ap not none))

-- the number of a chunk in its zone, and in the row
in_row : (zone first c : ℕ) → first < 64 → 64 * zone + first ≡ c → (zone ≡ c / 64) × (first ≡ c % 64)
in_row zone first c low same = (omega (arith, low, same), omega (arith, low, same))

module _ (w v : ℕ → ℕ) (lanes zones c chunks kind : ℕ) (bytes : List ℕ) (none : heap_fault w lanes zones ≡ None) (made : MakesChunksObject w v lanes zones c chunks kind bytes) where
  free : is_chunk_taken w lanes (c / 64) (c % 64) ≡ false
  free = making.first_free w v lanes zones c chunks kind bytes none made

  some : 1 ≤ chunks
  some = making.some_of_size w v lanes zones c chunks kind bytes none made

  elsewhere : (k : ℕ) → k < 64 * zones → k ≢ c → v (descriptor_word lanes k) ≡ w (descriptor_word lanes k)
  elsewhere = making.descriptors_elsewhere w v lanes zones c none made.free.in_zones free made.others

  now_whole : (is_huge (v (descriptor_word lanes c)) ≡ true) × (v (descriptor_word lanes c) / 256 ≡ chunks)
  now_whole = whole (v (descriptor_word lanes c)) chunks made.descriptor

  -- another descriptor of a zone
  other_word : (zone k : ℕ) → zone < zones → k < 64 → 64 * zone + k ≢ c → v (512 * zone_page lanes zone + k) ≡ w (512 * zone_page lanes zone + k)
  other_word zone k inside low differ = let at = row_word lanes zone k low in ap v at ∙ (elsewhere (64 * zone + k) (omega (arith, inside, low)) differ ∙ ap w (sym at))

  own_word : (zone k : ℕ) → k < 64 → 64 * zone + k ≡ c → v (512 * zone_page lanes zone + k) ≡ v (descriptor_word lanes c)
  own_word zone k low same = ap v (row_word lanes zone k low ∙ ap (descriptor_word lanes) same)

  -- the chunk was free, so by its own descriptor nothing was taken
  nothing_by_own : (zone k : ℕ) → k < 64 → 64 * zone + k ≡ c → (i : ℕ) → k ≤ i → (is_huge (w (512 * zone_page lanes zone + k)) ≡ true) → i < k + w (512 * zone_page lanes zone + k) / 256 → ⊥
  nothing_by_own zone k low same i less huge far =
      let at = in_row zone k c low same in
      false≢true (sym ((λ j. is_chunk_taken w lanes (at.0 j) (at.1 j)) ∙ free) ∙ reaches_from w lanes zone k k (omega arith) huge (omega (arith, less, far)))

  made_before : (zone i : ℕ) → zone < zones → i < 64 → is_chunk_taken v lanes zone i ≡ true → (is_chunk_taken w lanes zone i ≡ true) ⊎ IsChunkBit c chunks (Zone zone) i
  made_before zone i inside low taken = ⊎_elim
      (λ (run : is_run (v (512 * zone_page lanes zone + i)) ≡ true). ⊎_elim
      (λ (own : 64 * zone + i ≡ c). absurd (false≢true (sym (huge_no_run (v (descriptor_word lanes c)) now_whole.0) ∙ (ap is_run (sym (own_word zone i low own)) ∙ run))))
      (λ (other : 64 * zone + i ≢ c). inl (run_taken w lanes zone i (ap is_run (sym (other_word zone i inside low other)) ∙ run))) (cases_eq (64 * zone + i) c))
      (λ (from : ReachedFrom v lanes zone i).
      let less = from.less in let far = from.far in
      ⊎_elim
      (λ (own : 64 * zone + from.first ≡ c).
      let at = in_row zone from.first c (omega (arith, less, low)) own in
      let count = ap (λ d. d / 256) (own_word zone from.first (omega (arith, less, low)) own) ∙ now_whole.1 in
      let here = at.1 in
      inr (ap Zone at.0, (omega (arith, less, here), omega (arith, far, count, here))))
      (λ (other : 64 * zone + from.first ≢ c).
      let same = other_word zone from.first inside (omega (arith, less, low)) other in
      inl (reaches_from w lanes zone i from.first less (ap is_huge (sym same) ∙ from.is_first) (subst (λ d. i < from.first + d / 256) same far)))
      (cases_eq (64 * zone + from.first) c))
      (taken_by v lanes zone i taken)

  made_still : (zone i : ℕ) → zone < zones → i < 64 → is_chunk_taken w lanes zone i ≡ true → is_chunk_taken v lanes zone i ≡ true
  made_still zone i inside low taken = ⊎_elim
      (λ (run : is_run (w (512 * zone_page lanes zone + i)) ≡ true). ⊎_elim
      (λ (own : 64 * zone + i ≡ c). let at = in_row zone i c low own in absurd (false≢true (sym ((λ j. is_chunk_taken w lanes (at.0 j) (at.1 j)) ∙ free) ∙ taken)))
      (λ (other : 64 * zone + i ≢ c). run_taken v lanes zone i (ap is_run (other_word zone i inside low other) ∙ run)) (cases_eq (64 * zone + i) c))
      (λ (from : ReachedFrom w lanes zone i).
      let less = from.less in let far = from.far in
      ⊎_elim
      (λ (own : 64 * zone + from.first ≡ c). absurd (nothing_by_own zone from.first (omega (arith, less, low)) own i less from.is_first far))
      (λ (other : 64 * zone + from.first ≢ c).
      let same = other_word zone from.first inside (omega (arith, less, low)) other in
      reaches_from v lanes zone i from.first less (ap is_huge same ∙ from.is_first) (subst (λ d. i < from.first + d / 256) (sym same) far))
      (cases_eq (64 * zone + from.first) c))
      (taken_by w lanes zone i taken)

  -- and those of the object are
  made_these : (i : ℕ) → c % 64 ≤ i → i < c % 64 + chunks → is_chunk_taken v lanes (c / 64) i ≡ true
  made_these i low high =
      let own = own_word (c / 64) (c % 64) (omega arith) (omega arith) in
      let count = ap (λ d. d / 256) own ∙ now_whole.1 in
      reaches_from v lanes (c / 64) i (c % 64) low (ap is_huge own ∙ now_whole.0) (omega (arith, high, count))

  pub chunks_take : TakesMore w v lanes zones (IsChunkBit c chunks)
  chunks_take (Zone zone) i of low = (
    (λ taken. made_before zone i of low taken),
    (λ some. ⊎_elim (λ taken. made_still zone i of low taken) (λ (t : IsChunkBit c chunks (Zone zone) i). subst (λ z. is_chunk_taken v lanes z i ≡ true) (sym (same_zone zone (c / 64) t.0)) (made_these i t.1.0 t.1.1)) some),
  )
  chunks_take (Run place) i of low =
      let page : ℕ = place / 4096 in
      let k : ℕ = chunk_in lanes page in
      let at = page_chunk lanes zones page of.1 of.2 in
      let same : is_block_taken v lanes page i ≡ is_block_taken w lanes page i =
      ⊎_elim
      (λ (here : k ≡ c).
      let of_c = (subst (PageChunk lanes zones page) here at).of in
      no_run_block v lanes page i (ap (λ u. is_run (v u)) of_c.descriptor ∙ huge_no_run (v (descriptor_word lanes c)) now_whole.0)
      ∙ sym (no_run_block w lanes page i (ap (λ u. is_run (w u)) of_c.descriptor ∙ false_from_ne_true (is_run (w (descriptor_word lanes c))) (λ run.
      false≢true (sym free ∙ run_taken w lanes (c / 64) (c % 64) (ap (λ u. is_run (w u)) (row_word lanes (c / 64) (c % 64) (omega arith) ∙ ap (descriptor_word lanes) (let e : 64 * (c / 64) + c % 64 ≡ c = omega arith in e)) ∙ run))))))
      (λ (other : k ≢ c). blocks_elsewhere w v lanes zones none c elsewhere (making.bitmaps_elsewhere w v lanes zones c none made.free.in_zones free made.others) page i k at other)
      (cases_eq k c) in
      either_way (is_block_taken v lanes page i) (is_block_taken w lanes page i) same (IsChunkBit c chunks (Run place) i) (λ t. place_zone place (c / 64) t.0)

-- ---- and are freed

module _ (w v : ℕ → ℕ) (lanes zones c chunks : ℕ) (none : heap_fault w lanes zones ≡ None) (freed : FreesChunksBlock w v lanes zones c chunks) where
  was_whole : (is_huge (w (descriptor_word lanes c)) ≡ true) × (w (descriptor_word lanes c) / 256 ≡ chunks)
  was_whole = whole (w (descriptor_word lanes c)) chunks freed.may.is_first

  fits : c % 64 + chunks ≤ 64
  fits = freeing.first_fits w v lanes zones c chunks none freed

  kept_elsewhere : (k : ℕ) → k < 64 * zones → k ≢ c → v (descriptor_word lanes k) ≡ w (descriptor_word lanes k)
  kept_elsewhere = freeing.descriptors_elsewhere w v lanes zones c chunks none freed

  kept_word : (zone k : ℕ) → zone < zones → k < 64 → 64 * zone + k ≢ c → v (512 * zone_page lanes zone + k) ≡ w (512 * zone_page lanes zone + k)
  kept_word zone k inside low differ = let at = row_word lanes zone k low in ap v at ∙ (kept_elsewhere (64 * zone + k) (omega (arith, inside, low)) differ ∙ ap w (sym at))

  word_of : (u : ℕ → ℕ) (zone k : ℕ) → k < 64 → 64 * zone + k ≡ c → u (512 * zone_page lanes zone + k) ≡ u (descriptor_word lanes c)
  word_of u zone k low same = ap u (row_word lanes zone k low ∙ ap (descriptor_word lanes) same)

  -- a further chunk of the block is described by 0
  behind_zero : (k : ℕ) → c < k → k < c + chunks → w (descriptor_word lanes k) ≡ 0
  behind_zero k low high =
      let place : c + 1 + (k - c - 1) ≡ k = omega (arith, low) in
      ap (λ (j : ℕ). w (descriptor_word lanes j)) (sym place)
      ∙ further_zeros w lanes c chunks (freeing.good_here w v lanes zones c chunks none freed) (freeing.whole_here w v lanes zones c chunks none freed) (k - c - 1) (omega (arith, low, high))

  -- no other block of whole chunks reaches over this one's first
  no_other : (zone first i : ℕ) → zone ≡ c / 64 → zone < zones → i < 64 → first ≤ i → c % 64 ≤ i → i < c % 64 + chunks → 64 * zone + first ≢ c → is_huge (w (512 * zone_page lanes zone + first)) ≡ true
      → i < first + w (512 * zone_page lanes zone + first) / 256 → ⊥
  no_other zone first i here inside low less from to other huge far =
      let at = row_word lanes zone first (omega (arith, less, low)) in
      let first_huge : is_huge (w (descriptor_word lanes (64 * zone + first))) ≡ true = ap (λ u. is_huge (w u)) (sym at) ∙ huge in
      let n : ℕ = w (descriptor_word lanes (64 * zone + first)) / 256 in
      let reach : i < first + n = subst (λ u. i < first + w u / 256) at far in
      ⊎_elim
      (λ (before : first < c % 64).
      let good = good_chunk w lanes zones (64 * zone + first) none (omega (arith, inside, less, low)) in
      let class = whole_by_byte w lanes (64 * zone + first) good (eqb-true (w (descriptor_word lanes (64 * zone + first)) % 256) 2 first_huge) in
      let place : 64 * zone + first + 1 + (c % 64 - first - 1) ≡ c = omega (arith, before, here) in
      let zero_word : w (descriptor_word lanes c) ≡ 0 = ap (λ j. w (descriptor_word lanes j)) (sym place) ∙ further_zeros w lanes (64 * zone + first) n good class (c % 64 - first - 1) (omega (arith, before, from, reach)) in
      false≢true (sym (zero_no_run (w (descriptor_word lanes c)) zero_word).1 ∙ was_whole.0))
      (λ (behind : c % 64 ≤ first).
      false≢true (sym (zero_no_run (w (descriptor_word lanes (64 * zone + first))) (behind_zero (64 * zone + first) (c_before behind) (omega (arith, less, to, here)))).1 ∙ first_huge))
      (cases_lt first (c % 64))
    where
      c_before : c % 64 ≤ first → c < 64 * zone + first
      c_before behind = ⊎_elim (λ (lower : c < 64 * zone + first). lower) (λ (upper : 64 * zone + first ≤ c). absurd (other (omega (arith, upper, behind, here)))) (cases_lt c (64 * zone + first))

  -- by v none of the block's chunks is taken
  these_free : (zone i : ℕ) → zone < zones → i < 64 → is_chunk_taken v lanes zone i ≡ true → ¬ IsChunkBit c chunks (Zone zone) i
  these_free zone i inside low taken t = ⊎_elim
      (λ (run : is_run (v (512 * zone_page lanes zone + i)) ≡ true). ⊎_elim
      (λ (own : 64 * zone + i ≡ c). false≢true (sym (zero_no_run (v (descriptor_word lanes c)) freed.descriptor).0 ∙ (ap is_run (sym (word_of v zone i low own)) ∙ run)))
      (λ (other : 64 * zone + i ≢ c).
      let at = row_word lanes zone i low in
      let zero_word = behind_zero (64 * zone + i) (later other) (omega (arith, here, t.1.1)) in
      false≢true (sym (zero_no_run (w (descriptor_word lanes (64 * zone + i))) zero_word).0 ∙ (ap (λ u. is_run (w u)) (sym at) ∙ (ap is_run (sym (kept_word zone i inside low other)) ∙ run))))
      (cases_eq (64 * zone + i) c))
      (λ (from : ReachedFrom v lanes zone i).
      let less = from.less in let far = from.far in
      ⊎_elim
      (λ (own : 64 * zone + from.first ≡ c).
      false≢true (sym (zero_no_run (v (descriptor_word lanes c)) freed.descriptor).1 ∙ (ap is_huge (sym (word_of v zone from.first (omega (arith, less, low)) own)) ∙ from.is_first)))
      (λ (other : 64 * zone + from.first ≢ c).
      let same = kept_word zone from.first inside (omega (arith, less, low)) other in
      no_other zone from.first i here inside low less t.1.0 t.1.1 other (ap is_huge (sym same) ∙ from.is_first) (subst (λ d. i < from.first + d / 256) same far))
      (cases_eq (64 * zone + from.first) c))
      (taken_by v lanes zone i taken)
    where
      here : zone ≡ c / 64
      here = same_zone zone (c / 64) t.0

      later : 64 * zone + i ≢ c → c < 64 * zone + i
      later other = ⊎_elim (λ (lower : c < 64 * zone + i). lower) (λ (upper : 64 * zone + i ≤ c). absurd (other (let from = t.1.0 in omega (arith, upper, from, here)))) (cases_lt c (64 * zone + i))

  -- what was taken besides is still
  others_still : (zone i : ℕ) → zone < zones → i < 64 → is_chunk_taken w lanes zone i ≡ true → ¬ IsChunkBit c chunks (Zone zone) i → is_chunk_taken v lanes zone i ≡ true
  others_still zone i inside low taken never = ⊎_elim
      (λ (run : is_run (w (512 * zone_page lanes zone + i)) ≡ true). ⊎_elim
      (λ (own : 64 * zone + i ≡ c). absurd (false≢true (sym (huge_no_run (w (descriptor_word lanes c)) was_whole.0) ∙ (ap is_run (sym (word_of w zone i low own)) ∙ run))))
      (λ (other : 64 * zone + i ≢ c). run_taken v lanes zone i (ap is_run (kept_word zone i inside low other) ∙ run)) (cases_eq (64 * zone + i) c))
      (λ (from : ReachedFrom w lanes zone i).
      let less = from.less in let far = from.far in
      ⊎_elim
      (λ (own : 64 * zone + from.first ≡ c).
      let at = in_row zone from.first c (omega (arith, less, low)) own in
      let count = ap (λ d. d / 256) (word_of w zone from.first (omega (arith, less, low)) own) ∙ was_whole.1 in
      let here = at.1 in
      absurd (never (ap Zone at.0, (omega (arith, less, here), omega (arith, far, count, here)))))
      (λ (other : 64 * zone + from.first ≢ c).
      let same = kept_word zone from.first inside (omega (arith, less, low)) other in
      reaches_from v lanes zone i from.first less (ap is_huge same ∙ from.is_first) (subst (λ d. i < from.first + d / 256) (sym same) far))
      (cases_eq (64 * zone + from.first) c))
      (taken_by w lanes zone i taken)

  -- and by v nothing else is
  only_before : (zone i : ℕ) → zone < zones → i < 64 → is_chunk_taken v lanes zone i ≡ true → is_chunk_taken w lanes zone i ≡ true
  only_before zone i inside low taken = ⊎_elim
      (λ (run : is_run (v (512 * zone_page lanes zone + i)) ≡ true). ⊎_elim
      (λ (own : 64 * zone + i ≡ c). absurd (false≢true (sym (zero_no_run (v (descriptor_word lanes c)) freed.descriptor).0 ∙ (ap is_run (sym (word_of v zone i low own)) ∙ run))))
      (λ (other : 64 * zone + i ≢ c). run_taken w lanes zone i (ap is_run (sym (kept_word zone i inside low other)) ∙ run)) (cases_eq (64 * zone + i) c))
      (λ (from : ReachedFrom v lanes zone i).
      let less = from.less in let far = from.far in
      ⊎_elim
      (λ (own : 64 * zone + from.first ≡ c).
      absurd (false≢true (sym (zero_no_run (v (descriptor_word lanes c)) freed.descriptor).1 ∙ (ap is_huge (sym (word_of v zone from.first (omega (arith, less, low)) own)) ∙ from.is_first))))
      (λ (other : 64 * zone + from.first ≢ c).
      let same = kept_word zone from.first inside (omega (arith, less, low)) other in
      reaches_from w lanes zone i from.first less (ap is_huge (sym same) ∙ from.is_first) (subst (λ d. i < from.first + d / 256) same far))
      (cases_eq (64 * zone + from.first) c))
      (taken_by v lanes zone i taken)

  pub chunks_give : TakesLess w v lanes zones (IsChunkBit c chunks)
  chunks_give = record { less = less; were = were } where
    less : (at : Occ) (i : ℕ) → IsOcc lanes zones at → i < 64 → (is_taken v lanes at i ≡ true) ↔ ((is_taken w lanes at i ≡ true) × ¬ IsChunkBit c chunks at i)
    less (Zone zone) i of low = ((λ taken. (only_before zone i of low taken, these_free zone i of low taken)), (λ t. others_still zone i of low t.0 t.1))
    less (Run place) i of low =
        let page : ℕ = place / 4096 in
        let k : ℕ = chunk_in lanes page in
        let at = page_chunk lanes zones page of.1 of.2 in
        let same : is_block_taken v lanes page i ≡ is_block_taken w lanes page i =
        ⊎_elim
        (λ (here : k ≡ c).
        let of_c = (subst (PageChunk lanes zones page) here at).of in
        no_run_block v lanes page i (ap (λ u. is_run (v u)) of_c.descriptor ∙ (zero_no_run (v (descriptor_word lanes c)) freed.descriptor).0)
        ∙ sym (no_run_block w lanes page i (ap (λ u. is_run (w u)) of_c.descriptor ∙ huge_no_run (w (descriptor_word lanes c)) was_whole.0)))
        (λ (other : k ≢ c). blocks_elsewhere w v lanes zones none c kept_elsewhere (freeing.bitmaps_elsewhere w v lanes zones c chunks none freed) page i k at other)
        (cases_eq k c) in
        both_ways (is_block_taken v lanes page i) (is_block_taken w lanes page i) same (IsChunkBit c chunks (Run place) i) (λ t. place_zone place (c / 64) t.0)

    were : (at : Occ) (i : ℕ) → IsOcc lanes zones at → i < 64 → IsChunkBit c chunks at i → is_taken w lanes at i ≡ true
    were (Run place) i of low t = absurd (place_zone place (c / 64) t.0)
    were (Zone zone) i of low t =
        let own = word_of w (c / 64) (c % 64) (omega arith) (omega arith) in
        let count = ap (λ d. d / 256) own ∙ was_whole.1 in
        let high = t.1.1 in
        subst (λ z. is_chunk_taken w lanes z i ≡ true) (sym (same_zone zone (c / 64) t.0)) (reaches_from w lanes (c / 64) i (c % 64) t.1.0 (ap is_huge own ∙ was_whole.0) (omega (arith, high, count)))
