-- What entries that publish blocks and words make of the pool, in the image and in the words at the log's end.
use Rattle.std.proofs.Common.{◌≡◌, ◌↔◌, ⊎_elim, inl, inr, ℕ, ◌+◌, ◌*◌, ◌/◌, ◌<◌, ◌≤◌, None, true, false, eqb, List, [], ◌∷◌, length, map, slice_index, sym, ap, ◌∙◌, subst, arith, ne_eqb}
use Rattle.std.specs.Int.{bit_at}
use Rattle.std.proofs.lemmas.Bool.{cond-false}
use Rattle.std.proofs.lemmas.List.{ext_get_or}
use Rattle.pm_header.specs.declared.header.Header.{Header}
use Rattle.pm_objects.specs.declared.pool.PoolView.{PoolView}
use Rattle.pm_image.specs.Blocks.{blocks, chunk_word, descriptor_word}
use Rattle.pm_image.specs.HeapFaults.{heap_fault}
use Rattle.pm_image.specs.Logs.{recovered_at}
use Rattle.pm_image.specs.Reads.{AgreeOn, IsHeapWord, Reads}
use Rattle.pm_image.proofs.HeapWords.{reads_heap}
use Rattle.pm_image.proofs.InPlace.{recovered_in_place}
use Rattle.pm_image.proofs.LocalPool.{heap_local}
use Rattle.solo_view.specs.declared.occ.Occ.{Occ}
use Rattle.solo_view.specs.declared.occ.Occ.TheVariants.{Run, Zone}
use Rattle.solo_view.specs.Area.{area_word}
use Rattle.solo_view.specs.Bits.{with_bits}
use Rattle.solo_view.specs.Founds.{IsAlone}
use Rattle.solo_view.specs.Log.{Final}
use Rattle.solo_view.specs.Log.Phase.{Idle}
use Rattle.solo_view.specs.Blocks.{zone_page}
use Rattle.solo_view.specs.Occupancy.{is_block_taken, is_taken}
use Rattle.solo_view.specs.Steps.{Step}
use Rattle.solo_view.specs.View.{View}
use Rattle.solo_world.specs.Entries.{ends_with}
use Rattle.solo_world.specs.Heap.{IsOcc}
use Rattle.solo_world.specs.History.{made_final}
use Rattle.solo_world.specs.Records.{generation_of}
use Rattle.solo_world.proofs.Replays.{made_final-append}
use Rattle.solo_crash.specs.Held.{HoldsImage, HoldsPool}
use Rattle.solo_crash.specs.Publishing.{Published, all_blocks_published, all_pool_published, entry_published, published}
use Rattle.solo_crash.specs.Taken.{TakenBehindAll}
use Rattle.solo_crash.proofs.HeapWordsAlone.{held_by_heap}
use Rattle.solo_crash.proofs.PublishedInTurn.{all_are_published}
use Rattle.solo_crash.proofs.TakenChanges.{block_still, chunk_in, page_chunk, row_word, still_taken}
use Rattle.solo_crash.proofs.TakenInTurn.{all_take}
use Rattle.solo_sealed.specs.Sealed.{IsOutside, LeavesSealed, Publishes, has_nothing}
use Rattle.solo_sealed.proofs.EndedLog.{words}
use Rattle.solo_sealed.proofs.LeftImages.{all_of_it, nothing, same_size}
use Rattle.solo_epoch.specs.Epochs.{MayPublish}

-- words that agree wherever the heap is have the same blocks
blocks_by_heap : (w v : ℕ → ℕ) (lanes zones : ℕ) → heap_fault w lanes zones ≡ None → ((i : ℕ) → IsHeapWord lanes zones i → v i ≡ w i) → blocks v lanes zones ≡ blocks w lanes zones
blocks_by_heap w v lanes zones none same =
    let agree : AgreeOn (Reads w lanes zones) w v = record { same = λ i read. sym (same i (reads_heap w lanes zones i none read)) } in (heap_local w v lanes zones agree).same_blocks

-- and the same is taken
taken_alike : (w v : ℕ → ℕ) (lanes zones : ℕ) → heap_fault w lanes zones ≡ None → ((i : ℕ) → IsHeapWord lanes zones i → v i ≡ w i)
    → (at : Occ) (bit : ℕ) → IsOcc lanes zones at → bit < 64 → (is_taken v lanes at bit ≡ true) ↔ (is_taken w lanes at bit ≡ true)
taken_alike w v lanes zones none same (Zone zone) bit of low =
    let word : (k : ℕ) → k ≤ bit → v (512 * zone_page lanes zone + k) ≡ w (512 * zone_page lanes zone + k) =
    λ k less. let at = row_word lanes zone k (omega (arith, less, low)) in ap v at ∙ (same (descriptor_word lanes (64 * zone + k)) (inr (omega arith, omega (arith, less, low, of))) ∙ ap w (sym at)) in (
      still_taken v w lanes zone bit (λ k less. sym (word k less)),
      still_taken w v lanes zone bit word,
    )
taken_alike w v lanes zones none same (Run place) bit of low =
    let page : ℕ = place / 4096 in
    let c : ℕ = chunk_in lanes page in
    let at = page_chunk lanes zones page of.1 of.2 in
    let inside = at.in_zones in
    let still : is_block_taken v lanes page bit ≡ is_block_taken w lanes page bit =
    block_still w v lanes zones none page bit (ap v at.of.descriptor ∙ (same (descriptor_word lanes c) (inr (omega arith, omega (arith, inside))) ∙ ap w (sym at.of.descriptor)))
    (λ run. ap (λ n. bit_at n bit) (ap v at.of.bitmap ∙ (same (chunk_word lanes c) (inr (omega arith, omega (arith, inside))) ∙ ap w (sym at.of.bitmap)))) in
    (λ taken. sym still ∙ taken, λ taken. still ∙ taken)

module _ (b : View) (header : Header) (before now : PoolView) (all : List Published) (may : MayPublish b header before now all) where
  -- a word of the heap is none of the lanes' areas
  heap_outside : (i : ℕ) → IsHeapWord b.lanes b.zones i → IsOutside b.lanes i
  heap_outside i heap = ⊎_elim (λ (root : i ≡ 64). inl (omega (arith, root))) (λ (zone : (512 + 1024 * b.lanes ≤ i) × (i < 512 + 1024 * b.lanes + 33280 * b.zones)). inr zone.0) heap

  heap_inside : (i : ℕ) → IsHeapWord b.lanes b.zones i → i < length b.words
  heap_inside i heap =
      let size = may.seal.size in ⊎_elim (λ (root : i ≡ 64). omega (arith, root, size)) (λ (zone : (512 + 1024 * b.lanes ≤ i) × (i < 512 + 1024 * b.lanes + 33280 * b.zones)). let high = zone.1 in omega (arith, high, size)) heap

  -- the entry that ends the generation is of no word of the heap
  made_published : (i : ℕ) → IsHeapWord b.lanes b.zones i → made_final b.log.entries i (slice_index b.words i) ≡ published b.lanes all (slice_index b.words) i
  unfolding made_final
  made_published i heap =
      let last : Final = ends_with b (generation_of b + 1) in
      let fs : List Final = map (entry_published b.lanes) all in
      let x : ℕ = made_final fs i (slice_index b.words i) in
      let low = may.seal.in_lanes in
      ap (λ es. made_final es i (slice_index b.words i)) may.has.entries
      ∙ (made_final-append fs (last ∷ []) i (slice_index b.words i)
      ∙ cond-false (eqb (area_word b.lane) i) (with_bits last.mask last.bits x) x
      (ne_eqb (area_word b.lane) i (λ same. absurd (⊎_elim (λ (front : i < 512). omega (arith, front, same)) (λ (behind : 512 + 1024 * b.lanes ≤ i). omega (arith, behind, same, low)) (heap_outside i heap)))))

  -- words that are so wherever the heap is hold the pool with all of it
  pub record HoldsAll (v : ℕ → ℕ) : Type 0 where
    pub pool : HoldsPool v b.lanes b.zones header (all_pool_published b.lanes all now)
    pub are : blocks v b.lanes b.zones ≡ all_blocks_published b.lanes all (blocks (slice_index b.words) b.lanes b.zones)

  holds_all : (v : ℕ → ℕ) → ((i : ℕ) → IsHeapWord b.lanes b.zones i → v i ≡ published b.lanes all (slice_index b.words) i) → HoldsAll v
  holds_all v same =
      let t = all_are_published (slice_index b.words) b.lanes b.zones header now all may.has.holds may.has.can may.has.ordered may.has.objects in
      record {
        pool = held_by_heap (published b.lanes all (slice_index b.words)) v b.lanes b.zones header (all_pool_published b.lanes all now) t.holds same;
        are = blocks_by_heap (published b.lanes all (slice_index b.words)) v b.lanes b.zones t.holds.no_fault same ∙ t.blocks_are;
      }

  -- ---- in the image

  module _ (w : View) (steps : List Step) (keep : ℕ) (image : List ℕ) (leaves : LeavesSealed b steps w keep image) where
    abbrev pub size : length image ≡ length b.words
    size = same_size b w steps keep image leaves

    pub same_words : has_nothing image b ≡ true → image ≡ b.words
    same_words none = ext_get_or 0 image b.words size (λ i low. nothing b w steps keep image leaves none i (let long = size in omega (arith, low, long)))

    pub was_left : has_nothing image b ≡ true → HoldsImage image b.lanes b.zones header before
    was_left none = subst (λ ws. HoldsImage ws b.lanes b.zones header before) (sym (same_words none)) may.has.was

    pub holds_left : has_nothing image b ≡ false → HoldsAll (recovered_at image b.lanes)
    holds_left some = holds_all (recovered_at image b.lanes) (λ i heap.
        recovered_in_place image b.lanes i (let low = heap_inside i heap in let long = size in omega (arith, low, long))
        ∙ (all_of_it b w steps keep image leaves some i (heap_inside i heap) (heap_outside i heap) ∙ made_published i heap))

  -- ---- at the log's end

  module _ (w : View) (steps : List Step) (alone : IsAlone b) (publishes : Publishes b steps w) (ended : w.log.phase ≡ Idle) where
    abbrev u : ℕ → ℕ
    u = slice_index w.words

    as_published : (i : ℕ) → IsHeapWord b.lanes b.zones i → u i ≡ published b.lanes all (slice_index b.words) i
    as_published i heap = words b w steps may.seal alone publishes ended i ∙ made_published i heap

    holds_now : HoldsAll u
    holds_now = holds_all u as_published

    taken_now : (at : Occ) (bit : ℕ) → IsOcc b.lanes b.zones at → bit < 64 → (is_taken u b.lanes at bit ≡ true) ↔ TakenBehindAll b.lanes all at bit (is_taken (slice_index b.words) b.lanes at bit ≡ true)
    taken_now at bit of low =
        let t = all_take (slice_index b.words) b.lanes b.zones header now all at bit may.has.holds may.has.can may.has.ordered may.has.objects of low in
        let same = taken_alike (published b.lanes all (slice_index b.words)) u b.lanes b.zones holds_published as_published at bit of low in
        (λ taken. t.0 (same.0 taken), λ behind. same.1 (t.1 behind)) where
          holds_published : heap_fault (published b.lanes all (slice_index b.words)) b.lanes b.zones ≡ None
          holds_published = (all_are_published (slice_index b.words) b.lanes b.zones header now all may.has.holds may.has.can may.has.ordered may.has.objects).holds.no_fault

pub blocks_left : (b w : View) (header : Header) (before now : PoolView) (all : List Published) (steps : List Step) (keep : ℕ) (image : List ℕ) → MayPublish b header before now all → LeavesSealed b steps w keep image → has_nothing image b ≡ false
    → blocks (recovered_at image b.lanes) b.lanes b.zones ≡ all_blocks_published b.lanes all (blocks (slice_index b.words) b.lanes b.zones)
blocks_left b w header before now all steps keep image may leaves some = (holds_left b header before now all may w steps keep image leaves some).are

pub pool_stands : (b w : View) (header : Header) (before now : PoolView) (all : List Published) (steps : List Step) → MayPublish b header before now all → IsAlone b → Publishes b steps w → w.log.phase ≡ Idle
    → HoldsPool (slice_index w.words) b.lanes b.zones header (all_pool_published b.lanes all now)
pool_stands b w header before now all steps may alone publishes ended = (holds_now b header before now all may w steps alone publishes ended).pool

pub blocks_stand : (b w : View) (header : Header) (before now : PoolView) (all : List Published) (steps : List Step) → MayPublish b header before now all → IsAlone b → Publishes b steps w → w.log.phase ≡ Idle
    → blocks (slice_index w.words) b.lanes b.zones ≡ all_blocks_published b.lanes all (blocks (slice_index b.words) b.lanes b.zones)
blocks_stand b w header before now all steps may alone publishes ended = (holds_now b header before now all may w steps alone publishes ended).are

pub taken_stands : (b w : View) (header : Header) (before now : PoolView) (all : List Published) (steps : List Step) (at : Occ) (bit : ℕ) → MayPublish b header before now all → IsAlone b → Publishes b steps w → w.log.phase ≡ Idle → IsOcc b.lanes b.zones at → bit < 64
    → (is_taken (slice_index w.words) b.lanes at bit ≡ true) ↔ TakenBehindAll b.lanes all at bit (is_taken (slice_index b.words) b.lanes at bit ≡ true)
taken_stands b w header before now all steps at bit may alone publishes ended of low = taken_now b header before now all may w steps alone publishes ended at bit of low
