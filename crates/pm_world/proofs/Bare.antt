-- The words of a pool without objects open a world.
use Rattle.std.proofs.Common.{◌≡◌, ℕ, ◌+◌, ◌*◌, ◌/◌, ◌%◌, ◌<◌, ◌≤◌, Bool, true, false, not, cond, nat_lt, ◌==◌, ◌&&◌, ◌||◌, List, [], ◌∷◌, ◌++◌, slice_index, get_or, Option, None, Some, refl, sym, ap, ◌∙◌, arith, eq-eqb}
use Rattle.std.proofs.Common.{◌≢◌, ⊎_elim, set, length-set, get_or-set_same, get_or-set_other}
use Rattle.std.proofs.lemmas.Bool.{both_ways, cases_eq, and_parts, ltb-true}
use Rattle.std.proofs.lemmas.List.Concat.{flat_map-cons}
use Rattle.std.proofs.lemmas.List.Folds.{list_any_none}
use Rattle.std.proofs.lemmas.Nat.Bits.{bit_at-zero, bit_at_ones}
use Rattle.std.specs.List.{flat_map, range_with_len}
use Rattle.std.specs.Option.{option_map, option_or}
use Rattle.pm_image.proofs.Firsts.{none_passes}
use Rattle.pm_image.specs.Blocks.{blocks, chunk_blocks, blocks_in, class_in, descriptor_word, chunk_word}
use Rattle.pm_image.specs.declared.fault.ImageFault.TheVariants as fault
use Rattle.pm_image.specs.HeapFaults.{bad_chunk, is_described, chunk_fault, bad_bitmap, is_bad_bitmap, bitmap_fault, block_fault, link_fault, bad_root, root_fault, heap_fault}
use Rattle.pm_layout.specs.declared.shape.Shape.{Shape}
use Rattle.pm_layout.specs.Areas.{word_of_generation, word_of_seal, line_of_slot}
use Rattle.pm_layout.specs.Chunks.{chunks_of, page_of_chunk, word_of_chunk, word_of_descriptor}
use Rattle.pm_layout.specs.Sizes.{blocks_of}
use Rattle.pm_record.specs.Undo.{undo_of, is_record, undo_in}
use Rattle.pm_record.specs.declared.undo.Undo.{Undo}
use Rattle.pm_view.specs.Claims.{is_run, is_huge}
use Rattle.pm_view.specs.Places.{Block, Small, Big, Root, in_span}
use Rattle.pm_world.specs.Lanes.{is_occupancy}
use Rattle.pm_world.specs.Logs.{slot_list}
use Rattle.pm_world.specs.Memory.{RunWord, ZoneWord, bit, occupancy_bit}
use Rattle.pm_world.specs.Opens.{IsRetired, descriptor, takes, is_in_huge}
use Rattle.pm_world.specs.Bare.{AreBare, IsBare, IsUntaken, BareOpens}
use Rattle.pm_world.specs.World.{Opening}
use Rattle.pm_world.proofs.OpenFaults.{opens}

none_in : class_in 0 ≡ None
unfolding class_in
none_in = refl

flat_none : {X A : Type 0} (f : X → List A) → ((x : X) → f x ≡ []) → (xs : List X) → flat_map f xs ≡ []
flat_none f none [] = refl
flat_none f none (x ∷ xs) = flat_map-cons f x xs ∙ (ap (λ ys. ys ++ flat_map f xs) (none x) ∙ flat_none f none xs)

or_none : {A : Type 0} (f rest : Option A) → f ≡ None → rest ≡ None → option_or f rest ≡ None
or_none f rest none others = ap (λ g. option_or g rest) none ∙ others

-- ---- THE HEAP of words whose descriptors and root word are 0
module _ (w : ℕ → ℕ) (lanes zones : ℕ) (zero_ : (c : ℕ) → w (descriptor_word lanes c) ≡ 0) (root : w 64 ≡ 0) where
  class_none : (c : ℕ) → class_in (w (descriptor_word lanes c)) ≡ None
  class_none c = ap class_in (zero_ c) ∙ none_in

  no_bad_chunk : (c : ℕ) → bad_chunk w lanes c ≡ false
  unfolding bad_chunk
  no_bad_chunk c = ap not (ap (is_described w (descriptor_word lanes c) c) (class_none c) ∙ eq-eqb (w (descriptor_word lanes c)) 0 (zero_ c))

  no_chunk_fault : chunk_fault w lanes zones ≡ None
  unfolding chunk_fault
  no_chunk_fault = ap (option_map _) (none_passes (bad_chunk w lanes) (64 * zones) (λ c l. no_bad_chunk c))

  no_bad_bitmap : (c : ℕ) → bad_bitmap w lanes c ≡ false
  unfolding bad_bitmap
  no_bad_bitmap c = ap (λ k. is_bad_bitmap k (w (chunk_word lanes c))) (class_none c)

  no_bitmap_fault : bitmap_fault w lanes zones ≡ None
  unfolding bitmap_fault
  no_bitmap_fault = ap (option_map _) (none_passes (bad_bitmap w lanes) (64 * zones) (λ c l. no_bad_bitmap c))

  no_chunk_blocks : (c : ℕ) → chunk_blocks w lanes c ≡ []
  unfolding chunk_blocks
  no_chunk_blocks c = ap (λ k. blocks_in k (8 * chunk_word lanes c) (w (chunk_word lanes c))) (class_none c)

  no_blocks : blocks w lanes zones ≡ []
  unfolding blocks
  no_blocks = flat_none (chunk_blocks w lanes) no_chunk_blocks (range_with_len 0 (64 * zones))

  no_block_fault : block_fault w [] ≡ None
  unfolding block_fault
  no_block_fault = refl

  no_link_fault : link_fault w [] ≡ None
  unfolding link_fault
  no_link_fault = refl

  no_root_fault : root_fault w [] ≡ None
  unfolding root_fault bad_root
  no_root_fault = ap (λ t. cond (cond t false true) (Some (fault.Root (w 64))) None) (eq-eqb (w 64) 0 root)

  pub no_heap_fault : heap_fault w lanes zones ≡ None
  unfolding heap_fault
  no_heap_fault = or_none _ _ no_chunk_fault (or_none _ _ no_bitmap_fault (or_none _ _ (ap (block_fault w) no_blocks ∙ no_block_fault)
      (or_none _ _ (ap (link_fault w) no_blocks ∙ no_link_fault) (ap (root_fault w) no_blocks ∙ no_root_fault))))

-- ---- THE WORDS are made lane by lane
pub one_more : (sh : Shape) (n : ℕ) (words : List ℕ) → n < sh.lanes → AreBare sh n words
    → AreBare sh (n + 1) (set words (word_of_generation sh n) 1)
one_more sh n words few bare = record {
  size = length-set words (word_of_generation sh n) 1 ∙ bare.size;
  small = λ w. ⊎_elim
      (λ (e : w ≡ word_of_generation sh n). let q = ap (slice_index (set words (word_of_generation sh n) 1)) e ∙ here in omega (arith, q))
      (λ (ne : w ≢ word_of_generation sh n). let q = there w ne in let s = bare.small w in omega (arith, q, s))
      (cases_eq w (word_of_generation sh n));
  first = λ lane l. ⊎_elim
      (λ (e : lane ≡ n). ap (λ k. slice_index (set words (word_of_generation sh n) 1) (word_of_generation sh k)) e ∙ here)
      (λ (ne : lane ≢ n). there (word_of_generation sh lane) (λ q. ne (omega (arith, q))) ∙ bare.first lane (omega (arith, l, ne)))
      (cases_eq lane n);
  zero_ = λ w none. there w (none n (omega arith)) ∙ bare.zero_ w (λ lane l. none lane (omega (arith, l)));
}
  where
    here : slice_index (set words (word_of_generation sh n) 1) (word_of_generation sh n) ≡ 1
    here = get_or-set_same words (word_of_generation sh n) 1 0 (let z = bare.size in omega (arith, z, few))

    there : (w : ℕ) → w ≢ word_of_generation sh n → slice_index (set words (word_of_generation sh n) 1) w ≡ slice_index words w
    there w ne = get_or-set_other words (word_of_generation sh n) w 1 0 (λ e. ne e)

module _ (o : Opening) (bare : IsBare o) where
  -- words of no lane's generation
  late : (w : ℕ) → 512 + 1024 * o.shape.lanes ≤ w → slice_index o.words w ≡ 0
  late w l = bare.words.zero_ w (λ lane few same. absurd (omega arith))

  root : slice_index o.words 64 ≡ 0
  root = bare.words.zero_ 64 (λ lane few same. absurd (omega arith))

  in_area : (lane i : ℕ) → lane < o.shape.lanes → 1 ≤ i → i < 1024
      → slice_index o.words (word_of_generation o.shape lane + i) ≡ 0
  in_area lane i few some most = bare.words.zero_ (word_of_generation o.shape lane + i) (λ other l same. absurd (omega arith))

  no_descriptor : (c : ℕ) → descriptor o c ≡ 0
  no_descriptor c = late (word_of_descriptor o.shape c) (omega arith)

  record_first : (slot : List ℕ) (u : Undo) → undo_of slot ≡ Some u → u.generation ≡ slice_index slot 0
  record_first slot u e = go (is_record slot) e
    where
      value : Undo → Option Undo → Undo
      value d None = d
      value d (Some y) = y

      go : (t : Bool) → cond t (Some (undo_in slot)) None ≡ Some u → u.generation ≡ slice_index slot 0
      go true e = ap (λ (z : Option Undo). (value u z).generation) (sym e)
      go false e = absurd (both_ways false refl (ap has e))
        where
          has : Option Undo → Bool
          has None = false
          has (Some y) = true

  seal_at : (lane : ℕ) → word_of_seal o.shape lane ≡ word_of_generation o.shape lane + 1
  seal_at lane = omega arith

  slot_at : (lane j : ℕ) → 8 * line_of_slot o.shape lane j + 0 ≡ word_of_generation o.shape lane + (136 + 8 * j)
  slot_at lane j = omega arith

  pub bare_retired : (lane : ℕ) → lane < o.shape.lanes → IsRetired o lane 1
  bare_retired lane few = record {
    stored = bare.words.first lane few;
    first = omega arith;
    last = omega arith;
    unsealed = ap (slice_index o.words) (seal_at lane) ∙ in_area lane 1 few (omega arith) (omega arith);
    stale = λ j u l e. let g = record_first (slot_list (λ i. slice_index o.words (8 * line_of_slot o.shape lane j + i))) u e in
        let z = ap (slice_index o.words) (slot_at lane j) ∙ in_area lane (136 + 8 * j) few (omega arith) (omega arith) in omega (arith, g, z);
  }

  pub bare_whole : heap_fault (slice_index o.words) o.shape.lanes o.shape.zones ≡ None
  bare_whole = no_heap_fault (slice_index o.words) o.shape.lanes o.shape.zones (λ c. late (descriptor_word o.shape.lanes c) (omega arith)) root

  -- no chunk is a run, nor in a huge block
  takes_page : (c i : ℕ) → takes o (Small c i) ≡ true
  takes_page c i = ap (λ d. not (is_run d && nat_lt i (blocks_of (d / 256))) || bit (slice_index o.words (word_of_chunk o.shape c)) i) (no_descriptor c)

  takes_no_chunk : (c : ℕ) → takes o (Big c) ≡ false
  takes_no_chunk c = ap (λ d. is_run d || is_in_huge o c) (no_descriptor c)
      ∙ list_any_none (λ f. is_huge (descriptor o f) && in_span f (descriptor o f / 256) c) (range_with_len 0 (chunks_of o.shape))
      (λ i f l. let at : ℕ = get_or (range_with_len 0 (chunks_of o.shape)) i f in ap (λ d. is_huge d && in_span at (descriptor o at / 256) c) (no_descriptor at))

  pub bare_taken : (run zone : ℕ → ℕ) → IsUntaken o.shape run zone → (a : Block) → is_occupancy o.shape a ≡ true
      → occupancy_bit o.shape run zone a ≡ takes o a
  bare_taken run zone un (Small c i) h = let t = and_parts (nat_lt c (chunks_of o.shape)) (nat_lt i 64) h in
      let inside = ltb-true c (chunks_of o.shape) t.0 in let below = ltb-true i 64 t.1 in
      ap (λ x. bit x i) (un.full (page_of_chunk o.shape c) (omega arith)) ∙ (eq-eqb _ 1 (bit_at_ones 64 i below) ∙ sym (takes_page c i))
  bare_taken run zone un (Big c) h = ap (λ x. bit x (c % 64)) (un.free (c / 64)) ∙ (ap (λ x. x == 1) (bit_at-zero (c % 64)) ∙ sym (takes_no_chunk c))
  bare_taken run zone un Root h = absurd (both_ways false refl h)

pub bare_opens : BareOpens
bare_opens o mem fixed bare un start =
    opens o mem fixed (λ k. 1) (record { start = start; size = bare.words.size; small = bare.words.small; retired = bare_retired o bare })
    (bare_whole o bare) (bare_taken o bare (λ p. mem (RunWord p)) (λ z. mem (ZoneWord z)) un)
