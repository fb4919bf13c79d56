-- What an entry of a lane's log allocates and what it frees, bit by bit: that of a change of the heap just the bits of the change, any other none.
use Rattle.std.proofs.Common.{◌≡◌, ◌≢◌, ◌↔◌, ⊎_elim, ℕ, ◌+◌, ◌-◌, ◌*◌, ◌/◌, ◌%◌, ◌^◌, ◌<◌, ◌≤◌, ◌&&◌, true, false, not, eqb, All, List, [], ◌∷◌, slice_index, sym, ap, ◌∙◌, subst, arith}
use Rattle.std.specs.Int.{bit_at}
use Rattle.std.specs.List.{list_any}
use Rattle.std.proofs.Math.Pow.{pow-lt}
use Rattle.std.proofs.lemmas.Bool.{cases_Bool, and_from, and_left, and_right, cases_eq, cond-false, cond-true, false≢true, or_cases, or_left}
use Rattle.std.proofs.lemmas.List.Elements.{All-cons, All-nil}
use Rattle.std.proofs.lemmas.Nat.Bits.{bit_at-pow_other, bit_at-pow_same}
use Rattle.pm_image.specs.Blocks.{chunk_word, descriptor_word}
use Rattle.solo_view.specs.declared.occ.Occ.{Occ}
use Rattle.solo_view.specs.declared.occ.Occ.TheVariants.{Run, Zone}
use Rattle.solo_view.specs.Blocks.{describes, is_huge, zone_of}
use Rattle.solo_view.specs.Log.{Final}
use Rattle.solo_view.specs.View.{Taken, View}
use Rattle.solo_view.specs.Views.{allocated_by, chunks_described, freed_by, has_bit, is_bitmap, is_of_heap}
use Rattle.solo_chunks.specs.Chunks.{chunk_bits}
use Rattle.solo_chunks.proofs.ChunkBits.{bit_inside, bits_small}
use Rattle.solo_alloc.proofs.Remaining.{set_inside}
use Rattle.solo_crash.specs.Taken.{IsBlockBit, IsChunkBit}
use Rattle.solo_epoch.proofs.LeftBlocks.{IsWordOfBits, has_from, has_parts}

-- ---- one block's bits

one_of : (t : Taken) (at : Occ) (bit : ℕ) → (list_any (has_bit at bit) (t ∷ []) ≡ true) ↔ ((at ≡ t.at) × (bit_at t.bits bit ≡ 1))
one_of t at bit = (
  (λ has. has_parts at bit t (⊎_elim (λ (here : has_bit at bit t ≡ true). here) (λ (later : false ≡ true). absurd (false≢true later)) (or_cases (has_bit at bit t) false has))),
  (λ is. or_left (has_bit at bit t) false (has_from at bit t is.0 is.1)),
)

-- the bit of a block of a run
pub pow_bit : (index bit : ℕ) → (bit_at (2 ^ index) bit ≡ 1) ↔ (bit ≡ index)
pow_bit index bit = (
  (λ set. ⊎_elim (λ (same : bit ≡ index). same) (λ (other : bit ≢ index). let none = bit_at-pow_other index bit other in absurd (omega (arith, set, none))) (cases_eq bit index)),
  (λ same. ap (bit_at (2 ^ index)) same ∙ bit_at-pow_same index),
)

-- those of so many chunks from one on
pub row_bit : (first count bit : ℕ) → (bit_at (chunk_bits first count) bit ≡ 1) ↔ ((first ≤ bit) × (bit < first + count))
row_bit first count bit = ((λ set. set_inside first count bit set), (λ of. bit_inside first count bit of.0 of.1))

-- ---- an entry by its word

module _ (v : View) (f : Final) where
  pub none_aside : is_of_heap v f ≡ false → (allocated_by v f ≡ []) × (freed_by v f ≡ [])
  none_aside aside = (cond-true (not (is_of_heap v f)) [] _ (ap not aside), cond-true (not (is_of_heap v f)) [] _ (ap not aside))

  -- one that tells of no block
  pub none_telling : describes v.lanes f.word ≡ false → is_bitmap v f.word ≡ false → (allocated_by v f ≡ []) × (freed_by v f ≡ [])
  none_telling plain no_bitmap = ⊎_elim
      (λ (of : is_of_heap v f ≡ true). (
        cond-false (not (is_of_heap v f)) [] _ (ap not of) ∙ (cond-false (describes v.lanes f.word) _ _ plain ∙ cond-false (is_bitmap v f.word && f.ors) _ [] (and_left (is_bitmap v f.word) f.ors no_bitmap)),
        cond-false (not (is_of_heap v f)) [] _ (ap not of) ∙ (cond-false (describes v.lanes f.word) _ _ plain ∙ cond-false (is_bitmap v f.word && not f.ors) _ [] (and_left (is_bitmap v f.word) (not f.ors) no_bitmap)),
      ))
      none_aside
      (cases_Bool (is_of_heap v f))

  -- one of a run's bitmap
  module _ (of : is_of_heap v f ≡ true) (plain : describes v.lanes f.word ≡ false) (bitmap : is_bitmap v f.word ≡ true) where
    pub run_allocates : f.ors ≡ true → (allocated_by v f ≡ record { at = Run (8 * f.word); bits = f.mask } ∷ []) × (freed_by v f ≡ [])
    run_allocates or = (
      cond-false (not (is_of_heap v f)) [] _ (ap not of) ∙ (cond-false (describes v.lanes f.word) _ _ plain ∙ cond-true (is_bitmap v f.word && f.ors) _ [] (and_from (is_bitmap v f.word) f.ors bitmap or)),
      cond-false (not (is_of_heap v f)) [] _ (ap not of) ∙ (cond-false (describes v.lanes f.word) _ _ plain ∙ cond-false (is_bitmap v f.word && not f.ors) _ [] (and_right (is_bitmap v f.word) (not f.ors) (ap not or))),
    )

    pub run_frees : f.ors ≡ false → (allocated_by v f ≡ []) × (freed_by v f ≡ record { at = Run (8 * f.word); bits = f.mask } ∷ [])
    run_frees and = (
      cond-false (not (is_of_heap v f)) [] _ (ap not of) ∙ (cond-false (describes v.lanes f.word) _ _ plain ∙ cond-false (is_bitmap v f.word && f.ors) _ [] (and_right (is_bitmap v f.word) f.ors and)),
      cond-false (not (is_of_heap v f)) [] _ (ap not of) ∙ (cond-false (describes v.lanes f.word) _ _ plain ∙ cond-true (is_bitmap v f.word && not f.ors) _ [] (and_from (is_bitmap v f.word) (not f.ors) bitmap (ap not and))),
    )

  -- one of a chunk's descriptor
  module _ (of : is_of_heap v f ≡ true) (tells : describes v.lanes f.word ≡ true) where
    pub chunks_allocate : is_huge f.bits ≡ true → eqb f.bits 0 ≡ false → (allocated_by v f ≡ chunks_described v.lanes f.word f.bits ∷ []) × (freed_by v f ≡ [])
    chunks_allocate huge some = (
      cond-false (not (is_of_heap v f)) [] _ (ap not of) ∙ (cond-true (describes v.lanes f.word) _ _ tells ∙ cond-true (is_huge f.bits) _ [] huge),
      cond-false (not (is_of_heap v f)) [] _ (ap not of) ∙ (cond-true (describes v.lanes f.word) _ _ tells ∙ cond-false (eqb f.bits 0) _ [] some),
    )

    pub chunks_free : is_huge f.bits ≡ false → eqb f.bits 0 ≡ true → (allocated_by v f ≡ []) × (freed_by v f ≡ chunks_described v.lanes f.word (slice_index v.words f.word) ∷ [])
    chunks_free plain none = (
      cond-false (not (is_of_heap v f)) [] _ (ap not of) ∙ (cond-true (describes v.lanes f.word) _ _ tells ∙ cond-false (is_huge f.bits) _ [] plain),
      cond-false (not (is_of_heap v f)) [] _ (ap not of) ∙ (cond-true (describes v.lanes f.word) _ _ tells ∙ cond-true (eqb f.bits 0) _ [] none),
    )

-- ---- what these are in the row of all chunks

-- the blocks have just these bits, and are a word's
pub record HaveBits (blocks : List Taken) (these : Occ → ℕ → Type 0) : Type 0 where
  pub bits : (at : Occ) (bit : ℕ) → (list_any (has_bit at bit) blocks ≡ true) ↔ these at bit
  pub small : All IsWordOfBits blocks

pub no_bits : (blocks : List Taken) → blocks ≡ [] → HaveBits blocks (λ at bit. ⊥)
no_bits blocks none = subst (λ xs. HaveBits xs (λ at bit. ⊥)) (sym none) (record { bits = λ at bit. ((λ has. false≢true has), (λ never. absurd never)); small = All-nil IsWordOfBits })

pub block_bits : (lanes c index mask : ℕ) (blocks : List Taken) → index < 64 → mask ≡ 2 ^ index → blocks ≡ record { at = Run (8 * chunk_word lanes c); bits = mask } ∷ [] → HaveBits blocks (IsBlockBit lanes c index)
block_bits lanes c index mask blocks low is these =
    let t : Taken = record { at = Run (8 * chunk_word lanes c); bits = 2 ^ index } in
    subst (λ xs. HaveBits xs (IsBlockBit lanes c index)) (sym (these ∙ ap (λ m. record { at = Run (8 * chunk_word lanes c); bits = m } ∷ []) is))
    (record {
      bits = λ at bit. let one = one_of t at bit in let pow = pow_bit index bit in ((λ has. ((one.0 has).0, pow.0 (one.0 has).1)), (λ of. one.1 (of.0, pow.1 of.1)));
      small = All-cons IsWordOfBits t [] (pow-lt {i = index} {j = 64} low) (All-nil IsWordOfBits);
    })

-- the row of chunks that such a descriptor says
pub row_described : (lanes c chunks descriptor : ℕ) → descriptor / 256 ≡ chunks → chunks_described lanes (descriptor_word lanes c) descriptor ≡ record { at = Zone (c / 64); bits = chunk_bits (c % 64) chunks }
row_described lanes c chunks descriptor is =
    let w : ℕ = descriptor_word lanes c in
    let zone : zone_of lanes (w / 512) ≡ c / 64 = omega arith in
    let first : w % 512 ≡ c % 64 = omega arith in
    λ i. record { at = Zone (zone i); bits = 2 ^ (first i) * (2 ^ (is i) - 1) }

pub row_bits : (lanes c chunks descriptor : ℕ) (blocks : List Taken) → c % 64 + chunks ≤ 64 → descriptor / 256 ≡ chunks → blocks ≡ chunks_described lanes (descriptor_word lanes c) descriptor ∷ [] → HaveBits blocks (IsChunkBit c chunks)
row_bits lanes c chunks descriptor blocks fits is these =
    let t : Taken = record { at = Zone (c / 64); bits = chunk_bits (c % 64) chunks } in
    subst (λ xs. HaveBits xs (IsChunkBit c chunks)) (sym (these ∙ ap (λ x. x ∷ []) (row_described lanes c chunks descriptor is)))
    (record {
      bits = λ at bit. let one = one_of t at bit in let row = row_bit (c % 64) chunks bit in ((λ has. ((one.0 has).0, row.0 (one.0 has).1)), (λ of. one.1 (of.0, row.1 of.1)));
      small = All-cons IsWordOfBits t [] (bits_small (c % 64) chunks fits) (All-nil IsWordOfBits);
    })
