-- The bits of an occupancy word that no word of the pool says are taken, and that are of no block that is kept: a lane that rests alone may give them back, and
-- then has nothing of it but what it keeps.
use Rattle.std.proofs.Common.{◌≡◌, ◌≢◌, ◌⊎◌, ◌↔◌, inl, inr, ⊎_elim, ℕ, ◌/◌, ◌^◌, ◌<◌, ◌||◌, true, false, bit_and, bit_or, All, List, slice_index, sym, ap, ◌∙◌, subst, arith}
use Rattle.std.specs.Int.{bit_at, bit_not, w64}
use Rattle.std.specs.List.{list_any}
use Rattle.std.proofs.lemmas.Bool.{and_parts, cases_eq, false_from_ne_true, false≢true, or_cases, or_left}
use Rattle.std.proofs.lemmas.List.Elements.{All-nil, All-weaker}
use Rattle.std.proofs.lemmas.Nat.{and_le_l}
use Rattle.std.proofs.lemmas.Nat.Bits.{bit_at-zero}
use Rattle.pm_image.specs.declared.block.Block.{Block}
use Rattle.pm_layout.specs.declared.shape.Shape.{Shape}
use Rattle.solo_view.specs.declared.change.Change.{Change}
use Rattle.solo_view.specs.declared.occ.Occ.{Occ}
use Rattle.solo_view.specs.declared.occ.Occ.TheVariants.{Run, Zone}
use Rattle.solo_view.specs.Blocks.{covers, descriptor_word, is_run}
use Rattle.solo_view.specs.Log.{Log}
use Rattle.solo_view.specs.Occupancy.{is_taken}
use Rattle.solo_view.specs.Steps.Step.{Occupied, Vacate}
use Rattle.solo_view.specs.View.{View}
use Rattle.solo_view.specs.Views.{after, chunk_bit, has_bit, has_chunk, is_made, occ_in, reserves, zone_at}
use Rattle.solo_world.specs.Entries.{is_entered}
use Rattle.solo_world.specs.Heap.{IsOcc, has_run_chunk, has_taken}
use Rattle.solo_world.specs.Lawful.{HasOcc, IsEarly, IsGivenWhole, MayGiveBit, MayVacate}
use Rattle.solo_world.specs.Records.{is_recorded}
use Rattle.solo_world.proofs.Exchanged.{exchanged_has}
use Rattle.solo_world.proofs.Vacated.{and_bit, and_bits, low_bit, not_bit, not_both, or_bit_left, or_bit_right, or_bits, vacated_after}
use Rattle.solo_reclaim.specs.KeptBlocks.{IsKeptBit, IsOfHeap, Keeps}
use Rattle.solo_reclaim.specs.KnownTaken.{KnowsTaken}
use Rattle.solo_reclaim.proofs.GivingBack.{chunk_no_run, chunk_taken, is_pictured, left_is, vacated_here}
use Rattle.solo_reclaim.specs.Reclaims.{HasReclaimed, IsLeft, IsTold, Reclaims, RestsAlone, TellsLeft}
use Rattle.solo_reclaim.proofs.BlockBits.{block_of_heap, kept_reserved}
use Rattle.solo_reclaim.proofs.Keeping.{keeps_still}
use Rattle.solo_view.specs.Founds.{FoundAlone}
use Rattle.solo_reclaim.proofs.Steps.{left_still, occ_looked, reclaims_look, reclaims_then, reclaims_vacate, rests_still, there_still}

-- where each bit that is set is of what is taken, or of what is kept, the word has what is left
pub left_from : (w : View) (kept : List Block) (at : Occ) → KnowsTaken w → All (Keeps w) kept → IsOcc w.lanes w.zones at
    → ((bit : ℕ) → bit < 64 → bit_at (occ_in w at) bit ≡ 1 → (is_taken (slice_index w.words) w.lanes at bit ≡ true) ⊎ IsKeptBit w.lanes kept at bit) → TellsLeft kept w at (occ_in w at)
left_from w kept at knows keeps of only bit low = (
  only bit low,
  λ is. (knows.bits at bit of low).1 (⊎_elim
      (λ (taken : is_taken (slice_index w.words) w.lanes at bit ≡ true). inl taken)
      (λ (its : IsKeptBit w.lanes kept at bit). inr (or_left (reserves w at bit || has_run_chunk w at) (list_any (has_bit at bit) w.freed)
      (or_left (reserves w at bit) (has_run_chunk w at) (kept_reserved w knows kept keeps at bit its).reserved))) is),
)

-- The lane rests alone and keeps these blocks, and this word tells what is left of the occupancy word.
pub record IsLeftBy (v : View) (kept : List Block) (at : Occ) (left : ℕ) : Type 0 where
  pub rests : RestsAlone v
  pub keeps : All (Keeps v) kept
  pub there : HasOcc v at
  pub tells : TellsLeft kept v at left

module _ (v : View) (kept : List Block) (at : Occ) (left found : ℕ) (is : IsLeftBy v kept at left) (found_is : found ≡ occ_in v at) (small : found < 2 ^ 64) (left_small : left < 2 ^ 64) where
  abbrev rest : ℕ
  rest = bit_and found (bit_not w64 left)

  abbrev knows : KnowsTaken v
  knows = is.rests.taken

  -- what is set and not among the rest is left
  pub left_said : (bit : ℕ) → bit < 64 → bit_at (occ_in v at) bit ≡ 1 → bit_at rest bit ≢ 1 → (is_taken (slice_index v.words) v.lanes at bit ≡ true) ⊎ IsKeptBit v.lanes kept at bit
  left_said bit low one off = ⊎_elim
      (λ (set : bit_at left bit ≡ 1). (is.tells bit low).0 set)
      (λ (clear : bit_at left bit ≢ 1). absurd (off (and_bit found (bit_not w64 left) bit (ap (λ n. bit_at n bit) found_is ∙ one) (not_bit left bit left_small low clear))))
      (cases_eq (bit_at left bit) 1)

  -- the rest is what the lane has
  rest_small : rest < 2 ^ 64
  rest_small = let less = and_le_l found (bit_not w64 left) in omega (arith, less, small)

  not_taken : (bit : ℕ) → bit < 64 → bit_at (bit_not w64 left) bit ≡ 1 → is_taken (slice_index v.words) v.lanes at bit ≡ true → ⊥
  not_taken bit low clear so = not_both left bit left_small low clear ((is.tells bit low).1 (inl so))

  -- and none of it is kept
  not_kept : (bit : ℕ) → bit < 64 → IsKeptBit v.lanes kept at bit → bit_at rest bit ≢ 1
  not_kept bit low its set = not_both left bit left_small low (and_bits found (bit_not w64 left) bit set).1 ((is.tells bit low).1 (inr its))

  owned : (bit : ℕ) → bit < 64 → has_taken v at bit ≡ true → (is_taken (slice_index v.words) v.lanes at bit ≡ true → ⊥) → MayGiveBit v at bit
  owned bit low has free = ⊎_elim
      (λ (some : (reserves v at bit || has_run_chunk v at) ≡ true). ⊎_elim
      (λ (reserved : reserves v at bit ≡ true). inl (exchanged_has v at bit low reserved))
      (λ (chunk : has_run_chunk v at ≡ true). absurd (free (chunk_taken v knows at bit is.there.of_pool chunk)))
      (or_cases (reserves v at bit) (has_run_chunk v at) some))
      (λ (freed : list_any (has_bit at bit) v.freed ≡ true). inr freed)
      (or_cases (reserves v at bit || has_run_chunk v at) (list_any (has_bit at bit) v.freed) has)

  own : (bit : ℕ) → bit_at rest bit ≡ 1 → MayGiveBit v at bit
  own bit set =
      let low = low_bit rest bit rest_small set in
      let both = and_bits found (bit_not w64 left) bit set in
      ⊎_elim (λ (so : is_taken (slice_index v.words) v.lanes at bit ≡ true). absurd (not_taken bit low both.1 so))
      (λ (has : has_taken v at bit ≡ true). owned bit low has (not_taken bit low both.1))
      ((knows.bits at bit is.there.of_pool low).0 (ap (λ n. bit_at n bit) (sym found_is) ∙ both.0))

  -- no chunk that it reserved is a run
  whole : (place : Occ) → IsOcc v.lanes v.zones place → (bits : ℕ) → IsGivenWhole v place bits
  whole (Run place) of bits = λ made.
      let page : ℕ = place / 4096 in
      let is_beside : Change → Type 0 = λ c. covers v.lanes v.words (zone_at v.lanes page) (2 ^ chunk_bit v.lanes page) c.word ≡ false in
      subst (All is_beside) (sym is.rests.drained) (All-nil is_beside)
  whole (Zone zone) of bits = λ page chunk here set. false_from_ne_true (is_made v page) (λ made.
      let both = and_parts (has_chunk v page) (is_run (slice_index v.words (descriptor_word v.lanes page))) made in
      false≢true (sym (chunk_no_run v knows page chunk (let first = chunk.0 in omega (arith, first, here, of)) both.0) ∙ both.1))

  pub may_vacate_rest : MayVacate v at rest
  may_vacate_rest = record {
    there = is.there;
    small = rest_small;
    own = own;
    whole = whole at is.there.of_pool rest;
    drained = subst (All (λ (c : Change). covers v.lanes v.words at rest c.word ≡ false)) (sym is.rests.drained) (All-nil (λ (c : Change). covers v.lanes v.words at rest c.word ≡ false));
    unlogged = λ w covered. (ap (λ (l : Log). is_recorded l.records w) is.rests.idle, ap (λ (l : Log). is_entered l.entries w) is.rests.idle);
    early = subst IsEarly (sym (ap (λ (l : Log). l.phase) is.rests.idle)) tt;
  }

  -- once they are given back, or where there are none, the word has what is left
  abbrev w : View
  w = after v (Vacate at rest)

  abbrev pub vacated : Reclaims v w
  vacated = reclaims_vacate v at rest knows may_vacate_rest

  kept_behind : (other : Occ) (bit : ℕ) → IsKeptBit v.lanes kept other bit → reserves w other bit ≡ true
  kept_behind other bit its =
      let was = kept_reserved v knows kept is.keeps other bit its in
      left_is v at rest knows may_vacate_rest other bit
      ∙ vacated_after at rest rest_small other bit v.reserved was.low (λ same. not_kept bit was.low (subst (λ o. IsKeptBit v.lanes kept o bit) same its)) was.reserved

  pub keeps_vacated : All (Keeps w) kept
  keeps_vacated = keeps_still v w knows vacated kept is.keeps kept_behind

  pub left_vacated : TellsLeft kept w at (occ_in w at)
  left_vacated = left_from w kept at vacated.taken keeps_vacated is.there.of_pool (λ bit low one.
      let both = and_bits (occ_in v at) (bit_not w64 rest) bit (ap (λ n. bit_at n bit) (sym (vacated_here v at rest (is_pictured v at knows is.there))) ∙ one) in
      left_said bit low both.0 (not_both rest bit rest_small low both.1))

  pub left_none : rest ≡ 0 → TellsLeft kept v at (occ_in v at)
  left_none none = left_from v kept at knows is.keeps is.there.of_pool (λ bit low one. left_said bit low one (λ set.
      let off = bit_at-zero bit in
      let on : bit_at 0 bit ≡ 1 = ap (λ n. bit_at n bit) (sym none) ∙ set in
      omega (arith, off, on)))

-- ---- the word is looked at, and the rest given back

-- of one word that has what is left, as of all that are it
pub left_of : (kept : List Block) (w : View) (at : Occ) → All (Keeps w) kept → TellsLeft kept w at (occ_in w at) → IsLeft kept w (λ other. other ≡ at)
left_of kept w at keeps tells = record { keeps = keeps; left = λ other of same. subst (λ o. TellsLeft kept w o (occ_in w o)) (sym same) tells }

-- the blocks' bits can be told
pub told_heap : (v : View) (shape : Shape) (kept : List Block) (at : Occ) (taken : ℕ) → IsTold v shape kept at taken → All (IsOfHeap shape.lanes) kept
told_heap v shape kept at taken is = subst (λ n. All (IsOfHeap n) kept) is.rests.may.of_shape.lanes
    (All-weaker (Keeps v) (IsOfHeap v.lanes) (block_of_heap v is.rests.may.rests.taken) kept is.rests.keeps)

-- a word that tells what is taken, with the bits of what is kept
pub told_left : (v : View) (shape : Shape) (kept : List Block) (at : Occ) (taken bits : ℕ) → IsTold v shape kept at taken
    → ((bit : ℕ) → (bit_at bits bit ≡ 1) ↔ IsKeptBit shape.lanes kept at bit) → TellsLeft kept v at (bit_or taken bits)
told_left v shape kept at taken bits is its bit low = (
  λ one. ⊎_elim
      (λ (set : bit_at taken bit ≡ 1). inl ((is.tells bit low).0 set))
      (λ (set : bit_at bits bit ≡ 1). inr (subst (λ n. IsKeptBit n kept at bit) (sym is.rests.may.of_shape.lanes) ((its bit).0 set)))
      (or_bits taken bits bit one),
  ⊎_elim
      (λ (so : is_taken (slice_index v.words) v.lanes at bit ≡ true). or_bit_left taken bits bit ((is.tells bit low).1 so))
      (λ (kept_bit : IsKeptBit v.lanes kept at bit). or_bit_right taken bits bit ((its bit).1 (subst (λ n. IsKeptBit n kept at bit) is.rests.may.of_shape.lanes kept_bit))),
)

module _ (v : View) (shape : Shape) (kept : List Block) (at : Occ) (taken bits found : ℕ) (is : IsTold v shape kept at taken) (its : (bit : ℕ) → (bit_at bits bit ≡ 1) ↔ IsKeptBit shape.lanes kept at bit)
    (alone : FoundAlone v (Occupied at found)) (small : found < 2 ^ 64) (left_small : bit_or taken bits < 2 ^ 64) where
  abbrev left : ℕ
  left = bit_or taken bits

  abbrev rests : RestsAlone v
  rests = is.rests.may.rests

  abbrev m : View
  m = after v (Occupied at found)

  looked : Reclaims v m
  looked = reclaims_look v at found rests is.there alone

  found_still : found ≡ occ_in m at
  found_still = sym (occ_looked v at found (alone rests.alone))

  keeps_looked : All (Keeps m) kept
  keeps_looked = keeps_still v m rests.taken looked kept is.rests.keeps (λ other bit kept_bit. (kept_reserved v rests.taken kept is.rests.keeps other bit kept_bit).reserved)

  told : IsLeftBy m kept at left
  told = record {
    rests = rests_still v m looked rests;
    keeps = keeps_looked;
    there = there_still v m looked at is.there;
    tells = left_still v m looked kept at left (told_left v shape kept at taken bits is its);
  }

  pub may_vacate : MayVacate m at (bit_and found (bit_not w64 left))
  may_vacate = may_vacate_rest m kept at left found told found_still small left_small

  pub has_vacated : (new : View → Type 0) → new (after m (Vacate at (bit_and found (bit_not w64 left)))) → HasReclaimed new v (λ w. IsLeft kept w (λ other. other ≡ at))
  has_vacated new there = record {
    view = after m (Vacate at (bit_and found (bit_not w64 left)));
    reclaims = reclaims_then v m (after m (Vacate at (bit_and found (bit_not w64 left)))) looked (vacated m kept at left found told found_still small left_small);
    there = there;
    holds = left_of kept (after m (Vacate at (bit_and found (bit_not w64 left)))) at (keeps_vacated m kept at left found told found_still small left_small) (left_vacated m kept at left found told found_still small left_small);
  }

  pub has_none : bit_and found (bit_not w64 left) ≡ 0 → (new : View → Type 0) → new m → HasReclaimed new v (λ w. IsLeft kept w (λ other. other ≡ at))
  has_none none new there = record { view = m; reclaims = looked; there = there; holds = left_of kept m at keeps_looked (left_none m kept at left found told found_still small left_small none) }
