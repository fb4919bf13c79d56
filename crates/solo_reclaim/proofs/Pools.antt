-- The zones of a pool, one after another; behind the last the lane has nothing left but what it keeps.
use Rattle.std.proofs.Common.{◌≡◌, ◌≢◌, inl, inr, ⊎_elim, ℕ, ◌+◌, ◌/◌, ◌^◌, ◌<◌, ◌≤◌, ◌||◌, true, All, slice_index, List, [], ◌∷◌, refl, sym, ◌∙◌, subst, arith}
use Rattle.std.specs.List.{list_any}
use Rattle.std.proofs.lemmas.Bool.{cases_eq, cases_lt, false_from_ne_true, false≢true, or_cases, or_left, or_right}
use Rattle.std.proofs.lemmas.List.Elements.{All-head}
use Rattle.std.proofs.lemmas.Nat.Bits.{bit_at-lt, bit_at-zero, same_from_bits_below}
use Rattle.std.specs.Int.{bit_at}
use Rattle.pm_image.specs.declared.block.Block.{Block}
use Rattle.pm_layout.specs.declared.shape.Shape.{Shape}
use Rattle.solo_view.specs.declared.occ.Occ.{Occ}
use Rattle.solo_view.specs.declared.occ.Occ.TheVariants.{Run, Zone}
use Rattle.solo_view.specs.View.{Taken, View}
use Rattle.solo_view.specs.Views.{chunk_bit, has_bit, occ_in, reserves, zone_at}
use Rattle.solo_view.specs.Occupancy.{is_taken}
use Rattle.solo_world.specs.Heap.{IsOcc, has_run_chunk, has_taken}
use Rattle.solo_world.proofs.Reserved.{bit_had}
use Rattle.solo_reclaim.specs.KeptBlocks.{IsKeptBit, Keeps}
use Rattle.solo_reclaim.specs.KnownTaken.{IsKept, KnowsTaken}
use Rattle.solo_reclaim.specs.Reclaims.{AreOfPool, HasLeft, HasNothingLeft, HasReclaimed, IsLeft, MayKeep, MayReclaim, TellsLeft, zone_in}
use Rattle.solo_reclaim.proofs.BlockBits.{kept_reserved}
use Rattle.solo_reclaim.proofs.Steps.{may_still, of_pool_before, reclaims_none, reclaims_then, same_lanes}
use Rattle.solo_reclaim.proofs.ZoneWords.{left_later}

-- of the words of the first so many zones the lane has what it keeps
abbrev pub IsInPool : List Block → (View → Type 0) → View → ℕ → Type 0
IsInPool kept at v n = HasReclaimed at v (λ w. IsLeft kept w (λ other. zone_in w.lanes other < n))

pub in_pool_first : (kept : List Block) (at : View → Type 0) (v : View) (shape : Shape) → MayReclaim v shape → All (Keeps v) kept → at v → IsInPool kept at v 0
in_pool_first kept at v shape may keeps there = record { view = v; reclaims = reclaims_none v may.rests.taken; there = there; holds = record { keeps = keeps; left = λ other of low. absurd (omega (arith, low)) } }

-- blocks of the pool of which there is no bit are none
no_blocks : (lanes zones : ℕ) (blocks : List Taken) → AreOfPool lanes zones blocks → ((at : Occ) (bit : ℕ) → IsOcc lanes zones at → bit < 64 → list_any (has_bit at bit) blocks ≡ true → ⊥) → blocks ≡ []
no_blocks lanes zones [] all none = refl
no_blocks lanes zones (t ∷ blocks) all none =
    let small = All-head (λ (u : Taken). u.bits < 2 ^ 64) t blocks all.small in
    absurd (All-head (λ (u : Taken). u.bits ≢ 0) t blocks all.some (same_from_bits_below 64 t.bits 0 small (omega arith) (λ bit low. ⊎_elim
    (λ (set : bit_at t.bits bit ≡ 1). absurd (none t.at bit (All-head (λ (u : Taken). IsOcc lanes zones u.at) t blocks all.of_pool) low (or_left (has_bit t.at bit t) (list_any (has_bit t.at bit) blocks) (bit_had t bit set))))
    (λ (clear : bit_at t.bits bit ≢ 1). let less = bit_at-lt t.bits bit in let off = bit_at-zero bit in omega (arith, clear, less, off))
    (cases_eq (bit_at t.bits bit) 1))))

-- ---- of a word that has what is left the lane has what it keeps

module _ (w : View) (knows : KnowsTaken w) (kept : List Block) (keeps : All (Keeps w) kept) (all : (at : Occ) → IsOcc w.lanes w.zones at → TellsLeft kept w at (occ_in w at)) where
  had_kept : (at : Occ) (bit : ℕ) → IsOcc w.lanes w.zones at → bit < 64 → IsKept w at bit → has_taken w at bit ≡ true → IsKeptBit w.lanes kept at bit
  had_kept at bit of low had has = ⊎_elim
      (λ (taken : is_taken (slice_index w.words) w.lanes at bit ≡ true). absurd (false≢true (sym (knows.apart at bit of low had) ∙ taken)))
      (λ (its : IsKeptBit w.lanes kept at bit). its)
      ((all at of bit low).0 ((knows.bits at bit of low).1 (inr has)))

  reserved_kept : (at : Occ) (bit : ℕ) → IsOcc w.lanes w.zones at → bit < 64 → reserves w at bit ≡ true → IsKeptBit w.lanes kept at bit
  reserved_kept at bit of low has = had_kept at bit of low (inl has) (or_left (reserves w at bit || has_run_chunk w at) (list_any (has_bit at bit) w.freed) (or_left (reserves w at bit) (has_run_chunk w at) has))

  freed_none : (at : Occ) (bit : ℕ) → IsOcc w.lanes w.zones at → bit < 64 → list_any (has_bit at bit) w.freed ≡ true → ⊥
  freed_none at bit of low freed =
      let its = had_kept at bit of low (inr freed) (or_right (reserves w at bit || has_run_chunk w at) (list_any (has_bit at bit) w.freed) freed) in
      false≢true (sym (knows.once at bit of low (kept_reserved w knows kept keeps at bit its).reserved) ∙ freed)

  has_left : HasLeft kept w
  has_left = record {
    left = all;
    keeps = keeps;
    reserved = λ at bit of low. (reserved_kept at bit of low, λ its. (kept_reserved w knows kept keeps at bit its).reserved);
    no_freed_bit = λ at bit of low. false_from_ne_true (list_any (has_bit at bit) w.freed) (freed_none at bit of low);
    none_freed = λ blocks. no_blocks w.lanes w.zones w.freed blocks freed_none;
  }

-- ---- where it keeps none, it has nothing

none_kept : (lanes : ℕ) (at : Occ) (bit : ℕ) → IsKeptBit lanes [] at bit → ⊥
none_kept lanes at bit is = let low = is.2 in omega (arith, low)

module _ (w : View) (left : HasLeft [] w) where
  reserved_none : (at : Occ) (bit : ℕ) → IsOcc w.lanes w.zones at → bit < 64 → reserves w at bit ≡ true → ⊥
  reserved_none at bit of low has = none_kept w.lanes at bit ((left.reserved at bit of low).0 has)

  chunk_none : (at : Occ) → IsOcc w.lanes w.zones at → has_run_chunk w at ≡ true → ⊥
  chunk_none (Run place) of has =
      let chunk = of.1 in
      let inside = of.2 in
      reserved_none (zone_at w.lanes (place / 4096)) (chunk_bit w.lanes (place / 4096)) (omega (arith, chunk, inside)) (omega arith) has
  chunk_none (Zone zone) of has = false≢true has

  pub nothing_left : HasNothingLeft w
  nothing_left = record {
    reclaimed = λ at of bit low. (
      λ one. ⊎_elim (λ (taken : is_taken (slice_index w.words) w.lanes at bit ≡ true). taken) (λ (its : IsKeptBit w.lanes [] at bit). absurd (none_kept w.lanes at bit its)) ((left.left at of bit low).0 one),
      λ taken. (left.left at of bit low).1 (inl taken),
    );
    none_left = λ at bit of low. false_from_ne_true (has_taken w at bit) (λ has. ⊎_elim
        (λ (some : (reserves w at bit || has_run_chunk w at) ≡ true). ⊎_elim
        (λ (reserved : reserves w at bit ≡ true). reserved_none at bit of low reserved)
        (λ (chunk : has_run_chunk w at ≡ true). chunk_none at of chunk)
        (or_cases (reserves w at bit) (has_run_chunk w at) some))
        (λ (freed : list_any (has_bit at bit) w.freed ≡ true). false≢true (sym (left.no_freed_bit at bit of low) ∙ freed))
        (or_cases (reserves w at bit || has_run_chunk w at) (list_any (has_bit at bit) w.freed) has));
    none_reserved = λ blocks. no_blocks w.lanes w.zones w.reserved blocks reserved_none;
    none_freed = left.none_freed;
  }

module _ (kept : List Block) (at : View → Type 0) (v : View) (shape : Shape) (may : MayReclaim v shape) (n : ℕ) (so : IsInPool kept at v n) where
  abbrev pub w : View
  w = so.view

  may_here : MayReclaim w shape
  may_here = may_still v w so.reclaims shape may

  pub may_go_on : MayKeep w shape kept
  may_go_on = record { may = may_here; keeps = so.holds.keeps }

  pub in_pool_more : (new : View → Type 0) → HasReclaimed new w (λ u. IsLeft kept u (λ other. zone_in u.lanes other ≡ n)) → IsInPool kept new v (n + 1)
  in_pool_more new then =
      let u : View = then.view in
      let lanes = same_lanes w u then.reclaims in
      record {
        view = u;
        reclaims = reclaims_then v w u so.reclaims then.reclaims;
        there = then.there;
        holds = record {
          keeps = then.holds.keeps;
          left = λ other of low. ⊎_elim
              (λ (before : zone_in u.lanes other < n). left_later w u kept then.reclaims then.holds.keeps other of (so.holds.left other (of_pool_before w u then.reclaims other of) (subst (λ k. zone_in k other < n) lanes before)))
              (λ (last : n ≤ zone_in u.lanes other). then.holds.left other of (omega (arith, low, last)))
              (cases_lt (zone_in u.lanes other) n);
        };
      }

  zone_inside : (other : Occ) → IsOcc w.lanes w.zones other → zone_in w.lanes other < w.zones
  zone_inside (Run place) of = let inside = of.2 in let chunk = of.1 in omega (arith, inside, chunk)
  zone_inside (Zone zone) of = of

  pub in_pool_all : shape.zones ≤ n → HasReclaimed at v (HasLeft kept)
  in_pool_all far = record {
    view = w;
    reclaims = so.reclaims;
    there = so.there;
    holds = has_left w so.reclaims.taken kept so.holds.keeps (λ other of. so.holds.left other of (let low = zone_inside other of in let zones = may_here.of_shape.zones in omega (arith, low, zones, far)));
  }
