-- The chunks of a zone, one after another, and then the zone's own word.
use Rattle.std.proofs.Common.{◌≡◌, inl, inr, ⊎_elim, ℕ, ◌+◌, ◌*◌, ◌/◌, ◌<◌, ◌≤◌, true, All, List, length, slice_index, refl, sym, ap, ◌∙◌, subst, arith}
use Rattle.std.proofs.lemmas.Bool.{cases_lt}
use Rattle.pm_image.specs.declared.block.Block.{Block}
use Rattle.pm_layout.specs.declared.shape.Shape.{Shape}
use Rattle.pm_layout.specs.Layout.{chunk_place, zone_place}
use Rattle.solo_occupancy.specs.declared.taken.TakenChunks.{TakenChunks}
use Rattle.solo_occupancy.specs.Words.{TellsChunks}
use Rattle.solo_view.specs.declared.occ.Occ.{Occ}
use Rattle.solo_view.specs.declared.occ.Occ.TheVariants.{Run, Zone}
use Rattle.solo_view.specs.Blocks.{chunk_of, descriptor_word, zone_of, zone_page}
use Rattle.solo_view.specs.Founds.{FoundAlone}
use Rattle.solo_view.specs.Steps.Step.{Load}
use Rattle.solo_view.specs.View.{View}
use Rattle.solo_view.specs.Occupancy.{is_taken}
use Rattle.solo_view.specs.Views.{after, occ_in}
use Rattle.solo_world.specs.Heap.{IsOcc}
use Rattle.solo_world.specs.Lawful.{HasOcc}
use Rattle.solo_reclaim.specs.KeptBlocks.{IsKeptBit, Keeps}
use Rattle.solo_reclaim.specs.Reclaims.{HasReclaimed, IsDescribed, IsLeft, IsTold, MayKeep, MayReclaim, Reclaims, TellsLeft, zone_in}
use Rattle.solo_reclaim.proofs.BlockBits.{kept_reserved}
use Rattle.solo_reclaim.proofs.Keeping.{keeps_still}
use Rattle.solo_reclaim.proofs.Rest.{left_from}
use Rattle.solo_reclaim.proofs.Steps.{kept_still, may_still, of_pool_before, reclaims_load, reclaims_none, reclaims_then, same_lanes, same_words, taken_still}

-- what was left is so still, where the lane keeps the blocks still
pub left_later : (v w : View) (kept : List Block) → Reclaims v w → All (Keeps w) kept → (at : Occ) → IsOcc w.lanes w.zones at → TellsLeft kept v at (occ_in v at) → TellsLeft kept w at (occ_in w at)
left_later v w kept reclaims keeps at of is = left_from w kept at reclaims.taken keeps of (λ bit low one. ⊎_elim
    (λ (taken : is_taken (slice_index v.words) v.lanes at bit ≡ true). inl (taken_still v w reclaims at bit taken))
    (λ (its : IsKeptBit v.lanes kept at bit). inr (kept_still v w reclaims kept at bit its))
    ((is bit low).0 (reclaims.less at bit one)))

-- the runs among the first so many chunks of a zone
abbrev pub IsRunAmong : ℕ → ℕ → ℕ → Occ → Type 0
IsRunAmong lanes zone n at = (place : ℕ) × (at ≡ Run place) × (zone_of lanes (place / 4096) ≡ zone) × (chunk_of lanes (place / 4096) ≤ n)

-- of the first so many chunks of the zone the lane has what it keeps, where they are runs, and this is what is taken of them
pub record IsBehind (kept : List Block) (w : View) (zone n : ℕ) (taken : TakenChunks) : Type 0 where
  pub runs : IsLeft kept w (IsRunAmong w.lanes zone n)
  pub tells : TellsChunks (slice_index w.words) w.lanes zone n taken

abbrev pub IsInZone : List Block → (View → Type 0) → View → ℕ → ℕ → TakenChunks → Type 0
IsInZone kept at v zone n taken = HasReclaimed at v (λ w. IsBehind kept w zone n taken)

pub in_zone_first : (kept : List Block) (at : View → Type 0) (v : View) (shape : Shape) → MayKeep v shape kept → (zone : ℕ) (taken : TakenChunks) → TellsChunks (slice_index v.words) v.lanes zone 0 taken → at v → IsInZone kept at v zone 0 taken
in_zone_first kept at v shape may zone taken tells there = record {
  view = v;
  reclaims = reclaims_none v may.may.rests.taken;
  there = there;
  holds = record { runs = record { keeps = may.keeps; left = λ other of here. absurd (let chunk = subst (IsOcc v.lanes v.zones) here.1 of in let some = chunk.1.1 in let none = here.3 in omega (arith, some, none)) }; tells = tells };
}

module _ (kept : List Block) (at : View → Type 0) (v : View) (shape : Shape) (may : MayKeep v shape kept) (zone : ℕ) (inside : zone < shape.zones) (n : ℕ) (taken : TakenChunks) (so : IsInZone kept at v zone n taken) where
  abbrev pub w : View
  w = so.view

  pub may_here : MayReclaim w shape
  may_here = may_still v w so.reclaims shape may.may

  -- ---- one chunk more

  module _ (low : n < 64) where
    abbrev pub word : ℕ
    word = zone_place shape.lanes zone / 8 + n

    abbrev pub place : ℕ
    place = chunk_place shape.lanes zone n

    pub descriptor_there : word < length w.words
    descriptor_there = let size = may_here.of_shape.size in omega (arith, size, inside, low)

    module _ (descriptor : ℕ) (alone : FoundAlone w (Load word descriptor)) where
      abbrev pub m : View
      m = after w (Load word descriptor)

      pub descriptor_loaded : Reclaims w m
      descriptor_loaded = reclaims_load w word descriptor may_here.rests descriptor_there alone

      found_by : (at_word : ℕ) → at_word ≡ word → slice_index w.words at_word ≡ descriptor
      found_by at_word is = ap (slice_index w.words) is ∙ sym (alone may_here.rests.alone)

      -- the zone's word so far has the chunk from then on
      pub in_its_words : slice_index w.words (512 * zone_page w.lanes zone + n) ≡ descriptor
      in_its_words = found_by (512 * zone_page w.lanes zone + n) (let lanes = may_here.of_shape.lanes in omega (arith, lanes))

      may_then : MayReclaim m shape
      may_then = may_still w m descriptor_loaded shape may_here

      keeps_then : All (Keeps m) kept
      keeps_then =
          let keeps = so.holds.runs.keeps in
          keeps_still w m may_here.rests.taken descriptor_loaded kept keeps (λ other bit its. (kept_reserved w may_here.rests.taken kept keeps other bit its).reserved)

      there : HasOcc m (Run place)
      there =
          let lanes = may_then.of_shape.lanes in
          let zones = may_then.of_shape.zones in
          let size = may_then.of_shape.size in
          record { of_pool = (omega arith, (omega (arith, lanes), omega (arith, lanes, low)), omega (arith, lanes, zones, inside, low)); inside = omega (arith, size, inside, low) }

      pub chunk_described : IsDescribed m shape kept place descriptor
      chunk_described = record {
        rests = record { may = may_then; keeps = keeps_then };
        there = there;
        described = ap (λ ws. slice_index ws (descriptor_word m.lanes (place / 4096))) (same_words w m descriptor_loaded)
            ∙ found_by (descriptor_word m.lanes (place / 4096)) (let lanes = may_then.of_shape.lanes in omega (arith, lanes, low));
      }

      pub in_zone_more : (new : View → Type 0) (more : TakenChunks) → TellsChunks (slice_index w.words) w.lanes zone (n + 1) more → HasReclaimed new m (λ u. IsLeft kept u (λ other. other ≡ Run place)) → IsInZone kept new v zone (n + 1) more
      in_zone_more new more tells then =
          let u : View = then.view in
          let on : Reclaims w u = reclaims_then w m u descriptor_loaded then.reclaims in
          let lanes = same_lanes w u on in
          record {
            view = u;
            reclaims = reclaims_then v w u so.reclaims on;
            there = then.there;
            holds = record {
              runs = record { keeps = then.holds.keeps; left = λ other of here. one_more u on then.holds other of here };
              tells = subst (λ k. TellsChunks (slice_index u.words) k zone (n + 1) more) (sym lanes) (subst (λ ws. TellsChunks (slice_index ws) w.lanes zone (n + 1) more) (sym (same_words w u on)) tells);
            };
          } where
            one_more : (u : View) → Reclaims w u → IsLeft kept u (λ other. other ≡ Run place) → (other : Occ) → IsOcc u.lanes u.zones other → IsRunAmong u.lanes zone (n + 1) other → TellsLeft kept u other (occ_in u other)
            one_more u on last other of here =
                let lanes = same_lanes w u on in
                let its : ℕ = here.0 in
                let chunk : IsOcc u.lanes u.zones (Run its) = subst (IsOcc u.lanes u.zones) here.1 of in
                ⊎_elim
                (λ (before : chunk_of u.lanes (its / 4096) < n + 1).
                left_later w u kept on last.keeps other of (so.holds.runs.left other (of_pool_before w u on other of) (its, here.1, (let zone_is = here.2 in omega (arith, lanes, zone_is)), omega (arith, lanes, before))))
                (λ (same_chunk : n + 1 ≤ chunk_of u.lanes (its / 4096)).
                let first = chunk.1.0 in
                let whole = chunk.0 in
                let zone_is = here.2 in
                let few = here.3 in
                let shape_lanes = may_here.of_shape.lanes in
                let same : its ≡ place = omega (arith, lanes, shape_lanes, zone_is, few, same_chunk, first, whole) in
                last.left other of (here.1 ∙ ap Run same))
                (cases_lt (chunk_of u.lanes (its / 4096)) (n + 1))

  -- ---- the zone's own word

  module _ (all : 64 ≤ n) (few : shape.zones ≤ 32) where
    pub zone_told : IsTold w shape kept (Zone zone) taken.bits
    zone_told = record {
      rests = record { may = may_here; keeps = so.holds.runs.keeps };
      there = record { of_pool = (let zones = may_here.of_shape.zones in omega (arith, zones, inside)); inside = omega (arith, inside, few) };
      tells = λ bit low. so.holds.tells.below bit (omega (arith, low, all));
    }

    pub zone_left : (new : View → Type 0) → HasReclaimed new w (λ u. IsLeft kept u (λ other. other ≡ Zone zone)) → HasReclaimed new v (λ u. IsLeft kept u (λ other. zone_in u.lanes other ≡ zone))
    zone_left new then = record {
      view = then.view;
      reclaims = reclaims_then v w then.view so.reclaims then.reclaims;
      there = then.there;
      holds = record { keeps = then.holds.keeps; left = each };
    } where
      each : (other : Occ) → IsOcc then.view.lanes then.view.zones other → zone_in then.view.lanes other ≡ zone → TellsLeft kept then.view other (occ_in then.view other)
      each (Run place) of here =
          let lanes = same_lanes w then.view then.reclaims in
          left_later w then.view kept then.reclaims then.holds.keeps (Run place) of (so.holds.runs.left (Run place) (of_pool_before w then.view then.reclaims (Run place) of) (place, refl, omega (arith, lanes, here), omega (arith, all)))
      each (Zone other) of here = then.holds.left (Zone other) of (ap Zone here)
