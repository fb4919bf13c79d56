-- The places that the tests reserve.
use Rattle.std.proofs.Common.{◌≡◌, ◌≢◌, inl, inr, ⊎_elim, ℕ, ◌+◌, ◌*◌, ◌/◌, ◌%◌, ◌<◌, true, slice_index, ap, ◌∙◌, arith}
use Rattle.std.proofs.lemmas.Bool.{cases_eq}
use Rattle.pm_image.specs.declared.block.Block.{Block}
use Rattle.pm_image.specs.Blocks.{descriptor_word}
use Rattle.pm_layout.specs.Layout.{chunk_place, zone_place}
use Rattle.pm_layout.specs.Sizes.{block_place}
use Rattle.pm_layout.specs.declared.shape.Shape.{Shape}
use Rattle.solo_view.specs.declared.occ.Occ.TheVariants.{Run, Zone}
use Rattle.solo_view.specs.View.{View}
use Rattle.solo_view.specs.Views.{reserves}
use Rattle.solo_world.specs.Lawful.{HasOcc}
use Rattle.solo_reclaim.specs.KeptBlocks.{Keeps}
use Rattle.solo_reclaim.specs.Reclaims.{MayReclaim}

module _ (v : View) (shape : Shape) (may : MayReclaim v shape) where
  pub first_run : (place : ℕ) → place ≡ chunk_place shape.lanes 0 0 → HasOcc v (Run place)
  first_run place is =
      let lanes = may.of_shape.lanes in
      let zones = may.of_shape.zones in
      let size = may.of_shape.size in
      let some = shape.zones_from in
      record { of_pool = (omega (arith, is), (omega (arith, is, lanes), omega (arith, is, lanes)), omega (arith, is, lanes, zones, some)); inside = omega (arith, is, lanes, zones, size, some) }

  pub first_zone : HasOcc v (Zone 0)
  first_zone = let zones = may.of_shape.zones in let some = shape.zones_from in record { of_pool = omega (arith, zones, some); inside = omega arith }

-- a block of two lines in the zone's first chunk
pub block_kept : (v w : View) (shape : Shape) (place at index : ℕ) → MayReclaim v shape → w.lanes ≡ v.lanes → w.zones ≡ v.zones → w.words ≡ v.words → place ≡ chunk_place shape.lanes 0 0 → at ≡ block_place place 2 index → index < 31
    → slice_index v.words (zone_place shape.lanes 0 / 8) ≡ 513 → reserves w (Run place) index ≡ true → Keeps w (record { place = at; lines = 2 })
block_kept v w shape place at index may lanes zones words is at_is few found reserved =
    let own = may.of_shape.lanes in
    let many = may.of_shape.zones in
    let some = shape.zones_from in
    let word : descriptor_word w.lanes 0 ≡ zone_place shape.lanes 0 / 8 = omega (arith, lanes, own) in
    let same : 4096 * (2 + 2 * w.lanes) ≡ place = omega (arith, lanes, own, is) in
    inl (record {
      chunk = 0;
      lines = 2;
      index = index;
      in_pool = omega (arith, zones, many, some);
      low = omega (arith, few);
      described = ap (λ ws. slice_index ws (descriptor_word w.lanes 0)) words ∙ ap (slice_index v.words) word ∙ found;
      reserved = ap (λ p. reserves w (Run p) index) (let e : 4096 * (2 + 2 * w.lanes + 65 * (0 / 64) + 0 % 64) ≡ place = omega (arith, same) in e) ∙ reserved;
      is_block = ap (λ p. let b : Block = record { place = p; lines = 2 } in b) (omega (arith, at_is, is, lanes, own));
    })

-- two chunks of the zone
pub chunks_kept : (v w : View) (shape : Shape) (place first : ℕ) → MayReclaim v shape → w.lanes ≡ v.lanes → w.zones ≡ v.zones → w.words ≡ v.words → place ≡ chunk_place shape.lanes 0 first → first < 63
    → slice_index v.words (zone_place shape.lanes 0 / 8 + first) ≡ 0 → slice_index v.words (zone_place shape.lanes 0 / 8 + first + 1) ≡ 0 → reserves w (Zone 0) first ≡ true → reserves w (Zone 0) (first + 1) ≡ true
    → Keeps w (record { place = place; lines = 128 })
chunks_kept v w shape place first may lanes zones words is low found next reserved reserved_next =
    let own = may.of_shape.lanes in
    let many = may.of_shape.zones in
    let some = shape.zones_from in
    inr (record {
      zone = 0;
      first = first;
      count = 2;
      in_pool = omega (arith, zones, many, some);
      low = omega (arith, low);
      fits = omega (arith, low);
      unused = λ j few. ⊎_elim
          (λ (one : j ≡ 0). record {
            reserved = ap (reserves w (Zone 0)) (let e : first + j ≡ first = omega (arith, one) in e) ∙ reserved;
            undescribed = ap (λ ws. slice_index ws (descriptor_word w.lanes (64 * 0 + (first + j)))) words ∙ ap (slice_index v.words) (let e : descriptor_word w.lanes (64 * 0 + (first + j)) ≡ zone_place shape.lanes 0 / 8 + first = omega (arith, one, lanes, own, low) in e) ∙ found;
          })
          (λ (two : j ≢ 0). record {
            reserved = ap (reserves w (Zone 0)) (let e : first + j ≡ first + 1 = omega (arith, two, few) in e) ∙ reserved_next;
            undescribed = ap (λ ws. slice_index ws (descriptor_word w.lanes (64 * 0 + (first + j)))) words ∙ ap (slice_index v.words) (let e : descriptor_word w.lanes (64 * 0 + (first + j)) ≡ zone_place shape.lanes 0 / 8 + first + 1 = omega (arith, two, few, lanes, own, low) in e) ∙ next;
          })
          (cases_eq j 0);
      is_block = ap (λ p. let b : Block = record { place = p; lines = 128 } in b) (omega (arith, is, lanes, own, low));
    })
