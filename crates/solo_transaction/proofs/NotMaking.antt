-- A lane that makes no object makes none behind what changes no descriptor and keeps what it has of the heap; and no chunk that it reserved is a run, by page or by number.
use Rattle.std.proofs.Common.{◌≡◌, ℕ, ◌+◌, ◌-◌, ◌*◌, ◌/◌, ◌%◌, ◌<◌, true, List, [], slice_index, refl, sym, ap, ◌∙◌, arith}
use Rattle.std.specs.List.{list_any}
use Rattle.std.proofs.lemmas.Bool.{and_from, and_parts, false_from_ne_true, false≢true}
use Rattle.pm_image.specs.Blocks.{chunk_word, descriptor_word}
use Rattle.pm_layout.specs.declared.shape.Shape.{Shape}
use Rattle.solo_view.specs.declared.occ.Occ.TheVariants.{Zone}
use Rattle.solo_view.specs.Blocks.{chunk_of, is_run, zone_of}
use Rattle.solo_view.specs.Blocks.{descriptor_word as lane_descriptor}
use Rattle.solo_view.specs.Constants.{IsSameLane}
use Rattle.solo_view.specs.Founds.{IsAlone}
use Rattle.solo_view.specs.View.{View}
use Rattle.solo_view.specs.Views.{has_bit, has_chunk, is_made, reserves}
use Rattle.solo_world.specs.Heap.{BlocksFit}
use Rattle.solo_world.specs.Opening.{IsChunk, Opening}
use Rattle.solo_world.proofs.Reserved.{reserved_of_pool}
use Rattle.solo_crash.proofs.FoundBlocks.{IsPageOf, page_of_chunk}
use Rattle.solo_crash.proofs.NewRuns.{page_at}
use Rattle.solo_alloc.specs.NewObjects.{CanMakeObject}
use Rattle.solo_lock.proofs.LookedAlone.{led_words}
use Rattle.solo_lock.specs.Leading.{IsLed}
use Rattle.solo_reclaim.proofs.GivingBack.{chunk_no_run}
use Rattle.solo_reclaim.specs.KnownTaken.{KnowsTaken}
use Rattle.solo_epoch.proofs.FreeChunks.{no_run_reserved}
use Rattle.solo_epoch.specs.Epochs.{ReservesNoRun}
use Rattle.solo_crash.proofs.StillReserved.{HasSameHeads}
use Rattle.solo_transaction.specs.AtWork.{IsNotMaking}

pub not_making_still : (v w : View) → HasSameHeads v w → w.zone_locks ≡ v.zone_locks → IsNotMaking v → IsNotMaking w
not_making_still v w same zone_locks quiet = record {
  unlocked = zone_locks ∙ quiet.unlocked;
  no_run = λ c in_pool has.
      let zones = same.zones in
      let inside : c < 64 * v.zones = omega (arith, in_pool, zones) in
      ap is_run (ap (λ n. slice_index w.words (descriptor_word n c)) same.lanes ∙ same.described c inside) ∙ quiet.no_run c inside (ap (list_any (has_bit (Zone (c / 64)) (c % 64))) (sym same.reserved) ∙ has);
}

-- nor behind steps of a lane alone of which none is a counted call
pub not_making_led : (v w : View) → IsSameLane v w → IsLed v w → IsAlone v → IsNotMaking v → IsNotMaking w
not_making_led v w same led alone =
    let words : (i : ℕ) → slice_index w.words i ≡ slice_index v.words i = λ i. ap (λ (ws : List ℕ). slice_index ws i) (led_words v w led alone) in
    not_making_still v w (record { lanes = same.lanes; zones = same.zones; reserved = led.heap.reserved; described = λ c in_pool. words (descriptor_word v.lanes c); bitmaps = λ c in_pool run. words (chunk_word v.lanes c); root = words 64 }) led.heap.zone_locks

-- nor where it knows what is taken: a chunk that it reserved is not, and so no run
pub not_making_knowing : (v : View) → v.zone_locks ≡ [] → KnowsTaken v → IsNotMaking v
not_making_knowing v unlocked knows = record {
  unlocked = unlocked;
  no_run = λ c in_pool has.
      let page : ℕ = page_at v.lanes c in
      let of : IsPageOf v.lanes page c = page_of_chunk v.lanes page c refl in
      let zone : zone_of v.lanes page ≡ c / 64 = omega arith in
      let bit : chunk_of v.lanes page - 1 ≡ c % 64 = omega arith in
      let chunk : IsChunk v.lanes page = (omega arith, omega arith) in
      let reserved : has_chunk v page ≡ true = (λ i. list_any (has_bit (Zone (zone i)) (bit i)) v.reserved) ∙ has in
      ap (λ n. is_run (slice_index v.words n)) (sym of.descriptor) ∙ chunk_no_run v knows page chunk (omega (arith, in_pool)) reserved;
}

-- by the page of a chunk, and by its number
pub not_making_by : (v : View) → v.zone_locks ≡ [] → ReservesNoRun v.lanes v → IsNotMaking v
not_making_by v unlocked none = record {
  unlocked = unlocked;
  no_run = λ c in_pool has. false_from_ne_true (is_run (slice_index v.words (descriptor_word v.lanes c))) (λ run.
      let page : ℕ = page_at v.lanes c in
      let of : IsPageOf v.lanes page c = page_of_chunk v.lanes page c refl in
      let zone : zone_of v.lanes page ≡ c / 64 = omega arith in
      let bit : chunk_of v.lanes page - 1 ≡ c % 64 = omega arith in
      let chunk : IsChunk v.lanes page = (omega arith, omega arith) in
      let reserved : has_chunk v page ≡ true = (λ i. list_any (has_bit (Zone (zone i)) (bit i)) v.reserved) ∙ has in
      let is : is_run (slice_index v.words (lane_descriptor v.lanes page)) ≡ true = ap (λ i. is_run (slice_index v.words i)) of.descriptor ∙ run in
      false≢true (sym (none page chunk) ∙ and_from (has_chunk v page) (is_run (slice_index v.words (lane_descriptor v.lanes page))) reserved is));
}

pub not_making_able : (v : View) (shape : Shape) → CanMakeObject v shape → IsNotMaking v
not_making_able v shape can = not_making_by v can.run.search.unlocked (no_run_reserved v can.pool.no_bitmap)

pub reserves_no_run : (o : Opening) (heap : ℕ → ℕ) (v : View) → BlocksFit o heap v → v.lanes ≡ o.lanes → v.zones ≡ o.zones → IsNotMaking v → ReservesNoRun v.lanes v
reserves_no_run o heap v fits lanes zones quiet page chunk = false_from_ne_true (is_made v page) (λ made.
    let both = and_parts (has_chunk v page) (is_run (slice_index v.words (lane_descriptor v.lanes page))) made in
    let zone : ℕ = zone_of v.lanes page in
    let bit : ℕ = chunk_of v.lanes page - 1 in
    let first = chunk.0 in let some = chunk.1 in
    let in_pool : zone < o.zones = reserved_of_pool o heap v (Zone zone) bit fits both.0 in
    let c : ℕ = 64 * zone + bit in
    let low : bit < 64 = omega (arith, some) in
    let of : IsPageOf v.lanes page c = page_of_chunk v.lanes page c (omega (arith, first, some)) in
    let its_zone : c / 64 ≡ zone = omega (arith, low) in
    let its_bit : c % 64 ≡ bit = omega (arith, low) in
    let reserved : reserves v (Zone (c / 64)) (c % 64) ≡ true = (λ i. list_any (has_bit (Zone (its_zone i)) (its_bit i)) v.reserved) ∙ both.0 in
    false≢true (sym (quiet.no_run c (omega (arith, low, in_pool, zones)) reserved) ∙ (ap (λ i. is_run (slice_index v.words i)) (sym of.descriptor) ∙ both.1)))
