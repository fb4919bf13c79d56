-- At its log's end a lane's picture of the occupancy words has what its words say is taken then, and what it has.
use Rattle.std.proofs.Common.{◌≡◌, ◌↔◌, inl, inr, ⊎_elim, ℕ, ◌+◌, ◌*◌, ◌/◌, ◌<◌, true, false, ◌||◌, List, length, slice_index, sym, ap, ◌∙◌, subst}
use Rattle.std.specs.Int.{bit_at}
use Rattle.std.specs.List.{list_any}
use Rattle.std.proofs.lemmas.Bool.{false_from_ne_true}
use Rattle.pm_header.specs.declared.header.Header.{Header}
use Rattle.pm_objects.specs.declared.pool.PoolView.{PoolView}
use Rattle.solo_view.specs.declared.occ.Occ.{Occ}
use Rattle.solo_view.specs.declared.occ.Occ.TheVariants.{Run, Zone}
use Rattle.solo_view.specs.Constants.{IsSameLane}
use Rattle.solo_view.specs.Founds.{IsAlone}
use Rattle.solo_view.specs.Log.Phase.{Idle}
use Rattle.solo_view.specs.Occupancy.{is_taken}
use Rattle.solo_view.specs.Steps.{Step}
use Rattle.solo_view.specs.View.{View}
use Rattle.solo_view.specs.Views.{chunk_bit, has_bit, occ_in, reserves, zone_at}
use Rattle.solo_world.specs.Heap.{IsOcc, has_taken}
use Rattle.solo_crash.specs.Publishing.{Published}
use Rattle.solo_crash.specs.Taken.{TakenBehindAll}
use Rattle.solo_sealed.specs.Sealed.{Publishes}
use Rattle.solo_reclaim.specs.KnownTaken.{IsKept, KnowsTaken}
use Rattle.solo_epoch.specs.Epochs.{HasSameHeap, MayPublish, PromisesTaken}
use Rattle.solo_epoch.proofs.PublishedPools.{taken_stands}
use Rattle.solo_epoch.proofs.PublishingHeap.{same_along, same_lane_along}

-- what the lane has is what it had
has_same : (v w : View) → IsSameLane v w → HasSameHeap v w → (at : Occ) (bit : ℕ) → has_taken w at bit ≡ has_taken v at bit
has_same v w lane heap (Run place) bit = λ i. list_any (has_bit (Run place) bit) (heap.reserved i)
    || list_any (has_bit (zone_at (lane.lanes i) (place / 4096)) (chunk_bit (lane.lanes i) (place / 4096))) (heap.reserved i) || list_any (has_bit (Run place) bit) (heap.freed i)
has_same v w lane heap (Zone zone) bit = λ i. list_any (has_bit (Zone zone) bit) (heap.reserved i) || false || list_any (has_bit (Zone zone) bit) (heap.freed i)

-- and so is its picture
pictured_same : (v w : View) → HasSameHeap v w → (at : Occ) → occ_in w at ≡ occ_in v at
pictured_same v w heap (Run place) = λ i. slice_index (heap.runs i) (place / 4096)
pictured_same v w heap (Zone zone) = λ i. slice_index (heap.zones i) zone

kept_same : (v w : View) → HasSameHeap v w → (at : Occ) (bit : ℕ) → IsKept w at bit → IsKept v at bit
kept_same v w heap at bit = ⊎_elim (λ (has : reserves w at bit ≡ true). inl (ap (list_any (has_bit at bit)) (sym heap.reserved) ∙ has))
    (λ (freed : list_any (has_bit at bit) w.freed ≡ true). inr (ap (list_any (has_bit at bit)) (sym heap.freed) ∙ freed))

module _ (b w : View) (header : Header) (before now : PoolView) (all : List Published) (steps : List Step)
    (may : MayPublish b header before now all) (alone : IsAlone b) (publishes : Publishes b steps w) (idle : w.log.phase ≡ Idle) (promises : PromisesTaken b all) where
  lane : IsSameLane b w
  lane = same_lane_along b steps w publishes

  heap : HasSameHeap b w
  heap = same_along b steps w alone publishes

  abbrev IsTakenThen : Occ → ℕ → Type 0
  IsTakenThen at bit = TakenBehindAll b.lanes all at bit (is_taken (slice_index b.words) b.lanes at bit ≡ true)

  there : (at : Occ) → IsOcc w.lanes w.zones at → IsOcc b.lanes b.zones at
  there at of = subst (λ n. IsOcc n b.zones at) lane.lanes (subst (λ n. IsOcc w.lanes n at) lane.zones of)

  taken_then : (at : Occ) (bit : ℕ) → IsOcc b.lanes b.zones at → bit < 64 → (is_taken (slice_index w.words) w.lanes at bit ≡ true) ↔ IsTakenThen at bit
  taken_then at bit of low = let stands = taken_stands b w header before now all steps at bit may alone publishes idle of low in
      (λ taken. stands.0 (ap (λ n. is_taken (slice_index w.words) n at bit) (sym lane.lanes) ∙ taken), λ then. ap (λ n. is_taken (slice_index w.words) n at bit) lane.lanes ∙ stands.1 then)

  pub knows_behind : KnowsTaken w
  knows_behind = record {
    pages = ap (length {A = ℕ}) heap.runs ∙ (promises.pages ∙ λ i. 1 + 2 * sym lane.lanes i + 65 * sym lane.zones i);
    zone_count = ap (length {A = ℕ}) heap.zones ∙ promises.zone_count;
    bits = λ at bit of low. let of' = there at of in let then = taken_then at bit of' low in let rule = promises.bits at bit of' low in (
      λ one. ⊎_elim (λ (taken : IsTakenThen at bit). inl (then.1 taken)) (λ (has : has_taken b at bit ≡ true). inr (has_same b w lane heap at bit ∙ has))
          (rule.0 (ap (λ x. bit_at x bit) (sym (pictured_same b w heap at)) ∙ one)),
      λ is. ap (λ x. bit_at x bit) (pictured_same b w heap at) ∙ rule.1 (⊎_elim (λ (taken : is_taken (slice_index w.words) w.lanes at bit ≡ true). inl (then.0 taken))
          (λ (has : has_taken w at bit ≡ true). inr (sym (has_same b w lane heap at bit) ∙ has)) is),
    );
    apart = λ at bit of low kept. let of' = there at of in false_from_ne_true (is_taken (slice_index w.words) w.lanes at bit)
        (λ taken. promises.apart at bit of' low (kept_same b w heap at bit kept) ((taken_then at bit of' low).0 taken));
    once = λ at bit of low reserved. ap (list_any (has_bit at bit)) heap.freed ∙ promises.once at bit (there at of) low (ap (list_any (has_bit at bit)) (sym heap.reserved) ∙ reserved);
  }
