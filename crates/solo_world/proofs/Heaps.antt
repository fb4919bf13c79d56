-- The heap's volatile words stay in agreement where a step changes none of them, nor what the lane has of the heap.
use Rattle.std.proofs.Common.{◌≡◌, ℕ, ◌/◌, inl, inr, ⊎_elim, true, eqb, ◌||◌, refl, sym, ap, ◌∙◌}
use Rattle.std.specs.Int.{bit_at}
use Rattle.std.specs.List.{list_any}
use Rattle.solo_view.specs.declared.occ.Occ.{Occ}
use Rattle.solo_view.specs.declared.occ.Occ.TheVariants.{Run, Zone}
use Rattle.solo_view.specs.View.{View}
use Rattle.solo_view.specs.Views.{chunk_bit, has_bit, zone_at}
use Rattle.solo_world.specs.Heap.{Heap, SomeHasTaken, SomeHoldsZone, has_run_chunk, has_taken, holds_zone}
use Rattle.solo_world.specs.Laws.{with_view}
use Rattle.solo_world.specs.Memory.{Memory, IsSame, IsSameBut, Location, occ_at}
use Rattle.solo_world.specs.Memory.Location.{ZoneLock}
use Rattle.solo_world.specs.Opening.{Opening}
use Rattle.solo_world.specs.World.{Views}
use Rattle.solo_world.proofs.Frame.{view_all}
use Rattle.solo_world.proofs.Locations.{IsPlain, occ_other, zone_lock_other}

-- no volatile word of the heap changed
pub record IsHeapSame (old new : Memory) : Type 0 where
  pub words : (at : Occ) → new (occ_at at) ≡ old (occ_at at)
  pub locks : (zone : ℕ) → new (ZoneLock zone) ≡ old (ZoneLock zone)

pub all_same : (old new : Memory) → IsSame old new → IsHeapSame old new
all_same old new same = record { words = λ at. same (occ_at at); locks = λ zone. same (ZoneLock zone) }

pub beside_same : (old new : Memory) (l : Location) → IsPlain l → IsSameBut l old new → IsHeapSame old new
beside_same old new l plain same = record { words = λ at. same (occ_at at) (occ_other at l plain); locks = λ zone. same (ZoneLock zone) (zone_lock_other zone l plain) }

-- the lane has of the heap what it had
pub record HasSame (v v' : View) : Type 0 where
  pub lanes : v'.lanes ≡ v.lanes
  pub reserved : v'.reserved ≡ v.reserved
  pub freed : v'.freed ≡ v.freed
  pub zones : v'.zone_locks ≡ v.zone_locks

module _ (o : Opening) (words : ℕ → ℕ) (old new : Memory) (views : Views) (k : ℕ) (v v' : View) (is : views k ≡ v) (heap : Heap o words old views) where
  -- for a lane that is not k nothing has changed, and for k it is told
  module _ (taken_before : (at : Occ) (bit : ℕ) → has_taken v' at bit ≡ true → has_taken v at bit ≡ true) (taken_after : (at : Occ) (bit : ℕ) → has_taken v at bit ≡ true → has_taken v' at bit ≡ true) where
    before : (j : ℕ) (at : Occ) (bit : ℕ) → has_taken (with_view views k v' j) at bit ≡ true → has_taken (views j) at bit ≡ true
    before j at bit = view_all (λ i u. has_taken u at bit ≡ true → has_taken (views i) at bit ≡ true) views k v' (λ e. ap (λ u. has_taken u at bit) is ∙ taken_before at bit e) j (λ other e. e)

    later : (j : ℕ) (at : Occ) (bit : ℕ) → has_taken (views j) at bit ≡ true → has_taken (with_view views k v' j) at bit ≡ true
    later j at bit = view_all (λ i u. has_taken (views i) at bit ≡ true → has_taken u at bit ≡ true) views k v' (λ e. taken_after at bit (ap (λ u. has_taken u at bit) (sym is) ∙ e)) j (λ other e. e)

    module _ (zones_before : (zone : ℕ) → holds_zone v' zone ≡ true → holds_zone v zone ≡ true) (zones_after : (zone : ℕ) → holds_zone v zone ≡ true → holds_zone v' zone ≡ true) (same : IsHeapSame old new) where
      held_before : (j zone : ℕ) → holds_zone (with_view views k v' j) zone ≡ true → holds_zone (views j) zone ≡ true
      held_before j zone = view_all (λ i u. holds_zone u zone ≡ true → holds_zone (views i) zone ≡ true) views k v' (λ e. ap (λ u. holds_zone u zone) is ∙ zones_before zone e) j (λ other e. e)

      held_later : (j zone : ℕ) → holds_zone (views j) zone ≡ true → holds_zone (with_view views k v' j) zone ≡ true
      held_later j zone = view_all (λ i u. holds_zone (views i) zone ≡ true → holds_zone u zone ≡ true) views k v' (λ e. zones_after zone (ap (λ u. holds_zone u zone) (sym is) ∙ e)) j (λ other e. e)

      pub heap_kept : Heap o words new (with_view views k v')
      heap_kept = record {
        set = λ at bit of low one. ⊎_elim inl (λ (t : SomeHasTaken views o.lanes at bit). inr (t.0, t.1, later t.0 at bit t.2)) (heap.set at bit of low (ap (λ w. bit_at w bit) (sym (same.words at)) ∙ one));
        taken = λ at bit of low is_so. ap (λ w. bit_at w bit) (same.words at) ∙ heap.taken at bit of low is_so;
        held = λ j at bit low of small has. ap (λ w. bit_at w bit) (same.words at) ∙ heap.held j at bit low of small (before j at bit has);
        apart = λ i j at bit low high one other. heap.apart i j at bit low high (before i at bit one) (before j at bit other);
        locked = λ j zone low holds. same.locks zone ∙ heap.locked j zone low (held_before j zone holds);
        unlocked = λ zone. ⊎_elim (λ (free : old (ZoneLock zone) ≡ 0). inl (same.locks zone ∙ free))
            (λ (t : SomeHoldsZone views o.lanes old zone). inr (t.0, t.1, same.locks zone ∙ t.2, held_later t.0 zone t.3)) (heap.unlocked zone);
      }

chunk_same : (v v' : View) → HasSame v v' → (at : Occ) → has_run_chunk v' at ≡ has_run_chunk v at
chunk_same v v' has (Run place) = λ i. list_any (has_bit (zone_at (has.lanes i) (place / 4096)) (chunk_bit (has.lanes i) (place / 4096))) (has.reserved i)
chunk_same v v' has (Zone zone) = refl

taken_same : (v v' : View) → HasSame v v' → (at : Occ) (bit : ℕ) → has_taken v at bit ≡ true → has_taken v' at bit ≡ true
taken_same v v' has at bit e = (λ i. list_any (has_bit at bit) (has.reserved i) || chunk_same v v' has at i || list_any (has_bit at bit) (has.freed i)) ∙ e

turned : (v v' : View) → HasSame v v' → HasSame v' v
turned v v' has = record { lanes = sym has.lanes; reserved = sym has.reserved; freed = sym has.freed; zones = sym has.zones }

zones_same : (v v' : View) → HasSame v v' → (zone : ℕ) → holds_zone v zone ≡ true → holds_zone v' zone ≡ true
zones_same v v' has zone e = (λ i. list_any (λ held. eqb held zone) (has.zones i)) ∙ e

pub heap_still : (o : Opening) (words : ℕ → ℕ) (old new : Memory) (views : Views) (k : ℕ) (v v' : View) → views k ≡ v → Heap o words old views → IsHeapSame old new → HasSame v v' → Heap o words new (with_view views k v')
heap_still o words old new views k v v' is heap same has =
    heap_kept o words old new views k v v' is heap (taken_same v' v (turned v v' has)) (taken_same v v' has) (zones_same v' v (turned v v' has)) (zones_same v v' has) same
