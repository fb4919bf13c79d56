-- What recovery leaves of an image that means a pool opens a world.
use Rattle.std.specs.Prelude.{List, length, slice_index}
use Rattle.std.proofs.Common.{◌≡◌, ℕ, ◌+◌, ◌*◌, ◌<◌, inl, inr, ⊎_elim, None}
use Rattle.std.proofs.Common.{sym, ap, ◌∙◌, subst, arith}
use Rattle.pm_objects.specs.declared.pool.PoolView.{PoolView}
use Rattle.pm_image.specs.HeapFaults.{heap_fault}
use Rattle.pm_image.specs.LogFaults.{log_fault}
use Rattle.pm_image.specs.Logs.{generation_word, recovered_at}
use Rattle.pm_image.specs.Means.{IsMeaning}
use Rattle.pm_image.specs.Reads.{IsHeapWord}
use Rattle.pm_image.proofs.FaultFree.{neither}
use Rattle.pm_image.proofs.HeapWords.{reads_heap}
use Rattle.pm_image.proofs.LocalPool.{heap_local}
use Rattle.pm_recover.specs.Recovery.{IsRecovered}
use Rattle.pm_recover.proofs.Clean.{clean}
use Rattle.pm_recover.proofs.Sound.{sound_if_meaning}
use Rattle.pm_world.specs.Opens.{IsRetired, RecoveredOpens}
use Rattle.pm_world.specs.World.{Opening}
use Rattle.pm_world.proofs.OpenFaults.{opens, retired}

module _ (before : List ℕ) (pool : PoolView) (o : Opening) (is : IsMeaning before pool)
    (rec : IsRecovered before o.words pool.lanes) (lanes_are : o.shape.lanes ≡ pool.lanes)
    (zones_are : o.shape.zones ≡ pool.zones) where
  of_lanes : pool.lanes ≡ is.lanes
  of_lanes = ap (λ (p : PoolView). p.lanes) is.is_pool

  of_zones : pool.zones ≡ is.zones
  of_zones = ap (λ (p : PoolView). p.zones) is.is_pool

  size : length o.words ≡ 512 + 1024 * o.shape.lanes + 33280 * o.shape.zones
  size = let long = rec.as_long in let whole = is.has_header.has_shape.size in
      let l = lanes_are ∙ of_lanes in let z = zones_are ∙ of_zones in omega arith

  -- the heap's words are the recovered ones, of which none is wrong
  same : (i : ℕ) → IsHeapWord is.lanes is.zones i
      → recovered_at before is.lanes i ≡ slice_index o.words i
  same i h =
      subst (λ n. recovered_at before n i ≡ slice_index o.words i) of_lanes
      (sym (rec.words i (⊎_elim
      (λ (e : i ≡ 64). inl (omega arith))
      (λ q. let low = q.0 in let l = of_lanes in inr (omega arith)) h)))

  no_fault : heap_fault (slice_index o.words) o.shape.lanes o.shape.zones ≡ None
  no_fault =
      let none = (neither (log_fault before is.lanes is.zones)
      (heap_fault (recovered_at before is.lanes) is.lanes is.zones) is.no_fault).1 in
      let here = heap_local (recovered_at before is.lanes) (slice_index o.words) is.lanes is.zones
      record {
        same = λ i reads. same i
            (reads_heap (recovered_at before is.lanes) is.lanes is.zones i none reads);
      } in
      ap (λ n. heap_fault (slice_index o.words) n o.shape.zones) (lanes_are ∙ of_lanes)
      ∙ ap (heap_fault (slice_index o.words) is.lanes) (zones_are ∙ of_zones)
      ∙ here.same_fault ∙ none

  log : (k : ℕ) → k < o.shape.lanes → IsRetired o k (generation_word o.words k)
  log k inside =
      let l = clean before o.words pool.lanes k (sound_if_meaning before pool is) rec
      (subst (λ n. k < n) lanes_are inside) in
      retired o k size inside l.unsealed l.first_generation l.last_generation l.stale

pub recovered_opens : RecoveredOpens
recovered_opens before pool o is rec lanes_are zones_are small mem fixed start taken =
    opens o mem fixed (generation_word o.words) record {
      start = start;
      size = size before pool o is rec lanes_are zones_are;
      small = small;
      retired = log before pool o is rec lanes_are zones_are;
    } (no_fault before pool o is rec lanes_are zones_are) taken
