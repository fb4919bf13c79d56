-- What recovery leaves of an image that means a pool: nothing of the heap is wrong, each log is
-- retired, and lanes may begin.
use Rattle.std.specs.Prelude.{List, length, slice_index}
use Rattle.std.proofs.Common.{◌≡◌, ℕ, ◌^◌, ◌<◌, inl, inr, ⊎_elim, None}
use Rattle.std.proofs.Common.{sym, ap, ◌∙◌, subst, arith}
use Rattle.pm_image.specs.HeapFaults.{heap_fault}
use Rattle.pm_image.specs.LogFaults.{log_fault}
use Rattle.pm_image.specs.Logs.{recovered_at}
use Rattle.pm_image.specs.Reads.{IsHeapWord}
use Rattle.pm_image.proofs.FaultFree.{neither}
use Rattle.pm_image.proofs.HeapWords.{reads_heap}
use Rattle.pm_image.proofs.LocalPool.{heap_local}
use Rattle.pm_layout.specs.Chunks.{words_of}
use Rattle.pm_objects.specs.declared.pool.PoolView.{PoolView}
use Rattle.pm_recover.proofs.Clean.{clean}
use Rattle.pm_recover.proofs.Sound.{sound_if_meaning}
use Rattle.pm_world.specs.Opens.{IsRetired}
use Rattle.pm_world.proofs.OpenFaults.{retired}
use Rattle.pm_shared.specs.declared.rule.Beginning.{Beginning}
use Rattle.pm_shared.specs.Openings.{CanBegin, OccupancyFits, opening_of, generation_of}
use Rattle.pm_lanes.specs.Opens.{IsOpened, MayRun}

module _ (image layout : List ℕ) (b : Beginning)
    (is : IsOpened image layout b.words.items b.shape b.pool) where
  of_lanes : is.pool.lanes ≡ is.means.lanes
  of_lanes = ap (λ (p : PoolView). p.lanes) is.means.is_pool

  of_zones : is.pool.zones ≡ is.means.zones
  of_zones = ap (λ (p : PoolView). p.zones) is.means.is_pool

  pub size : length b.words.items ≡ words_of b.shape
  size = let long = is.recovered.as_long in let whole = is.means.has_header.has_shape.size in
      let l = is.of_lanes ∙ of_lanes in let z = is.of_zones ∙ of_zones in
      omega (arith, long, whole, l, z)

  -- the heap's words are the recovered ones, of which none is wrong
  same : (i : ℕ) → IsHeapWord is.means.lanes is.means.zones i
      → recovered_at image is.means.lanes i ≡ slice_index b.words.items i
  same i h =
      subst (λ n. recovered_at image n i ≡ slice_index b.words.items i) of_lanes
      (sym (is.recovered.words i (⊎_elim
      (λ (e : i ≡ 64). inl (omega (arith, e)))
      (λ q. let low = q.0 in let l = of_lanes in inr (omega (arith, low, l))) h)))

  pub whole : heap_fault (slice_index b.words.items) b.shape.lanes b.shape.zones ≡ None
  whole =
      let none = (neither (log_fault image is.means.lanes is.means.zones)
      (heap_fault (recovered_at image is.means.lanes) is.means.lanes is.means.zones)
      is.means.no_fault).1 in
      let here = heap_local (recovered_at image is.means.lanes) (slice_index b.words.items)
      is.means.lanes is.means.zones
      record {
        same = λ i reads. same i
            (reads_heap (recovered_at image is.means.lanes) is.means.lanes is.means.zones i none
            reads);
      } in
      ap (λ n. heap_fault (slice_index b.words.items) n b.shape.zones) (is.of_lanes ∙ of_lanes)
      ∙ ap (heap_fault (slice_index b.words.items) is.means.lanes) (is.of_zones ∙ of_zones)
      ∙ here.same_fault ∙ none

  pub log : (lane : ℕ) → lane < b.shape.lanes → IsRetired (opening_of b) lane (generation_of b lane)
  log lane inside =
      let l = clean image b.words.items is.pool.lanes lane
      (sound_if_meaning image is.pool is.means) is.recovered
      (subst (λ n. lane < n) is.of_lanes inside) in
      retired (opening_of b) lane size inside l.unsealed l.first_generation l.last_generation
      l.stale

  pub can_begin : ((w : ℕ) → slice_index b.words.items w < 2 ^ 64) → MayRun is.pool b.lanes
      → OccupancyFits (opening_of b) b.runs.items b.zones.items → CanBegin b
  can_begin small run taken = record {
    some_lanes = run.0;
    most_lanes = let most = run.1 in let l = is.of_lanes in omega (arith, most, l);
    size = size;
    small = small;
    whole = whole;
    retired = log;
    occupancy = taken;
  }
