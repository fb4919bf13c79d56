-- A recovered image whose image before had a meaning: what its words hold, and that a lane alone begins over them.
use Rattle.std.proofs.Common.{◌≡◌, inl, inr, ℕ, ◌+◌, ◌*◌, ◌<◌, ◌≤◌, ◌⊎◌, List, length, slice_index, Option, refl, sym, ap, ◌∙◌, subst, arith}
use Rattle.solo_crash.proofs.HeapWordsAlone.{held_by_heap}
use Rattle.solo_crash.specs.Alone.{BeginsAlone}
use Rattle.solo_crash.specs.Held.{HoldsImage, HoldsPool}
use Rattle.pm_header.specs.declared.header.Header.{Header}
use Rattle.pm_image.proofs.FaultFree.{neither}
use Rattle.pm_image.specs.HeapFaults.{heap_fault}
use Rattle.pm_image.specs.LogFaults.{log_fault}
use Rattle.pm_image.specs.Logs.{area_word, recovered_at}
use Rattle.pm_image.specs.Means.{HasShape, IsMeaning}
use Rattle.pm_image.specs.Reads.{IsHeapWord}
use Rattle.solo_occupancy.proofs.Words.{words_are_occupancy}
use Rattle.pm_objects.specs.declared.pool.PoolView.{PoolView}
use Rattle.pm_recover.proofs.Clean.{clean}
use Rattle.pm_recover.proofs.Meaning.{meaning_kept}
use Rattle.pm_recover.proofs.Sound.{lanes_of_meaning, sound_if_meaning}
use Rattle.pm_recover.specs.Recovery.{IsCleanLog, IsRecovered}
use Rattle.solo_world.specs.Opens.{IsClean}
use Rattle.solo_exec.specs.Openings.{first_view, opening_of}

-- the pool of a meaning is of its shape
zones_of_meaning : (image : List ℕ) (pool : PoolView) (is : IsMeaning image pool) → is.zones ≡ pool.zones
zones_of_meaning image pool is = sym (ap (λ (p : PoolView). p.zones) is.is_pool)

module _ (image : List ℕ) (pool : PoolView) (is : IsMeaning image pool) where
  lanes_are : is.lanes ≡ pool.lanes
  lanes_are = lanes_of_meaning image pool is

  zones_are : is.zones ≡ pool.zones
  zones_are = zones_of_meaning image pool is

  pub shape_of : HasShape image pool.lanes pool.zones
  shape_of = subst (λ z. HasShape image pool.lanes z) zones_are (subst (λ n. HasShape image n is.zones) lanes_are is.has_header.has_shape)

  pub holds_image : HoldsImage image pool.lanes pool.zones is.header pool
  holds_image =
      let none = neither (log_fault image is.lanes is.zones) (heap_fault (recovered_at image is.lanes) is.lanes is.zones) is.no_fault in
      let held : HoldsImage image is.lanes is.zones is.header pool = record {
        has_header = is.has_header;
        fits = is.fits;
        no_log_fault = none.0;
        holds = record { no_fault = none.1; is_pool = is.is_pool };
      } in
      subst (λ z. HoldsImage image pool.lanes z is.header pool) zones_are (subst (λ n. HoldsImage image n is.zones is.header pool) lanes_are held)

  pub size_of : length image ≡ 512 + 1024 * pool.lanes + 33280 * pool.zones
  size_of = let bytes = shape_of.size in omega arith

module _ (image : List ℕ) (pool : PoolView) (is : IsMeaning image pool) (words : List ℕ) (recovered : IsRecovered image words pool.lanes) where
  pub words_long : length words ≡ 512 + 1024 * pool.lanes + 33280 * pool.zones
  words_long = recovered.as_long ∙ size_of image pool is

  -- a lane alone begins
  module _ (stop : Option ℕ) where
    pub means_so : IsMeaning words pool
    means_so = meaning_kept image words pool is recovered

    holds_so : HoldsImage words pool.lanes pool.zones means_so.header pool
    holds_so = holds_image words pool means_so

    clean_so : (j : ℕ) → j < pool.lanes → IsClean (opening_of pool words) j
    clean_so j inside =
        let c : IsCleanLog words j = clean image words pool.lanes j (sound_if_meaning image pool is) recovered inside in
        record { unsealed = c.unsealed; first_generation = c.first_generation; last_generation = c.last_generation; stale = c.stale }

    pub begins_alone : BeginsAlone (opening_of pool words) means_so.header pool (first_view pool words stop)
    begins_alone = record {
      holds = holds_so;
      clean = clean_so;
      fresh = record {
        lane = record { lanes = refl; zones = refl; lane = refl; size = refl };
        words = refl;
        nothing_known = refl;
        nothing_changed = refl;
        no_calls = refl;
        idle = refl;
        no_locks = refl;
        nothing_reserved = refl;
        nothing_freed = refl;
        no_zones = refl;
        nothing_seen = refl;
        no_number = refl;
        no_entries = refl;
      };
      occupied = words_are_occupancy (slice_index words) pool.lanes pool.zones (shape_of image pool is).shape.zones_to;
      of_pool = ap (λ (p : PoolView). p.id) means_so.is_pool;
      alone = refl;
    }

    pub begun_alone : (header : Header) × BeginsAlone (opening_of pool words) header pool (first_view pool words stop)
    begun_alone = (means_so.header, begins_alone)
