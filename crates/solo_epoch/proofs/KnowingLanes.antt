-- A lane that works alone has in its picture of the occupancy words what its words say is taken, and what it has; and what it reserved is free.
use Rattle.std.proofs.Common.{◌≡◌, ◌↔◌, ◌⊎◌, ⊎_elim, ℕ, true, false, List, [], slice_index, sym, ap, ◌∙◌, subst, arith}
use Rattle.std.specs.Int.{bit_at}
use Rattle.std.specs.List.{list_any}
use Rattle.std.proofs.lemmas.Bool.{false≢true}
use Rattle.pm_header.specs.declared.header.Header.{Header}
use Rattle.pm_objects.specs.declared.pool.PoolView.{PoolView}
use Rattle.solo_view.specs.declared.occ.Occ.{Occ}
use Rattle.solo_view.specs.Occupancy.{is_taken}
use Rattle.solo_view.specs.Steps.{Step}
use Rattle.solo_view.specs.View.{View}
use Rattle.solo_view.specs.Views.{has_bit, occ_in, reserves}
use Rattle.solo_world.specs.Fits.{LaneFits}
use Rattle.solo_world.specs.Heap.{IsOcc, has_taken}
use Rattle.solo_world.specs.History.{Flies, settled}
use Rattle.solo_world.specs.Opening.{Opening}
use Rattle.solo_crash.specs.Alone.{WorksAlone}
use Rattle.solo_crash.proofs.AloneCourse.{StandsAlone, stands_at}
use Rattle.solo_crash.proofs.AloneMemory.{memory_of}
use Rattle.solo_crash.proofs.KnownHeap.{known_alone}
use Rattle.solo_reclaim.specs.KnownTaken.{KnowsTaken}
use Rattle.solo_epoch.specs.Epochs.{ReservesNoRun}
use Rattle.solo_epoch.proofs.FreeChunks.{free_by_words}
use Rattle.solo_epoch.proofs.StandingPools.{own_fits}

module _ (o : Opening) (header : Header) (pool : PoolView) (v w : View) (steps : List Step) (works : WorksAlone o header pool v steps w) where
  stands : StandsAlone o header pool w
  stands = stands_at o header pool v steps w works.begins works.leads works.numbered works.within

  fits : LaneFits o (memory_of w) (settled o stands.log stands.decided) (Flies stands.log stands.decided 0) 0 w
  fits = own_fits o header pool w stands

  pub none_freed : w.freed ≡ []
  none_freed = fits.blocks.freed

  module _ (no_run : ReservesNoRun o.lanes w) where
    pub free_here : (at : Occ) (bit : ℕ) → reserves w at bit ≡ true → is_taken (slice_index w.words) o.lanes at bit ≡ false
    free_here at bit = subst (λ (u : View). ReservesNoRun o.lanes u → reserves u at bit ≡ true → is_taken (slice_index u.words) o.lanes at bit ≡ false) stands.here
        (λ none. free_by_words o (memory_of w) stands.views stands.log stands.decided 0 stands.goes.world stands.goes.in_lanes (λ i. ap (λ (u : View). slice_index u.words i) (sym stands.here)) none at bit) no_run

    there : (at : Occ) → IsOcc w.lanes w.zones at → IsOcc o.lanes o.zones at
    there at of = subst (λ n. IsOcc n o.zones at) fits.lane.lanes (subst (λ n. IsOcc w.lanes n at) fits.lane.zones of)

    pub knows_at_work : KnowsTaken w
    knows_at_work = record {
      pages = let pages = stands.pages in let lanes = fits.lane.lanes in let zones = fits.lane.zones in let size = stands.goes.world.sound.size in let long = fits.lane.size in omega (arith, pages, lanes, zones, size, long);
      zone_count = stands.zone_count;
      bits = λ at bit of low. subst (λ n. (bit_at (occ_in w at) bit ≡ 1) ↔ ((is_taken (slice_index w.words) n at bit ≡ true) ⊎ (has_taken w at bit ≡ true))) (sym fits.lane.lanes)
          (known_alone o header pool v w steps at bit works (there at of) low);
      apart = λ at bit of low kept. ap (λ n. is_taken (slice_index w.words) n at bit) fits.lane.lanes ∙ ⊎_elim (λ (reserved : reserves w at bit ≡ true). free_here at bit reserved)
          (λ (freed : list_any (has_bit at bit) w.freed ≡ true). absurd (false≢true (sym (ap (list_any (has_bit at bit)) none_freed) ∙ freed))) kept;
      once = λ at bit of low reserved. ap (list_any (has_bit at bit)) none_freed;
    }
