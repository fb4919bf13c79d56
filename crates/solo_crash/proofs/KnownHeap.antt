-- Where a lane works alone, its picture of the occupancy words is what the pool's words and what it has itself say.
use Rattle.std.proofs.Common.{◌≡◌, ◌≢◌, ◌↔◌, ◌⊎◌, inl, inr, ⊎_elim, ℕ, ◌<◌, false, true, List, slice_index, refl, sym, ap, ◌∙◌}
use Rattle.std.specs.Int.{bit_at}
use Rattle.std.proofs.lemmas.Bool.{cases_eq, false≢true}
use Rattle.pm_header.specs.declared.header.Header.{Header}
use Rattle.pm_objects.specs.declared.pool.PoolView.{PoolView}
use Rattle.solo_view.specs.declared.occ.Occ.{Occ}
use Rattle.solo_view.specs.declared.occ.Occ.TheVariants.{Run, Zone}
use Rattle.solo_view.specs.Occupancy.{is_taken}
use Rattle.solo_view.specs.Steps.{Step}
use Rattle.solo_view.specs.View.{View}
use Rattle.solo_view.specs.Views.{occ_in}
use Rattle.solo_world.specs.Heap.{Heap, IsOcc, SomeHasTaken, has_taken, heap_words}
use Rattle.solo_world.specs.Opening.{Opening}
use Rattle.solo_crash.specs.Alone.{WorksAlone, idle_view}
use Rattle.solo_crash.proofs.AloneCourse.{StandsAlone, stands_at}
use Rattle.solo_crash.proofs.AloneMemory.{memory_of, occ_memory}
use Rattle.solo_crash.proofs.SameBlocks.{taken_now}
use Rattle.solo_crash.proofs.SoundPools.{new_runs_seen, telling_word}

-- a lane that makes no step has nothing
idle_has_none : (o : Opening) (j : ℕ) (at : Occ) (bit : ℕ) → has_taken (idle_view o j) at bit ≡ false
idle_has_none o j (Run place) bit = refl
idle_has_none o j (Zone zone) bit = refl

module _ (o : Opening) (header : Header) (pool : PoolView) (w : View) (s : StandsAlone o header pool w) where
  abbrev heap : Heap o (heap_words o (memory_of w)) (memory_of w) s.views
  heap = s.goes.world.heap

  -- the words that tell of blocks now say of what is taken what the lane's words say
  taken_here : (at : Occ) (bit : ℕ) → IsOcc o.lanes o.zones at → bit < 64 → is_taken (heap_words o (memory_of w)) o.lanes at bit ≡ is_taken (slice_index w.words) o.lanes at bit
  taken_here = taken_now o (memory_of w) w.words (λ i. refl) (new_runs_seen o header pool w s) (telling_word o header pool w s)

  -- no other lane has anything
  own_alone : (at : Occ) (bit : ℕ) → SomeHasTaken s.views o.lanes at bit → has_taken w at bit ≡ true
  own_alone at bit (j, inside, has) =
      ⊎_elim (λ (same : j ≡ 0). ap (λ u. has_taken u at bit) (sym s.here) ∙ (ap (λ n. has_taken (s.views n) at bit) (sym same) ∙ has))
      (λ (other : j ≢ 0). absurd (false≢true (sym (idle_has_none o j at bit) ∙ (ap (λ u. has_taken u at bit) (sym (s.others j other)) ∙ has))))
      (cases_eq j 0)

  known : (at : Occ) (bit : ℕ) → IsOcc o.lanes o.zones at → bit < 64 → (bit_at (occ_in w at) bit ≡ 1) ↔ ((is_taken (slice_index w.words) o.lanes at bit ≡ true) ⊎ (has_taken w at bit ≡ true))
  known at bit of low = (
    λ one. ⊎_elim (λ (taken : is_taken (heap_words o (memory_of w)) o.lanes at bit ≡ true). inl (sym (taken_here at bit of low) ∙ taken)) (λ (some : SomeHasTaken s.views o.lanes at bit). inr (own_alone at bit some))
        (heap.set at bit of low (ap (λ x. bit_at x bit) (occ_memory w at) ∙ one)),
    λ is. ap (λ x. bit_at x bit) (sym (occ_memory w at))
        ∙ ⊎_elim (λ (taken : is_taken (slice_index w.words) o.lanes at bit ≡ true). heap.taken at bit of low (taken_here at bit of low ∙ taken))
        (λ (has : has_taken w at bit ≡ true). heap.held 0 at bit s.goes.in_lanes of low (ap (λ u. has_taken u at bit) s.here ∙ has)) is,
  )

pub known_alone : (o : Opening) (header : Header) (pool : PoolView) (v w : View) (steps : List Step) (at : Occ) (bit : ℕ) → WorksAlone o header pool v steps w → IsOcc o.lanes o.zones at → bit < 64
    → (bit_at (occ_in w at) bit ≡ 1) ↔ ((is_taken (slice_index w.words) o.lanes at bit ≡ true) ⊎ (has_taken w at bit ≡ true))
known_alone o header pool v w steps at bit works of low = known o header pool w (stands_at o header pool v steps w works.begins works.leads works.numbered works.within) at bit of low
