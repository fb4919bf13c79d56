-- The call of a lane that is alone, as it begins: the steps of a start lead to the view with the next call, where a generation is left.
use Rattle.std.proofs.Common.{◌≡◌, ℕ, ◌<◌, List, ◌++◌, get_or, slice_index, refl, sym, ap, ◌∙◌, subst, arith}
use Rattle.std.proofs.lemmas.List.{set-get_or}
use Rattle.pm_header.specs.declared.header.Header.{Header}
use Rattle.pm_image.specs.Blocks.{chunk_word, descriptor_word}
use Rattle.pm_layout.specs.declared.shape.Shape.{Shape}
use Rattle.pm_objects.specs.declared.pool.PoolView.{PoolView}
use Rattle.solo_view.specs.Area.{area_word}
use Rattle.solo_view.specs.Founds.{IsAlone}
use Rattle.solo_view.specs.Log.{Phase}
use Rattle.solo_view.specs.Log.Phase.{Idle}
use Rattle.solo_view.specs.Steps.{Step}
use Rattle.solo_view.specs.Steps.Step.{Load, NumberSeen}
use Rattle.solo_view.specs.View.{View}
use Rattle.solo_view.specs.Views.{after, after_all, begun}
use Rattle.solo_world.specs.Lawful.{generation_limit}
use Rattle.solo_world.specs.Opening.{Opening}
use Rattle.solo_world.specs.Records.{generation_of}
use Rattle.solo_world.specs.Sequences.{Ready, by_lane, by_view, in_turn, looks, one}
use Rattle.solo_world.specs.declared.lane.Lane.{Lane}
use Rattle.solo_crash.proofs.AloneCourse.{begins_alone}
use Rattle.solo_crash.proofs.OnTheWay.{alone_on_the_way}
use Rattle.solo_crash.proofs.StillReserved.{HasSameHeads}
use Rattle.solo_crash.specs.Alone.{WorksAlone}
use Rattle.solo_epoch.specs.Reserving.{IsAloneBetween, RestsWithReserved, begins_next, with_next_call}
use Rattle.solo_lock.specs.Begun.{IsBegun}
use Rattle.solo_tx.proofs.BeginPlanned.{started_led}
use Rattle.solo_lock.specs.Leading.{IsLed}
use Rattle.solo_tx.specs.Beginning.{IsBegunBy}
use Rattle.solo_tx.specs.Sequences.{sees_generation, starts}

-- a lane alone sees how many numbers it drew itself
pub starts_next : (v : View) (n : ℕ) → IsAlone v → Ready v (starts n v) → after_all v (starts n v) ≡ with_next_call v
unfolding starts sees_generation by_lane by_view looks in_turn one Ready after_all
starts_next v n alone ready =
    let looked : View = after v (Load (area_word v.lane) (get_or v.words (area_word v.lane) 0)) in
    ap (λ (k : ℕ). after looked (NumberSeen k)) (ready.2.1 alone)

-- as that has begun, the lane has its words, and of the heap what it had
pub record IsAsBefore (v y : View) : Type 0 where
  pub words : y.words ≡ v.words
  pub lanes : y.lanes ≡ v.lanes
  pub zones : y.zones ≡ v.zones
  pub lane : y.lane ≡ v.lane
  pub pool : y.pool ≡ v.pool
  pub reserved : y.reserved ≡ v.reserved
  pub zone_locks : y.zone_locks ≡ v.zone_locks

begun_before : (phase : Phase) (v : View) → IsAsBefore v (begun phase v)
begun_before Idle v = record { words = refl; lanes = refl; zones = refl; lane = refl; pool = refl; reserved = refl; zone_locks = refl }
begun_before phase v = record { words = refl; lanes = refl; zones = refl; lane = refl; pool = refl; reserved = refl; zone_locks = refl }

pub next_before : (v : View) → IsAsBefore v (with_next_call v)
next_before v =
    let looked : View = after v (Load (area_word v.lane) (slice_index v.words (area_word v.lane))) in
    let t : IsAsBefore looked (begun looked.log.phase looked) = begun_before looked.log.phase looked in
    record { words = t.words ∙ set-get_or v.words (area_word v.lane) 0; lanes = t.lanes; zones = t.zones; lane = t.lane; pool = t.pool; reserved = t.reserved; zone_locks = t.zone_locks }

-- what describes chunks is the same too
pub next_heads : (v : View) → HasSameHeads (with_next_call v) v
next_heads v =
    let t = next_before v in
    record {
      lanes = sym t.lanes;
      zones = sym t.zones;
      reserved = sym t.reserved;
      described = λ c in_pool. ap (λ (ws : List ℕ). slice_index ws (descriptor_word (with_next_call v).lanes c)) (sym t.words);
      bitmaps = λ c in_pool run. ap (λ (ws : List ℕ). slice_index ws (chunk_word (with_next_call v).lanes c)) (sym t.words);
      root = ap (λ (ws : List ℕ). slice_index ws 64) (sym t.words);
    }

pub next_generation : (v : View) → generation_of (with_next_call v) ≡ generation_of v
next_generation v = let t = next_before v in λ j. slice_index (t.words j) (area_word (t.lane j))

-- a lane that works alone is of no table
pub works_no_table : (o : Opening) (header : Header) (pool : PoolView) (start v : View) (steps : List Step) → WorksAlone o header pool start steps v → IsAlone v
works_no_table o header pool start v steps works = alone_on_the_way start v steps (begins_alone o header pool start works.begins) works.leads

-- ---- the lane begins its next call where it rested with what it has reserved

module _ {M : Type 0} (at : M → View → Type 0) (mid : Lane M) (v : View) (n : ℕ) (alone : IsAlone v) (started : IsBegunBy at mid v (starts n)) where
  pub has_next_begun : IsBegun at mid (with_next_call v)
  has_next_begun = subst (IsBegun at mid) (starts_next v n alone started.ready) started.begun

  pub next_led : IsLed v (with_next_call v)
  next_led = subst (IsLed v) (starts_next v n alone started.ready) (started_led at mid mid v n started)

  -- it has a generation left
  pub next_below : generation_of v < generation_limit
  next_below = let below = has_next_begun.area.below in let same = next_generation v in omega (arith, below, same)

  pub between_next : (o : Opening) (header : Header) (pool : PoolView) (start : View) (steps : List Step) (shape : Shape) → RestsWithReserved o header pool start steps v shape
      → IsAloneBetween o header pool start (steps ++ begins_next v) (with_next_call v) shape
  between_next o header pool start steps shape rests = rests.next next_below
