-- STEPS THAT CHANGE A LANE'S CLAIMS, and of the memory one lock word at most: what they owe beside the bits.
use Rattle.std.specs.Prelude.{List}
use Rattle.std.specs.List.{list_any}
use Rattle.std.proofs.Common.{◌≡◌, ◌≢◌, ℕ, suc, ◌+◌, ◌*◌, ◌^◌, ◌<◌, inl, inr, ⊎_elim, true, false, ◌==◌, refl, sym, ap, ◌∙◌, subst, arith, Some}
use Rattle.std.proofs.lemmas.Bool.{cases_eq, both_ways}
use Rattle.pm_layout.specs.Areas.{greatest_generation, word_of_generation, word_of_seal, word_of_entry, line_of_slot}
use Rattle.pm_view.specs.Counts.{IsAtStop}
use Rattle.pm_view.specs.Places.{Place, Block, block_of, is_data}
use Rattle.pm_view.specs.Log.{is_early}
use Rattle.pm_view.specs.Claims.{Claim, making, pictured}
use Rattle.pm_view.specs.Steps.{Step}
use Rattle.pm_view.specs.View.{View, Seen}
use Rattle.pm_world.specs.States.{Cells, given}
use Rattle.pm_world.specs.Sights.{is_recorded, picture, sight_of}
use Rattle.pm_world.specs.Lanes.{owns, is_decided, Bits}
use Rattle.pm_world.specs.Logs.{PhaseFits}
use Rattle.pm_world.specs.Memory.{Memory, PoolWord, LockWord, RunWord, ZoneWord, ZoneLock, CommitCounter, StopWord, occ_at, IsSameBut, cells_by, cells_of}
use Rattle.pm_world.specs.World.{Opening, Views, Past, origin, ghost_of, settled_words, AloneFits, RecordedFits, LaneFits, may_draw, may_draw_count, World}
use Rattle.pm_world.specs.Laws.{Turn}
use Rattle.pm_world.proofs.OccWorlds.{early_phase}
use Rattle.pm_world.proofs.Basics.{early_undecided}
use Rattle.pm_world.proofs.Cells.{other_sort, occ_sort}
use Rattle.pm_world.proofs.Counting.{count_same}
use Rattle.pm_world.proofs.Frame.{Around}
use Rattle.pm_world.proofs.Worlds.{world_after, log_again, log_moved}

-- A LANE'S FACTS beside its sight, where the words of the pool stay, and of its view its claims and what it saw of zones and occupancy words may change
pub lane_again : (o : Opening) (mem new : Memory) (g : Past) (k : ℕ) (v : View) → LaneFits o mem g k v → ((w : ℕ) → new (PoolWord w) ≡ mem (PoolWord w)) → (claims' : List Claim) (seen' : List Step) (zones' : List ℕ) (occupancy' : List Seen)
    → PhaseFits o.shape k (picture v.fixed.shape claims') v.log v.changes v.log.phase
    → ((p : Place) (b : ℕ) → is_recorded v.log.records p ≡ true → owns g.geo (settled_words o g) (sight_of v).hold p b ≡ true → owns g.geo (settled_words o g) (sight_of (record v { claims = claims' })).hold p b ≡ true)
    → (is_decided v.log.phase ≡ true → (c : ℕ) → making v.fixed.shape claims' c ≡ false)
    → (is_decided v.log.phase ≡ false → (p : Place) → is_recorded v.log.records p ≡ true → RecordedFits g.geo (sight_of (record v { claims = claims' })) p)
    → ((z : ℕ) → (new (ZoneLock z) == suc k) ≡ list_any (λ other. other == z) zones') → (o.lanes ≡ 1 → AloneFits new (record v { claims = claims'; seen = seen'; zones = zones'; occupancy = occupancy' }))
    → LaneFits o new g k (record v { claims = claims'; seen = seen'; zones = zones'; occupancy = occupancy' })
lane_again o mem new g k v f pools claims' seen' zones' occupancy' phase owned made recorded zones alone = let q = f.log in record {
  lane = f.lane;
  shape = f.shape;
  lanes = f.lanes;
  log = log_again v.log.phase (log_moved o.shape k (λ u. mem (PoolWord u)) (λ u. new (PoolWord u)) pools q) f.log.bump (((log_moved o.shape k (λ u. mem (PoolWord u)) (λ u. new (PoolWord u)) pools q)).sealed) (λ p y e b. let z = q.olds p y e b in (owned p b (ap given e) z.0, z.1))
      q.slot_changes
      q.area_changes
      phase;
  made = made;
  recorded = recorded;
  number = f.number;
  zones = zones;
  masks = f.masks;
  room = f.room;
  within = f.within;
  alone = alone;
  entries = f.entries;
}

module _ (o : Opening) (mem new : Memory) (views views' : Views) (g : Past) (x : World o mem views g) (k : ℕ) (ink : k < o.lanes) (l : ℕ) (same : IsSameBut (LockWord l) mem new)
    (claims' : List Claim) (seen' : List Step) (t : Turn views views' k (record (views k) { claims = claims'; seen = seen' })) where
  -- the view after the step
  abbrev pub claimed_view : View
  claimed_view = record (views k) { claims = claims'; seen = seen' }

  abbrev pub relocked_cells : Cells
  relocked_cells = record (cells_of o.shape mem) { writer = (cells_of o.shape new).writer; reader = (cells_of o.shape new).reader }

  pub pool_word : (w : ℕ) → new (PoolWord w) ≡ mem (PoolWord w)
  pool_word w = same (PoolWord w) (other_sort (PoolWord w) (LockWord l) (λ q. omega arith))

  pub cells_relocked : cells_of o.shape new ≡ relocked_cells
  cells_relocked = λ i. cells_by o.shape (λ w. pool_word w i) (λ m. new (LockWord m)) (λ c. same (RunWord c) (other_sort (RunWord c) (LockWord l) (λ q. omega arith)) i) (λ z. same (ZoneWord z) (other_sort (ZoneWord z) (LockWord l) (λ q. omega arith)) i)
      (λ z. same (ZoneLock z) (other_sort (ZoneLock z) (LockWord l) (λ q. omega arith)) i) (same CommitCounter (other_sort CommitCounter (LockWord l) (λ q. omega arith)) i) (same StopWord (other_sort StopWord (LockWord l) (λ q. omega arith)) i)

  zone_lock : (z : ℕ) → new (ZoneLock z) ≡ mem (ZoneLock z)
  zone_lock z = same (ZoneLock z) (other_sort (ZoneLock z) (LockWord l) (λ q. omega arith))

  lane_after : is_early (views k).log.phase ≡ true
      → ((p : Place) (b : ℕ) → is_recorded (views k).log.records p ≡ true → owns g.geo (settled_words o g) (sight_of (views k)).hold p b ≡ true → owns g.geo (settled_words o g) (sight_of claimed_view).hold p b ≡ true)
      → ((p : Place) → is_recorded (views k).log.records p ≡ true → (B : Block) → (sight_of (views k)).hold.here B ≡ true → (sight_of claimed_view).hold.here B ≡ true)
      → ((p : Place) (b : ℕ) → is_recorded (views k).log.records p ≡ true → is_data p ≡ true → given ((sight_of (views k)).picture p b) ≡ true → given ((sight_of claimed_view).picture p b) ≡ true)
      → (o.lanes ≡ 1 → (w y : ℕ) → pictured (views k).fixed.shape claims' w ≡ Some y → mem (PoolWord w) ≡ y) → LaneFits o new g k claimed_view
  lane_after early owned heres seen known = let f = x.each_lane k ink in lane_again o mem new g k (views k) f pool_word claims' seen' (views k).zones (views k).occupancy
      (early_phase o.shape k (sight_of (views k)).picture (sight_of claimed_view).picture (views k).log (views k).changes (views k).log.phase early f.log.phase) owned (λ t. absurd (both_ways (is_decided (views k).log.phase) (early_undecided (views k).log.phase early).0 t))
      (λ u p q. let y = f.recorded u p q in (y.0, λ b. let z = y.1 b in (heres p q (block_of g.geo p b) z.0, seen p b q y.0 z.1))) (λ z. ap (λ n. n == suc k) (zone_lock z) ∙ f.zones z)
      (λ one. record { words = λ w y e. pool_word w ∙ known one w y e; occupancy = λ at y e. let z = (f.alone one).occupancy at y e in (same (occ_at at) (occ_sort at (LockWord l) (λ q. omega arith) (λ q. omega arith)) ∙ z.0, z.1) })

  pub claims_step : is_early (views k).log.phase ≡ true
      → ((p : Place) (b : ℕ) → is_recorded (views k).log.records p ≡ true → owns g.geo (settled_words o g) (sight_of (views k)).hold p b ≡ true → owns g.geo (settled_words o g) (sight_of claimed_view).hold p b ≡ true)
      → ((p : Place) → is_recorded (views k).log.records p ≡ true → (B : Block) → (sight_of (views k)).hold.here B ≡ true → (sight_of claimed_view).hold.here B ≡ true)
      → ((p : Place) (b : ℕ) → is_recorded (views k).log.records p ≡ true → is_data p ≡ true → given ((sight_of (views k)).picture p b) ≡ true → given ((sight_of claimed_view).picture p b) ≡ true)
      → (o.lanes ≡ 1 → (w y : ℕ) → pictured (views k).fixed.shape claims' w ≡ Some y → mem (PoolWord w) ≡ y)
      → ((m j : ℕ) → j ≢ k → (cells_of o.shape new).writer m j ≡ (cells_of o.shape mem).writer m j) → ((m j : ℕ) → j ≢ k → (cells_of o.shape new).reader m j ≡ (cells_of o.shape mem).reader m j)
      → may_draw claimed_view ≡ may_draw (views k) → Bits o.shape o.lanes (origin o) relocked_cells (λ j. sight_of (views' j)) (ghost_of g) → World o new views' g
  claims_step early owned heres seen known writers readers draws bits = world_after o mem views g x k ink new views' g (settled_words o g) claimed_view refl
      (subst (λ c. Around k (sight_of (views k)).hold (λ j. (sight_of (views j)).hold) (cells_of o.shape mem) c (settled_words o g) (settled_words o g) (ghost_of g) (ghost_of g)) (sym cells_relocked)
      record { writer = writers; reader = readers; pool = λ p b u w. refl; set = λ p b u. refl; descr = λ c u. refl; up = λ c n e. e; runs = λ c u. refl; holder = λ B j ne e. e; holder_back = λ B j ne e. e; class = λ c u. refl; first = λ c j ne. inl refl; flies = λ j n d ne w y. y })
      record {
        generation = λ j ne. pool_word (word_of_generation o.shape j);
        seal = λ j ne. pool_word (word_of_seal o.shape j);
        entry = λ j i h ne. pool_word (word_of_entry o.shape j i + h);
        slot = λ j m i ne. pool_word (8 * line_of_slot o.shape j m + i);
        zone = λ z j ne. ap (λ n. n == suc j) (zone_lock z);
        entries = λ j ne. refl;
      }
      t (subst (λ c. Bits o.shape o.lanes (origin o) c (λ j. sight_of (views' j)) (ghost_of g)) (sym cells_relocked) bits) (lane_after early owned heres seen known) x.of_lanes
      (λ w. subst (λ n. n < 2 ^ 64) (sym (pool_word w)) (x.small w)) (λ w e. pool_word w ∙ x.header w e)
      (subst (λ n. n < greatest_generation o.shape + 32) (sym (ap (λ n. n + may_draw_count views' o.lanes) counter ∙ ap (λ n. mem CommitCounter + n) (count_same views views' k claimed_view t draws o.lanes))) x.counter_room)
      (⊎_elim (λ (e : mem StopWord ≡ 0). inl (stop_word ∙ e)) (λ (e : (j : ℕ) × (j < o.lanes) × IsAtStop (views j)). inr (e.0, e.1, still e.0 e.2)) x.stop_word)
    where
      counter : new CommitCounter ≡ mem CommitCounter
      counter = same CommitCounter (other_sort CommitCounter (LockWord l) (λ q. omega arith))

      stop_word : new StopWord ≡ mem StopWord
      stop_word = same StopWord (other_sort StopWord (LockWord l) (λ q. omega arith))

      still : (j : ℕ) → IsAtStop (views j) → IsAtStop (views' j)
      still j e = ⊎_elim (λ (q : j ≡ k). subst (λ i. IsAtStop (views' i)) (sym q) (subst IsAtStop (sym t.here) (subst (λ i. IsAtStop (views i)) q e))) (λ (ne : j ≢ k). subst IsAtStop (sym (t.else_ j ne)) e) (cases_eq j k)
