-- STEPS THAT CHANGE NO BIT: zones' locks are tried and given back, the stop word is set.
use Rattle.std.specs.Prelude.{List, [], ◌∷◌}
use Rattle.std.specs.List.{filter, list_any}
use Rattle.std.proofs.Common.{◌≡◌, ◌≢◌, ℕ, suc, ◌+◌, ◌*◌, ◌^◌, ◌<◌, ◌⊎◌, inl, inr, ⊎_elim, Bool, true, false, cond, not, ◌||◌, ◌==◌, refl, sym, ap, ◌∙◌, subst, arith, eq-eqb, ne_eqb}
use Rattle.std.proofs.lemmas.Bool.{cases_eq, eqb-true, both_ways}
use Rattle.pm_layout.specs.declared.shape.Shape.{Shape}
use Rattle.pm_layout.specs.Areas.{greatest_generation, word_of_generation, word_of_seal, word_of_entry, line_of_slot}
use Rattle.pm_view.specs.Counts.{IsAtStop}
use Rattle.pm_view.specs.Steps.{Step}
use Rattle.pm_view.specs.Steps.Step.{ZoneTry, ZoneGive, SetStop}
use Rattle.pm_view.specs.View.{View}
use Rattle.pm_world.specs.States.{State, Cells}
use Rattle.pm_world.specs.Sights.{Sight, sight_of}
use Rattle.pm_world.specs.Lanes.{Ghost, Bits}
use Rattle.pm_world.specs.Memory.{Location, Memory, PoolWord, LockWord, RunWord, ZoneWord, ZoneLock, CommitCounter, StopWord, occ_at, IsSame, cells_by, cells_of}
use Rattle.pm_world.specs.World.{Opening, Views, Past, origin, ghost_of, settled_words, LaneFits, may_draw, may_draw_count, World}
use Rattle.pm_world.specs.Laws.{Turn, Keeps}
use Rattle.pm_world.proofs.Cells.{sort, other_sort, other_number, occ_sort}
use Rattle.pm_world.proofs.Counting.{count_same}
use Rattle.pm_world.proofs.Frame.{Around}
use Rattle.pm_world.proofs.StepClaims.{lane_again}
use Rattle.pm_world.proofs.StepPlain.{plain_step}
use Rattle.pm_world.proofs.Worlds.{world_after}

-- the bits say nothing of zones' locks and of the stop word
bits_aside : (sh : Shape) (L : ℕ) (o : State) (cells : Cells) (sights sights' : ℕ → Sight) (g : Ghost) (zone : ℕ → ℕ) (stop : ℕ) → ((j : ℕ) → sights' j ≡ sights j) → Bits sh L o cells sights g → Bits sh L o (record cells { zone = zone; stop = stop }) sights' g
bits_aside sh L o cells sights sights' g zone stop same x = subst (λ s. Bits sh L o (record cells { zone = zone; stop = stop }) s g) (λ i j. sym (same j) i) record {
  each_lane = λ j. let f = x.each_lane j in record { hold = f.hold; bits = f.bits; picture = f.picture; turns = f.turns; call = f.call; reach = f.reach; plain = f.plain; logged = f.logged; stored = f.stored; fresh = f.fresh; sizes = f.sizes; born = f.born; guarded = f.guarded; soiled = f.soiled };
  beyond = x.beyond;
  unowned = x.unowned;
  descr = x.descr;
  occ = x.occ;
  geo = x.geo;
  alone = x.alone;
  counter = x.counter;
  flying = x.flying;
}

module _ (o : Opening) (mem new : Memory) (views views' : Views) (g : Past) (x : World o mem views g) (k : ℕ) (ink : k < o.lanes) (words : (l : Location) → sort l ≢ 4 → sort l ≢ 6 → new l ≡ mem l) (v : View) (t : Turn views views' k v) (sight : sight_of v ≡ sight_of (views k)) where
  abbrev aside_cells : Cells
  aside_cells = record (cells_of o.shape mem) { zone = λ z. new (ZoneLock z); stop = new StopWord }

  pub word_stays : (w : ℕ) → new (PoolWord w) ≡ mem (PoolWord w)
  word_stays w = words (PoolWord w) (λ q. omega arith) (λ q. omega arith)

  counter_stays : new CommitCounter ≡ mem CommitCounter
  counter_stays = words CommitCounter (λ q. omega arith) (λ q. omega arith)

  cells_aside : cells_of o.shape new ≡ aside_cells
  cells_aside = λ i. cells_by o.shape (λ w. word_stays w i) (λ l. words (LockWord l) (λ q. omega arith) (λ q. omega arith) i) (λ c. words (RunWord c) (λ q. omega arith) (λ q. omega arith) i) (λ z. words (ZoneWord z) (λ q. omega arith) (λ q. omega arith) i) (λ z. new (ZoneLock z)) (counter_stays i) (new StopWord)

  sights_same : (j : ℕ) → sight_of (views' j) ≡ sight_of (views j)
  sights_same j = ⊎_elim (λ (q : j ≡ k). ap (λ i. sight_of (views' i)) q ∙ (ap sight_of t.here ∙ (sight ∙ sym (ap (λ i. sight_of (views i)) q)))) (λ (ne : j ≢ k). ap sight_of (t.else_ j ne)) (cases_eq j k)

  pub aside_step : may_draw v ≡ may_draw (views k) → ((z j : ℕ) → j ≢ k → (new (ZoneLock z) == suc j) ≡ (mem (ZoneLock z) == suc j)) → LaneFits o new g k v → ((new StopWord ≡ 0) ⊎ ((j : ℕ) × (j < o.lanes) × IsAtStop (views' j))) → World o new views' g
  aside_step draws zones lane stop = world_after o mem views g x k ink new views' g (settled_words o g) v refl
      (subst (λ c. Around k (sight_of (views k)).hold (λ j. (sight_of (views j)).hold) (cells_of o.shape mem) c (settled_words o g) (settled_words o g) (ghost_of g) (ghost_of g)) (sym cells_aside)
      record { writer = λ l j ne. refl; reader = λ l j ne. refl; pool = λ p b u w. refl; set = λ p b u. refl; descr = λ c u. refl; up = λ c n e. e; runs = λ c u. refl; holder = λ B j ne e. e; holder_back = λ B j ne e. e; class = λ c u. refl; first = λ c j ne. inl refl; flies = λ j n d ne w y. y })
      record {
        generation = λ j ne. word_stays (word_of_generation o.shape j);
        seal = λ j ne. word_stays (word_of_seal o.shape j);
        entry = λ j i h ne. word_stays (word_of_entry o.shape j i + h);
        slot = λ j m i ne. word_stays (8 * line_of_slot o.shape j m + i);
        zone = zones;
        entries = λ j ne. refl;
      }
      t (subst (λ c. Bits o.shape o.lanes (origin o) c (λ j. sight_of (views' j)) (ghost_of g)) (sym cells_aside) (bits_aside o.shape o.lanes (origin o) (cells_of o.shape mem) (λ j. sight_of (views j)) (λ j. sight_of (views' j)) (ghost_of g) (λ z. new (ZoneLock z)) (new StopWord) sights_same x.bits)) lane x.of_lanes
      (λ w. subst (λ n. n < 2 ^ 64) (sym (word_stays w)) (x.small w)) (λ w e. word_stays w ∙ x.header w e)
      (subst (λ n. n < greatest_generation o.shape + 32) (sym (ap (λ n. n + may_draw_count views' o.lanes) counter_stays ∙ ap (λ n. mem CommitCounter + n) (count_same views views' k v t draws o.lanes))) x.counter_room)
      stop

  -- a lane is at its stop number as it was
  pub stop_stays : (IsAtStop (views k) → IsAtStop v) → new StopWord ≡ mem StopWord → (new StopWord ≡ 0) ⊎ ((j : ℕ) × (j < o.lanes) × IsAtStop (views' j))
  stop_stays stops e = ⊎_elim (λ (q : mem StopWord ≡ 0). inl (e ∙ q)) (λ (q : (j : ℕ) × (j < o.lanes) × IsAtStop (views j)). inr (q.0, q.1, still q.0 q.2)) x.stop_word
    where
      still : (j : ℕ) → IsAtStop (views j) → IsAtStop (views' j)
      still j q = ⊎_elim (λ (s : j ≡ k). subst (λ i. IsAtStop (views' i)) (sym s) (subst IsAtStop (sym t.here) (stops (subst (λ i. IsAtStop (views i)) s q)))) (λ (ne : j ≢ k). subst IsAtStop (sym (t.else_ j ne)) q) (cases_eq j k)

-- ---- THE STOP WORD IS SET by a lane at its stop number
pub set_stop : Keeps SetStop
set_stop o mem new views views' g k x ink law moves t = let f = x.each_lane k ink in let same : (l : Location) → sort l ≢ 6 → new l ≡ mem l = λ l ne. moves.0 l (other_sort l StopWord ne) in (
  aside_step o mem new views views' g x k ink (λ l a b. same l b) (views k) t refl refl (λ z j ne. ap (λ n. n == suc j) (same (ZoneLock z) (λ q. omega arith)))
      (lane_again o mem new g k (views k) f (λ w. same (PoolWord w) (λ q. omega arith)) (views k).claims (views k).seen (views k).zones (views k).occupancy f.log.phase (λ p b _ w. w) f.made f.recorded (λ z. ap (λ n. n == suc k) (same (ZoneLock z) (λ q. omega arith)) ∙ f.zones z)
      (λ one. record { words = λ w y e. same (PoolWord w) (λ q. omega arith) ∙ (f.alone one).words w y e; occupancy = λ at y e. (moves.0 (occ_at at) (occ_sort at StopWord (λ q. omega arith) (λ q. omega arith)) ∙ ((f.alone one).occupancy at y e).0, ((f.alone one).occupancy at y e).1) }))
      (inr (k, ink, subst IsAtStop (sym t.here) law.allowed)),
  tt,
)

-- ---- ZONES' LOCKS
module _ (o : Opening) (mem new : Memory) (views views' : Views) (g : Past) (x : World o mem views g) (k : ℕ) (ink : k < o.lanes) (zone y : ℕ) (moves : Rattle.pm_world.specs.Memory.Becomes (ZoneLock zone) y mem new) (seen' : List Step) (zones' : List ℕ)
    (t : Turn views views' k (record (views k) { seen = seen'; zones = zones' })) where
  stays : (l : Location) → sort l ≢ 4 → new l ≡ mem l
  stays l ne = moves.0 l (other_sort l (ZoneLock zone) ne)

  -- zone by zone: the others' locks stay, this one's is the lane's or nobody's
  pub zone_step : may_draw (record (views k) { seen = seen'; zones = zones' }) ≡ may_draw (views k) → ((j : ℕ) → j ≢ k → (y == suc j) ≡ (mem (ZoneLock zone) == suc j)) → (y == suc k) ≡ list_any (λ other. other == zone) zones'
      → ((z : ℕ) → z ≢ zone → list_any (λ other. other == z) zones' ≡ list_any (λ other. other == z) (views k).zones) → World o new views' g
  zone_step draws others here else_ = let f = x.each_lane k ink in aside_step o mem new views views' g x k ink (λ l a b. stays l a) (record (views k) { seen = seen'; zones = zones' }) t refl draws
      (λ z j ne. ⊎_elim (λ (q : z ≡ zone). subst (λ i. (new (ZoneLock i) == suc j) ≡ (mem (ZoneLock i) == suc j)) (sym q) (ap (λ n. n == suc j) moves.1 ∙ others j ne)) (λ (n : z ≢ zone). ap (λ n. n == suc j) (moves.0 (ZoneLock z) (other_number (ZoneLock z) (ZoneLock zone) n))) (cases_eq z zone))
      (lane_again o mem new g k (views k) f (λ w. stays (PoolWord w) (λ q. omega arith)) (views k).claims seen' zones' (views k).occupancy f.log.phase (λ p b _ w. w) f.made f.recorded
      (λ z. ⊎_elim (λ (q : z ≡ zone). subst (λ i. (new (ZoneLock i) == suc k) ≡ list_any (λ other. other == i) zones') (sym q) (ap (λ n. n == suc k) moves.1 ∙ here))
      (λ (n : z ≢ zone). ap (λ n. n == suc k) (moves.0 (ZoneLock z) (other_number (ZoneLock z) (ZoneLock zone) n)) ∙ (f.zones z ∙ sym (else_ z n))) (cases_eq z zone))
      (λ one. record { words = λ w y e. stays (PoolWord w) (λ q. omega arith) ∙ (f.alone one).words w y e; occupancy = λ at y e. (moves.0 (occ_at at) (occ_sort at (ZoneLock zone) (λ q. omega arith) (λ q. omega arith)) ∙ ((f.alone one).occupancy at y e).0, ((f.alone one).occupancy at y e).1) }))
      (stop_stays o mem new views views' g x k ink (λ l a b. stays l a) (record (views k) { seen = seen'; zones = zones' }) t refl (λ e. e) (stays StopWord (λ q. omega arith)))

-- a list of zones without one of them
without_here : (zone : ℕ) (zones : List ℕ) → list_any (λ other. other == zone) (filter (λ other. not (other == zone)) zones) ≡ false
without_here zone [] = refl
without_here zone (z ∷ zones) = go (z == zone) refl (without_here zone zones)
  where
    go : (b : Bool) → (z == zone) ≡ b → list_any (λ other. other == zone) (filter (λ other. not (other == zone)) zones) ≡ false → list_any (λ other. other == zone) (cond (not b) (z ∷ filter (λ other. not (other == zone)) zones) (filter (λ other. not (other == zone)) zones)) ≡ false
    go true e r = r
    go false e r = ap (λ q. q || list_any (λ other. other == zone) (filter (λ other. not (other == zone)) zones)) e ∙ r

without_else : (zone m : ℕ) → m ≢ zone → (zones : List ℕ) → list_any (λ other. other == m) (filter (λ other. not (other == zone)) zones) ≡ list_any (λ other. other == m) zones
without_else zone m ne [] = refl
without_else zone m ne (z ∷ zones) = go (z == zone) refl (without_else zone m ne zones)
  where
    go : (b : Bool) → (z == zone) ≡ b → list_any (λ other. other == m) (filter (λ other. not (other == zone)) zones) ≡ list_any (λ other. other == m) zones
        → list_any (λ other. other == m) (cond (not b) (z ∷ filter (λ other. not (other == zone)) zones) (filter (λ other. not (other == zone)) zones)) ≡ ((z == m) || list_any (λ other. other == m) zones)
    go true e r = r ∙ sym (ap (λ q. q || list_any (λ other. other == m) zones) (ne_eqb z m (λ q. ne (sym q ∙ eqb-true z zone e))))
    go false e r = ap (λ q. (z == m) || q) r

pub zone_tried : (zone : ℕ) (won : Bool) → Keeps (ZoneTry zone won)
zone_tried zone true o mem new views views' g k x ink law moves t = let f = x.each_lane k ink in (
  zone_step o mem new views views' g x k ink zone (k + 1) moves.0 (ZoneTry zone true ∷ (views k).seen) (zone ∷ (views k).zones) t refl
      (λ j ne. ne_eqb (k + 1) (suc j) (λ q. ne (omega arith)) ∙ (sym (ne_eqb 0 (suc j) (λ q. absurd (omega arith))) ∙ sym (ap (λ n. n == suc j) moves.1)))
      (eq-eqb (k + 1) (suc k) (omega arith) ∙ sym (ap (λ q. q || list_any (λ other. other == zone) (views k).zones) (eq-eqb zone zone refl)))
      (λ z ne. ap (λ q. q || list_any (λ other. other == z) (views k).zones) (ne_eqb zone z (λ q. ne (sym q)))),
  λ _. refl,
)
zone_tried zone false o mem new views views' g k x ink law moves t = let f = x.each_lane k ink in (
  plain_step o mem new views views' g x k ink moves.0 (record (views k) { seen = ZoneTry zone false ∷ (views k).seen }) t refl refl (λ e. e) (Rattle.pm_world.proofs.StepPlain.lane_told o mem g k (views k) (ZoneTry zone false ∷ (views k).seen) (views k).call (views k).actions (views k).published f),
  λ one. absurd (taken (sym f.lanes ∙ eqb-true (views k).fixed.lanes 1 one)),
)
  where
    taken : o.lanes ≡ 1 → ⊥
    taken one = let f = x.each_lane k ink in let l = x.zone_locks zone in let ne = moves.1 in both_ways (mem (ZoneLock zone) == suc k) (f.zones zone ∙ law.allowed.free) (eq-eqb (mem (ZoneLock zone)) (suc k) (omega arith))

pub zone_given : (zone : ℕ) → Keeps (ZoneGive zone)
zone_given zone o mem new views views' g k x ink law moves t = let f = x.each_lane k ink in (
  zone_step o mem new views views' g x k ink zone 0 moves (views k).seen (filter (λ other. not (other == zone)) (views k).zones) t refl
      (λ j ne. ne_eqb 0 (suc j) (λ q. absurd (omega arith)) ∙ sym (ap (λ n. n == suc j) (eqb-true (mem (ZoneLock zone)) (suc k) (f.zones zone ∙ law.allowed.held)) ∙ ne_eqb (suc k) (suc j) (λ q. ne (omega arith))))
      (ne_eqb 0 (suc k) (λ q. absurd (omega arith)) ∙ sym (without_here zone (views k).zones)) (λ z ne. without_else zone z ne (views k).zones),
  tt,
)
