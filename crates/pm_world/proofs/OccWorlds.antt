-- A change of one occupancy word keeps the world: what its lane owes beside the bits.
use Rattle.std.specs.Prelude.{List}
use Rattle.std.proofs.Common.{◌≡◌, ◌≢◌, ℕ, suc, ◌+◌, ◌*◌, ◌^◌, ◌<◌, inl, inr, ⊎_elim, true, false, ◌==◌, refl, sym, ap, ◌∙◌, subst, arith, Some}
use Rattle.std.proofs.lemmas.Bool.{both_ways}
use Rattle.pm_layout.specs.declared.shape.Shape.{Shape}
use Rattle.pm_layout.specs.Areas.{greatest_generation, word_of_generation, word_of_seal, word_of_entry, line_of_slot}
use Rattle.pm_view.specs.declared.occ.Occ.{Occ}
use Rattle.pm_view.specs.Places.{Place, InRun, InHuge, Descr, RootWord, Block, Geometry, block_of, is_data}
use Rattle.pm_view.specs.Changes.{Undrained}
use Rattle.pm_view.specs.Claims.{Claim, pictured}
use Rattle.pm_view.specs.Counts.{IsAtStop}
use Rattle.pm_view.specs.Log.{Phase, Idle, Open, Drawn, Sealing, Applying, Clearing, Retiring, Voiding, Log, is_early}
use Rattle.pm_view.specs.Steps.{Step}
use Rattle.pm_view.specs.View.{View, Seen}
use Rattle.pm_view.specs.Views.{occupancy_of}
use Rattle.pm_world.specs.States.{State, Diff, given, Cells}
use Rattle.pm_world.specs.Sights.{Hold, sight_of}
use Rattle.pm_world.specs.Lanes.{owns, is_decided, in_flight, Bits}
use Rattle.pm_world.specs.Logs.{PhaseFits}
use Rattle.pm_world.specs.Memory.{Location, PoolWord, ZoneLock, CommitCounter, StopWord, Memory, Becomes, occ_at, cells_of}
use Rattle.pm_world.specs.World.{Opening, Views, Past, origin, ghost_of, settled_words, is_at_page, may_draw, may_draw_count, World}
use Rattle.pm_world.specs.Laws.{Turn}
use Rattle.pm_world.proofs.Basics.{early_undecided, early_cases}
use Rattle.pm_world.proofs.Cells.{sort, occ_sort}
use Rattle.pm_world.proofs.Counting.{count_same}
use Rattle.pm_world.proofs.Frame.{Around, here_own}
use Rattle.pm_world.proofs.Worlds.{world_after, stops_stay, log_again, log_moved}

-- before its number is drawn the log says nothing of what the lane has a picture of
pub early_phase : (sh : Shape) (lane : ℕ) (d d' : Diff) (l : Log) (changes : List Undrained) (ph : Phase) → is_early ph ≡ true → PhaseFits sh lane d l changes ph → PhaseFits sh lane d' l changes ph
early_phase sh lane d d' l changes = early_cases (λ ph. PhaseFits sh lane d l changes ph → PhaseFits sh lane d' l changes ph) (λ f. f) (λ f. f)

-- data of a block that is found under its write lock is the lane's to change
pub data_owned : (h : Hold) (G : Geometry) (S : State) (p : Place) (c : ℕ) → is_data p ≡ true → h.here (block_of G p c) ≡ true → owns G S h p c ≡ true
data_owned h G S (InRun d u) c e t = here_own h (block_of G (InRun d u) c) t
data_owned h G S (InHuge d u) c e t = here_own h (block_of G (InHuge d u) c) t
data_owned h G S (Descr d) c e t = absurd (both_ways false refl e)
data_owned h G S RootWord c e t = absurd (both_ways false refl e)

module _ (o : Opening) (mem new : Memory) (views views' : Views) (g : Past) (x : World o mem views g) (k : ℕ) (ink : k < o.lanes) (at : Occ) (y : ℕ) (b : Becomes (occ_at at) y mem new)
    (claims : List Claim) (occupancy : List Seen) (seen : List Step) (geo : Geometry) (holder : Block → ℕ) where
  abbrev v' : View
  v' = record (views k) { claims = claims; occupancy = occupancy; seen = seen }

  abbrev g' : Past
  g' = record g { geo = geo; holder = holder }

  elsewhere : (l : Location) → sort l ≢ 2 → sort l ≢ 3 → new l ≡ mem l
  elsewhere l p q = b.0 l (λ e. occ_sort at l p q (sym e))

  word : (w : ℕ) → new (PoolWord w) ≡ mem (PoolWord w)
  word w = elsewhere (PoolWord w) (λ e. omega arith) (λ e. omega arith)

  lock : (z : ℕ) → new (ZoneLock z) ≡ mem (ZoneLock z)
  lock z = elsewhere (ZoneLock z) (λ e. omega arith) (λ e. omega arith)

  -- what the lane owes: of recorded words, and where it runs alone
  pub record OwesOcc : Type 0 where
    pub early : is_early (views k).log.phase ≡ true
    pub olds : (p : Place) (c : ℕ) → Rattle.pm_world.specs.States.given (Rattle.pm_view.specs.Log.old_of (views k).log.records p) ≡ true → owns g.geo (settled_words o g) (sight_of (views k)).hold p c ≡ true → owns geo (settled_words o g) (sight_of (record (views k) { claims = claims; occupancy = occupancy; seen = seen })).hold p c ≡ true
    pub recorded : (p : Place) (c : ℕ) → is_data p ≡ true → (sight_of (views k)).hold.here (block_of g.geo p c) ≡ true → given ((sight_of (views k)).picture p c) ≡ true
        → ((sight_of (record (views k) { claims = claims; occupancy = occupancy; seen = seen })).hold.here (block_of geo p c) ≡ true) × (given ((sight_of (record (views k) { claims = claims; occupancy = occupancy; seen = seen })).picture p c) ≡ true)
    pub words : (w z : ℕ) → pictured (views k).fixed.shape claims w ≡ Some z → pictured (views k).fixed.shape (views k).claims w ≡ Some z
    pub occs : o.lanes ≡ 1 → (other : Occ) (z : ℕ) → occupancy_of occupancy other ≡ Some z → (new (occ_at other) ≡ z) × (is_at_page other ≡ true)
    pub draws : may_draw (record (views k) { claims = claims; occupancy = occupancy; seen = seen }) ≡ may_draw (views k)

  pub occ_world : OwesOcc → Around k (sight_of (views k)).hold (λ j. (sight_of (views j)).hold) (cells_of o.shape mem) (cells_of o.shape new) (settled_words o g) (settled_words o g) (ghost_of g) (ghost_of (record g { geo = geo; holder = holder }))
      → Bits o.shape o.lanes (origin o) (cells_of o.shape new) (λ j. sight_of (views' j)) (ghost_of (record g { geo = geo; holder = holder })) → Turn views views' k (record (views k) { claims = claims; occupancy = occupancy; seen = seen }) → World o new views' (record g { geo = geo; holder = holder })
  occ_world w a bits t = let f = x.each_lane k ink in let l = f.log in world_after o mem views g x k ink new views' g' (settled_words o g) v' refl a
      record {
        generation = λ j ne. word (word_of_generation o.shape j);
        seal = λ j ne. word (word_of_seal o.shape j);
        entry = λ j i half ne. word (word_of_entry o.shape j i + half);
        slot = λ j m i ne. word (8 * line_of_slot o.shape j m + i);
        zone = λ z j ne. ap (λ m. m == suc j) (lock z);
        entries = λ j ne. refl;
      } t bits record {
        lane = f.lane;
        shape = f.shape;
        lanes = f.lanes;
        log = log_again ((views k).log.phase) (log_moved o.shape k (λ v. mem (PoolWord v)) (λ v. new (PoolWord v)) word l) f.log.bump (((log_moved o.shape k (λ v. mem (PoolWord v)) (λ v. new (PoolWord v)) word l)).sealed) (λ p m q c. let z = l.olds p m q c in (w.olds p c (ap Rattle.pm_world.specs.States.given q) z.0, z.1))
            l.slot_changes
            l.area_changes
            (early_phase o.shape k (sight_of (views k)).picture (sight_of v').picture (views k).log (views k).changes (views k).log.phase w.early l.phase);
        made = λ t. absurd (both_ways (Rattle.pm_world.specs.Lanes.is_decided (views k).log.phase) (early_undecided (views k).log.phase w.early).0 t);
        recorded = λ u p q. let z = f.recorded u p q in (z.0, λ c. let r = z.1 c in w.recorded p c z.0 r.0 r.1);
        number = f.number;
        zones = λ z. ap (λ m. m == suc k) (lock z) ∙ f.zones z;
        masks = f.masks;
        room = f.room;
        within = f.within;
        alone = λ one. record { words = λ v z e. word v ∙ (f.alone one).words v z (w.words v z e); occupancy = w.occs one };
        entries = f.entries;
      }
      x.of_lanes (λ v. subst (λ m. m < 2 ^ 64) (sym (word v)) (x.small v)) (λ v e. word v ∙ x.header v e)
      (subst (λ n. n < greatest_generation o.shape + 32) (sym (ap (λ c. c + may_draw_count views' o.lanes) (elsewhere CommitCounter (λ e. omega arith) (λ e. omega arith)) ∙ ap (λ n. mem CommitCounter + n) (count_same views views' k v' t w.draws o.lanes))) x.counter_room)
      (⊎_elim (λ (e : mem StopWord ≡ 0). inl (elsewhere StopWord (λ q. omega arith) (λ q. omega arith) ∙ e)) (λ (e : (j : ℕ) × (j < o.lanes) × IsAtStop (views j)). inr (e.0, e.1, stops_stay views views' k v' t (λ q. q) e.0 e.2)) x.stop_word)
    where
      slot : (j i : ℕ) → (cells_of o.shape new).slot k j i ≡ (cells_of o.shape mem).slot k j i
      slot j i = word (8 * line_of_slot o.shape k j + i)
