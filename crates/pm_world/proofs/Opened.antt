-- A world opens, where the geometry of its huge blocks and runs fits its words.
use Rattle.pm_world.proofs.Basics.{and_false}
use Rattle.std.specs.Prelude.{[], slice_index}
use Rattle.std.proofs.Common.{◌≡◌, ℕ, zero, suc, ◌+◌, ◌*◌, ◌/◌, ◌^◌, ◌<◌, ◌≤◌, inl, ⊎_elim, nat_lt, Bool, true, false, cond, not, ◌==◌, ◌&&◌, ◌||◌, refl, sym, ap, ◌∙◌, subst, arith, ne_eqb, Option, None}
use Rattle.std.proofs.lemmas.Bool.{both_ways, and_parts, or_right}
use Rattle.std.proofs.lemmas.Nat.Bits.{bit_at-zero}
use Rattle.pm_layout.specs.Areas.{word_of_generation, word_of_seal, line_of_slot}
use Rattle.pm_layout.specs.Chunks.{word_of_descriptor}
use Rattle.pm_record.specs.Undo.{undo_of}
use Rattle.pm_view.specs.Claims.{is_run}
use Rattle.pm_view.specs.Entries.{latest, turn}
use Rattle.pm_view.specs.Places.{Place, InRun, InHuge, Descr, RootWord, Block, Small, Big, Root, block_of, is_data, is_place}
use Rattle.pm_view.specs.View.{Constants, idle}
use Rattle.pm_world.specs.States.{State, given, diff, live, read, shown}
use Rattle.pm_world.specs.Sights.{Hold, is_use, hold_of, picture, sight_of}
use Rattle.pm_world.specs.Lanes.{own, owns, sees, Flies, SightFits, GeoFits, Bits, is_occupancy, is_taken}
use Rattle.pm_world.specs.Logs.{slot_list}
use Rattle.pm_world.specs.Memory.{Memory, PoolWord, LockWord, bit, run_told, bits_of, cells_of}
use Rattle.pm_world.specs.Opens.{IsOpening, idle_views, descriptor}
use Rattle.pm_world.specs.World.{Opening, Views, Past, origin, ghost_of, was_run, AreaFits, may_draw_count, World}

-- the ghosts of a world that opens: no call, the runs that descriptors tell, each of its class, and nothing held; the first chunks of huge blocks are given
abbrev pub opened : Opening → Views → (ℕ → ℕ) → Past
opened o views first = record {
  drew = views;
  length = 0;
  decided = λ n. false;
  runs = λ c. is_place o.shape (Descr c) && is_run (descriptor o c);
  geo = record { first = first; class = λ c. descriptor o c / 256 };
  holder = λ B. 0;
}

module _ (o : Opening) (mem : Memory) (fixed : ℕ → Constants) (generation : ℕ → ℕ) (first : ℕ → ℕ) (x : IsOpening o mem fixed generation) where
  abbrev views : Views
  views = idle_views fixed generation

  abbrev g : Past
  g = opened o (idle_views fixed generation) first

  abbrev S : State
  S = origin o

  -- a lane of which nothing was asked owns no bit, and sees none
  owns_none : (k : ℕ) (p : Place) (b : ℕ) → owns g.geo (origin o) (sight_of (idle (fixed k) (generation k))).hold p b ≡ false
  owns_none k (InRun c w) b = refl
  owns_none k (InHuge c w) b = refl
  owns_none k (Descr c) b = refl
  owns_none k RootWord b = refl

  sees_none : (k : ℕ) (p : Place) (b : ℕ) → sees g.geo (origin o) (sight_of (idle (fixed k) (generation k))).hold p b ≡ false
  sees_none k (InRun c w) b = refl
  sees_none k (InHuge c w) b = refl
  sees_none k (Descr c) b = refl
  sees_none k RootWord b = refl

  no_turn : (B : Block) → turn (latest []) B ≡ None
  no_turn (Small c i) = refl
  no_turn (Big c) = refl
  no_turn Root = refl

  owns_not : (B : Block) (k : ℕ) → own (sight_of (idle (fixed k) (generation k))).hold B ≡ false
  owns_not (Small c i) k = refl
  owns_not (Big c) k = refl
  owns_not Root k = refl

  unmade : (k : ℕ) (p : Place) (b : ℕ) → given (diff (sight_of (idle (fixed k) (generation k))).call p b) ≡ false
  unmade k p b = go (is_data p) (turn (latest []) (block_of (Rattle.pm_view.specs.Claims.geometry (fixed k).shape []) p b)) (picture (fixed k).shape [] p b) (no_turn (block_of (Rattle.pm_view.specs.Claims.geometry (fixed k).shape []) p b))
    where
      go : (d : Bool) (t : Option Bool) (y : Option Bool) → t ≡ None → given (cond (d && (Rattle.pm_world.specs.Sights.is_made t || false)) y None) ≡ false
      go d t y e = ap (λ s. given (cond (d && (Rattle.pm_world.specs.Sights.is_made s || false)) y None)) e ∙ ap (λ s. given (cond s y None)) (and_false d)

  clear_lock : (l i : ℕ) → bit (mem (LockWord l)) i ≡ false
  clear_lock l i = ap (λ y. bit y i) (x.start.locks l) ∙ ap (λ y. y == 1) (bit_at-zero i)

  no : {A : Type 0} → false ≡ true → A
  no e = absurd (both_ways false refl e)

  sight : (k : ℕ) → SightFits o.shape (cells_of o.shape mem) (origin o) (Flies (ghost_of g) k) (ghost_of g) k (sight_of (idle (fixed k) (generation k)))
  sight k = record {
    hold = record {
      locks = λ l. clear_lock l (32 + k);
      reading = λ l. ap (λ y. nat_lt k 32 && y) (clear_lock l k) ∙ and_false (nat_lt k 32);
      found = λ B e. no e;
      here = λ B e. no e;
      found_here = λ B e l. no e;
      mine = λ B e. no e;
      holds = λ B e. absurd (omega arith);
      class = λ c i e. no e;
      span = λ f e. no e;
      first = λ c e. no e;
      zone = λ f e. no e;
      making = λ c e. no e;
      free = λ c e. no e;
      seen = λ c n e. absurd (omega arith);
    };
    bits = λ p b t. absurd (both_ways (owns g.geo (origin o) (sight_of (idle (fixed k) (generation k))).hold p b) (owns_none k p b) t);
    picture = λ p b t. absurd (both_ways (sees g.geo (origin o) (sight_of (idle (fixed k) (generation k))).hold p b) (sees_none k p b) t);
    turns = no_turn;
    call = record { flight = tt; todo = λ p b y e. no (ap given e); descr = λ f b. unmade k (Descr f) b };
    reach = λ p b t. absurd (both_ways (given (diff (sight_of (idle (fixed k) (generation k))).call p b)) (unmade k p b) t);
    plain = λ p b t. absurd (both_ways (given (diff (sight_of (idle (fixed k) (generation k))).call p b)) (unmade k p b) t);
    logged = λ p b d t. no t;
    stored = λ p b d t. no t;
    fresh = λ p b y e. absurd (both_ways (given (diff (sight_of (idle (fixed k) (generation k))).call p b)) (unmade k p b) (ap given e));
    sizes = λ p b e. (refl, λ t. absurd (both_ways (given (diff (sight_of (idle (fixed k) (generation k))).call p b)) (unmade k p b) t));
    born = λ e. no e;
    guarded = λ e. no e;
    soiled = λ p b t. absurd (both_ways (is_use (hold_of (fixed k).shape []) p && false) (and_false (is_use (hold_of (fixed k).shape []) p)) t);
  }

  -- ---- the bits at places
  same_word : (w : ℕ) → bit (mem (PoolWord w)) ≡ bit (slice_index o.words w)
  same_word w = ap bit (x.start.words w)

  pool_is : (p : Place) (b : ℕ) → (cells_of o.shape mem).pool p b ≡ bits_of o.shape (slice_index o.words) p b
  pool_is p b = ap (λ f. bits_of o.shape f p b) (λ i w. x.start.words w i)

  both_true : (a : Bool) (y : Bool) → a ≡ true → y ≡ (a && y)
  both_true a y e = sym (ap (λ t. t && y) e)

  unowned : (p : Place) (b : ℕ) → live (origin o) g.geo g.runs p ≡ true → read (cells_of o.shape mem).pool p b ≡ origin o p b
  unowned (InRun c w) b l = pool_is (InRun c w) b ∙ both_true (not (w == 0) || was_run o c) (bits_of o.shape (slice_index o.words) (InRun c w) b)
      (or_right (not (w == 0)) (was_run o c) (and_parts (is_place o.shape (Descr c)) (is_run (descriptor o c)) (and_parts (g.runs c) (shown (origin o) (g.geo.class c) c w) l).0).1)
  unowned (InHuge c w) b l = pool_is (InRun c w) b
  unowned (Descr c) b l = pool_is (Descr c) b
  unowned RootWord b l = pool_is RootWord b

  descr_is : (c : ℕ) → (cells_of o.shape mem).descr c ≡ cond (g.runs c) (g.geo.class c) 0
  descr_is c = ap (λ y. cond (is_place o.shape (Descr c)) (run_told y) 0) (x.start.words (word_of_descriptor o.shape c)) ∙ go (is_place o.shape (Descr c)) (is_run (descriptor o c))
    where
      go : (a t : Bool) → cond a (cond t (descriptor o c / 256) 0) 0 ≡ cond (a && t) (descriptor o c / 256) 0
      go true t = refl
      go false t = refl

  -- what is given of the geometry, and of the occupancy words
  module _ (geo : GeoFits o.shape (origin o) (ghost_of (opened o (idle_views fixed generation) first))) (occ : (a : Block) → is_occupancy o.shape a ≡ true → (cells_of o.shape mem).occ a ≡ is_taken (origin o) (ghost_of (opened o (idle_views fixed generation) first)) a) where
    bits : Bits o.shape o.lanes (origin o) (cells_of o.shape mem) (λ k. sight_of (idle (fixed k) (generation k))) (ghost_of (opened o (idle_views fixed generation) first))
    bits = record {
      each_lane = sight;
      beyond = λ k l B. (owns_not B k, λ i. refl);
      unowned = λ p b u l. unowned p b l;
      descr = λ c u. descr_is c;
      occ = occ;
      geo = geo;
      alone = λ l j e. absurd (both_ways (bit (mem (LockWord l)) (32 + j)) (clear_lock l (32 + j)) e);
      counter = x.start.counter;
      flying = λ n l d. absurd (omega arith);
    }

    area : (k : ℕ) → k < o.shape.lanes → AreaFits o mem (opened o (idle_views fixed generation) first) k (idle (fixed k) (generation k))
    area k l = let r = x.retired k l in record {
      first = r.first;
      last = r.last;
      below = λ q. ⊎_elim (λ (e : false ≡ true). no e) (λ q. ⊎_elim (λ (e : 1 ≤ 0). absurd (omega arith)) (λ (e : 1 ≤ 0). absurd (omega arith)) q) q;
      stored = x.start.words (word_of_generation o.shape k) ∙ r.stored;
      bump = refl;
      sealed = x.start.words (word_of_seal o.shape k) ∙ r.unsealed;
      entries_most = omega arith;
      records_most = omega arith;
      pairs = λ i e q. no (ap given q);
      pair_part = λ i q. absurd (omega arith);
      records = λ i e q. no (ap given q);
      once = λ j m d q p y z e. no (ap given e);
      olds = λ p y e. no (ap given e);
      slot_part = λ i q. absurd (omega arith);
      stale = λ j u q m e. r.stale j u m (sym (ap (λ (f : ℕ → ℕ). undo_of (slot_list (λ i. f (8 * line_of_slot o.shape k j + i)))) (λ i w. x.start.words w i)) ∙ e);
      slot_changes = λ i d q. absurd (omega arith);
      area_changes = λ i d q. absurd (omega arith);
      phase = (refl, refl, refl, refl);
    }

    none_draw : (n : ℕ) → may_draw_count (idle_views fixed generation) n ≡ 0
    none_draw zero = refl
    none_draw (suc n) = let e = none_draw n in omega arith

    -- THE WORLD OPENS
    pub opens : World o mem (idle_views fixed generation) (opened o (idle_views fixed generation) first)
    opens = record {
      some_lanes = x.start.some_lanes;
      most_lanes = x.start.most_lanes;
      few_lanes = x.start.few_lanes;
      size = x.size;
      bits = bits;
      each_lane = λ k ink. record {
        lane = x.start.lane k;
        shape = x.start.shape k;
        lanes = x.start.lanes k;
        log = area k (let most = x.start.most_lanes in omega arith);
        made = λ e. no e;
        recorded = λ d p e. no e;
        number = tt;
        zones = λ z. ap (λ y. y == suc k) (x.start.zone_locks z) ∙ ne_eqb 0 (suc k) (λ e. absurd (omega arith));
        masks = λ i d q. absurd (omega arith);
        room = omega arith;
        within = λ y q. omega arith;
        alone = λ one. record { words = λ w y e. no (ap given e); occupancy = λ at y e. no (ap given e) };
        entries = refl;
      };
      idle_beyond = λ k l. (refl, refl, refl);
      logs_beyond = λ k l ink. area k ink;
      of_lanes = λ n l. absurd (omega arith);
      small = λ w. subst (λ y. y < 2 ^ 64) (sym (x.start.words w)) (x.small w);
      header = λ w e. x.start.words w;
      zone_locks = λ z. let e = x.start.zone_locks z in omega arith;
      counter_room = let e = x.start.counter in let d = none_draw o.lanes in omega arith;
      stop_word = inl x.start.stop;
    }
