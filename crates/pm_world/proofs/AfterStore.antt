-- THE WORLD AFTER A STORE: what every store owes alike.
use Rattle.std.specs.Prelude.{List, [], ◌∷◌, All, IsSomeAnd, length, slice_index}
use Rattle.std.specs.Option.{ForSome}
use Rattle.std.proofs.Common.{◌≡◌, ◌≢◌, ℕ, suc, ◌+◌, ◌*◌, ◌^◌, ◌<◌, ◌≤◌, inl, inr, ⊎_elim, nat_lt, Bool, true, false, cond, ◌==◌, not, refl, sym, ap, ◌∙◌, subst, arith, eq-eqb, ne_eqb, Option, None, Some}
use Rattle.std.proofs.lemmas.Bool.{cases_eq, ltb-true, and_parts, cond-true, cond-false}
use Rattle.pm_layout.specs.Areas.{word_of_generation, word_of_seal, word_of_entry, line_of_slot}
use Rattle.pm_layout.specs.Chunks.{words_of, word_of_root}
use Rattle.pm_view.specs.Bits.{all_bits}
use Rattle.pm_view.specs.Changes.{Undrained}
use Rattle.pm_view.specs.Claims.{class, making, pictured}
use Rattle.pm_view.specs.Counts.{MayCount, IsAtStop}
use Rattle.pm_view.specs.Log.{Phase, Log, log_stored}
use Rattle.pm_view.specs.Parts.{Part}
use Rattle.pm_view.specs.View.{View}
use Rattle.pm_view.specs.Views.{shape_of, part_in, was_in, marked_by, changed}
use Rattle.pm_view.specs.Steps.Step.{Store}
use Rattle.pm_world.specs.Course.{past_stored}
use Rattle.pm_world.specs.States.{State, Cells}
use Rattle.pm_world.specs.Sights.{sight_of}
use Rattle.pm_world.specs.Lanes.{Flies, flies_at, is_decided, SightFits}
use Rattle.pm_world.specs.Lawful.{StoreFits, MayStore}
use Rattle.pm_world.specs.Laws.{KeepsAt, Turn}
use Rattle.pm_world.specs.Memory.{Memory, PoolWord, ZoneLock, CommitCounter, StopWord, occ_at, Becomes, cells_of}
use Rattle.pm_world.specs.World.{Opening, Views, Past, origin, ghost_of, settled_words, NumberFits, AloneFits, AreaFits, RecordedFits, LaneFits, is_header, World}
use Rattle.pm_world.proofs.Cells.{other_sort, other_number, occ_sort}
use Rattle.pm_world.proofs.Counting.{count_same}
use Rattle.pm_world.proofs.StepDraw.{all_cons}
use Rattle.pm_world.proofs.Stored.{OwnWords, around_own, stored}
use Rattle.pm_world.proofs.Worlds.{turned, world_with, stops_stay}

-- the view after a store of n into word w, which leaves this log
abbrev pub after_store : View → ℕ → ℕ → Log → View
after_store v w n log = changed (Store w n) v w all_bits n v.claims log

-- a word that is stored is known
still_given : (t e : Bool) (n : ℕ) (a : Option ℕ) (f : ℕ → Bool) → Rattle.pm_world.specs.States.given (cond t (Rattle.std.specs.Option.option_map f a) None) ≡ true → Rattle.pm_world.specs.States.given (cond t (Rattle.std.specs.Option.option_map f (cond e (Some n) a)) None) ≡ true
still_given true true n a f q = refl
still_given true false n a f q = q
still_given false e n a f q = q

pub counts_on : (s : Option ℕ) (c : ℕ) → ForSome s (λ stop. c < stop) → ForSome s (λ stop. suc c ≤ stop)
counts_on s c e y q = let l = e y q in omega arith

pub stop_stays : (s : Option ℕ) (c : ℕ) → IsSomeAnd s (λ stop. stop ≤ c) → IsSomeAnd s (λ stop. stop ≤ suc c)
stop_stays None c e = e
stop_stays (Some stop) c e = omega arith

module _ (o : Opening) (mem new : Memory) (views views' : Views) (g : Past) (x : World o mem views g) (k : ℕ) (ink : k < o.lanes) (w n : ℕ) (m : MayStore (views k) w n) (due : MayCount (views k)) (b : Becomes (PoolWord w) n mem new) where
  other_word : (u : ℕ) → u ≢ w → new (PoolWord u) ≡ mem (PoolWord u)
  other_word u ne = b.0 (PoolWord u) (other_number (PoolWord u) (PoolWord w) ne)

  alone_stored : (log : Log) → AloneFits mem (views k) → AloneFits new (after_store (views k) w n log)
  alone_stored log a = record {
    words = λ u y e. ⊎_elim (λ (q : w ≡ u). ap (λ i. new (PoolWord i)) (sym q) ∙ (b.1 ∙ some_same n y (sym (cond-true (w == u) (Some n) (pictured (views k).fixed.shape (views k).claims u) (eq-eqb w u q)) ∙ e)))
        (λ (ne : w ≢ u). other_word u (λ q. ne (sym q)) ∙ a.words u y (sym (cond-false (w == u) (Some n) (pictured (views k).fixed.shape (views k).claims u) (ne_eqb w u ne)) ∙ e)) (cases_eq w u);
    occupancy = λ at y e. (b.0 (occ_at at) (occ_sort at (PoolWord w) (λ q. omega arith) (λ q. omega arith)) ∙ (a.occupancy at y e).0, (a.occupancy at y e).1);
  }
    where
      value : Option ℕ → ℕ
      value None = 0
      value (Some y) = y

      some_same : (a c : ℕ) → Some a ≡ Some c → a ≡ c
      some_same a c e = ap value e

  pub store_world : (log : Log) → 512 ≤ w → ((j i : ℕ) → j < o.shape.lanes → j ≢ k → i < 1024 → w ≢ word_of_generation o.shape j + i)
      → OwnWords (settled_words o g) (ghost_of g) (sight_of (views k)).hold (cells_of o.shape mem) (cells_of o.shape new) → ((i : ℕ) → flies_at (views k).log.phase i → flies_at log.phase i)
      → SightFits o.shape (cells_of o.shape new) (settled_words o g) (Flies (ghost_of g) k) (ghost_of g) k (sight_of (after_store (views k) w n log)) → AreaFits o new g k (after_store (views k) w n log) → NumberFits log.phase (views k).number
      → (is_decided log.phase ≡ true → (c : ℕ) → making (views k).fixed.shape (views k).claims c ≡ false) → (is_decided log.phase ≡ false → (p : Rattle.pm_view.specs.Places.Place) → Rattle.pm_world.specs.Sights.is_recorded log.records p ≡ true → RecordedFits g.geo (sight_of (views k)) p) → Turn views views' k (after_store (views k) w n log) → World o new views' g
  store_world log page apart own flies sight area number made recorded t = world_with o mem views g x k ink new views' g (settled_words o g) (after_store (views k) w n log) refl
      (around_own (settled_words o g) (ghost_of g) k (sight_of (views k)).hold (λ j. (sight_of (views j)).hold) (cells_of o.shape mem) (cells_of o.shape new) own)
      record {
        generation = λ j l ne. other_word (word_of_generation o.shape j) (λ q. apart j 0 l ne (omega arith) (omega arith));
        seal = λ j l ne. other_word (word_of_seal o.shape j) (λ q. apart j 1 l ne (omega arith) (omega arith));
        entry = λ j i h l r s ne. other_word (word_of_entry o.shape j i + h) (λ q. apart j (8 + 2 * i + h) l ne (omega arith) (omega arith));
        slot = λ j i y l r s ne. other_word (8 * line_of_slot o.shape j i + y) (λ q. apart j (136 + 8 * i + y) l ne (omega arith) (omega arith));
        zone = λ z j ne. ap (λ y. y == suc j) (b.0 (ZoneLock z) (other_sort (ZoneLock z) (PoolWord w) (λ q. omega arith)));
        entries = λ j ne. refl;
      } t (stored o.shape o.lanes (origin o) (cells_of o.shape mem) (cells_of o.shape new) (λ j. sight_of (views j)) (ghost_of g) x.bits k ink own (sight_of (after_store (views k) w n log)) (λ j. sight_of (views' j)) refl flies sight (turned views views' k (after_store (views k) w n log) t))
      lane x.of_lanes small_word header (let c = count_same views views' k (after_store (views k) w n log) t refl o.lanes in let r = x.counter_room in let e = b.0 CommitCounter (other_sort CommitCounter (PoolWord w) (λ q. omega arith)) in omega arith)
      (⊎_elim (λ (q : mem StopWord ≡ 0). inl (b.0 StopWord (other_sort StopWord (PoolWord w) (λ z. omega arith)) ∙ q)) (λ (q : (j : ℕ) × (j < o.lanes) × IsAtStop (views j)). inr (q.0, q.1, stops_stay views views' k (after_store (views k) w n log) t (stop_stays (views k).fixed.stop (length (views k).calls)) q.0 q.2)) x.stop_word)
    where
      f : LaneFits o mem g k (views k)
      f = x.each_lane k ink

      inside : w < words_of o.shape
      inside = subst (λ s. w < words_of s) (x.each_lane k ink).shape m.inside

      lane : LaneFits o new g k (after_store (views k) w n log)
      lane = let f = x.each_lane k ink in record {
        lane = f.lane;
        shape = f.shape;
        lanes = f.lanes;
        log = area;
        made = made;
        recorded = λ u p q. let y = recorded u p q in (y.0, λ c. let z = y.1 c in (z.0, still_given (Rattle.pm_world.specs.Sights.is_pictured p) (w == Rattle.pm_view.specs.Places.word_of (views k).fixed.shape p) n (pictured (views k).fixed.shape (views k).claims (Rattle.pm_view.specs.Places.word_of (views k).fixed.shape p)) (λ y. Rattle.std.specs.Int.bit_at y c == 1) z.1));
        number = number;
        zones = λ z. ap (λ y. y == suc k) (b.0 (ZoneLock z) (other_sort (ZoneLock z) (PoolWord w) (λ q. omega arith))) ∙ f.zones z;
        masks = all_cons (λ (c : Undrained). (c.mask < 2 ^ 64) × (c.word < words_of o.shape)) record { word = w; mask = all_bits; old = Rattle.std.specs.Option.option_map (λ old. Rattle.std.specs.Prelude.bit_and old all_bits) (was_in (views k) w); flushed = false } (views k).changes (omega arith, subst (λ s. w < words_of s) f.shape m.inside) f.masks;
        room = let r = m.room in omega arith;
        within = counts_on (views k).fixed.stop (length (views k).calls) due;
        alone = λ one. alone_stored log (f.alone one);
        entries = f.entries;
      }

      small_word : (u : ℕ) → new (PoolWord u) < 2 ^ 64
      small_word u = ⊎_elim (λ (q : u ≡ w). subst (λ y. y < 2 ^ 64) (sym (ap (λ i. new (PoolWord i)) q ∙ b.1)) m.small) (λ (ne : u ≢ w). subst (λ y. y < 2 ^ 64) (sym (other_word u ne)) (x.small u)) (cases_eq u w)

      header : (u : ℕ) → is_header o.shape u ≡ true → new (PoolWord u) ≡ slice_index o.words u
      header u h = let l = ltb-true u 512 (and_parts (nat_lt u 512) (not (u == word_of_root o.shape)) h).0 in other_word u (λ q. omega arith) ∙ x.header u h

-- what is to be shown of a store in this phase into such a word, the phase and the word's part written out
abbrev pub KeepsWith : Phase → Part → Type 0
KeepsWith ph part = (w n : ℕ) (o : Opening) (mem new : Memory) (views views' : Views) (g : Past) (k : ℕ) → World o mem views g → k < o.lanes → MayStore (views k) w n → MayCount (views k) → StoreFits (views k) w n ph part
    → (views k).log.phase ≡ ph → part_in (views k) w ≡ part → Becomes (PoolWord w) n mem new
    → Turn views views' k (changed (Store w n) (views k) w all_bits n (marked_by ph part n (views k).claims) (log_stored (shape_of (views k)) (class (views k).claims) ph part n (views k).log)) → World o new views' (past_stored ph part n g)

pub keeps_at : (ph : Phase) (part : Part) → KeepsWith ph part → KeepsAt ph part
keeps_at ph part keeps w n o mem new views views' g k x ink law e p b t = let v = views k in
    subst (λ z. World o new views' (past_stored z (part_in (views k) w) n g)) (sym e) (subst (λ q. World o new views' (past_stored ph q n g)) (sym p)
    (keeps w n o mem new views views' g k x ink law.allowed (law.due refl) (subst (StoreFits (views k) w n ph) p (subst (λ z. StoreFits (views k) w n z (part_in (views k) w)) e law.allowed.fits)) e p b
    (subst (λ q. Turn views views' k (changed (Store w n) (views k) w all_bits n (marked_by ph q n (views k).claims) (log_stored (shape_of (views k)) (class (views k).claims) ph q n (views k).log))) p
    (subst (λ z. Turn views views' k (changed (Store w n) (views k) w all_bits n (marked_by z (part_in (views k) w) n (views k).claims) (log_stored (shape_of (views k)) (class (views k).claims) z (part_in (views k) w) n (views k).log))) e t))))
