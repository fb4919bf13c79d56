-- ONCE NOTHING IS UNDRAINED the log goes on: a call is decided, or aborted, or its seal is cleared.
use Rattle.std.specs.Prelude.{List, [], ◌∷◌, ◌++◌, length, slice_get, slice_index, Contains}
use Rattle.pm_layout.specs.Areas.{greatest_generation}
use Rattle.std.proofs.Common.{◌≡◌, ◌≢◌, ℕ, suc, ◌+◌, ◌*◌, ◌^◌, ◌<◌, ◌≤◌, inl, inr, ⊎_elim, Bool, true, false, cond, not, ◌&&◌, ◌||◌, ◌==◌, refl, sym, ap, ◌∙◌, subst, arith, eq-eqb, ne_eqb, Option, None, Some}
use Rattle.std.proofs.lemmas.Bool.{cond-true, cond-false, cases_Bool, cases_lt, both_ways}
use Rattle.std.proofs.lemmas.Option.{slice_get-get_or}
use Rattle.std.proofs.lemmas.Nat.Bits.{bit_at_above}
use Rattle.pm_layout.specs.declared.shape.Shape.{Shape}
use Rattle.pm_record.specs.Undo.{is_record, undo_in, undo_of}
use Rattle.pm_record.specs.declared.undo.Undo.{Undo}
use Rattle.pm_view.specs.Changes.{Undrained, drained}
use Rattle.pm_view.specs.Places.{Place, Descr, RootWord, Block, Small, Big, Root, block_of, header, is_data, is_place}
use Rattle.pm_view.specs.Entries.{Entry, latest, redos, turn}
use Rattle.pm_view.specs.Log.{Phase, Idle, Open, Drawn, Sealing, Applying, Clearing, Retiring, Voiding, Log, old_of, next_log, log_drained}
use Rattle.pm_view.specs.Claims.{Claim, Decided, Drained, class, making, locked, found, here, header_in, found_after, pictured}
use Rattle.pm_view.specs.View.{View}
use Rattle.pm_view.specs.Steps.Step.{Drain}
use Rattle.pm_view.specs.Views.{decided_by, drained_to}
use Rattle.pm_view.specs.Counts.{IsAtStop}
use Rattle.pm_view.specs.Counts.{MayCount}
use Rattle.pm_world.specs.States.{State, Diff, given, live, read, put1, Cells}
use Rattle.pm_world.specs.Sights.{Sight, is_use, is_soiled, is_recorded, fresh, is_made, sight_of}
use Rattle.pm_world.specs.Lanes.{Ghost, owns, left, is_decided, TurnFlight, SightFits, settled, Flies, flies_at, Bits}
use Rattle.pm_world.specs.Logs.{slot_list, ends_with, used_slots, seal_in, BumpFits, PhaseFits, AreWhole, LogFits}
use Rattle.pm_world.specs.Memory.{Memory, PoolWord, CommitCounter, StopWord, bit, cells_of}
use Rattle.pm_world.specs.World.{Opening, Views, Past, origin, ghost_of, settled_words, NumberFits, AreaFits, LaneFits, World}
use Rattle.pm_world.specs.Course.{holder_after, past_made, past_decided, past_drained}
use Rattle.pm_world.specs.Laws.{Turn, Keeps}
use Rattle.pm_world.proofs.Entering.{logged_recorded}
use Rattle.pm_world.proofs.Basics.{and_false, some_of}
use Rattle.pm_world.proofs.StepDrops.{dropped_world}
use Rattle.pm_world.proofs.Counting.{count_same}
use Rattle.pm_world.proofs.Decides.{decided_ghost, decided_sight, over_idle, over_open, owned_now, around, decides}
use Rattle.pm_world.proofs.Frame.{Around, mine_own, own_has}
use Rattle.pm_world.proofs.Going.{at_phase, unchanged}
use Rattle.pm_world.proofs.StepPlain.{plain_step}
use Rattle.pm_world.proofs.Stores.{drops, Drops, goes_on_to, GoesOnAt}
use Rattle.pm_world.proofs.Worlds.{turned, world_after, stops_stay, log_again}

-- ---- numbers
pub high_bit : (x b : ℕ) → x < 2 ^ 64 → 64 ≤ b → bit x b ≡ false
high_bit x b l q = ap (λ d. d == 1) (bit_at_above x 64 b l q)

-- ---- THE LOG OF THE NEXT GENERATION
generation_of : (slot : List ℕ) (u : Undo) → undo_of slot ≡ Some u → u.generation ≡ slice_index slot 0
generation_of slot u e = go (is_record slot) e
  where
    go : (t : Bool) → cond t (Some (undo_in slot)) None ≡ Some u → u.generation ≡ slice_index slot 0
    go true e = sym (ap (λ w. gen w) e)
      where
        gen : Option Undo → ℕ
        gen None = 0
        gen (Some w) = w.generation
    go false e = absurd (both_ways false refl (ap given e))

module _ (sh : Shape) (lane generation seal : ℕ) (entry slot : ℕ → ℕ → ℕ) (S S' : State) (owned owned' : Place → ℕ → Bool) (picture : Diff) (l : Log) (changes : List Undrained)
    (f : LogFits sh lane generation seal entry slot S owned picture l changes) (clean : changes ≡ []) where
  -- the log of an ended generation is empty
  pub ended : l.bumped ≡ true → seal ≡ 0 → l.slot ≡ [] → (ph : Phase) → BumpFits ph false → seal_in ph 0 ≡ 0 → PhaseFits sh lane picture (next_log ph l) changes ph → LogFits sh lane generation seal entry slot S' owned' picture (next_log ph l) changes
  ended bumped unsealed no_slot ph bump none_ phase = record {
    first = omega arith;
    last = let z = f.below (inl bumped) in omega arith;
    below = λ q. ⊎_elim (λ (e : false ≡ true). absurd (both_ways false refl e)) (λ q. ⊎_elim (λ (a : 1 ≤ 0). absurd (omega arith)) (λ (a : 1 ≤ 0). absurd (omega arith)) q) q;
    stored = f.stored ∙ (ap (λ t. cond t (suc l.generation) l.generation) bumped ∙ omega arith);
    bump = bump;
    sealed = unsealed ∙ sym none_;
    entries_most = omega arith;
    records_most = omega arith;
    pairs = λ i e q. absurd (both_ways false refl (ap given q));
    pair_part = λ i q. absurd (omega arith);
    records = λ i e q. absurd (both_ways false refl (ap given q));
    once = λ j m r q p y z e. absurd (both_ways false refl (ap given e));
    olds = λ p y e. absurd (both_ways false refl (ap given e));
    slot_part = λ i q. absurd (omega arith);
    stale = λ j u _ q e. ⊎_elim (λ (a : j < length l.records). older j u e a) (λ (a : length l.records ≤ j). let z = f.stale j u (used j a) q e in omega arith) (cases_lt j (length l.records));
    slot_changes = λ i d q. let z = ap length clean in absurd (omega arith);
    area_changes = λ i d q. let z = ap length clean in absurd (omega arith);
    phase = phase;
  }
    where
      used : (j : ℕ) → length l.records ≤ j → used_slots l ≤ j
      used j a = subst (λ s. length l.records + cond (length s == 0) 0 1 ≤ j) (sym no_slot) (omega arith)

      older : (j : ℕ) (u : Undo) → undo_of (slot_list (slot j)) ≡ Some u → j < length l.records → u.generation < l.generation + 1
      older j u e a = let r = Rattle.std.specs.Prelude.get_or l.records j (record { place = RootWord; old = [] }) in let z = (f.records j r (slice_get-get_or l.records j (record { place = RootWord; old = [] }) a)).0 0 (omega arith) in
          let q = generation_of (slot_list (slot j)) u e in omega arith

  -- its entries are to be applied
  pub sealed_log : (n : ℕ) → l.phase ≡ Sealing n → ((p : Place) (b : ℕ) → owned p b ≡ true → owned' p b ≡ true) → LogFits sh lane generation seal entry slot S' owned' picture (record l { phase = Applying l.entries }) changes
  sealed_log n e to = let bump : l.bumped ≡ false = subst (λ ph. BumpFits ph l.bumped) e f.bump in let phase = subst (λ ph. PhaseFits sh lane picture l changes ph) e f.phase in log_again (Applying l.entries) f tt (f.sealed ∙ ap (λ ph. seal_in ph (length l.entries)) e) (λ p y q b. (to p b (f.olds p y q b).0, λ u. absurd (both_ways true u refl)))
      (λ i d q. let z = ap length clean in absurd (omega arith))
      (λ i d q. let z = ap length clean in absurd (omega arith))
      ((whole phase.0, record { done = []; are = refl; ends = λ b. absurd (both_ways l.bumped bump b); to_end = λ _. last_of phase.0 }, phase.1, phase.2))
    where
      whole : AreWhole sh lane l → AreWhole sh lane (record l { phase = Applying l.entries })
      whole w = record { front = w.front; are = w.are; placed = w.placed }

      last_of : AreWhole sh lane l → Contains l.entries (ends_with sh lane l.generation)
      last_of w = subst (λ es. Contains es (ends_with sh lane l.generation)) (sym w.are) (at_end w.front (ends_with sh lane l.generation))
        where
          at_end : (xs : List Entry) (y : Entry) → Contains (xs ++ y ∷ []) y
          at_end [] y = (0, omega arith, refl)
          at_end (e ∷ xs) y = let z = at_end xs y in (suc z.0, omega arith, z.2)

module _ (sh : Shape) (L : ℕ) (b : State) (cells : Cells) (sights : ℕ → Sight) (g : Ghost) (x : Bits sh L b cells sights g) (k : ℕ) (ink : k < L) where
  pub around_same : Around k (sights k).hold (λ j. (sights j).hold) cells cells (settled b g) (settled b g) g g
  around_same = record { writer = λ l j ne. refl; reader = λ l j ne. refl; pool = λ p b u w. refl; set = λ p b u. refl; descr = λ c u. refl; up = λ c n e. e; runs = λ c u. refl; holder = λ B j ne e. e; holder_back = λ B j ne e. e; class = λ c u. refl; first = λ c j ne. inl refl; flies = λ j n d ne w y. y }

-- ---- THE VIEW, ITS PHASE WRITTEN OUT
abbrev goes_on_in : Phase → View → View
goes_on_in ph v = record v { claims = decided_by ph v.log.entries v.claims; log = log_drained ph v.log }

abbrev GoesOnIn : Phase → Type 0
GoesOnIn ph = (o : Opening) (mem : Memory) (views new : Views) (g : Past) (k : ℕ) → World o mem views g → k < o.lanes → (views k).changes ≡ [] → ((c : ℕ) → making (views k).fixed.shape (views k).claims c ≡ false) → (views k).log.phase ≡ ph → Turn views new k (goes_on_in ph (views k)) → World o mem new (past_decided ph (views k) g)

in_phase : (ph : Phase) → GoesOnIn ph → GoesOnAt ph
in_phase ph f o mem views new g k x ink clean unmade e t = subst (λ z. World o mem new (past_decided z (views k) g)) (sym e) (f o mem views new g k x ink clean unmade e (subst (λ z. Turn views new k (goes_on_in z (views k))) e t))

-- where nothing is to be decided the view stays
module _ (o : Opening) (mem : Memory) (views new : Views) (g : Past) (k : ℕ) (x : World o mem views g) (ink : k < o.lanes) where
  same_view : Turn views new k (views k) → World o mem new g
  same_view t = plain_step o mem mem views new g x k ink (λ l. refl) (views k) t refl refl (λ e. e) (x.each_lane k ink)

pub goes_on_idle : GoesOnAt Idle
goes_on_idle = in_phase Idle (λ o mem views new g k x ink clean unmade e t. same_view o mem views new g k x ink t)

pub goes_on_open : GoesOnAt Open
goes_on_open = in_phase Open (λ o mem views new g k x ink clean unmade e t. same_view o mem views new g k x ink t)

pub goes_on_drawn : (n : ℕ) → GoesOnAt (Drawn n)
goes_on_drawn n = in_phase (Drawn n) (λ o mem views new g k x ink clean unmade e t. same_view o mem views new g k x ink t)

pub goes_on_applying : (todo : List Entry) → GoesOnAt (Applying todo)
goes_on_applying todo = in_phase (Applying todo) (λ o mem views new g k x ink clean unmade e t. same_view o mem views new g k x ink t)

-- ---- the words stay, and the lane's view is this one
module _ (o : Opening) (mem : Memory) (views new : Views) (g : Past) (k : ℕ) (x : World o mem views g) (ink : k < o.lanes) (clean : (views k).changes ≡ []) where
  abbrev sights : ℕ → Sight
  sights j = sight_of (views j)

  abbrev cells : Cells
  cells = cells_of o.shape mem

  lane_fits : LaneFits o mem g k (views k)
  lane_fits = x.each_lane k ink

  -- claims and the log change, and of the ghosts what is decided and whose blocks are
  world_now : (claims : List Claim) (log : Log) (decided : ℕ → Bool) (holder : Block → ℕ) → let v = record (views k) { claims = claims; log = log } in let g' = record g { decided = decided; holder = holder } in Turn views new k v
      → Around k (sight_of (views k)).hold (λ j. (sight_of (views j)).hold) (cells_of o.shape mem) (cells_of o.shape mem) (settled_words o g) (settled_words o g') (ghost_of g) (ghost_of g')
      → Bits o.shape o.lanes (origin o) (cells_of o.shape mem) (λ j. sight_of (new j)) (ghost_of g') → AreaFits o mem g' k v → NumberFits log.phase (views k).number
      → ((w n : ℕ) → pictured (views k).fixed.shape claims w ≡ Some n → pictured (views k).fixed.shape (views k).claims w ≡ Some n)
      → (is_decided log.phase ≡ true → (c : ℕ) → making (views k).fixed.shape claims c ≡ false)
      → (is_decided log.phase ≡ false → (p : Place) → is_recorded log.records p ≡ false) → World o mem new g'
  world_now claims log decided holder t m bits area number known made none_recorded = let v = record (views k) { claims = claims; log = log } in let g' = record g { decided = decided; holder = holder } in let f = lane_fits in world_after o mem views g x k ink mem new g' (settled_words o g') v refl m
      record { generation = λ j ne. refl; seal = λ j ne. refl; entry = λ j i q ne. refl; slot = λ j i q ne. refl; zone = λ z j ne. refl; entries = λ j ne. refl } t bits
      record {
        lane = f.lane;
        shape = f.shape;
        lanes = f.lanes;
        log = area;
        made = made;
        recorded = λ u p q. absurd (both_ways (is_recorded log.records p) (none_recorded u p) q);
        number = number;
        zones = f.zones;
        masks = f.masks;
        room = f.room;
        within = f.within;
        alone = λ one. let a = f.alone one in record { words = λ w n e. a.words w n (known w n e); occupancy = a.occupancy };
        entries = f.entries;
      } x.of_lanes x.small x.header
      (subst (λ n. mem CommitCounter + n < greatest_generation o.shape + 32) (sym (count_same views new k v t refl o.lanes)) x.counter_room)
      (⊎_elim (λ (e : mem StopWord ≡ 0). inl e) (λ (e : (j : ℕ) × (j < o.lanes) × IsAtStop (views j)). inr (e.0, e.1, stops_stay views new k v t (λ z. z) e.0 e.2)) x.stop_word)

  unsoiled : (p : Place) (b : ℕ) → (sight_of (views k)).soiled p b ≡ false
  unsoiled p b = subst (λ c. is_soiled (views k).fixed.shape (sight_of (views k)).hold c p b ≡ false) (sym clean) (and_false (is_use (sight_of (views k)).hold p))

  -- a call without records and entries makes nothing final
  abbrev empty_fresh : Phase → Diff
  empty_fresh ph = fresh (views k).fixed.shape (views k).claims (next_log ph (views k).log)

  nothing : (ph : Phase) (p : Place) (b : ℕ) → given (empty_fresh ph p b) ≡ false
  nothing ph p b = go (is_data p) (block_of (Rattle.pm_view.specs.Claims.geometry (views k).fixed.shape (views k).claims) p b) ((sight_of (views k)).picture p b)
    where
      go : (d : Bool) (B : Block) (y : Option Bool) → given (cond (d && (is_made (turn (latest []) B) || false)) y None) ≡ false
      go d (Small c i) y = ap (λ z. given (cond z y None)) (and_false d)
      go d (Big c) y = ap (λ z. given (cond z y None)) (and_false d)
      go d Root y = ap (λ z. given (cond z y None)) (and_false d)

  -- the lane's log, its phase written out
  abbrev Logged : Log → Type 0
  Logged l = LogFits o.shape k ((cells_of o.shape mem).generation k) ((cells_of o.shape mem).seal k) ((cells_of o.shape mem).entry k) ((cells_of o.shape mem).slot k) (settled_words o g) (owns g.geo (settled_words o g) (sight_of (views k)).hold) (sight_of (views k)).picture l (views k).changes

  log_in : (ph : Phase) → (views k).log.phase ≡ ph → Logged (record (views k).log { phase = ph })
  log_in ph e = subst (λ z. Logged (record (views k).log { phase = z })) e lane_fits.log

  same_bit : (ph : Phase) → (views k).log.phase ≡ ph → is_decided ph ≡ true → ((p : Place) (b : ℕ) → left ph p b ≡ None) → (p : Place) (b : ℕ) → owns g.geo (settled_words o g) (sight_of (views k)).hold p b ≡ true → live (settled_words o g) g.geo g.runs p ≡ true → read (cells_of o.shape mem).pool p b ≡ settled_words o g p b
  same_bit ph e dec none_ p b t al = ((at_phase o.shape o.lanes (origin o) (cells_of o.shape mem) (λ j. sight_of (views j)) (ghost_of g) x.bits k ink ph e).bits p b t).0 al (ap given (none_ p b)) (ap (λ d. (sight_of (views k)).logged p && not d) dec ∙ and_false ((sight_of (views k)).logged p))

  -- THE SEAL IS CLEARED
  pub cleared : (views k).log.phase ≡ Clearing → Turn views new k (goes_on_in Clearing (views k)) → World o mem new g
  cleared e t = let l = log_in Clearing e in let v = goes_on_in Clearing (views k) in
      world_now (views k).claims (next_log Idle (views k).log) g.decided g.holder t (around_same o.shape o.lanes (origin o) (cells_of o.shape mem) (λ j. sight_of (views j)) (ghost_of g) x.bits k ink)
      (unchanged o.shape o.lanes (origin o) (cells_of o.shape mem) (λ j. sight_of (views j)) (ghost_of g) x.bits k ink (sight_of v) (λ j. sight_of (new j)) refl (λ n y. absurd (subst (λ z. flies_at z n) e y))
      (over_idle o.shape (cells_of o.shape mem) (settled_words o g) (Flies (ghost_of g) k) (ghost_of g) k (sight_of (views k)) (x.bits.each_lane k) (empty_fresh Idle) (nothing Idle) unsoiled (same_bit Clearing e refl (λ p b. refl))) (turned views new k v t))
      (ended o.shape k ((cells_of o.shape mem).generation k) ((cells_of o.shape mem).seal k) ((cells_of o.shape mem).entry k) ((cells_of o.shape mem).slot k) (settled_words o g) (settled_words o g) (owns g.geo (settled_words o g) (sight_of (views k)).hold) (owns g.geo (settled_words o g) (sight_of (views k)).hold) (sight_of (views k)).picture
      (record (views k).log { phase = Clearing }) (views k).changes l clean l.bump l.sealed l.phase.1 Idle refl refl (refl, refl, refl, refl)) tt (λ w n q. q) (λ t. absurd (both_ways false refl t)) (λ _ p. refl)

  -- AN ABORTED CALL'S RECORDS ARE VOIDED: each recorded word has its old value again, which is the settled one
  restored_bit : (views k).log.phase ≡ Voiding → (p : Place) (b : ℕ) → owns g.geo (settled_words o g) (sight_of (views k)).hold p b ≡ true → live (settled_words o g) g.geo g.runs p ≡ true → read (cells_of o.shape mem).pool p b ≡ settled_words o g p b
  restored_bit e p b t al = let l = log_in Voiding e in let z = (at_phase o.shape o.lanes (origin o) (cells_of o.shape mem) (λ j. sight_of (views j)) (ghost_of g) x.bits k ink Voiding e).bits p b t in
      ⊎_elim (λ (q : (sight_of (views k)).logged p ≡ true). let r = some_of (old_of (views k).log.records p) (logged_recorded (views k).fixed.shape (views k).fixed.lane (views k).changes 0 (views k).log.records p q) in
      z.3 (bit r.0 b) (l.phase.3 p r.0 b r.1) ∙ sym ((l.olds p r.0 r.1 b).1 refl))
      (λ (q : (sight_of (views k)).logged p ≡ false). z.0 al refl (ap (λ y. y && true) q)) (cases_Bool ((sight_of (views k)).logged p))

  pub voided : (views k).log.phase ≡ Voiding → Turn views new k (goes_on_in Voiding (views k)) → World o mem new g
  voided e t = let l = log_in Voiding e in let v = goes_on_in Voiding (views k) in
      world_now (views k).claims (next_log Open (views k).log) g.decided g.holder t (around_same o.shape o.lanes (origin o) (cells_of o.shape mem) (λ j. sight_of (views j)) (ghost_of g) x.bits k ink)
      (unchanged o.shape o.lanes (origin o) (cells_of o.shape mem) (λ j. sight_of (views j)) (ghost_of g) x.bits k ink (sight_of v) (λ j. sight_of (new j)) refl (λ n y. absurd (subst (λ z. flies_at z n) e y))
      (over_open o.shape (cells_of o.shape mem) (settled_words o g) (Flies (ghost_of g) k) (ghost_of g) k (sight_of (views k)) (x.bits.each_lane k) (empty_fresh Open) (nothing Open) unsoiled (restored_bit e)) (turned views new k v t))
      (ended o.shape k ((cells_of o.shape mem).generation k) ((cells_of o.shape mem).seal k) ((cells_of o.shape mem).entry k) ((cells_of o.shape mem).slot k) (settled_words o g) (settled_words o g) (owns g.geo (settled_words o g) (sight_of (views k)).hold) (owns g.geo (settled_words o g) (sight_of (views k)).hold) (sight_of (views k)).picture
      (record (views k).log { phase = Voiding }) (views k).changes l clean l.bump l.sealed l.phase.1 Open refl refl (omega arith, omega arith)) (subst (λ ph. NumberFits ph (views k).number) e lane_fits.number) (λ w n q. q) (λ t. absurd (both_ways false refl t)) (λ _ p. refl)

  -- A CALL IS DECIDED by its seal, or by the next generation, where it has no entries
  data_only : (p : Place) (b : ℕ) → is_data p ≡ false → given ((sight_of (views k)).call.fresh p b) ≡ false
  data_only p b e = let B = block_of (Rattle.pm_view.specs.Claims.geometry (views k).fixed.shape (views k).claims) p b in ap (λ z. given (cond (z && (is_made (turn (latest (redos (views k).log.entries)) B) || is_recorded (views k).log.records p)) ((sight_of (views k)).picture p b) None)) e

  high : (c b : ℕ) → 64 ≤ b → read (cells_of o.shape mem).pool (Descr c) b ≡ false
  high c b q = let w = Rattle.pm_layout.specs.Chunks.word_of_descriptor o.shape c in ap (λ z. is_place o.shape (Descr c) && (not (Rattle.pm_view.specs.Claims.is_run (mem (PoolWord w))) && z)) (high_bit (mem (PoolWord w)) b (x.small w) q) ∙ (ap (λ z. is_place o.shape (Descr c) && z) (and_false (not (Rattle.pm_view.specs.Claims.is_run (mem (PoolWord w))))) ∙ and_false (is_place o.shape (Descr c)))

  sight_in : (ph : Phase) → (views k).log.phase ≡ ph → SightFits o.shape (cells_of o.shape mem) (settled_words o g) (Flies (ghost_of g) k) (ghost_of g) k (record (sight_of (views k)) { phase = ph })
  sight_in ph e = at_phase o.shape o.lanes (origin o) (cells_of o.shape mem) (λ j. sight_of (views j)) (ghost_of g) x.bits k ink ph e

  -- the blocks that the call allocates are found by their lane under the lock that it holds of them
  here_now : (n : ℕ) → (views k).log.phase ≡ Sealing n → (B : Block) → here (views k).fixed.shape (Decided (redos (views k).log.entries) ∷ (views k).claims) B ≡ found_after (turn (latest (redos (views k).log.entries)) B) (here (views k).fixed.shape (views k).claims B)
  here_now n e B = go (turn (latest (redos (views k).log.entries)) B) ((sight_in (Sealing n) e).turns B)
    where
      -- its lock is that of the line that the lane takes for its header
      line : (B : Block) → (sight_of (views k)).hold.mine B ≡ true → (sight_of (views k)).hold.locked (header o.shape g.geo B) ≡ true → locked (views k).claims (header_in (views k).fixed.shape (views k).claims B) ≡ true
      line (Small c i) m q = let h = (sight_in (Sealing n) e).hold.class c i (own_has (sight_of (views k)).hold (Small c i) (mine_own (sight_of (views k)).hold (Small c i) m)) in
          ap (λ s. locked (views k).claims (Rattle.pm_layout.specs.Chunks.line_of_chunk s c + (1 + class (views k).claims c * i))) lane_fits.shape ∙ (ap (λ n. locked (views k).claims (Rattle.pm_layout.specs.Chunks.line_of_chunk o.shape c + (1 + n * i))) h ∙ q)
      line (Big c) m q = ap (λ s. locked (views k).claims (Rattle.pm_layout.specs.Chunks.line_of_chunk s c)) lane_fits.shape ∙ q
      line Root m q = q

      go : (a : Option Bool) → TurnFlight ((sight_of (views k)).hold.locked (header o.shape g.geo B)) ((sight_of (views k)).hold.mine B) ((sight_of (views k)).hold.here B) a
          → (found_after a (found (views k).fixed.shape (views k).claims B) && locked (views k).claims (header_in (views k).fixed.shape (views k).claims B)) ≡ found_after a (here (views k).fixed.shape (views k).claims B)
      go None f = refl
      go (Some true) f = line B f.0 f.1
      go (Some false) f = refl

  sealed_sight : (n : ℕ) → (views k).log.phase ≡ Sealing n → sight_of (goes_on_in (Sealing n) (views k)) ≡ decided_sight (sight_of (views k)) (views k).log.entries
  sealed_sight n e = λ i. let y = sight_of (goes_on_in (Sealing n) (views k)) in record y { hold = record y.hold { here = λ B. here_now n e B i } }

  pub sealed : (n : ℕ) → ((c : ℕ) → making (views k).fixed.shape (views k).claims c ≡ false) → (views k).log.phase ≡ Sealing n → Turn views new k (goes_on_in (Sealing n) (views k)) → World o mem new (past_decided (Sealing n) (views k) g)
  sealed n unmade e t = let v = goes_on_in (Sealing n) (views k) in let g' = past_decided (Sealing n) (views k) g in let a = turned views new k v t in let f = sight_in (Sealing n) e in
      let only : (m : ℕ) → flies_at (views k).log.phase m → n ≡ m = λ m q. subst (λ z. flies_at z m) e q in
      world_now (Decided (redos (views k).log.entries) ∷ (views k).claims) (record (views k).log { phase = Applying (views k).log.entries }) (put1 g.decided n true) (λ B. holder_after (views k).fixed.lane (turn (latest (redos (views k).log.entries)) B) (g.holder B)) t
      (around o.shape o.lanes (origin o) (cells_of o.shape mem) (λ j. sight_of (views j)) (ghost_of g) x.bits k ink (views k).fixed.lane lane_fits.lane n (views k).log.entries f only data_only high (λ p b. refl))
      (decides o.shape o.lanes (origin o) (cells_of o.shape mem) (λ j. sight_of (views j)) (ghost_of g) x.bits k ink (views k).fixed.lane lane_fits.lane n (views k).log.entries f only data_only high (λ p b. refl) (λ j. sight_of (new j))
      (record { here = a.here ∙ sealed_sight n e; else_ = a.else_ }))
      (sealed_log o.shape k ((cells_of o.shape mem).generation k) ((cells_of o.shape mem).seal k) ((cells_of o.shape mem).entry k) ((cells_of o.shape mem).slot k) (settled_words o g) (settled_words o g') (owns g.geo (settled_words o g) (sight_of (views k)).hold) (owns g.geo (settled_words o g') (sight_of v).hold) (sight_of (views k)).picture
      (views k).log (views k).changes lane_fits.log clean n e
      (λ p b q. subst (λ y. owns g.geo (settled_words o g') y.hold p b ≡ true) (sym (sealed_sight n e)) (owned_now o.shape o.lanes (origin o) (cells_of o.shape mem) (λ j. sight_of (views j)) (ghost_of g) x.bits k ink (views k).fixed.lane lane_fits.lane n (views k).log.entries f only data_only high (λ p b. refl) p b q))) tt (λ w m q. q) (λ t. unmade) (λ u. absurd (both_ways true u refl))

  -- a call without entries, which the next generation decides: it is over at once
  module _ (n : ℕ) (e : (views k).log.phase ≡ Retiring n) where
    abbrev kept : Sight
    kept = record (sight_of (views k)) { phase = Applying [] }

    abbrev ghost : Ghost
    ghost = ghost_of (past_decided (Retiring n) (views k) g)

    retiring : SightFits o.shape (cells_of o.shape mem) (settled_words o g) (Flies (ghost_of g) k) (ghost_of g) k (record (sight_of (views k)) { phase = Retiring n })
    retiring = sight_in (Retiring n) e

    no_turn : (B : Block) → turn (latest (redos (views k).log.entries)) B ≡ None
    no_turn B = retiring.turns B

    in_flight_sight : SightFits o.shape (cells_of o.shape mem) (settled_words o g) (Flies (ghost_of g) k) (ghost_of g) k (record (sight_of (views k)) { phase = Sealing n })
    in_flight_sight = let f = retiring in record {
      hold = f.hold;
      bits = f.bits;
      picture = f.picture;
      turns = λ B. subst (TurnFlight ((sight_of (views k)).hold.locked (header o.shape g.geo B)) ((sight_of (views k)).hold.mine B) ((sight_of (views k)).hold.here B)) (sym (no_turn B)) tt;
      call = record { flight = f.call.flight; todo = f.call.todo; descr = f.call.descr };
      reach = f.reach;
      plain = f.plain;
      logged = f.logged;
      stored = f.stored;
      fresh = f.fresh;
      sizes = f.sizes;
      born = f.born;
      guarded = f.guarded;
      soiled = f.soiled;
    }

    only_it : (m : ℕ) → flies_at (views k).log.phase m → n ≡ m
    only_it m q = subst (λ z. flies_at z m) e q

    none_left : (p : Place) (b : ℕ) → latest (redos []) p b ≡ latest (redos (views k).log.entries) p b
    none_left p b = sym (ap (λ es. latest (redos es) p b) (log_in (Retiring n) e).phase.0)

    same_ghost : decided_ghost (ghost_of g) (views k).fixed.lane (sight_of (views k)).call n ≡ ghost
    same_ghost = λ i. record (ghost_of g) { decided = put1 g.decided n true; holder = λ B. holder_after (views k).fixed.lane (no_turn B i) (g.holder B) }

    same_sight : decided_sight (sight_of (views k)) [] ≡ kept
    same_sight = λ i. let y = sight_of (views k) in record y { hold = record y.hold { found = λ B. found_after (no_turn B i) (y.hold.found B); mine = λ B. Rattle.pm_view.specs.Claims.mine_after (no_turn B i) (y.hold.mine B); here = λ B. found_after (no_turn B i) (y.hold.here B) }; phase = Applying [] }

    abbrev between : ℕ → Sight
    between j = cond (j == k) kept (sight_of (views j))

    between_here : between k ≡ kept
    between_here = cond-true (k == k) kept (sight_of (views k)) (eq-eqb k k refl)

    between_else : (j : ℕ) → j ≢ k → between j ≡ sight_of (views j)
    between_else j ne = cond-false (j == k) kept (sight_of (views j)) (ne_eqb j k ne)

    bits_between : Bits o.shape o.lanes (origin o) (cells_of o.shape mem) between ghost
    bits_between = subst (λ d. Bits o.shape o.lanes (origin o) (cells_of o.shape mem) between d) same_ghost
        (decides o.shape o.lanes (origin o) (cells_of o.shape mem) (λ j. sight_of (views j)) (ghost_of g) x.bits k ink (views k).fixed.lane lane_fits.lane n [] in_flight_sight only_it data_only high none_left between
        (record { here = between_here ∙ sym same_sight; else_ = between_else }))

    around_retired : Around k (sight_of (views k)).hold (λ j. (sight_of (views j)).hold) (cells_of o.shape mem) (cells_of o.shape mem) (settled_words o g) (settled_words o (past_decided (Retiring n) (views k) g)) (ghost_of g) ghost
    around_retired = subst (λ d. Around k (sight_of (views k)).hold (λ j. (sight_of (views j)).hold) (cells_of o.shape mem) (cells_of o.shape mem) (settled_words o g) (settled_words o (past_decided (Retiring n) (views k) g)) (ghost_of g) d) same_ghost
        (around o.shape o.lanes (origin o) (cells_of o.shape mem) (λ j. sight_of (views j)) (ghost_of g) x.bits k ink (views k).fixed.lane lane_fits.lane n [] in_flight_sight only_it data_only high none_left)

    kept_fits : SightFits o.shape (cells_of o.shape mem) (settled (origin o) ghost) (Flies ghost k) ghost k kept
    kept_fits = subst (λ y. SightFits o.shape (cells_of o.shape mem) (settled (origin o) ghost) (Flies ghost k) ghost k y) between_here (bits_between.each_lane k)

    pub retired : Turn views new k (goes_on_in (Retiring n) (views k)) → World o mem new (past_decided (Retiring n) (views k) g)
    retired t = let l = log_in (Retiring n) e in let v = goes_on_in (Retiring n) (views k) in let g' = past_decided (Retiring n) (views k) g in let a = turned views new k v t in
        world_now (views k).claims (next_log Idle (views k).log) (put1 g.decided n true) g.holder t around_retired
        (unchanged o.shape o.lanes (origin o) (cells_of o.shape mem) between ghost bits_between k ink (sight_of v) (λ j. sight_of (new j)) (ap (λ y. y.hold) (sym between_here)) (λ m y. absurd (subst (λ z. flies_at z.phase m) between_here y))
        (over_idle o.shape (cells_of o.shape mem) (settled (origin o) ghost) (Flies ghost k) ghost k kept kept_fits (empty_fresh Idle) (nothing Idle) unsoiled
        (λ p b q al. (kept_fits.bits p b q).0 al refl (and_false ((sight_of (views k)).logged p)))) (record { here = a.here; else_ = λ j ne. a.else_ j ne ∙ sym (between_else j ne) }))
        (ended o.shape k ((cells_of o.shape mem).generation k) ((cells_of o.shape mem).seal k) ((cells_of o.shape mem).entry k) ((cells_of o.shape mem).slot k) (settled_words o g) (settled_words o g') (owns g.geo (settled_words o g) (sight_of (views k)).hold) (owns g.geo (settled_words o g') (sight_of (views k)).hold) (sight_of (views k)).picture
        (record (views k).log { phase = Retiring n }) (views k).changes l clean l.bump l.sealed l.phase.1 Idle refl refl (refl, refl, refl, refl)) tt (λ w m q. q) (λ t. absurd (both_ways false refl t)) (λ _ p. refl)

pub goes_on_clearing : GoesOnAt Clearing
goes_on_clearing = in_phase Clearing (λ o mem views new g k x ink clean unmade e t. cleared o mem views new g k x ink clean e t)

pub goes_on_voiding : GoesOnAt Voiding
goes_on_voiding = in_phase Voiding (λ o mem views new g k x ink clean unmade e t. voided o mem views new g k x ink clean e t)

pub goes_on_sealing : (n : ℕ) → GoesOnAt (Sealing n)
goes_on_sealing n = in_phase (Sealing n) (λ o mem views new g k x ink clean unmade e t. sealed o mem views new g k x ink clean n unmade e t)

pub goes_on_retiring : (n : ℕ) → GoesOnAt (Retiring n)
goes_on_retiring n = in_phase (Retiring n) (λ o mem views new g k x ink clean unmade e t. retired o mem views new g k x ink clean n e t)

-- IN EACH PHASE
pub goes_on_in_each : (ph : Phase) → GoesOnAt ph
goes_on_in_each Idle = goes_on_idle
goes_on_in_each Open = goes_on_open
goes_on_in_each (Drawn n) = goes_on_drawn n
goes_on_in_each (Sealing n) = goes_on_sealing n
goes_on_in_each (Applying todo) = goes_on_applying todo
goes_on_in_each Clearing = goes_on_clearing
goes_on_in_each (Retiring n) = goes_on_retiring n
goes_on_in_each Voiding = goes_on_voiding

-- ---- A DRAIN KEEPS THE WORLD, since what it drops does
abbrev drop_to : View → List Undrained → View
drop_to v left = record v { claims = Drained left ∷ v.claims; changes = left; calls = Drain ∷ v.calls }

module _ (drop : Drops) (o : Opening) (mem : Memory) (views new : Views) (g : Past) (k : ℕ) (x : World o mem views g) (ink : k < o.lanes) (due : MayCount (views k)) where
  abbrev dropped : Views
  dropped j = cond (j == k) (drops (views k)) (views j)

  dropped_here : dropped k ≡ drops (views k)
  dropped_here = cond-true (k == k) (drops (views k)) (views k) (eq-eqb k k refl)

  dropped_else : (j : ℕ) → j ≢ k → dropped j ≡ views j
  dropped_else j ne = cond-false (j == k) (drops (views k)) (views j) (ne_eqb j k ne)

  decided_drop : (ph : Phase) (v : View) (past : Past) → past_decided ph (drop_to v []) past ≡ past_decided ph v past
  decided_drop Idle v past = refl
  decided_drop Open v past = refl
  decided_drop (Drawn n) v past = refl
  decided_drop (Sealing n) v past = refl
  decided_drop (Applying todo) v past = refl
  decided_drop Clearing v past = refl
  decided_drop (Retiring n) v past = refl
  decided_drop Voiding v past = refl

  drained_all : drained (views k).changes ≡ [] → Turn views new k (drained_to (views k) []) → World o mem new (past_drained g (views k) [])
  drained_all e t = let here : dropped k ≡ drop_to (views k) [] = dropped_here ∙ ap (drop_to (views k)) e in
      let w : World o mem dropped (past_made g (views k) []) = subst (λ l. World o mem dropped (past_made g (views k) l)) e (drop o mem views dropped g k x ink due (record { here = dropped_here; else_ = dropped_else })) in
      subst (World o mem new) (decided_drop (views k).log.phase (views k) (past_made g (views k) [])) (subst (λ v. World o mem new (past_decided v.log.phase v (past_made g (views k) []))) here
      (goes_on_in_each (dropped k).log.phase o mem dropped new (past_made g (views k) []) k w ink (ap (λ v. v.changes) here) (subst (λ v. (c : ℕ) → making v.fixed.shape v.claims c ≡ false) (sym here) (λ c. refl)) refl (record { here = t.here ∙ sym (ap goes_on_to here); else_ = λ j ne. t.else_ j ne ∙ sym (dropped_else j ne) })))

  drained_world : (left : List Undrained) → drained (views k).changes ≡ left → Turn views new k (drained_to (views k) left) → World o mem new (past_drained g (views k) left)
  drained_world [] e t = drained_all e t
  drained_world (u ∷ left) e t = subst (λ l. World o mem new (past_made g (views k) l)) e (drop o mem views new g k x ink due (subst (λ l. Turn views new k (drop_to (views k) l)) (sym e) t))

pub drain_from : Drops → Keeps Drain
drain_from drop o mem new views views' g k x ink law moves t = (subst (λ m. World o m views' (past_drained g (views k) (drained (views k).changes))) (λ i l. sym (moves l) i) (drained_world drop o mem views views' g k x ink (law.due refl) (drained (views k).changes) refl t), tt)

pub drain_keeps : Keeps Drain
drain_keeps = drain_from (λ o mem views new g k x ink due t. dropped_world o mem views new g x k ink due t)
