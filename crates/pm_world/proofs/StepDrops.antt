-- A drain drops flushed changes and makes chunks runs, at the world.
use Rattle.std.specs.Prelude.{[], ◌∷◌, List, length}
use Rattle.std.specs.List.{filter, list_any}
use Rattle.std.proofs.Common.{◌*◌, ◌≡◌, ℕ, suc, ◌+◌, ◌^◌, ◌<◌, ◌≤◌, inl, inr, ⊎_elim, nat_lt, Bool, true, false, cond, not, ◌==◌, ◌&&◌, ◌||◌, refl, sym, ap, ◌∙◌, subst, arith, None}
use Rattle.std.proofs.lemmas.Bool.{cases_Bool, both_ways, eqb-true, and_parts, and_from, or_cases, or_left, or_right, not-true, not_from_false, cond-true, false_from_ne_true}
use Rattle.std.proofs.lemmas.List.Elements.{All-filter}
use Rattle.pm_layout.specs.declared.shape.Shape.{Shape}
use Rattle.pm_layout.specs.Areas.{line_of_slot}
use Rattle.pm_layout.specs.Sizes.{blocks_of}
use Rattle.pm_layout.specs.Chunks.{word_of_descriptor}
use Rattle.std.specs.Int.{bit_at}
use Rattle.pm_view.specs.Changes.{Undrained, is_in_line, is_dirty, is_dirty_bit, drained}
use Rattle.pm_view.specs.Counts.{MayCount, IsAtStop}
use Rattle.pm_view.specs.Places.{Place, InRun, InHuge, Descr, RootWord, Block, Small, Big, Root, block_of, is_data, word_of}
use Rattle.pm_view.specs.Entries.{latest, redos, turn}
use Rattle.pm_view.specs.Log.{Phase, Idle, Open, Drawn, Sealing, Applying, Clearing, Retiring, Voiding, Log, Recorded, old_in}
use Rattle.pm_view.specs.Claims.{Drained, mine, geometry}
use Rattle.pm_world.specs.States.{State, Diff, given, there, Cells}
use Rattle.pm_world.specs.Sights.{Sight, hold_of, is_made, is_recorded, is_slot_drained, is_logged_from, is_logged, is_use, is_soiled, sight_of}
use Rattle.pm_world.specs.Lanes.{owns, is_decided, is_in_making, Flies, SightFits, Bits}
use Rattle.pm_world.specs.Logs.{PhaseFits}
use Rattle.pm_world.specs.Course.{holder_made, past_made}
use Rattle.pm_world.specs.Memory.{Memory, CommitCounter, cells_of}
use Rattle.pm_world.specs.World.{Opening, Views, Past, origin, ghost_of, settled_words, LaneFits, World}
use Rattle.pm_world.specs.Laws.{Turn}
use Rattle.pm_world.proofs.AfterStore.{stop_stays}
use Rattle.pm_world.proofs.Entering.{logged_recorded}
use Rattle.pm_world.proofs.Basics.{and_false}
use Rattle.pm_world.proofs.Counting.{count_same}
use Rattle.pm_world.proofs.Frame.{Around, maker_no_run}
use Rattle.pm_world.proofs.Going.{Turned}
use Rattle.pm_world.proofs.Worlds.{turned, world_after, stops_stay, log_again}
use Rattle.pm_world.proofs.OccWorlds.{data_owned}
use Rattle.pm_world.proofs.Runs.{mine_made, with_runs, holder_with_runs, ghost_with_runs, dropped, Drains, makes_runs}
use Rattle.pm_world.proofs.Stores.{drops}

any_step : {X : Type 0} (p : X → Bool) (y : X) (xs ys : List X) (t : Bool) → (list_any p ys ≡ true → list_any p xs ≡ true) → list_any p (cond t (y ∷ ys) ys) ≡ true → (p y || list_any p xs) ≡ true
any_step p y xs ys true u r = ⊎_elim (λ (a : p y ≡ true). or_left (p y) (list_any p xs) a) (λ (a : list_any p ys ≡ true). or_right (p y) (list_any p xs) (u a)) (or_cases (p y) (list_any p ys) r)
any_step p y xs ys false u r = or_right (p y) (list_any p xs) (u r)

any_less : {X : Type 0} (p q : X → Bool) (xs : List X) → list_any p (filter q xs) ≡ true → list_any p xs ≡ true
any_less p q [] e = e
any_less p q (y ∷ xs) e = any_step p y xs (filter q xs) (q y) (any_less p q xs) e

length_step : {X : Type 0} (y : X) (xs ys : List X) (t : Bool) → length ys ≤ length xs → length (cond t (y ∷ ys) ys) ≤ suc (length xs)
length_step y xs ys true e = omega arith
length_step y xs ys false e = omega arith

length_less : {X : Type 0} (q : X → Bool) (xs : List X) → length (filter q xs) ≤ length xs
length_less q [] = omega arith
length_less q (y ∷ xs) = length_step y xs (filter q xs) (q y) (length_less q xs)

-- records whose slots are drained: a drain leaves no less of them, and they are among the records
more_logged : (sh : Shape) (lane : ℕ) (changes : List Undrained) (j : ℕ) (rs : List Recorded) (p : Place) → is_logged_from sh lane changes j rs p ≡ true → is_logged_from sh lane (drained changes) j rs p ≡ true
more_logged sh lane changes j [] p e = e
more_logged sh lane changes j (r ∷ rs) p e = let m = given (old_in r p) in ⊎_elim
    (λ (a : (m && is_slot_drained sh lane changes j) ≡ true). let y = and_parts m (is_slot_drained sh lane changes j) a in or_left (m && is_slot_drained sh lane (drained changes) j) (is_logged_from sh lane (drained changes) (suc j) rs p) (and_from m (is_slot_drained sh lane (drained changes) j) y.0
    (not_from_false (list_any (is_in_line (line_of_slot sh lane j)) (drained changes)) (false_from_ne_true (list_any (is_in_line (line_of_slot sh lane j)) (drained changes)) (λ z. both_ways (list_any (is_in_line (line_of_slot sh lane j)) changes) (not-true (list_any (is_in_line (line_of_slot sh lane j)) changes) y.1) (any_less (is_in_line (line_of_slot sh lane j)) (λ (c : Undrained). not c.flushed) changes z))))))
    (λ (a : is_logged_from sh lane changes (suc j) rs p ≡ true). or_right (m && is_slot_drained sh lane (drained changes) j) (is_logged_from sh lane (drained changes) (suc j) rs p) (more_logged sh lane changes (suc j) rs p a)) (or_cases (m && is_slot_drained sh lane changes j) (is_logged_from sh lane changes (suc j) rs p) e)

drained_phase : (sh : Shape) (lane : ℕ) (d : Diff) (l : Log) (changes : List Undrained) (ph : Phase) → PhaseFits sh lane d l changes ph → PhaseFits sh lane d l (drained changes) ph
drained_phase sh lane d l changes Idle f = f
drained_phase sh lane d l changes Open f = f
drained_phase sh lane d l changes (Drawn n) f = (ap drained f.0, f.1, f.2)
drained_phase sh lane d l changes (Sealing n) f = f
drained_phase sh lane d l changes (Applying todo) f = f
drained_phase sh lane d l changes Clearing f = f
drained_phase sh lane d l changes (Retiring n) f = f
drained_phase sh lane d l changes Voiding f = f

module _ (o : Opening) (mem : Memory) (views views' : Views) (g : Past) (x : World o mem views g) (k : ℕ) (ink : k < o.lanes) (may : MayCount (views k)) (t : Turn views views' k (drops (views k))) where
  abbrev sights : ℕ → Sight
  sights j = sight_of (views j)

  abbrev cells : Cells
  cells = cells_of o.shape mem

  abbrev S : State
  S = settled_words o g

  abbrev left : List Undrained
  left = drained (views k).changes

  abbrev dirty : ℕ → Bool
  dirty c = is_dirty (drained (views k).changes) (word_of_descriptor (views k).fixed.shape c)

  abbrev lg : Place → Bool
  lg = is_logged (views k).fixed.shape (views k).fixed.lane (drained (views k).changes) (views k).log.records

  abbrev so : Place → ℕ → Bool
  so = is_soiled (views k).fixed.shape (hold_of (views k).fixed.shape (Drained (drained (views k).changes) ∷ (views k).claims)) (drained (views k).changes)

  fl : LaneFits o mem g k (views k)
  fl = x.each_lane k ink

  fk : SightFits o.shape cells S (Flies (ghost_of g) k) (ghost_of g) k (sights k)
  fk = x.bits.each_lane k

  -- data of a block that is found lies in no run in the making
  found_plain : (p : Place) (b : ℕ) → is_data p ≡ true → (sights k).hold.here (block_of g.geo p b) ≡ true → is_in_making (sights k).hold p ≡ false
  found_plain (InRun c w) b e y = false_from_ne_true ((sights k).hold.making c) (λ m. both_ways (g.runs c) (maker_no_run o.shape cells S (Flies (ghost_of g) k) (ghost_of g) x.bits.geo k (sights k) fk c m) (and_parts (g.runs c) (nat_lt (Rattle.pm_view.specs.Places.part (g.geo.class c) w b) (blocks_of (g.geo.class c))) (fk.hold.found (block_of g.geo (InRun c w) b) (fk.hold.here (block_of g.geo (InRun c w) b) y).1).1).0)
  found_plain (InHuge c w) b e y = false_from_ne_true ((sights k).hold.making c) (λ m. let n = fk.hold.mine (Big c) (fk.hold.making c m).0 in both_ways (there S (Big c)) n.2 (subst (λ a. there S (Big a) ≡ true) (eqb-true (g.geo.first c) c n.1) (fk.hold.found (Big (g.geo.first c)) (fk.hold.here (Big (g.geo.first c)) y).1).2))
  found_plain (Descr c) b e y = absurd (both_ways false refl e)
  found_plain RootWord b e y = refl

  recorded_fits : (p : Place) (b : ℕ) → is_decided (views k).log.phase ≡ false → is_recorded (views k).log.records p ≡ true → (owns g.geo S (sights k).hold p b ≡ true) × (is_in_making (sights k).hold p ≡ false) × (given ((sights k).call.fresh p b) ≡ true)
  recorded_fits p b u r = let y = fl.recorded u p r in let z = y.1 b in let made = is_made (turn (latest (redos (views k).log.entries)) (block_of (geometry (views k).fixed.shape (views k).claims) p b)) in
      (data_owned (sights k).hold g.geo S p b y.0 z.0, found_plain p b y.0 z.0, ap given (cond-true (is_data p && (made || is_recorded (views k).log.records p)) ((sights k).picture p b) None (and_from (is_data p) (made || is_recorded (views k).log.records p) y.0 (or_right made (is_recorded (views k).log.records p) r))) ∙ z.1)

  -- a decided call makes no run
  none_made : is_decided (views k).log.phase ≡ true → (p : Place) → is_in_making (sights k).hold p ≡ false
  none_made d (InRun c w) = fl.made d c
  none_made d (InHuge c w) = fl.made d c
  none_made d (Descr c) = fl.made d c
  none_made d RootWord = refl

  kept_of : (p : Place) (b : ℕ) → is_recorded (views k).log.records p ≡ true → owns g.geo S (sights k).hold p b ≡ true → (owns g.geo S (sights k).hold p b ≡ true) × (is_in_making (sights k).hold p ≡ false)
  kept_of p b r w = ⊎_elim (λ (d : is_decided (views k).log.phase ≡ true). (w, none_made d p)) (λ (d : is_decided (views k).log.phase ≡ false). (w, (recorded_fits p b d r).1)) (cases_Bool (is_decided (views k).log.phase))

  fewer : (p : Place) (b : ℕ) → so p b ≡ true → (sights k).soiled p b ≡ true
  fewer p b e = let h' = hold_of (views k).fixed.shape (Drained (drained (views k).changes) ∷ (views k).claims) in let w = word_of (views k).fixed.shape p in
      let y = and_parts (is_use h' p) (is_dirty_bit (drained (views k).changes) w b) e in
      and_from (is_use (sights k).hold p) (is_dirty_bit (views k).changes w b) (used p y.0 y.1) (any_less (λ (c : Undrained). c.word == w && bit_at c.mask b == 1) (λ (c : Undrained). not c.flushed) (views k).changes y.1)
    where
      some_bit : (l : List Undrained) (w : ℕ) → is_dirty_bit l w b ≡ true → is_dirty l w ≡ true
      some_bit [] w e = e
      some_bit (c ∷ l) w e = ⊎_elim (λ (a : (c.word == w && bit_at c.mask b == 1) ≡ true). or_left (c.word == w) (is_dirty l w) (and_parts (c.word == w) (bit_at c.mask b == 1) a).0) (λ (a : is_dirty_bit l w b ≡ true). or_right (c.word == w) (is_dirty l w) (some_bit l w a)) (or_cases (c.word == w && bit_at c.mask b == 1) (is_dirty_bit l w b) e)

      used : (p : Place) → is_use (hold_of (views k).fixed.shape (Drained (drained (views k).changes) ∷ (views k).claims)) p ≡ true → is_dirty_bit (drained (views k).changes) (word_of (views k).fixed.shape p) b ≡ true → is_use (sights k).hold p ≡ true
      used (InRun c w) u d = u
      used (InHuge c w) u d = u
      used (Descr c) u d = ap (λ r. not (r && (sights k).hold.making c)) (sym (some_bit (drained (views k).changes) (word_of_descriptor (views k).fixed.shape c) d)) ∙ u
      used RootWord u d = u

  drains : Drains o.shape o.lanes (origin o) cells sights (ghost_of g) x.bits k ink dirty lg so
  drains = record {
    more = λ p. more_logged (views k).fixed.shape (views k).fixed.lane (views k).changes 0 (views k).log.records p;
    recorded = λ p b u y. recorded_fits p b u (logged_recorded (views k).fixed.shape (views k).fixed.lane (drained (views k).changes) 0 (views k).log.records p y);
    fewer = fewer;
  }

  mine_is : (B : Block) → mine (views k).fixed.shape (Drained (drained (views k).changes) ∷ (views k).claims) B ≡ mine_made (sights k).hold dirty B
  mine_is (Small c i) = refl
  mine_is (Big c) = refl
  mine_is Root = refl

  sight_is : sight_of (drops (views k)) ≡ record (sight_of (views k)) { hold = with_runs (sight_of (views k)).hold dirty; logged = lg; soiled = so }
  sight_is = λ r. record (sight_of (drops (views k))) { hold = record (sight_of (drops (views k))).hold { mine = λ B. mine_is B r } }

  holder_is : (B : Block) → holder_with_runs k (sights k).hold dirty g.holder B ≡ holder_made (views k).fixed.shape (views k).fixed.lane (drained (views k).changes) (views k).claims g.holder B
  holder_is (Small c i) = ap (λ m. cond ((sights k).hold.making c && not (dirty c) && nat_lt i (blocks_of ((sights k).hold.class c))) (suc m) (g.holder (Small c i))) (sym fl.lane)
  holder_is (Big c) = refl
  holder_is Root = refl

  ghost_is : ghost_with_runs k (sights k).hold dirty (ghost_of g) ≡ ghost_of (past_made g (views k) (drained (views k).changes))
  ghost_is = λ r. record (ghost_of (past_made g (views k) (drained (views k).changes))) { holder = λ B. holder_is B r }

  -- A LAWFUL DRAIN DROPS CHANGES AND MAKES RUNS, and keeps the world
  pub dropped_world : World o mem views' (past_made g (views k) (drained (views k).changes))
  dropped_world = let step = makes_runs o.shape o.lanes (origin o) cells sights (ghost_of g) x.bits k ink dirty lg so drains (λ j. sight_of (views' j)) (subst (λ z. Turned sights (λ j. sight_of (views' j)) k z) sight_is (turned views views' k (drops (views k)) t)) in let l = fl.log in
      world_after o mem views g x k ink mem views' (past_made g (views k) (drained (views k).changes)) (settled_words o g) (drops (views k)) refl
      (subst (λ z. Around k (sights k).hold (λ j. (sights j).hold) cells cells S S (ghost_of g) z) ghost_is step.0)
      record { generation = λ j ne. refl; seal = λ j ne. refl; entry = λ j i h ne. refl; slot = λ j m i ne. refl; zone = λ z j ne. refl; entries = λ j ne. refl } t
      (subst (λ z. Bits o.shape o.lanes (origin o) cells (λ j. sight_of (views' j)) z) ghost_is step.1)
      record {
        lane = fl.lane;
        shape = fl.shape;
        lanes = fl.lanes;
        log = log_again ((views k).log.phase) l l.bump l.sealed (λ p m q b. let y = l.olds p m q b in let z = kept_of p b (ap given q) y.0 in (subst (λ w. owns g.geo S w.hold p b ≡ true) (sym sight_is) (dropped o.shape o.lanes (origin o) cells sights (ghost_of g) x.bits k ink dirty p b z.0 z.1), y.1))
            (All-filter (λ (c : Undrained). not c.flushed) (λ (c : Undrained). Rattle.pm_view.specs.Parts.part_of o.shape k c.word ≡ Rattle.pm_view.specs.Parts.SlotPart → c.word < 8 * Rattle.pm_layout.specs.Areas.line_of_slot o.shape k (Rattle.pm_world.specs.Logs.used_slots (views k).log)) (views k).changes l.slot_changes)
            (All-filter (λ (c : Undrained). not c.flushed) (λ (c : Undrained). Rattle.pm_world.specs.Logs.AreaChange (views k).log.phase (length (views k).log.entries) (views k).log.generation (Rattle.pm_view.specs.Parts.part_of o.shape k c.word) c) (views k).changes l.area_changes)
            (drained_phase o.shape k (sights k).picture (views k).log (views k).changes (views k).log.phase l.phase);
        made = λ u c. ap (λ m. dirty c && m) (fl.made u c) ∙ and_false (dirty c);
        recorded = fl.recorded;
        number = fl.number;
        zones = fl.zones;
        masks = All-filter (λ (c : Undrained). not c.flushed) (λ (c : Undrained). (c.mask < 2 ^ 64) × (c.word < Rattle.pm_layout.specs.Chunks.words_of o.shape)) (views k).changes fl.masks;
        room = let a = length_less (λ (c : Undrained). not c.flushed) (views k).changes in let b = fl.room in omega arith;
        within = λ s e. let a = may s e in omega arith;
        alone = λ one. let a = fl.alone one in record { words = a.words; occupancy = a.occupancy };
        entries = fl.entries;
      }
      x.of_lanes x.small x.header (subst (λ n. mem CommitCounter + n < Rattle.pm_layout.specs.Areas.greatest_generation o.shape + 32) (sym (count_same views views' k (drops (views k)) t refl o.lanes)) x.counter_room)
      (⊎_elim (λ (e : mem Rattle.pm_world.specs.Memory.StopWord ≡ 0). inl e) (λ (e : (j : ℕ) × (j < o.lanes) × IsAtStop (views j)). inr (e.0, e.1, stops_stay views views' k (drops (views k)) t (stop_stays (views k).fixed.stop (length (views k).calls)) e.0 e.2)) x.stop_word)
