-- THE WORLD GOES ON: what a step of lane k owes of words, views and ghosts beside the bits.
use Rattle.std.specs.Prelude.{List, [], ◌∷◌, All, length, slice_index}
use Rattle.std.proofs.Common.{◌≡◌, ◌≢◌, ℕ, zero, suc, ◌+◌, ◌^◌, ◌<◌, ◌≤◌, ◌⊎◌, ⊎_elim, Bool, true, false, cond, ne_eqb, ◌==◌, refl, sym, ap, ◌∙◌, subst, arith, ◌*◌, Some}
use Rattle.std.proofs.lemmas.Bool.{cases_eq, eqb-true, eq-eqb, both_ways, false_from_ne_true}
use Rattle.pm_layout.specs.declared.shape.Shape.{Shape}
use Rattle.pm_record.specs.Undo.{undo_of}
use Rattle.pm_view.specs.Counts.{IsAtStop}
use Rattle.pm_view.specs.Changes.{Undrained}
use Rattle.pm_view.specs.Log.{Phase, Idle, Open, Drawn, Sealing, Applying, Clearing, Retiring, Voiding, Log, old_of}
use Rattle.pm_view.specs.Parts.{SlotPart, part_of}
use Rattle.pm_layout.specs.Areas.{greatest_generation, undo_slots, slot_words, redo_entries, word_of_generation, word_of_seal, word_of_entry, line_of_slot}
use Rattle.std.proofs.lemmas.Option.{slice_get_within}
use Rattle.pm_view.specs.Places.{Place, block_of}
use Rattle.pm_view.specs.View.{View}
use Rattle.pm_world.specs.States.{State, Diff, there}
use Rattle.pm_world.specs.Sights.{is_recorded, sight_of}
use Rattle.pm_world.specs.Lanes.{has, owns, is_decided, Flies, SightFits, Bits}
use Rattle.pm_world.specs.Logs.{used_slots, seal_in, BumpFits, OldFits, AreaChange, PhaseFits, LogFits}
use Rattle.pm_world.specs.Memory.{Memory, PoolWord, ZoneLock, CommitCounter, StopWord, cells_of}
use Rattle.pm_world.specs.World.{Opening, Views, Past, origin, ghost_of, settled_words, numbered_by, AreaFits, LaneFits, may_draw_count, is_header, World}
use Rattle.pm_world.specs.Laws.{Turn}
use Rattle.pm_world.proofs.Frame.{Around, found_has, block_kept, owned_kept, bit_away, owns_apart}
use Rattle.pm_world.proofs.Going.{Turned}

-- fewer words are stored of the next record, of the next entry, than it has
pub parts_short : (sh : Shape) (lane : ℕ) (picture : Diff) (l : Log) (changes : List Undrained) (ph : Phase) → PhaseFits sh lane picture l changes ph → (length l.slot < 8) × (length l.pair < 2)
parts_short sh lane picture l changes Idle f = let a = ap length f.2 in let b = ap length f.3 in (omega arith, omega arith)
parts_short sh lane picture l changes Open f = f
parts_short sh lane picture l changes (Drawn n) f = let a = ap length f.1 in let b = ap length f.2 in (omega arith, omega arith)
parts_short sh lane picture l changes (Sealing n) f = let a = ap length f.1 in let b = ap length f.2 in (omega arith, omega arith)
parts_short sh lane picture l changes (Applying todo) f = let a = ap length f.2 in let b = ap length f.3 in (omega arith, omega arith)
parts_short sh lane picture l changes Clearing f = let a = ap length f.1 in let b = ap length f.2 in (omega arith, omega arith)
parts_short sh lane picture l changes (Retiring n) f = let a = ap length f.1 in let b = ap length f.2 in (omega arith, omega arith)
parts_short sh lane picture l changes Voiding f = let a = ap length f.1 in let b = ap length f.2 in (omega arith, omega arith)

-- a record in the making has a slot
pub slot_taken : (l : Log) (i : ℕ) → i < length l.slot → used_slots l ≡ length l.records + 1
slot_taken l i q = ap (λ t. length l.records + cond t 0 1) (ne_eqb (length l.slot) 0 (λ e. omega arith))

-- A LOG IN THIS PHASE, where the words of its area are as they were
pub log_again : {sh : Shape} {lane generation seal : ℕ} {entry slot : ℕ → ℕ → ℕ} {S S' : State} {owned owned' : Place → ℕ → Bool} {d d' : Diff} {l : Log} {changes changes' : List Undrained} (ph : Phase)
    → LogFits sh lane generation seal entry slot S owned d l changes → BumpFits ph l.bumped → seal ≡ seal_in ph (length l.entries) → ((p : Place) (y : ℕ) → old_of l.records p ≡ Some y → OldFits (is_decided ph) S' owned' p y)
    → All (λ (c : Undrained). part_of sh lane c.word ≡ SlotPart → c.word < 8 * line_of_slot sh lane (used_slots l)) changes' → All (λ (c : Undrained). AreaChange ph (length l.entries) l.generation (part_of sh lane c.word) c) changes'
    → PhaseFits sh lane d' (record l { phase = ph }) changes' ph → LogFits sh lane generation seal entry slot S' owned' d' (record l { phase = ph }) changes'
log_again ph f bump sealed olds slots area phase = record {
  first = f.first;
  last = f.last;
  below = f.below;
  stored = f.stored;
  bump = bump;
  sealed = sealed;
  entries_most = f.entries_most;
  records_most = f.records_most;
  pairs = f.pairs;
  pair_part = f.pair_part;
  records = f.records;
  once = f.once;
  olds = olds;
  slot_part = f.slot_part;
  stale = f.stale;
  slot_changes = slots;
  area_changes = area;
  phase = phase;
}

-- the log over other words that are the same
abbrev LogIn : Shape → ℕ → (ℕ → ℕ) → State → (Place → ℕ → Bool) → Diff → Log → List Undrained → Type 0
LogIn sh k u S owned d l changes = LogFits sh k (u (word_of_generation sh k)) (u (word_of_seal sh k)) (λ i h. u (word_of_entry sh k i + h)) (λ j i. u (8 * line_of_slot sh k j + i)) S owned d l changes

pub log_moved : (sh : Shape) (k : ℕ) (old now : ℕ → ℕ) {S : State} {owned : Place → ℕ → Bool} {d : Diff} {l : Log} {changes : List Undrained} → ((w : ℕ) → now w ≡ old w) → LogIn sh k old S owned d l changes → LogIn sh k now S owned d l changes
log_moved sh k old now {S} {owned} {d} {l} {changes} e f = subst (λ u. LogIn sh k u S owned d l changes) (λ i w. sym (e w) i) f

-- what the step leaves of the other lanes' areas, zone locks and entries
pub record Aside (o : Opening) (k : ℕ) (mem new : Memory) (g g' : Past) : Type 0 where
  pub generation : (j : ℕ) → j ≢ k → (cells_of o.shape new).generation j ≡ (cells_of o.shape mem).generation j
  pub seal : (j : ℕ) → j ≢ k → (cells_of o.shape new).seal j ≡ (cells_of o.shape mem).seal j
  pub entry : (j i half : ℕ) → j ≢ k → (cells_of o.shape new).entry j i half ≡ (cells_of o.shape mem).entry j i half
  pub slot : (j m i : ℕ) → j ≢ k → (cells_of o.shape new).slot j m i ≡ (cells_of o.shape mem).slot j m i
  pub zone : (z j : ℕ) → j ≢ k → (new (ZoneLock z) == suc j) ≡ (mem (ZoneLock z) == suc j)
  pub entries : (j : ℕ) → j ≢ k → numbered_by j g'.drew g'.length ≡ numbered_by j g.drew g.length

-- the same of the areas of the pool's lanes alone, and of the entries and slots that a lane has
pub record AreasAside (o : Opening) (k : ℕ) (mem new : Memory) (g g' : Past) : Type 0 where
  pub generation : (j : ℕ) → j < o.shape.lanes → j ≢ k → (cells_of o.shape new).generation j ≡ (cells_of o.shape mem).generation j
  pub seal : (j : ℕ) → j < o.shape.lanes → j ≢ k → (cells_of o.shape new).seal j ≡ (cells_of o.shape mem).seal j
  pub entry : (j i half : ℕ) → j < o.shape.lanes → i ≤ redo_entries o.shape → half < 2 → j ≢ k → (cells_of o.shape new).entry j i half ≡ (cells_of o.shape mem).entry j i half
  pub slot : (j m i : ℕ) → j < o.shape.lanes → m < undo_slots o.shape → i < slot_words o.shape → j ≢ k → (cells_of o.shape new).slot j m i ≡ (cells_of o.shape mem).slot j m i
  pub zone : (z j : ℕ) → j ≢ k → (new (ZoneLock z) == suc j) ≡ (mem (ZoneLock z) == suc j)
  pub entries : (j : ℕ) → j ≢ k → numbered_by j g'.drew g'.length ≡ numbered_by j g.drew g.length

pub areas_aside : (o : Opening) (k : ℕ) (mem new : Memory) (g g' : Past) → Aside o k mem new g g' → AreasAside o k mem new g g'
areas_aside o k mem new g g' a = record { generation = λ j _ ne. a.generation j ne; seal = λ j _ ne. a.seal j ne; entry = λ j i h _ _ _ ne. a.entry j i h ne; slot = λ j m i _ _ _ ne. a.slot j m i ne; zone = a.zone; entries = a.entries }

pub turned : (views views' : Views) (k : ℕ) (v : View) → Turn views views' k v → Turned (λ j. sight_of (views j)) (λ j. sight_of (views' j)) k (sight_of v)
turned views views' k v t = record { here = ap sight_of t.here; else_ = λ j ne. ap sight_of (t.else_ j ne) }

module _ (o : Opening) (mem : Memory) (views : Views) (g : Past) (x : World o mem views g) (k : ℕ) (ink : k < o.lanes) where
  abbrev S : State
  S = settled_words o g

  -- ANOTHER LANE'S LOG STAYS, AND ITS FACTS
  pub log_stays : (new : Memory) (g' : Past) (S' : State) → settled_words o g' ≡ S' → Around k (sight_of (views k)).hold (λ j. (sight_of (views j)).hold) (cells_of o.shape mem) (cells_of o.shape new) (settled_words o g) S' (ghost_of g) (ghost_of g') → AreasAside o k mem new g g'
      → (j : ℕ) → j ≢ k → j < o.shape.lanes → AreaFits o mem g j (views j) → AreaFits o new g' j (views j)
  log_stays new g' S' e m a j ne most_ l = subst (λ s. LogFits o.shape j ((cells_of o.shape new).generation j) ((cells_of o.shape new).seal j) ((cells_of o.shape new).entry j) ((cells_of o.shape new).slot j) s (owns g'.geo s (sight_of (views j)).hold) (sight_of (views j)).picture (views j).log (views j).changes) (sym e) record {
    first = l.first;
    last = l.last;
    below = l.below;
    stored = a.generation j most_ ne ∙ l.stored;
    bump = l.bump;
    sealed = a.seal j most_ ne ∙ l.sealed;
    entries_most = l.entries_most;
    records_most = l.records_most;
    pairs = λ i y q. let t = l.pairs i y q in let r = slice_get_within (views j).log.entries i y q in let most = l.entries_most in (a.entry j i 0 most_ (omega arith) (omega arith) ne ∙ t.0, a.entry j i 1 most_ (omega arith) (omega arith) ne ∙ t.1, t.2, t.3);
    pair_part = λ i q. let r = parts_short o.shape j (sight_of (views j)).picture (views j).log (views j).changes (views j).log.phase l.phase in let most = l.entries_most in a.entry j (length (views j).log.entries) i most_ (omega arith) (omega arith) ne ∙ l.pair_part i q;
    records = λ i r q. let t = l.records i r q in let n = slice_get_within (views j).log.records i r q in let most = l.records_most in (λ y z. a.slot j i y most_ (omega arith) z ne ∙ t.0 y z, t.1, t.2, t.3, t.4, t.5);
    once = l.once;
    olds = λ p y q b. let t = l.olds p y q b in (owned p b t.0, λ u. m.set p b (away p b t.0) ∙ t.1 u);
    slot_part = λ i q. let r = parts_short o.shape j (sight_of (views j)).picture (views j).log (views j).changes (views j).log.phase l.phase in let most = slot_taken (views j).log i q in let n = l.records_most in a.slot j (length (views j).log.records) i most_ (omega arith) (omega arith) ne ∙ l.slot_part i q;
    stale = λ i u q z t. l.stale i u q z (sym (ap undo_of (slots i z)) ∙ t);
    slot_changes = l.slot_changes;
    area_changes = l.area_changes;
    phase = l.phase;
  }
    where
      fit : (i : ℕ) → SightFits o.shape (cells_of o.shape mem) (settled_words o g) (Flies (ghost_of g) i) (ghost_of g) i (sight_of (views i))
      fit i = x.bits.each_lane i

      owned : (p : Rattle.pm_view.specs.Places.Place) (b : ℕ) → owns g.geo (settled_words o g) (sight_of (views j)).hold p b ≡ true → owns g'.geo S' (sight_of (views j)).hold p b ≡ true
      owned = owned_kept o.shape k (sight_of (views k)) (λ i. (sight_of (views i)).hold) (cells_of o.shape mem) (cells_of o.shape new) (settled_words o g) S' (ghost_of g) (ghost_of g') x.bits.geo x.bits.alone (fit k) m j ne (sight_of (views j)) refl (fit j)

      away : (p : Rattle.pm_view.specs.Places.Place) (b : ℕ) → owns g.geo (settled_words o g) (sight_of (views j)).hold p b ≡ true → owns g.geo (settled_words o g) (sight_of (views k)).hold p b ≡ false
      away = bit_away o.shape k (sight_of (views k)) (λ i. (sight_of (views i)).hold) (cells_of o.shape mem) (cells_of o.shape new) (settled_words o g) S' (ghost_of g) (ghost_of g') x.bits.geo x.bits.alone (fit k) m j ne (sight_of (views j)) refl (fit j)

      slots : (i : ℕ) → i < undo_slots o.shape → Rattle.pm_world.specs.Logs.slot_list ((cells_of o.shape new).slot j i) ≡ Rattle.pm_world.specs.Logs.slot_list ((cells_of o.shape mem).slot j i)
      slots i l = λ t. at 0 (omega arith) t ∷ at 1 (omega arith) t ∷ at 2 (omega arith) t ∷ at 3 (omega arith) t ∷ at 4 (omega arith) t ∷ at 5 (omega arith) t ∷ at 6 (omega arith) t ∷ at 7 (omega arith) t ∷ []
        where
          at : (y : ℕ) → y < 8 → (cells_of o.shape new).slot j i y ≡ (cells_of o.shape mem).slot j i y
          at y q = a.slot j i y most_ l q ne

  pub lane_stays : (new : Memory) (g' : Past) (S' : State) → settled_words o g' ≡ S' → Around k (sight_of (views k)).hold (λ j. (sight_of (views j)).hold) (cells_of o.shape mem) (cells_of o.shape new) (settled_words o g) S' (ghost_of g) (ghost_of g') → AreasAside o k mem new g g'
      → (j : ℕ) → j ≢ k → j < o.lanes → LaneFits o new g' j (views j)
  lane_stays new g' S' e m a j ne inj = let f = x.each_lane j inj in record {
    lane = f.lane;
    shape = f.shape;
    lanes = f.lanes;
    log = log_stays new g' S' e m a j ne (let most = x.most_lanes in omega arith) f.log;
    made = f.made;
    recorded = λ u p q. let y = f.recorded u p q in (y.0, λ b. let z = y.1 b in (subst (λ B. (sight_of (views j)).hold.here B ≡ true) (sym (block p b (found_has (sight_of (views j)).hold (block_of g.geo p b) ((x.bits.each_lane j).hold.here (block_of g.geo p b) z.0).1))) z.0, z.1));
    number = f.number;
    zones = λ z. a.zone z j ne ∙ f.zones z;
    masks = f.masks;
    room = f.room;
    within = f.within;
    alone = λ one. absurd (omega arith);
    entries = f.entries ∙ sym (a.entries j ne);
  }
    where
      block : (p : Rattle.pm_view.specs.Places.Place) (b : ℕ) → has (sight_of (views j)).hold (block_of g.geo p b) ≡ true → block_of g'.geo p b ≡ block_of g.geo p b
      block = block_kept o.shape k (sight_of (views k)) (λ i. (sight_of (views i)).hold) (cells_of o.shape mem) (cells_of o.shape new) (settled_words o g) S' (ghost_of g) (ghost_of g') x.bits.geo x.bits.alone (x.bits.each_lane k) m j ne (sight_of (views j)) refl (x.bits.each_lane j)

  -- THE WORLD AFTER THE STEP
  pub world_with : (new : Memory) (views' : Views) (g' : Past) (S' : State) (v : View) → settled_words o g' ≡ S'
      → Around k (sight_of (views k)).hold (λ j. (sight_of (views j)).hold) (cells_of o.shape mem) (cells_of o.shape new) (settled_words o g) S' (ghost_of g) (ghost_of g') → AreasAside o k mem new g g' → Turn views views' k v
      → Bits o.shape o.lanes (origin o) (cells_of o.shape new) (λ j. sight_of (views' j)) (ghost_of g') → LaneFits o new g' k v
      → ((n : ℕ) → n < g'.length → (g'.drew n).fixed.lane < o.lanes) → ((w : ℕ) → new (PoolWord w) < 2 ^ 64) → ((w : ℕ) → is_header o.shape w ≡ true → new (PoolWord w) ≡ slice_index o.words w)
      → new CommitCounter + may_draw_count views' o.lanes < greatest_generation o.shape + 32 → ((new StopWord ≡ 0) ⊎ ((j : ℕ) × (j < o.lanes) × IsAtStop (views' j))) → World o new views' g'
  world_with new views' g' S' v e m a t bits f of_lanes small header room stop = record {
    some_lanes = x.some_lanes;
    most_lanes = x.most_lanes;
    few_lanes = x.few_lanes;
    size = x.size;
    bits = bits;
    each_lane = λ j inj. ⊎_elim (λ (q : j ≡ k). subst (λ i. LaneFits o new g' i (views' i)) (sym q) (subst (λ y. LaneFits o new g' k y) (sym t.here) f)) (λ (ne : j ≢ k). subst (λ y. LaneFits o new g' j y) (sym (t.else_ j ne)) (lane_stays new g' S' e m a j ne inj)) (cases_eq j k);
    logs_beyond = λ j out inj. let ne : j ≢ k = λ q. omega arith in subst (AreaFits o new g' j) (sym (t.else_ j ne)) (log_stays new g' S' e m a j ne inj (x.logs_beyond j out inj));
    idle_beyond = λ j out. subst (λ y. (y.changes ≡ []) × (y.log.phase ≡ Idle) × (y.claims ≡ [])) (sym (t.else_ j (λ q. omega arith))) (x.idle_beyond j out);
    of_lanes = of_lanes;
    small = small;
    header = header;
    counter_room = room;
    zone_locks = λ z. locked_by z (new (ZoneLock z)) refl;
    stop_word = stop;
  }
    where
      locked_by : (z n : ℕ) → new (ZoneLock z) ≡ n → new (ZoneLock z) ≤ o.lanes
      locked_by z zero e = omega arith
      locked_by z (suc j) e = ⊎_elim (λ (q : j ≡ k). omega arith) (λ (ne : j ≢ k). let y = eqb-true (mem (ZoneLock z)) (suc j) (sym (a.zone z j ne) ∙ eq-eqb (new (ZoneLock z)) (suc j) e) in let l = x.zone_locks z in omega arith) (cases_eq j k)

  -- the same
  pub world_after : (new : Memory) (views' : Views) (g' : Past) (S' : State) (v : View) → settled_words o g' ≡ S'
      → Around k (sight_of (views k)).hold (λ j. (sight_of (views j)).hold) (cells_of o.shape mem) (cells_of o.shape new) (settled_words o g) S' (ghost_of g) (ghost_of g') → Aside o k mem new g g' → Turn views views' k v
      → Bits o.shape o.lanes (origin o) (cells_of o.shape new) (λ j. sight_of (views' j)) (ghost_of g') → LaneFits o new g' k v
      → ((n : ℕ) → n < g'.length → (g'.drew n).fixed.lane < o.lanes) → ((w : ℕ) → new (PoolWord w) < 2 ^ 64) → ((w : ℕ) → is_header o.shape w ≡ true → new (PoolWord w) ≡ slice_index o.words w)
      → new CommitCounter + may_draw_count views' o.lanes < greatest_generation o.shape + 32 → ((new StopWord ≡ 0) ⊎ ((j : ℕ) × (j < o.lanes) × IsAtStop (views' j))) → World o new views' g'
  world_after new views' g' S' v e m a t = world_with new views' g' S' v e m (areas_aside o k mem new g g' a) t

-- a lane that is at its stop number stays so
pub stops_stay : (views views' : Views) (k : ℕ) (v : View) → Turn views views' k v → (IsAtStop (views k) → IsAtStop v) → (j : ℕ) → IsAtStop (views j) → IsAtStop (views' j)
stops_stay views views' k v t stops j e = ⊎_elim (λ (q : j ≡ k). subst (λ i. IsAtStop (views' i)) (sym q) (subst IsAtStop (sym t.here) (stops (subst (λ i. IsAtStop (views i)) q e)))) (λ (ne : j ≢ k). subst IsAtStop (sym (t.else_ j ne)) e) (cases_eq j k)

-- no bit is owned by two lanes
pub rights_apart : Rattle.pm_world.specs.Laws.RightsApart
rights_apart o mem views g x j k ne = owns_apart o.shape (cells_of o.shape mem) (settled_words o g) (Flies (ghost_of g) j) (Flies (ghost_of g) k) (ghost_of g) x.bits.geo x.bits.alone j k (sight_of (views j)) (sight_of (views k)) (x.bits.each_lane j) (x.bits.each_lane k) ne

-- NO WORD OF A BLOCK OF ITS OWN IS RECORDED by a lane whose call is not decided: a record is of what the lane found, and that is allocated
pub own_unrecorded : (o : Opening) (mem : Memory) (views : Views) (g : Past) → World o mem views g → (k : ℕ) → k < o.lanes → is_decided (views k).log.phase ≡ false → (p : Place) (b : ℕ) → (sight_of (views k)).hold.mine (block_of g.geo p b) ≡ true
    → is_recorded (views k).log.records p ≡ false
own_unrecorded o mem views g x k ink u p b m = let hold = (x.bits.each_lane k).hold in let B = block_of g.geo p b in false_from_ne_true (is_recorded (views k).log.records p) (λ r.
    both_ways (there (settled_words o g) B) (hold.mine B m).2 (hold.found B (hold.here B ((((x.each_lane k ink).recorded u p r).1 b).0)).1).2)
