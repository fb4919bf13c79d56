-- A lane's generation and its undrained slot words along its course: while a log is written its generation can be raised, and what is undrained
-- of slots is of the log's records or of the one in the making.
use Rattle.std.proofs.Common.{◌≡◌, ◌≢◌, ◌⊎◌, ⊎_elim, inl, inr, IsTrue, ℕ, ◌+◌, ◌*◌, ◌<◌, ◌≤◌, Bool, true, false, leb, ltb, cond, ◌/◌, not, take, List, [], ◌∷◌, ◌++◌, length, slice_index, is_some, refl, sym, ◌∙◌, ap, subst, arith, bit_or, bit_and}
use Rattle.std.specs.List.{Contains}
use Rattle.std.proofs.lemmas.Bool.{and_from, false≢true, le-leb, lt-ltb}
use Rattle.std.proofs.lemmas.List.{length-append}
use Rattle.std.proofs.lemmas.List.Elements.{All-contains, Contains-append_cases}
use Rattle.pm_record.specs.declared.redo.Op.TheVariants as op
use Rattle.pm_image.proofs.Members.{member_kept, member_made, no_member, only_member}
use Rattle.pm_record.specs.declared.redo.Op.{Op}
use Rattle.solo_view.specs.declared.change.Change.{Change}
use Rattle.solo_view.specs.Area.{Part, area_word, is_in_area, part_of}
use Rattle.solo_view.specs.Area.Part.{EntryWord, GenerationWord, OtherWord, SealWord, SlotWord}
use Rattle.solo_view.specs.Changes.{drained, flushed, is_in_line, mark, store_change, or_change, and_change}
use Rattle.solo_view.specs.Held.{is_reserved}
use Rattle.solo_view.specs.Log.{Final, Log, Phase, Recorded, log_drained, log_drawn, log_stored, phase_drawn, with_pair, with_slot, log_changed}
use Rattle.solo_view.specs.Log.Phase.{Idle, Open, Drawn, Sealing, Applying, Clearing, Retiring}
use Rattle.solo_view.specs.Rights.{is_written}
use Rattle.solo_view.specs.Steps.{Step}
use Rattle.solo_view.specs.Steps.Step.{Load, Store, Or, And, Flush, Drain, TakeWrite, TakeRead, Raise, Give, ZoneTry, ZoneGive, Occupied, Occupy, Vacate, Draw, NumberSeen, StopSeen, SetStop, Tell}
use Rattle.solo_view.specs.View.{View}
use Rattle.solo_view.specs.Views.{after, begun, changed, log_after_drain}
use Rattle.solo_world.specs.Entries.{ends_with, set_word}
use Rattle.solo_world.specs.Fits.{LaneFits, OpenFits, PhaseFits, SealingFits}
use Rattle.solo_world.specs.History.{Entry, Flies, settled}
use Rattle.solo_world.specs.Lawful.{FilledChange, MayWrite, IsLawful, IsNextEntry, StoreFits, generation_limit, MayChange}
use Rattle.solo_world.specs.Memory.{Memory}
use Rattle.solo_world.specs.Memory.Location.{PoolWord}
use Rattle.solo_world.specs.Moves.{Moves}
use Rattle.solo_world.specs.Opening.{Opening}
use Rattle.solo_world.specs.Records.{generation_of, is_recorded}
use Rattle.solo_world.specs.World.{Views, World}
use Rattle.solo_world.proofs.CrashLogs.{InSlots, logged_recorded}
use Rattle.solo_world.proofs.CrashWords.{behind_areas, reserved_word}
use Rattle.solo_world.proofs.Exclusion.{writes_under}
use Rattle.solo_world.proofs.Filled.{filled_behind}
use Rattle.solo_world.proofs.Locations.{other_occ, other_zone_lock, plain_pool, other_pool, pool-counter, pool-lock, pool-stop}
use Rattle.solo_world.proofs.Parts.{generation_part, seal_part}
use Rattle.solo_world.proofs.StepChange.{changes_next, changes_written}
use Rattle.solo_world.proofs.StoreEntry.{next_entry}
use Rattle.solo_world.proofs.Reserved.{describing_reserved}

-- nothing of the log is written yet
pub record IsUnwritten (v : View) (slot : List ℕ) : Type 0 where
  pub no_records : v.log.records ≡ []
  pub no_entries : v.log.entries ≡ []
  pub no_slot : slot ≡ []

-- undrained slot words are those of the records and of the slot in the making
abbrev pub SlotsFit : View → List ℕ → Type 0
SlotsFit v slot = (c : Change) → Contains v.changes c → InSlots v.lane c.word → c.word < area_word v.lane + 136 + 8 * length v.log.records + length slot

-- the generation g, by how far the call has come
abbrev pub InRange : ℕ → View → Phase → Type 0
InRange g v (Open slot pair) = ((g < generation_limit) ⊎ IsUnwritten v slot) × SlotsFit v slot
InRange g v Drawn = g < generation_limit
InRange g v (Applying applied) = applied ≡ length v.log.entries → 2 ≤ g
InRange g v Clearing = 2 ≤ g
InRange g v Retiring = 2 ≤ g
InRange g v phase = Unit {0}

-- the changes are some of the others, by their words
pub record Among (changes others : List Change) : Type 0 where
  pub none : others ≡ [] → changes ≡ []
  pub from : (c : Change) → Contains changes c → (d : Change) × Contains others d × (d.word ≡ c.word)

pub carried : (g g' : ℕ) (v v' : View) (phase : Phase) → g' ≡ g → v'.lane ≡ v.lane → v'.log.records ≡ v.log.records → v'.log.entries ≡ v.log.entries → Among v'.changes v.changes → InRange g v phase → InRange g' v' phase
carried g g' v v' Idle same lane records entries among range = tt
carried g g' v v' (Open slot pair) same lane records entries among range = (
  ⊎_elim (λ (low : g < generation_limit). inl (subst (λ n. n < generation_limit) (sym same) low))
      (λ (un : IsUnwritten v slot). inr (record { no_records = records ∙ un.no_records; no_entries = entries ∙ un.no_entries; no_slot = un.no_slot })) range.0,
  λ c there slots.
      let d = among.from c there in
      let is : d.0.word ≡ c.word = d.2 in
      let at : InSlots v.lane d.0.word = subst (λ n. InSlots n d.0.word) lane (subst (InSlots v'.lane) (sym is) slots) in
      let low = range.1 d.0 d.1 at in
      let count : length v'.log.records ≡ length v.log.records = ap length records in
      omega (arith, low, is, lane, count),
)
carried g g' v v' Drawn same lane records entries among range = subst (λ n. n < generation_limit) (sym same) range
carried g g' v v' Sealing same lane records entries among range = tt
carried g g' v v' (Applying applied) same lane records entries among range = λ all. subst (λ n. 2 ≤ n) (sym same) (range (all ∙ ap length entries))
carried g g' v v' Clearing same lane records entries among range = subst (λ n. 2 ≤ n) (sym same) range
carried g g' v v' Retiring same lane records entries among range = subst (λ n. 2 ≤ n) (sym same) range

pub all_of : (changes : List Change) → Among changes changes
all_of changes = record { none = λ e. e; from = λ c there. (c, there, refl) }

marked_word : (line : ℕ) (c : Change) (b : Bool) → (cond b (record c { flushed = true }) c).word ≡ c.word
marked_word line c true = refl
marked_word line c false = refl

flushed_of : (line : ℕ) (changes : List Change) → Among (flushed line changes) changes
flushed_of line changes = record {
  none = λ e. ap (flushed line) e;
  from = λ c there.
      let d = member_made (mark line) changes c there in
      (d.0, d.1.0, sym (marked_word line d.0 (is_in_line line d.0)) ∙ ap (λ (x : Change). x.word) d.1.1);
}

drained_of : (changes : List Change) → Among (drained changes) changes
drained_of changes = record {
  none = λ e. ap drained e;
  from = λ c there. (c, member_kept (λ (d : Change). not d.flushed) changes c there, refl);
}

-- a word more in the slot: a record more, or a longer slot
pub record Slotted (log : Log) (s pair : List ℕ) : Type 0 where
  pub slot : List ℕ
  pub is_open : (with_slot log s pair).phase ≡ Open slot pair
  pub count : 8 * length (with_slot log s pair).records + length slot ≡ 8 * length log.records + length s

pub slotted : (log : Log) (s pair : List ℕ) → Slotted log s pair
slotted log [] pair = record { slot = []; is_open = refl; count = refl }
slotted log (a ∷ []) pair = record { slot = a ∷ []; is_open = refl; count = refl }
slotted log (a ∷ b ∷ []) pair = record { slot = a ∷ b ∷ []; is_open = refl; count = refl }
slotted log (a ∷ b ∷ c ∷ []) pair = record { slot = a ∷ b ∷ c ∷ []; is_open = refl; count = refl }
slotted log (a ∷ b ∷ c ∷ d ∷ []) pair = record { slot = a ∷ b ∷ c ∷ d ∷ []; is_open = refl; count = refl }
slotted log (a ∷ b ∷ c ∷ d ∷ e ∷ []) pair = record { slot = a ∷ b ∷ c ∷ d ∷ e ∷ []; is_open = refl; count = refl }
slotted log (a ∷ b ∷ c ∷ d ∷ e ∷ f ∷ []) pair = record { slot = a ∷ b ∷ c ∷ d ∷ e ∷ f ∷ []; is_open = refl; count = refl }
slotted log (a ∷ b ∷ c ∷ d ∷ e ∷ f ∷ g ∷ []) pair = record { slot = a ∷ b ∷ c ∷ d ∷ e ∷ f ∷ g ∷ []; is_open = refl; count = refl }
slotted log (a ∷ b ∷ c ∷ d ∷ e ∷ f ∷ g ∷ h ∷ []) pair =
    let more = length-append log.records (record { word = b / 8; old = take c (d ∷ e ∷ f ∷ g ∷ []) } ∷ []) in record { slot = []; is_open = refl; count = omega (arith, more) }
slotted log (a ∷ b ∷ c ∷ d ∷ e ∷ f ∷ g ∷ h ∷ i ∷ s) pair = record { slot = a ∷ b ∷ c ∷ d ∷ e ∷ f ∷ g ∷ h ∷ i ∷ s; is_open = refl; count = refl }

-- a word more in the pair: an entry more, or a longer pair
pub record Paired (log : Log) (slot s : List ℕ) : Type 0 where
  pub pair : List ℕ
  pub is_open : (with_pair log slot s).phase ≡ Open slot pair
  pub same : (with_pair log slot s).records ≡ log.records

pub paired : (log : Log) (slot s : List ℕ) → Paired log slot s
paired log slot [] = record { pair = []; is_open = refl; same = refl }
paired log slot (a ∷ []) = record { pair = a ∷ []; is_open = refl; same = refl }
paired log slot (a ∷ b ∷ []) = record { pair = []; is_open = refl; same = refl }
paired log slot (a ∷ b ∷ c ∷ s) = record { pair = a ∷ b ∷ c ∷ s; is_open = refl; same = refl }

drawn_range : (g : ℕ) (v : View) (records : List Recorded) (entries : List Final) → g < generation_limit → InRange g v (phase_drawn records entries)
drawn_range g v [] [] low = tt
drawn_range g v [] (f ∷ entries) low = low
drawn_range g v (r ∷ records) entries low = low

module _ (o : Opening) (mem : Memory) (views : Views) (log : List Entry) (decided : ℕ → Bool) (x : World o mem views log decided) (k : ℕ) (inside : k < o.lanes) where
  abbrev v : View
  v = views k

  fits : LaneFits o mem (settled o log decided) (Flies log decided k) k v
  fits = x.each_lane k inside

  pub generation_is : mem (PoolWord (area_word k)) ≡ generation_of v
  generation_is =
      let at = fits.lane.lane in
      let here : is_in_area v.lane (area_word v.lane) ≡ true = and_from (leb (area_word v.lane) (area_word v.lane)) (ltb (area_word v.lane) (area_word v.lane + 1024)) (le-leb (area_word v.lane) (area_word v.lane) (omega arith)) (lt-ltb (area_word v.lane) (area_word v.lane + 1024) (omega arith)) in
      ap (λ n. mem (PoolWord (area_word n))) (sym fits.lane.lane) ∙ fits.picture.area (area_word v.lane) here

  module _ (new : Memory) where
    abbrev g : ℕ
    g = mem (PoolWord (area_word k))

    abbrev g' : ℕ
    g' = new (PoolWord (area_word k))

    still : (v' : View) → g' ≡ g → v'.lane ≡ v.lane → v'.log ≡ v.log → Among v'.changes v.changes → InRange g v v.log.phase → InRange g' v' v'.log.phase
    still v' same lane logs among range = subst (InRange g' v') (ap (λ (l : Log). l.phase) (sym logs)) (carried g g' v v' v.log.phase same lane (ap (λ (l : Log). l.records) logs) (ap (λ (l : Log). l.entries) logs) among range)

    module _ (w y : ℕ) (lawful : IsLawful v (Store w y)) (moves : Moves k (Store w y) mem new) where
      abbrev stored : Log → View
      stored lg = changed v w y (store_change w (slice_index v.words w) y) lg

      kept_generation : w ≢ area_word k → g' ≡ g
      kept_generation differ = moves.0 (PoolWord (area_word k)) (other_pool (area_word k) w (λ e. differ (sym e)))

      raised : w ≡ area_word v.lane → y ≡ generation_of v + 1 → 2 ≤ g'
      raised at next =
          let lane = fits.lane.lane in
          let first = fits.first_generation in
          let is : g' ≡ y = ap (λ n. new (PoolWord n)) (let e : area_word k ≡ w = omega (arith, at, lane) in e) ∙ moves.1 in
          omega (arith, is, next, first)

      -- a slot's next word
      in_slot : (slot pair : List ℕ) → v.log.phase ≡ Open slot pair → StoreFits v w y (Open slot pair) SlotWord → InRange g v (Open slot pair)
          → InRange g' (stored (with_slot v.log (slot ++ y ∷ []) pair)) (with_slot v.log (slot ++ y ∷ []) pair).phase
      in_slot slot pair is may range =
          let s : Slotted v.log (slot ++ y ∷ []) pair = slotted v.log (slot ++ y ∷ []) pair in
          let at = may.at in
          let lane = fits.lane.lane in
          let same : g' ≡ g = kept_generation (λ e. omega arith) in
          let now = generation_is in
          let below = may.below in
          let count = s.count in
          let more = length-append slot (y ∷ []) in
          subst (InRange g' (stored (with_slot v.log (slot ++ y ∷ []) pair))) (sym s.is_open) (
            inl (omega (arith, same, now, below)),
            λ c there slots. ⊎_elim
                (λ (old : Contains v.changes c). let low = range.1 c old slots in omega (arith, low, count, more))
                (λ (last : Contains (store_change w (slice_index v.words w) y ∷ []) c).
                let word : w ≡ c.word = ap (λ (d : Change). d.word) (only_member (store_change w (slice_index v.words w) y) c last) in
                omega (arith, word, at, count, more))
                (Contains-append_cases v.changes (store_change w (slice_index v.words w) y ∷ []) c there),
          )

      -- a pair's next word
      in_pair : (slot pair : List ℕ) → v.log.phase ≡ Open slot pair → StoreFits v w y (Open slot pair) EntryWord → OpenFits v slot pair → InRange g v (Open slot pair)
          → InRange g' (stored (with_pair v.log slot (pair ++ y ∷ []))) (with_pair v.log slot (pair ++ y ∷ [])).phase
      in_pair slot pair is may open_fits range =
          let p : Paired v.log slot (pair ++ y ∷ []) = paired v.log slot (pair ++ y ∷ []) in
          let at = may.at in
          let lane = fits.lane.lane in
          let same : g' ≡ g = kept_generation (λ e. omega (arith, e, at, lane)) in
          let now = generation_is in
          let below = may.below in
          let free = may.free in
          let short = open_fits.short_pair in
          let count : length (with_pair v.log slot (pair ++ y ∷ [])).records ≡ length v.log.records = ap length p.same in
          subst (InRange g' (stored (with_pair v.log slot (pair ++ y ∷ [])))) (sym p.is_open) (
            inl (omega (arith, same, now, below)),
            λ c there slots. ⊎_elim
                (λ (old : Contains v.changes c). let low = range.1 c old slots in omega (arith, low, count))
                (λ (last : Contains (store_change w (slice_index v.words w) y ∷ []) c).
                let word : w ≡ c.word = ap (λ (d : Change). d.word) (only_member (store_change w (slice_index v.words w) y) c last) in
                let low = slots.low in
                absurd (omega (arith, word, at, low, free, short)))
                (Contains-append_cases v.changes (store_change w (slice_index v.words w) y ∷ []) c there),
          )

      -- a word in a block that the lane reserved
      in_reserved : (slot pair : List ℕ) → v.log.phase ≡ Open slot pair → is_reserved v w ≡ true → InRange g v (Open slot pair) → InRange g' (stored v.log) (Open slot pair)
      in_reserved slot pair is reserved range =
          let behind = (reserved_word o mem views log decided x k w inside reserved).behind in
          let lane = fits.lane.lane in
          let same : g' ≡ g = kept_generation (λ e. omega arith) in (
            ⊎_elim (λ (low : g < generation_limit). inl (subst (λ n. n < generation_limit) (sym same) low))
                (λ (un : IsUnwritten v slot). inr (record { no_records = un.no_records; no_entries = un.no_entries; no_slot = un.no_slot })) range.0,
            λ c there slots. ⊎_elim
                (λ (old : Contains v.changes c). range.1 c old slots)
                (λ (last : Contains (store_change w (slice_index v.words w) y ∷ []) c).
                let word : w ≡ c.word = ap (λ (d : Change). d.word) (only_member (store_change w (slice_index v.words w) y) c last) in
                let high = slots.high in
                absurd (omega arith))
                (Contains-append_cases v.changes (store_change w (slice_index v.words w) y ∷ []) c there),
          )

      -- a word that the log would restore
      in_object : (slot pair : List ℕ) → v.log.phase ≡ Open slot pair → MayWrite v w → InRange g v (Open slot pair) → InRange g' (stored v.log) (Open slot pair)
      in_object slot pair is may range =
          let behind = behind_areas o mem views log decided x k w (writes_under o mem k v w fits.locks may.own) in
          let lane = fits.lane.lane in
          let same : g' ≡ g = kept_generation (λ e. omega arith) in (
            ⊎_elim (λ (low : g < generation_limit). inl (subst (λ n. n < generation_limit) (sym same) low))
                (λ (un : IsUnwritten v slot). absurd (false≢true (sym (ap (λ (records : List Recorded). is_recorded records w) un.no_records) ∙ logged_recorded v w may.logged))) range.0,
            λ c there slots. ⊎_elim
                (λ (old : Contains v.changes c). range.1 c old slots)
                (λ (last : Contains (store_change w (slice_index v.words w) y ∷ []) c).
                let word : w ≡ c.word = ap (λ (d : Change). d.word) (only_member (store_change w (slice_index v.words w) y) c last) in
                let high = slots.high in
                absurd (omega arith))
                (Contains-append_cases v.changes (store_change w (slice_index v.words w) y ∷ []) c there),
          )

      -- an entry's word: the last is the generation
      in_entry : (applied : ℕ) → v.log.phase ≡ Applying applied → IsNextEntry v applied w y → applied + 1 ≡ length v.log.entries → 2 ≤ g'
      in_entry applied is next all =
          ⊎_elim (λ (t : IsTrue (is_written v w) × (applied + 1 < length v.log.entries)). let more = t.1 in absurd (omega (arith, more, all)))
          (λ (t : (set_word w y ≡ ends_with v (generation_of v + 1)) × (applied + 1 ≡ length v.log.entries)). raised (ap (λ (f : Final). f.word) t.0) (ap (λ (f : Final). f.bits) t.0))
          (next_entry v applied (set_word w y) (subst (PhaseFits (Flies log decided k) v) is fits.phase) next)

      stored_range : (p : Phase) (part : Part) → v.log.phase ≡ p → part_of v.lane w ≡ part → StoreFits v w y p part → InRange g v p → InRange g' (stored (log_stored p part y v.log)) (log_stored p part y v.log).phase
      stored_range Idle part is of may range = absurd may
      stored_range (Open slot pair) GenerationWord is of may range = raised (generation_part v.lane w of).1 may.ends.next
      stored_range (Open slot pair) SealWord is of may range = absurd may
      stored_range (Open slot pair) EntryWord is of may range = in_pair slot pair is may (subst (PhaseFits (Flies log decided k) v) is fits.phase) range
      stored_range (Open slot pair) SlotWord is of may range = in_slot slot pair is may range
      stored_range (Open slot pair) OtherWord is of (inl writes) range = subst (InRange g' (stored v.log)) (sym is) (in_object slot pair is writes range)
      stored_range (Open slot pair) OtherWord is of (inr (inl fills)) range = subst (InRange g' (stored v.log)) (sym is) (in_reserved slot pair is fills.reserved range)
      stored_range (Open slot pair) OtherWord is of (inr (inr describes)) range = subst (InRange g' (stored v.log)) (sym is) (in_reserved slot pair is (describing_reserved v w y describes) range)
      stored_range Drawn GenerationWord is of may range = raised (generation_part v.lane w of).1 may.next
      stored_range Drawn SealWord is of may range = tt
      stored_range Drawn EntryWord is of may range = absurd may
      stored_range Drawn SlotWord is of may range = absurd may
      stored_range Drawn OtherWord is of may range = absurd may
      stored_range Sealing part is of may range = absurd may
      stored_range (Applying applied) GenerationWord is of may range = in_entry applied is may
      stored_range (Applying applied) SealWord is of may range =
          let at = (seal_part v.lane w of).1 in let lane = fits.lane.lane in
          subst (λ n. 2 ≤ n) (sym (kept_generation (λ e. omega (arith, e, at, lane)))) (range may.all)
      stored_range (Applying applied) EntryWord is of may range = absurd may
      stored_range (Applying applied) SlotWord is of may range = absurd may
      stored_range (Applying applied) OtherWord is of may range = in_entry applied is may
      stored_range Clearing part is of may range = absurd may
      stored_range Retiring part is of may range = absurd may

    -- bits of a word are set or cleared: the last entry is to come
    bits_range : (op : Op) (w bits y : ℕ) (c : Change) → MayChange v op w bits → InRange g' (changed v w y c (log_changed v.log.phase v.log)) (log_changed v.log.phase v.log).phase
    bits_range op w bits y c may =
        let t = changes_next v op w bits v.log.phase refl (part_of v.lane w) refl may.fits in
        let more = changes_written (Flies log decided k) v op w bits fits.phase t in
        subst (λ (p : Phase). InRange g' (changed v w y c (log_changed p v.log)) (log_changed p v.log).phase) (sym t.phase) (λ all. absurd (let short = more.1 in omega (arith, all, short)))

    -- nothing is undrained any longer
    abbrev emptied : List Change → Log → View
    emptied changes lg = record v { changes = changes; calls = v.calls + 1; log = lg }

    drained_range : (p : Phase) (drawn : Bool) → v.log.phase ≡ p → g' ≡ g → InRange g v p → InRange g' (emptied [] (log_drained p drawn v.log)) (log_drained p drawn v.log).phase
    drained_range Idle drawn is same range = subst (InRange g' (emptied [] v.log)) (sym is) tt
    drained_range (Open slot pair) drawn is same range =
        subst (InRange g' (emptied [] v.log)) (sym is) (carried g g' v (emptied [] v.log) (Open slot pair) same refl refl refl (record { none = λ e. refl; from = λ c there. absurd (no_member c there) }) range)
    drained_range Drawn drawn is same range = subst (InRange g' (emptied [] v.log)) (sym is) (subst (λ n. n < generation_limit) (sym same) range)
    drained_range Sealing drawn is same range = λ none.
        let sealing : SealingFits (Flies log decided k) v = subst (PhaseFits (Flies log decided k) v) is fits.phase in
        let whole = sealing.whole in
        let size : length v.log.entries ≡ length whole.front + 1 = ap length whole.are ∙ length-append whole.front (ends_with v (generation_of v + 1) ∷ []) in
        absurd (omega (arith, none, size))
    drained_range (Applying applied) drawn is same range = subst (InRange g' (emptied [] v.log)) (sym is) (λ all. subst (λ n. 2 ≤ n) (sym same) (range all))
    drained_range Clearing drawn is same range = tt
    drained_range Retiring true is same range = tt
    drained_range Retiring false is same range = (inr (record { no_records = refl; no_entries = refl; no_slot = refl }), λ c there. absurd (no_member c there))

    drain_range : (left : List Change) → Among left v.changes → g' ≡ g → InRange g v v.log.phase → InRange g' (emptied left (log_after_drain left v)) (log_after_drain left v).phase
    drain_range [] among same range = drained_range v.log.phase (is_some v.number) refl same range
    drain_range (c ∷ left) among same range = carried g g' v (emptied (c ∷ left) v.log) v.log.phase same refl refl refl among range

    begun_range : (n : ℕ) (p : Phase) → v.log.phase ≡ p → PhaseFits (Flies log decided k) v p → g' ≡ g → InRange g v p → InRange g' (begun p v) (begun p v).log.phase
    begun_range n Idle is may same range = (
      inr (record { no_records = refl; no_entries = refl; no_slot = refl }),
      λ c there slots.
          let behind = filled_behind v c (All-contains (FilledChange v) v.changes c may.changes there) in
          let high = slots.high in let lane = fits.lane.lane in let lanes = fits.lane.lanes in
          absurd (omega (arith, behind, high, lane, lanes, inside)),
    )
    begun_range n (Open slot pair) is may same range = subst (InRange g' v) (sym is) (carried g g' v v (Open slot pair) same refl refl refl (all_of v.changes) range)
    begun_range n Drawn is may same range = subst (InRange g' v) (sym is) (carried g g' v v Drawn same refl refl refl (all_of v.changes) range)
    begun_range n Sealing is may same range = subst (InRange g' v) (sym is) tt
    begun_range n (Applying applied) is may same range = subst (InRange g' v) (sym is) (carried g g' v v (Applying applied) same refl refl refl (all_of v.changes) range)
    begun_range n Clearing is may same range = subst (InRange g' v) (sym is) (carried g g' v v Clearing same refl refl refl (all_of v.changes) range)
    begun_range n Retiring is may same range = subst (InRange g' v) (sym is) (carried g g' v v Retiring same refl refl refl (all_of v.changes) range)

    draw_range : (n : ℕ) (p : Phase) → p ≡ Open [] [] → g' ≡ g → InRange g v p → InRange g' (record (after v (Draw n)) { log = log_drawn p v.log }) (log_drawn p v.log).phase
    draw_range n p is same range =
        subst (λ (q : Phase). InRange g' (record (after v (Draw n)) { log = log_drawn q v.log }) (log_drawn q v.log).phase) (sym is)
        (let open_range : InRange g v (Open [] []) = subst (InRange g v) is range in
        let drawn : View = record (after v (Draw n)) { log = log_drawn (Open [] []) v.log } in
        ⊎_elim (λ (low : g < generation_limit). drawn_range g' drawn v.log.records v.log.entries (subst (λ m. m < generation_limit) (sym same) low))
        (λ (un : IsUnwritten v []). subst (InRange g' drawn) (λ i. phase_drawn (sym un.no_records i) (sym un.no_entries i)) tt) open_range.0)

    pub range_after : (s : Step) → IsLawful v s → Moves k s mem new → InRange g v v.log.phase → InRange g' (after v s) (after v s).log.phase
    range_after (Load w found) lawful moves range = still (after v (Load w found)) (moves.0 (PoolWord (area_word k))) refl refl (all_of v.changes) range
    range_after (Store w y) lawful moves range = stored_range w y lawful moves v.log.phase (part_of v.lane w) refl refl lawful.allowed.fits range
    range_after (Or w bits found) lawful moves range = bits_range op.Or w bits (bit_or found bits) (or_change w bits found) lawful.allowed
    range_after (And w bits found) lawful moves range = bits_range op.And w bits (bit_and found bits) (and_change w bits found) lawful.allowed
    range_after (Flush line) lawful moves range = still (after v (Flush line)) (moves (PoolWord (area_word k))) refl refl (flushed_of line v.changes) range
    range_after Drain lawful moves range = drain_range (drained v.changes) (drained_of v.changes) (moves (PoolWord (area_word k))) range
    range_after (TakeWrite line true) lawful moves range = still (after v (TakeWrite line true)) (moves.0 (PoolWord (area_word k)) (pool-lock (area_word k) line)) refl refl (all_of v.changes) range
    range_after (TakeWrite line false) lawful moves range = still (after v (TakeWrite line false)) (moves.0 (PoolWord (area_word k))) refl refl (all_of v.changes) range
    range_after (TakeRead line true) lawful moves range = still (after v (TakeRead line true)) (moves.0 (PoolWord (area_word k)) (pool-lock (area_word k) line)) refl refl (all_of v.changes) range
    range_after (TakeRead line false) lawful moves range = still (after v (TakeRead line false)) (moves.0 (PoolWord (area_word k))) refl refl (all_of v.changes) range
    range_after (Raise line won) lawful moves range = absurd moves
    range_after (Give line) lawful moves range = still (after v (Give line)) (moves.0 (PoolWord (area_word k)) (pool-lock (area_word k) line)) refl refl (all_of v.changes) range
    range_after (ZoneTry zone true) lawful moves range = still (after v (ZoneTry zone true)) (moves.0.0 (PoolWord (area_word k)) (other_zone_lock zone (PoolWord (area_word k)) (plain_pool (area_word k)))) refl refl (all_of v.changes) range
    range_after (ZoneTry zone false) lawful moves range = still (after v (ZoneTry zone false)) (moves.0 (PoolWord (area_word k))) refl refl (all_of v.changes) range
    range_after (ZoneGive zone) lawful moves range = still (after v (ZoneGive zone)) (moves.0 (PoolWord (area_word k)) (other_zone_lock zone (PoolWord (area_word k)) (plain_pool (area_word k)))) refl refl (all_of v.changes) range
    range_after (Occupied at found) lawful moves range = still (after v (Occupied at found)) (moves.0 (PoolWord (area_word k))) refl refl (all_of v.changes) range
    range_after (Occupy at bits true) lawful moves range = still (after v (Occupy at bits true)) (moves.0.0 (PoolWord (area_word k)) (other_occ at (PoolWord (area_word k)) (plain_pool (area_word k)))) refl refl (all_of v.changes) range
    range_after (Occupy at bits false) lawful moves range = still (after v (Occupy at bits false)) (moves.0 (PoolWord (area_word k))) refl refl (all_of v.changes) range
    range_after (Vacate at bits) lawful moves range = still (after v (Vacate at bits)) (moves.0 (PoolWord (area_word k)) (other_occ at (PoolWord (area_word k)) (plain_pool (area_word k)))) refl refl (all_of v.changes) range
    range_after (Draw n) lawful moves range = draw_range n v.log.phase lawful.allowed.is_open (moves.0.0 (PoolWord (area_word k)) (pool-counter (area_word k))) range
    range_after (NumberSeen n) lawful moves range =
        carried g' g' (begun v.log.phase v) (after v (NumberSeen n)) (begun v.log.phase v).log.phase refl refl refl refl (all_of (begun v.log.phase v).changes)
        (begun_range n v.log.phase refl fits.phase (moves.0 (PoolWord (area_word k))) range)
    range_after (StopSeen set) lawful moves range = still (after v (StopSeen set)) (moves.0 (PoolWord (area_word k))) refl refl (all_of v.changes) range
    range_after SetStop lawful moves range = still (after v SetStop) (moves.0 (PoolWord (area_word k)) (pool-stop (area_word k))) refl refl (all_of v.changes) range
    range_after (Tell operation reply) lawful moves range = still (after v (Tell operation reply)) (moves (PoolWord (area_word k))) refl refl (all_of v.changes) range
