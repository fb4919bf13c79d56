-- The log of a lane that is alone, while its generation is that of an origin, the pool at the opening or where the lane rested: what it has not
-- written yet is as it was, so is what its undrained stores found in the slots, and the words of a record in the making are those of a record
-- that may be made.
use Rattle.std.proofs.Common.{◌≡◌, ◌≢◌, ◌⊎◌, inl, inr, ⊎_elim, ℕ, ◌+◌, ◌*◌, ◌<◌, ◌≤◌, Bool, true, false, not, eqb, cond, ◌&&◌, ◌||◌, List, [], ◌∷◌, ◌++◌, length, take, get_or, slice_index, None, is_some, refl, sym, ◌∙◌, ap, subst, arith, length-append, get_or-set_same, get_or-set_other, eq-eqb, ne_eqb, bit_or, bit_and}
use Rattle.std.specs.List.{All, Contains, filter, list_any}
use Rattle.std.proofs.lemmas.Bool.{cases_lt, cond-false, cond-true, false≢true, not_from_false, or_cases, or_left, or_right, eqb-true}
use Rattle.std.proofs.lemmas.List.{take_all}
use Rattle.std.proofs.lemmas.List.Elements.{Contains-append_cases}
use Rattle.pm_record.specs.declared.redo.Op.TheVariants as op
use Rattle.pm_header.specs.declared.header.Header.{Header}
use Rattle.pm_objects.specs.declared.pool.PoolView.{PoolView}
use Rattle.pm_image.specs.Logs.{generation_word}
use Rattle.pm_image.proofs.Members.{member_kept, member_made, no_member, only_member}
use Rattle.solo_view.specs.declared.change.Change.{Change}
use Rattle.solo_view.specs.declared.occ.Occ.{Occ}
use Rattle.solo_view.specs.Area.{Part, area_word, is_in_area, part_of}
use Rattle.solo_view.specs.declared.occ.Occ.{Occ}
use Rattle.solo_view.specs.Area.Part.{EntryWord, GenerationWord, OtherWord, SealWord, SlotWord}
use Rattle.solo_view.specs.Changes.{drained, is_in_line, mark, store_change, or_change, and_change}
use Rattle.solo_view.specs.Founds.{FoundAlone, IsAlone}
use Rattle.solo_view.specs.Held.{is_held, is_known, is_reserved, is_under}
use Rattle.solo_view.specs.Log.{Final, Log, Phase, Recorded, log_drained, log_drawn, log_stored, phase_drawn, with_pair, with_slot, log_changed}
use Rattle.solo_view.specs.Log.Phase.{Idle, Open, Drawn, Sealing, Applying, Clearing, Retiring}
use Rattle.solo_view.specs.Rights.{is_written}
use Rattle.solo_view.specs.Steps.{Step}
use Rattle.solo_view.specs.Steps.Step.{Load, Store, Or, And, Flush, Drain, TakeWrite, TakeRead, Raise, Give, ZoneTry, ZoneGive, Occupied, Occupy, Vacate, Draw, NumberSeen, StopSeen, SetStop, Tell}
use Rattle.solo_view.specs.View.{Lock, View}
use Rattle.solo_view.specs.Views.{after, begun, changed, exchanged, log_after_drain, with_seen, without_taken}
use Rattle.solo_world.specs.Entries.{ends_with, set_word}
use Rattle.solo_world.specs.Fits.{ApplyingFits, LaneFits, PhaseFits, SealingFits}
use Rattle.solo_world.specs.History.{Flies, settled}
use Rattle.solo_world.specs.Lawful.{Allowed, AppendsToPair, AppendsToSlot, CanRecord, EndsGeneration, GiveFits, IsNextEntry, MayGive, MayWrite, StoreFits, MayChange}
use Rattle.solo_world.specs.Opening.{Opening}
use Rattle.solo_world.specs.Records.{generation_of, is_recorded, records_generation, spelled}
use Rattle.solo_world.proofs.CrashLogs.{InSlots, logged_recorded}
use Rattle.solo_world.proofs.Aside.{IsAside, aside_written, reserved_aside}
use Rattle.solo_world.proofs.CrashWords.{behind_areas}
use Rattle.solo_world.proofs.Exclusion.{writes_under}
use Rattle.solo_world.proofs.Parts.{generation_part, seal_part}
use Rattle.solo_world.proofs.Relocked.{generation_same}
use Rattle.solo_world.proofs.StepGive.{list_any-filter, no_block}
use Rattle.solo_world.proofs.StepLoad.{written_now}
use Rattle.solo_world.proofs.StepTake.{list_any-left}
use Rattle.solo_world.proofs.Frame.{in_phase}
use Rattle.solo_world.proofs.StoreEntry.{applied_generation}
use Rattle.solo_world.proofs.StoreSlot.{length-spelled, with_record, with_slot-short, with_slot-whole}
use Rattle.solo_world.proofs.Stored.{written_under}
use Rattle.solo_crash.proofs.AloneCourse.{StandsAlone}
use Rattle.solo_crash.proofs.AloneImages.{own_fits}
use Rattle.solo_crash.proofs.LogCourse.{Paired, paired}
use Rattle.solo_crash.proofs.AloneMemory.{load_moves, load_words, memory_of}
use Rattle.pm_record.specs.declared.redo.Op.{Op}
use Rattle.solo_world.proofs.StepChange.{changes_next, changes_written, changing, no_generation}
use Rattle.solo_world.proofs.StorePair.{final_word}
use Rattle.solo_world.proofs.Reserved.{describing_reserved}

-- from this word on the slots are as at the origin, and so is what undrained stores found in them
pub record Unwritten (o : Opening) (v : View) (end : ℕ) : Type 0 where
  pub beyond : (i : ℕ) → end ≤ i → i < 1160 → slice_index v.words i ≡ slice_index o.words i
  pub olds : (c : Change) → Contains v.changes c → InSlots 0 c.word → c.old ≡ slice_index o.words c.word

-- so it is while the generation is the origin's; it never falls below
pub record Since (o : Opening) (v : View) (end : ℕ) : Type 0 where
  pub least : generation_word o.words 0 ≤ generation_of v
  pub first : generation_of v ≡ generation_word o.words 0 → Unwritten o v end

-- the words of the slot begin a record that may be made
pub record Making (v : View) (slot : List ℕ) : Type 0 where
  pub next : Recorded
  pub can : CanRecord v next
  pub spells : slot ≡ take (length slot) (spelled (generation_of v) next)

-- by how far the call has come
abbrev pub FirstLog : Opening → View → Phase → Type 0
FirstLog o v Idle = Since o v 648
FirstLog o v (Open slot pair) = Since o v (648 + 8 * length v.log.records + length slot) × (1 ≤ length slot → Making v slot)
FirstLog o v Drawn = generation_word o.words 0 ≤ generation_of v
FirstLog o v Sealing = generation_word o.words 0 ≤ generation_of v
FirstLog o v (Applying applied) = generation_word o.words 0 < records_generation (Applying applied) v
FirstLog o v Clearing = generation_word o.words 0 < generation_of v
FirstLog o v Retiring = generation_word o.words 0 < generation_of v

not_applying : (slot pair : List ℕ) (applied : ℕ) → Open slot pair ≡ Applying applied → ⊥
not_applying slot pair applied e = absurd cc

-- a change of the same word found the same
record OldOf (changes : List Change) (c : Change) : Type 0 where
  change : Change
  there : Contains changes change
  word : change.word ≡ c.word
  old : change.old ≡ c.old

itself : (changes : List Change) (c : Change) → Contains changes c → OldOf changes c
itself changes c there = record { change = c; there = there; word = refl; old = refl }

-- a step that leaves the generation, the slots, the records, and what its undrained stores found
record Carries (v w : View) : Type 0 where
  lane : w.lane ≡ v.lane
  area : (i : ℕ) → (i ≡ 512) ⊎ (648 ≤ i) → i < 1536 → slice_index w.words i ≡ slice_index v.words i
  olds : (c : Change) → Contains w.changes c → InSlots 0 c.word → OldOf v.changes c
  records : w.log.records ≡ v.log.records
  entries : (applied : ℕ) → v.log.phase ≡ Applying applied → w.log.entries ≡ v.log.entries
  can : (slot pair : List ℕ) → v.log.phase ≡ Open slot pair → (r : Recorded) → CanRecord v r → CanRecord w r

same_generation : (v w : View) → v.lane ≡ 0 → Carries v w → generation_of w ≡ generation_of v
same_generation v w zero carries =
    ap (λ (n : ℕ). slice_index w.words (area_word n)) carries.lane ∙ carries.area (area_word v.lane) (inl (omega (arith, zero))) (omega (arith, zero))

since_on : (o : Opening) (v w : View) (end : ℕ) → v.lane ≡ 0 → Carries v w → 648 ≤ end → Since o v end → Since o w end
since_on o v w end zero carries low since =
    let same = same_generation v w zero carries in
    record {
      least = let least = since.least in omega (arith, same, least);
      first = λ is.
          let un = since.first (sym same ∙ is) in
          record {
            beyond = λ i from high. carries.area i (inr (omega arith)) (omega arith) ∙ un.beyond i from high;
            olds = λ c there slots.
                let d = carries.olds c there slots in
                sym d.old ∙ un.olds d.change d.there (subst (InSlots 0) (sym d.word) slots) ∙ ap (slice_index o.words) d.word;
          };
    }

first_on : (o : Opening) (v w : View) → v.lane ≡ 0 → Carries v w → (phase : Phase) → v.log.phase ≡ phase → FirstLog o v phase → FirstLog o w phase
first_on o v w zero carries Idle is first = since_on o v w 648 zero carries (omega arith) first
first_on o v w zero carries (Open slot pair) is first = (
  subst (λ (rs : List Recorded). Since o w (648 + 8 * length rs + length slot)) (sym carries.records)
      (since_on o v w (648 + 8 * length v.log.records + length slot) zero carries (omega arith) first.0),
  λ some.
      let m = first.1 some in
      record { next = m.next; can = carries.can slot pair is m.next m.can; spells = subst (λ (g : ℕ). slot ≡ take (length slot) (spelled g m.next)) (sym (same_generation v w zero carries)) m.spells },
)
first_on o v w zero carries Drawn is first = let same = same_generation v w zero carries in omega (arith, same, first)
first_on o v w zero carries Sealing is first = let same = same_generation v w zero carries in omega (arith, same, first)
first_on o v w zero carries (Applying applied) is first =
    subst (λ g. generation_word o.words 0 < g) (sym (generation_same (Applying applied) v w (same_generation v w zero carries) (carries.entries applied is))) first
first_on o v w zero carries Clearing is first = let same = same_generation v w zero carries in omega (arith, same, first)
first_on o v w zero carries Retiring is first = let same = same_generation v w zero carries in omega (arith, same, first)

-- a record that may be made may be made still
can_on : (v w : View) → w.log.records ≡ v.log.records → ((u : ℕ) → is_written v u ≡ true → is_written w u ≡ true) → ((u : ℕ) → is_written v u ≡ true → is_known v u ≡ true → is_known w u ≡ true)
    → ((u : ℕ) → is_written v u ≡ true → is_recorded v.log.records u ≡ false → slice_index w.words u ≡ slice_index v.words u) → (r : Recorded) → CanRecord v r → CanRecord w r
can_on v w records written known words r can = record {
  some = can.some;
  most = can.most;
  each = λ i low.
      let e = can.each i low in
      record {
        own = written (r.word + i) e.own;
        known = known (r.word + i) e.own e.known;
        present = words (r.word + i) e.own e.new ∙ e.present;
        new = ap (λ (rs : List Recorded). is_recorded rs (r.word + i)) records ∙ e.new;
      };
}

-- one more known word
known_more : (area held : Bool) (w : ℕ) (known : List ℕ) (u : ℕ) → (area || list_any (λ other. eqb other u) known) ≡ true → (area || list_any (λ other. eqb other u) (cond held (w ∷ known) known)) ≡ true
known_more area false w known u is = is
known_more area true w known u is = ⊎_elim
    (λ (here : area ≡ true). or_left area (list_any (λ other. eqb other u) (w ∷ known)) here)
    (λ (there : list_any (λ other. eqb other u) known ≡ true).
    or_right area (list_any (λ other. eqb other u) (w ∷ known)) (or_right (eqb w u) (list_any (λ other. eqb other u) known) there))
    (or_cases area (list_any (λ other. eqb other u) known) is)

marked : (line : ℕ) (c : Change) (b : Bool) → ((cond b (record c { flushed = true }) c).word ≡ c.word) × ((cond b (record c { flushed = true }) c).old ≡ c.old)
marked line c true = (refl, refl)
marked line c false = (refl, refl)

module _ (o : Opening) (header : Header) (pool : PoolView) (v : View) (stands : StandsAlone o header pool v) (alone : IsAlone v) where
  fits : LaneFits o (memory_of v) (settled o stands.log stands.decided) (Flies stands.log stands.decided 0) 0 v
  fits = own_fits o header pool v stands

  -- what the lane may write lies behind the areas
  pub behind : (u : ℕ) → is_written v u ≡ true → 1536 ≤ u
  behind u written =
      let low = behind_areas o (memory_of v) stands.views stands.log stands.decided stands.goes.world 0 u (writes_under o (memory_of v) 0 v u fits.locks written) in
      let some = stands.goes.in_lanes in
      omega arith

  -- a step that tells something and no more, or leaves fewer changes
  quiet : (w : View) → w.lane ≡ v.lane → w.words ≡ v.words → w.log.records ≡ v.log.records → w.log.entries ≡ v.log.entries → ((c : Change) → Contains w.changes c → OldOf v.changes c)
      → ((u : ℕ) → is_written v u ≡ true → is_written w u ≡ true) → ((u : ℕ) → is_written v u ≡ true → is_known v u ≡ true → is_known w u ≡ true) → Carries v w
  quiet w lane words records entries olds written known = record {
    lane = lane;
    area = λ i low high. ap (λ (ws : List ℕ). slice_index ws i) words;
    olds = λ c there slots. olds c there;
    records = records;
    entries = λ applied is. entries;
    can = λ slot pair is. can_on v w records written known (λ u own new. ap (λ (ws : List ℕ). slice_index ws u) words);
  }

  -- the log since the pool stood so: at the opening, or where the lane rested on its way
  module _ (origin : Opening) where
    first_still : (w : View) → Carries v w → w.log ≡ v.log → FirstLog origin v v.log.phase → FirstLog origin w w.log.phase
    first_still w carries logs first = subst (FirstLog origin w) (ap (λ (l : Log). l.phase) (sym logs)) (first_on origin v w fits.lane.lane carries v.log.phase refl first)

    load_carries : (w x : ℕ) → w < length v.words → x ≡ slice_index v.words w → Carries v (after v (Load w x))
    load_carries w x inside found =
        let moves = load_moves v w x found in
        quiet (after v (Load w x)) refl (load_words v w x found) refl refl (itself v.changes)
        (written_now o (memory_of v) stands.views stands.log stands.decided stands.goes.world 0 stands.goes.in_lanes v stands.here (memory_of (after v (Load w x))) w x moves.0 moves.1 inside)
        (λ u own. known_more (is_in_area v.lane u) (is_held v w) w v.known u)

    flush_carries : (line : ℕ) → Carries v (after v (Flush line))
    flush_carries line = quiet (after v (Flush line)) refl refl refl refl
        (λ c there.
        let d = member_made (mark line) v.changes c there in
        let same = marked line d.0 (is_in_line line d.0) in
        record { change = d.0; there = d.1.0; word = sym same.0 ∙ ap (λ (x : Change). x.word) d.1.1; old = sym same.1 ∙ ap (λ (x : Change). x.old) d.1.1 })
        (λ u own. own) (λ u own is. is)

    lock_carries : (w : View) (l : Lock) → w ≡ record v { locks = v.locks ++ l ∷ []; seen = w.seen } → Carries v w
    lock_carries w l is = subst (Carries v) (sym is)
        (quiet (record v { locks = v.locks ++ l ∷ []; seen = w.seen }) refl refl refl refl (itself v.changes)
        (λ u own. list_any-left (λ (k : Lock). k.write && is_some k.block && is_under u k) v.locks (l ∷ []) own) (λ u own is_. is_))

    take_write_carries : (line : ℕ) (won : Bool) → Carries v (after v (TakeWrite line won))
    take_write_carries line true = lock_carries (after v (TakeWrite line true)) (record { line = line; write = true; block = None }) refl
    take_write_carries line false = quiet (after v (TakeWrite line false)) refl refl refl refl (itself v.changes) (λ u own. own) (λ u own is. is)

    take_read_carries : (line : ℕ) (won : Bool) → Carries v (after v (TakeRead line won))
    take_read_carries line true = lock_carries (after v (TakeRead line true)) (record { line = line; write = false; block = None }) refl
    take_read_carries line false = quiet (after v (TakeRead line false)) refl refl refl refl (itself v.changes) (λ u own. own) (λ u own is. is)

    -- what a view holds that forgets all else is known to it still
    held_known : (bare : View) (u : ℕ) → is_held bare u ≡ true → is_known v u ≡ true → (is_in_area v.lane u || list_any (λ other. eqb other u) (filter (is_held bare) v.known)) ≡ true
    held_known bare u held known = ⊎_elim
        (λ (area : is_in_area v.lane u ≡ true). or_left (is_in_area v.lane u) (list_any (λ other. eqb other u) (filter (is_held bare) v.known)) area)
        (λ (there : list_any (λ other. eqb other u) v.known ≡ true). or_right (is_in_area v.lane u) (list_any (λ other. eqb other u) (filter (is_held bare) v.known))
        (list_any-filter (λ other. eqb other u) (is_held bare) v.known (λ n d low same. ap (is_held bare) (eqb-true (get_or v.known n d) u same) ∙ held) there))
        (or_cases (is_in_area v.lane u) (list_any (λ other. eqb other u) v.known) known)

    vacate_carries : (at : Occ) (bits : ℕ) → Carries v (after v (Vacate at bits))
    vacate_carries at bits =
        let bare : View = record v { reserved = without_taken at bits (exchanged v at) } in
        quiet (after v (Vacate at bits)) refl refl refl refl (itself v.changes) (λ u own. own)
        (λ u own known. held_known bare u
        (or_left (is_in_area v.lane u || list_any (is_under u) v.locks) (is_reserved bare u) (or_right (is_in_area v.lane u) (list_any (is_under u) v.locks) (written_under v.locks u own))) known)

    module _ (line : ℕ) (may : MayGive v line) where
      abbrev others : List Lock
      others = filter (λ (l : Lock). not (eqb l.line line)) v.locks

      abbrev bare : View
      bare = record v { locks = others }

      still_written : (slot pair : List ℕ) → v.log.phase ≡ Open slot pair → (u : ℕ) → is_written v u ≡ true → is_written bare u ≡ true
      still_written slot pair is u own =
          let found : All (λ (l : Lock). l.line ≡ line → l.block ≡ None) v.locks = subst (λ (p : Phase). All (λ (l : Lock). l.line ≡ line → GiveFits v l p) v.locks) is may.fits in
          list_any-filter (λ (l : Lock). l.write && is_some l.block && is_under u l) (λ (l : Lock). not (eqb l.line line)) v.locks
          (λ n d low under. not_from_false (eqb (get_or v.locks n d).line line) (ne_eqb (get_or v.locks n d).line line (λ same. no_block (get_or v.locks n d) u (found n d low same) under))) own

      still_known : (u : ℕ) → is_written bare u ≡ true → is_known v u ≡ true → (is_in_area v.lane u || list_any (λ other. eqb other u) (filter (is_held bare) v.known)) ≡ true
      still_known u own known =
          let held : is_held bare u ≡ true = or_left (is_in_area v.lane u || list_any (is_under u) others) (is_reserved bare u) (or_right (is_in_area v.lane u) (list_any (is_under u) others) (written_under others u own)) in
          held_known bare u held known

      give_carries : Carries v (after v (Give line))
      give_carries = record {
        lane = refl;
        area = λ i low high. refl;
        olds = λ c there slots. itself v.changes c there;
        records = refl;
        entries = λ applied is. refl;
        can = λ slot pair is. can_on v (after v (Give line)) refl (still_written slot pair is) (λ u own known. still_known u (still_written slot pair is u own) known) (λ u own new. refl);
      }

    module _ (w y : ℕ) (inside : w < length v.words) where
      abbrev stored : Log → View
      stored lg = changed v w y (store_change w (slice_index v.words w) y) lg

      other_word : (i : ℕ) → i ≢ w → slice_index (stored v.log).words i ≡ slice_index v.words i
      other_word i differ = get_or-set_other v.words w i y 0 differ

      new_changes : (P : Change → Type 0) → ((c : Change) → Contains v.changes c → P c) → P (store_change w (slice_index v.words w) y) → (c : Change) → Contains (stored v.log).changes c → P c
      new_changes P olds last c there = ⊎_elim
          (λ (before : Contains v.changes c). olds c before)
          (λ (new : Contains (store_change w (slice_index v.words w) y ∷ []) c). subst P (only_member (store_change w (slice_index v.words w) y) c new) last)
          (Contains-append_cases v.changes (store_change w (slice_index v.words w) y ∷ []) c there)

      -- a slot's next word
      since_slotted : (slot : List ℕ) (lg : Log) (end : ℕ) → AppendsToSlot v w y slot → length slot < 8 → end ≡ 648 + 8 * length v.log.records + length slot + 1
          → Since origin v (648 + 8 * length v.log.records + length slot) → Since origin (stored lg) end
      since_slotted slot lg end may short is since =
          let at = may.at in
          let lane = fits.lane.lane in
          let free = may.free in
          let same : generation_of (stored lg) ≡ generation_of v = other_word (area_word v.lane) (λ e. omega (arith, e, at, lane)) in
          record {
            least = let least = since.least in omega (arith, same, least);
            first = λ now.
                let un = since.first (sym same ∙ now) in
                record {
                  beyond = λ i from high. other_word i (λ e. omega (arith, e, at, lane, from, is)) ∙ un.beyond i (omega (arith, from, is)) high;
                  olds = new_changes (λ (c : Change). InSlots 0 c.word → c.old ≡ slice_index origin.words c.word) un.olds
                      (λ slots. un.beyond w (omega (arith, at, lane)) (omega (arith, at, lane, free, short)));
                };
          }

      in_slot : (slot pair : List ℕ) → AppendsToSlot v w y slot → length slot < 8 → FirstLog origin v (Open slot pair)
          → FirstLog origin (stored (with_slot v.log (slot ++ y ∷ []) pair)) (with_slot v.log (slot ++ y ∷ []) pair).phase
      in_slot slot pair may short first = ⊎_elim
          (λ (low : length (slot ++ y ∷ []) < 8).
          let lg : Log = in_phase (Open (slot ++ y ∷ []) pair) v.log in
          subst (λ (l : Log). FirstLog origin (stored l) l.phase) (sym (with_slot-short v.log (slot ++ y ∷ []) pair low))
          (grown (can_more lg refl may.next may.can)))
          (λ (full : 8 ≤ length (slot ++ y ∷ [])).
          let long = length-append slot (y ∷ []) in
          let size = length-spelled (generation_of v) may.next may.can.most in
          let whole : slot ++ y ∷ [] ≡ spelled (generation_of v) may.next = may.spells ∙ take_all (length slot + 1) (spelled (generation_of v) may.next) (omega (arith, size, full, long)) in
          let lg : Log = with_record v.log pair may.next in
          let is : with_slot v.log (slot ++ y ∷ []) pair ≡ lg = ap (λ (s : List ℕ). with_slot v.log s pair) whole ∙ with_slot-whole v.log (generation_of v) may.next pair may.can.some may.can.most in
          let count = length-append v.log.records (may.next ∷ []) in
          subst (λ (l : Log). FirstLog origin (stored l) l.phase) (sym is)
          (since_slotted slot lg (648 + 8 * length (v.log.records ++ may.next ∷ []) + 0) may short (omega (arith, count, full, long, short)) first.0, λ some. absurd (omega arith)))
          (cases_lt (length (slot ++ y ∷ [])) 8)
        where
          can_more : (lg : Log) → lg.records ≡ v.log.records → (r : Recorded) → CanRecord v r → CanRecord (stored lg) r
          can_more lg same = can_on v (stored lg) same (λ u own. own) (λ u own. known_more (is_in_area v.lane u) (is_held v w) w v.known u)
              (λ u own new. other_word u (λ e. let far = behind u own in let at = may.at in let lane = fits.lane.lane in let free = may.free in omega (arith, e, far, at, lane, free, short)))

          grown : CanRecord (stored (in_phase (Open (slot ++ y ∷ []) pair) v.log)) may.next → FirstLog origin (stored (in_phase (Open (slot ++ y ∷ []) pair) v.log)) (Open (slot ++ y ∷ []) pair)
          grown can =
              let long = length-append slot (y ∷ []) in
              let now : View = stored (in_phase (Open (slot ++ y ∷ []) pair) v.log) in
              let at = may.at in
              let lane = fits.lane.lane in
              let same : generation_of now ≡ generation_of v = other_word (area_word v.lane) (λ e. omega (arith, e, at, lane)) in (
                since_slotted slot (in_phase (Open (slot ++ y ∷ []) pair) v.log) (648 + 8 * length v.log.records + length (slot ++ y ∷ [])) may short (omega (arith, long)) first.0,
                λ some. record {
                  next = may.next;
                  can = can;
                  spells = may.spells ∙ (λ i. take (sym long i) (spelled (sym same i) may.next));
                },
              )

      -- a word that the log would restore
      object_carries : MayWrite v w → Carries v (stored v.log)
      object_carries may =
          let far = behind w may.own in
          record {
            lane = refl;
            area = λ i part high. other_word i (λ e. omega (arith, e, far, high));
            olds = new_changes (λ (c : Change). InSlots 0 c.word → OldOf v.changes c) (λ c there slots. itself v.changes c there) (λ slots. absurd (let high = slots.high in omega (arith, far, high)));
            records = refl;
            entries = λ applied is. refl;
            can = λ slot pair is. can_on v (stored v.log) refl (λ u own. own) (λ u own. known_more (is_in_area v.lane u) (is_held v w) w v.known u)
                (λ u own new. other_word u (λ e. false≢true (sym new ∙ (ap (is_recorded v.log.records) e ∙ logged_recorded v w may.logged))));
          }

      -- a word in a block that the lane reserved
      reserved_carries : is_reserved v w ≡ true → Carries v (stored v.log)
      reserved_carries reserved =
          let aside : IsAside o stands.views 0 w = reserved_aside o (memory_of v) stands.views stands.log stands.decided stands.goes.world 0 w stands.goes.in_lanes (ap (λ u. is_reserved u w) stands.here ∙ reserved) in
          let some = stands.goes.in_lanes in
          let far : 1536 ≤ w = let low = aside.apart.behind in omega (arith, low, some) in
          record {
            lane = refl;
            area = λ i part high. other_word i (λ e. omega (arith, e, far, high));
            olds = new_changes (λ (c : Change). InSlots 0 c.word → OldOf v.changes c) (λ c there slots. itself v.changes c there) (λ slots. absurd (let high = slots.high in omega (arith, far, high)));
            records = refl;
            entries = λ applied is. refl;
            can = λ slot pair is. can_on v (stored v.log) refl (λ u own. own) (λ u own. known_more (is_in_area v.lane u) (is_held v w) w v.known u)
                (λ u own new. other_word u (λ e. aside_written o stands.views 0 w stands.goes.world.sound aside (memory_of v) 0 v fits.locks (ap (is_written v) (sym e) ∙ own)));
          }

      -- a word of the area that is neither the generation nor of a slot
      area_carries : (lg : Log) → 513 ≤ w → w < 648 → lg.records ≡ v.log.records → ((applied : ℕ) → v.log.phase ≡ Applying applied → lg.entries ≡ v.log.entries) → Carries v (stored lg)
      area_carries lg low high records entries = record {
        lane = refl;
        area = λ i part below. other_word i (λ e. ⊎_elim (λ (first : i ≡ 512). omega (arith, e, first, low)) (λ (far : 648 ≤ i). omega (arith, e, far, high)) part);
        olds = new_changes (λ (c : Change). InSlots 0 c.word → OldOf v.changes c) (λ c there slots. itself v.changes c there) (λ slots. absurd (let from = slots.low in omega (arith, from, high)));
        records = records;
        entries = entries;
        can = λ slot pair is. can_on v (stored lg) records (λ u own. own) (λ u own. known_more (is_in_area v.lane u) (is_held v w) w v.known u)
            (λ u own new. other_word u (λ e. let far = behind u own in omega (arith, e, far, high)));
      }

      -- a pair's next word
      in_pair : (slot pair : List ℕ) → v.log.phase ≡ Open slot pair → AppendsToPair v w y pair → length pair < 2 → FirstLog origin v (Open slot pair)
          → FirstLog origin (stored (with_pair v.log slot (pair ++ y ∷ []))) (with_pair v.log slot (pair ++ y ∷ [])).phase
      in_pair slot pair is may short first =
          let lg : Log = with_pair v.log slot (pair ++ y ∷ []) in
          let p : Paired v.log slot (pair ++ y ∷ []) = paired v.log slot (pair ++ y ∷ []) in
          let at = may.at in
          let free = may.free in
          let zero = fits.lane.lane in
          let now : FirstLog origin (stored lg) (Open slot pair) = first_on origin v (stored lg) zero (area_carries lg (omega (arith, at, zero)) (omega (arith, at, zero, free, short)) p.same (λ applied none. absurd (not_applying slot pair applied (sym is ∙ none))))
          (Open slot pair) is first in
          subst (FirstLog origin (stored lg)) (sym p.is_open) (now.0, now.1)

      -- the next generation
      raises : part_of v.lane w ≡ GenerationWord → EndsGeneration v y → generation_word origin.words 0 ≤ generation_of v → (lg : Log) → generation_word origin.words 0 < generation_of (stored lg)
      raises part ends least lg =
          let at : w ≡ area_word v.lane = (generation_part v.lane w part).1 in
          let next = ends.next in
          let is : generation_of (stored lg) ≡ y = ap (λ (i : ℕ). slice_index (stored lg).words i) (sym at) ∙ get_or-set_same v.words w y 0 inside in
          omega (arith, is, next, least)

      -- the seal
      sealed : (bound : ℕ → Type 0) (phase : Phase) → part_of v.lane w ≡ SealWord → bound (generation_of v) → bound (generation_of (stored (in_phase phase v.log)))
      sealed bound phase part holds =
          let at = (seal_part v.lane w part).1 in
          subst bound (sym (other_word (area_word v.lane) (λ e. omega (arith, e, at)))) holds

      -- an entry's word
      applies : (applied : ℕ) → ApplyingFits v applied → IsNextEntry v applied w y → generation_word origin.words 0 < records_generation (Applying applied) v
          → generation_word origin.words 0 < records_generation (Applying (applied + 1)) (stored (in_phase (Applying (applied + 1)) v.log))
      applies applied fit next first =
          subst (λ g. generation_word origin.words 0 < g)
          (sym (applied_generation v applied y (set_word w y) (store_change w (slice_index v.words w) y) fit next inside (λ ends. ap (λ (f : Final). f.bits) ends) (λ own e. let far = behind w own in let zero = fits.lane.lane in omega (arith, e, far, zero)))) first

      store_first : (p : Phase) (part : Part) → v.log.phase ≡ p → part_of v.lane w ≡ part → StoreFits v w y p part → PhaseFits (Flies stands.log stands.decided 0) v p → FirstLog origin v p
          → FirstLog origin (stored (log_stored p part y v.log)) (log_stored p part y v.log).phase
      store_first Idle part is of may fit first = absurd may
      store_first (Open slot pair) GenerationWord is of may fit first = raises of may.ends first.0.least (record v.log { phase = Retiring })
      store_first (Open slot pair) SealWord is of may fit first = absurd may
      store_first (Open slot pair) EntryWord is of may fit first = in_pair slot pair is may fit.short_pair first
      store_first (Open slot pair) SlotWord is of may fit first = in_slot slot pair may fit.short first
      store_first (Open slot pair) OtherWord is of (inl writes) fit first = first_still (stored v.log) (object_carries writes) refl (subst (FirstLog origin v) (sym is) first)
      store_first (Open slot pair) OtherWord is of (inr (inl fills)) fit first = first_still (stored v.log) (reserved_carries fills.reserved) refl (subst (FirstLog origin v) (sym is) first)
      store_first (Open slot pair) OtherWord is of (inr (inr describes)) fit first = first_still (stored v.log) (reserved_carries (describing_reserved v w y describes)) refl (subst (FirstLog origin v) (sym is) first)
      store_first Drawn GenerationWord is of may fit first = raises of may first (record v.log { phase = Retiring })
      store_first Drawn SealWord is of may fit first = sealed (λ g. generation_word origin.words 0 ≤ g) Sealing of first
      store_first Drawn EntryWord is of may fit first = absurd may
      store_first Drawn SlotWord is of may fit first = absurd may
      store_first Drawn OtherWord is of may fit first = absurd may
      store_first Sealing part is of may fit first = absurd may
      store_first (Applying applied) GenerationWord is of may fit first = applies applied fit may first
      store_first (Applying applied) SealWord is of may fit first =
          sealed (λ g. generation_word origin.words 0 < g) Clearing of (subst (λ g. generation_word origin.words 0 < g) (cond-true _ (generation_of v) (generation_of v + 1) (eq-eqb applied (length v.log.entries) may.all)) first)
      store_first (Applying applied) EntryWord is of may fit first = absurd may
      store_first (Applying applied) SlotWord is of may fit first = absurd may
      store_first (Applying applied) OtherWord is of may fit first = applies applied fit may first
      store_first Clearing part is of may fit first = absurd may
      store_first Retiring part is of may fit first = absurd may

    -- bits of a word are set or cleared: the last entry is to come
    bits_first : (op : Op) (w bits y : ℕ) (c : Change) → MayChange v op w bits → FirstLog origin v v.log.phase → FirstLog origin (changed v w y c (log_changed v.log.phase v.log)) (log_changed v.log.phase v.log).phase
    bits_first op w bits y c may first =
        let t = changes_next v op w bits v.log.phase refl (part_of v.lane w) refl may.fits in
        let own = (changes_written (Flies stands.log stands.decided 0) v op w bits fits.phase t).0 in
        let fit : ApplyingFits v t.applied = subst (PhaseFits (Flies stands.log stands.decided 0) v) t.phase fits.phase in
        let apart : area_word v.lane ≢ w = λ e. no_generation v.lane w t.outside (sym e) in
        subst (λ (p : Phase). FirstLog origin (changed v w y c (log_changed p v.log)) (log_changed p v.log).phase) (sym t.phase)
        (subst (λ g. generation_word origin.words 0 < g)
        (sym (subst (λ u. records_generation (Applying (t.applied + 1)) (changed v u y c (in_phase (Applying (t.applied + 1)) v.log)) ≡ records_generation (Applying t.applied) v) (final_word op w bits)
        (applied_generation v t.applied y (changing op w bits t.ors) c fit t.next (subst (λ u. u < length v.words) (sym (final_word op w bits)) may.inside)
        (λ ends. absurd (apart (sym (ap (λ (f : Final). f.word) ends) ∙ final_word op w bits))) (λ own_ e. apart (e ∙ final_word op w bits)))))
        (subst (FirstLog origin v) t.phase first))

    -- nothing is undrained any longer, or less
    abbrev emptied : List Change → Log → View
    emptied changes lg = record v { changes = changes; calls = v.calls + 1; log = lg }

    empty_carries : (left : List Change) → ((c : Change) → Contains left c → Contains v.changes c) → Carries v (emptied left v.log)
    empty_carries left among = quiet (emptied left v.log) refl refl refl refl (λ c there. itself v.changes c (among c there)) (λ u own. own) (λ u own is. is)

    drained_first : (p : Phase) (drawn : Bool) → v.log.phase ≡ p → FirstLog origin v p → FirstLog origin (emptied [] (log_drained p drawn v.log)) (log_drained p drawn v.log).phase
    drained_first Idle drawn is first = first_still (emptied [] v.log) (empty_carries [] (λ c there. absurd (no_member c there))) refl (subst (FirstLog origin v) (sym is) first)
    drained_first (Open slot pair) drawn is first = first_still (emptied [] v.log) (empty_carries [] (λ c there. absurd (no_member c there))) refl (subst (FirstLog origin v) (sym is) first)
    drained_first Drawn drawn is first = first_still (emptied [] v.log) (empty_carries [] (λ c there. absurd (no_member c there))) refl (subst (FirstLog origin v) (sym is) first)
    drained_first Sealing drawn is first =
        let sealing : SealingFits (Flies stands.log stands.decided 0) v = subst (PhaseFits (Flies stands.log stands.decided 0) v) is fits.phase in
        let whole = sealing.whole in
        let size : length v.log.entries ≡ length whole.front + 1 = ap length whole.are ∙ length-append whole.front (ends_with v (generation_of v + 1) ∷ []) in
        subst (λ g. generation_word origin.words 0 < g) (sym (cond-false _ (generation_of v) (generation_of v + 1) (ne_eqb 0 (length v.log.entries) (λ none. omega (arith, none, size))))) (omega (arith, first))
    drained_first (Applying applied) drawn is first = first_still (emptied [] v.log) (empty_carries [] (λ c there. absurd (no_member c there))) refl (subst (FirstLog origin v) (sym is) first)
    drained_first Clearing drawn is first = record { least = omega arith; first = λ now. absurd (omega arith) }
    drained_first Retiring true is first = record { least = omega arith; first = λ now. absurd (omega arith) }
    drained_first Retiring false is first = (record { least = omega arith; first = λ now. absurd (omega arith) }, λ some. absurd (omega arith))

    drain_first : (left : List Change) → ((c : Change) → Contains left c → Contains v.changes c) → FirstLog origin v v.log.phase → FirstLog origin (emptied left (log_after_drain left v)) (log_after_drain left v).phase
    drain_first [] among first = drained_first v.log.phase (is_some v.number) refl first
    drain_first (c ∷ left) among first = first_still (emptied (c ∷ left) v.log) (empty_carries (c ∷ left) among) refl first

    -- a number is seen: a call begins, or nothing of the log changes
    still_seen : (n : ℕ) → Carries v (with_seen (NumberSeen n) v)
    still_seen n = quiet (with_seen (NumberSeen n) v) refl refl refl refl (itself v.changes) (λ u own. own) (λ u own is. is)

    seen_first : (n : ℕ) (p : Phase) → v.log.phase ≡ p → FirstLog origin v p → FirstLog origin (with_seen (NumberSeen n) (begun p v)) (begun p v).log.phase
    seen_first n Idle is first =
        (record { least = first.least; first = λ now. let un = first.first now in record { beyond = un.beyond; olds = un.olds } }, λ some. absurd (omega arith))
    seen_first n (Open slot pair) is first = first_still (with_seen (NumberSeen n) v) (still_seen n) refl (subst (FirstLog origin v) (sym is) first)
    seen_first n Drawn is first = first_still (with_seen (NumberSeen n) v) (still_seen n) refl (subst (FirstLog origin v) (sym is) first)
    seen_first n Sealing is first = first_still (with_seen (NumberSeen n) v) (still_seen n) refl (subst (FirstLog origin v) (sym is) first)
    seen_first n (Applying applied) is first = first_still (with_seen (NumberSeen n) v) (still_seen n) refl (subst (FirstLog origin v) (sym is) first)
    seen_first n Clearing is first = first_still (with_seen (NumberSeen n) v) (still_seen n) refl (subst (FirstLog origin v) (sym is) first)
    seen_first n Retiring is first = first_still (with_seen (NumberSeen n) v) (still_seen n) refl (subst (FirstLog origin v) (sym is) first)

    -- the call draws
    abbrev numbered : ℕ → Log → View
    numbered n lg = record (after v (Draw n)) { log = lg }

    drawn_first : (n : ℕ) (lg : Log) (records : List Recorded) (entries : List Final) → v.log.records ≡ records → Since origin v (648 + 8 * length v.log.records + 0) → FirstLog origin (numbered n lg) (phase_drawn records entries)
    drawn_first n lg [] [] none since =
        let count : length v.log.records ≡ 0 = ap (λ (rs : List Recorded). length rs) none in
        record {
          least = since.least;
          first = λ now.
              let un = since.first now in
              record { beyond = λ i from high. un.beyond i (omega (arith, from, count)) high; olds = un.olds };
        }
    drawn_first n lg [] (f ∷ entries) some since = since.least
    drawn_first n lg (r ∷ records) entries some since = since.least

    draw_first : (n : ℕ) (p : Phase) → p ≡ Open [] [] → FirstLog origin v p → FirstLog origin (numbered n (log_drawn p v.log)) (log_drawn p v.log).phase
    draw_first n p is first =
        subst (λ (q : Phase). FirstLog origin (numbered n (log_drawn q v.log)) (log_drawn q v.log).phase) (sym is)
        (drawn_first n (log_drawn (Open [] []) v.log) v.log.records v.log.entries refl (subst (FirstLog origin v) is first).0)

    told_carries : (w : View) → w ≡ record v { seen = w.seen; call = w.call; actions = w.actions } → Carries v w
    told_carries w is = subst (Carries v) (sym is) (quiet (record v { seen = w.seen; call = w.call; actions = w.actions }) refl refl refl refl (itself v.changes) (λ u own. own) (λ u own is_. is_))

    pub first_after : (s : Step) → Allowed v s → FoundAlone v s → FirstLog origin v v.log.phase → FirstLog origin (after v s) (after v s).log.phase
    first_after (Load w x) may found first = first_still (after v (Load w x)) (load_carries w x may (found alone)) refl first
    first_after (Store w y) may found first = store_first w y may.inside v.log.phase (part_of v.lane w) refl refl may.fits fits.phase first
    first_after (Or w bits found) may f first = bits_first op.Or w bits (bit_or found bits) (or_change w bits found) may first
    first_after (And w bits found) may f first = bits_first op.And w bits (bit_and found bits) (and_change w bits found) may first
    first_after (Flush line) may found first = first_still (after v (Flush line)) (flush_carries line) refl first
    first_after Drain may found first = drain_first (drained v.changes) (λ c there. member_kept (λ (d : Change). not d.flushed) v.changes c there) first
    first_after (TakeWrite line won) may found first = first_still (after v (TakeWrite line won)) (take_write_carries line won) refl first
    first_after (TakeRead line won) may found first = first_still (after v (TakeRead line won)) (take_read_carries line won) refl first
    first_after (Raise line won) may found first = absurd may
    first_after (Give line) may found first = first_still (after v (Give line)) (give_carries line may) refl first
    first_after (ZoneTry zone won) may found first = first_still (after v (ZoneTry zone won)) (quiet (after v (ZoneTry zone won)) refl refl refl refl (itself v.changes) (λ u own. own) (λ u own is_. is_)) refl first
    first_after (ZoneGive zone) may found first = first_still (after v (ZoneGive zone)) (quiet (after v (ZoneGive zone)) refl refl refl refl (itself v.changes) (λ u own. own) (λ u own is_. is_)) refl first
    first_after (Occupied at found) may f first = first_still (after v (Occupied at found)) (quiet (after v (Occupied at found)) refl refl refl refl (itself v.changes) (λ u own. own) (λ u own is_. is_)) refl first
    first_after (Occupy at bits won) may found first = first_still (after v (Occupy at bits won)) (quiet (after v (Occupy at bits won)) refl refl refl refl (itself v.changes) (λ u own. own) (λ u own is_. is_)) refl first
    first_after (Vacate at bits) may found first = first_still (after v (Vacate at bits)) (vacate_carries at bits) refl first
    first_after (Draw n) may found first = draw_first n v.log.phase may.is_open first
    first_after (NumberSeen n) may found first = seen_first n v.log.phase refl first
    first_after (StopSeen set) may found first = first_still (after v (StopSeen set)) (told_carries (after v (StopSeen set)) refl) refl first
    first_after SetStop may found first = first
    first_after (Tell operation reply) may found first = first_still (after v (Tell operation reply)) (told_carries (after v (Tell operation reply)) refl) refl first
