-- A slot that is being written while the power fails and is valid in the image holds a whole record, where no torn record matches by chance.
use Rattle.std.proofs.Common.{◌≡◌, ◌≢◌, ◌⊎◌, ⊎_elim, inl, inr, ℕ, zero, suc, ◌+◌, ◌-◌, ◌*◌, ◌/◌, ◌<◌, ◌≤◌, Bool, true, false, not, eqb, leb, ltb, IsTrue, List, [], ◌∷◌, ◌++◌, length, take, drop, slice_get, slice_index, slice_range, Some, refl, sym, ◌∙◌, ap, subst, arith, eq-eqb}
use Rattle.std.specs.List.{list_all, list_any, range_with_len}
use Rattle.std.specs.Option.{ForSome}
use Rattle.std.proofs.lemmas.Bool.{cases_eq, cases_lt, and_from, eqb-true, false≢true, le-leb, lt-ltb, ne_eqb, not_from_false, or_from}
use Rattle.std.proofs.lemmas.List.{ext_get_or, get_or-drop, get_or-take, length-drop, length-take}
use Rattle.std.proofs.lemmas.List.Folds.{Any-from_list_any, list_any_none}
use Rattle.std.proofs.lemmas.List.Elements.{All-weaker}
use Rattle.std.proofs.lemmas.Option.{cond_some}
use Rattle.pm_header.specs.declared.header.Header.{Header}
use Rattle.pm_objects.specs.declared.pool.PoolView.{PoolView}
use Rattle.pm_record.specs.Undo.{is_record, undo_in, undo_of}
use Rattle.pm_record.specs.declared.undo.Undo.{Undo}
use Rattle.pm_image.specs.Logs.{generation, generation_word, seal_word, slot_line, undo_slot}
use Rattle.pm_image.specs.Steps.{valid_record}
use Rattle.solo_view.specs.declared.change.Change.{Change}
use Rattle.solo_view.specs.Area.{area_word}
use Rattle.solo_view.specs.Changes.{is_in_line}
use Rattle.solo_view.specs.Founds.{IsAlone}
use Rattle.solo_view.specs.Log.{Log, Phase, Recorded, no_log}
use Rattle.solo_view.specs.Log.Phase.{Idle, Open, Drawn, Sealing, Applying, Clearing, Retiring}
use Rattle.solo_view.specs.Rights.{is_written}
use Rattle.solo_view.specs.Steps.{Step}
use Rattle.solo_view.specs.View.{View}
use Rattle.solo_view.specs.Views.{after}
use Rattle.solo_view.proofs.SameLane.{same_lane-after}
use Rattle.solo_memory.specs.Keep.{IsKeptImage}
use Rattle.solo_memory.specs.Solo.{AreNumbered}
use Rattle.solo_world.specs.Crash.{IsBeingWritten, IsWhole, NoneTorn, Survives}
use Rattle.solo_world.specs.Entries.{is_in_log, is_redoing, is_redone}
use Rattle.solo_world.specs.Fits.{AppliedChange, ApplyingFits, LaneFits, OpenFits, PhaseFits, RecordFits}
use Rattle.solo_world.specs.History.{Flies, settled}
use Rattle.solo_world.specs.Lawful.{CanRecord}
use Rattle.solo_world.specs.Memory.Location.{PoolWord}
use Rattle.solo_world.specs.Opening.{IsLivingWord, Opening}
use Rattle.solo_world.specs.Records.{IsRecordAt, covers, generation_of, is_drained_slot, is_logged, records_generation, slot_word, spelled, used_slots}
use Rattle.solo_world.proofs.CrashEntries.{generation_is}
use Rattle.solo_world.proofs.CrashLaw.{all_drained, retiring_drained, seal_drained}
use Rattle.solo_world.proofs.CrashLogs.{GenerationIs, drained_slot, entered_front, not_logged, whole_word}
use Rattle.solo_world.proofs.CrashSpellings.{valid_parts}
use Rattle.solo_world.proofs.CrashWords.{OwnTakenBack, area_left}
use Rattle.solo_world.proofs.Exclusion.{writes_under}
use Rattle.solo_world.proofs.Filled.{filled_slot}
use Rattle.solo_world.proofs.Living.{guarded_lives}
use Rattle.solo_world.proofs.Pairs.{none_redone}
use Rattle.solo_world.proofs.StoreSlot.{length-spelled}
use Rattle.solo_crash.specs.Alone.{GrowsFirst, HasNoTornMatch, MayRecord, Rests, WorksAlone, alone_views, idle_view, is_of_words, standing}
use Rattle.solo_crash.specs.Leading.{Leads}
use Rattle.solo_crash.proofs.AloneCourse.{StandsAlone, alone_else, due_along, grows_along, number_along, stands_after, stands_at, begins_alone, begins_idle, begins_slots, begins_words}
use Rattle.solo_crash.proofs.AloneImages.{kept_survives, own_fits}
use Rattle.solo_crash.proofs.AloneMemory.{memory_of}
use Rattle.solo_crash.proofs.FirstLog.{FirstLog, Making, Since, Unwritten, first_after}
use Rattle.solo_crash.proofs.Leading.{leads_on}
use Rattle.solo_crash.proofs.LogCourse.{InRange}
use Rattle.solo_crash.proofs.OnTheWay.{alone_on_the_way, works_up_to}

-- where a lane that is alone stands, and its log since the origin
record StandsFirst (o origin : Opening) (header : Header) (pool : PoolView) (w : View) : Type 0 where
  stands : StandsAlone o header pool w
  first : FirstLog origin w w.log.phase

-- where the lane rests nothing of a log is written since
rested : (o : Opening) (b : View) (end : ℕ) → b.lane ≡ 0 → ((slot : ℕ) → slot < 64 → is_drained_slot b slot ≡ true) → Since (standing o b) b end
rested o b end lane drained =
    let is : generation_of b ≡ generation_word b.words 0 = ap (λ (n : ℕ). slice_index b.words (area_word n)) lane in
    record {
      least = omega (arith, is);
      first = λ now. record {
        beyond = λ i from high. refl;
        olds = λ c there slots.
            let low = slots.low in let high = slots.high in
            absurd (drained_slot b (c.word / 8 - 81) c (drained (c.word / 8 - 81) (omega (arith, low, high))) there (omega (arith, low, lane)));
      };
    }

first_at_rest : (o : Opening) (b : View) → b.lane ≡ 0 → Rests b → FirstLog (standing o b) b b.log.phase
first_at_rest o b lane rests = ⊎_elim
    (λ (idle : b.log ≡ no_log Idle). subst (λ (l : Log). FirstLog (standing o b) b l.phase) (sym idle) (rested o b 648 lane rests.drained))
    (λ (fresh : b.log ≡ no_log (Open [] [])). subst (λ (l : Log). FirstLog (standing o b) b l.phase) (sym fresh)
    (rested o b (648 + 8 * length b.log.records + 0) lane rests.drained, λ some. absurd (omega arith)))
    rests.empty

module _ (o : Opening) (header : Header) (pool : PoolView) where
  first_along : (origin : Opening) (v : View) (steps : List Step) (w : View) → StandsAlone o header pool v → IsAlone v → FirstLog origin v v.log.phase → Leads v steps w → AreNumbered 1 w.entries
      → ForSome w.stop (λ stop. w.calls ≤ stop) → StandsFirst o origin header pool w
  unfolding Leads
  first_along origin v [] w stands alone first leads numbered within = subst (StandsFirst o origin header pool) (sym leads) (record { stands = stands; first = first })
  first_along origin v (s ∷ steps) w stands alone first leads numbered within =
      let grows = grows_along (after v s) steps w leads.3 in
      first_along origin (after v s) steps w
      (stands_after o header pool v stands s alone leads.0 leads.1 leads.2 (due_along o header pool v s w grows within) (number_along o header pool v s w grows numbered))
      ((same_lane-after v s).table ∙ alone) (first_after o header pool v stands alone origin s leads.0 leads.1 first) leads.3 numbered within

  first_at : (v b w : View) (before steps : List Step) → WorksAlone o header pool v (before ++ steps) w → Leads v before b → Rests b → StandsFirst o (standing o b) header pool w
  first_at v b w before steps works leads rests =
      let up : WorksAlone o header pool v before b = works_up_to o header pool v b w before steps works leads in
      let stands : StandsAlone o header pool b = stands_at o header pool v before b up.begins up.leads up.numbered up.within in
      first_along (standing o b) b steps w stands (alone_on_the_way v b before (begins_alone o header pool v up.begins) leads) (first_at_rest o b (own_fits o header pool b stands).lane.lane rests)
      (leads_on v b w before steps leads works.leads) works.numbered works.within

-- eight words of a list
eight_words : (words : List ℕ) (a i : ℕ) → i < 8 → slice_index (slice_range words a (a + 8)) i ≡ slice_index words (a + i)
eight_words words a i low =
    let count : a + 8 - a ≡ 8 = omega arith in
    ap (λ (n : ℕ). slice_index (take n (drop a words)) i) count ∙ get_or-take 8 (drop a words) i 0 low ∙ get_or-drop a words i 0

eight_count : (words : List ℕ) (a : ℕ) → a + 8 ≤ length words → length (slice_range words a (a + 8)) ≡ 8
eight_count words a inside =
    let count : a + 8 - a ≡ 8 = omega arith in
    let behind = length-drop a words in
    let taken = length-take 8 (drop a words) in
    ap (λ (n : ℕ). length (take n (drop a words))) count ∙ (let e : length (take 8 (drop a words)) ≡ 8 = omega (arith, behind, taken) in e)

-- two lists of eight words are the same, or not
are_same : (n : ℕ) (one other : List ℕ) → ((i : ℕ) → i < n → slice_index one i ≡ slice_index other i) ⊎ (one ≢ other)
are_same zero one other = inl (λ i low. absurd (omega arith))
are_same (suc n) one other = ⊎_elim
    (λ (before : (i : ℕ) → i < n → slice_index one i ≡ slice_index other i). ⊎_elim
    (λ (here : slice_index one n ≡ slice_index other n). inl (λ i low. ⊎_elim
    (λ (same : i ≡ n). ap (slice_index one) same ∙ here ∙ ap (slice_index other) (sym same))
    (λ (differ : i ≢ n). before i (omega (arith, differ)))
    (cases_eq i n)))
    (λ (differ : slice_index one n ≢ slice_index other n). inr (λ same. differ (ap (λ (ws : List ℕ). slice_index ws n) same)))
    (cases_eq (slice_index one n) (slice_index other n)))
    (λ (differ : one ≢ other). inr differ)
    (are_same n one other)

-- a slot with a record has it as it stands
record Reads (words : List ℕ) (u : Undo) : Type 0 where
  matches : is_record words ≡ true
  begun : u.generation ≡ slice_index words 0

reads : (words : List ℕ) (u : Undo) → undo_of words ≡ Some u → Reads words u
reads words u is =
    let t = cond_some (is_record words) (undo_in words) u is in
    record { matches = t.0; begun = ap (λ (x : Undo). x.generation) (sym t.1) }

-- a slot of the log has a record
record_there : (records : List Recorded) (slot : ℕ) → slot < length records → (r : Recorded) × (slice_get records slot ≡ Some r)
record_there [] slot low = absurd (omega arith)
record_there (r ∷ records) zero low = (r, refl)
record_there (r ∷ records) (suc slot) low = record_there records slot (omega arith)

not_drained : (b : Bool) → not b ≡ false → b ≡ true
not_drained true e = refl
not_drained false e = absurd (false≢true (sym e))

module _ (o : Opening) (header : Header) (pool : PoolView) (w : View) (s : StandsAlone o header pool w) where
  fits : LaneFits o (memory_of w) (settled o s.log s.decided) (Flies s.log s.decided 0) 0 w
  fits = own_fits o header pool w s

  -- what the lane may write lies in the zones
  lies : (u : ℕ) → IsTrue (is_written w u) → (512 + 1024 * o.lanes ≤ u) × (u < length o.words)
  lies u own =
      let under = writes_under o (memory_of w) 0 w u fits.locks own in
      (s.goes.world.sound.behind_areas under.0 u under.1, s.goes.world.sound.within under.0 u under.1)

  may_record : (r : Recorded) → 1 ≤ length r.old → length r.old ≤ 4 → ((i : ℕ) → i < length r.old → IsTrue (is_written w (r.word + i)))
      → ((i : ℕ) → i < length r.old → slice_index w.words (r.word + i) ≡ slice_index r.old i) → MayRecord w r
  may_record r some most own present =
      let from = (lies (r.word + 0) (own 0 some)).0 in
      let last : r.word + (length r.old - 1) < length o.words = (lies (r.word + (length r.old - 1)) (own (length r.old - 1) (omega (arith, some)))).1 in
      let size = fits.lane.size in
      let lanes = fits.lane.lanes in
      record { some = some; most = most; behind = omega (arith, from, lanes); inside = omega (arith, last, size, some); own = own; present = present }

  can_may : (r : Recorded) → CanRecord w r → MayRecord w r
  can_may r can = may_record r can.some can.most (λ i low. (can.each i low).own) (λ i low. (can.each i low).present)

  -- an undrained record's words have not been written
  undrained_may : (slot : ℕ) (r : Recorded) → is_redoing w.log.phase ≡ false → IsRecordAt w slot r → is_drained_slot w slot ≡ false → MayRecord w r
  undrained_may slot r still at undrained =
      may_record r record_fits.some record_fits.most (λ i low. (record_fits.each i low).own)
      (λ i low. s.goes.world.each_word (r.word + i) (heap i low) (unlogged i low) ∙ sym (record_fits.each i low).before)
    where
      record_fits : RecordFits (settled o s.log s.decided) w r
      record_fits = fits.log.each slot r at

      heap : (i : ℕ) → i < length r.old → IsLivingWord o (r.word + i)
      heap i low = let under = writes_under o (memory_of w) 0 w (r.word + i) fits.locks (record_fits.each i low).own in guarded_lives o s.goes.world.sound under.0 (r.word + i) under.1

      covered : (i : ℕ) → i < length r.old → covers r (r.word + i) ≡ true
      covered i low = and_from (leb r.word (r.word + i)) (ltb (r.word + i) (r.word + length r.old)) (le-leb r.word (r.word + i) (omega arith)) (lt-ltb (r.word + i) (r.word + length r.old) (omega arith))

      own_unlogged : (i : ℕ) → i < length r.old → is_logged w (r.word + i) ≡ false
      own_unlogged i low = not_logged w (r.word + i) (λ other q there of.
          let same : other ≡ slot = fits.log.once other slot q r (r.word + i) there at of (covered i low) in
          ap (is_drained_slot w) same ∙ undrained)

      unlogged : (i : ℕ) → i < length r.old → (k : ℕ) → k < o.lanes → is_in_log (s.views k) (r.word + i) ≡ false
      unlogged i low k inside = ⊎_elim
          (λ (same : k ≡ 0). ap (λ (n : ℕ). is_in_log (s.views n) (r.word + i)) same ∙ ap (λ (u : View). is_in_log u (r.word + i)) s.here
          ∙ or_from (is_logged w (r.word + i)) (is_redone w (r.word + i)) (own_unlogged i low) (none_redone w (r.word + i) still))
          (λ (other : k ≢ 0). ap (λ (u : View). is_in_log u (r.word + i)) (s.others k other))
          (cases_eq k 0)

  -- an image, and a slot as it was at the origin
  module _ (origin : Opening) (image : List ℕ) (survives : Survives o (memory_of w) s.views image) (slot : ℕ) (within : slot < 64) where
    abbrev place : ℕ
    place = 8 * slot_line 0 slot

    abbrev found : List ℕ
    found = undo_slot image 0 slot

    size : 1536 ≤ length o.words
    size = let all = s.goes.world.sound.size in let some = s.goes.in_lanes in omega (arith, all, some)

    -- each word of the slot is as the lane left it, or as at the origin
    found_word : (end i : ℕ) → Unwritten origin w end → i < 8 → (slice_index found i ≡ slice_index w.words (place + i)) ⊎ (slice_index found i ≡ slice_index origin.words (place + i))
    found_word end i un low =
        let word : slice_index found i ≡ slice_index image (place + i) = eight_words image place i low in
        let some = s.goes.in_lanes in
        let left : (slice_index image (place + i) ≡ slice_index w.words (place + i)) ⊎ OwnTakenBack w image (place + i) =
        subst (λ (u : View). (slice_index image (place + i) ≡ slice_index u.words (place + i)) ⊎ OwnTakenBack u image (place + i)) s.here
        (area_left o (memory_of w) s.views s.log s.decided s.goes.world image survives 0 (place + i) s.goes.in_lanes (omega arith) (omega arith)) in
        ⊎_elim
        (λ (same : slice_index image (place + i) ≡ slice_index w.words (place + i)). inl (word ∙ same))
        (λ (t : OwnTakenBack w image (place + i)).
        let at = t.of_word in
        inr (word ∙ t.is_old ∙ un.olds t.change t.there (record { low = omega (arith, at); high = omega (arith, at, low, within) }) ∙ ap (slice_index origin.words) t.of_word))
        left

    -- so the slot is whole, where each word of it as the lane left it is that of the record, or as at the origin
    whole_found : (test : Recorded → Bool) → HasNoTornMatch origin test → (r : Recorded) → 1 ≤ length r.old → length r.old ≤ 4 → test r ≡ true → (end : ℕ) → Unwritten origin w end
        → ((i : ℕ) → i < 8 → (slice_index w.words (place + i) ≡ slice_index (spelled (generation_word origin.words 0) r) i) ⊎ (slice_index w.words (place + i) ≡ slice_index origin.words (place + i)))
        → is_record found ≡ true → slice_index found 0 ≡ generation_word origin.words 0 → found ≡ spelled (generation_word origin.words 0) r
    whole_found test none r some most passes end un left matches begun =
        let whole : List ℕ = spelled (generation_word origin.words 0) r in
        let long = survives.size in
        let big = size in
        let count : length found ≡ 8 = eight_count image place (omega arith) in
        let eight : length whole ≡ 8 = length-spelled (generation_word origin.words 0) r most in
        ⊎_elim
        (λ (same : (i : ℕ) → i < 8 → slice_index found i ≡ slice_index whole i). ext_get_or 0 found whole (count ∙ sym eight) (λ i low. same i (omega (arith, count))))
        (λ (differ : found ≢ whole).
        absurd (none slot r found within some most passes (record {
          size = count;
          mixed = λ i low.
              let was : slice_index (undo_slot origin.words 0 slot) i ≡ slice_index origin.words (place + i) = eight_words origin.words place i low in
              ⊎_elim
              (λ (now : slice_index found i ≡ slice_index w.words (place + i)). ⊎_elim
              (λ (ours : slice_index w.words (place + i) ≡ slice_index whole i). inl (now ∙ ours))
              (λ (old : slice_index w.words (place + i) ≡ slice_index origin.words (place + i)). inr (now ∙ old ∙ sym was))
              (left i low))
              (λ (old : slice_index found i ≡ slice_index origin.words (place + i)). inr (old ∙ sym was))
              (found_word end i un low);
          begun = begun;
          torn = differ;
          matches = matches;
        })))
        (are_same 8 found whole)

    -- where the slot stands that is being written
    abbrev IsInLog : List ℕ → Type 0
    IsInLog making = ((slot < length w.log.records) × (is_drained_slot w slot ≡ false)) ⊎ ((slot ≡ length w.log.records) × (1 ≤ length making))

    used_here : (making pair : List ℕ) → length w.log.records ≤ slot → slot < used_slots (Open making pair) w → IsInLog making
    used_here [] pair from to = absurd (omega arith)
    used_here (x ∷ making) pair from to = inr (omega arith, omega arith)

    changed_here : (making pair : List ℕ) → w.log.phase ≡ Open making pair → length making < 8 → is_drained_slot w slot ≡ false → IsInLog making
    changed_here making pair is short undrained = ⊎_elim
        (λ (low : slot < length w.log.records). inl (low, undrained))
        (λ (high : length w.log.records ≤ slot).
        let t = Any-from_list_any (is_in_line (slot_line w.lane slot)) w.changes (not_drained (list_any (is_in_line (slot_line w.lane slot)) w.changes) undrained) in
        let c : Change = t.1 in
        let line : c.word / 8 ≡ slot_line w.lane slot = eqb-true (c.word / 8) (slot_line w.lane slot) t.4 in
        let lane = fits.lane.lane in
        let range : InRange (memory_of w (PoolWord (area_word 0))) w (Open making pair) =
        subst (InRange (memory_of w (PoolWord (area_word 0))) w) is (subst (λ (u : View). InRange (memory_of w (PoolWord (area_word 0))) u u.log.phase) s.here s.goes.range) in
        let below = range.1 c (t.0, t.2, t.3) (record { low = omega (arith, line, lane); high = omega (arith, line, lane, within) }) in
        inr (omega (arith, below, line, lane, high, short), omega (arith, below, line, lane, high, short)))
        (cases_lt slot (length w.log.records))

    open_here : (making pair : List ℕ) → w.log.phase ≡ Open making pair → length making < 8 → IsBeingWritten w slot → IsInLog making
    open_here making pair is short being = ⊎_elim
        (λ (undrained : is_drained_slot w slot ≡ false). changed_here making pair is short undrained)
        (λ (used : (length w.log.records ≤ slot) × (slot < used_slots w.log.phase w)). used_here making pair used.0 (subst (λ (p : Phase). slot < used_slots p w) is used.1))
        being

    -- a drained log of which no slot is used
    none_here : (phase : Phase) → w.log.phase ≡ phase → used_slots phase w ≡ length w.log.records → is_drained_slot w slot ≡ true → IsBeingWritten w slot → IsWhole w image slot
    none_here phase is used drained being = absurd (⊎_elim
        (λ (undrained : is_drained_slot w slot ≡ false). false≢true (sym undrained ∙ drained))
        (λ (more : (length w.log.records ≤ slot) × (slot < used_slots w.log.phase w)).
        let below : slot < used_slots phase w = subst (λ (p : Phase). slot < used_slots p w) is more.1 in let from = more.0 in omega (arith, below, from, used))
        being)

    -- while entries are applied, no slot has a change
    applied_drained : (applied : ℕ) → ApplyingFits w applied → is_drained_slot w slot ≡ true
    applied_drained applied fit =
        let lane = fits.lane.lane in
        let some = s.goes.in_lanes in
        not_from_false (list_any (is_in_line (slot_line w.lane slot)) w.changes)
        (list_any_none (is_in_line (slot_line w.lane slot)) w.changes
        (All-weaker (AppliedChange w applied) (λ c. is_in_line (slot_line w.lane slot) c ≡ false) (λ c of. ne_eqb (c.word / 8) (slot_line w.lane slot) (λ same. ⊎_elim
        (λ (own : is_written w c.word ≡ true). let far = (lies c.word own).0 in omega (arith, same, far, lane, some, within))
        (λ (own : c.word ≡ area_word w.lane). omega (arith, same, own, lane))
        (whole_word w (records_generation (Applying applied) w) c.word fit.whole (entered_front applied w.log.entries c.word of.of)))) w.changes fit.changes))

    -- the log may grow, at the origin's generation
    module _ (test : Recorded → Bool) (none : HasNoTornMatch origin test) (passes : (r : Recorded) → MayRecord w r → test r ≡ true) (u : Undo) (valid : valid_record image 0 slot ≡ Some u)
        (making pair : List ℕ) (is : w.log.phase ≡ Open making pair) (open_fits : OpenFits w making pair) (now : generation_of w ≡ generation_word origin.words 0)
        (un : Unwritten origin w (648 + 8 * length w.log.records + length making)) where
      read_back : Reads found u
      read_back = reads found u (valid_parts image 0 slot u valid).stands

      begins_so : slice_index found 0 ≡ generation_word origin.words 0
      begins_so =
          let generation_there : generation image 0 ≡ generation_of w =
          subst (GenerationIs w (seal_word image 0) (generation image 0)) is
          (subst (λ (x : View). GenerationIs x (seal_word image 0) (generation image 0) x.log.phase) s.here (generation_is o (memory_of w) s.views s.log s.decided s.goes.world image survives 0 s.goes.in_lanes)) in
          sym read_back.begun ∙ (valid_parts image 0 slot u valid).present ∙ generation_there ∙ now

      -- it holds the record so
      holds_so : (r : Recorded) → IsRecordAt w slot r ⊎ ((length w.log.records ≤ slot) × CanRecord w r) → found ≡ spelled (generation_word origin.words 0) r → IsWhole w image slot
      holds_so r lawful same = record {
        held = r;
        lawful = lawful;
        spells =
            ap (λ (lane : ℕ). undo_slot image lane slot) fits.lane.lane
            ∙ same
            ∙ ap (λ (g : ℕ). spelled g r) (sym (ap (λ (p : Phase). records_generation p w) is ∙ now));
      }

      -- a record of the log
      stored_whole : slot < length w.log.records → is_drained_slot w slot ≡ false → IsWhole w image slot
      stored_whole low undrained =
          let t = record_there w.log.records slot low in
          let may = undrained_may slot t.0 (ap is_redoing is) t.1 undrained in
          let stored : undo_slot w.words 0 slot ≡ spelled (generation_word origin.words 0) t.0 =
          ap (λ (lane : ℕ). undo_slot w.words lane slot) (sym fits.lane.lane)
          ∙ fits.log.stored slot t.0 t.1
          ∙ ap (λ (g : ℕ). spelled g t.0) (ap (λ (p : Phase). records_generation p w) is ∙ now) in
          holds_so t.0 (inl t.1)
          (whole_found test none t.0 may.some may.most (passes t.0 may) (648 + 8 * length w.log.records + length making) un
          (λ i below. inl (sym (eight_words w.words place i below) ∙ ap (λ (ws : List ℕ). slice_index ws i) stored)) read_back.matches begins_so)

      -- the one in the making
      making_whole : slot ≡ length w.log.records → Making w making → IsWhole w image slot
      making_whole last m =
          let may = can_may m.next m.can in
          let lane = fits.lane.lane in
          let short = open_fits.short in
          holds_so m.next (inr (omega (arith, last), m.can))
          (whole_found test none m.next may.some may.most (passes m.next may) (648 + 8 * length w.log.records + length making) un
          (λ i below. ⊎_elim
          (λ (written : i < length making).
          let at : place + i ≡ slot_word w.lane (length w.log.records) + i = omega (arith, lane, last) in
          inl (ap (slice_index w.words) at ∙ open_fits.stands i written
          ∙ ap (λ (ws : List ℕ). slice_index ws i) m.spells
          ∙ get_or-take (length making) (spelled (generation_of w) m.next) i 0 written
          ∙ ap (λ (g : ℕ). slice_index (spelled g m.next) i) now))
          (λ (unwritten : length making ≤ i). inr (un.beyond (place + i) (omega (arith, last, unwritten)) (omega (arith, below, within))))
          (cases_lt i (length making))) read_back.matches begins_so)

      growing_whole : (1 ≤ length making → Making w making) → IsInLog making → IsWhole w image slot
      growing_whole makes here = ⊎_elim
          (λ (t : (slot < length w.log.records) × (is_drained_slot w slot ≡ false)). stored_whole t.0 t.1)
          (λ (t : (slot ≡ length w.log.records) × (1 ≤ length making)). making_whole t.0 (makes t.1))
          here

    nothing_here : (making : List ℕ) → making ≡ [] → w.log.records ≡ [] → IsInLog making → ⊥
    nothing_here making empty none here =
        let count : length w.log.records ≡ 0 = ap (λ (rs : List Recorded). length rs) none in
        let short : length making ≡ 0 = ap (λ (ws : List ℕ). length ws) empty in
        ⊎_elim
        (λ (t : (slot < length w.log.records) × (is_drained_slot w slot ≡ false)). let low = t.0 in omega (arith, low, count))
        (λ (t : (slot ≡ length w.log.records) × (1 ≤ length making)). let some = t.1 in omega (arith, some, short))
        here

    whole_in : (test : Recorded → Bool) → HasNoTornMatch origin test → ((r : Recorded) → MayRecord w r → test r ≡ true) → (u : Undo) → valid_record image 0 slot ≡ Some u
        → (phase : Phase) → w.log.phase ≡ phase → PhaseFits (Flies s.log s.decided 0) w phase → FirstLog origin w phase → GrowsFirst origin w phase → IsBeingWritten w slot → IsWhole w image slot
    whole_in test none passes u valid Idle is fit first grows being = none_here Idle is refl (filled_slot w slot (let some = s.goes.in_lanes in let lane = fits.lane.lane in let lanes = fits.lane.lanes in omega (arith, some, lane, lanes)) within fit.changes) being
    whole_in test none passes u valid (Open making pair) is fit first grows being =
        let here : IsInLog making = open_here making pair is fit.short being in
        ⊎_elim
        (λ (now : generation_of w ≡ generation_word origin.words 0). growing_whole test none passes u valid making pair is fit now (first.0.first now) first.1 here)
        (λ (empty : (making ≡ []) × (w.log.records ≡ [])). absurd (nothing_here making empty.0 empty.1 here))
        grows
    whole_in test none passes u valid Drawn is fit first grows being = none_here Drawn is refl (all_drained w slot fit.drained) being
    whole_in test none passes u valid Sealing is fit first grows being = none_here Sealing is refl (seal_drained w 0 slot fit.changes) being
    whole_in test none passes u valid (Applying applied) is fit first grows being = none_here (Applying applied) is refl (applied_drained applied fit) being
    whole_in test none passes u valid Clearing is fit first grows being = none_here Clearing is refl (seal_drained w (length w.log.entries) slot fit.changes) being
    whole_in test none passes u valid Retiring is fit first grows being = none_here Retiring is refl (retiring_drained w slot fit.changes) being

-- a lane that makes no step writes no slot
idle_writes_none : (o : Opening) (j slot : ℕ) → IsBeingWritten (idle_view o j) slot → ⊥
idle_writes_none o j slot being = ⊎_elim
    (λ (undrained : true ≡ false). false≢true (sym undrained))
    (λ (used : (0 ≤ slot) × (slot < 0)). let low = used.1 in omega arith)
    being

-- so no torn record matches where none does in a slot of the lane that works
pub none_torn_by_lane : (o : Opening) (w : View) (image : List ℕ) → ((slot : ℕ) (u : Undo) → slot < 64 → IsBeingWritten w slot → valid_record image 0 slot ≡ Some u → IsWhole w image slot) → NoneTorn o (alone_views o w) image
none_torn_by_lane o w image whole k slot u low within being valid = ⊎_elim
    (λ (same : k ≡ 0). subst (λ (n : ℕ). IsWhole (alone_views o w n) image slot) (sym same)
    (whole slot u within (subst (λ (n : ℕ). IsBeingWritten (alone_views o w n) slot) same being) (subst (λ (n : ℕ). valid_record image n slot ≡ Some u) same valid)))
    (λ (other : k ≢ 0). absurd (idle_writes_none o k slot (subst (λ (x : View). IsBeingWritten x slot) (alone_else o w k other) being)))
    (cases_eq k 0)

pub none_torn_behind : (o : Opening) (header : Header) (pool : PoolView) (v b w : View) (before steps : List Step) (keep : ℕ) (image : List ℕ) (test : Recorded → Bool)
    → WorksAlone o header pool v (before ++ steps) w → Leads v before b → Rests b → IsKeptImage keep w.words (w.changes ∷ []) image → GrowsFirst (standing o b) w w.log.phase
    → HasNoTornMatch (standing o b) test → ((r : Recorded) → MayRecord w r → test r ≡ true) → NoneTorn o (alone_views o w) image
none_torn_behind o header pool v b w before steps keep image test works leads rests is grows none passes =
    let at : StandsFirst o (standing o b) header pool w = first_at o header pool v b w before steps works leads rests in
    let survives : Survives o (memory_of w) at.stands.views image = kept_survives o header pool w at.stands image keep is in
    none_torn_by_lane o w image (λ slot u within being valid.
    whole_in o header pool w at.stands (standing o b) image survives slot within test none passes u valid w.log.phase refl (own_fits o header pool w at.stands).phase at.first grows being)

-- the opening is the pool as it stands before the first step, where the lane rests
pub none_torn_alone : (o : Opening) (header : Header) (pool : PoolView) (v w : View) (steps : List Step) (keep : ℕ) (image : List ℕ) (test : Recorded → Bool) → WorksAlone o header pool v steps w
    → IsKeptImage keep w.words (w.changes ∷ []) image → GrowsFirst o w w.log.phase → HasNoTornMatch o test → ((r : Recorded) → MayRecord w r → test r ≡ true) → NoneTorn o (alone_views o w) image
unfolding Leads
none_torn_alone o header pool v w steps keep image test works is grows none passes =
    let same : standing o v ≡ o = ap (λ (words : List ℕ). let p : Opening = record o { words = words } in p) (begins_words o header pool v works.begins) in
    none_torn_behind o header pool v v w [] steps keep image test works refl (record { empty = inl (begins_idle o header pool v works.begins); drained = begins_slots o header pool v works.begins }) is
    (subst (λ (p : Opening). GrowsFirst p w w.log.phase) (sym same) grows) (subst (λ (p : Opening). HasNoTornMatch p test) (sym same) none) passes

-- a record that the lane may be writing has its words
of_words : (w : View) (r : Recorded) → MayRecord w r → is_of_words w.words r ≡ true
of_words w r may =
    and_from (leb (r.word + length r.old) (length w.words)) _ (le-leb (r.word + length r.old) (length w.words) may.inside)
    (every (λ i. eqb (slice_index w.words (r.word + i)) (slice_index r.old i)) 0 (length r.old)
    (λ i from to. eq-eqb (slice_index w.words (r.word + i)) (slice_index r.old i) (may.present i (omega (arith, to)))))
  where
    every : (p : ℕ → Bool) (from n : ℕ) → ((i : ℕ) → from ≤ i → i < from + n → p i ≡ true) → list_all p (range_with_len from n) ≡ true
    every p from zero all = refl
    every p from (suc n) all = and_from (p from) (list_all p (range_with_len (from + 1) n)) (all from (omega arith) (omega arith)) (every p (from + 1) n (λ i low high. all i (omega arith) (omega arith)))

pub none_torn_by_words : (o : Opening) (header : Header) (pool : PoolView) (v w : View) (steps : List Step) (keep : ℕ) (image : List ℕ) → WorksAlone o header pool v steps w
    → IsKeptImage keep w.words (w.changes ∷ []) image → GrowsFirst o w w.log.phase → HasNoTornMatch o (is_of_words w.words) → NoneTorn o (alone_views o w) image
none_torn_by_words o header pool v w steps keep image works is grows none = none_torn_alone o header pool v w steps keep image (is_of_words w.words) works is grows none (of_words w)

pub none_torn_behind_by_words : (o : Opening) (header : Header) (pool : PoolView) (v b w : View) (before steps : List Step) (keep : ℕ) (image : List ℕ) → WorksAlone o header pool v (before ++ steps) w
    → Leads v before b → Rests b → IsKeptImage keep w.words (w.changes ∷ []) image → GrowsFirst (standing o b) w w.log.phase → HasNoTornMatch (standing o b) (is_of_words w.words)
    → NoneTorn o (alone_views o w) image
none_torn_behind_by_words o header pool v b w before steps keep image works leads rests is grows none =
    none_torn_behind o header pool v b w before steps keep image (is_of_words w.words) works leads rests is grows none (of_words w)
