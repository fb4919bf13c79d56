-- A drain that decides the lane's call: by its next generation, or by its seal.
use Rattle.std.proofs.Common.{◌≡◌, ◌≢◌, ℕ, ◌+◌, ◌<◌, ◌≤◌, ⊎_elim, Bool, true, false, eqb, ◌||◌, IsTrue, Contains, List, [], ◌∷◌, ◌++◌, length, not, slice_index, Some, refl, sym, ap, ◌∙◌, subst, arith, eq-eqb, ne_eqb, length-append}
use Rattle.std.specs.List.{filter}
use Rattle.std.proofs.lemmas.Bool.{cases_Bool, cond-false, or_from, or_left, or_parts, or_right, eqb-false, false≢true, false_from_ne_true}
use Rattle.std.proofs.lemmas.List.Elements.{All-nil}
use Rattle.std.proofs.lemmas.Option.{none-some, same_Some}
use Rattle.std.specs.Int.{bit_at}
use Rattle.solo_view.specs.Area.{area_word, is_in_area}
use Rattle.solo_view.specs.Counts.{MayCount}
use Rattle.solo_view.specs.Log.{Log, Final, no_log}
use Rattle.solo_view.specs.Log.Phase.{Idle, Sealing, Applying, Retiring}
use Rattle.solo_view.specs.Rights.{is_written}
use Rattle.solo_view.specs.View.{View}
use Rattle.solo_world.specs.Course.{flight, flight_in}
use Rattle.solo_world.specs.Entries.{HasNone, ends_with, is_entered, is_in_log, is_redoing, seal_in, set_word, IsGrowing}
use Rattle.solo_world.specs.Fits.{AppliedChange, EndFits, EntriesFit, LaneFits, LogFits, PhaseFits, SealingFits, RedoneWord}
use Rattle.solo_world.specs.History.{Entry, Flies, settled, is_final, made_final}
use Rattle.solo_world.specs.Laws.{with_view}
use Rattle.solo_world.specs.Lawful.{FilledChange}
use Rattle.solo_world.specs.Memory.{Memory, IsSame}
use Rattle.solo_world.specs.Memory.Location.{PoolWord, CommitCounter}
use Rattle.solo_world.specs.Opening.{IsLivingWord, Opening}
use Rattle.solo_world.specs.Records.{generation_of, is_recorded, pool_entries, difference_of, records_generation, used_slots}
use Rattle.solo_world.specs.World.{Views, World}
use Rattle.solo_world.proofs.Apart.{heap_outside, outside_behind}
use Rattle.solo_world.proofs.Differences.{difference-words, difference-recorded, difference-unrecorded, pool_entries-final, pool_entries-makes}
use Rattle.solo_world.proofs.Emptied.{drained_to, drained_fits, drained_lines, drained_stop, emptied_fits, known_word, others_drained, retired_stale, unlogged_word}
use Rattle.solo_world.proofs.Exclusion.{writes_under, one_writer}
use Rattle.solo_world.proofs.Histories.{one_entry}
use Rattle.solo_world.proofs.Numbers.{number_upto}
use Rattle.solo_world.proofs.Pairs.{difference-written, entries_masked, entries_sealed, in_log_written}
use Rattle.solo_world.proofs.Plain.{flying_still, plain_still}
use Rattle.solo_world.proofs.Replays.{made_final-other, replayed-added, replayed-same}
use Rattle.solo_world.proofs.Slots.{all_stale}
use Rattle.solo_world.proofs.Heaps.{all_same}
use Rattle.solo_world.proofs.Living.{guarded_lives}
use Rattle.solo_world.proofs.MadeBits.{made_final-agree, made_final-beside}
use Rattle.solo_world.proofs.Worlds.{heap_here, own, each_lane', unlogged_here, unlogged_else, unlogged_before, entry_kept, entries_kept, room_kept}

or_false : (b : Bool) → (b || false) ≡ b
or_false true = refl
or_false false = refl

module _ (o : Opening) (old : Memory) (views : Views) (log : List Entry) (decided : ℕ → Bool) (world : World o old views log decided) (k : ℕ) (inside : k < o.lanes) (v : View) (is : views k ≡ v)
    (new : Memory) (same : IsSame old new) (may : MayCount v) where
  mine : LaneFits o old (settled o log decided) (Flies log decided k) k v
  mine = own o old views log decided world k inside v is

  module _ (m : ℕ) (fl : Flies log decided k m (difference_of v)) (flying : flight v ≡ Some m) where
    written : (w : ℕ) → is_final (difference_of v) w ≡ true → IsTrue (is_written v w)
    written w final = difference-written (settled o log decided) v (records_generation v.log.phase v) w mine.log (plain_still v mine.entries (flying_still v.log.phase m v.number flying)) final

    abbrev decided' : ℕ → Bool
    decided' n = decided n || eqb m n

    other_number : (n : ℕ) → m ≢ n → decided' n ≡ decided n
    other_number n differ = ap (λ b. decided n || b) (ne_eqb m n differ) ∙ or_false (decided n)

    the_entry : (e : Entry) → Contains log e → m ≡ e.number → fl.entry ≡ e
    the_entry e there number = one_entry 1 log fl.entry e world.numbered fl.there there (fl.has_number ∙ number)

    -- a word that the difference is not of is settled as before
    settles : (w : ℕ) → is_final (difference_of v) w ≡ false → settled o log decided' w ≡ settled o log decided w
    settles w other = replayed-same decided' decided log w (slice_index o.words w) (λ e there of. other_number e.number (λ number.
        false≢true (sym other ∙ (ap (λ d. is_final d w) (sym fl.has_difference ∙ ap (λ (x : Entry). x.difference) (the_entry e there number)) ∙ of))))

    -- and one that it is of is what it makes of the word as it was settled
    makes : (w : ℕ) → is_final (difference_of v) w ≡ true → settled o log decided' w ≡ made_final (difference_of v) w (settled o log decided w)
    makes w final =
        replayed-added decided' decided 1 log w (slice_index o.words w) fl.entry world.numbered fl.there (or_right (decided fl.entry.number) (eqb m fl.entry.number) (eq-eqb m fl.entry.number (sym fl.has_number)))
        (ap decided fl.has_number ∙ fl.undecided)
        (λ d there before of. other_number d.number (λ number. let has = fl.has_number in absurd (omega arith)))
        (λ d there later. fl.last d w there (let number = fl.has_number in omega arith) final)
        ∙ ap (λ d. made_final d w (settled o log decided w)) fl.has_difference

    others_write : (j w : ℕ) → j < o.lanes → j ≢ k → IsTrue (is_written (views j) w) → is_final (difference_of v) w ≡ false
    others_write j w low other own_word = false_from_ne_true (is_final (difference_of v) w) (λ e. other (one_writer o old j k w world.sound
        (writes_under o old j (views j) w (world.each_lane j low).locks own_word) (writes_under o old k v w mine.locks (written w e))))

    others_fly : (j n : ℕ) → j ≢ k → Flies log decided j n (difference_of (views j)) → Flies log decided' j n (difference_of (views j))
    others_fly j n other flies = record {
      entry = flies.entry;
      there = flies.there;
      has_number = flies.has_number;
      has_lane = flies.has_lane;
      has_difference = flies.has_difference;
      undecided = other_number n (λ number. other (sym flies.has_lane ∙ (sym (ap (λ (x : Entry). x.lane) (the_entry flies.entry flies.there (number ∙ sym flies.has_number))) ∙ fl.has_lane))) ∙ flies.undecided;
      last = flies.last;
    }

    -- the world then, from the lane's own facts and what its words are
    decided_world : (lg : Log) → LaneFits o new (settled o log decided') (Flies log decided' k) k (drained_to o old views log decided world k inside v is new same may lg)
        → ((w : ℕ) → IsLivingWord o w → is_in_log (drained_to o old views log decided world k inside v is new same may lg) w ≡ false → ((j : ℕ) → j < o.lanes → j ≢ k → is_in_log (views j) w ≡ false) → old (PoolWord w) ≡ settled o log decided' w)
        → World o new (with_view views k (drained_to o old views log decided world k inside v is new same may lg)) log decided'
    decided_world lg fits words =
        let v' : View = drained_to o old views log decided world k inside v is new same may lg in
        record {
          sound = world.sound;
          each_lane = each_lane' o old views log decided world k inside v is v' new (settled o log decided') (λ j. Flies log decided' j)
              (others_drained o old views log decided world k inside v is new same may (settled o log decided') (λ j. Flies log decided' j) (λ j w low other own_word. settles w (others_write j w low other own_word)) others_fly) fits;
          each_word = λ w heap all. same (PoolWord w) ∙ words w heap (unlogged_here o old views log decided world k inside v is v' w all) (unlogged_else o old views log decided world k inside v is v' w all);
          each_line = drained_lines o old views log decided world k inside v is new same may lg;
          each_entry = λ e there. entry_kept o old views log decided world k inside v is v' e decided' (λ open_. (or_parts (decided e.number) (eqb m e.number) open_).0)
              (λ open_ flew. absurd (eqb-false m e.number (or_parts (decided e.number) (eqb m e.number) open_).1 (same_Some m e.number (sym flying ∙ flew)))) (world.each_entry e there);
          numbered = world.numbered;
          undrawn = λ n beyond. other_number n (λ number. let upto = number_upto 1 log fl.entry world.numbered fl.there in let has = fl.has_number in absurd (omega arith)) ∙ world.undrawn n beyond;
          counter = same CommitCounter ∙ world.counter;
          counter_room = let room = room_kept o old views log decided world k inside v is v' (λ can. can) in let count = same CommitCounter in omega arith;
          own_entries = λ j low. entries_kept o old views log decided world k inside v is v' j refl low;
          new_runs = (heap_here o old views log decided world k inside v is v' new (λ w. same (PoolWord w)) (all_same old new same) (record { lanes = refl; reserved = refl; freed = refl; zones = refl })).runs;
          heap = (heap_here o old views log decided world k inside v is v' new (λ w. same (PoolWord w)) (all_same old new same) (record { lanes = refl; reserved = refl; freed = refl; zones = refl })).heap;
          stop_word = drained_stop o old views log decided world k inside v is new same may lg;
        }

    -- a recorded word that no entry is of is what the view has
    recorded_word : (w : ℕ) → is_recorded v.log.records w ≡ true → is_final (pool_entries v) w ≡ false → old (PoolWord w) ≡ settled o log decided' w
    recorded_word w recorded other =
        let final : is_final (difference_of v) w ≡ true = difference-words v w ∙ or_left (is_recorded v.log.records w) (is_final (pool_entries v) w) recorded in
        known_word o old views log decided world k inside v is new same may w recorded ∙ sym (makes w final ∙ (difference-recorded v w (settled o log decided w) recorded ∙ made_final-other (pool_entries v) w (slice_index v.words w) other))

    -- any other that no log had is settled still
    other_word : (lg : Log) (w : ℕ) → is_redoing v.log.phase ≡ false → IsLivingWord o w → is_recorded v.log.records w ≡ false → is_final (pool_entries v) w ≡ false
        → ((j : ℕ) → j < o.lanes → j ≢ k → is_in_log (views j) w ≡ false) → old (PoolWord w) ≡ settled o log decided' w
    other_word lg w quiet heap not_recorded other others =
        world.each_word w heap (unlogged_before o old views log decided world k inside v is (drained_to o old views log decided world k inside v is new same may lg) w (unlogged_word o old views log decided world k inside v is new same may quiet w not_recorded) others)
        ∙ sym (settles w (difference-words v w ∙ or_from (is_recorded v.log.records w) (is_final (pool_entries v) w) not_recorded other))

    words_then : (lg : Log) (w : ℕ) → is_redoing v.log.phase ≡ false → IsLivingWord o w → is_final (pool_entries v) w ≡ false
        → ((j : ℕ) → j < o.lanes → j ≢ k → is_in_log (views j) w ≡ false) → old (PoolWord w) ≡ settled o log decided' w
    words_then lg w quiet heap other others =
        ⊎_elim (λ (recorded : is_recorded v.log.records w ≡ true). recorded_word w recorded other)
        (λ (not_recorded : is_recorded v.log.records w ≡ false). other_word lg w quiet heap not_recorded other others) (cases_Bool (is_recorded v.log.records w))

  -- the next generation is drained
  pub decides : (m : ℕ) → v.log.phase ≡ Retiring → v.number ≡ Some m → World o new (with_view views k (record v { changes = []; calls = v.calls + 1; log = no_log Idle })) log (λ n. decided n || eqb m n)
  decides m retiring drawn =
      let fits = subst (PhaseFits (Flies log decided k) v) retiring mine.phase in
      let fl : Flies log decided k m (difference_of v) = subst (EndFits (Flies log decided k) v) drawn fits.ends in
      let flying : flight v ≡ Some m = ap (λ p. flight_in p v.number) retiring ∙ drawn in
      let none : v.log.entries ≡ [] = subst (λ p. HasNone p v) retiring mine.entries.none in
      decided_world m fl flying (no_log Idle)
      (emptied_fits o old views log decided world k inside v is new same may (settled o log (λ n. decided n || eqb m n)) (Flies log (λ n. decided n || eqb m n) k) Idle (retired_stale o old views log decided world k inside v is new same may retiring) (ap (λ p. seal_in p v) retiring) refl refl refl refl (record { no_records = refl; changes = All-nil (FilledChange (record v { changes = []; calls = v.calls + 1; log = no_log Idle })) }))
      (λ w heap un others. words_then m fl flying (no_log Idle) w (ap is_redoing retiring) heap (ap (λ fs. is_final (filter (λ (f : Final). not (is_in_area v.lane f.word)) fs) w) none) others)

  module _ (sealing : v.log.phase ≡ Sealing) where
    fits : SealingFits (Flies log decided k) v
    fits = subst (PhaseFits (Flies log decided k) v) sealing mine.phase

    abbrev sealed : Log
    sealed = record v.log { phase = Applying 0; records = [] }

    abbrev view' : View
    view' = drained_to o old views log decided world k inside v is new same may sealed

    some_entries : 1 ≤ length v.log.entries
    some_entries = let size = length-append fits.whole.front (ends_with v (generation_of v + 1) ∷ []) in let e = ap length fits.whole.are in omega (arith, size, e)

    generation : records_generation (Applying 0) view' ≡ generation_of v + 1
    generation = cond-false _ (generation_of v) (generation_of v + 1) (ne_eqb 0 (length v.log.entries) (λ none. let some = some_entries in absurd (omega arith)))

    sealed_log : (settled' : ℕ → ℕ) → LogFits settled' view' (records_generation (Applying 0) view')
    sealed_log settled' =
        let before : LogFits (settled o log decided) v (generation_of v) = subst (λ p. LogFits (settled o log decided) v (records_generation p v)) sealing mine.log in
        subst (LogFits settled' view') (sym generation) (record {
          most = omega arith;
          stored = λ slot r there. absurd (none-some r there);
          each = λ slot r there. absurd (none-some r there);
          once = λ slot other r q w there. absurd (none-some r there);
          stale = λ slot u low high there. let stale = all_stale (settled o log decided) v (generation_of v) before (ap (λ p. used_slots p v) sealing) slot u high there in omega arith;
        })

    sealed_entries : EntriesFit view'
    sealed_entries = entries_sealed v view' refl refl (λ w low high. refl) (λ w own_word. own_word) (λ i f at free. absurd (subst IsGrowing sealing free.1)) (mine.entries.seal ∙ ap (λ p. seal_in p v) sealing) tt mine.entries

    sealed_phase : (flies' : ℕ → List Final → Type 0) → PhaseFits flies' view' (Applying 0)
    sealed_phase flies' = record {
      no_records = refl;
      most = omega arith;
      changes = All-nil (AppliedChange view' 0);
      whole = let g = generation in record { front = fits.whole.front; are = fits.whole.are ∙ ap (λ n. fits.whole.front ++ set_word (area_word v.lane) n ∷ []) (sym g); owned = fits.whole.owned };
      known = λ w or. let t = fits.known w or in (record { known = t.0.known; small = t.0.small }, t.1);
      last = let g = generation in let below = fits.below in omega arith;
    }

    own_outside : (w : ℕ) → IsTrue (is_written v w) → is_in_area v.lane w ≡ false
    own_outside w own_word =
        let under = writes_under o old k v w mine.locks own_word in
        ap (λ n. is_in_area n w) mine.lane.lane ∙ outside_behind o.lanes k w inside (world.sound.behind_areas under.0 w under.1)

    -- nobody else's log is of a word that the lane writes
    others_unlogged : (w : ℕ) → IsTrue (is_written v w) → (j : ℕ) → j < o.lanes → j ≢ k → is_in_log (views j) w ≡ false
    others_unlogged w own_word j low other =
        let fits = world.each_lane j low in
        let under = writes_under o old k v w mine.locks own_word in
        let out : is_in_area (views j).lane w ≡ false = ap (λ n. is_in_area n w) fits.lane.lane ∙ outside_behind o.lanes j w low (world.sound.behind_areas under.0 w under.1) in
        false_from_ne_true (is_in_log (views j) w) (λ e. other (one_writer o old j k w world.sound
        (writes_under o old j (views j) w fits.locks (in_log_written (settled o log decided) (views j) (records_generation (views j).log.phase (views j)) w fits.log fits.entries out e)) under))

    -- a word of an entry becomes what the entries make of it as the memory has it
    redone_makes : (w : ℕ) → is_entered v.log.entries w ≡ true → IsTrue (is_written v w) → settled o log (λ n. decided n || eqb fits.number n) w ≡ made_final v.log.entries w (old (PoolWord w))
    redone_makes w listed own_word =
        let out = own_outside w own_word in
        let under = writes_under o old k v w mine.locks own_word in
        let flying : flight v ≡ Some fits.number = ap (λ p. flight_in p v.number) sealing ∙ fits.drawn in
        let pool : is_final (pool_entries v) w ≡ true = pool_entries-final v w out ∙ listed in
        let final : is_final (difference_of v) w ≡ true = difference-words v w ∙ or_right (is_recorded v.log.records w) (is_final (pool_entries v) w) pool in
        makes fits.number fits.flying flying w final
        ∙ ⊎_elim (λ (recorded : is_recorded v.log.records w ≡ true).
        difference-recorded v w (settled o log decided w) recorded ∙ (pool_entries-makes v w (slice_index v.words w) out
        ∙ ap (made_final v.log.entries w) (sym (known_word o old views log decided world k inside v is new same may w recorded))))
        (λ (not_recorded : is_recorded v.log.records w ≡ false).
        let was : old (PoolWord w) ≡ settled o log decided w =
        world.each_word w (guarded_lives o world.sound under.0 w under.1)
        (unlogged_before o old views log decided world k inside v is view' w (unlogged_word o old views log decided world k inside v is new same may (ap is_redoing sealing) w not_recorded) (others_unlogged w own_word)) in
        difference-unrecorded v w (settled o log decided w) not_recorded ∙ (pool_entries-makes v w (settled o log decided w) out ∙ ap (made_final v.log.entries w) (sym was)))
        (cases_Bool (is_recorded v.log.records w))

    redone_word : (w : ℕ) → is_entered v.log.entries w ≡ true → IsTrue (is_written v w) → RedoneWord old (settled o log (λ n. decided n || eqb fits.number n)) view' w
    redone_word w listed own_word =
        let masked = entries_masked v mine.entries in
        let now = redone_makes w listed own_word in
        record {
          again = λ x agree. made_final-agree v.log.entries w x (old (PoolWord w)) masked listed
              (λ i small beside. agree i small beside ∙ (ap (λ n. bit_at n i) now ∙ made_final-beside v.log.entries w (old (PoolWord w)) masked i small beside)) ∙ sym now;
          rest = sym now;
        }

    -- the seal is drained
    pub seals : (m : ℕ) → v.number ≡ Some m → World o new (with_view views k (record v { changes = []; calls = v.calls + 1; log = record v.log { phase = Applying 0; records = [] } })) log (λ n. decided n || eqb m n)
    seals m drawn =
        let flying : flight v ≡ Some fits.number = ap (λ p. flight_in p v.number) sealing ∙ fits.drawn in
        let number : fits.number ≡ m = same_Some fits.number m (sym fits.drawn ∙ drawn) in
        let settled' : ℕ → ℕ = settled o log (λ n. decided n || eqb fits.number n) in
        let flies' : ℕ → List Final → Type 0 = Flies log (λ n. decided n || eqb fits.number n) k in
        subst (λ i. World o new (with_view views k view') log (λ n. decided n || eqb i n)) number
        (decided_world fits.number fits.flying flying sealed
        (drained_fits o old views log decided world k inside v is new same may sealed settled' flies' (sealed_log settled') sealed_entries
        (λ w again own_word. redone_word w again own_word)
        (sealed_phase flies'))
        (λ w heap un others.
        let out : is_in_area v.lane w ≡ false = ap (λ n. is_in_area n w) mine.lane.lane ∙ heap_outside o.lanes o.zones k w inside heap.heap in
        words_then fits.number fits.flying flying sealed w (ap is_redoing sealing) heap (pool_entries-final v w out ∙ un) others))
