-- A drain that leaves the log empty: a call that was given up ends, or one whose entries are all applied.
use Rattle.std.proofs.Common.{◌≡◌, ◌≢◌, ℕ, ◌+◌, ◌-◌, ◌<◌, ◌≤◌, ◌⊎◌, inl, inr, ⊎_elim, le_refl, Bool, true, false, IsTrue, List, [], length, drop, slice_index, Some, None, refl, sym, ap, ◌∙◌, subst, arith}
use Rattle.std.specs.Int.{bit_at}
use Rattle.std.proofs.lemmas.Bool.{cases_Bool, and_from, and_right, or_from, false≢true}
use Rattle.std.proofs.lemmas.List.{drop_all}
use Rattle.std.proofs.lemmas.List.Elements.{All-nil}
use Rattle.std.proofs.lemmas.Option.{none-some}
use Rattle.pm_record.specs.Undo.{undo_of}
use Rattle.pm_record.specs.declared.undo.Undo.{Undo}
use Rattle.solo_view.specs.Area.{is_in_area}
use Rattle.solo_view.specs.Counts.{MayCount, IsAtStop}
use Rattle.solo_view.specs.Log.{Phase, Log, Final, no_log}
use Rattle.solo_view.specs.Log.Phase.{Idle, Open, Clearing, Retiring}
use Rattle.solo_view.specs.Rights.{is_written}
use Rattle.solo_view.specs.View.{View}
use Rattle.pm_image.specs.Logs.{undo_slot}
use Rattle.solo_world.specs.Course.{flight, flight_in}
use Rattle.solo_world.specs.Entries.{HasNone, applied_in, is_entered, is_in_log, is_redoing, is_redone, seal_in, IsGrowing}
use Rattle.solo_world.specs.Fits.{EndFits, EntriesFit, LaneFits, LogFits, OpenChange, PhaseFits, RedoneWord, ShowsHold}
use Rattle.solo_world.specs.History.{Entry, Flies, settled, made_final}
use Rattle.solo_world.specs.Laws.{with_view}
use Rattle.solo_world.specs.Lawful.{FilledChange}
use Rattle.solo_world.specs.Memory.{Memory, IsSame}
use Rattle.solo_world.specs.Memory.Location.{PoolWord, LockWord, CommitCounter, StopWord}
use Rattle.solo_world.specs.Opening.{IsLivingWord, Opening}
use Rattle.solo_world.specs.Records.{generation_of, is_recorded, is_logged_from, is_logged, records_generation, used_slots, difference_of}
use Rattle.solo_world.specs.World.{Views, World, IsHold}
use Rattle.solo_world.proofs.Plain.{plain_still}
use Rattle.solo_world.proofs.Apart.{heap_outside}
use Rattle.solo_world.proofs.Frame.{lane_kept, coursed_fits}
use Rattle.solo_world.proofs.Pairs.{entered_written, no_entries, none_redone}
use Rattle.solo_world.proofs.Slots.{word_recorded, unrecorded, all_stale}
use Rattle.solo_world.proofs.Heaps.{all_same}
use Rattle.solo_world.proofs.Worlds.{heap_here, own, quiet, unlogged_before, hold_kept, room_kept, at_stop_kept, stop_kept}
use Rattle.solo_world.proofs.HeapWords.{words_described}

no_final : (w x : ℕ) → made_final [] w x ≡ x
unfolding made_final
no_final w x = refl

module _ (o : Opening) (old : Memory) (views : Views) (log : List Entry) (decided : ℕ → Bool) (world : World o old views log decided) (k : ℕ) (inside : k < o.lanes) (v : View) (is : views k ≡ v)
    (new : Memory) (same : IsSame old new) (may : MayCount v) where
  mine : LaneFits o old (settled o log decided) (Flies log decided k) k v
  mine = own o old views log decided world k inside v is

  -- what a drain leaves to another lane
  pub others_drained : (settled' : ℕ → ℕ) (flies' : ℕ → ℕ → List Final → Type 0) → ((j w : ℕ) → j < o.lanes → j ≢ k → IsTrue (is_written (views j) w) → settled' w ≡ settled o log decided w)
      → ((j n : ℕ) → j ≢ k → Flies log decided j n (difference_of (views j)) → flies' j n (difference_of (views j)))
      → (j : ℕ) → j < o.lanes → j ≢ k → LaneFits o new settled' (flies' j) j (views j)
  others_drained settled' flies' settles flying j low other = lane_kept o old new (settled o log decided) settled' (Flies log decided j) (flies' j) j (views j) (words_described o old new (λ w. same (PoolWord w)))
      (λ w in_area. same (PoolWord w)) (λ w known. same (PoolWord w)) (λ w written. same (PoolWord w)) (λ line write. subst (ShowsHold j write) (sym (same (LockWord line))))
      (λ w written. settles j w low other written) (λ n flies. flying j n other flies) (world.each_lane j low)

  -- the lane's view with nothing undrained, and this log
  abbrev pub drained_to : Log → View
  drained_to lg = record v { changes = []; calls = v.calls + 1; log = lg }

  pub drained_stop : (lg : Log) → (new StopWord ≡ 0) ⊎ ((j : ℕ) × (j < o.lanes) × IsAtStop (with_view views k (drained_to lg) j))
  drained_stop lg = ⊎_elim (λ (unset : old StopWord ≡ 0). inl (same StopWord ∙ unset))
      (λ (t : (j : ℕ) × (j < o.lanes) × IsAtStop (views j)). inr (at_stop_kept o old views log decided world k inside v is (drained_to lg) (stop_kept v (drained_to lg) refl (omega arith)) t)) world.stop_word

  pub drained_lines : (lg : Log) (line bit : ℕ) → bit_at (new (LockWord line)) bit ≡ 1 → IsHold (with_view views k (drained_to lg)) o.lanes line bit
  drained_lines lg line bit set = hold_kept o old views log decided world k inside v is (drained_to lg) line bit (λ there. there) (world.each_line line bit (subst (λ n. bit_at n bit ≡ 1) (same (LockWord line)) set))

  -- the lane's own facts then, from those of its log
  pub drained_fits : (lg : Log) (settled' : ℕ → ℕ) (flies' : ℕ → List Final → Type 0) → LogFits settled' (drained_to lg) (records_generation lg.phase (drained_to lg)) → EntriesFit (drained_to lg)
      → ((w : ℕ) → IsTrue (is_redone (drained_to lg) w) → IsTrue (is_written v w) → RedoneWord old settled' (drained_to lg) w) → PhaseFits flies' (drained_to lg) lg.phase → LaneFits o new settled' flies' k (drained_to lg)
  drained_fits lg settled' flies' log_fits entries_fit redone phase_fits = lane_kept o old new settled' settled' flies' flies' k (drained_to lg) (words_described o old new (λ w. same (PoolWord w)))
      (λ w in_area. same (PoolWord w)) (λ w known. same (PoolWord w)) (λ w written. same (PoolWord w)) (λ line write. subst (ShowsHold k write) (sym (same (LockWord line)))) (λ w own_word. refl) (λ n flies. flies)
      (coursed_fits o old settled' flies' k v [] (v.calls + 1) lg v.seen v.call v.number v.entries v.actions mine log_fits entries_fit redone phase_fits (omega arith) (λ stop e. let due = may stop e in omega arith))

  -- what the records are of is known
  pub known_word : (w : ℕ) → is_recorded v.log.records w ≡ true → old (PoolWord w) ≡ slice_index v.words w
  known_word w e = mine.picture.known w (word_recorded (settled o log decided) v (records_generation v.log.phase v) w mine.log e).fits.known

  -- a word that no record is of, where nothing is redone, is in no log
  pub unlogged_word : is_redoing v.log.phase ≡ false → (w : ℕ) → is_recorded v.log.records w ≡ false → is_in_log v w ≡ false
  unlogged_word quiet w e = or_from (is_logged v w) (is_redone v w) (unrecorded v w e) (none_redone v w quiet)

  -- no slot is of the lane's generation or of one to come
  abbrev pub AllStale : Type 0
  AllStale = (slot : ℕ) (u : Undo) → slot < 64 → undo_of (undo_slot v.words v.lane slot) ≡ Some u → u.generation < generation_of v

  pub retired_stale : v.log.phase ≡ Retiring → AllStale
  retired_stale retiring slot u high there =
      let before : LogFits (settled o log decided) v (generation_of v - 1) = subst (λ p. LogFits (settled o log decided) v (records_generation p v)) retiring mine.log in
      let stale = all_stale (settled o log decided) v (generation_of v - 1) before (ap (λ p. used_slots p v) retiring) slot u high there in
      let first = mine.first_generation in omega arith

  cleared_stale : v.log.phase ≡ Clearing → AllStale
  cleared_stale clearing slot u high there =
      let fits = subst (PhaseFits (Flies log decided k) v) clearing mine.phase in
      let before : LogFits (settled o log decided) v (generation_of v) = subst (λ p. LogFits (settled o log decided) v (records_generation p v)) clearing mine.log in
      before.stale slot u (let none : length v.log.records ≡ 0 = ap length fits.no_records in subst (λ p. used_slots p v ≤ slot) (sym clearing) (omega arith)) high there

  -- the log is empty
  pub emptied_fits : (settled' : ℕ → ℕ) (flies' : ℕ → List Final → Type 0) (phase : Phase) → AllStale → seal_in v.log.phase v ≡ 0
      → records_generation phase (drained_to (no_log phase)) ≡ generation_of v → 0 ≡ seal_in phase (drained_to (no_log phase)) → HasNone phase (drained_to (no_log phase)) → is_redoing phase ≡ false
      → PhaseFits flies' (drained_to (no_log phase)) phase → LaneFits o new settled' flies' k (drained_to (no_log phase))
  emptied_fits settled' flies' phase stale unsealed generation seal none quiet fits =
      drained_fits (no_log phase) settled' flies'
      (subst (LogFits settled' (drained_to (no_log phase))) (sym generation) (record {
        most = omega arith;
        stored = λ slot r there. absurd (none-some r there);
        each = λ slot r there. absurd (none-some r there);
        once = λ slot other r q w there. absurd (none-some r there);
        stale = λ slot u low high there. stale slot u high there;
      }))
      (no_entries v (drained_to (no_log phase)) refl refl (mine.entries.seal ∙ (unsealed ∙ seal)) none)
      (λ w again. absurd (false≢true (sym (none_redone (drained_to (no_log phase)) w quiet) ∙ again)))
      fits

  -- the history goes on as it is, and the log is empty
  module _ (phase : Phase) (fits : LaneFits o new (settled o log decided) (Flies log decided k) k (drained_to (no_log phase)))
      (words : (w : ℕ) → IsLivingWord o w → ((j : ℕ) → j < o.lanes → j ≢ k → is_in_log (views j) w ≡ false) → old (PoolWord w) ≡ settled o log decided w)
      (unflown : (n : ℕ) → flight v ≡ Some n → ⊥) where
    empties : World o new (with_view views k (drained_to (no_log phase))) log decided
    empties = quiet o old views log decided world k inside v is (drained_to (no_log phase)) new
        (others_drained (settled o log decided) (λ j. Flies log decided j) (λ j w low other written. refl) (λ j n other flies. flies)) fits
        (λ w heap un others. same (PoolWord w) ∙ words w heap others)
        (drained_lines (no_log phase)) (λ n flying. absurd (unflown n flying))
        (same CommitCounter) (room_kept o old views log decided world k inside v is (drained_to (no_log phase)) (λ can. can)) refl (heap_here o old views log decided world k inside v is (drained_to (no_log phase)) new (λ w. same (PoolWord w)) (all_same old new same) (record { lanes = refl; reserved = refl; freed = refl; zones = refl })) (drained_stop (no_log phase))

  -- a call that was given up: what it recorded is as it was
  pub gives_up : v.log.phase ≡ Retiring → v.number ≡ None → World o new (with_view views k (record v { changes = []; calls = v.calls + 1; log = no_log (Open [] []) })) log decided
  gives_up retiring undrawn =
      let v' : View = drained_to (no_log (Open [] [])) in
      let fits = subst (PhaseFits (Flies log decided k) v) retiring mine.phase in
      let restored = subst (EndFits (Flies log decided k) v) undrawn fits.ends in
      empties (Open [] [])
      (emptied_fits (settled o log decided) (Flies log decided k) (Open [] []) (retired_stale retiring) (ap (λ p. seal_in p v) retiring) refl refl tt refl (record {
        undrawn = undrawn;
        short = omega arith;
        stands = λ i low. absurd (omega arith);
        short_pair = omega arith;
        in_pairs = omega arith;
        pair_stands = λ i low. absurd (omega arith);
        changes = All-nil (OpenChange v');
      }))
      (λ w heap others. ⊎_elim (λ (recorded : is_recorded v.log.records w ≡ true).
      let t = word_recorded (settled o log decided) v (records_generation v.log.phase v) w mine.log recorded in
      known_word w recorded ∙ (ap (slice_index v.words) (sym t.word) ∙ (restored t.slot t.recorded t.place t.there t.low ∙ t.fits.before)))
      (λ (not_recorded : is_recorded v.log.records w ≡ false). world.each_word w heap (unlogged_before o old views log decided world k inside v is v' w (unlogged_word (ap is_redoing retiring) w not_recorded) others))
      (cases_Bool (is_recorded v.log.records w)))
      (λ n flying. none-some n (sym (ap (flight_in v.log.phase) undrawn ∙ ap (λ p. flight_in p None) retiring) ∙ flying))

  -- a word of an entry of which all are applied is settled
  applied_word : v.log.phase ≡ Clearing → (w : ℕ) → IsLivingWord o w → is_entered v.log.entries w ≡ true → old (PoolWord w) ≡ settled o log decided w
  applied_word clearing w heap listed =
      let out : is_in_area v.lane w ≡ false = ap (λ n. is_in_area n w) mine.lane.lane ∙ heap_outside o.lanes o.zones k w inside heap.heap in
      let word = mine.redone w (and_from (is_redoing v.log.phase) (is_entered v.log.entries w) (ap is_redoing clearing) listed) (entered_written v w (plain_still v mine.entries (λ grows. subst IsGrowing clearing grows)) listed out) in
      let all : drop (applied_in v.log.phase v) v.log.entries ≡ [] = ap (λ p. drop (applied_in p v) v.log.entries) clearing ∙ drop_all (length v.log.entries) v.log.entries (le_refl (length v.log.entries)) in
      sym (ap (λ fs. made_final fs w (old (PoolWord w))) all ∙ no_final w (old (PoolWord w))) ∙ word.rest

  -- the seal is cleared
  pub clears : v.log.phase ≡ Clearing → World o new (with_view views k (record v { changes = []; calls = v.calls + 1; log = no_log Idle })) log decided
  clears clearing =
      let v' : View = drained_to (no_log Idle) in
      let fits = subst (PhaseFits (Flies log decided k) v) clearing mine.phase in
      empties Idle
      (emptied_fits (settled o log decided) (Flies log decided k) Idle (cleared_stale clearing) (ap (λ p. seal_in p v) clearing) refl refl refl refl (record { no_records = refl; changes = All-nil (FilledChange (drained_to (no_log Idle))) }))
      (λ w heap others. ⊎_elim (λ (listed : is_entered v.log.entries w ≡ true). applied_word clearing w heap listed)
      (λ (other : is_entered v.log.entries w ≡ false).
      world.each_word w heap (unlogged_before o old views log decided world k inside v is v' w (or_from (is_logged v w) (is_redone v w) (ap (λ records. is_logged_from v 0 records w) fits.no_records) (and_right (is_redoing v.log.phase) (is_entered v.log.entries w) other)) others))
      (cases_Bool (is_entered v.log.entries w)))
      (λ n flying. none-some n (sym (ap (λ p. flight_in p v.number) clearing) ∙ flying))
