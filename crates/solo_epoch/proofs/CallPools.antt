-- A lane that works alone, with nothing undrained before its call draws: the pool before the call may precede it, where what the lane has bears out what the call
-- told of the heap; and as its words stand they hold the pool that the call stored.
use Rattle.std.proofs.Common.{◌≡◌, ◌≢◌, ⊎_elim, ℕ, ◌<◌, ◌≤◌, true, false, not, ◌&&◌, Contains, [], length, slice_index, Some, None, sym, ap, ◌∙◌, subst, arith}
use Rattle.std.proofs.lemmas.Bool.{cases_Bool, cases_eq, cond-true, false_from_ne_true, false≢true, cond-false, or_from}
use Rattle.std.proofs.lemmas.Option.{none-some}
use Rattle.pm_header.specs.declared.header.Header.{Header}
use Rattle.pm_image.specs.HeapFaults.{heap_fault}
use Rattle.pm_objects.specs.declared.history.TxErr.{TxErr}
use Rattle.pm_objects.specs.declared.pool.PoolView.{PoolView}
use Rattle.solo_view.specs.Log.Phase.{Open}
use Rattle.solo_view.specs.View.{View}
use Rattle.solo_world.specs.Course.{is_number, flight, flight_in}
use Rattle.solo_world.specs.Crash.{IsBeingWritten, loses, is_deciding_in}
use Rattle.solo_world.specs.Fits.{LaneFits, PhaseFits}
use Rattle.solo_world.specs.History.{Entry, Flies, settled}
use Rattle.solo_world.specs.Opening.{IsLivingWord, Opening, TellsOfBlocks}
use Rattle.solo_world.specs.Records.{is_drained_slot, is_recorded, used_slots, records_generation, is_logged}
use Rattle.solo_model.specs.declared.stage.Stage.{Stage}
use Rattle.solo_world.specs.Entries.{is_in_log, is_redoing, is_redone}
use Rattle.solo_world.proofs.CrashLogs.{unrecorded_unlogged}
use Rattle.solo_world.proofs.Pairs.{none_redone}
use Rattle.solo_world.proofs.Replays.{replayed-same}
use Rattle.solo_world.proofs.Exclusion.{writes_under}
use Rattle.solo_world.proofs.Slots.{word_recorded}
use Rattle.solo_crash.specs.Alone.{Begins, HasDrainedSlots}
use Rattle.solo_crash.specs.Held.{HoldsPool}
use Rattle.solo_crash.specs.OpenCall.{ComesTo, CommitsTo, IsCommitted, IsUnderWay, call_words, IsBefore}
use Rattle.solo_crash.proofs.AloneCourse.{StandsAlone, may_precede}
use Rattle.solo_crash.proofs.AloneMemory.{memory_of}
use Rattle.solo_crash.proofs.Continued.{two_same}
use Rattle.solo_crash.proofs.DrawnWords.{drawn_before, heads_stay, tells_as_opening}
use Rattle.solo_crash.proofs.EmptyRuns.{new_runs_alike}
use Rattle.solo_crash.proofs.HeldAlike.{held_alike}
use Rattle.solo_crash.proofs.LongerReplays.{every}
use Rattle.solo_crash.proofs.NewRuns.{may_have_runs}
use Rattle.solo_crash.specs.CallBlocks.{MayPrecede}
use Rattle.solo_crash.specs.OneLane.{TellsAsOpening}
use Rattle.solo_crash.specs.Reserved.{IsBorneOut}
use Rattle.solo_epoch.specs.Epochs.{HoldsCalls, HoldsCommitted, HoldsOpenCall}
use Rattle.solo_epoch.proofs.StandingPools.{holds_calls, image_pool, now, own_fits, reached, words_behind}

module _ (o : Opening) (header : Header) (pool : PoolView) (w : View) (s : StandsAlone o header pool w) (is_open : w.log.phase ≡ Open [] []) where
  fits : LaneFits o (memory_of w) (settled o s.log s.decided) (Flies s.log s.decided 0) 0 w
  fits = own_fits o header pool w s

  -- no call of it is lost: none is in flight
  undrawn : w.number ≡ None
  undrawn = (subst (PhaseFits (Flies s.log s.decided 0) w) is_open fits.phase).undrawn

  loses_none : (n : ℕ) → loses w.words w n ≡ false
  loses_none n = ap (λ number. is_number number n && not (is_deciding_in w.words w w.log.phase)) undrawn

  -- each is decided
  decided_each : (e : Entry) → Contains s.log e → s.decided e.number ≡ true
  decided_each e there = ⊎_elim
      (λ (yes : s.decided e.number ≡ true). yes)
      (λ (no : s.decided e.number ≡ false).
      let flies : flight (s.views e.lane) ≡ Some e.number = (s.goes.world.each_entry e there).in_flight no in
      let own : flight w ≡ Some e.number = ap flight (sym s.here) ∙ (ap (λ j. flight (s.views j)) (sym (s.goes.alone e there)) ∙ flies) in
      absurd (none-some e.number (sym (ap (λ p. flight_in p w.number) is_open) ∙ own)))
      (cases_Bool (s.decided e.number))

  -- the other lanes have no log
  no_records : (j : ℕ) → j < o.lanes → j ≢ 0 → (s.views j).log.records ≡ []
  no_records j low other = ap (λ (u : View). u.log.records) (s.others j other)

  no_entries : (j : ℕ) → j < o.lanes → j ≢ 0 → (s.views j).log.entries ≡ []
  no_entries j low other = ap (λ (u : View). u.log.entries) (s.others j other)

  -- so a word that it did not record is in none
  unlogged : (i : ℕ) → is_recorded w.log.records i ≡ false → (j : ℕ) → j < o.lanes → is_in_log (s.views j) i ≡ false
  unlogged i none j low = ⊎_elim
      (λ (same : j ≡ 0). ap (λ k. is_in_log (s.views k) i) same ∙ (ap (λ (u : View). is_in_log u i) s.here ∙ or_from (is_logged w i) (is_redone w i) (unrecorded_unlogged w i none) (none_redone w i (ap is_redoing is_open))))
      (λ (other : j ≢ 0). ap (λ (u : View). is_in_log u i) (s.others j other))
      (cases_eq j 0)

  same_lanes : w.lanes ≡ o.lanes
  same_lanes = fits.lane.lanes

  same_zones : w.zones ≡ o.zones
  same_zones = fits.lane.zones

  before_holds : HoldsPool (words_behind o header pool w s) w.lanes w.zones header (reached o header pool w s).last
  before_holds = two_same (λ (a b : ℕ). HoldsPool (words_behind o header pool w s) a b header (reached o header pool w s).last) o.lanes w.lanes o.zones w.zones (sym same_lanes) (sym same_zones) (reached o header pool w s).holds

  open_here : (s.views 0).log.phase ≡ Open [] []
  open_here = ap (λ (u : View). u.log.phase) s.here ∙ is_open

  is_before : IsBefore w (words_behind o header pool w s)
  is_before = subst (λ u. IsBefore u (words_behind o header pool w s)) s.here
      (drawn_before o 0 (now o header pool w s) s.goes.world s.goes.in_lanes s.goes.alone no_records no_entries open_here (reached o header pool w s).holds.no_fault)

  -- what it recorded is none of the words that tell of blocks
  call_heads : (i : ℕ) → TellsOfBlocks o i → call_words w (words_behind o header pool w s) i ≡ slice_index o.words i
  call_heads i tells =
      let unrecorded : is_recorded w.log.records i ≡ false = false_from_ne_true (is_recorded w.log.records i) (λ recorded.
      let t = word_recorded (settled o s.log s.decided) w (records_generation w.log.phase w) i fits.log recorded in
      let under = writes_under o (memory_of w) 0 w i fits.locks t.fits.own in
      s.goes.world.sound.apart under.0 i under.1 tells) in
      cond-false (is_recorded w.log.records i) (slice_index w.words i) (words_behind o header pool w s i) unrecorded ∙ heads_stay o 0 (now o header pool w s) s.goes.world s.goes.in_lanes i tells

  -- each living word is as the call made it
  living_same : (i : ℕ) → IsLivingWord o i → slice_index w.words i ≡ call_words w (words_behind o header pool w s) i
  living_same i living = ⊎_elim
      (λ (recorded : is_recorded w.log.records i ≡ true). sym (cond-true (is_recorded w.log.records i) (slice_index w.words i) (words_behind o header pool w s i) recorded))
      (λ (unrecorded : is_recorded w.log.records i ≡ false).
      s.goes.world.each_word i living (unlogged i unrecorded)
      ∙ (replayed-same s.decided every s.log i (slice_index o.words i) (λ e there of. decided_each e there)
      ∙ sym (cond-false (is_recorded w.log.records i) (slice_index w.words i) (words_behind o header pool w s i) unrecorded)))
      (cases_Bool (is_recorded w.log.records i))

  of_pool : w.pool ≡ header.id
  of_pool = ap (λ (u : View). u.pool) (sym s.here) ∙ s.goes.of_pool

  -- the pool that the call stored the words hold as they stand
  stored_holds : (base : PoolView) → HoldsPool (call_words w (words_behind o header pool w s)) w.lanes w.zones header base → HoldsPool (slice_index w.words) o.lanes o.zones header base
  stored_holds base holds =
      let here : HoldsPool (call_words w (words_behind o header pool w s)) o.lanes o.zones header base =
      two_same (λ (a b : ℕ). HoldsPool (call_words w (words_behind o header pool w s)) a b header base) w.lanes o.lanes w.zones o.zones same_lanes same_zones holds in
      held_alike (call_words w (words_behind o header pool w s)) (slice_index w.words) o.lanes o.zones header base here
      (new_runs_alike (call_words w (words_behind o header pool w s)) (slice_index w.words) o.lanes o.zones
      (may_have_runs o (call_words w (words_behind o header pool w s)) call_heads s.goes.world.sound here.no_fault (slice_index w.words) living_same s.goes.world.new_runs) here.no_fault)

  tells : TellsAsOpening o (words_behind o header pool w s)
  tells = tells_as_opening o 0 (now o header pool w s) s.goes.world s.goes.in_lanes

  -- the pool behind its calls may be the one before this one
  behind_may_precede : IsBorneOut w → MayPrecede (reached o header pool w s).last w
  behind_may_precede = may_precede o header pool w s (words_behind o header pool w s) header (reached o header pool w s).last tells (reached o header pool w s).holds

  -- so the call came to this, and as they stand its words have no fault
  pub call_comes : (level : ℕ) (at_stage : Stage) (error : TxErr) → IsUnderWay w level at_stage error → IsBorneOut w → ComesTo w (words_behind o header pool w s) header (reached o header pool w s).last level at_stage error
  call_comes level at_stage error under_way borne_out =
      under_way.comes (words_behind o header pool w s) header (reached o header pool w s).last before_holds of_pool is_before (behind_may_precede borne_out)

  pub call_has_no_fault : (level : ℕ) (at_stage : Stage) (error : TxErr) → IsUnderWay w level at_stage error → IsBorneOut w → heap_fault (slice_index w.words) o.lanes o.zones ≡ None
  call_has_no_fault level at_stage error under_way borne_out = let comes = call_comes level at_stage error under_way borne_out in (stored_holds comes.base comes.holds).no_fault

  -- where no slot of its log has an undrained word
  module _ (drained : HasDrainedSlots w) where
    -- no slot of it is being written
    writes_none : (slot : ℕ) → slot < 64 → IsBeingWritten w slot → ⊥
    writes_none slot within = ⊎_elim
        (λ (undrained : is_drained_slot w slot ≡ false). false≢true (sym undrained ∙ drained slot within))
        (λ (used : (length w.log.records ≤ slot) × (slot < used_slots w.log.phase w)). let all : used_slots w.log.phase w ≡ length w.log.records = ap (λ p. used_slots p w) is_open in let from = used.0 in let to = used.1 in omega (arith, all, from, to))

    -- the pool before the call is no other
    one_pool : (held : HoldsCalls o w header pool) → held.before ≡ (reached o header pool w s).last
    one_pool held = held.holds.holds.is_pool ∙ sym (image_pool o header pool w s writes_none loses_none).is_pool

    pub may_precede_call : (held : HoldsCalls o w header pool) → IsBorneOut w → MayPrecede held.before w
    may_precede_call held borne_out = subst (λ (p : PoolView). MayPrecede p w) (sym (one_pool held)) (behind_may_precede borne_out)

    module _ (v : View) (begins : Begins o header pool v) where
      abbrev calls_here : HoldsCalls o w header pool
      calls_here = holds_calls o header pool w s writes_none loses_none v begins

      pub open_calls_held : HoldsCalls o w header pool
      open_calls_held = calls_here

      module _ (borne_out : IsBorneOut w) where
        pub holds_open_call : (level : ℕ) (at_stage : Stage) (error : TxErr) → IsUnderWay w level at_stage error → HoldsOpenCall o w header pool level at_stage error
        holds_open_call level at_stage error under_way =
            let comes : ComesTo w (words_behind o header pool w s) header (reached o header pool w s).last level at_stage error =
            under_way.comes (words_behind o header pool w s) header (reached o header pool w s).last before_holds of_pool is_before (behind_may_precede borne_out) in
            record { held = calls_here; words = words_behind o header pool w s; comes = comes; holds = stored_holds comes.base comes.holds }

        pub holds_committed : IsCommitted w → HoldsCommitted o w header pool
        holds_committed committed =
            let to : CommitsTo w (words_behind o header pool w s) header (reached o header pool w s).last = committed.comes (words_behind o header pool w s) header (reached o header pool w s).last before_holds of_pool is_before (behind_may_precede borne_out) in
            record { held = calls_here; words = words_behind o header pool w s; to = to; holds = stored_holds to.base to.holds }
