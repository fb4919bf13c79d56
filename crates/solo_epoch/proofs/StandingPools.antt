-- A lane that works alone, with no record in the making and no call that its words lose: as an image they hold the pool to which its calls lead.
use Rattle.std.proofs.Common.{◌≡◌, ◌≢◌, ⊎_elim, ℕ, ◌<◌, true, false, not, List, [], length, slice_index, refl, sym, ap, ◌∙◌, subst, get_or}
use Rattle.std.specs.List.{range_with_len}
use Rattle.std.proofs.lemmas.Bool.{cases_eq}
use Rattle.std.proofs.lemmas.List.Elements.{All-nil}
use Rattle.std.proofs.lemmas.List.Folds.{list_any_none}
use Rattle.pm_header.specs.declared.header.Header.{Header}
use Rattle.pm_image.specs.Logs.{recovered_at}
use Rattle.solo_model.specs.Names.{Replays}
use Rattle.solo_model.specs.History.{opened}
use Rattle.solo_model.specs.Step.{Act, State}
use Rattle.pm_objects.specs.declared.pool.PoolView.{PoolView}
use Rattle.solo_view.specs.Area.{area_word}
use Rattle.solo_view.specs.View.{Numbered, View}
use Rattle.solo_world.specs.Crash.{IsBeingWritten, NoneTorn, Survives, is_kept, loses, MeansKept}
use Rattle.solo_world.specs.Fits.{LaneFits}
use Rattle.solo_world.specs.History.{Flies, entries_by, settled}
use Rattle.solo_world.specs.Memory.Location.{PoolWord}
use Rattle.solo_world.specs.Opening.{Opening}
use Rattle.solo_crash.proofs.TornSlots.{none_torn_by_lane}
use Rattle.solo_world.proofs.Replays.{replayed-same}
use Rattle.solo_world.proofs.CrashRuns.{crash_law}
use Rattle.solo_crash.specs.Alone.{Begins}
use Rattle.solo_crash.specs.Held.{HoldsImage, HoldsPool}
use Rattle.solo_crash.specs.OneLane.{HoldsReplay, Moment}
use Rattle.solo_crash.specs.Pending.{acts_alone, acts_of, state_after, state_alone}
use Rattle.solo_crash.proofs.AloneCourse.{StandsAlone, begins_clean, begins_holds}
use Rattle.solo_crash.proofs.AloneImages.{none_torn}
use Rattle.solo_crash.proofs.AloneMemory.{memory_of}
use Rattle.solo_crash.proofs.CleanWords.{clean_words_hold}
use Rattle.solo_crash.proofs.DrawnWords.{heads_stay}
use Rattle.solo_crash.proofs.FrontWords.{header_survives}
use Rattle.solo_crash.proofs.HistoryActs.{acts_of_all, state_of_one}
use Rattle.solo_crash.proofs.ImageLogs.{no_log_fault}
use Rattle.solo_crash.proofs.LogCourse.{InRange}
use Rattle.solo_crash.proofs.LongerReplays.{words_after, every}
use Rattle.solo_crash.proofs.NewRuns.{image_holds}
use Rattle.solo_crash.proofs.OneCourse.{reached_all}
use Rattle.solo_epoch.specs.Epochs.{HoldsCalls}

-- its own facts
pub own_fits : (o : Opening) (header : Header) (pool : PoolView) (w : View) (s : StandsAlone o header pool w) → LaneFits o (memory_of w) (settled o s.log s.decided) (Flies s.log s.decided 0) 0 w
own_fits o header pool w s = subst (LaneFits o (memory_of w) (settled o s.log s.decided) (Flies s.log s.decided 0) 0) s.here (s.goes.world.each_lane 0 s.goes.in_lanes)

-- the moment of its world
abbrev pub now : (o : Opening) (header : Header) (pool : PoolView) (w : View) → StandsAlone o header pool w → Moment
now o header pool w s = record { memory = memory_of w; views = s.views; log = s.log; decided = s.decided }

-- the words behind its calls, and the pool that these lead to
abbrev pub words_behind : (o : Opening) (header : Header) (pool : PoolView) (w : View) → StandsAlone o header pool w → ℕ → ℕ
words_behind o header pool w s = words_after (slice_index o.words) s.log

pub reached : (o : Opening) (header : Header) (pool : PoolView) (w : View) (s : StandsAlone o header pool w) → HoldsReplay (words_behind o header pool w s) o.lanes o.zones header pool s.log
reached o header pool w s = reached_all o 0 header pool (now o header pool w s) s.goes

-- ---- where no slot of the lane is being written, and no call of it is lost

module _ (o : Opening) (header : Header) (pool : PoolView) (w : View) (s : StandsAlone o header pool w) (quiet : (slot : ℕ) → slot < 64 → IsBeingWritten w slot → ⊥) (kept_own : (n : ℕ) → loses w.words w n ≡ false) where
  -- nothing is taken back of its words
  survives : Survives o (memory_of w) s.views w.words
  survives = record {
    size = ap (λ (u : View). length u.words) (sym s.here) ∙ (s.goes.world.each_lane 0 s.goes.in_lanes).lane.size;
    each = λ i inside. record { lost = []; undrained = All-nil _; left = refl };
  }

  untorn : NoneTorn o s.views w.words
  untorn = none_torn o header pool w s w.words (none_torn_by_lane o w w.words (λ slot u within being valid. absurd (quiet slot within being)))

  -- so none is lost of any lane
  kept_each : (n : ℕ) → is_kept o s.views w.words n ≡ true
  kept_each n = ap not (list_any_none (λ k. loses w.words (s.views k) n) (range_with_len 0 o.lanes) (λ i d low. none (get_or (range_with_len 0 o.lanes) i d))) where
    none : (k : ℕ) → loses w.words (s.views k) n ≡ false
    none k = ⊎_elim
        (λ (same : k ≡ 0). ap (λ j. loses w.words (s.views j) n) same ∙ (ap (λ (u : View). loses w.words u n) s.here ∙ kept_own n))
        (λ (other : k ≢ 0). ap (λ (u : View). loses w.words u n) (s.others k other))
        (cases_eq k 0)

  own_calls : entries_by 0 s.log ≡ w.entries
  own_calls = s.goes.world.own_entries 0 s.goes.in_lanes ∙ ap (λ (u : View). u.entries) s.here

  -- a history's calls are the lane's
  calls_alone : (last : PoolView) → Replays (opened pool) (acts_of s.log) (state_after last s.log) → Replays (opened pool) (acts_alone w.entries) (state_alone last w.entries)
  calls_alone last replays =
      subst (λ (calls : List Numbered). Replays (opened pool) (acts_alone calls) (state_alone last calls)) own_calls
      (subst (λ (t : State). Replays (opened pool) (acts_alone (entries_by 0 s.log)) t) (state_of_one last s.log s.goes.alone)
      (subst (λ (acts : List Act). Replays (opened pool) acts (state_after last s.log)) (acts_of_all s.log s.goes.alone) replays))

  pub calls_replay : Replays (opened pool) (acts_alone w.entries) (state_alone (reached o header pool w s).last w.entries)
  calls_replay = calls_alone (reached o header pool w s).last (reached o header pool w s).replays

  -- as an image its words hold that pool
  pub image_pool : HoldsPool (recovered_at w.words o.lanes) o.lanes o.zones header (reached o header pool w s).last
  image_pool =
      image_holds o (words_behind o header pool w s) (λ i tells. heads_stay o 0 (now o header pool w s) s.goes.world s.goes.in_lanes i tells) s.goes.world.sound w.words survives.size
      (λ i living. kept.words i living ∙ replayed-same (is_kept o s.views w.words) every s.log i (slice_index o.words i) (λ e there of. kept_each e.number)) kept.new_runs header (reached o header pool w s).last (reached o header pool w s).holds
    where
      kept : MeansKept o s.views s.log w.words
      kept = crash_law o (memory_of w) s.views s.log s.decided w.words s.goes.world survives untorn

  module _ (v : View) (begins : Begins o header pool v) where
    held : HoldsImage o.words o.lanes o.zones header (begins_holds o header pool v begins).0
    held = (begins_holds o header pool v begins).1

    ranges : (j : ℕ) → j < o.lanes → InRange (memory_of w (PoolWord (area_word j))) (s.views j) (s.views j).log.phase
    ranges j low = ⊎_elim
        (λ (same : j ≡ 0). subst (λ n. InRange (memory_of w (PoolWord (area_word n))) (s.views n) (s.views n).log.phase) (sym same) s.goes.range)
        (λ (other : j ≢ 0). subst (InRange (memory_of w (PoolWord (area_word j))) (s.views j)) (sym (s.goes.others j low other)) tt)
        (cases_eq j 0)

    pub image_held : HoldsImage w.words o.lanes o.zones header (reached o header pool w s).last
    image_held = record {
      has_header = header_survives o (memory_of w) s.views s.log s.decided s.goes.world header w.words survives s.goes.front held.has_header;
      fits = held.fits;
      no_log_fault = no_log_fault o (memory_of w) s.views s.log s.decided s.goes.world w.words survives untorn ranges (clean_words_hold o header (begins_holds o header pool v begins).0 held (begins_clean o header pool v begins)).no_fault;
      holds = image_pool;
    }

    abbrev pub holds_calls : HoldsCalls o w header pool
    holds_calls = record { before = (reached o header pool w s).last; holds = image_held; replays = calls_replay }
