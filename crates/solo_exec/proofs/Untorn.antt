-- Wherever the lane of a run stops in a call, a power failure tears no record of it that reads as one, where the records of that call's lines have no
-- torn match over what the calls before it left.
use Rattle.std.proofs.Common.{◌≡◌, ⊎_elim, ℕ, ◌≤◌, List, [], ◌∷◌, ◌++◌, length, slice_index, ◌∙◌, arith}
use Rattle.pm_header.specs.declared.header.Header.{Header}
use Rattle.pm_objects.specs.declared.history.Value.{Value}
use Rattle.pm_objects.specs.declared.pool.PoolView.{PoolView}
use Rattle.solo_memory.specs.Keep.{IsKeptImage}
use Rattle.solo_memory.specs.Solo.{Sees, Solo}
use Rattle.solo_crash.proofs.AloneCourse.{begins_holds, begins_lane}
use Rattle.solo_crash.proofs.CallWords.{behind_is_outside}
use Rattle.solo_crash.proofs.SeenAlone.{works_where_seen}
use Rattle.solo_crash.proofs.TornSlots.{none_torn_alone}
use Rattle.solo_crash.specs.Alone.{Begins, BeginsAgain, BeginsAlone, WorksAlone, alone_views}
use Rattle.solo_script.specs.declared.script.ScriptLine.{ScriptLine}
use Rattle.solo_view.specs.Constants.{IsSameLane}
use Rattle.solo_view.specs.View.{View}
use Rattle.solo_world.specs.Crash.{NoneTorn}
use Rattle.solo_world.specs.Opening.{Opening}
use Rattle.solo_exec.proofs.Along.{same_along}
use Rattle.solo_exec.proofs.QuietSlots.{none_torn_where_quiet}
use Rattle.solo_exec.proofs.ScriptRecords.{is_record_of, may_pass, no_match_at}
use Rattle.solo_exec.proofs.StoppedAdds.{words_in_add}
use Rattle.solo_exec.proofs.UndrainedSlots.{quiet_at_work}
use Rattle.solo_exec.specs.Calls.{names_of}
use Rattle.solo_exec.specs.Openings.{opening_of}
use Rattle.solo_exec.specs.Progress.{IsCalmBehind, IsCutAtWork, IsInAdd}
use Rattle.solo_exec.specs.Torn.{HasNoMatchAt, words_after}

-- `o` is the pool as it stood before the call, in which the lane came here by steps that it made at work
module _ (pool : PoolView) (before : View) (header : Header) (held : PoolView) (memory : Solo) (w : View) (lines : List ScriptLine) (values : List (ℕ × Value))
    (begins : Begins (opening_of pool before.words) header held before) (seen : Sees memory w) (cut : IsCutAtWork (opening_of pool before.words) before (names_of pool) lines values w) where
  abbrev o : Opening
  o = opening_of pool before.words

  -- up to there the lane works alone
  works : WorksAlone o header held before cut.steps w
  works = works_where_seen o header held memory before w cut.steps begins cut.leads seen

  begins_lanes : before.lanes ≡ pool.lanes
  begins_lanes = ⊎_elim (λ (first : BeginsAlone o header held before). first.fresh.lane.lanes) (λ (again : BeginsAgain o header held before). again.rested.lane.lanes) begins

  -- while a range is recorded, its record is of words that the lines in front make
  in_add : (keep : ℕ) (left : List ℕ) → IsKeptImage keep w.words (w.changes ∷ []) left → (a : IsInAdd o before (names_of pool) lines w) → HasNoMatchAt pool a.front before
      → NoneTorn o (alone_views o w) left
  in_add keep left kept a none =
      let some : 1 ≤ pool.lanes = (begins_holds o header held before begins).1.has_header.has_shape.shape.lanes_from in
      let same : IsSameLane before w = same_along before w cut.steps cut.leads in
      let made : ℕ → ℕ = words_after (names_of pool) a.front (slice_index before.words) in
      none_torn_alone o header held before w cut.steps keep left (is_record_of made pool.lanes (length before.words)) works kept cut.opening.grows
      (no_match_at pool a.front o before (begins_lane o header held before begins) none)
      (λ r. may_pass made pool.lanes (length before.words) w r (same.lanes ∙ begins_lanes) same.size
      (λ i far written. words_in_add o header held before w cut.steps (names_of pool) lines works a i (behind_is_outside 0 pool.lanes i (omega (arith, some)) far) written))

  -- anywhere else it writes no slot
  calm_behind : (left : List ℕ) → IsCalmBehind before w → NoneTorn o (alone_views o w) left
  calm_behind left c = none_torn_where_quiet o w left (c.calm (quiet_at_work o header held before c.steps c.view begins c.leads c.working))

  -- so wherever it stops: `none` is of the fronts of the call's lines
  pub none_torn_where_stopped : (none : (front rest : List ScriptLine) → lines ≡ front ++ rest → HasNoMatchAt pool front before)
      → (keep : ℕ) (left : List ℕ) → IsKeptImage keep w.words (w.changes ∷ []) left → NoneTorn o (alone_views o w) left
  none_torn_where_stopped none keep left kept =
      ⊎_elim (λ (c : IsCalmBehind before w). calm_behind left c)
      (λ (a : IsInAdd o before (names_of pool) lines w). in_add keep left kept a (none a.front a.rest a.is_all))
      cut.untorn
