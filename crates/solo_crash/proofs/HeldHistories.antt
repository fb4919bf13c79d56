-- A history stays one of the plain model as calls are drawn and decided, and what a power failure leaves holds what its kept calls made.
use Rattle.std.proofs.Common.{◌≡◌, ⊎_elim, ℕ, ◌<◌, Bool, true, false, cond, eqb, ◌&&◌, List, [], ◌∷◌, ◌++◌, slice_index, None, refl, sym, ◌∙◌, ap, subst, arith}
use Rattle.std.specs.List.{filter}
use Rattle.std.proofs.lemmas.Bool.{cases_Bool, cond-false, cond-true, false_from_ne_true, false≢true, not_from_false, or_left}
use Rattle.std.proofs.lemmas.List.{append-nil}
use Rattle.pm_header.specs.declared.header.Header.{Header}
use Rattle.pm_objects.specs.declared.history.TxErr.{TxErr}
use Rattle.pm_objects.specs.declared.pool.PoolView.{PoolView}
use Rattle.pm_image.specs.Logs.{recovered_at}
use Rattle.solo_model.specs.Step.{Act, State, Step}
use Rattle.solo_model.specs.History.{opened}
use Rattle.solo_model.specs.Names.{Replays}
use Rattle.solo_view.specs.Changes.{drained}
use Rattle.solo_view.specs.Log.{Phase}
use Rattle.solo_view.specs.Steps.{Step as LaneStep}
use Rattle.solo_view.specs.Steps.Step.{Drain, Draw}
use Rattle.solo_view.specs.View.{View}
use Rattle.solo_world.specs.Course.{decided_after, entry_of, flight, flight_in, is_decided_by_drain, is_empty, log_after}
use Rattle.solo_world.specs.Crash.{MeansKept, NoneTorn, Survives, is_kept, is_lost, loses}
use Rattle.solo_world.specs.Entries.{is_redoing}
use Rattle.solo_world.specs.History.{Entry, Flies, replayed}
use Rattle.solo_world.specs.Lawful.{IsLawful}
use Rattle.solo_world.specs.Memory.{Memory}
use Rattle.solo_world.specs.Opening.{Opening}
use Rattle.solo_world.specs.Records.{difference_of}
use Rattle.solo_world.specs.World.{Views, World}
use Rattle.solo_world.proofs.CrashRuns.{crash_law}
use Rattle.solo_world.proofs.Losses.{loses-flight, some_lane}
use Rattle.solo_world.proofs.Replays.{replayed-more}
use Rattle.solo_crash.specs.Draws.{DrawsStep, KeepsDecided, kept_log, kept_words}
use Rattle.solo_crash.specs.Held.{HoldsPool}
use Rattle.solo_crash.specs.HeldHistory.{DrawsOnAny, HoldReplay, IsEndedOnAny, IsHeldHistory}
use Rattle.solo_crash.specs.OpenCall.{IsGivenUp, IsWholeCall}
use Rattle.solo_crash.specs.Pending.{act_of, acts_of, pending_after, pending_before, state_after}
use Rattle.solo_crash.proofs.Drawn.{given_up_draws, own, whole_draws}
use Rattle.solo_crash.proofs.HistoryActs.{act_drawn, acts_further, replays_none}
use Rattle.solo_crash.proofs.InFlight.{tells_as_opening}
use Rattle.solo_crash.proofs.NewRuns.{image_holds}

-- an opening's words hold its pool, with no call made
pub begins_held : (o : Opening) (decided : ℕ → Bool) (header : Header) (pool : PoolView) → HoldsPool (slice_index o.words) o.lanes o.zones header pool → IsHeldHistory o [] decided header pool
unfolding replayed
begins_held o decided header pool holds = record { each = λ keep keeps. record { last = pool; holds = holds; replays = replays_none pool } }

-- a step that decides calls leaves it so
pub stays_held : (o : Opening) (log : List Entry) (decided later : ℕ → Bool) (header : Header) (pool : PoolView) → IsHeldHistory o log decided header pool → KeepsDecided decided later
    → IsHeldHistory o log later header pool
stays_held o log decided later header pool history more = record { each = λ keep keeps. history.each keep (λ n is. keeps n (more n is)) }

-- the kept ones, with one more call
filter_more : (keep : ℕ → Bool) (log : List Entry) (e : Entry) → filter (λ (d : Entry). keep d.number) (log ++ e ∷ []) ≡ filter (λ (d : Entry). keep d.number) log ++ cond (keep e.number) (e ∷ []) []
filter_more keep [] e = refl
filter_more keep (d ∷ log) e = ⊎_elim
    (λ (kept : keep d.number ≡ true).
    cond-true (keep d.number) _ _ kept ∙ ap (λ (l : List Entry). d ∷ l) (filter_more keep log e)
    ∙ sym (ap (λ (l : List Entry). l ++ cond (keep e.number) (e ∷ []) []) (cond-true (keep d.number) (d ∷ filter (λ (c : Entry). keep c.number) log) (filter (λ (c : Entry). keep c.number) log) kept)))
    (λ (left : keep d.number ≡ false).
    cond-false (keep d.number) _ _ left ∙ filter_more keep log e
    ∙ sym (ap (λ (l : List Entry). l ++ cond (keep e.number) (e ∷ []) []) (cond-false (keep d.number) (d ∷ filter (λ (c : Entry). keep c.number) log) (filter (λ (c : Entry). keep c.number) log) left)))
    (cases_Bool (keep d.number))

kept_more : (keep : ℕ → Bool) (log : List Entry) (e : Entry) → keep e.number ≡ true → kept_log keep (log ++ e ∷ []) ≡ kept_log keep log ++ e ∷ []
kept_more keep log e kept = filter_more keep log e ∙ ap (λ (l : List Entry). kept_log keep log ++ l) (cond-true (keep e.number) (e ∷ []) [] kept)

kept_still : (keep : ℕ → Bool) (log : List Entry) (e : Entry) → keep e.number ≡ false → kept_log keep (log ++ e ∷ []) ≡ kept_log keep log
kept_still keep log e left =
    (filter_more keep log e ∙ ap (λ (l : List Entry). filter (λ (d : Entry). keep d.number) log ++ l) (cond-false (keep e.number) (e ∷ []) [] left) ∙ append-nil (filter (λ (d : Entry). keep d.number) log))

-- one step more
replays_more : (calls : List Act) (a : Act) (s t u : State) → Replays s calls t → Step t a u → Replays s (calls ++ a ∷ []) u
replays_more [] a s t u replays step = (u, subst (λ (x : State). Step x a u) replays step, refl)
replays_more (b ∷ calls) a s t u replays step = (replays.0, replays.1, replays_more calls a replays.0 t u replays.2 step)

draw_kept : (o : Opening) (log : List Entry) (v : View) (n : ℕ) (header : Header) (pool : PoolView) (keep : ℕ → Bool) → keep n ≡ true → (held : HoldReplay (kept_words o keep log) o keep log header pool)
    → pending_after (kept_log keep log) v.lane ≡ pending_before v → DrawsStep o keep log v n header held.last → HoldReplay (kept_words o keep (log ++ entry_of v n ∷ [])) o keep (log ++ entry_of v n ∷ []) header pool
draw_kept o log v n header pool keep kept held own draws = record {
  last = draws.next;
  holds = draws.holds;
  replays =
      subst (λ (l : List Entry). Replays (opened pool) (acts_of l) (state_after draws.next l)) (sym (kept_more keep log (entry_of v n) kept))
      (subst (λ (calls : List Act). Replays (opened pool) calls (state_after draws.next (kept_log keep log ++ entry_of v n ∷ [])))
      ((λ j. acts_of (kept_log keep log) ++ sym (act_drawn v n (kept_log keep log) own) j ∷ []) ∙ sym (acts_further [] (kept_log keep log) (entry_of v n)))
      (replays_more (acts_of (kept_log keep log)) (act_of v) (opened pool) (state_after held.last (kept_log keep log)) (state_after draws.next (kept_log keep log ++ entry_of v n ∷ [])) held.replays draws.steps));
}

draw_left : (o : Opening) (log : List Entry) (v : View) (n : ℕ) (header : Header) (pool : PoolView) (keep : ℕ → Bool) → keep n ≡ false → HoldReplay (kept_words o keep log) o keep log header pool
    → HoldReplay (kept_words o keep (log ++ entry_of v n ∷ [])) o keep (log ++ entry_of v n ∷ []) header pool
draw_left o log v n header pool keep left held =
    let same : kept_words o keep (log ++ entry_of v n ∷ []) ≡ kept_words o keep log = (λ j i. replayed-more keep log (entry_of v n) i (slice_index o.words i) left j) in
    record {
      last = held.last;
      holds = subst (λ (f : ℕ → ℕ). HoldsPool f o.lanes o.zones header held.last) (sym same) held.holds;
      replays = subst (λ (l : List Entry). Replays (opened pool) (acts_of l) (state_after held.last l)) (sym (kept_still keep log (entry_of v n) left)) held.replays;
    }

-- a draw of an ended call leaves it so
pub draw_stays_held : (o : Opening) (mem : Memory) (views : Views) (log : List Entry) (decided later : ℕ → Bool) → World o mem views log decided → (k n : ℕ) → k < o.lanes → flight (views k) ≡ None
    → is_redoing (views k).log.phase ≡ false → KeepsDecided decided later → (header : Header) (pool : PoolView) → (views k).pool ≡ header.id → IsEndedOnAny (views k) → IsHeldHistory o log decided header pool
    → IsHeldHistory o (log ++ entry_of (views k) n ∷ []) later header pool
draw_stays_held o mem views log decided later world k n inside idle still more header pool id ended history = record {
  each = λ keep keeps.
      let decides : KeepsDecided decided keep = λ m is. keeps m (more m is) in
      let held : HoldReplay (kept_words o keep log) o keep log header pool = history.each keep decides in
      ⊎_elim
      (λ (kept : keep n ≡ true). draw_kept o log (views k) n header pool keep kept held (own o mem views log decided world keep k n inside idle still decides header held.last held.holds id) (⊎_elim
      (λ (whole : IsWholeCall (views k)). whole_draws o mem views log decided world keep k n inside idle still decides header held.last held.holds id kept whole)
      (λ (given_up : (e : TxErr) × IsGivenUp (views k) e × ((views k).log.records ≡ []) × ((views k).log.entries ≡ [])).
      given_up_draws o mem views log decided world keep k n inside idle still decides header held.last held.holds id given_up.0 kept given_up.1 given_up.2 given_up.3)
      ended))
      (λ (left : keep n ≡ false). draw_left o log (views k) n header pool keep left held)
      (cases_Bool (keep n));
}

-- no image loses a decided call
decided_kept : (o : Opening) (mem : Memory) (views : Views) (log : List Entry) (decided : ℕ → Bool) (image : List ℕ) → World o mem views log decided → KeepsDecided decided (is_kept o views image)
decided_kept o mem views log decided image world n is =
    not_from_false (is_lost o views image n) (false_from_ne_true (is_lost o views image n) (λ lost.
    let t = some_lane (λ k. loses image (views k) n) 0 o.lanes lost in
    let inside : t.0 < o.lanes = omega (arith, t.2) in
    let flies : Flies log decided t.0 n (difference_of (views t.0)) = (loses-flight image (Flies log decided t.0) (views t.0) n (world.each_lane t.0 inside).phase t.3).0 in
    false≢true (sym flies.undecided ∙ is)))

-- every image that a power failure leaves holds, once recovered, the pool that the calls it does not lose made
pub crash_leaves_replay : (o : Opening) (mem : Memory) (views : Views) (log : List Entry) (decided : ℕ → Bool) (image : List ℕ) (header : Header) (pool : PoolView) → World o mem views log decided
    → IsHeldHistory o log decided header pool → Survives o mem views image → NoneTorn o views image
    → HoldReplay (recovered_at image o.lanes) o (is_kept o views image) log header pool
crash_leaves_replay o mem views log decided image header pool world history survives none_torn =
    let keep : ℕ → Bool = is_kept o views image in
    let held : HoldReplay (kept_words o keep log) o keep log header pool = history.each keep (decided_kept o mem views log decided image world) in
    let kept : MeansKept o views log image = crash_law o mem views log decided image world survives none_torn in
    record {
      last = held.last;
      holds =
          image_holds o (kept_words o keep log) (tells_as_opening o mem views log decided world keep) world.sound image survives.size (λ i living. kept.words i living) kept.new_runs header held.last
          held.holds;
      replays = held.replays;
    }

-- so does each lawful step of a lane, if what it draws is an ended call
pub step_stays_held : (o : Opening) (mem : Memory) (views : Views) (log : List Entry) (decided : ℕ → Bool) → World o mem views log decided → (k : ℕ) (s : LaneStep) → k < o.lanes → IsLawful (views k) s
    → (header : Header) (pool : PoolView) → (views k).pool ≡ header.id → DrawsOnAny (views k) s → IsHeldHistory o log decided header pool
    → IsHeldHistory o (log_after log (views k) s) (decided_after decided (views k) s) header pool
step_stays_held o mem views log decided world k (Draw n) inside lawful header pool id ended history =
    draw_stays_held o mem views log decided (decided_after decided (views k) (Draw n)) world k n inside (ap (λ (phase : Phase). flight_in phase (views k).number) lawful.allowed.is_open) (ap is_redoing lawful.allowed.is_open)
    (λ m is. or_left (decided m) (eqb n m && is_empty (difference_of (views k))) is) header pool id ended.0 history
step_stays_held o mem views log decided world k Drain inside lawful header pool id ended history =
    stays_held o log decided (decided_after decided (views k) Drain) header pool history (λ m is. or_left (decided m) (is_decided_by_drain (drained (views k).changes) (views k) m) is)
step_stays_held o mem views log decided world k s inside lawful header pool id ended history = history
