-- A lane at work tells a call on its pending actions, stays at work, and has pending what the plain model has.
use Rattle.std.proofs.Common.{◌≡◌, ℕ, ◌+◌, ◌≤◌, arith, All, List, true, get_or, ◌*◌, [], ◌∷◌, ◌++◌, length, map, Option, None, Result, Ok, Err, inl, refl, sym, ap, ◌∙◌, subst}
use Rattle.std.specs.Result.{result_err}
use Rattle.std.proofs.lemmas.List.{append-nil}
use Rattle.solo_crash.proofs.ActionsOn.{change_goes_on}
use Rattle.solo_crash.proofs.PendingOn.{pending_once_more, published_once_more}
use Rattle.solo_crash.specs.OnActions.{ChangesPending, IsPendingAnswer}
use Rattle.solo_crash.specs.Operations.{KeepsLog, KeepsWords, Tells}
use Rattle.solo_crash.specs.Pending.{pending_behind, pending_in, published_by, published_in}
use Rattle.solo_memory.specs.Runs.{Stops}
use Rattle.solo_memory.specs.declared.lane_mem.Stopped.{Stopped}
use Rattle.solo_model.specs.Actions.{Action}
use Rattle.pm_objects.specs.declared.calls.Operation.{Operation}
use Rattle.pm_objects.specs.declared.calls.Operation.TheVariants.{Cancel}
use Rattle.pm_objects.specs.declared.history.Value.{Value}
use Rattle.pm_objects.specs.declared.refusal.Refusal.{Refusal}
use Rattle.solo_pending.specs.Pending.{refusal_in}
use Rattle.solo_undo.proofs.Begun.{tell_works}
use Rattle.solo_undo.proofs.Restored.{open_settled}
use Rattle.solo_undo.proofs.Settled.{settle_lawful}
use Rattle.solo_undo.proofs.Staying.{same_call, same_settled}
use Rattle.solo_undo.proofs.Storing.{Is, goes_from}
use Rattle.solo_undo.proofs.Written.{settled_works}
use Rattle.solo_undo.specs.Spans.{IsSpan}
use Rattle.solo_undo.specs.Working.{FindsOpening, IsSameCall, IsSettled, IsWorking}
use Rattle.solo_view.specs.Log.{Log, Phase}
use Rattle.solo_view.specs.Steps.Step.{Tell}
use Rattle.solo_view.specs.View.{Told, View}
use Rattle.solo_view.specs.Views.{after, after_all}
use Rattle.solo_world.proofs.Going.{goes_then}
use Rattle.solo_world.specs.Lanes.{span_of}
use Rattle.solo_world.specs.Lawful.{MayTell}
use Rattle.solo_world.specs.Opening.{Opening}
use Rattle.solo_world.specs.Sequences.{Ready, Runs, one, settles}
use Rattle.solo_world.specs.declared.lane.Lane.{Lane}
use Rattle.solo_lock.proofs.Drawless.{drawless}
use Rattle.solo_lock.specs.Leading.{DrawEnded}
use Rattle.solo_tx.proofs.Fronts.{front_undrawn}
use Rattle.solo_tx.proofs.GivenUp.{undrawn_lane}
use Rattle.solo_tx.proofs.GoingOn.{HasSameFields, KeepsObjects, goes_on}
use Rattle.solo_tx.proofs.NoneMade.{made_none_before, pending_leaves_made}
use Rattle.solo_tx.specs.Actions.{HasCanceled, cancels}
use Rattle.solo_tx.specs.AtWork.{IsAtWork}
use Rattle.solo_tx.specs.Ending.{IsStoppedIn}

-- the call, its log and its words are as before: more may be persistent
pub record IsAsBefore (v m : View) : Type 0 where
  pub call : IsSameCall v m
  pub log : m.log ≡ v.log
  pub words : m.words ≡ v.words
  pub working : IsWorking m
  pub opening : (o : Opening) → FindsOpening o v → FindsOpening o m

pub as_before : (v : View) → IsWorking v → IsAsBefore v v
as_before v working = record { call = same_call v; log = refl; words = refl; working = working; opening = λ o finds. finds }

settled_as_before : (v m : View) → IsWorking v → IsSettled v m → IsAsBefore v m
settled_as_before v m working is = record {
  call = same_settled v m is;
  log = ap (λ (u : View). u.log) is ∙ open_settled v.changes v [] [] working.is_open;
  words = ap (λ (u : View). u.words) is;
  working = settled_works v m working is;
  opening = λ o f. subst (FindsOpening o) (sym is) (record { lane = f.lane; lanes = f.lanes; size = f.size; descriptors = f.descriptors; locks = f.locks });
}

module _ (v m : View) (is : IsAsBefore v m) (op : Operation) (reply : Option Value) where
  abbrev pub told : View
  told = after m (Tell op reply)

  pub tells : Tells v told op reply
  tells =
      let call = is.call in
      record {
        keeps = record { lanes = call.lane.lanes; zones = call.lane.zones; pool = call.lane.pool; lane = call.lane.lane; entries = call.entries; known = call.remembers };
        locks = call.locks;
        call = ap (λ (told : List Told). told ++ record { operation = op; reply = reply } ∷ []) call.call;
      }

  pub log_kept : KeepsLog v told
  log_kept = record { records = ap (λ (l : Log). l.records) is.log; entries = ap (λ (l : Log). l.entries) is.log }

  pub words_kept : KeepsWords v told
  words_kept = record { words = λ i outside. ap (λ (words : List ℕ). get_or words i 0) is.words }

  changes : IsPendingAnswer (pending_in v) op reply → ChangesPending v told op reply
  changes answer = record { tells = tells; logs = log_kept; words = words_kept; answer = answer }

  pub objects : KeepsObjects v told
  objects =
      let call = is.call in
      record {
        lane = (let s = call.lane in record { lanes = s.lanes; zones = s.zones; pool = s.pool; lane = s.lane; stop = s.stop; table = s.table; size = s.size });
        locks = call.locks;
        number = call.number;
        entries = call.entries;
        remembers = call.remembers;
        seen = call.seen;
        sizes = λ l held. ap (λ (words : List ℕ). get_or words (8 * l.line + 1) 0) is.words;
      }

  pub opening_told : (o : Opening) → FindsOpening o v → FindsOpening o told
  opening_told o finds = let f = is.opening o finds in record { lane = f.lane; lanes = f.lanes; size = f.size; descriptors = f.descriptors; locks = f.locks }

  pub pending_told : pending_in told ≡ pending_behind op reply (pending_in v)
  pending_told = pending_once_more v told op reply tells.keeps.entries tells.call

  pub published_told : published_in told ≡ published_in v ++ published_by op reply (pending_in v)
  published_told = published_once_more v told op reply tells.keeps.entries tells.call

  -- a set-value or a cancel that is told leaves the lane at work
  pub change_at_work : {M : Type 0} (o : Opening) (at : M → View → Type 0) (lane next : Lane M) → IsAtWork o at lane v → HasSameFields lane next → next.records ≡ lane.records → at next.memory told
      → IsPendingAnswer (pending_in v) op reply → published_by op reply (pending_in v) ≡ [] → IsAtWork o at next told
  change_at_work o at lane next work fields records seen answer none =
      goes_on o at lane next v told work fields objects seen
      (ap (λ rs. rs.items) records ∙ (work.seen.records ∙ ap (λ (l : Log). map span_of l.records) (sym is.log)))
      (subst (λ rs. All IsSpan rs.items) (sym records) work.spans)
      (opening_told o work.opening)
      (tell_works m op reply is.working)
      (ap (λ (l : Log). l.entries) is.log ∙ work.no_entries)
      (published_told ∙ (ap (λ (more : List Action). published_in v ++ more) none ∙ append-nil (published_in v)))
      (made_none_before v told op reply tells.keeps.entries tells.call (pending_leaves_made (pending_in v) op reply answer))
      (change_goes_on v told op reply lane.level work.level work.under_way (changes answer))

-- ---- a set-value

-- the reason of an answer, read as its error
pub error_is_reason : (result : Result (Unit {0}) Refusal) → result_err result ≡ refusal_in result
error_is_reason (Ok done) = refl
error_is_reason (Err r) = refl

-- ---- a cancel

module _ (v : View) (working : IsWorking v) where
  abbrev pub persisted : View
  persisted = after_all v (settles v)

  pub persisted_so : IsAsBefore v persisted
  persisted_so = settled_as_before v persisted working (settle_lawful v).1

  may_tell : MayTell persisted.log.phase
  may_tell = subst (λ (p : Phase). MayTell p) (sym persisted_so.working.is_open) tt

  sequence : Ready v (cancels v) × (after_all v (cancels v) ≡ after persisted (Tell Cancel None))
  unfolding cancels one Ready after_all
  sequence =
      goes_then (Is v) (Is persisted) (Is (after persisted (Tell Cancel None))) settles (one (Tell Cancel None))
      (goes_from v (Is persisted) settles ((settle_lawful v).0, refl))
      (goes_from persisted (Is (after persisted (Tell Cancel None))) (one (Tell Cancel None)) ((may_tell, tt, tt), refl)) v refl

  pub cancel_ready : Ready v (cancels v)
  cancel_ready = sequence.0

  few : length (after_all v (cancels v)).entries ≤ length v.entries
  few = let same = ap (λ (u : View). length u.entries) sequence.1 in let e = ap length persisted_so.call.entries in omega (arith, same, e)

  cancel_draws : DrawEnded v (cancels v)
  cancel_draws = drawless v (cancels v) few

  pub has_canceled : {M : Type 0} (o : Opening) (at : M → View → Type 0) (lane next : Lane M) → IsAtWork o at lane v → HasSameFields lane next → next.records ≡ lane.records → at next.memory (after_all v (cancels v)) → HasCanceled o at next v
  has_canceled o at lane next work fields records seen = record {
    ready = cancel_ready;
    draws = cancel_draws;
    works = subst (IsAtWork o at next) (sym sequence.1) (change_at_work v persisted persisted_so Cancel None o at lane next work fields records (subst (at next.memory) sequence.1 seen) refl refl);
    none = ap pending_in sequence.1 ∙ pending_told v persisted persisted_so Cancel None;
  }

  -- it stopped before the cancel was told
  pub stopped_canceling : {M : Type 0} (o : Opening) (at : M → View → Type 0) (lane next : Lane M) → IsAtWork o at lane v → next.stopped ≡ true → next.drawn ≡ lane.drawn → (stopped : Stopped) → Runs {T = Unit {0}} (at lane.memory) (at next.memory) cancels (Err stopped) → IsStoppedIn at next v cancels Cancel None
  unfolding Runs
  stopped_canceling o at lane next work says drawn stopped ran =
      let stops : Stops (at next.memory) v (cancels v) = ran v work.seen.memory cancel_ready in
      let none = front_undrawn v (cancels v) stops.made few working.undrawn in
      record {
        ready = cancel_ready;
        draws = cancel_draws;
        stops = stops;
        stopped = says;
        drawn = drawn ∙ (undrawn_lane at lane v work.seen working.undrawn ∙ sym none.0);
        came = record { told = inl none.0; entries = inl none };
      }
