-- A set-value or a cancel that is told is a whole call, with the reply that it owes.
use Rattle.std.proofs.Common.{◌≡◌, ◌≢◌, ◌⊎◌, inl, inr, ℕ, Bool, false, not, List, [], ◌∷◌, ◌++◌, Option, Result, Ok, Err, refl, sym, ap, subst}
use Rattle.std.specs.Prelude.{IfErr, option_map}
use Rattle.solo_crash.proofs.ActionsOutside.{change_is_step}
use Rattle.solo_crash.specs.OnActions.{IsPendingAnswer, defer_refusal, set_refusal}
use Rattle.solo_crash.specs.Pending.{pending_before}
use Rattle.solo_model.specs.Actions.{Pending}
use Rattle.pm_objects.specs.declared.calls.Operation.{Operation}
use Rattle.pm_objects.specs.declared.history.Value.{Value}
use Rattle.pm_objects.specs.declared.history.Value.TheVariants.{Refused}
use Rattle.pm_objects.specs.declared.refusal.Refusal.{Refusal}
use Rattle.pm_objects.specs.declared.refusal.Refusal.TheVariants as refusal
use Rattle.solo_pending.specs.AllPending.{IsPendingAs}
use Rattle.solo_pending.specs.Pending.{refusal_in}
use Rattle.solo_pending.specs.declared.pending.PendingActions.{PendingActions}
use Rattle.solo_view.specs.Log.{Log}
use Rattle.solo_view.specs.Steps.Step.{Tell}
use Rattle.solo_view.specs.View.{Told, View}
use Rattle.solo_view.specs.Views.{after, after_all}
use Rattle.solo_world.specs.declared.lane.Lane.{Lane}
use Rattle.solo_lock.specs.Begun.{IsBegun}
use Rattle.solo_tx.specs.Beginning.{IsBegunBy}
use Rattle.solo_tx.specs.Sequences.{starts}
use Rattle.solo_action.proofs.Started.{pending_started, told_at_once_since}
use Rattle.solo_action.specs.Outside.{IsAnsweredAtOnce, IsDeferCause, IsEndedOnceTold, IsSetCause, IsToldAtOnce, IsWholeOnceTold}

-- a call on the pending actions alone, of which nothing was told
pub answer_whole : (v : View) → v.call ≡ [] → v.log.records ≡ [] → v.log.entries ≡ [] → (op : Operation) (reply : Option Value) → IsPendingAnswer (pending_before v) op reply → IsWholeOnceTold v op reply
answer_whole v untold unrecorded unentered op reply answer = change_is_step (after v (Tell op reply)) op reply (record {
  call = ap (λ (told : List Told). told ++ record { operation = op; reply = reply } ∷ []) untold;
  no_records = unrecorded;
  no_entries = unentered;
  answer = answer;
})

pub pending_answer_whole : {M : Type 0} (at : M → View → Type 0) (lane : Lane M) (v : View) → IsBegun at lane v → (op : Operation) (reply : Option Value) → IsPendingAnswer (pending_before v) op reply → IsWholeOnceTold v op reply
pending_answer_whole at lane v is op reply answer = answer_whole v is.untold (ap (λ (log : Log). log.records) is.log) (ap (λ (log : Log). log.entries) is.log) op reply answer

-- ---- why it is refused

-- it is refused neither since the lane stopped nor since its numbers are spent
pub record IsOfPending (result : Result (Unit {0}) Refusal) : Type 0 where
  pub unstopped : result ≢ Err refusal.Stopped
  pub unspent : result ≢ Err refusal.Spent

of_pending : (r : Refusal) → (r ≡ refusal.Stopped → ⊥) → (r ≡ refusal.Spent → ⊥) → IsOfPending (Err r)
of_pending r unstopped unspent = record { unstopped = λ e. unstopped cc; unspent = λ e. unspent cc }

-- a set-value is refused for its place, or for room
pub set_of_pending : (result : Result (Unit {0}) Refusal) → IfErr result (λ r. (r ≡ refusal.Unaligned) ⊎ (r ≡ refusal.ActionsFull)) → IsOfPending result
set_of_pending (Ok done) causes = record { unstopped = λ e. absurd cc; unspent = λ e. absurd cc }
set_of_pending (Err r) (inl place) = of_pending r (λ e. absurd cc) (λ e. absurd cc)
set_of_pending (Err r) (inr full) = of_pending r (λ e. absurd cc) (λ e. absurd cc)

-- and a free that is deferred for room alone
pub defer_of_pending : (result : Result (Unit {0}) Refusal) → IfErr result (λ r. r ≡ refusal.ActionsFull) → IsOfPending result
defer_of_pending (Ok done) full = record { unstopped = λ e. absurd cc; unspent = λ e. absurd cc }
defer_of_pending (Err r) full = of_pending r (λ e. absurd cc) (λ e. absurd cc)

pub set_cause : (stopped : Bool) (off : ℕ) (list : PendingActions) (result : Result (Unit {0}) Refusal) → stopped ≡ false → IsOfPending result → ((p : Pending) → IsPendingAs list p → refusal_in result ≡ set_refusal off p)
    → IfErr result (λ r. (p : Pending) → IsPendingAs list p → IsSetCause stopped off p r)
set_cause stopped off list (Ok done) not of is = tt
set_cause stopped off list (Err refusal.Stopped) not of is = absurd (of.unstopped refl)
set_cause stopped off list (Err refusal.Spent) not of is = absurd (of.unspent refl)
set_cause stopped off list (Err r) not of is = λ p list_is. (not, sym (is p list_is))

pub defer_cause : (stopped : Bool) (list : PendingActions) (result : Result (Unit {0}) Refusal) → stopped ≡ false → IsOfPending result → ((p : Pending) → IsPendingAs list p → refusal_in result ≡ defer_refusal p)
    → IfErr result (λ r. (p : Pending) → IsPendingAs list p → IsDeferCause stopped p r)
defer_cause stopped list (Ok done) not of is = tt
defer_cause stopped list (Err refusal.Stopped) not of is = absurd (of.unstopped refl)
defer_cause stopped list (Err refusal.Spent) not of is = absurd (of.unspent refl)
defer_cause stopped list (Err r) not of is = λ p list_is. (not, sym (is p list_is))

-- what such a call leaves once that is told
answered_so : {M : Type 0} (at : M → View → Type 0) (lane : Lane M) (v : View) (op : Operation) (result : Result (Unit {0}) Refusal) → IsOfPending result → IsToldAtOnce at lane v op (option_map Refused (refusal_in result)) → IsAnsweredAtOnce at lane v op result
answered_so at lane v op (Ok done) of told = told
answered_so at lane v op (Err refusal.Stopped) of told = absurd (of.unstopped refl)
answered_so at lane v op (Err refusal.Spent) of told = absurd (of.unspent refl)
answered_so at lane v op (Err r) of told = told

-- ---- since the lane was at rest

-- a call on what is pending that answers as it owes, for what was pending as the lane was at rest, is told since then
module _ {M : Type 0} (at : M → View → Type 0) (mid lane : Lane M) (v : View) (n : ℕ) (started : IsBegunBy at mid v (starts n)) (op : Operation) where
  abbrev u : View
  u = after_all v (starts n v)

  pub told_since_rest : (reply : Option Value) → ((w : View) → IsBegun at mid w → IsEndedOnceTold w op reply → IsToldAtOnce at lane w op reply) → IsPendingAnswer (pending_before v) op reply → IsToldAtOnce at lane v op reply
  told_since_rest reply ends answer = told_at_once_since at mid v n started lane op reply
      (ends u started.begun (inl (pending_answer_whole at mid u started.begun op reply (subst (λ (pending : Pending). IsPendingAnswer pending op reply) (sym (pending_started at mid v n started)) answer))))

  -- with the answer that it gives
  pub answered_since : (result : Result (Unit {0}) Refusal) (reason : Option Refusal) → IsOfPending result → refusal_in result ≡ reason → IsPendingAnswer (pending_before v) op (option_map Refused reason)
      → ((w : View) → IsBegun at mid w → IsEndedOnceTold w op (option_map Refused (refusal_in result)) → IsToldAtOnce at lane w op (option_map Refused (refusal_in result))) → IsAnsweredAtOnce at lane v op result
  answered_since result reason of is answer ends = answered_so at lane v op result of
      (told_since_rest (option_map Refused (refusal_in result)) ends (subst (λ (o : Option Refusal). IsPendingAnswer (pending_before v) op (option_map Refused o)) (sym is) answer))
