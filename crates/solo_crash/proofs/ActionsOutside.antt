-- The calls of one operation outside of a transaction: those on the pending actions alone are steps of the plain model.
use Rattle.std.proofs.Common.{◌≡◌, inr, ℕ, ◌%◌, Bool, cond, true, false, not, eqb, leb, List, [], ◌∷◌, map, Option, Some, None, MatchOption, refl, sym, ◌∙◌, ap, subst}
use Rattle.std.specs.Prelude.{IsSome}
use Rattle.std.specs.List.{find}
use Rattle.std.specs.Option.{option_map}
use Rattle.std.proofs.lemmas.Bool.{false≢true}
use Rattle.std.proofs.lemmas.List.Elements.{All-nil}
use Rattle.pm_header.specs.declared.header.Header.{Header}
use Rattle.pm_objects.specs.Pool.{object_at}
use Rattle.pm_objects.specs.declared.calls.Operation.{Operation}
use Rattle.pm_objects.specs.declared.calls.Operation.TheVariants.{Cancel, DeferFree, SetValue}
use Rattle.pm_objects.specs.declared.calls.Want.{Want}
use Rattle.pm_objects.specs.declared.history.Value.{Value}
use Rattle.pm_objects.specs.declared.history.Value.TheVariants.{Refused}
use Rattle.pm_objects.specs.declared.ids.Oid.{Oid}
use Rattle.pm_objects.specs.declared.pool.PoolView.{PoolView}
use Rattle.pm_objects.specs.declared.refusal.Refusal.{Refusal}
use Rattle.pm_objects.specs.declared.refusal.Refusal.TheVariants as refusal
use Rattle.solo_model.specs.Actions.{Pending, max_actions, pending_count}
use Rattle.solo_model.specs.Answers.{changes_nothing}
use Rattle.solo_model.specs.Checks.{Seen, is_unaligned}
use Rattle.solo_model.specs.Answers.{StandsOnceDone}
use Rattle.solo_model.specs.Outside.{AnswersOutside, AreNamed, IsDoneOutside, IsValueOutside, as_resting, IsRefusedOutside, Outside, after_outside, has_no_room, refusal_outside, stands_outside}
use Rattle.solo_model.specs.Step.{State, with_pending}
use Rattle.solo_view.specs.Area.{is_in_area}
use Rattle.solo_view.specs.Log.{Recorded}
use Rattle.solo_view.specs.View.{View}
use Rattle.solo_world.specs.Records.{is_recorded}
use Rattle.solo_crash.specs.Held.{HoldsPool}
use Rattle.solo_crash.specs.OnActions.{ChangesPendingOutside, defer_refusal, set_refusal}
use Rattle.solo_crash.specs.OpenCall.{IsBefore, IsWholeCall, MakesStep, made_words}
use Rattle.solo_crash.specs.Pending.{pending_before, pending_behind, told_of}
use Rattle.solo_crash.proofs.ActionsOn.{changes_pending}
use Rattle.solo_crash.proofs.Begun.{no_call_words}
use Rattle.solo_crash.proofs.CallWords.{made_unentered}
use Rattle.solo_crash.proofs.PendingOn.{pending_first}

-- ---- a call of one operation

-- what a call begins from where this is pending
abbrev pub outside_with : PoolView → Pending → Outside
outside_with pool p = record { pool = pool; actions = p }

-- what the lane's call begins from
abbrev pub outside_of : View → PoolView → Outside
outside_of v pool = outside_with pool (pending_before v)

-- the model answers so where this is pending, and the words that the call makes hold what it leaves
pub record GoesFrom (v : View) (w : ℕ → ℕ) (header : Header) (pool : PoolView) (p : Pending) (op : Operation) (reply : Option Value) : Type 0 where
  pub answers : AnswersOutside (outside_with pool p) op reply
  pub holds : HoldsPool (made_words v w) v.lanes v.zones header (after_outside op reply (outside_with pool p)).pool
  pub leaves : (after_outside op reply (outside_with pool p)).actions ≡ pending_behind op reply p

abbrev pub GoesOutside : View → (ℕ → ℕ) → Header → PoolView → Operation → Option Value → Type 0
GoesOutside v w header pool op reply = GoesFrom v w header pool (pending_before v) op reply

-- so it makes a step
step_made : (v : View) (w : ℕ → ℕ) (header : Header) (pool : PoolView) (op : Operation) (reply : Option Value) → v.call ≡ record { operation = op; reply = reply } ∷ [] → GoesOutside v w header pool op reply
    → MakesStep v w header pool
step_made v w header pool op reply call how =
    let next : PoolView = (after_outside op reply (outside_of v pool)).pool in
    record {
      next = next;
      holds = how.holds;
      steps = λ actions own. inr (record {
        operation = op;
        reply = reply;
        alone = ap (map told_of) call;
        answers = how.answers;
        leaves = record {
          pending = own;
          leaves = (λ j. let s : State = record { pool = next; actions = with_pending actions v.lane ((pending_first v (record { operation = op; reply = reply }) call ∙ sym how.leaves) j) } in s);
        };
      });
    }

pub none_recorded : (v : View) → v.log.records ≡ [] → (i : ℕ) → is_recorded v.log.records i ≡ true → is_in_area v.lane i ≡ false
none_recorded v no_records i is = absurd (let clash : false ≡ true = sym (ap (λ (records : List Recorded). is_recorded records i) no_records) ∙ is in cc)

pub goes_whole : (v : View) (op : Operation) (reply : Option Value) → v.call ≡ record { operation = op; reply = reply } ∷ [] → v.log.records ≡ []
    → ((w : ℕ → ℕ) (header : Header) (pool : PoolView) → HoldsPool w v.lanes v.zones header pool → v.pool ≡ header.id → IsBefore v w → GoesOutside v w header pool op reply)
    → IsWholeCall v
goes_whole v op reply call no_records goes = record {
  outside = none_recorded v no_records;
  makes = λ w header pool holds id before. step_made v w header pool op reply call (goes w header pool holds id before);
}

-- the first refusal, by what the checks say
first_outside : Bool → Bool → Bool → Bool → Bool → Option Refusal
first_outside unaligned no_place missing past_end full = option_map (λ (check : Refusal × Bool). check.0) (find (λ (check : Refusal × Bool). check.1)
    ((refusal.Unaligned, unaligned) ∷ (refusal.NoObject, no_place) ∷ (refusal.NoObject, missing) ∷ (refusal.OutOfRange, past_end) ∷ (refusal.ActionsFull, full) ∷ []))

-- what a lane saw that found an object or not
abbrev pub found_missing : Bool → Seen
found_missing missing = record { spent = false; busy = false; missing = missing; full = false }

-- of a call on the pending actions alone
change_checks : (pool : PoolView) (p : Pending) (op : Operation) → changes_pending op ≡ true → let s : Outside = outside_with pool p in
    (refusal_outside (found_missing false) s op ≡ first_outside (is_unaligned op) false false false (has_no_room s op))
unfolding refusal_outside first_outside
change_checks pool p (SetValue id off value) is = refl
change_checks pool p (DeferFree id) is = refl
change_checks pool p Cancel is = refl
change_checks pool p op is = absurd (false≢true is)

-- it answers what it has come to, by what the lane saw
pub answers_seen : (s : Outside) (op : Operation) (reply : Option Value) (seen : Seen) → stands_outside op ≡ true → AreNamed s op → StandsOnceDone (as_resting s) op
    → refusal_outside seen s op ≡ None → IsValueOutside s op reply → AnswersOutside s op reply
answers_seen s op reply seen known named stands none value = record {
  known = known;
  seen = seen;
  answer = subst (λ (fr : Option Refusal). MatchOption fr (IsDoneOutside s op reply) (λ r. IsRefusedOutside r reply)) (sym none) (record { there = named; stands = stands; value = value });
}

pub refused_seen : (s : Outside) (op : Operation) (seen : Seen) (r : Refusal) → stands_outside op ≡ true → refusal_outside seen s op ≡ Some r → changes_nothing r ≡ false
    → AnswersOutside s op (Some (Refused r))
refused_seen s op seen r known first traced = record {
  known = known;
  seen = seen;
  answer =
      subst (λ (fr : Option Refusal). MatchOption fr (IsDoneOutside s op (Some (Refused r))) (λ (x : Refusal). IsRefusedOutside x (Some (Refused r)))) (sym first) (record { traced = traced; told = refl });
}

pub answers_outside : (s : Outside) (op : Operation) (reply : Option Value) (missing : Bool) → stands_outside op ≡ true → AreNamed s op → StandsOnceDone (as_resting s) op
    → refusal_outside (found_missing missing) s op ≡ None → IsValueOutside s op reply → AnswersOutside s op reply
answers_outside s op reply missing = answers_seen s op reply (found_missing missing)

pub refused_outside : (s : Outside) (op : Operation) (missing : Bool) (r : Refusal) → stands_outside op ≡ true → refusal_outside (found_missing missing) s op ≡ Some r → changes_nothing r ≡ false
    → AnswersOutside s op (Some (Refused r))
refused_outside s op missing = refused_seen s op (found_missing missing)

-- ---- on the pending actions alone

-- the model answers so, and leaves the pool and what is pending
pub record ChangesAlone (pool : PoolView) (p : Pending) (op : Operation) (reply : Option Value) : Type 0 where
  pub answers : AnswersOutside (outside_with pool p) op reply
  pub leaves : after_outside op reply (outside_with pool p) ≡ outside_with pool (pending_behind op reply p)

none_named : (pool : PoolView) (p : Pending) (op : Operation) → changes_pending op ≡ true → AreNamed (outside_with pool p) op
none_named pool p (SetValue id off value) is = All-nil (λ (want : Want). IsSome (object_at pool.objects want.id.off))
none_named pool p (DeferFree id) is = All-nil (λ (want : Want). IsSome (object_at pool.objects want.id.off))
none_named pool p Cancel is = All-nil (λ (want : Want). IsSome (object_at pool.objects want.id.off))
none_named pool p op is = absurd (false≢true is)

-- a set-value is refused by the two checks on it
set_changes : (pool : PoolView) (p : Pending) (id : Oid) (off value : ℕ) (reply : Option Value) → reply ≡ option_map Refused (set_refusal off p) → ChangesAlone pool p (SetValue id off value) reply
unfolding first_outside
set_changes pool p id off value reply told = by_tests (not (eqb (off % 8) 0)) (leb max_actions (pending_count p)) (change_checks pool p op refl) told where
  op : Operation
  op = SetValue id off value

  s : Outside
  s = outside_with pool p

  by_tests : (unaligned full : Bool) → refusal_outside (found_missing false) s op ≡ first_outside unaligned false false false full
      → reply ≡ option_map Refused (cond unaligned (Some refusal.Unaligned) (cond full (Some refusal.ActionsFull) None)) → ChangesAlone pool p op reply
  by_tests true full first told = subst (ChangesAlone pool p op) (sym told) (record { answers = refused_outside s op false refusal.Unaligned refl first refl; leaves = refl })
  by_tests false true first told = subst (ChangesAlone pool p op) (sym told) (record { answers = refused_outside s op false refusal.ActionsFull refl first refl; leaves = refl })
  by_tests false false first told = subst (ChangesAlone pool p op) (sym told) (record { answers = answers_outside s op None false refl (none_named pool p op refl) tt first refl; leaves = refl })

-- and a free that is deferred by the one on it
defer_changes : (pool : PoolView) (p : Pending) (id : Oid) (reply : Option Value) → reply ≡ option_map Refused (defer_refusal p) → ChangesAlone pool p (DeferFree id) reply
unfolding first_outside
defer_changes pool p id reply told = by_test (leb max_actions (pending_count p)) (change_checks pool p op refl) told where
  op : Operation
  op = DeferFree id

  s : Outside
  s = outside_with pool p

  by_test : (full : Bool) → refusal_outside (found_missing false) s op ≡ first_outside false false false false full → reply ≡ option_map Refused (cond full (Some refusal.ActionsFull) None) → ChangesAlone pool p op reply
  by_test true first told = subst (ChangesAlone pool p op) (sym told) (record { answers = refused_outside s op false refusal.ActionsFull refl first refl; leaves = refl })
  by_test false first told = subst (ChangesAlone pool p op) (sym told) (record { answers = answers_outside s op None false refl (none_named pool p op refl) tt first refl; leaves = refl })

-- a cancel is not refused
cancel_changes : (pool : PoolView) (p : Pending) → ChangesAlone pool p Cancel None
unfolding first_outside
cancel_changes pool p = record {
  answers = answers_outside (outside_with pool p) Cancel None false refl (none_named pool p Cancel refl) tt (change_checks pool p Cancel refl) refl;
  leaves = refl;
}

-- so it goes, where the lane recorded and entered nothing
alone_goes : (v : View) (w : ℕ → ℕ) (header : Header) (pool : PoolView) (op : Operation) (reply : Option Value) → v.log.records ≡ [] → v.log.entries ≡ [] → HoldsPool w v.lanes v.zones header pool
    → ChangesAlone pool (pending_before v) op reply → GoesOutside v w header pool op reply
alone_goes v w header pool op reply no_records no_entries holds how =
    let same : made_words v w ≡ w = made_unentered v no_entries w ∙ no_call_words v no_records w in
    record {
      answers = how.answers;
      holds =
          subst (λ (s : Outside). HoldsPool (made_words v w) v.lanes v.zones header s.pool) (sym how.leaves) (subst (λ (f : ℕ → ℕ). HoldsPool f v.lanes v.zones header pool) (sym same) holds);
      leaves = ap (λ (s : Outside). s.actions) how.leaves;
    }

-- and makes a step
pub alone_step : (v : View) (w : ℕ → ℕ) (header : Header) (pool : PoolView) (op : Operation) (reply : Option Value) → v.call ≡ record { operation = op; reply = reply } ∷ [] → v.log.records ≡ [] → v.log.entries ≡ []
    → HoldsPool w v.lanes v.zones header pool → ChangesAlone pool (pending_before v) op reply → MakesStep v w header pool
alone_step v w header pool op reply call no_records no_entries holds how = step_made v w header pool op reply call (alone_goes v w header pool op reply no_records no_entries holds how)

pub changes_whole : (v : View) (op : Operation) (reply : Option Value) → v.call ≡ record { operation = op; reply = reply } ∷ [] → v.log.records ≡ [] → v.log.entries ≡ []
    → ((w : ℕ → ℕ) (header : Header) (pool : PoolView) → HoldsPool w v.lanes v.zones header pool → v.pool ≡ header.id → IsBefore v w → ChangesAlone pool (pending_before v) op reply)
    → IsWholeCall v
changes_whole v op reply call no_records no_entries changes =
    goes_whole v op reply call no_records (λ w header pool holds id before. alone_goes v w header pool op reply no_records no_entries holds (changes w header pool holds id before))

pub change_is_step : (v : View) (op : Operation) (reply : Option Value) → ChangesPendingOutside v op reply → IsWholeCall v
change_is_step v (SetValue id off value) reply changes =
    changes_whole v (SetValue id off value) reply changes.call changes.no_records changes.no_entries (λ w header pool holds same_id before. set_changes pool (pending_before v) id off value reply changes.answer)
change_is_step v (DeferFree id) reply changes =
    changes_whole v (DeferFree id) reply changes.call changes.no_records changes.no_entries (λ w header pool holds same_id before. defer_changes pool (pending_before v) id reply changes.answer)
change_is_step v Cancel reply changes =
    changes_whole v Cancel reply changes.call changes.no_records changes.no_entries (λ w header pool holds same_id before. subst (ChangesAlone pool (pending_before v) Cancel) (sym changes.answer) (cancel_changes pool (pending_before v)))
change_is_step v op reply changes = absurd changes.answer
