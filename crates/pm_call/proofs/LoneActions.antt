-- AN ACTION IN A CALL OF ITS OWN has its fact, and its lane is between two calls then.
use Rattle.std.proofs.Common.{◌≡◌, ◌≢◌, ℕ, ◌%◌, ◌^◌, ◌<◌, ◌==◌, nat_le, Bool, true, false, cond, not, List, [], ◌∷◌, ◌++◌, length, refl, sym, ap, ◌∙◌, subst, arith, eqb-true, Option, None, Some}
use Rattle.std.specs.Prelude.{MatchOption}
use Rattle.std.proofs.lemmas.Bool.{leb-false}
use Rattle.pm_model.specs.Inside.{IsRefused, is_action}
use Rattle.pm_model.specs.Pending.{max_actions, pending_count}
use Rattle.pm_model.specs.Refusals.{first_of}
use Rattle.pm_objects.specs.declared.calls.Operation.{Operation}
use Rattle.pm_objects.specs.declared.calls.Operation.TheVariants.{SetValue, Cancel}
use Rattle.pm_objects.specs.declared.history.Value.{Value}
use Rattle.pm_objects.specs.declared.history.Value.TheVariants.{Refused}
use Rattle.pm_objects.specs.declared.refusal.Refusal.{Refusal}
use Rattle.pm_objects.specs.declared.refusal.Refusal.TheVariants.{ActionsFull, Busy, NoObject, Unaligned}
use Rattle.pm_objects.specs.declared.ids.Oid.{Oid}
use Rattle.pm_view.specs.Steps.Step.{Tell}
use Rattle.pm_view.specs.View.{Told, View}
use Rattle.pm_view.specs.Views.{after}
use Rattle.pm_world.specs.LaneFields.{Standing, listed}
use Rattle.pm_crash.specs.Calls.{Fact, pending_after, pending_of}
use Rattle.pm_crash.specs.SimOutside.{IsActionDone, refusal_alone}
use Rattle.pm_crash.specs.Facts.{MissWasSeen}
use Rattle.pm_crash.proofs.EntryFacts.{records_miss}
use Rattle.pm_crash.proofs.SimOutside.{actions_are_facts}
use Rattle.pm_call.specs.Did.{unseen}
use Rattle.pm_call.specs.Locking.{IsOpened}
use Rattle.pm_call.specs.Outside.{ActionsMayBeTold, EndsAction, IsWordAction, RepliesAlone}
use Rattle.pm_call.specs.Waiting.{HasPending, pending_now}
use Rattle.pm_call.proofs.AskedWords.{asked_pending, count_is, dropped_pending}
use Rattle.pm_call.proofs.BusyTests.{told_refusal}
use Rattle.pm_call.proofs.Ending.{refused_actions, refused_pending}
use Rattle.pm_call.proofs.LoneCalls.{ends_number, ends_over, opened_is_open, steps_ready}
use Rattle.pm_call.proofs.Staying.{pending_told}

-- ---- WHAT IS PENDING THEN

-- a refusal leaves it
refused_stays : (v : View) (op : Operation) (reply : Option Value) (r : Refusal) → reply ≡ Some (Refused r) → HasPending v → HasPending (after v (Tell op reply))
refused_stays v op reply r is h = subst (λ o. HasPending (after v (Tell op o))) (sym is) (pending_told v op (Some (Refused r)) (λ p. refused_pending op r p) (refused_actions op r v.actions) h)

module _ (v : View) (call : v.call ≡ []) (h : HasPending v) where
  -- what was pending as the call began
  now : pending_now v ≡ pending_of v.entries
  unfolding pending_after
  now = ap (λ told. pending_after told (pending_of v.entries)) call

  pub many : length (listed v.actions) ≡ pending_count (pending_of v.entries)
  many = count_is v h ∙ ap pending_count now

  module _ (id : Oid) (off value : ℕ) where
    alone : refusal_alone unseen v (SetValue id off value) ≡ cond (not (off % 8 == 0)) (Some Unaligned) (cond (nat_le max_actions (pending_count (pending_of v.entries))) (Some ActionsFull) None)
    unfolding first_of
    alone = refl

    set_by : (reply : Option Value) (aligned full : Bool) → (off % 8 == 0) ≡ aligned → nat_le max_actions (pending_count (pending_of v.entries)) ≡ full → value < 2 ^ 64
        → MatchOption (cond (not aligned) (Some Unaligned) (cond full (Some ActionsFull) None)) (reply ≡ None) (λ r. IsRefused r reply) → HasPending (after v (Tell (SetValue id off value) reply))
    set_by reply false full e f small is = refused_stays v (SetValue id off value) reply Unaligned is.replied h
    set_by reply true true e f small is = refused_stays v (SetValue id off value) reply ActionsFull is.replied h
    set_by reply true false e f small is = subst (λ o. HasPending (after v (Tell (SetValue id off value) o))) (sym is) (asked_pending v id off value (eqb-true (off % 8) 0 e) room small h)
      where
        room : length (listed v.actions) < max_actions
        room = let low = leb-false max_actions (pending_count (pending_of v.entries)) f in let m = many in omega (arith, low, m)

  asked_alone : (op : Operation) (reply : Option Value) → IsWordAction op → MatchOption (refusal_alone unseen v op) (IsActionDone v op reply) (λ r. IsRefused r reply) → HasPending (after v (Tell op reply))
  unfolding first_of
  asked_alone (SetValue id off value) reply is replies = set_by id off value reply (off % 8 == 0) (nat_le max_actions (pending_count (pending_of v.entries))) refl refl is replies
  asked_alone Cancel reply is replies = subst (λ o. HasPending (after v (Tell Cancel o))) (sym replies) (dropped_pending v)
  asked_alone op reply is replies = absurd is

action_is : (op : Operation) → IsWordAction op → is_action op ≡ true
action_is (SetValue id off value) is = refl
action_is Cancel is = refl
action_is op is = absurd is

-- the reply is the model's once it is told, too
replies_told : (v : View) (op : Operation) (reply : Option Value) → IsWordAction op → MatchOption (refusal_alone unseen v op) (IsActionDone v op reply) (λ r. IsRefused r reply)
    → MatchOption (refusal_alone unseen (after v (Tell op reply)) op) (IsActionDone (after v (Tell op reply)) op reply) (λ r. IsRefused r reply)
replies_told v (SetValue id off value) reply is replies = replies
replies_told v Cancel reply is replies = replies
replies_told v op reply is replies = absurd is

-- it is never refused as Busy, nor as NoObject
unrefused_set : (reply : Option Value) (aligned full : Bool)
    → MatchOption (cond (not aligned) (Some Unaligned) (cond full (Some ActionsFull) None)) (reply ≡ None) (λ r. IsRefused r reply) → (reply ≢ Some (Refused Busy)) × (reply ≢ Some (Refused NoObject))
unrefused_set reply false full is = (
  λ e. absurd (let z : Unaligned ≡ Busy = told_refusal Unaligned Busy (sym is.replied ∙ e) in cc),
  λ e. absurd (let z : Unaligned ≡ NoObject = told_refusal Unaligned NoObject (sym is.replied ∙ e) in cc),
)
unrefused_set reply true true is = (
  λ e. absurd (let z : ActionsFull ≡ Busy = told_refusal ActionsFull Busy (sym is.replied ∙ e) in cc),
  λ e. absurd (let z : ActionsFull ≡ NoObject = told_refusal ActionsFull NoObject (sym is.replied ∙ e) in cc),
)
unrefused_set reply true false is = (
  λ e. absurd (let z : None ≡ Some (Refused Busy) = sym is ∙ e in cc),
  λ e. absurd (let z : None ≡ Some (Refused NoObject) = sym is ∙ e in cc),
)

unrefused_action : (v : View) (op : Operation) (reply : Option Value) → IsWordAction op → MatchOption (refusal_alone unseen v op) (IsActionDone v op reply) (λ r. IsRefused r reply) → (reply ≢ Some (Refused Busy)) × (reply ≢ Some (Refused NoObject))
unfolding first_of
unrefused_action v (SetValue id off value) reply is replies = unrefused_set reply (off % 8 == 0) (nat_le max_actions (pending_count (pending_of v.entries))) replies
unrefused_action v Cancel reply is replies = (
  λ e. absurd (let z : None ≡ Some (Refused Busy) = sym replies ∙ e in cc),
  λ e. absurd (let z : None ≡ Some (Refused NoObject) = sym replies ∙ e in cc),
)
unrefused_action v op reply is replies = absurd is

module _ (s : Standing) (is : IsOpened s) (op : Operation) (reply : Option Value) (word : IsWordAction op) (replies : RepliesAlone s op reply) where
  fact : Fact (after s.view (Tell op reply))
  fact = actions_are_facts (after s.view (Tell op reply)) (record { operation = op; seen = unseen; reply = reply }) (record {
    lone = ap (λ (call : List Told). call ++ record { operation = op; reply = reply } ∷ []) is.call;
    bare = record { records = is.records; entries = is.working.unentered };
    action = action_is op word;
    replies = replies_told s.view op reply word replies;
  })

  ends_action : (n : ℕ) → EndsAction s op reply n
  ends_action n =
      let o = opened_is_open s is in
      let pending = asked_alone s.view is.call is.pending op reply word replies in
      let unrefused = unrefused_action s.view op reply word replies in
      let missed : MissWasSeen (after s.view (Tell op reply)) =
      records_miss (after s.view (Tell op reply)) s.view.call (record { operation = op; reply = reply }) refl (λ e. absurd (unrefused.1 e)) in
      record {
        ready = steps_ready s s.locks o op reply fact unrefused.0 missed pending n;
        between = record { over = ends_over s s.locks o op reply fact unrefused.0 missed pending n; unlocked = is.locks; unlisted = is.entries };
        number = ends_number s s.locks o op reply fact unrefused.0 missed pending n;
      }

pub actions_may_be_told : ActionsMayBeTold
actions_may_be_told s op reply n is word replies = ends_action s is op reply word replies n
