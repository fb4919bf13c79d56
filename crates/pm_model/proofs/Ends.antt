-- How a call ends: its replies fix the next state, and one that was aborted or refused changed no
-- pool.
use Rattle.std.proofs.Common.{◌≡◌, ◌≢◌, ⊎_elim, ◌⊎◌, inl, inr, ℕ, ◌-◌, List, [], ◌∷◌, Bool, true, false, cond, leb, Option, Some, None, MatchOption, refl, sym, ◌∙◌, ap, subst}
use Rattle.std.proofs.lemmas.Bool.{false≢true}
use Rattle.pm_objects.specs.declared.calls.Operation.{Operation}
use Rattle.pm_objects.specs.declared.calls.Operation.TheVariants.{Begin, Read, Alloc, Reserve, Commit, Abort}
use Rattle.pm_objects.specs.declared.history.TxErr.{TxErr}
use Rattle.pm_objects.specs.declared.history.TxErr.TheVariants as error
use Rattle.pm_objects.specs.declared.history.Value.{Value}
use Rattle.pm_objects.specs.declared.history.Value.TheVariants.{Offset, Refused}
use Rattle.pm_objects.specs.declared.refusal.Refusal.{Refusal}
use Rattle.pm_model.specs.Items.{PlainPool, all_edited}
use Rattle.pm_model.specs.Pending.{set_edits}
use Rattle.pm_model.specs.Transaction.{Transaction, aborted, committed, idle, is_none, pool_of}
use Rattle.pm_model.specs.Refusals.{refusal_of}
use Rattle.pm_model.specs.Inside.{IsDone, IsRefused, IsReply, Ran, Replies, after, after_reply, error_for, is_action, is_begin, is_kept, is_refusal, performed, value_of}
use Rattle.pm_model.specs.Outside.{Outside, after_outside, after_reply_outside, is_outside}
use Rattle.pm_model.specs.CallStep.{CallRun, CallStep, OutsideStep, Runs, RunsOn, State, TransactionStep, is_transaction, outside_of, state_with}
use Rattle.pm_model.specs.Shown.{error_by, error_of, is_abort}
use Rattle.pm_model.proofs.Fitting.{before_after}

-- ---- one next state

same_end_on : (rest : List Ran) (tx last other : Transaction) → RunsOn tx rest last
    → RunsOn tx rest other → last ≡ other
unfolding RunsOn
same_end_on [] tx last other one two = one ∙ sym two
same_end_on (ran ∷ rest) tx last other one two =
    same_end_on rest (after ran tx) last other one.2 two.2

one_end : (operations : List Ran) (tx last other : Transaction) → Runs tx operations last
    → Runs tx operations other → last ≡ other
unfolding Runs
one_end [] tx last other one two = absurd one
one_end (ran ∷ rest) tx last other one two = same_end_on rest (after ran tx) last other one.1 two.1

not_both : (op : Operation) → is_begin op ≡ true → is_outside op ≡ true → ⊥
not_both (Begin wants) begins outside = false≢true outside
not_both op begins outside = false≢true begins

one_way : {A : Type 0} (run : CallRun) (s t u : State) → TransactionStep s run t
    → OutsideStep s run u → A
one_way run s t u inside out =
    absurd (not_both out.ran.operation
    (subst (λ (ops : List Ran). is_transaction ops ≡ true) out.single inside.begins) out.replies.outside)

same_ran : (one other : Ran) → one ∷ [] ≡ other ∷ [] → one ≡ other
same_ran one other e = cc

pub one_next : (run : CallRun) (s t u : State) → CallStep s run t → CallStep s run u → t ≡ u
one_next run s t u (inl first) (inl second) =
    first.leaves ∙ (ap (λ (e : Transaction). state_with s run.lane
    (record { pool = pool_of e; pending = e.pending }))
    (one_end run.operations
    (idle s.pool (s.pending run.lane)) first.last second.last first.runs second.runs)
    ∙ sym second.leaves)
one_next run s t u (inl first) (inr second) = one_way run s t u first second
one_next run s t u (inr first) (inl second) = one_way run s u t second first
one_next run s t u (inr first) (inr second) =
    first.leaves ∙ (ap (λ (r : Ran). state_with s run.lane
    (after_outside r (outside_of s run.lane)))
    (same_ran first.ran second.ran (sym first.single ∙ second.single)) ∙ sym second.leaves)

-- ---- how a transaction ends

-- with this error, and either with none or with the pool as it began
record EndsWith (e : TxErr) (before : PlainPool) (last : Transaction) : Type 0 where
  pub is : last.error ≡ e
  pub change : (last.error ≡ error.None) ⊎ (pool_of last ≡ before)

aborted_ends : (e : TxErr) (rest : List Ran) (tx last : Transaction) (before : PlainPool)
    → tx.before ≡ before → RunsOn (aborted e tx) rest last → EndsWith e before last
unfolding RunsOn
aborted_ends e [] tx last before from runs = record {
  is = ap (λ (t : Transaction). t.error) runs;
  change = inr (ap pool_of runs ∙ from);
}
aborted_ends e (ran ∷ rest) tx last before from runs = absurd (false≢true runs.0)

plain_value : (tx : Transaction) (op : Operation) → is_refusal (value_of tx op) ≡ false
plain_value tx (Read id at len) = refl
plain_value tx op = refl

plain_reply : (tx : Transaction) (op : Operation) (kept : Bool) (reply : Option Value)
    → IsReply tx op kept reply → is_refusal reply ≡ false
plain_reply tx (Alloc size kind) kept reply value = ap is_refusal value.2
plain_reply tx (Reserve size kind) kept reply value = ap is_refusal value.2
plain_reply tx op kept reply value = ap is_refusal value ∙ plain_value tx op

-- an operation that is done and is no abort leaves no error
error_at_level : (b : Bool) (tx : Transaction) → tx.error ≡ error.None
    → (cond b (record (idle tx.before tx.pending) {
      items = all_edited
          (set_edits tx.sets) tx.items;
    })
    (record (committed tx) {
      level = tx.level - 1;
      stage = cond (is_none tx.error) Rattle.pm_model.specs.declared.stage.Stage.TheVariants.Work Rattle.pm_model.specs.declared.stage.Stage.TheVariants.OnAbort;
    })).error ≡ error.None
error_at_level true tx none = refl
error_at_level false tx none = none

performed_error : (op : Operation) (tx : Transaction) → is_abort op ≡ false
    → tx.error ≡ error.None → (performed op tx).error ≡ error.None
performed_error Commit tx plain none = error_at_level (leb tx.level 1) tx none
performed_error (Abort errnum) tx plain none = absurd (false≢true (sym plain))
performed_error op tx plain none = none

done_error : (op : Operation) (reply : Option Value) (tx : Transaction) → is_abort op ≡ false
    → is_refusal reply ≡ false → tx.error ≡ error.None
    → (after_reply op reply tx).error ≡ error.None
done_error op (Some (Refused r)) tx plain unrefused none = absurd (false≢true (sym unrefused))
done_error (Alloc size kind) (Some (Offset off)) tx plain unrefused none = none
done_error (Reserve size kind) (Some (Offset off)) tx plain unrefused none = none
done_error op reply tx plain unrefused none = performed_error op tx plain none

plain_error : (op : Operation) (reply : Option Value) (rest : TxErr) → is_refusal reply ≡ false
    → is_abort op ≡ false → error_by op reply rest ≡ rest
plain_error op (Some (Refused r)) rest unrefused plain = absurd (false≢true (sym unrefused))
plain_error (Abort errnum) reply rest unrefused plain = absurd (false≢true (sym plain))
plain_error op reply rest unrefused plain = refl

abort_value : (tx : Transaction) (errnum : ℕ) (kept : Bool) (reply : Option Value)
    → IsReply tx (Abort errnum) kept reply → reply ≡ None
abort_value tx errnum kept reply value = value

module _ (before : PlainPool) where
  abbrev EndsSo : Transaction → List Ran → Transaction → Type 0
  EndsSo tx rest last = tx.before ≡ before → tx.error ≡ error.None → RunsOn tx rest last
      → EndsWith (error_of rest) before last

  -- after an operation that is done
  done_ends : (op : Operation) (kept : Bool) (reply : Option Value) (rest : List Ran)
      (tx last : Transaction) → tx.before ≡ before → tx.error ≡ error.None
      → IsReply tx op kept reply
      → ((next : Transaction) → EndsSo next rest last)
      → RunsOn (after_reply op reply tx) rest last
      → EndsWith (error_by op reply (error_of rest)) before last
  done_ends (Abort errnum) kept reply rest tx last from none value later runs =
      let is : reply ≡ None = value in
      subst (λ (v : Option Value). EndsWith
      (error_by (Abort errnum) v (error_of rest)) before last) (sym is)
      (aborted_ends (error_for errnum) rest tx last before from
      (subst (λ (v : Option Value). RunsOn
      (after_reply (Abort errnum) v tx) rest last) is runs))
  done_ends op kept reply rest tx last from none value later runs =
      let unrefused : is_refusal reply ≡ false = plain_reply tx op kept reply value in
      subst (λ (e : TxErr). EndsWith e before last)
      (sym (plain_error op reply (error_of rest) unrefused refl))
      (later (after_reply op reply tx) (before_after op reply tx ∙ from)
      (done_error op reply tx refl unrefused none) runs)

  -- after one that is refused
  refused_ends : (b : Bool) (r : Refusal) (rest : List Ran) (tx last : Transaction)
      → tx.before ≡ before → tx.error ≡ error.None → ((next : Transaction) → EndsSo next rest last)
      → RunsOn (cond b tx (aborted (error.Refused r) tx)) rest last
      → EndsWith (cond b (error_of rest) (error.Refused r)) before last
  refused_ends true r rest tx last from none later runs = later tx from none runs
  refused_ends false r rest tx last from none later runs = aborted_ends
      (error.Refused r) rest tx last before from runs

  step_ends : (ran : Ran) (kept : Bool) (rest : List Ran) (tx last : Transaction)
      → tx.before ≡ before → tx.error ≡ error.None → Replies tx ran kept
      → ((next : Transaction) → EndsSo next rest last) → RunsOn (after ran tx) rest last
      → EndsWith (error_by ran.operation ran.reply (error_of rest)) before last
  step_ends ran kept rest tx last from none replies later runs = by
      (refusal_of ran.seen tx ran.operation) replies.reply where
        by : (o : Option Refusal)
            → MatchOption o (IsDone tx ran.operation kept ran.reply) (λ r. IsRefused r ran.reply)
            → EndsWith (error_by ran.operation ran.reply (error_of rest)) before last
        by None done = done_ends ran.operation kept ran.reply rest tx last from none done.value later runs
        by (Some r) refused =
            subst (λ (v : Option Value). EndsWith
            (error_by ran.operation v (error_of rest)) before last) (sym refused.replied)
            (refused_ends (is_action ran.operation) r rest tx last from none later
            (subst (λ (v : Option Value). RunsOn
            (after_reply ran.operation v tx) rest last) refused.replied runs))

  ends_on : (rest : List Ran) (tx last : Transaction) → EndsSo tx rest last
  unfolding RunsOn error_of
  ends_on [] tx last from none runs = record {
    is = ap (λ (t : Transaction). t.error) runs
        ∙ none;
    change = inl (ap (λ (t : Transaction). t.error) runs ∙ none);
  }
  ends_on (ran ∷ rest) tx last from none runs = step_ends ran
      (is_kept rest) rest tx last from none runs.1 (λ next. ends_on rest next last) runs.2

  ends : (operations : List Ran) (tx last : Transaction) → tx.before ≡ before
      → tx.error ≡ error.None → Runs tx operations last
      → EndsWith (error_of operations) before last
  unfolding Runs error_of
  ends [] tx last from none runs = absurd runs
  ends (ran ∷ rest) tx last from none runs = step_ends ran
      (is_kept rest) rest tx last from none runs.0 (λ next. ends_on rest next last) runs.1

pub error_is_shown : (run : CallRun) (s t : State) → (step : TransactionStep s run t)
    → step.last.error ≡ error_of run.operations
error_is_shown run s t step = (ends s.pool run.operations
    (idle s.pool (s.pending run.lane)) step.last refl refl step.runs).is

-- a call outside that shows an error was refused
outside_by : (op : Operation) (reply : Option Value) (s : Outside) → is_outside op ≡ true
    → (error_by op reply error.None ≡ error.None)
    ⊎ ((after_reply_outside op reply s).pool ≡ s.pool)
outside_by op (Some (Refused r)) s outside = inr refl
outside_by (Abort errnum) reply s outside = absurd (false≢true outside)
outside_by op reply s outside = inl refl

pub aborted_changes_nothing : (run : CallRun) (s t : State) → CallStep s run t
    → error_of run.operations ≢ error.None → t.pool ≡ s.pool
unfolding error_of
aborted_changes_nothing run s t (inl step) some =
    let end : EndsWith (error_of run.operations) s.pool step.last = ends s.pool run.operations
    (idle s.pool (s.pending run.lane)) step.last refl refl step.runs in
    ap (λ (v : State). v.pool) step.leaves
    ∙ ⊎_elim (λ (e : step.last.error ≡ error.None). absurd (some (sym end.is ∙ e)))
    (λ (e : pool_of step.last ≡ s.pool). e) end.change
aborted_changes_nothing run s t (inr step) some =
    ap (λ (v : State). v.pool) step.leaves
    ∙ ⊎_elim (λ (e : error_by step.ran.operation step.ran.reply error.None ≡ error.None). absurd
    (some (ap error_of step.single ∙ e)))
    (λ (e : (after_outside step.ran (outside_of s run.lane)).pool ≡ s.pool). e)
    (outside_by step.ran.operation step.ran.reply (outside_of s run.lane) step.replies.outside)
