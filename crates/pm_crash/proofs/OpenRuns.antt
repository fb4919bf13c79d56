-- Operations of an open call, one more, and all of them as a run of the model.
use Rattle.std.proofs.Common.{◌≡◌, ◌-◌, Bool, true, false, cond, leb, List, [], ◌∷◌, ◌++◌, map, Option, Some, refl, sym, ◌∙◌, ap, subst}
use Rattle.pm_objects.specs.declared.calls.Operation.{Operation}
use Rattle.pm_objects.specs.declared.calls.Operation.TheVariants.{Alloc, Reserve, Commit}
use Rattle.pm_objects.specs.declared.history.TxErr.{TxErr}
use Rattle.pm_objects.specs.declared.history.TxErr.TheVariants as error
use Rattle.pm_objects.specs.declared.history.Value.{Value}
use Rattle.pm_objects.specs.declared.history.Value.TheVariants.{Offset, Refused}
use Rattle.pm_model.specs.Items.{Items, PlainPool, all_edited}
use Rattle.pm_model.specs.Pending.{set_edits}
use Rattle.pm_model.specs.Inside.{Ran, Replies, after, after_reply, is_kept, is_kept_by, is_action, performed}
use Rattle.pm_model.specs.Transaction.{Transaction, aborted, committed, idle, is_none, is_working}
use Rattle.pm_model.specs.declared.stage.Stage.TheVariants as stage
use Rattle.pm_model.specs.CallStep.{Runs, RunsOn}
use Rattle.pm_view.specs.View.{Told}
use Rattle.pm_crash.specs.Calls.{told_by}
use Rattle.pm_crash.specs.OpenRuns.{AreReplies, MayFollow, RepliesOn, after_told, is_kept_if, on_pool}

-- ---- what was told, one more

pub told_on : (told more : List Told) (tx : Transaction) → after_told (told ++ more) tx ≡ after_told more (after_told told tx)
unfolding after_told
told_on [] more tx = refl
told_on (t ∷ told) more tx = told_on told more (after_reply t.operation t.reply tx)

pub told_once_more : (told : List Told) (t : Told) (tx : Transaction) → after_told (told ++ t ∷ []) tx ≡ after_reply t.operation t.reply (after_told told tx)
unfolding after_told
told_once_more told t tx = told_on told (t ∷ []) tx

-- ---- the lists follow from what was told, whatever the pool

-- a commit ends its level, on this pool and this copy
abbrev end_by : Bool → PlainPool → Items → Transaction → Transaction
end_by b before copy tx =
    cond b (record (idle before tx.pending) { items = all_edited (set_edits tx.sets) copy })
    (record (committed (on_pool before copy tx)) { level = tx.level - 1; stage = cond (is_none tx.error) stage.Work stage.OnAbort })

end_apart : (b : Bool) (before : PlainPool) (copy : Items) (tx : Transaction)
    → end_by b before copy tx ≡ on_pool before (end_by b before copy tx).items (end_by b tx.before tx.items tx)
end_apart true before copy tx = refl
end_apart false before copy tx = refl

-- an operation does to the lists what it does on any pool, and leaves the pool that it began with
abbrev IsApart : Operation → Option Value → Transaction → Type 0
IsApart op reply tx = (before : PlainPool) (copy : Items)
    → after_reply op reply (on_pool before copy tx)
    ≡ on_pool before (after_reply op reply (on_pool before copy tx)).items (after_reply op reply tx)

performed_apart : (op : Operation) (tx : Transaction) (before : PlainPool) (copy : Items)
    → performed op (on_pool before copy tx) ≡ on_pool before (performed op (on_pool before copy tx)).items (performed op tx)
performed_apart Commit tx before copy = end_apart (leb tx.level 1) before copy tx
performed_apart op tx before copy = refl

refused_apart : (b : Bool) (e : TxErr) (before : PlainPool) (copy : Items) (tx : Transaction)
    → cond b (on_pool before copy tx) (aborted e (on_pool before copy tx))
    ≡ on_pool before (cond b (on_pool before copy tx) (aborted e (on_pool before copy tx))).items (cond b tx (aborted e tx))
refused_apart true e before copy tx = refl
refused_apart false e before copy tx = refl

pub reply_apart : (op : Operation) (reply : Option Value) (tx : Transaction) → IsApart op reply tx
reply_apart op (Some (Refused r)) tx before copy = refused_apart (is_action op) (error.Refused r) before copy tx
reply_apart (Alloc size kind) (Some (Offset off)) tx before copy = refl
reply_apart (Reserve size kind) (Some (Offset off)) tx before copy = refl
reply_apart op reply tx before copy = performed_apart op tx before copy

pub told_apart : (told : List Told) (tx : Transaction) (before : PlainPool) (copy : Items)
    → after_told told (on_pool before copy tx)
    ≡ on_pool before (after_told told (on_pool before copy tx)).items (after_told told tx)
unfolding after_told
told_apart [] tx before copy = refl
told_apart (t ∷ told) tx before copy =
    ap (after_told told) (reply_apart t.operation t.reply tx before copy)
    ∙ (told_apart told (after_reply t.operation t.reply tx) before (after_reply t.operation t.reply (on_pool before copy tx)).items
    ∙ ap (λ (t' : Transaction). on_pool before t'.items (after_told told (after_reply t.operation t.reply tx)))
    (ap (after_told told) (sym (reply_apart t.operation t.reply tx before copy))))

-- ---- one more reply

kept_once_more : (kept : Bool) (runs : List Ran) (ran : Ran)
    → is_kept_if kept (runs ++ ran ∷ []) ≡ is_kept_if (is_kept_by ran.operation kept) runs
unfolding is_kept_if
kept_once_more kept [] ran = refl
kept_once_more kept (r ∷ runs) ran = ap (is_kept_by r.operation) (kept_once_more kept runs ran)

on_once_more : (kept : Bool) (runs : List Ran) (ran : Ran) (tx : Transaction)
    → RepliesOn (is_kept_by ran.operation kept) tx runs
    → is_working (after_told (map told_by runs) tx).stage ≡ true
    → Replies (after_told (map told_by runs) tx) ran kept
    → RepliesOn kept tx (runs ++ ran ∷ [])
unfolding RepliesOn is_kept_if after_told
on_once_more kept [] ran tx so works replies = (works, replies, tt)
on_once_more kept (r ∷ runs) ran tx so works replies = (
  so.0,
  subst (Replies tx r) (sym (kept_once_more kept runs ran)) so.1,
  on_once_more kept runs ran (after r tx) so.2 works replies,
)

pub replies_once_more : (kept : Bool) (runs : List Ran) (ran : Ran) (tx : Transaction)
    → AreReplies (is_kept_by ran.operation kept) tx runs
    → MayFollow runs (after_told (map told_by runs) tx)
    → Replies (after_told (map told_by runs) tx) ran kept
    → AreReplies kept tx (runs ++ ran ∷ [])
unfolding AreReplies RepliesOn is_kept_if after_told
replies_once_more kept [] ran tx so works replies = (replies, tt)
replies_once_more kept (r ∷ runs) ran tx so works replies = (
  subst (Replies tx r) (sym (kept_once_more kept runs ran)) so.0,
  on_once_more kept runs ran (after r tx) so.1 works replies,
)

-- ---- as a run of the model, where what is pending is kept

same_kept : (runs : List Ran) → is_kept_if true runs ≡ is_kept runs
unfolding is_kept_if is_kept
same_kept [] = refl
same_kept (r ∷ runs) = ap (is_kept_by r.operation) (same_kept runs)

runs_on : (runs : List Ran) (tx : Transaction) → RepliesOn true tx runs → RunsOn tx runs (after_told (map told_by runs) tx)
unfolding RepliesOn RunsOn after_told
runs_on [] tx so = refl
runs_on (r ∷ runs) tx so = (so.0, subst (Replies tx r) (same_kept runs) so.1, runs_on runs (after r tx) so.2)

pub are_runs : (r : Ran) (runs : List Ran) (tx : Transaction) → AreReplies true tx (r ∷ runs)
    → Runs tx (r ∷ runs) (after_told (map told_by (r ∷ runs)) tx)
unfolding AreReplies Runs after_told
are_runs r runs tx so = (subst (Replies tx r) (same_kept runs) so.0, runs_on runs (after r tx) so.1)
