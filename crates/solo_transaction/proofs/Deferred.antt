-- A lane at work tells that a free or a set-value is pending, or why not: it is at work still with its lists, and lists what is pending then.
use Rattle.std.proofs.Common.{◌≡◌, ℕ, [], Option, None, Some, Result, Ok, Err, OnOk, OnErr, refl, sym, subst}
use Rattle.std.specs.Option.{option_map}
use Rattle.solo_crash.proofs.CallBlocks.{blocks_once_more}
use Rattle.solo_crash.specs.CallBlocks.{LeavesReserved, TellsOfRoot, blocks_in}
use Rattle.solo_crash.specs.OnActions.{IsPendingAnswer}
use Rattle.solo_crash.specs.Pending.{pending_behind, pending_in, published_by}
use Rattle.solo_made.specs.Made.{BlockLists}
use Rattle.solo_model.specs.Actions.{Pending}
use Rattle.pm_objects.specs.declared.calls.Operation.{Operation}
use Rattle.pm_objects.specs.declared.calls.Operation.TheVariants.{DeferFree, SetValue}
use Rattle.pm_objects.specs.declared.history.Value.{Value}
use Rattle.pm_objects.specs.declared.history.Value.TheVariants.{Refused}
use Rattle.pm_objects.specs.declared.ids.Oid.{Oid}
use Rattle.pm_objects.specs.declared.refusal.Refusal.{Refusal}
use Rattle.solo_pending.specs.AllPending.{IsPendingAs}
use Rattle.solo_pending.specs.Pending.{refusal_in}
use Rattle.solo_pending.specs.declared.pending.PendingActions.{PendingActions}
use Rattle.solo_view.specs.Steps.Step.{Tell}
use Rattle.solo_view.specs.View.{View}
use Rattle.solo_view.specs.Views.{after}
use Rattle.solo_world.specs.Opening.{Opening}
use Rattle.solo_world.specs.declared.lane.Lane.{Lane}
use Rattle.solo_tx.proofs.ActionsAtWork.{as_before, change_at_work, pending_told}
use Rattle.solo_tx.proofs.GoingOn.{HasSameFields}
use Rattle.solo_transaction.proofs.ActionsWithLists.{told_with_lists}
use Rattle.solo_transaction.specs.AtWork.{IsAtWorkWith}
use Rattle.solo_transaction.specs.Deferring.{HasToldPending}

-- the call that is told leaves the heap, and publishes nothing
record LeavesAll (v : View) (op : Operation) (reply : Option Value) : Type 0 where
  same : blocks_in (after v (Tell op reply)) ≡ blocks_in v
  leaves : LeavesReserved op reply (pending_in v)
  no_root : (root : Option ℕ) → TellsOfRoot root op reply (pending_in v)
  unpublished : published_by op reply (pending_in v) ≡ []

defer_leaves : (v : View) (id : Oid) (refused : Option Refusal) → LeavesAll v (DeferFree id) (option_map Refused refused)
defer_leaves v id None =
    record { same = blocks_once_more v (after v (Tell (DeferFree id) None)) (DeferFree id) None refl refl; leaves = (refl, refl); no_root = λ root. tt; unpublished = refl }
defer_leaves v id (Some r) =
    record { same = blocks_once_more v (after v (Tell (DeferFree id) (Some (Refused r)))) (DeferFree id) (Some (Refused r)) refl refl; leaves = (refl, refl); no_root = λ root. tt; unpublished = refl }

set_leaves : (v : View) (id : Oid) (off value : ℕ) (refused : Option Refusal) → LeavesAll v (SetValue id off value) (option_map Refused refused)
set_leaves v id off value None =
    record { same = blocks_once_more v (after v (Tell (SetValue id off value) None)) (SetValue id off value) None refl refl; leaves = (refl, refl); no_root = λ root. tt; unpublished = refl }
set_leaves v id off value (Some r) = record {
  same = blocks_once_more v (after v (Tell (SetValue id off value) (Some (Refused r)))) (SetValue id off value) (Some (Refused r)) refl refl;
  leaves = (refl, refl);
  no_root = λ root. tt;
  unpublished = refl;
}

-- what is listed is what is pending: with the action, or as it was
listed_now : (result : Result (Unit {0}) Refusal) (old new : PendingActions) (op : Operation) (p more : Pending) → pending_behind op None p ≡ more → ((r : Refusal) → pending_behind op (Some (Refused r)) p ≡ p)
    → OnOk result (IsPendingAs new more) → OnErr result (new ≡ old) → IsPendingAs old p → IsPendingAs new (pending_behind op (option_map Refused (refusal_in result)) p)
listed_now (Ok done) old new op p more grows stays listed same are = subst (IsPendingAs new) (sym grows) listed
listed_now (Err r) old new op p more grows stays listed same are = subst (IsPendingAs new) (sym (stays r)) (subst (λ (l : PendingActions). IsPendingAs l p) (sym same) are)

on_ok_at : (result : Result (Unit {0}) Refusal) (old new : PendingActions) (more : Pending → Pending) → OnOk result ((p : Pending) → IsPendingAs old p → IsPendingAs new (more p)) → (p : Pending) → IsPendingAs old p → OnOk result (IsPendingAs new (more p))
on_ok_at (Ok done) old new more listed p are = listed p are
on_ok_at (Err r) old new more listed p are = tt

-- from a lane at work with its lists, where its result is the plain model's answer
module _ {M : Type 0} (o : Opening) (at : M → View → Type 0) (lane next : Lane M) (blocks : BlockLists) (v : View) (is : IsAtWorkWith o at lane blocks v) (fields : HasSameFields lane next) (records : next.records ≡ lane.records)
    (old new : PendingActions) (are : IsPendingAs old (pending_in v)) (result : Result (Unit {0}) Refusal) (same : OnErr result (new ≡ old)) where
  told_pending : (op : Operation) → LeavesAll v op (option_map Refused (refusal_in result)) → IsPendingAnswer (pending_in v) op (option_map Refused (refusal_in result))
      → at next.memory (after v (Tell op (option_map Refused (refusal_in result)))) → (more : Pending) → pending_behind op None (pending_in v) ≡ more → ((r : Refusal) → pending_behind op (Some (Refused r)) (pending_in v) ≡ pending_in v)
      → OnOk result (IsPendingAs new more) → HasToldPending o at next blocks new v op (refusal_in result)
  told_pending op all answer seen more grows stays listed =
      let reply : Option Value = option_map Refused (refusal_in result) in
      record {
        works =
            told_with_lists o at lane next blocks v is fields.locks op reply all.same all.leaves all.no_root
            (change_at_work v v (as_before v is.work.working) op reply o at lane next is.work fields records seen answer all.unpublished);
        listed = subst (IsPendingAs new) (sym (pending_told v v (as_before v is.work.working) op reply)) (listed_now result old new op (pending_in v) more grows stays listed same are);
      }

  pub defer_told : (id : Oid) (more : Pending → Pending) → pending_behind (DeferFree id) None (pending_in v) ≡ more (pending_in v) → IsPendingAnswer (pending_in v) (DeferFree id) (option_map Refused (refusal_in result))
      → at next.memory (after v (Tell (DeferFree id) (option_map Refused (refusal_in result)))) → OnOk result ((p : Pending) → IsPendingAs old p → IsPendingAs new (more p))
      → HasToldPending o at next blocks new v (DeferFree id) (refusal_in result)
  defer_told id more grows answer seen listed =
      told_pending (DeferFree id) (defer_leaves v id (refusal_in result)) answer seen (more (pending_in v)) grows (λ r. refl) (on_ok_at result old new more listed (pending_in v) are)

  pub set_told : (id : Oid) (off value : ℕ) (more : Pending → Pending) → pending_behind (SetValue id off value) None (pending_in v) ≡ more (pending_in v)
      → IsPendingAnswer (pending_in v) (SetValue id off value) (option_map Refused (refusal_in result)) → at next.memory (after v (Tell (SetValue id off value) (option_map Refused (refusal_in result))))
      → OnOk result ((p : Pending) → IsPendingAs old p → IsPendingAs new (more p)) → HasToldPending o at next blocks new v (SetValue id off value) (refusal_in result)
  set_told id off value more grows answer seen listed =
      told_pending (SetValue id off value) (set_leaves v id off value (refusal_in result)) answer seen (more (pending_in v)) grows (λ r. refl) (on_ok_at result old new more listed (pending_in v) are)
