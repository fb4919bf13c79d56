-- An allocation that is refused is refused by the model for the same reason.
use Rattle.std.proofs.Common.{◌≡◌, ⊎_elim, ℕ, ◌+◌, ◌<◌, ◌≤◌, ◌||◌, Bool, true, false, eqb, ltb, [], ◌∷◌, length, Option, Some, MatchOption, refl, sym, ◌∙◌, subst, arith}
use Rattle.std.specs.List.{find}
use Rattle.std.specs.Option.{option_map}
use Rattle.std.proofs.lemmas.Bool.{eq-eqb, le-ltb, lt-ltb, ne_eqb, or_from, or_left, or_right}
use Rattle.pm_header.specs.declared.header.Header.{Header}
use Rattle.pm_objects.specs.declared.calls.Operation.TheVariants.{Alloc}
use Rattle.pm_objects.specs.declared.history.TxErr.TheVariants as error
use Rattle.pm_objects.specs.declared.history.Value.TheVariants.{Refused}
use Rattle.pm_objects.specs.declared.pool.PoolView.{PoolView}
use Rattle.pm_objects.specs.declared.refusal.Refusal.{Refusal}
use Rattle.pm_objects.specs.declared.refusal.Refusal.TheVariants as refusal
use Rattle.solo_model.specs.declared.stage.Stage.TheVariants as stage
use Rattle.solo_model.specs.Actions.{max_entries}
use Rattle.solo_model.specs.Answers.{Answers, IsDone, IsRefused, changes_nothing}
use Rattle.solo_model.specs.Checks.{Seen, first_refusal}
use Rattle.solo_model.specs.Transaction.{Transaction, entries_of, locked_all}
use Rattle.solo_model.proofs.Alike.{after_refused}
use Rattle.solo_view.specs.View.{View}
use Rattle.solo_crash.specs.OpenCall.{ComesTo, IsUnderWay, WasAborted}
use Rattle.solo_crash.specs.Operations.{IsAllocReason, RefusesAlloc, entries_so_far}
use Rattle.solo_crash.proofs.CallWords.{as_many_entries, call_works}
use Rattle.solo_crash.proofs.GivenUp.{aborts_call}
use Rattle.solo_crash.proofs.KeptWords.{same_found}
use Rattle.solo_crash.proofs.Passing.{no_tx, no_work, not_busy, not_spent, Works}

-- what the lane saw of free blocks
abbrev pub saw_full : Bool → Seen
saw_full full = record { spent = false; busy = false; missing = false; full = full }

-- the first refusal of an allocation, by what the checks of its size, of room and of free blocks say
unfoldable pub first_of_three : Bool → Bool → Bool → Option Refusal
first_of_three sized roomless full = option_map (λ (check : Refusal × Bool). check.0) (find (λ (check : Refusal × Bool). check.1)
    ((refusal.BadSize, sized) ∷ (refusal.ActionsFull, roomless) ∷ (refusal.NoSpace, full) ∷ []))

alloc_checks : (full : Bool) (tx : Transaction) (size kind : ℕ) → Works tx
    → first_refusal (saw_full full) tx (Alloc size kind) ≡ first_of_three (eqb size 0 || ltb 262080 size) (ltb max_entries (entries_of tx + 2)) full
unfolding first_refusal first_of_three locked_all
alloc_checks full tx size kind works =
    (λ j. option_map (λ (check : Refusal × Bool). check.0) (find (λ (check : Refusal × Bool). check.1)
    ((refusal.NotWork, no_work tx works j)
    ∷ (refusal.NoTx, no_tx tx (Alloc size kind) works j)
    ∷ (refusal.Spent, not_spent tx j)
    ∷ (refusal.Deep, false)
    ∷ (refusal.LocksFull, (le-ltb 64 (length tx.locks) works.few) j)
    ∷ (refusal.Unaligned, false)
    ∷ (refusal.BadSize, eqb size 0 || ltb 262080 size)
    ∷ (refusal.NotLocked, false)
    ∷ (refusal.NoObject, false)
    ∷ (refusal.Busy, not_busy tx (Alloc size kind) j)
    ∷ (refusal.NoObject, false)
    ∷ (refusal.NoObject, false)
    ∷ (refusal.RootKept, false)
    ∷ (refusal.Listed, false)
    ∷ (refusal.OutOfRange, false)
    ∷ (refusal.NotAdded, false)
    ∷ (refusal.LogFull, false)
    ∷ (refusal.ActionsFull, ltb max_entries (entries_of tx + 2))
    ∷ (refusal.NoSpace, full)
    ∷ [])))

-- the allocation is refused so, which leaves a trace
record IsAllocRefused (tx : Transaction) (size kind : ℕ) (r : Refusal) : Type 0 where
  full : Bool
  refused_first : first_refusal (saw_full full) tx (Alloc size kind) ≡ Some r
  traced : changes_nothing r ≡ false

pub sized_well : (size : ℕ) → 1 ≤ size → size ≤ 262080 → (eqb size 0 || ltb 262080 size) ≡ false
sized_well size some most = or_from (eqb size 0) (ltb 262080 size) (ne_eqb size 0 (λ none. omega (arith, some, none))) (le-ltb 262080 size most)

module _ (v : View) (w : ℕ → ℕ) (header : Header) (pool : PoolView) (level size kind : ℕ) (some_level : 1 ≤ level) (under_way : IsUnderWay v level stage.Work error.None) (c : ComesTo v w header pool level stage.Work error.None) where
  works : Works c.tx
  works = call_works v w header pool level some_level under_way c

  entries_same : entries_of c.tx ≡ entries_so_far v
  entries_same = as_many_entries v w header pool level c

  by_reason : (r : Refusal) → IsAllocReason v size r → IsAllocRefused c.tx size kind r
  unfolding first_of_three
  by_reason refusal.BadSize reason =
      let bad : (eqb size 0 || ltb 262080 size) ≡ true = ⊎_elim
      (λ (none : size ≡ 0). or_left (eqb size 0) (ltb 262080 size) (eq-eqb size 0 none)) (λ (over : 262080 < size). or_right (eqb size 0) (ltb 262080 size) (lt-ltb 262080 size over)) reason in
      record { full = false; refused_first = alloc_checks false c.tx size kind works ∙ (λ j. first_of_three (bad j) (ltb max_entries (entries_of c.tx + 2)) false); traced = refl }
  by_reason refusal.ActionsFull reason =
      let over = reason.2 in let same = entries_same in
      record {
        full = false;
        refused_first = alloc_checks false c.tx size kind works ∙ (λ j. first_of_three (sized_well size reason.0 reason.1 j) (lt-ltb max_entries (entries_of c.tx + 2) (omega (arith, over, same)) j) false);
        traced = refl;
      }
  by_reason refusal.NoSpace reason =
      let under = reason.2 in let same = entries_same in
      record {
        full = true;
        refused_first = alloc_checks true c.tx size kind works ∙ (λ j. first_of_three (sized_well size reason.0 reason.1 j) (le-ltb max_entries (entries_of c.tx + 2) (omega (arith, under, same)) j) true);
        traced = refl;
      }
  by_reason r reason = absurd reason

alloc_refused_answers : (tx : Transaction) (size kind : ℕ) (r : Refusal) → IsAllocRefused tx size kind r → Answers tx (Alloc size kind) (Some (Refused r))
alloc_refused_answers tx size kind r is = record {
  known = refl;
  seen = saw_full is.full;
  answer =
      subst (λ (fr : Option Refusal). MatchOption fr (IsDone tx (Alloc size kind) (Some (Refused r))) (λ (x : Refusal). IsRefused x (Some (Refused r)))) (sym is.refused_first)
      (record { traced = is.traced; told = refl });
}

-- so the call is aborted
pub refused_alloc_aborts : (v next : View) (size kind : ℕ) (r : Refusal) (level : ℕ) → 1 ≤ level → IsUnderWay v level stage.Work error.None → RefusesAlloc v next size kind r → WasAborted next (error.Refused r)
refused_alloc_aborts v next size kind r level some under_way refuses =
    aborts_call v next (Alloc size kind) (Some (Refused r)) level (error.Refused r) under_way refuses.tells.keeps (same_found v next refuses.tells.locks) (λ actions. refl) refuses.tells.call refuses.takes_back
    (λ w header pool same_id before c.
    let is : IsAllocRefused c.tx size kind r = by_reason v w header pool level size kind some under_way c r refuses.reason in
    (alloc_refused_answers c.tx size kind r is, after_refused (Alloc size kind) (Some (Refused r)) c.tx r (record { traced = is.traced; told = refl })))
