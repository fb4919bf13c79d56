-- Which operations end a transaction, by its lists: a refusal of one at work leaves a trace, and an abort of it is not refused.
use Rattle.std.proofs.Common.{◌≡◌, ℕ, ◌≤◌, ◌==◌, ◌&&◌, nat_le, Bool, true, false, not, List, [], ◌∷◌, ◌++◌, refl, sym, ap, ◌∙◌, arith, None, Some}
use Rattle.std.proofs.lemmas.Bool.{and_left, and_right, both_ways, cond-true, cond-false, ne_eqb}
use Rattle.pm_model.specs.Inside.{is_untraced}
use Rattle.pm_model.specs.Pending.{Pending}
use Rattle.pm_model.specs.Refusals.{Seen, Test, first_of, refusal_of, tests}
use Rattle.pm_model.specs.Transaction.{Transaction, is_working}
use Rattle.pm_objects.specs.declared.calls.Operation.{Operation}
use Rattle.pm_objects.specs.declared.calls.Operation.TheVariants.{Begin, Lock, AddRange, Write, Read, Increment, Alloc, Free, Reserve, WriteReserved, DeferFree, SetValue, Publish, Commit, Abort}
use Rattle.pm_objects.specs.declared.history.Value.TheVariants.{Refused}
use Rattle.pm_objects.specs.declared.refusal.Refusal.{Refusal}
use Rattle.pm_view.specs.View.{Told}
use Rattle.pm_view.specs.Views.{actions_told}
use Rattle.pm_crash.specs.Calls.{pending_with}
use Rattle.pm_crash.specs.SimFacts.{is_begun}

-- ---- the first refusal of tests that leave a trace where they apply
abbrev pub IsTraced : Test → Type 0
IsTraced t = t.1 ≡ true → is_untraced t.0 ≡ false

abbrev pub AreTraced : List Test → Type 0
AreTraced [] = Unit {0}
AreTraced (t ∷ rest) = IsTraced t × AreTraced rest

pub first_traced : (list : List Test) (r : Refusal) → AreTraced list → first_of list ≡ Some r → is_untraced r ≡ false
unfolding first_of
first_traced [] r all e = absurd cc
first_traced (t ∷ rest) r all e = at t.1 refl (first_traced rest r all.1) where
  at : (b : Bool) → t.1 ≡ b → (first_of rest ≡ Some r → is_untraced r ≡ false) → is_untraced r ≡ false
  at true is later = ap is_untraced (let q : Some r ≡ Some t.0 = sym e ∙ cond-true t.1 (Some t.0) (first_of rest) is in ap (λ o. Rattle.std.specs.Prelude.unwrap_or o r) q) ∙ all.0 is
  at false is later = later (sym (cond-false t.1 (Some t.0) (first_of rest) is) ∙ e)

module _ (tx : Transaction) (works : is_working tx.stage ≡ true) (some : 1 ≤ tx.level) where
  at_work : (nat_le 1 tx.level && not (is_working tx.stage)) ≡ false
  at_work = and_right (nat_le 1 tx.level) (not (is_working tx.stage)) (ap not works)

  open_ : (tx.level == 0) ≡ false
  open_ = ne_eqb tx.level 0 (λ e. omega (arith, e, some))

  never : (b : Bool) (u : Bool) → b ≡ false → b ≡ true → u ≡ false
  never b u fails holds = absurd (both_ways b fails holds)

  all_traced : (seen : Seen) (op : Operation) → AreTraced (tests seen tx op)
  all_traced seen (Begin wants) = (never _ _ at_work, (never _ _ (and_left (tx.level == 0) seen.spent open_), (λ e. refl, (λ e. refl, (λ e. refl, (λ e. refl, (λ e. refl, (λ e. refl, tt))))))))
  all_traced seen (Lock want) = (never _ _ at_work, (never _ _ open_, (λ e. refl, (λ e. refl, (λ e. refl, (λ e. refl, (λ e. refl, tt)))))))
  all_traced seen (AddRange id at len) = (never _ _ at_work, (never _ _ open_, (λ e. refl, (λ e. refl, (λ e. refl, (λ e. refl, tt))))))
  all_traced seen (Write id at bytes) = (never _ _ at_work, (never _ _ open_, (λ e. refl, (λ e. refl, (λ e. refl, (λ e. refl, tt))))))
  all_traced seen (Read id at len) = (never _ _ at_work, (never _ _ open_, (λ e. refl, (λ e. refl, (λ e. refl, tt)))))
  all_traced seen (Increment id at by) = (never _ _ at_work, (never _ _ open_, (λ e. refl, (λ e. refl, (λ e. refl, (never _ _ at_work, (never _ _ open_, (λ e. refl, (λ e. refl, (λ e. refl, (λ e. refl, tt)))))))))))
  all_traced seen (Alloc size kind) = (never _ _ at_work, (never _ _ open_, (λ e. refl, (λ e. refl, (λ e. refl, tt)))))
  all_traced seen (Free id) = (never _ _ at_work, (never _ _ open_, (λ e. refl, (λ e. refl, (λ e. refl, (λ e. refl, (λ e. refl, tt)))))))
  all_traced seen Publish = (never _ _ at_work, (never _ _ open_, (λ e. refl, (λ e. refl, (λ e. refl, (λ e. refl, (λ e. refl, (λ e. refl, tt))))))))
  all_traced seen Commit = (never _ _ at_work, (never _ _ open_, tt))
  all_traced seen (Abort errnum) = (never _ _ at_work, (never _ _ open_, tt))
  all_traced seen (Reserve size kind) = (λ e. refl, (λ e. refl, (λ e. refl, tt)))
  all_traced seen (WriteReserved id at bytes) = (λ e. refl, (λ e. refl, tt))
  all_traced seen (DeferFree id) = (λ e. refl, tt)
  all_traced seen (SetValue id at value) = (λ e. refl, (λ e. refl, tt))
  all_traced seen op = tt

  -- A REFUSAL at work leaves a trace
  pub refusal_traced : (seen : Seen) (op : Operation) (r : Refusal) → refusal_of seen tx op ≡ Some r → is_untraced r ≡ false
  refusal_traced seen op r e = first_traced (tests seen tx op) r (all_traced seen op) e

  -- AN ABORT at work is not refused
  pub abort_unrefused : (seen : Seen) (errnum : ℕ) → refusal_of seen tx (Abort errnum) ≡ None
  unfolding first_of
  abort_unrefused seen errnum =
      cond-false (nat_le 1 tx.level && not (is_working tx.stage)) (Some Rattle.pm_objects.specs.declared.refusal.Refusal.TheVariants.NotWork) (first_of ((Rattle.pm_objects.specs.declared.refusal.Refusal.TheVariants.NoTx, tx.level == 0) ∷ [])) at_work
      ∙ cond-false (tx.level == 0) (Some Rattle.pm_objects.specs.declared.refusal.Refusal.TheVariants.NoTx) None open_

  -- A COMMIT at work is not refused
  pub commit_unrefused : (seen : Seen) → refusal_of seen tx Commit ≡ None
  unfolding first_of
  commit_unrefused seen =
      cond-false (nat_le 1 tx.level && not (is_working tx.stage)) (Some Rattle.pm_objects.specs.declared.refusal.Refusal.TheVariants.NotWork) (first_of ((Rattle.pm_objects.specs.declared.refusal.Refusal.TheVariants.NoTx, tx.level == 0) ∷ [])) at_work
      ∙ cond-false (tx.level == 0) (Some Rattle.pm_objects.specs.declared.refusal.Refusal.TheVariants.NoTx) None open_

-- ---- what it leaves of the lane's lists of actions: nothing is another
pub refused_actions : (op : Operation) (r : Refusal) (actions : List Told) → actions_told op (Some (Refused r)) actions ≡ actions
refused_actions op r actions = go op where
  go : (o : Operation) → actions_told o (Some (Refused r)) actions ≡ actions
  go (Reserve size kind) = refl
  go (DeferFree id) = refl
  go (SetValue id off value) = refl
  go Publish = refl
  go Rattle.pm_objects.specs.declared.calls.Operation.TheVariants.Cancel = refl
  go o = refl

-- and of what is pending
pub refused_pending : (op : Operation) (r : Refusal) (p : Pending) → pending_with op (Some (Refused r)) p ≡ p
refused_pending op r p = go op where
  go : (o : Operation) → pending_with o (Some (Refused r)) p ≡ p
  go (Reserve size kind) = refl
  go (WriteReserved id at bytes) = refl
  go (DeferFree id) = refl
  go (SetValue id off value) = refl
  go Publish = refl
  go Rattle.pm_objects.specs.declared.calls.Operation.TheVariants.Cancel = refl
  go o = refl

-- ---- what was told begins as it began
pub begun_still : (call more : List Told) → is_begun call ≡ true → is_begun (call ++ more) ≡ true
begun_still [] more e = absurd (both_ways false refl e)
begun_still (t ∷ call) more e = e
