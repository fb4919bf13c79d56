-- A line that frees an object, from a lane at work.
use Rattle.std.proofs.Common.{◌≡◌, ◌≢◌, ◌⊎◌, inl, inr, ℕ, zero, suc, ◌≤◌, List, [], ◌∷◌, ◌++◌, None, slice_index, refl, sym, ap, ◌∙◌, subst, arith}
use Rattle.solo_crash.proofs.PendingOn.{pending_once_more}
use Rattle.solo_crash.specs.Operations.{entries_so_far}
use Rattle.solo_crash.specs.Pending.{pending_in}
use Rattle.solo_lock.proofs.Leads.{led_then, ready_led}
use Rattle.solo_made.specs.Made.{BlockLists}
use Rattle.solo_memory.specs.Solo.{Sees, Solo}
use Rattle.pm_objects.specs.declared.calls.Operation.TheVariants as operation
use Rattle.pm_objects.specs.declared.ids.Oid.{Oid}
use Rattle.pm_objects.specs.declared.refusal.Refusal.{Refusal}
use Rattle.pm_objects.specs.declared.refusal.Refusal.TheVariants as refusal
use Rattle.solo_pending.specs.declared.pending.PendingActions.{PendingActions}
use Rattle.solo_script.specs.declared.script.ScriptId.{ScriptId}
use Rattle.solo_script.specs.declared.script.ScriptLine.{ScriptLine}
use Rattle.solo_script.specs.declared.script.ScriptOp.{ScriptOp}
use Rattle.solo_script.specs.declared.script.ScriptOp.TheVariants as op
use Rattle.solo_transaction.specs.Freeing.{HasFreed, IsFreeStopped}
use Rattle.solo_tx.proofs.StepKinds.{only_one}
use Rattle.solo_tx.proofs.StoreCounts.{none_in_one}
use Rattle.solo_tx.proofs.Unraised.{IsWork}
use Rattle.solo_tx.specs.Calls.{HasLooked}
use Rattle.solo_view.specs.Steps.{Step}
use Rattle.solo_view.specs.Steps.Step.{Tell}
use Rattle.solo_view.specs.View.{Told, View}
use Rattle.solo_view.specs.Views.{after, after_all}
use Rattle.solo_world.specs.Opening.{Opening}
use Rattle.solo_world.specs.Sequences.{Sequence, one}
use Rattle.solo_world.specs.declared.lane.Lane.{Lane}
use Rattle.solo_exec.proofs.AddAndWrite.{cut_giving_up, tells_leave, tells_uncounted}
use Rattle.solo_exec.proofs.ChangeLines.{at_next_with, free_u, lane_u, pending_u, words_u}
use Rattle.solo_exec.proofs.LineLists.{gave_nothing, words_more}
use Rattle.solo_exec.proofs.PendingLists.{still_pending}
use Rattle.solo_exec.proofs.UndrawnSteps.{IsUndrawn, Keeps, all_undrawn_keep}
use Rattle.solo_exec.specs.Bounds.{log_stores, logs_of, most_stores, recorded_count}
use Rattle.solo_exec.specs.Calls.{id_of, operation_of}
use Rattle.solo_exec.specs.Course.{IsFree, IsLineMade}
use Rattle.solo_exec.specs.Replies.{IsToldDone, Values, done}
use Rattle.solo_exec.specs.Progress.{IsAtLine, IsCut}
use Rattle.solo_exec.specs.Torn.{words_after, words_by}
use Rattle.solo_exec.specs.declared.calls.Names.{Names}

-- a transaction performs one log at most
pub one_log : (n : ℕ) → logs_of n ≤ log_stores
one_log zero = omega arith
one_log (suc n) = omega arith

-- no line that frees is refused as spent
pub free_not_spent : (r : Refusal) → (r ≡ refusal.NotLocked) ⊎ (r ≡ refusal.NoObject) ⊎ (r ≡ refusal.RootKept) ⊎ (r ≡ refusal.ActionsFull) ⊎ (r ≡ refusal.Stopped) → r ≢ refusal.Spent
free_not_spent r (inl is) = λ spent. let clash : refusal.NotLocked ≡ refusal.Spent = sym is ∙ spent in cc
free_not_spent r (inr (inl is)) = λ spent. let clash : refusal.NoObject ≡ refusal.Spent = sym is ∙ spent in cc
free_not_spent r (inr (inr (inl is))) = λ spent. let clash : refusal.RootKept ≡ refusal.Spent = sym is ∙ spent in cc
free_not_spent r (inr (inr (inr (inl is)))) = λ spent. let clash : refusal.ActionsFull ≡ refusal.Spent = sym is ∙ spent in cc
free_not_spent r (inr (inr (inr (inr is)))) = λ spent. let clash : refusal.Stopped ≡ refusal.Spent = sym is ∙ spent in cc

module _ (o : Opening) (first : View) (lane : Lane Solo) (blocks : BlockLists) (actions : PendingActions) (names : Names) (front : List ScriptLine) (values : Values) (a : IsAtLine o first lane blocks actions names front values) (new : Lane Solo) (said : ScriptLine)
    (id : ScriptId) (place : Oid) (place_is : place ≡ id_of names id) (is : said.operation ≡ op.Free id) where
  pub free_is : operation.Free place ≡ operation_of names said.operation
  free_is = ap (λ (i : Oid). operation.Free i) place_is ∙ ap (operation_of names) (sym is)

  abbrev told_free : Told
  told_free = done (operation.Free place)

  free_told : IsToldDone names said.operation told_free
  free_told = subst (λ (x : ScriptOp). IsToldDone names x told_free) (sym is) (ap (λ (i : Oid). done (operation.Free i)) place_is)

  -- it changes no word
  frees_none : (u : ℕ → ℕ) (i : ℕ) → words_after names (front ++ said ∷ []) u i ≡ words_after names front u i
  frees_none u i = words_more names front said u i ∙ ap (λ (x : ScriptOp). words_by names x (words_after names front u) i) is

  -- freed, with these lists from now on
  pub free_done : (now : BlockLists) → HasLooked a.view (λ u. HasFreed o Sees new now u place) → new.level ≡ 1 → new.locks ≡ lane.locks → IsAtLine o first new now actions names (front ++ said ∷ []) values
  unfolding one after_all
  free_done now t level locks =
      let n = t.loads in
      let u : View = t.view in
      let h = t.holds in
      let tell : Step = Tell (operation.Free place) None in
      let steps : Sequence = one tell in
      let w : View = after u tell in
      let lane_is = lane_u o first lane blocks actions names front values a n u t.looks in
      let before = free_u o first lane blocks actions names front values a n u t.looks in
      let kept : Keeps u w = all_undrawn_keep u (steps u) (only_one IsUndrawn tell tt u lane_is) in
      let free : IsFree a.view w =
      record { led = led_then a.view u w before.led (ready_led u (steps u) h.ready h.draws (tells_uncounted (operation.Free place) None u) (tells_leave (operation.Free place) None u) kept.heap); undrawn = kept.entries ∙ before.undrawn } in
      let stored = none_in_one tell refl u in
      let same : recorded_count w ≡ recorded_count u = refl in
      let log = one_log (entries_so_far w) in
      let good : most_stores names said.operation ≡ log_stores = ap (most_stores names) is in
      at_next_with o first lane blocks actions names front values a n u t.looks new steps (only_one IsWork tell tt u lane_is) (only_one IsUndrawn tell tt u lane_is) said now actions h.ready h.draws h.works level locks told_free free_told refl
      (λ i under. words_u o first lane blocks actions names front values a n u t.looks i under ∙ sym (frees_none (slice_index o.words) i))
      values (gave_nothing names front said a.view.call told_free values a.told refl a.gave)
      (subst (λ (x : ScriptOp). IsLineMade names x a.view w) (sym is) free)
      (still_pending (pending_in w) (pending_once_more u w (operation.Free place) None refl refl) (pending_u o first lane blocks actions names front values a n u t.looks))
      (omega (arith, stored, same, log, good))

  pub free_cut : (rest : List ScriptLine) → HasLooked a.view (IsFreeStopped Sees new lane.records.items place) → IsCut o first new names (front ++ said ∷ rest) values
  free_cut rest t = cut_giving_up o first lane blocks actions names front values a new said (operation.Free place) free_is t.holds.refusal t.loads t.view t.looks t.working tt t.holds.stopped rest
