-- AN ACTION IN A CALL OF ITS OWN, by how its parts leave the lane.
use Rattle.std.proofs.Common.{◌≡◌, ℕ, zero, suc, eq-eqb, ◌+◌, ◌%◌, ◌^◌, ◌<◌, ◌==◌, nat_le, Bool, true, false, cond, not, List, [], ◌∷◌, ◌++◌, length, refl, sym, ap, ◌∙◌, subst, arith, Option, None, Some, Result, Ok, Err}
use Rattle.std.specs.Prelude.{MatchOption}
use Rattle.std.proofs.lemmas.Bool.{le-leb, lt-leb, ne_eqb}
use Rattle.pm_model.specs.Inside.{IsRefused}
use Rattle.pm_model.specs.Pending.{max_actions, pending_count}
use Rattle.pm_model.specs.Refusals.{first_of}
use Rattle.pm_objects.specs.declared.calls.Operation.{Operation}
use Rattle.pm_objects.specs.declared.calls.Operation.TheVariants.{Cancel, SetValue}
use Rattle.pm_objects.specs.declared.history.Value.{Value}
use Rattle.pm_objects.specs.declared.history.Value.TheVariants.{Refused}
use Rattle.pm_objects.specs.declared.ids.Oid.{Oid}
use Rattle.pm_objects.specs.declared.refusal.Refusal.{Refusal}
use Rattle.pm_objects.specs.declared.refusal.Refusal.TheVariants as refusal
use Rattle.pm_view.specs.View.{View}
use Rattle.pm_view.specs.Views.{actions_told, after_all}
use Rattle.pm_world.specs.LaneFields.{Fields, Rests, Standing, at_rest, fields_of, listed}
use Rattle.pm_world.specs.declared.lane.Lane.{Lane}
use Rattle.pm_world.specs.declared.lane.PendingAction.{PendingAction}
use Rattle.pm_world.specs.declared.lane.PendingAction.TheVariants.{Set}
use Rattle.pm_crash.specs.Calls.{pending_of}
use Rattle.pm_crash.specs.SimOutside.{refusal_alone}
use Rattle.pm_plan.specs.Plans.{IsMade, Runs, in_turn, one}
use Rattle.pm_call.specs.Did.{next, unseen}
use Rattle.pm_call.specs.GivenUp.{MayEnd}
use Rattle.pm_call.specs.Locking.{IsOpened}
use Rattle.pm_call.specs.Between.{IsLaneBetween, saw_number}
use Rattle.pm_call.specs.Opening.{AfterOpening, CallOpened, WasOpened}
use Rattle.pm_call.specs.Outside.{IsWordAction, RepliesAlone}
use Rattle.pm_call.specs.Plans.{ends_call}
use Rattle.pm_call.proofs.AskedWords.{listed_more}
use Rattle.pm_call.proofs.LoneActions.{actions_may_be_told, many}
use Rattle.pm_action.specs.Actions.{JudgedSet}
use Rattle.pm_action.specs.Calls.{ByLevel, IfOutside}
use Rattle.pm_action.specs.Outside.{ActionEnded, AskedAloneAs, AskedOutside, AskedOutsideAs, Finished, FinishedSo, IsLaneOpened}

-- ---- WHY A WORD IS REFUSED, by the lane's list
module _ (s : Standing) (is : IsOpened s) (id : Oid) (off value : ℕ) where
  abbrev count : ℕ
  count = pending_count (pending_of s.view.entries)

  is_refusal : (aligned full : Bool) → (off % 8 == 0) ≡ aligned → nat_le max_actions count ≡ full
      → refusal_alone unseen s.view (SetValue id off value) ≡ cond (not aligned) (Some refusal.Unaligned) (cond full (Some refusal.ActionsFull) None)
  unfolding first_of
  is_refusal aligned full e f = (λ i. cond (not (e i)) (Some refusal.Unaligned) (cond (f i) (Some refusal.ActionsFull) None))

  pub unrefused_alone : JudgedSet off (length (listed s.view.actions)) (Ok tt) → refusal_alone unseen s.view (SetValue id off value) ≡ None
  unrefused_alone j = is_refusal true false (eq-eqb (off % 8) 0 j.0) (lt-leb max_actions count (let low = j.1 in let m = many s.view is.call is.pending in omega (arith, low, m)))

  pub refused_alone : (why : Refusal) → JudgedSet off (length (listed s.view.actions)) (Err why) → refusal_alone unseen s.view (SetValue id off value) ≡ Some why
  refused_alone refusal.Unaligned j = is_refusal false (nat_le max_actions count) (ne_eqb (off % 8) 0 j) refl
  refused_alone refusal.ActionsFull j = is_refusal true true (eq-eqb (off % 8) 0 j.0) (le-leb max_actions count (let most = j.1 in let m = many s.view is.call is.pending in omega (arith, most, m)))
  refused_alone why j = absurd j

  -- an action that is done replies nothing
  abbrev none : Option Value
  none = None

  pub done_replies : refusal_alone unseen s.view (SetValue id off value) ≡ None → RepliesAlone s (SetValue id off value) None
  done_replies e = subst (λ o. MatchOption o (none ≡ None) (λ r. IsRefused r none)) (sym e) refl

  pub refused_replies : (why : Refusal) → JudgedSet off (length (listed s.view.actions)) (Err why) → RepliesAlone s (SetValue id off value) (Some (Refused why))
  refused_replies why j = subst (λ o. MatchOption o (reply ≡ None) (λ r. IsRefused r reply)) (sym (refused_alone why j)) (record { traced = traced why j; replied = refl })
    where
      reply : Option Value
      reply = Some (Refused why)

      traced : (r : Refusal) → JudgedSet off (length (listed s.view.actions)) (Err r) → Rattle.pm_model.specs.Inside.is_untraced r ≡ false
      traced refusal.Unaligned k = refl
      traced refusal.ActionsFull k = refl
      traced r k = absurd k

-- ---- THE CALL ENDS
module _ {M : Type 0} (at : M → View → Type 0) (old : Lane M) (op : Operation) (reply : Option Value) where
  pub may_end : IsLaneOpened at old op reply → MayEnd (at old.memory) op reply
  unfolding MayEnd
  may_end o = (o.standing.view, o.rests.memory, λ n. (actions_may_be_told o.standing op reply n o.opened o.word o.replies).ready)

  -- the fields then
  rests_then : (s : Standing) (n : ℕ) → at_rest (next s (ends_call op reply n)) ≡ record (at_rest s) { pending = listed (actions_told op reply s.view.actions); last = suc n }
  unfolding in_turn one after_all
  rests_then s n = refl

  pub ended : (new : Lane M) (n : ℕ) (more : List PendingAction) → IsMade (at old.memory) (at new.memory) (ends_call op reply n) → fields_of new ≡ record (fields_of old) { pending = more; last = n + 1 }
      → ((s : Standing) → Rests at old s → more ≡ listed (actions_told op reply s.view.actions)) → ActionEnded at old new op reply
  unfolding ActionEnded Runs
  ended new n more made fields lists s rests is word replies =
      let e = actions_may_be_told s op reply n is word replies in
      record {
        number = n;
        ready = e.ready;
        rests = record {
          memory = made s.view rests.memory e.ready;
          fields = fields ∙ ((λ i. record (rests.fields i) { pending = lists s rests i; last = (let z : n + 1 ≡ suc n = omega arith in z) i }) ∙ sym (rests_then s n));
        };
        between = e.between;
      }

  listed_now : (s : Standing) → Rests at old s → old.pending.items ≡ listed s.view.actions
  listed_now s rests = ap (λ (f : Fields). f.pending) rests.fields

-- what each leaves on the list
pub set_lists : {M : Type 0} (at : M → View → Type 0) (old : Lane M) (id : Oid) (off value : ℕ) (s : Standing) → Rests at old s
    → old.pending.items ++ Set id off value ∷ [] ≡ listed (actions_told (SetValue id off value) None s.view.actions)
set_lists at old id off value s rests = ap (λ xs. xs ++ Set id off value ∷ []) (listed_now at old (SetValue id off value) None s rests) ∙ sym (listed_more s.view.actions (record { operation = SetValue id off value; reply = None }))

pub refused_lists : {M : Type 0} (at : M → View → Type 0) (old : Lane M) (id : Oid) (off value : ℕ) (why : Refusal) (s : Standing) → Rests at old s
    → old.pending.items ≡ listed (actions_told (SetValue id off value) (Some (Refused why)) s.view.actions)
refused_lists at old id off value why s rests = listed_now at old (SetValue id off value) (Some (Refused why)) s rests

pub cancel_lists : (s : Standing) → [] ≡ listed (actions_told Cancel None s.view.actions)
cancel_lists s = refl

-- ---- THE ACTION, by what opening its call came to
module _ {M : Type 0} (at : M → View → Type 0) (old : Lane M) (op : Operation) where
  -- none was opened
  pub unopened : (new : Lane M) (why : Refusal) (result : Result (Unit {0}) Refusal) → result ≡ Err why → CallOpened at old new (Err why) → AskedOutside at old new op result
  unfolding AskedOutside CallOpened
  unopened new why result e opened = subst (AskedOutside at old new op) (sym e) (by why opened) where
    by : (r : Refusal) → CallOpened at old new (Err r) → AskedOutside at old new op (Err r)
    by refusal.Spent opens s rests between = opens s rests between
    by r opens s rests between = absurd (opens s rests between)

  -- it was, and so the lane stands
  pub opened_so : (mid : Lane M) (reply : Option Value) → IsLaneBetween at old → CallOpened at old mid (Ok tt) → IsWordAction op → ((s : Standing) → Rests at mid s → IsOpened s → RepliesAlone s op reply) → IsLaneOpened at mid op reply
  unfolding CallOpened
  opened_so mid reply lane opened word replies =
      let w : WasOpened at mid lane.standing = opened lane.standing lane.rests lane.between in
      record { standing = saw_number lane.standing w.number; rests = w.rests; opened = w.opened; word = word; replies = replies (saw_number lane.standing w.number) w.rests w.opened }

  pub asked_done : (mid new : Lane M) → CallOpened at old mid (Ok tt) → IsWordAction op → ((s : Standing) → Rests at mid s → IsOpened s → refusal_alone unseen s.view op ≡ None) → ((s : Standing) → Rests at mid s → IsOpened s → RepliesAlone s op None)
      → ActionEnded at mid new op None → AskedOutside at old new op (Ok tt)
  unfolding AskedOutside CallOpened ActionEnded
  asked_done mid new opened word none replies end s rests between =
      let w : WasOpened at mid s = opened s rests between in
      let t : Standing = saw_number s w.number in
      record { number = w.number; opened = w.opened; holds = (none t w.rests w.opened, end t w.rests w.opened word (replies t w.rests w.opened)) }

module _ {M : Type 0} (at : M → View → Type 0) (old mid new : Lane M) (id : Oid) (off value : ℕ) where
  judged : (result : Result (Unit {0}) Refusal) (s : Standing) → Rests at mid s → JudgedSet off (length mid.pending.items) result → JudgedSet off (length (listed s.view.actions)) result
  judged result s rests j = subst (λ (f : Fields). JudgedSet off (length f.pending) result) rests.fields j

  pub set_opened : IsLaneBetween at old → CallOpened at old mid (Ok tt) → value < 2 ^ 64 → JudgedSet off (length mid.pending.items) (Ok tt) → IsLaneOpened at mid (SetValue id off value) None
  set_opened lane opened small j = opened_so at old (SetValue id off value) mid None lane opened small (λ s rests is. done_replies s is id off value (unrefused_alone s is id off value (judged (Ok tt) s rests j)))

  pub refuse_opened : (why : Refusal) → IsLaneBetween at old → CallOpened at old mid (Ok tt) → value < 2 ^ 64 → JudgedSet off (length mid.pending.items) (Err why) → IsLaneOpened at mid (SetValue id off value) (Some (Refused why))
  refuse_opened why lane opened small j = opened_so at old (SetValue id off value) mid (Some (Refused why)) lane opened small (λ s rests is. refused_replies s is id off value why (judged (Err why) s rests j))

  pub asked_set : CallOpened at old mid (Ok tt) → value < 2 ^ 64 → JudgedSet off (length mid.pending.items) (Ok tt) → ActionEnded at mid new (SetValue id off value) None → AskedOutside at old new (SetValue id off value) (Ok tt)
  asked_set opened small j end = asked_done at old (SetValue id off value) mid new opened small (λ s rests is. unrefused_alone s is id off value (judged (Ok tt) s rests j))
      (λ s rests is. done_replies s is id off value (unrefused_alone s is id off value (judged (Ok tt) s rests j))) end

  asked_as : (why : Refusal) (s : Standing) → JudgedSet off (length mid.pending.items) (Err why) → AfterOpening s (AskedAloneAs at new (SetValue id off value) (Err why)) → AskedOutsideAs at new (SetValue id off value) (Err why) s
  asked_as refusal.Unaligned s j a = a
  asked_as refusal.ActionsFull s j a = a
  asked_as why s j a = absurd j

  pub asked_refused : (why : Refusal) → CallOpened at old mid (Ok tt) → value < 2 ^ 64 → JudgedSet off (length mid.pending.items) (Err why) → ActionEnded at mid new (SetValue id off value) (Some (Refused why)) → AskedOutside at old new (SetValue id off value) (Err why)
  unfolding AskedOutside CallOpened ActionEnded
  asked_refused why opened small j end s rests between =
      let w : WasOpened at mid s = opened s rests between in
      let t : Standing = saw_number s w.number in
      asked_as why s j (record {
        number = w.number;
        opened = w.opened;
        holds = (refused_alone t w.opened id off value why (judged (Err why) t w.rests j), end t w.rests w.opened small (refused_replies t w.opened id off value why (judged (Err why) t w.rests j)));
      })

-- ---- CANCEL is never refused
unrefused_cancel : (s : Standing) → refusal_alone unseen s.view Cancel ≡ None
unfolding first_of
unrefused_cancel s = refl

cancel_replies : (s : Standing) → RepliesAlone s Cancel None
unfolding first_of
cancel_replies s = refl

module _ {M : Type 0} (at : M → View → Type 0) (old mid new : Lane M) where
  pub cancel_opened : IsLaneBetween at old → CallOpened at old mid (Ok tt) → IsLaneOpened at mid Cancel None
  cancel_opened lane opened = opened_so at old Cancel mid None lane opened tt (λ s rests is. cancel_replies s)

  pub asked_cancel : CallOpened at old mid (Ok tt) → ActionEnded at mid new Cancel None → AskedOutside at old new Cancel (Ok tt)
  asked_cancel opened end = asked_done at old Cancel mid new opened tt (λ s rests is. unrefused_cancel s) (λ s rests is. cancel_replies s) end

-- ---- THE END OF ITS WORK
module _ {M : Type 0} (at : M → View → Type 0) (old : Lane M) where
  pub finish_stopped : old.stopped ≡ true → Finished at old old (Err refusal.Stopped)
  unfolding Finished
  finish_stopped e = subst (λ b. FinishedSo b at old old (Err refusal.Stopped)) (sym e) (refl, refl)

  pub finish_done : (new : Lane M) → old.stopped ≡ false → new.memory ≡ old.memory → fields_of new ≡ record (fields_of old) { pending = [] } → Finished at old new (Ok tt)
  unfolding Finished
  finish_done new e memory fields = subst (λ b. FinishedSo b at old new (Ok tt)) (sym e) (
    refl,
    λ s rests. record {
      memory = subst (λ m. at m s.view) (sym memory) rests.memory;
      fields = fields ∙ ap (λ (f : Fields). record f { pending = [] }) rests.fields;
    },
  )

-- ---- WHEREVER THE LANE IS
module _ {M : Type 0} (old : Lane M) (outside inside : Type 0) where
  pub is_outside : old.stopped ≡ false → old.level ≡ 0 → outside → ByLevel old outside inside
  unfolding ByLevel
  is_outside e l done = subst (λ b. IfOutside b old.level outside inside) (sym e) (subst (λ n. IfOutside false n outside inside) (sym l) done)

  inside_by : (stopped : Bool) (level : ℕ) → (stopped ≡ false → level ≡ 0 → ⊥) → inside → IfOutside stopped level outside inside
  inside_by true level elsewhere done = done
  inside_by false zero elsewhere done = absurd (elsewhere refl refl)
  inside_by false (suc n) elsewhere done = done

  pub is_inside : (old.stopped ≡ false → old.level ≡ 0 → ⊥) → inside → ByLevel old outside inside
  unfolding ByLevel
  is_inside elsewhere done = inside_by old.stopped old.level elsewhere done
