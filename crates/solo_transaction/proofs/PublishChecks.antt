-- What the checks of a publish find of each action, in a call that may have made and freed objects, and so why it is refused.
use Rattle.std.proofs.Common.{◌≡◌, ◌⊎◌, ⊎_elim, inl, inr, ℕ, ◌+◌, ◌%◌, ◌^◌, ◌<◌, true, false, All, List, length, map, take, get_or, Result, Err, IfErr, Ok, OnOk, refl, sym, ap, ◌∙◌, subst}
use Rattle.std.specs.List.{Any}
use Rattle.std.specs.Result.{is_ok}
use Rattle.std.proofs.lemmas.Bool.{false≢true, or_cases}
use Rattle.std.proofs.lemmas.List.Elements.{All-weaker}
use Rattle.solo_crash.specs.CallBlocks.{IsOldIn, blocks_in, is_gone_in, is_new_in}
use Rattle.solo_crash.specs.OnActions.{CanSetIn, HasObjectOf, IsOnLeft, LacksObjectOf, PassesIn, PassesNewObject}
use Rattle.solo_crash.specs.OpenCall.{lock_of, locks_of}
use Rattle.solo_crash.specs.Operations.{HasNewRange, HasRange, IsNotHeld, PassesEnd}
use Rattle.solo_made.specs.Made.{BlockLists}
use Rattle.solo_model.specs.Actions.{Action, object_of}
use Rattle.solo_model.specs.Actions.Action.{SetWord}
use Rattle.solo_model.specs.Transaction.{is_locked}
use Rattle.pm_objects.specs.declared.calls.Want.{Want}
use Rattle.pm_objects.specs.declared.ids.Oid.{Oid}
use Rattle.pm_objects.specs.declared.refusal.Refusal.{Refusal}
use Rattle.pm_objects.specs.declared.refusal.Refusal.TheVariants as refusal
use Rattle.solo_pending.specs.Pending.{action_of}
use Rattle.solo_pending.specs.declared.actions.SetAction.{SetAction}
use Rattle.solo_view.specs.View.{Lock, View}
use Rattle.solo_world.specs.Opening.{Opening}
use Rattle.solo_world.specs.declared.lane.Lane.{Lane}
use Rattle.solo_tx.proofs.Checked.{looks_call, looks_entries}
use Rattle.solo_tx.proofs.EachAction.{all_further, some_at}
use Rattle.solo_tx.proofs.GoingOn.{KeepsObjects}
use Rattle.solo_tx.proofs.LearnsAtWork.{looks_none, looks_then}
use Rattle.solo_tx.proofs.LookedOn.{looked_on, objects_looked}
use Rattle.solo_tx.specs.Learning.{HasChecked}
use Rattle.solo_transaction.proofs.GoingWith.{Keeps, kept_of, looks_keep, old_still, with_lists}
use Rattle.solo_transaction.proofs.PublishKept.{can_in_kept}
use Rattle.solo_transaction.specs.AnyRanges.{Sorts}
use Rattle.solo_transaction.specs.AtWork.{HasLookedWith, IsAtWorkWith, IsLaneAtWorkWith}

-- what a check asks of an action of the list, by the view that it leaves
abbrev pub SetsIn : View → SetAction → Type 0
SetsIn v a = CanSetIn v (action_of a)

abbrev pub PassesEndIn : View → SetAction → Type 0
PassesEndIn v a = PassesIn v (action_of a)

abbrev pub HasIts : View → SetAction → Type 0
HasIts v a = HasObjectOf v (action_of a)

abbrev pub LacksIts : View → SetAction → Type 0
LacksIts v a = LacksObjectOf v (action_of a)

abbrev pub IsLeftFor : View → SetAction → Type 0
IsLeftFor v a = IsOnLeft v (action_of a)

-- some of which this holds, where that holds of all
pub some_with : {X : Type 0} (P Q R : X → Type 0) (xs : List X) → ((x : X) → Q x → P x → R x) → All Q xs → Any P xs → Any R xs
some_with P Q R xs so all t = (t.0, t.1, t.2, t.3, so t.1 (subst Q t.3 (all t.0 t.1 t.2)) t.4)

-- what an answer is by the test of it
pub ok_when : {T E : Type 0} (result : Result T E) (P : Type 0) → is_ok result ≡ true → OnOk result P → P
ok_when (Ok t) P is p = p
ok_when (Err e) P is p = absurd cc

pub err_when : {T E : Type 0} (result : Result T E) → is_ok result ≡ false → (e : E) × (result ≡ Err e)
err_when (Ok t) is = absurd cc
err_when (Err e) is = (e, refl)

-- ---- one action

module _ {M : Type 0} (o : Opening) (at : M → View → Type 0) (lane next : Lane M) (blocks : BlockLists) (v : View) (all : IsAtWorkWith o at lane blocks v) (locks : next.locks ≡ lane.locks) where
  -- a lane that checked something has its lists still
  with_checked : (P : View → Type 0) → HasChecked o at next v P → HasLookedWith o at next blocks v P
  with_checked P t = record {
    loads = t.loads;
    view = t.view;
    looks = t.looks;
    works = with_lists o at next blocks t.view t.works (subst (λ ls. Keeps ls.items blocks t.view) (sym locks) (looks_keep lane.locks.items blocks t.loads v t.view t.looks (kept_of o at lane blocks v all)));
    holds = t.holds;
  }

  -- whatever the check answers
  pub still_checked : {T : Type 0} (result : Result T Refusal) (P Q R : View → Type 0) → OnOk result (HasChecked o at next v P) → (result ≡ Err refusal.NotLocked → HasChecked o at next v Q) → (result ≡ Err refusal.OutOfRange → HasChecked o at next v R)
      → IfErr result (λ r. (r ≡ refusal.NotLocked) ⊎ (r ≡ refusal.OutOfRange)) → IsLaneAtWorkWith at next blocks
  still_checked (Ok t) P Q R ok locked ends cause = let s = with_checked P ok in (o, (s.view, s.works))
  still_checked (Err r) P Q R ok locked ends cause = ⊎_elim
      (λ (e : r ≡ refusal.NotLocked). let s = with_checked Q (locked (ap Err e)) in (o, (s.view, s.works)))
      (λ (e : r ≡ refusal.OutOfRange). let s = with_checked R (ends (ap Err e)) in (o, (s.view, s.works)))
      cause

  -- and what it looked at keeps the objects under its locks
  pub objects_looked_at : (P : View → Type 0) (t : HasLookedWith o at next blocks v P) → KeepsObjects v t.view
  objects_looked_at P t = objects_looked o at lane next v t.view all.work t.works.work locks (looked_on t.loads v t.view t.looks)

  module _ (id : Oid) (off value : ℕ) where
    pub found_set : off % 8 ≡ 0 → value < 2 ^ 64 → IsOldIn v id.off → HasChecked o at next v (λ w. HasRange w id off 8 true) → HasLookedWith o at next blocks v (λ w. CanSetIn w (SetWord id off value))
    found_set even low old t =
        with_checked (λ w. CanSetIn w (SetWord id off value))
        (record { loads = t.loads; view = t.view; looks = t.looks; works = t.works; holds = inl ((t.holds, (even, low)), old_still v t.view (looks_entries t.loads v t.view t.looks) (looks_call t.loads v t.view t.looks) id.off old) })

    -- what is not gone, and was found, is locked
    held_still : IsOldIn v id.off → IsOnLeft v (SetWord id off value) → (w : View) → KeepsObjects v w → is_locked (locks_of w) id.off true ≡ true
    held_still old left w keeps =
        ap (λ (ls : List Lock). is_locked (map lock_of ls) id.off true) keeps.locks
        ∙ ⊎_elim (λ (new : is_new_in v id.off ≡ true). absurd (false≢true (sym old.found ∙ new))) (λ (held : is_locked (locks_of v) id.off true ≡ true). held) (or_cases (is_new_in v id.off) (is_locked (locks_of v) id.off true) left.has)

    pub found_past : IsOldIn v id.off → IsOnLeft v (SetWord id off value) → (r : Refusal) → (r ≡ refusal.NotLocked) ⊎ (r ≡ refusal.OutOfRange)
        → (r ≡ refusal.NotLocked → HasChecked o at next v (λ w. IsNotHeld w id true)) → (r ≡ refusal.OutOfRange → HasChecked o at next v (λ w. PassesEnd w id off 8 true))
        → HasLookedWith o at next blocks v (λ w. PassesIn w (SetWord id off value))
    unfolding with_checked
    found_past old left r cause locked ends = ⊎_elim
        (λ (e : r ≡ refusal.NotLocked).
        let t = locked e in
        let keeps : KeepsObjects v t.view = objects_looked_at (λ w. IsNotHeld w id true) (with_checked (λ w. IsNotHeld w id true) t) in
        absurd (false≢true (sym (t.holds (left.of_pool ∙ sym keeps.lane.pool)) ∙ held_still old left t.view keeps)))
        (λ (e : r ≡ refusal.OutOfRange).
        let t = ends e in
        with_checked (λ w. PassesIn w (SetWord id off value))
        (record { loads = t.loads; view = t.view; looks = t.looks; works = t.works; holds = inl (t.holds, old_still v t.view (looks_entries t.loads v t.view t.looks) (looks_call t.loads v t.view t.looks) id.off old) }))
        cause

module _ {M : Type 0} (o : Opening) (at : M → View → Type 0) (lane : Lane M) (blocks : BlockLists) (v : View) (all : IsAtWorkWith o at lane blocks v) where
  -- where nothing is looked at
  pub unlooked : (P : View → Type 0) → P v → HasLookedWith o at lane blocks v P
  unlooked P holds = record { loads = 0; view = v; looks = looks_none v; works = all; holds = holds }

  pub new_set : (id : Oid) (off value : ℕ) → off % 8 ≡ 0 → value < 2 ^ 64 → HasNewRange v id off 8 → HasLookedWith o at lane blocks v (λ w. CanSetIn w (SetWord id off value))
  new_set id off value even low range = unlooked (λ w. CanSetIn w (SetWord id off value)) (inr (range, (even, low)))

  sorted_past : (id : Oid) (off value : ℕ) (r : Refusal) → Sorts (blocks_in v) lane.pool id off 8 (Err r) → IsOnLeft v (SetWord id off value) → PassesNewObject v (SetWord id off value)
  sorted_past id off value refusal.NoObject t left = absurd (false≢true (sym left.left ∙ t.1))
  sorted_past id off value refusal.OutOfRange t left = record { made = record { new = t.1.new; has = t.1.has; of_pool = left.of_pool; place = t.1.place }; outside = t.2 }
  sorted_past id off value refusal.NotLocked t left = absurd (t (left.of_pool ∙ all.work.seen.pool))
  sorted_past id off value r t left = absurd t

  pub new_past : (id : Oid) (off value : ℕ) (r : Refusal) → Sorts (blocks_in v) lane.pool id off 8 (Err r) → IsOnLeft v (SetWord id off value) → HasLookedWith o at lane blocks v (λ w. PassesIn w (SetWord id off value))
  new_past id off value r t left = unlooked (λ w. PassesIn w (SetWord id off value)) (inr (sorted_past id off value r t left))

-- ---- each action in turn

module _ {M : Type 0} (o : Opening) (at : M → View → Type 0) (blocks : BlockLists) where
  -- what is looked at behind other looks
  pub looked_then : (mid next : Lane M) (v : View) (P Q : View → Type 0) → (t : HasLookedWith o at mid blocks v P) → HasLookedWith o at next blocks t.view Q → HasLookedWith o at next blocks v Q
  looked_then mid next v P Q t s =
      let all = looks_then t.loads s.loads v t.view s.view t.looks s.looks in
      record { loads = all.0; view = s.view; looks = all.1; works = s.works; holds = s.holds }

  module _ (mid next : Lane M) (v : View) (actions : List SetAction) (i : ℕ) (d : SetAction) (locks : next.locks ≡ mid.locks) (low : i < length actions) (t : HasLookedWith o at mid blocks v (λ w. All (SetsIn w) (take i actions))) where
    -- a word more may be set
    pub sets_further : HasLookedWith o at next blocks t.view (λ w. SetsIn w (get_or actions i d)) → HasLookedWith o at next blocks v (λ w. All (SetsIn w) (take (i + 1) actions))
    sets_further s =
        let keeps : KeepsObjects t.view s.view = objects_looked_at o at mid next blocks t.view t.works locks (λ w. SetsIn w (get_or actions i d)) s in
        let entries = looks_entries s.loads t.view s.view s.looks in
        let call = looks_call s.loads t.view s.view s.looks in
        looked_then mid next v (λ w. All (SetsIn w) (take i actions)) (λ w. All (SetsIn w) (take (i + 1) actions)) t
        (record {
          loads = s.loads;
          view = s.view;
          looks = s.looks;
          works = s.works;
          holds = all_further (SetsIn s.view) actions i d low (All-weaker (SetsIn t.view) (SetsIn s.view) (λ a. can_in_kept t.view s.view keeps entries call (action_of a)) (take i actions) t.holds) s.holds;
        })

    -- what was found of one action is found of some
    pub passes_one : HasLookedWith o at next blocks t.view (λ w. PassesEndIn w (get_or actions i d)) → HasLookedWith o at next blocks v (λ w. Any (PassesEndIn w) actions)
    passes_one s =
        looked_then mid next v (λ w. All (SetsIn w) (take i actions)) (λ w. Any (PassesEndIn w) actions) t
        (record { loads = s.loads; view = s.view; looks = s.looks; works = s.works; holds = some_at (PassesEndIn s.view) actions i d low s.holds })

-- ---- the reasons

-- the lock of an action's object is wanted for writing
abbrev pub want_of : Action → Want
want_of a = record { id = object_of a; write = true }

pub left_of : (v : View) (actions : List SetAction) → All (HasIts v) actions → All (λ (a : SetAction). is_gone_in v a.id.off ≡ false) actions → All (IsLeftFor v) actions
left_of v actions has left n d low = let its = has n d low in record { of_pool = its.0; has = its.1; left = left n d low }
