-- What the checks of a publish of all that is pending find of what is named, and so why it is refused.
use Rattle.std.proofs.Common.{◌≡◌, ⊎_elim, inl, inr, ◌+◌, ◌*◌, ◌≤◌, ◌&&◌, ◌||◌, Bool, true, false, not, eqb, All, Contains, List, ◌++◌, map, sym, ap, ◌∙◌, subst, arith}
use Rattle.std.specs.List.{Any, list_any}
use Rattle.std.proofs.lemmas.Bool.{and_parts, cases_Bool, eqb-true, false≢true, or_cases, or_from, or_parts}
use Rattle.std.proofs.lemmas.List.Elements.{All-append, All-contains, All-contains_itself, All-map, All-weaker, Contains-append_left, Contains-append_right}
use Rattle.std.proofs.lemmas.List.Folds.{Any-from_list_any}
use Rattle.solo_crash.proofs.CallBlocks.{any_map}
use Rattle.solo_crash.proofs.Includes.{made_member}
use Rattle.solo_crash.proofs.PendingOn.{pending_same}
use Rattle.solo_crash.specs.CallBlocks.{blocks_in, is_at, is_freed_in, is_gone_in, is_made_in, is_new_in}
use Rattle.solo_crash.specs.OnActions.{CanFreeIn, HasAllLeft, HasObject, IsPublishReasonIn, LacksObject}
use Rattle.solo_crash.specs.OpenCall.{lock_of, locks_of}
use Rattle.solo_crash.specs.Operations.{IsGone, IsLeft}
use Rattle.solo_crash.specs.Pending.{pending_in, sets_in}
use Rattle.solo_lock.specs.Finding.{FindsObject}
use Rattle.solo_made.specs.Made.{BlockLists}
use Rattle.solo_model.specs.Actions.{Action, Pending, object_of, wants_for, wants_pending}
use Rattle.solo_model.specs.Actions.Action.{SetWord}
use Rattle.solo_model.specs.Transaction.{Lock as Locked, is_locked}
use Rattle.pm_objects.specs.declared.calls.Want.{Want}
use Rattle.pm_objects.specs.declared.ids.Oid.{Oid}
use Rattle.pm_objects.specs.declared.refusal.Refusal.TheVariants as refusal
use Rattle.solo_pending.specs.AllPending.{IsPendingAs}
use Rattle.solo_pending.specs.Pending.{action_of}
use Rattle.solo_pending.specs.declared.actions.SetAction.{SetAction}
use Rattle.solo_pending.specs.declared.pending.PendingActions.{PendingActions}
use Rattle.solo_view.specs.View.{Lock, View}
use Rattle.solo_world.specs.Opening.{Opening}
use Rattle.solo_world.specs.declared.lane.Lane.{Lane}
use Rattle.solo_tx.proofs.EachAction.{some_mapped}
use Rattle.solo_tx.proofs.GoingOn.{KeepsObjects}
use Rattle.solo_transaction.proofs.PublishChecks.{HasIts, LacksIts, left_of, some_with, want_of}
use Rattle.solo_transaction.proofs.PublishKept.{left_kept}
use Rattle.solo_transaction.specs.AtWork.{HasLookedWith, IsAtWorkWith}

-- an id for where there is none
abbrev pub no_id : Oid
no_id = record { pool = 0; off = 0 }

any_left : {X : Type 0} (P : X → Type 0) (xs ys : List X) → Any P xs → Any P (xs ++ ys)
any_left P xs ys t = let c = Contains-append_left xs ys t.1 (t.0, t.2, t.3) in (c.0, t.1, c.1, c.2, t.4)

any_right : {X : Type 0} (P : X → Type 0) (xs ys : List X) → Any P ys → Any P (xs ++ ys)
any_right P xs ys t = let c = Contains-append_right xs ys t.1 (t.0, t.2, t.3) in (c.0, t.1, c.1, c.2, t.4)

any_map_of : {X Y : Type 0} (P : Y → Type 0) (f : X → Y) (xs : List X) → Any (λ x. P (f x)) xs → Any P (map f xs)
any_map_of P f xs t = some_mapped P f xs t

-- ---- the reasons

-- the lock of an object is wanted for writing
abbrev want_for : Oid → Want
want_for id = record { id = id; write = true }

module _ (v : View) (list : PendingActions) (is : IsPendingAs list (pending_in v)) where
  -- what holds of each object that is to be freed or set does of what is wanted, and so of some
  all_wanted : (P : Oid → Type 0) → All P list.frees.items → All (λ (a : SetAction). P a.id) list.sets.items → All (λ (want : Want). P want.id) (wants_pending (pending_in v))
  all_wanted P frees sets =
      All-append (λ (want : Want). P want.id) (map want_for (pending_in v).frees) (wants_for (sets_in v))
      (All-map (λ (want : Want). P want.id) want_for (pending_in v).frees (subst (All P) is.frees frees))
      (All-map (λ (want : Want). P want.id) want_of (sets_in v) (subst (All (λ (a : Action). P (object_of a))) is.sets (All-map (λ (a : Action). P (object_of a)) action_of list.sets.items sets)))

  some_free : (P : Oid → Type 0) → Any P list.frees.items → Any (λ (want : Want). P want.id) (wants_pending (pending_in v))
  some_free P some =
      any_left (λ (want : Want). P want.id) (map want_for (pending_in v).frees) (wants_for (sets_in v)) (any_map_of (λ (want : Want). P want.id) want_for (pending_in v).frees (subst (Any P) is.frees some))

  some_set : (P : Oid → Type 0) → Any (λ (a : SetAction). P a.id) list.sets.items → Any (λ (want : Want). P want.id) (wants_pending (pending_in v))
  some_set P some =
      any_right (λ (want : Want). P want.id) (map want_for (pending_in v).frees) (wants_for (sets_in v))
      (any_map_of (λ (want : Want). P want.id) want_of (sets_in v) (subst (Any (λ (a : Action). P (object_of a))) is.sets (any_map_of (λ (a : Action). P (object_of a)) action_of list.sets.items some)))

  pub lacks_free : Any (LacksObject v) list.frees.items → IsPublishReasonIn v refusal.NotLocked
  lacks_free some = some_free (LacksObject v) some

  pub lacks_set : Any (LacksIts v) list.sets.items → IsPublishReasonIn v refusal.NotLocked
  lacks_set some = some_set (LacksObject v) some

  module _ (frees : All (HasObject v) list.frees.items) (sets : All (HasIts v) list.sets.items) where
    pub late_reason : list.late ≡ true → IsPublishReasonIn v refusal.NoObject
    late_reason late = (all_wanted (HasObject v) frees sets, inl (sym is.late ∙ late))

    pub gone_free : Any (λ (id : Oid). is_gone_in v id.off ≡ true) list.frees.items → IsPublishReasonIn v refusal.NoObject
    gone_free some = (
      all_wanted (HasObject v) frees sets,
      inr (some_free (λ (id : Oid). IsGone v id true)
          (some_with (λ (id : Oid). is_gone_in v id.off ≡ true) (HasObject v) (λ (id : Oid). IsGone v id true) list.frees.items (λ id its gone. record { of_pool = its.0; has = its.1; gone = gone }) frees some)),
    )

    pub gone_set : Any (λ (a : SetAction). is_gone_in v a.id.off ≡ true) list.sets.items → IsPublishReasonIn v refusal.NoObject
    gone_set some = (
      all_wanted (HasObject v) frees sets,
      inr (some_set (λ (id : Oid). IsGone v id true)
          (some_with (λ (a : SetAction). is_gone_in v a.id.off ≡ true) (HasIts v) (λ (a : SetAction). IsGone v a.id true) list.sets.items (λ a its gone. record { of_pool = its.0; has = its.1; gone = gone }) sets some)),
    )

    pub has_all_left : list.late ≡ false → All (λ (id : Oid). is_gone_in v id.off ≡ false) list.frees.items → All (λ (a : SetAction). is_gone_in v a.id.off ≡ false) list.sets.items → HasAllLeft v
    has_all_left late left_frees left_sets = record {
      in_time = sym is.late ∙ late;
      left =
          all_wanted (λ (id : Oid). IsLeft v id true) (λ n d low. let its = frees n d low in record { of_pool = its.0; has = its.1; left = left_frees n d low })
          (left_of v list.sets.items sets left_sets);
    }

  -- and of what is left, each that is to be freed or set is
  pub frees_left : HasAllLeft v → All (λ (id : Oid). IsLeft v id true) list.frees.items
  frees_left all = subst (All (λ (id : Oid). IsLeft v id true)) (sym is.frees) (unmapped (pending_in v).frees (wants_for (sets_in v)) all.left)
    where
      unmapped : (ids : List Oid) (rest : List Want) → All (λ (want : Want). IsLeft v want.id true) (map want_for ids ++ rest) → All (λ (id : Oid). IsLeft v id true) ids
      unmapped ids rest each = All-weaker (Contains ids) (λ (id : Oid). IsLeft v id true)
          (λ id there. All-contains (λ (want : Want). IsLeft v want.id true) (map want_for ids ++ rest) (want_for id) each (Contains-append_left (map want_for ids) rest (want_for id) (made_member want_for ids id there)))
          ids (All-contains_itself ids)

  pub sets_left : HasAllLeft v → All (λ (a : SetAction). IsLeft v a.id true) list.sets.items
  sets_left all = All-weaker (Contains list.sets.items) (λ (a : SetAction). IsLeft v a.id true)
      (λ a there. All-contains (λ (want : Want). IsLeft v want.id true) (wants_pending (pending_in v)) (want_for a.id) all.left
      (Contains-append_right (map want_for (pending_in v).frees) (wants_for (sets_in v)) (want_for a.id)
      (made_member want_of (sets_in v) (action_of a) (subst (λ (actions : List Action). Contains actions (action_of a)) is.sets (made_member action_of list.sets.items a there)))))
      list.sets.items (All-contains_itself list.sets.items)

-- what is left stays so as the lane looks
pub all_left_kept : (v w : View) → KeepsObjects v w → w.entries ≡ v.entries → w.call ≡ v.call → HasAllLeft v → HasAllLeft w
all_left_kept v w keeps entries call all =
    let same : pending_in w ≡ pending_in v = pending_same v w entries call in
    record {
      in_time = ap (λ (p : Pending). p.late) same ∙ all.in_time;
      left =
          subst (λ (p : Pending). All (λ (want : Want). IsLeft w want.id true) (wants_pending p)) (sym same)
          (All-weaker (λ (want : Want). IsLeft v want.id true) (λ (want : Want). IsLeft w want.id true) (λ want left. left_kept v w keeps entries call (SetWord want.id 0 0) left) (wants_pending (pending_in v)) all.left);
    }

-- ---- what is left can be freed

module _ {M : Type 0} (o : Opening) (at : M → View → Type 0) (lane : Lane M) (blocks : BlockLists) (v : View) (all : IsAtWorkWith o at lane blocks v) where
  pub can_free : (id : Oid) → IsLeft v id true → CanFreeIn v id
  can_free id left = ⊎_elim
      (λ (made : is_made_in v id.off ≡ true).
      let t = Any-from_list_any (is_at id.off) (blocks_in v).made made in
      inr (record { new = t.1; has = (t.0, t.2, t.3); of_pool = left.of_pool; place = sym (eqb-true t.1.off id.off t.4) }))
      (λ (other : is_made_in v id.off ≡ false).
      let kept = or_parts (is_freed_in v id.off) (list_any (is_at id.off) (blocks_in v).dropped) left.left in
      let old : is_new_in v id.off ≡ false = or_from (is_made_in v id.off) (list_any (is_at id.off) (blocks_in v).dropped) other kept.1 in
      let locked : is_locked (locks_of v) id.off true ≡ true = ⊎_elim (λ (new : is_new_in v id.off ≡ true). absurd (false≢true (sym old ∙ new))) (λ (held : is_locked (locks_of v) id.off true ≡ true). held)
      (or_cases (is_new_in v id.off) (is_locked (locks_of v) id.off true) left.has) in
      let guards : Lock → Bool = λ l. eqb (64 * l.line + 64) id.off && (l.write || not true) in
      let t = Any-from_list_any guards v.locks (sym (any_map (λ (l : Locked). eqb l.off id.off && (l.write || not true)) lock_of v.locks) ∙ locked) in
      let parts = and_parts (eqb (64 * t.1.line + 64) id.off) (t.1.write || not true) t.4 in
      let object : FindsObject v t.1 = all.work.objects t.1 (t.0, t.2, t.3) in
      inl (
        (
          record {
            lock = t.1;
            lines = object.lines;
            held = (t.0, t.2, t.3);
            block = object.block;
            allows = parts.1;
            of_pool = left.of_pool;
            place = sym (eqb-true (64 * t.1.line + 64) id.off parts.0);
          },
          (let fits = object.fits in omega (arith, fits)),
        ),
        record { found = old; kept = kept.0 },
      ))
      (cases_Bool (is_made_in v id.off))

  -- and begins behind a line
  pub behind_free : (id : Oid) → CanFreeIn v id → 64 ≤ id.off
  behind_free id (inl can) = let place = can.0.0.place in omega (arith, place)
  behind_free id (inr made) = let behind = (all.work.under_way.has.each made.new made.has).behind in let place = made.place in omega (arith, behind, place)

  -- the same of what is looked at
  pub looked_so : (P Q : View → Type 0) → ((w : View) → IsAtWorkWith o at lane blocks w → P w → Q w) → (u : View) → HasLookedWith o at lane blocks u P → HasLookedWith o at lane blocks u Q
  looked_so P Q so u t = record { loads = t.loads; view = t.view; looks = t.looks; works = t.works; holds = so t.view t.works t.holds }
