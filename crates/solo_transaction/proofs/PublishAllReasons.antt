-- Why a publish of all that is pending is refused, at the view that the looks before it leave, and that else it can be done.
use Rattle.std.proofs.Common.{◌≡◌, ◌≢◌, ◌⊎◌, ⊎_elim, ℕ, zero, suc, ◌<◌, ◌≤◌, false, true, All, List, length, Some, slice_index, sym, ap, ◌∙◌, subst, arith}
use Rattle.std.specs.List.{Any}
use Rattle.std.proofs.lemmas.List.Elements.{All-contains, All-map, All-weaker}
use Rattle.solo_crash.proofs.AloneMemory.{load_words}
use Rattle.solo_crash.proofs.PendingOn.{pending_same}
use Rattle.solo_crash.specs.CallBlocks.{FreeNoRoot}
use Rattle.solo_crash.specs.OnActions.{CanFreeIn, CanSetIn, HasAllLeft, IsPublishReasonIn, PassesIn, entries_published}
use Rattle.solo_crash.specs.Operations.{IsLeft}
use Rattle.solo_crash.specs.Pending.{pending_in, sets_in}
use Rattle.solo_crash.specs.Reserved.{root_in}
use Rattle.solo_made.specs.Made.{BlockLists}
use Rattle.solo_model.specs.Actions.{max_entries}
use Rattle.pm_objects.specs.declared.ids.Oid.{Oid}
use Rattle.pm_objects.specs.declared.refusal.Refusal.{Refusal}
use Rattle.pm_objects.specs.declared.refusal.Refusal.TheVariants as refusal
use Rattle.solo_pending.specs.AllPending.{IsPendingAs}
use Rattle.solo_pending.specs.Pending.{action_of}
use Rattle.solo_pending.specs.declared.actions.SetAction.{SetAction}
use Rattle.solo_pending.specs.declared.pending.PendingActions.{PendingActions}
use Rattle.solo_view.specs.Founds.{IsAlone}
use Rattle.solo_view.specs.View.{View}
use Rattle.solo_world.specs.Opening.{Opening}
use Rattle.solo_world.specs.declared.lane.Lane.{Lane}
use Rattle.solo_tx.proofs.Checked.{looks_call, looks_entries}
use Rattle.solo_tx.proofs.EachAction.{some_mapped}
use Rattle.solo_tx.specs.Learning.{Looks}
use Rattle.solo_transaction.proofs.Frees.{root_elsewhere, root_there}
use Rattle.solo_transaction.proofs.PublishAllChecks.{all_left_kept, behind_free, can_free, frees_left, sets_left}
use Rattle.solo_transaction.proofs.PublishChecks.{PassesEndIn, SetsIn, looked_then, objects_looked_at}
use Rattle.solo_transaction.specs.AtWork.{HasLookedWith, IsAtWorkWith}
use Rattle.solo_transaction.specs.Publishing.{CanPublish, IsPublishRefused}

-- a lane that is alone finds what its words are, so looks change none
looks_alone : (n : ℕ) (v w : View) → Looks n v w → IsAlone v → IsAlone w
unfolding Looks
looks_alone zero v w is alone = subst IsAlone (sym is) alone
looks_alone (suc n) v w t alone = subst IsAlone (sym t.6) (looks_alone n v t.0 t.3 alone)

looks_words : (n : ℕ) (v w : View) → Looks n v w → IsAlone v → (i : ℕ) → slice_index w.words i ≡ slice_index v.words i
unfolding Looks
looks_words zero v w is alone i = ap (λ (u : View). slice_index u.words i) is
looks_words (suc n) v w t alone i =
    ap (λ (u : View). slice_index u.words i) t.6
    ∙ (ap (λ (ws : List ℕ). slice_index ws i) (load_words t.0 t.1 t.2 (t.5.1 (looks_alone n v t.0 t.3 alone))) ∙ looks_words n v t.0 t.3 alone i)

-- ---- refused before any look

pub refused_early : (v : View) (r : Refusal) → (r ≡ refusal.NotLocked) ⊎ (r ≡ refusal.NoObject) → IsPublishReasonIn v r → IsPublishRefused v r
refused_early v r cause reason = ⊎_elim
    (λ (e : r ≡ refusal.NotLocked). subst (λ (x : Refusal). IsPublishReasonIn v x → IsPublishRefused v x) (sym e) (λ why. record { reason = why; root = tt }) reason)
    (λ (e : r ≡ refusal.NoObject). subst (λ (x : Refusal). IsPublishReasonIn v x → IsPublishRefused v x) (sym e) (λ why. record { reason = why; root = tt }) reason)
    cause

-- none of these offsets is in the root's word
abbrev pub NotInRoot : View → List Oid → Type 0
NotInRoot v ids = All (λ (id : Oid). slice_index v.words 64 ≢ id.off) ids

-- one of them is
abbrev pub InRoot : View → List Oid → Type 0
InRoot v ids = Any (λ (id : Oid). slice_index v.words 64 ≡ id.off) ids

module _ {M : Type 0} (o : Opening) (at : M → View → Type 0) (lane next : Lane M) (blocks : BlockLists) (v : View) (all : IsAtWorkWith o at lane blocks v) (locks : next.locks ≡ lane.locks) (list : PendingActions) (is : IsPendingAs list (pending_in v))
    (left : HasAllLeft v) (P : View → Type 0) (t : HasLookedWith o at next blocks v P) where
  pub still_pending : IsPendingAs list (pending_in t.view)
  still_pending = subst (IsPendingAs list) (sym (pending_same v t.view (looks_entries t.loads v t.view t.looks) (looks_call t.loads v t.view t.looks))) is

  pub still_left : HasAllLeft t.view
  still_left = all_left_kept v t.view (objects_looked_at o at lane next blocks v all locks P t) (looks_entries t.loads v t.view t.looks) (looks_call t.loads v t.view t.looks) left

  pub still_apart : NotInRoot v list.frees.items → NotInRoot t.view list.frees.items
  still_apart apart n d low same = apart n d low (sym (looks_words t.loads v t.view t.looks all.alone 64) ∙ same)

  -- ---- what that says of the view

  pub each_can_be_freed : All (CanFreeIn t.view) (pending_in t.view).frees
  each_can_be_freed =
      subst (All (CanFreeIn t.view)) still_pending.frees
      (All-weaker (λ (id : Oid). IsLeft t.view id true) (CanFreeIn t.view) (can_free o at next blocks t.view t.works) list.frees.items (frees_left t.view list still_pending still_left))

  pub each_can_be_set : All (SetsIn t.view) list.sets.items → All (CanSetIn t.view) (sets_in t.view)
  each_can_be_set each = subst (All (CanSetIn t.view)) still_pending.sets (All-map (CanSetIn t.view) action_of list.sets.items each)

  pub no_root : NotInRoot t.view list.frees.items → FreeNoRoot (root_in (slice_index t.view.words)) (pending_in t.view).frees
  no_root apart =
      subst (FreeNoRoot (root_in (slice_index t.view.words))) still_pending.frees
      (All-weaker (λ (id : Oid). slice_index t.view.words 64 ≢ id.off) (λ (id : Oid). root_in (slice_index t.view.words) ≢ Some id.off) (λ id other. root_elsewhere (slice_index t.view.words) id.off other) list.frees.items apart)

  -- ---- the reasons

  pub is_root : InRoot t.view list.frees.items → IsPublishRefused t.view refusal.RootKept
  is_root some = record {
    reason = (still_left, (let low = some.2 in let same = ap (λ (ids : List Oid). length ids) still_pending.frees in omega (arith, low, same)));
    root = subst (Any (λ (id : Oid). root_in (slice_index t.view.words) ≡ Some id.off)) still_pending.frees
        (some.0, some.1, some.2, some.3, root_there (slice_index t.view.words) some.1.off (let behind = begins some in omega (arith, behind)) some.4);
  }
    where
      begins : (some : InRoot t.view list.frees.items) → 64 ≤ some.1.off
      begins some = behind_free o at next blocks t.view t.works some.1
          (can_free o at next blocks t.view t.works some.1 (All-contains (λ (id : Oid). IsLeft t.view id true) list.frees.items some.1 (frees_left t.view list still_pending still_left) (some.0, some.2, some.3)))

  pub passes_end : NotInRoot t.view list.frees.items → Any (PassesEndIn t.view) list.sets.items → IsPublishRefused t.view refusal.OutOfRange
  passes_end apart some = record { reason = (still_left, subst (Any (PassesIn t.view)) still_pending.sets (some_mapped (PassesIn t.view) action_of list.sets.items some)); root = no_root apart }

  pub has_no_room : NotInRoot t.view list.frees.items → All (SetsIn t.view) list.sets.items → max_entries < entries_published t.view → IsPublishRefused t.view refusal.ActionsFull
  has_no_room apart each full = record { reason = record { in_time = still_left.in_time; frees = each_can_be_freed; each = each_can_be_set each; full = full }; root = no_root apart }

  pub can_publish : NotInRoot t.view list.frees.items → All (SetsIn t.view) list.sets.items → entries_published t.view ≤ max_entries → CanPublish t.view
  can_publish apart each room = record { in_time = still_left.in_time; frees = each_can_be_freed; each = each_can_be_set each; not_root = no_root apart; room = room }

-- ---- behind the look at the root and those at the ends

module _ {M : Type 0} (o : Opening) (at : M → View → Type 0) (lane mid next : Lane M) (blocks : BlockLists) (v : View) (all : IsAtWorkWith o at lane blocks v) (first : mid.locks ≡ lane.locks) (then : next.locks ≡ mid.locks) (list : PendingActions)
    (is : IsPendingAs list (pending_in v)) (left : HasAllLeft v) where
  abbrev Apart : View → Type 0
  Apart w = NotInRoot w list.frees.items

  pub rooted : HasLookedWith o at mid blocks v (λ w. InRoot w list.frees.items) → HasLookedWith o at mid blocks v (λ w. IsPublishRefused w refusal.RootKept)
  rooted t = record { loads = t.loads; view = t.view; looks = t.looks; works = t.works; holds = is_root o at lane mid blocks v all first list is left (λ w. InRoot w list.frees.items) t t.holds }

  module _ (t : HasLookedWith o at mid blocks v Apart) where
    is_t : IsPendingAs list (pending_in t.view)
    is_t = still_pending o at lane mid blocks v all first list is left Apart t

    left_t : HasAllLeft t.view
    left_t = still_left o at lane mid blocks v all first list is left Apart t

    pub left_there : All (λ (a : SetAction). IsLeft t.view a.id true) list.sets.items
    left_there = sets_left t.view list is_t left_t

    pub past : HasLookedWith o at next blocks t.view (λ w. Any (PassesEndIn w) list.sets.items) → HasLookedWith o at next blocks v (λ w. IsPublishRefused w refusal.OutOfRange)
    past s =
        let P : View → Type 0 = λ w. Any (PassesEndIn w) list.sets.items in
        looked_then o at blocks mid next v Apart (λ w. IsPublishRefused w refusal.OutOfRange) t
        (record {
          loads = s.loads;
          view = s.view;
          looks = s.looks;
          works = s.works;
          holds = passes_end o at mid next blocks t.view t.works then list is_t left_t (λ w. Any (PassesEndIn w) list.sets.items) s
              (still_apart o at mid next blocks t.view t.works then list is_t left_t (λ w. Any (PassesEndIn w) list.sets.items) s t.holds) s.holds;
        })

    module _ (s : HasLookedWith o at next blocks t.view (λ w. All (SetsIn w) list.sets.items)) where
      abbrev Sets : View → Type 0
      Sets w = All (SetsIn w) list.sets.items

      apart_s : NotInRoot s.view list.frees.items
      apart_s = still_apart o at mid next blocks t.view t.works then list is_t left_t Sets s t.holds

      is_s : IsPendingAs list (pending_in s.view)
      is_s = still_pending o at mid next blocks t.view t.works then list is_t left_t Sets s

      late_s : (pending_in s.view).late ≡ false
      late_s = (still_left o at mid next blocks t.view t.works then list is_t left_t Sets s).in_time

      pub full : ((w : View) → IsAtWorkWith o at next blocks w → IsPendingAs list (pending_in w) → (pending_in w).late ≡ false → max_entries < entries_published w) → HasLookedWith o at next blocks v (λ w. IsPublishRefused w refusal.ActionsFull)
      full over =
          looked_then o at blocks mid next v Apart (λ w. IsPublishRefused w refusal.ActionsFull) t
          (record {
            loads = s.loads;
            view = s.view;
            looks = s.looks;
            works = s.works;
            holds = has_no_room o at mid next blocks t.view t.works then list is_t left_t Sets s apart_s s.holds (over s.view s.works is_s late_s);
          })

      pub passed : ((w : View) → IsAtWorkWith o at next blocks w → IsPendingAs list (pending_in w) → (pending_in w).late ≡ false → entries_published w ≤ max_entries) → HasLookedWith o at next blocks v CanPublish
      passed room =
          looked_then o at blocks mid next v Apart CanPublish t
          (record {
            loads = s.loads;
            view = s.view;
            looks = s.looks;
            works = s.works;
            holds = can_publish o at mid next blocks t.view t.works then list is_t left_t Sets s apart_s s.holds (room s.view s.works is_s late_s);
          })
