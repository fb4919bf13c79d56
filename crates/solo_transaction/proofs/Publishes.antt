-- A publish of all that is pending, of a lane at work: told, it leaves the lane at work with the lists of what that made and freed; refused, it gives the call up.
use Rattle.std.proofs.Common.{◌≡◌, ◌≢◌, ◌⊎◌, ⊎_elim, inl, inr, ℕ, ◌+◌, ◌*◌, ◌≤◌, true, false, All, Contains, List, ◌++◌, length, map, None, Some, slice_index, refl, sym, ap, ◌∙◌, subst, arith}
use Rattle.std.specs.List.{list_any}
use Rattle.std.proofs.lemmas.Bool.{eq-eqb, false≢true}
use Rattle.std.proofs.lemmas.List.{length-append, length-map}
use Rattle.std.proofs.lemmas.List.Elements.{All-append, All-contains, All-contains_itself, All-nil, All-weaker}
use Rattle.solo_alloc.proofs.Fitting.{IsClass, class_fits}
use Rattle.pm_image.proofs.Members.{member_made}
use Rattle.pm_image.proofs.Rooms.{run_fits}
use Rattle.pm_layout.specs.Sizes.{class_of}
use Rattle.pm_layout.specs.declared.class.Class.{Class}
use Rattle.pm_layout.specs.declared.class.Class.TheVariants.{Chunks, Lines}
use Rattle.solo_runs.proofs.Rows.{has_lines}
use Rattle.solo_crash.proofs.CallBlocks.{agrees_once_more, allocated_once_more, blocks_once_more}
use Rattle.solo_crash.proofs.CallWords.{locked_member}
use Rattle.solo_crash.proofs.Includes.{made_member}
use Rattle.solo_crash.proofs.MadeInTurn.{IsOfReserved, had_or_reserved}
use Rattle.solo_crash.proofs.PendingOn.{pending_same}
use Rattle.solo_crash.proofs.PublishFound.{refused_publish_aborts}
use Rattle.solo_crash.proofs.PublishOn.{publish_goes_on}
use Rattle.solo_crash.proofs.ReservedStays.{publish_leaves_none}
use Rattle.solo_crash.proofs.StillReserved.{HasSameHeads, borne_told, reserved_still, same_root, free_still}
use Rattle.solo_crash.specs.CallBlocks.{AgreesOnRoot, CallBlocks, NewObject, allocated_in, blocks_in, is_at, reserved_in, reserved_object, with_all_freed, with_all_made}
use Rattle.solo_crash.specs.OnActions.{CanFreeIn, CanSetIn, PublishesIn}
use Rattle.solo_crash.specs.OpenCall.{lock_of}
use Rattle.solo_crash.specs.Pending.{pending_in, sets_in}
use Rattle.solo_crash.specs.Reserved.{IsBorneOut, IsReservedFor, root_in, LiesFree}
use Rattle.solo_crash.specs.Reserving.{StandsReserved}
use Rattle.solo_made.specs.Made.{BlockLists, FitsPages, IsOffsetIn, ListsBlocks, new_of}
use Rattle.solo_model.specs.Actions.{Action, Pending, Reservation, none_pending}
use Rattle.solo_model.specs.Places.{CanHold}
use Rattle.solo_model.specs.Transaction.{is_locked}
use Rattle.pm_objects.specs.declared.calls.Operation.TheVariants.{Publish}
use Rattle.pm_objects.specs.declared.history.TxErr.TheVariants as error
use Rattle.pm_objects.specs.declared.history.Value.TheVariants.{Refused}
use Rattle.pm_objects.specs.declared.ids.Oid.{Oid}
use Rattle.pm_objects.specs.declared.refusal.Refusal.{Refusal}
use Rattle.pm_objects.specs.declared.refusal.Refusal.TheVariants as refusal
use Rattle.solo_pending.specs.AllPending.{IsPendingAs, reserved_as}
use Rattle.solo_pending.specs.Pending.{action_of, entry_of, redo_for}
use Rattle.solo_pending.specs.declared.pending.PendingActions.{PendingActions}
use Rattle.solo_pending.specs.declared.pending.Reserved.{Reserved}
use Rattle.pm_record.specs.declared.redo.Redo.{Redo}
use Rattle.solo_redo.specs.Entering.{IsOfPool, MayEnter}
use Rattle.solo_undo.proofs.Begun.{tell_works}
use Rattle.solo_undo.specs.Spans.{IsSpan}
use Rattle.solo_view.specs.Log.{Phase}
use Rattle.solo_view.specs.Steps.Step.{Tell}
use Rattle.solo_view.specs.View.{Lock, View}
use Rattle.solo_view.specs.Views.{after}
use Rattle.solo_world.specs.Lawful.{MayTell}
use Rattle.solo_world.specs.Opening.{Opening}
use Rattle.solo_world.specs.declared.lane.Lane.{Lane}
use Rattle.solo_world.specs.declared.lane.Span.{Span}
use Rattle.solo_tx.proofs.ActionsAtWork.{as_before, log_kept, objects, opening_told, pending_told, published_told, tells, words_kept}
use Rattle.solo_tx.proofs.BorneOut.{heads_taken_back}
use Rattle.solo_tx.proofs.Checked.{looks_call, looks_entries}
use Rattle.solo_tx.proofs.GoingOn.{HasSameFields, KeepsObjects, goes_on_listing, lists_more}
use Rattle.solo_tx.proofs.NoneMade.{made_none_before}
use Rattle.solo_tx.proofs.PendingEntries.{redo_listed}
use Rattle.solo_tx.specs.AtWork.{IsAtWork, ListsPublished}
use Rattle.solo_tx.specs.Calls.{HasLooked}
use Rattle.solo_tx.specs.Ending.{GivesUpBy, IsEndedBy, IsStoppedIn}
use Rattle.solo_tx.specs.Sequences.{gives_up}
use Rattle.solo_transaction.proofs.FreedInTurn.{AreNamedOnce, count_made, named_now}
use Rattle.solo_transaction.proofs.GoingWith.{lies_still}
use Rattle.solo_transaction.proofs.NotMaking.{not_making_still}
use Rattle.solo_transaction.proofs.Owned.{as_many_listed, blocks_listed, member_passes}
use Rattle.solo_transaction.proofs.PublishChecks.{SetsIn}
use Rattle.solo_transaction.proofs.PublishEntries.{enters_action, locked_action}
use Rattle.solo_transaction.specs.AtWork.{HasLookedWith, IsAtWorkWith, IsHeldFreed, LiesInReserved}
use Rattle.solo_transaction.specs.PublishedLists.{CanListFreed, IsUnderLockOf, made_of}
use Rattle.solo_transaction.specs.Publishing.{CanPublish, HasPublishedWith, IsPublishGivenUp, IsPublishRefused, IsPublishStopped}
use Rattle.solo_crash.proofs.NewStay.{news_in, before_one}

-- where an object can stand, it fits the pages of the pool
pub offset_held : (lanes zones : ℕ) (class : Class) (off : ℕ) → IsClass class → CanHold lanes zones class off → IsOffsetIn (1 + 2 * lanes + 65 * zones) off
offset_held lanes zones (Lines lines) off is hold =
    let t = hold.begins in
    let inside = t.1 in let place = t.2 in let zone = hold.zone_in_range in let chunk = hold.chunk_in_range in
    let room = run_fits lines t.0 t.1 in
    let some = has_lines lines t.0 t.1 in
    record { aligned = omega (arith, place); behind = omega (arith, place); inside = omega (arith, place, room, some, zone, chunk) }
offset_held lanes zones (Chunks count) off is hold =
    let t = hold.begins in
    let fits = t.0 in let place = t.1 in let zone = hold.zone_in_range in let some = is.chunks in
    record { aligned = omega (arith, place); behind = omega (arith, place); inside = omega (arith, place, fits, zone, some) }

-- a lane at work may tell the publish
pub may_tell_publish : {M : Type 0} (o : Opening) (at : M → View → Type 0) (lane : Lane M) (blocks : BlockLists) (v : View) → IsAtWorkWith o at lane blocks v → MayTell v.log.phase
may_tell_publish o at lane blocks v all = subst (λ (phase : Phase). MayTell phase) (sym all.work.working.is_open) tt

module _ {M : Type 0} (o : Opening) (at : M → View → Type 0) (lane : Lane M) (blocks : BlockLists) (v : View) (all : IsAtWorkWith o at lane blocks v) (list : PendingActions) (is : IsPendingAs list (pending_in v)) (can : CanPublish v) where
  abbrev told : View
  told = after v (Tell Publish None)

  abbrev p : Pending
  p = pending_in v

  abbrev now_blocks : CallBlocks
  now_blocks = with_all_made p.reserved (with_all_freed p.frees (blocks_in v))

  publishes : PublishesIn v told
  publishes =
      let is = as_before v all.work.working in
      record { tells = tells v v is Publish None; logs = log_kept v v is Publish None; words = words_kept v v is Publish None; in_time = can.in_time; frees = can.frees; each = can.each; room = can.room }

  -- ---- what the moves need

  pub each_sets : All (SetsIn v) list.sets.items
  each_sets = All-weaker (Contains list.sets.items) (SetsIn v)
      (λ a there. All-contains (CanSetIn v) (sets_in v) (action_of a) can.each (subst (λ (actions : List Action). Contains actions (action_of a)) is.sets (made_member action_of list.sets.items a there)))
      list.sets.items (All-contains_itself list.sets.items)

  pub few_entries : length lane.entries.items + length list.sets.items ≤ 63
  few_entries =
      let listed = as_many_listed o at lane blocks v all in
      let sets = ap (λ (actions : List Action). length actions) is.sets in
      let many = length-map list.sets.items action_of in
      let room = can.room in
      omega (arith, listed, sets, many, room)

  under_lock : (id : Oid) → CanFreeIn v id → list_any (is_at id.off) (blocks_in v).made ≡ false → IsUnderLockOf lane.locks.items id.off
  under_lock id (inl can) none =
      let held = can.0.0 in
      ap (λ (ls : List Lock). is_locked (map lock_of ls) id.off true) all.work.seen.locks ∙ locked_member v.locks held.lock id.off true held.held (sym held.place) held.allows
  under_lock id (inr made) none =
      absurd (false≢true (sym none ∙ member_passes (is_at id.off) (blocks_in v).made made.new made.has (eq-eqb made.new.off id.off (sym made.place))))

  pub can_list_freed : CanListFreed lane.locks.items blocks (blocks_in v) list.frees.items
  can_list_freed = record {
    lists = all.lists;
    once = subst AreNamedOnce (sym is.frees) (named_now v can.in_time);
    found = blocks_listed o at lane blocks v all;
    locked =
        subst (All (λ (id : Oid). list_any (is_at id.off) (blocks_in v).made ≡ false → IsUnderLockOf lane.locks.items id.off)) (sym is.frees)
        (All-weaker (CanFreeIn v) (λ (id : Oid). list_any (is_at id.off) (blocks_in v).made ≡ false → IsUnderLockOf lane.locks.items id.off) under_lock p.frees can.frees);
    few =
        let same = ap (λ (ids : List Oid). length (with_all_freed ids (blocks_in v)).freed) is.frees in
        let made = ap (λ (offs : List ℕ). length offs) (count_made p.reserved (with_all_freed p.frees (blocks_in v))).1 in
        let room = can.room in
        omega (arith, same, made, room);
  }

  -- behind the frees
  module _ (mid : BlockLists) (lists : (call : CallBlocks) → ListsBlocks blocks call → ListsBlocks mid (with_all_freed list.frees.items call)) (pages : length mid.dropped ≡ length blocks.dropped) where
    pub lists_mid : ListsBlocks mid (with_all_freed p.frees (blocks_in v))
    lists_mid = subst (λ (ids : List Oid). ListsBlocks mid (with_all_freed ids (blocks_in v))) is.frees (lists (blocks_in v) all.lists)

    pub few_made : length mid.made + length list.reserved.items ≤ 63
    few_made =
        let many = (count_made p.reserved (with_all_freed p.frees (blocks_in v))).0 in
        let same = ap (λ (ns : List NewObject). length ns) lists_mid.made in let as_many = length-map mid.made new_of in
        let reserved = ap (λ (rs : List Reserved). length rs) is.reserved in let as_reserved = length-map p.reserved reserved_as in
        let room = can.room in
        omega (arith, many, same, as_many, reserved, as_reserved, room)

    fits_one : (r : Reservation) → Contains p.reserved r → FitsPages (length mid.dropped) (made_of (reserved_as r))
    fits_one r there =
        let stands : StandsReserved v r = all.has_reserved.each r there in
        let offset = offset_held v.lanes v.zones (class_of (length r.bytes)) r.off (class_fits (length r.bytes)) stands.place in
        let inside = offset.inside in let of_pool = all.pages in
        let long = stands.made.long in let most = stands.made.object.most in
        record { place = record { aligned = offset.aligned; behind = offset.behind; inside = omega (arith, inside, of_pool, pages) }; most = omega (arith, long, most) }

    pub fit_made : All (λ (r : Reserved). FitsPages (length mid.dropped) (made_of r)) list.reserved.items
    fit_made = All-weaker (Contains list.reserved.items) (λ (r : Reserved). FitsPages (length mid.dropped) (made_of r))
        (λ r there.
        let t = member_made reserved_as p.reserved r (subst (λ (rs : List Reserved). Contains rs r) is.reserved there) in
        subst (λ (x : Reserved). FitsPages (length mid.dropped) (made_of x)) t.1.1 (fits_one t.0 t.1.0))
        list.reserved.items (All-contains_itself list.reserved.items)

  -- ---- told

  heads : HasSameHeads v told
  heads = record { lanes = refl; zones = refl; reserved = refl; described = λ c in_pool. refl; bitmaps = λ c in_pool run. refl; root = refl }

  none : pending_in told ≡ none_pending
  none = pending_told v v (as_before v all.work.working) Publish None

  same_blocks : blocks_in told ≡ now_blocks
  same_blocks = blocks_once_more v told Publish None refl refl

  -- what is new in the call was so, or it was reserved
  made_before : (n : NewObject) → Contains (news_in (blocks_in told)) n → IsReservedFor told n
  made_before n there =
      reserved_still v told heads n
      (⊎_elim
      (λ (was : Contains (news_in (blocks_in v)) n). All-contains (IsReservedFor v) (news_in (blocks_in v)) n all.borne_out.made was)
      (λ (now : Contains (map reserved_object p.reserved) n). All-contains (IsReservedFor v) (reserved_in v) n all.borne_out.pending now)
      (before_one Publish None p (blocks_in v) n (subst (λ (b : CallBlocks). Contains (news_in b) n) same_blocks there)))

  borne : IsBorneOut told
  borne =
      let before : IsBorneOut v = all.borne_out in
      record {
        made = All-weaker (Contains (news_in (blocks_in told))) (IsReservedFor told) made_before (news_in (blocks_in told)) (All-contains_itself (news_in (blocks_in told)));
        free =
            subst (All (LiesFree told)) (sym (allocated_once_more v told Publish None refl refl))
            (All-append (LiesFree told) (allocated_in v) (map reserved_object p.reserved) (All-weaker (LiesFree v) (LiesFree told) (free_still v told heads) (allocated_in v) before.free)
            (All-weaker (LiesFree v) (LiesFree told) (free_still v told heads) (reserved_in v) all.reserved_free));
        pending = subst (λ (q : Pending). All (IsReservedFor told) (map reserved_object q.reserved)) (sym none) (All-nil (IsReservedFor told));
        root = subst (AgreesOnRoot told) (sym (same_root v told heads)) (agrees_once_more v told Publish None refl refl (root_in (slice_index v.words)) before.root can.not_root);
      }

  -- what it made it had, or it was reserved
  lies_within : (n : NewObject) → Contains (blocks_in told).made n → LiesInReserved told n
  lies_within n there = ⊎_elim
      (λ (was : Contains (blocks_in v).made n). lies_still v told heads n (all.within n was))
      (λ (of : IsOfReserved p.reserved n).
      subst (LiesInReserved told) of.is_it
      (lies_still v told heads (reserved_object of.one) (All-contains (LiesInReserved v) (reserved_in v) (reserved_object of.one) all.reserved_within (made_member reserved_object p.reserved of.one of.is_one))))
      (had_or_reserved p.frees p.reserved (blocks_in v) n (subst (λ (b : CallBlocks). Contains b.made n) same_blocks there))

  module _ (next : Lane M) (fields : HasSameFields (record lane { entries = next.entries }) next) (records : next.records ≡ lane.records) (seen : at next.memory told) (more : next.entries.items ≡ lane.entries.items ++ map redo_for list.sets.items)
      (now : BlockLists) (of_call : ListsBlocks now now_blocks) (pages : length now.dropped ≡ length blocks.dropped) (held : All (IsHeldFreed lane.locks.items) now.freed) where
    lists : ListsPublished next told
    lists =
        let is_so = as_before v all.work.working in
        let keeps : KeepsObjects v told = objects v v is_so Publish None in
        let new : map redo_for list.sets.items ≡ map entry_of (sets_in v) = redo_listed list.sets.items ∙ ap (map entry_of) is.sets in
        let before = made_none_before v told Publish None (tells v v is_so Publish None).keeps.entries (tells v v is_so Publish None).call tt in
        lists_more lane next v told (sets_in v) (more ∙ ap (λ (es : List Redo). lane.entries.items ++ es) new)
        (let e = ap length more in let n = length-append lane.entries.items (map redo_for list.sets.items) in let m = length-map list.sets.items redo_for in let fit = few_entries in omega (arith, fit, e, n, m))
        keeps.lane keeps.locks (published_told v v is_so Publish None) before
        (All-weaker (CanSetIn v) (λ (a : Action). MayEnter v (entry_of a)) (enters_action o at lane blocks v all) (sets_in v) can.each)
        (λ unmade. All-weaker (CanSetIn v) (λ (a : Action). IsOfPool v (entry_of a)) (locked_action o at lane blocks v all (before unmade)) (sets_in v) can.each) all.work.published

    works : IsAtWork o at next told
    works =
        let is_so = as_before v all.work.working in
        goes_on_listing o at lane next v told all.work fields (objects v v is_so Publish None) seen (ap (λ rs. rs.items) records ∙ all.work.seen.records) (subst (λ rs. All IsSpan rs.items) (sym records) all.work.spans)
        (opening_told v v is_so Publish None o all.work.opening) (tell_works v Publish None all.work.working) all.work.no_entries lists (publish_goes_on v told lane.level all.work.level all.work.under_way all.has_reserved publishes)

    pub has_published_all : HasPublishedWith o at next now v
    has_published_all = record {
      works = record {
        work = works;
        lists = subst (ListsBlocks now) (sym same_blocks) of_call;
        pages = pages ∙ all.pages;
        alone = all.alone;
        not_making = not_making_still v told heads refl all.not_making;
        borne_out = borne;
        freed_held = subst (λ ls. All (IsHeldFreed ls.items) now.freed) (sym fields.locks) held;
        within = lies_within;
        has_reserved = publish_leaves_none v told publishes.tells;
        reserved_within = subst (λ (q : Pending). All (LiesInReserved told) (map reserved_object q.reserved)) (sym none) (All-nil (LiesInReserved told));
        reserved_free = subst (λ (q : Pending). All (LiesFree told) (map reserved_object q.reserved)) (sym none) (All-nil (LiesFree told));
      };
      publishes = publishes;
      none = none;
    }

-- what is pending is pending still at the view that looks leave
pub pending_there : {M : Type 0} (o : Opening) (at : M → View → Type 0) (lane : Lane M) (blocks : BlockLists) (v : View) (list : PendingActions) → IsPendingAs list (pending_in v) → (P : View → Type 0) → (t : HasLookedWith o at lane blocks v P)
    → IsPendingAs list (pending_in t.view)
pending_there o at lane blocks v list is P t = subst (IsPendingAs list) (sym (pending_same v t.view (looks_entries t.loads v t.view t.looks) (looks_call t.loads v t.view t.looks))) is

-- ---- refused

module _ {M : Type 0} (o : Opening) (at : M → View → Type 0) (lane : Lane M) (blocks : BlockLists) (v : View) (all : IsAtWorkWith o at lane blocks v) where
  pub publish_gives_up : (r : Refusal) → IsPublishRefused v r → GivesUpBy v Publish (Some (Refused r)) (error.Refused r)
  publish_gives_up r why next its back reserved =
      inr (
        refused_publish_aborts v next r lane.level all.work.level all.work.under_way why.reason its back,
        borne_told v next (heads_taken_back o at lane v all.work next Publish (Some (Refused r)) its back reserved) Publish (Some (Refused r)) its.keeps.entries its.call (refl, refl) why.root all.borne_out,
      )

-- none of the reasons is a stop
pub publish_is_no_stop : (r : Refusal) → (r ≡ refusal.NotLocked) ⊎ (r ≡ refusal.NoObject) ⊎ (r ≡ refusal.RootKept) ⊎ (r ≡ refusal.OutOfRange) ⊎ (r ≡ refusal.ActionsFull) → r ≢ refusal.Stopped
publish_is_no_stop r cause stopped = ⊎_elim
    (λ (e : r ≡ refusal.NotLocked). let clash : refusal.NotLocked ≡ refusal.Stopped = sym e ∙ stopped in absurd cc)
    (λ (rest : (r ≡ refusal.NoObject) ⊎ (r ≡ refusal.RootKept) ⊎ (r ≡ refusal.OutOfRange) ⊎ (r ≡ refusal.ActionsFull)). ⊎_elim
    (λ (e : r ≡ refusal.NoObject). let clash : refusal.NoObject ≡ refusal.Stopped = sym e ∙ stopped in absurd cc)
    (λ (more : (r ≡ refusal.RootKept) ⊎ (r ≡ refusal.OutOfRange) ⊎ (r ≡ refusal.ActionsFull)). ⊎_elim
    (λ (e : r ≡ refusal.RootKept). let clash : refusal.RootKept ≡ refusal.Stopped = sym e ∙ stopped in absurd cc)
    (λ (last : (r ≡ refusal.OutOfRange) ⊎ (r ≡ refusal.ActionsFull)). ⊎_elim
    (λ (e : r ≡ refusal.OutOfRange). let clash : refusal.OutOfRange ≡ refusal.Stopped = sym e ∙ stopped in absurd cc)
    (λ (e : r ≡ refusal.ActionsFull). let clash : refusal.ActionsFull ≡ refusal.Stopped = sym e ∙ stopped in absurd cc)
    last)
    more)
    rest)
    cause

-- from a view at which the checks found the reason
module _ {M : Type 0} (o : Opening) (at : M → View → Type 0) (old mid new : Lane M) (blocks : BlockLists) (v : View) (r answer : Refusal) (finds : HasLookedWith o at mid blocks v (λ w. IsPublishRefused w r)) (kept : mid.records.items ≡ old.records.items) where
  -- what giving up leaves of the records that there were
  abbrev Ends : List Span → View → Type 0
  Ends spans w = IsEndedBy at new w (gives_up spans Publish (Some (Refused r)) new.last) Publish (Some (Refused r))

  abbrev Stops : List Span → View → Type 0
  Stops spans w = IsStoppedIn at new w (gives_up spans Publish (Some (Refused r)) new.last) Publish (Some (Refused r))

  gives : GivesUpBy finds.view Publish (Some (Refused r)) (error.Refused r)
  gives = publish_gives_up o at mid blocks finds.view finds.works r finds.holds

  pub publish_given_up : answer ≡ r → ((o : Opening) (w : View) → IsAtWork o at mid w → GivesUpBy w Publish (Some (Refused r)) (error.Refused r) → Ends mid.records.items w) → HasLooked v (IsPublishGivenUp at new old.records.items answer)
  publish_given_up is ends =
      subst (λ (a : Refusal). HasLooked v (IsPublishGivenUp at new old.records.items a)) (sym is)
      (record {
        loads = finds.loads;
        view = finds.view;
        looks = finds.looks;
        working = finds.works.work.working;
        holds = record { reason = finds.holds.reason; ended = subst (λ (spans : List Span). Ends spans finds.view) kept (ends o finds.view finds.works.work gives) };
      })

  pub publish_stopped : ((o : Opening) (w : View) → IsAtWork o at mid w → GivesUpBy w Publish (Some (Refused r)) (error.Refused r) → Stops mid.records.items w) → HasLooked v (IsPublishStopped at new old.records.items)
  publish_stopped stops = record {
    loads = finds.loads;
    view = finds.view;
    looks = finds.looks;
    working = finds.works.work.working;
    holds = record { refusal = r; reason = finds.holds.reason; stopped = subst (λ (spans : List Span). Stops spans finds.view) kept (stops o finds.view finds.works.work gives) };
  }
