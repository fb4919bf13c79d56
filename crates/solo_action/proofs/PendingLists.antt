-- What the lists of a call need as all that is pending is moved to them, of a lane that holds its objects; and what they have then.
use Rattle.std.proofs.Common.{◌≡◌, ◌≢◌, ⊎_elim, ℕ, ◌+◌, ◌*◌, ◌^◌, ◌<◌, ◌≤◌, true, false, All, Contains, List, [], ◌∷◌, ◌++◌, length, map, slice_index, Some, is_some, refl, sym, ap, ◌∙◌, subst, arith}
use Rattle.std.specs.Prelude.{nat_eq}
use Rattle.std.specs.List.{IsDistinct, list_any}
use Rattle.std.proofs.lemmas.List.{append_assoc, append-nil, length-append, length-map}
use Rattle.std.proofs.lemmas.List.Elements.{All-contains, All-contains_itself, All-nil, All-weaker}
use Rattle.solo_crash.proofs.CallWords.{locked_member}
use Rattle.solo_crash.proofs.Includes.{made_member}
use Rattle.solo_crash.proofs.MadeInTurn.{IsOfReserved, had_or_reserved}
use Rattle.solo_crash.proofs.ReservedStays.{nothing_made, pending_at_rest}
use Rattle.solo_crash.specs.CallBlocks.{CallBlocks, NewObject, is_at, no_blocks, reserved_in, reserved_object, with_all_freed, with_all_made}
use Rattle.solo_crash.specs.OnActions.{CanFree, blocks_published}
use Rattle.solo_crash.specs.OpenCall.{lock_of}
use Rattle.solo_crash.specs.Pending.{pending_before, published_in, published_told, sets_before}
use Rattle.solo_crash.specs.Reserved.{root_in}
use Rattle.solo_crash.specs.Reserving.{StandsReserved}
use Rattle.solo_alloc.proofs.Fitting.{class_fits}
use Rattle.pm_image.proofs.Members.{member_made, no_member}
use Rattle.pm_layout.specs.Sizes.{class_of}
use Rattle.solo_made.specs.declared.objects.Freed.{Freed}
use Rattle.solo_made.specs.declared.objects.Made.{Made}
use Rattle.solo_made.specs.Entries.{IsBlockIn, block_freed, block_made, entries_of, entry_freeing, entry_making}
use Rattle.solo_made.specs.Made.{BlockLists, FitsPages, ListsBlocks, new_of}
use Rattle.solo_model.specs.Actions.{Action, Pending, Reservation}
use Rattle.solo_model.specs.Transaction.{is_locked}
use Rattle.pm_objects.specs.declared.ids.Oid.{Oid}
use Rattle.solo_pending.specs.AllPending.{reserved_as}
use Rattle.solo_pending.specs.Pending.{action_of, entry_of, redo_for}
use Rattle.solo_pending.specs.declared.actions.SetAction.{SetAction}
use Rattle.solo_pending.specs.declared.pending.PendingActions.{PendingActions}
use Rattle.solo_pending.specs.declared.pending.Reserved.{Reserved}
use Rattle.pm_record.specs.declared.redo.Redo.{Redo}
use Rattle.solo_redo.specs.Entering.{IsOfPool}
use Rattle.solo_tx.proofs.PendingEntries.{redo_listed}
use Rattle.solo_view.specs.View.{Lock, View}
use Rattle.solo_world.specs.Lanes.{lock_of as view_lock}
use Rattle.solo_world.specs.Opening.{Opening}
use Rattle.solo_world.specs.declared.lane.HeldLock.{HeldLock}
use Rattle.solo_world.specs.declared.lane.Lane.{Lane}
use Rattle.solo_transaction.proofs.FreedInTurn.{AreNamedOnce, count_made, named_now}
use Rattle.solo_transaction.proofs.Frees.{root_there}
use Rattle.solo_transaction.proofs.Publishes.{offset_held}
use Rattle.solo_transaction.specs.AtWork.{HasBlock, IsHeldFreed, IsUnderLock, LiesInReserved}
use Rattle.solo_transaction.specs.Committing.{MayPublishBlocks}
use Rattle.solo_transaction.specs.PublishedLists.{CanListFreed, IsUnderLockOf, made_of}
use Rattle.solo_action.proofs.HeldWords.{all_of_pool}
use Rattle.solo_action.specs.PublishingAll.{HoldsAll, ListsPending, entries_pending}

-- ---- of a call that made nothing

-- where a list names nothing, nothing was there
pub none_named : {A B : Type 0} (f : A → B) (xs : List A) → map f xs ≡ [] → xs ≡ []
none_named f [] none = refl
none_named f (x ∷ xs) none = absurd (let many = ap length none in omega (arith, many))

-- each that is freed is listed as freed
freed_further : (ids : List Oid) (dropped : List NewObject) (freed : List ℕ)
    → with_all_freed ids (record { made = []; dropped = dropped; freed = freed }) ≡ record { made = []; dropped = dropped; freed = freed ++ map (λ (id : Oid). id.off) ids }
freed_further [] dropped freed = ap (λ (offs : List ℕ). let b : CallBlocks = record { made = []; dropped = dropped; freed = offs } in b) (sym (append-nil freed))
freed_further (id ∷ ids) dropped freed =
    freed_further ids dropped (freed ++ id.off ∷ [])
    ∙ ap (λ (offs : List ℕ). let b : CallBlocks = record { made = []; dropped = dropped; freed = offs } in b) (append_assoc freed (id.off ∷ []) (map (λ (id : Oid). id.off) ids))

pub all_freed : (ids : List Oid) → with_all_freed ids no_blocks ≡ record { made = []; dropped = []; freed = map (λ (id : Oid). id.off) ids }
all_freed ids = freed_further ids [] []

-- the lists once all of it is published
abbrev pub lists_of : Pending → CallBlocks
lists_of p = with_all_made p.reserved (with_all_freed p.frees no_blocks)

module _ (v : View) (untold : v.call ≡ []) where
  pub lists_now : blocks_published v ≡ lists_of (pending_before v)
  lists_now = λ j. with_all_made (pending_at_rest v untold j).reserved (with_all_freed (pending_at_rest v untold j).frees (nothing_made v untold j))

  pub none_published : published_in v ≡ []
  unfolding published_told
  none_published = ap (published_told (pending_before v)) untold

-- ---- of a lane that holds all

module _ {M : Type 0} {o : Opening} {at : M → View → Type 0} {lane : Lane M} {pending : PendingActions} {v : View} (h : HoldsAll o at lane pending v) where
  abbrev p : Pending
  p = pending_before v

  -- ---- the words that are to be set

  pub sets_of_pool : All (IsOfPool v) (map entry_of (sets_before v))
  sets_of_pool = all_of_pool v o h.sound h.opening h.objects (sets_before v) h.each

  pub redos : map redo_for pending.sets.items ≡ map entry_of (sets_before v)
  redos = redo_listed pending.sets.items ∙ ap (map entry_of) h.listed.sets

  low_place : (a : SetAction) → IsOfPool v (redo_for a) → a.id.off + a.off < 2 ^ 64
  low_place a is =
      let inside = is.inside in let size = h.seen.shape.size in
      let lanes = lane.shape.lanes_to in let zones = lane.shape.zones_to in
      omega (arith, inside, size, lanes, zones)

  pub places : All (λ (a : SetAction). a.id.off + a.off < 2 ^ 64) pending.sets.items
  places = All-weaker (Contains pending.sets.items) (λ (a : SetAction). a.id.off + a.off < 2 ^ 64)
      (λ a there. low_place a (All-contains (IsOfPool v) (map entry_of (sets_before v)) (redo_for a) sets_of_pool (subst (λ (es : List Redo). Contains es (redo_for a)) redos (made_member redo_for pending.sets.items a there))))
      pending.sets.items (All-contains_itself pending.sets.items)

  pub few_pending : length pending.sets.items + length pending.frees.items + length pending.reserved.items ≤ 63
  few_pending =
      let few = h.listed.few in
      let sets = ap (λ (actions : List Action). length actions) h.listed.sets in let as_many = length-map pending.sets.items action_of in
      let frees = ap (λ (ids : List Oid). length ids) h.listed.frees in
      let reserved = ap (λ (rs : List Reserved). length rs) h.listed.reserved in let as_reserved = length-map p.reserved reserved_as in
      omega (arith, few, sets, as_many, frees, reserved, as_reserved)

  -- ---- the objects that are to be freed

  under_lock : (id : Oid) → CanFree v id → IsUnderLockOf lane.locks.items id.off
  under_lock id can =
      let held = can.0 in
      ap (λ (ls : List Lock). is_locked (map lock_of ls) id.off true) h.seen.locks ∙ locked_member v.locks held.lock id.off true held.held (sym held.place) held.allows

  found_block : (l : HeldLock) → Contains lane.locks.items l → is_some l.block ≡ true
  found_block l there = ap is_some (h.objects (view_lock l) (subst (λ (ls : List Lock). Contains ls (view_lock l)) h.seen.locks (made_member view_lock lane.locks.items l there))).block

  pub named_once : AreNamedOnce p.frees
  named_once = subst (λ (q : Pending). AreNamedOnce q.frees) (pending_at_rest v h.untold) (named_now v (ap (λ (q : Pending). q.late) (pending_at_rest v h.untold) ∙ h.holds.in_time))

  pub can_list_freed : (blocks : BlockLists) → ListsBlocks blocks no_blocks → CanListFreed lane.locks.items blocks no_blocks pending.frees.items
  can_list_freed blocks lists = record {
    lists = lists;
    once = subst AreNamedOnce (sym h.listed.frees) named_once;
    found = All-weaker (Contains lane.locks.items) (λ (l : HeldLock). is_some l.block ≡ true) found_block lane.locks.items (All-contains_itself lane.locks.items);
    locked =
        subst (All (λ (id : Oid). list_any (is_at id.off) no_blocks.made ≡ false → IsUnderLockOf lane.locks.items id.off)) (sym h.listed.frees)
        (All-weaker (CanFree v) (λ (id : Oid). list_any (is_at id.off) no_blocks.made ≡ false → IsUnderLockOf lane.locks.items id.off) (λ id can none. under_lock id can) p.frees h.frees);
    few =
        let all = ap (λ (b : CallBlocks). length b.freed) (all_freed pending.frees.items) in
        let many = length-map pending.frees.items (λ (id : Oid). id.off) in
        let few = few_pending in
        omega (arith, all, many, few);
  }

  -- ---- what is reserved

  pub few_made : (blocks : BlockLists) → ListsBlocks blocks (with_all_freed pending.frees.items no_blocks) → length blocks.made + length pending.reserved.items ≤ 63
  few_made blocks lists =
      let none = ap (λ (b : CallBlocks). length b.made) (all_freed pending.frees.items) in
      let made = ap (λ (ns : List NewObject). length ns) lists.made in let as_many = length-map blocks.made new_of in
      let few = few_pending in
      omega (arith, none, made, as_many, few)

  module _ (pages : ℕ) (of_pool : pages ≡ 1 + 2 * lane.shape.lanes + 65 * lane.shape.zones) where
    fits_one : (r : Reservation) → Contains p.reserved r → FitsPages pages (made_of (reserved_as r))
    fits_one r there =
        let stands : StandsReserved v r = h.has_reserved.each r (subst (λ (q : Pending). Contains q.reserved r) (sym (pending_at_rest v h.untold)) there) in
        let offset = offset_held v.lanes v.zones (class_of (length r.bytes)) r.off (class_fits (length r.bytes)) stands.place in
        let inside = offset.inside in
        let lanes = h.seen.shape.lanes in let zones = h.seen.shape.zones in
        let long = stands.made.long in let most = stands.made.object.most in
        record { place = record { aligned = offset.aligned; behind = offset.behind; inside = omega (arith, inside, of_pool, lanes, zones) }; most = omega (arith, long, most) }

    pub fit_made : All (λ (r : Reserved). FitsPages pages (made_of r)) pending.reserved.items
    fit_made = All-weaker (Contains pending.reserved.items) (λ (r : Reserved). FitsPages pages (made_of r))
        (λ r there.
        let t = member_made reserved_as p.reserved r (subst (λ (rs : List Reserved). Contains rs r) h.listed.reserved there) in
        subst (λ (x : Reserved). FitsPages pages (made_of x)) t.1.1 (fits_one t.0 t.1.0))
        pending.reserved.items (All-contains_itself pending.reserved.items)

  -- ---- the lists then

  -- the moves leave these lists
  pub lists_pending : (blocks : BlockLists) → ListsBlocks blocks (with_all_made p.reserved (with_all_freed pending.frees.items no_blocks)) → All (IsHeldFreed lane.locks.items) blocks.freed → ListsPending lane.locks.items v blocks
  lists_pending blocks lists held = record {
    of_call = subst (ListsBlocks blocks) (ap (λ (ids : List Oid). with_all_made p.reserved (with_all_freed ids no_blocks)) h.listed.frees ∙ sym (lists_now v h.untold)) lists;
    held = held;
  }

  -- what is to be freed is moved to lists that were cleared, and then what is reserved
  module _ (cleared mid : BlockLists) (locks : List HeldLock) (ids : List Oid) (reserved : List Reserved) (same_locks : locks ≡ lane.locks.items) (same_ids : ids ≡ pending.frees.items) (same_reserved : reserved ≡ pending.reserved.items)
      (none : ListsBlocks cleared no_blocks) where
    pub may_move_frees : CanListFreed locks cleared no_blocks ids
    may_move_frees =
        subst (λ (ls : List HeldLock). CanListFreed ls cleared no_blocks ids) (sym same_locks)
        (subst (λ (xs : List Oid). CanListFreed lane.locks.items cleared no_blocks xs) (sym same_ids) (can_list_freed cleared none))

    module _ (frees : (call : CallBlocks) → ListsBlocks cleared call → ListsBlocks mid (with_all_freed ids call)) where
      lists_mid : ListsBlocks mid (with_all_freed pending.frees.items no_blocks)
      lists_mid = subst (λ (xs : List Oid). ListsBlocks mid (with_all_freed xs no_blocks)) same_ids (frees no_blocks none)

      pub few_reserved : length mid.made + length reserved ≤ 63
      few_reserved = subst (λ (rs : List Reserved). length mid.made + length rs ≤ 63) (sym same_reserved) (few_made mid lists_mid)

      module _ (blocks : BlockLists) (held : All (IsHeldFreed locks) cleared.freed → All (IsHeldFreed locks) mid.freed)
          (made : (call : CallBlocks) (rs : List Reservation) → reserved ≡ map reserved_as rs → ListsBlocks mid call → ListsBlocks blocks (with_all_made rs call)) (kept : blocks ≡ record mid { made = blocks.made }) where
        pub lists_moved : ListsPending lane.locks.items v blocks
        lists_moved = lists_pending blocks
            (made (with_all_freed pending.frees.items no_blocks) p.reserved (same_reserved ∙ h.listed.reserved) lists_mid)
            (subst (λ (b : BlockLists). All (IsHeldFreed lane.locks.items) b.freed) (sym kept)
            (subst (λ (ls : List HeldLock). All (IsHeldFreed ls) mid.freed) same_locks
            (held (subst (All (IsHeldFreed locks)) (sym (none_named (λ (f : Freed). f.off) cleared.freed none.freed)) (All-nil (IsHeldFreed locks))))))

  module _ {blocks : BlockLists} (lists : ListsPending lane.locks.items v blocks) where
    lists_so : ListsBlocks blocks (lists_of p)
    lists_so = subst (ListsBlocks blocks) (lists_now v h.untold) lists.of_call

    -- the offsets that are listed as freed are those of what is to be freed
    freed_offs : map (λ (f : Freed). f.off) blocks.freed ≡ map (λ (id : Oid). id.off) p.frees
    freed_offs = lists_so.freed ∙ ((count_made p.reserved (with_all_freed p.frees no_blocks)).1 ∙ ap (λ (b : CallBlocks). b.freed) (all_freed p.frees))

    pub as_many_freed : length blocks.freed ≡ length pending.frees.items
    as_many_freed =
        let offs = ap length freed_offs in let freed = length-map blocks.freed (λ (f : Freed). f.off) in let ids = length-map p.frees (λ (id : Oid). id.off) in
        let listed = ap (λ (ids : List Oid). length ids) h.listed.frees in omega (arith, offs, freed, ids, listed)

    pub as_many_made : length blocks.made ≡ length pending.reserved.items
    as_many_made =
        let more = (count_made p.reserved (with_all_freed p.frees no_blocks)).0 in let none = ap (λ (b : CallBlocks). length b.made) (all_freed p.frees) in
        let made = ap (λ (ns : List NewObject). length ns) lists_so.made in let as_many = length-map blocks.made new_of in
        let reserved = ap (λ (rs : List Reserved). length rs) h.listed.reserved in let as_reserved = length-map p.reserved reserved_as in
        omega (arith, more, none, made, as_many, reserved, as_reserved)

    pub freed_once : IsDistinct nat_eq (map (λ (f : Freed). f.off) blocks.freed)
    freed_once = subst (IsDistinct nat_eq) (sym freed_offs) named_once

    pub freed_under : (f : Freed) → Contains blocks.freed f → IsUnderLock v f.off f.lines
    freed_under f there =
        let held : HasBlock lane.locks.items f.off f.lines = All-contains (IsHeldFreed lane.locks.items) blocks.freed f lists.held there in
        record {
          lock = view_lock held.lock;
          held = subst (λ (ls : List Lock). Contains ls (view_lock held.lock)) h.seen.locks (made_member view_lock lane.locks.items held.lock held.held);
          write = held.write;
          block = held.block;
          place = held.place;
        }

    pub freed_not_root : (f : Freed) → Contains blocks.freed f → slice_index v.words 64 ≢ f.off
    freed_not_root f there same =
        let place = (freed_under f there).place in
        let named = member_made (λ (id : Oid). id.off) p.frees f.off (subst (λ (offs : List ℕ). Contains offs f.off) freed_offs (made_member (λ (g : Freed). g.off) blocks.freed f there)) in
        All-contains (λ (id : Oid). root_in (slice_index v.words) ≢ Some id.off) p.frees named.0 h.not_root named.1.0
        (root_there (slice_index v.words) f.off (omega (arith, place)) same ∙ ap (λ (n : ℕ). Some n) (sym named.1.1))

    pub made_within : (m : Made) → Contains blocks.made m → LiesInReserved v (new_of m)
    made_within m there = ⊎_elim
        (λ (was : Contains no_blocks.made (new_of m)). absurd (no_member (new_of m) was))
        (λ (of : IsOfReserved p.reserved (new_of m)).
        subst (LiesInReserved v) of.is_it
        (All-contains (LiesInReserved v) (reserved_in v) (reserved_object of.one) h.reserved_within
        (subst (λ (q : Pending). Contains (map reserved_object q.reserved) (reserved_object of.one)) (sym (pending_at_rest v h.untold)) (made_member reserved_object p.reserved of.one of.is_one))))
        (had_or_reserved p.frees p.reserved no_blocks (new_of m) (subst (λ (ns : List NewObject). Contains ns (new_of m)) lists_so.made (made_member new_of blocks.made m there)))

    pub few_entries : length (entries_pending pending v.lanes blocks) ≤ 63
    few_entries =
        let all = length-append (map redo_for pending.sets.items) (entries_of v.lanes blocks) in let sets = length-map pending.sets.items redo_for in
        let both = length-append (map (entry_freeing v.lanes) blocks.freed) (map (entry_making v.lanes) blocks.made) in
        let freed = length-map blocks.freed (entry_freeing v.lanes) in let made = length-map blocks.made (entry_making v.lanes) in
        let frees = as_many_freed in let reserved = as_many_made in let few = few_pending in
        omega (arith, all, sets, both, freed, made, frees, reserved, few)

    pub some_entries : 1 ≤ length pending.frees.items + length pending.reserved.items → 1 ≤ length (entries_pending pending v.lanes blocks)
    some_entries some =
        let all = length-append (map redo_for pending.sets.items) (entries_of v.lanes blocks) in
        let both = length-append (map (entry_freeing v.lanes) blocks.freed) (map (entry_making v.lanes) blocks.made) in
        let freed = length-map blocks.freed (entry_freeing v.lanes) in let made = length-map blocks.made (entry_making v.lanes) in
        let frees = as_many_freed in let reserved = as_many_made in
        omega (arith, some, all, both, freed, made, frees, reserved)

    pub few_blocks : length pending.sets.items + (length blocks.freed + length blocks.made) ≤ 63
    few_blocks = let frees = as_many_freed in let reserved = as_many_made in let few = few_pending in omega (arith, frees, reserved, few)

    -- ---- their entries

    module _ (may : MayPublishBlocks v blocks) where
      pub freed_in_pool : All (λ (f : Freed). IsBlockIn lane.shape.lanes lane.shape.zones (block_freed f)) blocks.freed
      freed_in_pool = let shape = h.seen.shape in subst (λ lanes. All (λ (f : Freed). IsBlockIn lanes lane.shape.zones (block_freed f)) blocks.freed) shape.lanes (subst (λ zones. All (λ (f : Freed). IsBlockIn v.lanes zones (block_freed f)) blocks.freed) shape.zones may.freed)

      pub made_in_pool : All (λ (m : Made). IsBlockIn lane.shape.lanes lane.shape.zones (block_made m)) blocks.made
      made_in_pool = let shape = h.seen.shape in subst (λ lanes. All (λ (m : Made). IsBlockIn lanes lane.shape.zones (block_made m)) blocks.made) shape.lanes (subst (λ zones. All (λ (m : Made). IsBlockIn v.lanes zones (block_made m)) blocks.made) shape.zones may.made)
