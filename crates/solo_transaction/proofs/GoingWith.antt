-- What a lane has with its lists of a transaction stays so behind what tells nothing of the heap, and changes no word that describes a chunk, nor the root's.
use Rattle.std.proofs.Common.{◌≡◌, inl, inr, ℕ, zero, suc, ◌+◌, ◌*◌, ◌<◌, ◌||◌, List, [], ◌∷◌, ◌++◌, Contains, map, slice_index, Option, refl, sym, ap, ◌∙◌, subst, arith}
use Rattle.std.specs.List.{All, list_any}
use Rattle.std.proofs.lemmas.List.Elements.{All-contains, All-contains_itself, All-weaker}
use Rattle.pm_image.specs.Blocks.{chunk_word, descriptor_word}
use Rattle.pm_layout.specs.Sizes.{blocks_of}
use Rattle.solo_made.specs.Made.{BlockLists, ListsBlocks}
use Rattle.solo_model.specs.Actions.{Pending}
use Rattle.solo_model.specs.Bytes.{is_among}
use Rattle.pm_objects.specs.declared.calls.Operation.{Operation}
use Rattle.pm_objects.specs.declared.history.Value.{Value}
use Rattle.solo_view.specs.declared.occ.Occ.{Occ}
use Rattle.solo_view.specs.declared.occ.Occ.TheVariants.{Zone}
use Rattle.solo_view.specs.Founds.{FindsKnown, IsAlone}
use Rattle.solo_view.specs.Steps.Step.{Load}
use Rattle.solo_view.specs.View.{View}
use Rattle.solo_view.specs.Views.{after, has_bit, reserves}
use Rattle.solo_world.specs.Opening.{Opening}
use Rattle.solo_world.specs.declared.lane.HeldLock.{HeldLock}
use Rattle.solo_world.specs.declared.lane.Lane.{Lane}
use Rattle.solo_crash.proofs.AloneMemory.{load_words}
use Rattle.solo_crash.proofs.CallBlocks.{same_blocks}
use Rattle.solo_crash.specs.Pending.{pending_in}
use Rattle.solo_crash.specs.CallBlocks.{CallBlocks, IsOldIn, LeavesReserved, NewObject, TellsOfRoot, blocks_in, is_at, reserved_in, reserved_object}
use Rattle.solo_crash.specs.HeapChanges.{run_at}
use Rattle.solo_crash.specs.NewObjects.{block_of_chunks, block_of_run}
use Rattle.solo_crash.specs.Operations.{KeepsKnown, TellsNothing}
use Rattle.solo_crash.specs.Reserved.{IsBorneOut, IsReservedInChunks, IsReservedInRun, LiesFree}
use Rattle.solo_crash.specs.Reserving.{HasReserved}
use Rattle.solo_crash.proofs.PendingOn.{pending_once_more, pending_same}
use Rattle.solo_crash.proofs.ReservedStays.{quietly_stays}
use Rattle.solo_crash.proofs.StillReserved.{HasSameHeads, borne_on, borne_still, reserved_behind, free_still}
use Rattle.solo_tx.specs.AtWork.{IsAtWork}
use Rattle.solo_tx.proofs.LookedOn.{looked_once}
use Rattle.solo_tx.specs.Learning.{Looks}
use Rattle.solo_transaction.proofs.NotMaking.{not_making_still}
use Rattle.solo_transaction.specs.AtWork.{AreForPool, IsAtWorkWith, IsHeldFreed, IsNotMaking, LiesInReserved}

-- all that it has but for being at work
pub record Keeps (locks : List HeldLock) (blocks : BlockLists) (v : View) : Type 0 where
  pub lists : ListsBlocks blocks (blocks_in v)
  pub pages : AreForPool blocks v
  pub alone : IsAlone v
  pub not_making : IsNotMaking v
  pub borne_out : IsBorneOut v
  pub freed_held : All (IsHeldFreed locks) blocks.freed
  pub within : (n : NewObject) → Contains (blocks_in v).made n → LiesInReserved v n
  pub has_reserved : HasReserved v
  pub reserved_within : All (LiesInReserved v) (reserved_in v)
  pub reserved_free : All (LiesFree v) (reserved_in v)

pub kept_of : {M : Type 0} (o : Opening) (at : M → View → Type 0) (lane : Lane M) (blocks : BlockLists) (v : View) → IsAtWorkWith o at lane blocks v → Keeps lane.locks.items blocks v
kept_of o at lane blocks v all = record { lists = all.lists; pages = all.pages; alone = all.alone; not_making = all.not_making; borne_out = all.borne_out; freed_held = all.freed_held; within = all.within; has_reserved = all.has_reserved; reserved_within = all.reserved_within; reserved_free = all.reserved_free }

pub with_lists : {M : Type 0} (o : Opening) (at : M → View → Type 0) (lane : Lane M) (blocks : BlockLists) (v : View) → IsAtWork o at lane v → Keeps lane.locks.items blocks v → IsAtWorkWith o at lane blocks v
with_lists o at lane blocks v work keeps =
    record { work = work; lists = keeps.lists; pages = keeps.pages; alone = keeps.alone; not_making = keeps.not_making; borne_out = keeps.borne_out; freed_held = keeps.freed_held; within = keeps.within; has_reserved = keeps.has_reserved; reserved_within = keeps.reserved_within; reserved_free = keeps.reserved_free }

-- ---- what the lane reserved

-- the lane has reserved the same, and no word changed that describes a chunk
pub record ReservesSame (v w : View) : Type 0 where
  pub lanes : w.lanes ≡ v.lanes
  pub zones : w.zones ≡ v.zones
  pub reserved : w.reserved ≡ v.reserved
  pub described : (c : ℕ) → c < 64 * v.zones → slice_index w.words (descriptor_word v.lanes c) ≡ slice_index v.words (descriptor_word v.lanes c)

module _ (v w : View) (same : ReservesSame v w) where
  reserves_still : (at : Occ) (bit : ℕ) → reserves w at bit ≡ reserves v at bit
  reserves_still at bit = ap (list_any (has_bit at bit)) same.reserved

  in_run_still : (n : NewObject) (run : IsReservedInRun v n) → run.index < blocks_of run.lines → LiesInReserved w n
  in_run_still n run inside =
      let in_pool = run.in_pool in let zones = same.zones in
      inl (
        record {
          chunk = run.chunk;
          lines = run.lines;
          index = run.index;
          in_pool = omega (arith, in_pool, zones);
          low = run.low;
          described = ap (λ (m : ℕ). slice_index w.words (descriptor_word m run.chunk)) same.lanes ∙ (same.described run.chunk run.in_pool ∙ run.described);
          reserved = reserves_still (run_at w.lanes run.chunk) run.index ∙ (ap (λ (m : ℕ). reserves v (run_at m run.chunk) run.index) same.lanes ∙ run.reserved);
          is_block = run.is_block ∙ ap (λ (m : ℕ). block_of_run m run.chunk run.lines run.index) (sym same.lanes);
        },
        inside,
      )

  in_chunks_still : (n : NewObject) → IsReservedInChunks v n → IsReservedInChunks w n
  in_chunks_still n has =
      let in_pool = has.in_pool in let zones = same.zones in let fits = has.fits in
      record {
        zone = has.zone;
        first = has.first;
        count = has.count;
        in_pool = omega (arith, in_pool, zones);
        low = has.low;
        fits = has.fits;
        unused = λ j near.
            let t = has.unused j near in
            let inside : 64 * has.zone + (has.first + j) < 64 * v.zones = omega (arith, in_pool, fits, near) in
            record {
              reserved = reserves_still (Zone has.zone) (has.first + j) ∙ t.reserved;
              undescribed = ap (λ (m : ℕ). slice_index w.words (descriptor_word m (64 * has.zone + (has.first + j)))) same.lanes ∙ (same.described (64 * has.zone + (has.first + j)) inside ∙ t.undescribed);
            };
        is_block = has.is_block ∙ ap (λ (m : ℕ). block_of_chunks m (64 * has.zone + has.first) has.count) (sym same.lanes);
      }

  pub lies_by : (n : NewObject) → LiesInReserved v n → LiesInReserved w n
  lies_by n (inl run) = in_run_still n run.0 run.1
  lies_by n (inr has) = inr (in_chunks_still n has)

module _ (v w : View) (same : HasSameHeads v w) where
  pub lies_still : (n : NewObject) → LiesInReserved v n → LiesInReserved w n
  lies_still = lies_by v w (record { lanes = same.lanes; zones = same.zones; reserved = same.reserved; described = same.described })

  module _ (locks : List HeldLock) (blocks : BlockLists) (keeps : Keeps locks blocks v) (table : w.table ≡ v.table) (zones : w.zone_locks ≡ v.zone_locks) (same_lists : blocks_in w ≡ blocks_in v) where
    lists_still : ListsBlocks blocks (blocks_in w)
    lists_still = subst (ListsBlocks blocks) (sym same_lists) keeps.lists

    within_still : (n : NewObject) → Contains (blocks_in w).made n → LiesInReserved w n
    within_still n there = lies_still n (keeps.within n (subst (λ (b : CallBlocks). Contains b.made n) same_lists there))

    pages_still : AreForPool blocks w
    pages_still = let pages = keeps.pages in let lanes = same.lanes in let zones = same.zones in omega (arith, pages, lanes, zones)

    -- what is reserved behind an operation that leaves it was before
    reserved_told : (op : Operation) (reply : Option Value) → w.entries ≡ v.entries → w.call ≡ v.call ++ record { operation = op; reply = reply } ∷ [] → LeavesReserved op reply (pending_in v) → All (LiesInReserved w) (reserved_in w)
    reserved_told op reply entries call leaves =
        All-weaker (Contains (reserved_in w)) (LiesInReserved w)
        (λ n there. lies_still n
        (All-contains (LiesInReserved v) (reserved_in v) n keeps.reserved_within
        (reserved_behind op reply (pending_in v) leaves n (subst (λ (p : Pending). Contains (map reserved_object p.reserved) n) (pending_once_more v w op reply entries call) there))))
        (reserved_in w) (All-contains_itself (reserved_in w))

    reserved_quiet : w.entries ≡ v.entries → w.call ≡ v.call → All (LiesInReserved w) (reserved_in w)
    reserved_quiet entries call =
        subst (λ (p : Pending). All (LiesInReserved w) (map reserved_object p.reserved)) (sym (pending_same v w entries call))
        (All-weaker (LiesInReserved v) (LiesInReserved w) lies_still (reserved_in v) keeps.reserved_within)

    free_told : (op : Operation) (reply : Option Value) → w.entries ≡ v.entries → w.call ≡ v.call ++ record { operation = op; reply = reply } ∷ [] → LeavesReserved op reply (pending_in v) → All (LiesFree w) (reserved_in w)
    free_told op reply entries call leaves =
        All-weaker (Contains (reserved_in w)) (LiesFree w)
        (λ n there. free_still v w same n
        (All-contains (LiesFree v) (reserved_in v) n keeps.reserved_free
        (reserved_behind op reply (pending_in v) leaves n (subst (λ (p : Pending). Contains (map reserved_object p.reserved) n) (pending_once_more v w op reply entries call) there))))
        (reserved_in w) (All-contains_itself (reserved_in w))

    free_quiet : w.entries ≡ v.entries → w.call ≡ v.call → All (LiesFree w) (reserved_in w)
    free_quiet entries call =
        subst (λ (p : Pending). All (LiesFree w) (map reserved_object p.reserved)) (sym (pending_same v w entries call))
        (All-weaker (LiesFree v) (LiesFree w) (free_still v w same) (reserved_in v) keeps.reserved_free)

    -- where what it has bears out the call still, and what is reserved stands in it
    pub keeps_so : IsBorneOut w → HasReserved w → All (LiesInReserved w) (reserved_in w) → All (LiesFree w) (reserved_in w) → Keeps locks blocks w
    keeps_so borne has reserved free = record {
      lists = lists_still;
      pages = pages_still;
      alone = table ∙ keeps.alone;
      not_making = not_making_still v w same zones keeps.not_making;
      borne_out = borne;
      freed_held = keeps.freed_held;
      within = within_still;
      has_reserved = has;
      reserved_within = reserved;
      reserved_free = free;
    }

    -- behind an operation that tells nothing of the heap
    pub keeps_told : (op : Operation) (reply : Option Value) → w.entries ≡ v.entries → w.call ≡ v.call ++ record { operation = op; reply = reply } ∷ [] → LeavesReserved op reply (pending_in v) → ((root : Option ℕ) → TellsOfRoot root op reply (pending_in v))
        → HasReserved w → Keeps locks blocks w
    keeps_told op reply entries call none no_root has = keeps_so (borne_on v w same op reply entries call none no_root keeps.borne_out) has (reserved_told op reply entries call none) (free_told op reply entries call none)

    -- and where nothing is told
    pub keeps_quiet : w.entries ≡ v.entries → w.call ≡ v.call → HasReserved w → Keeps locks blocks w
    keeps_quiet entries call has = keeps_so (borne_still v w same entries call keeps.borne_out) has (reserved_quiet entries call) (free_quiet entries call)

-- what the call found it found still, where nothing is told
pub old_still : (v w : View) → w.entries ≡ v.entries → w.call ≡ v.call → (off : ℕ) → IsOldIn v off → IsOldIn w off
old_still v w entries call off old =
    let same : blocks_in w ≡ blocks_in v = same_blocks v w entries call in
    record {
      found = ap (λ (b : CallBlocks). list_any (is_at off) b.made || list_any (is_at off) b.dropped) same ∙ old.found;
      kept = ap (λ (b : CallBlocks). is_among b.freed off) same ∙ old.kept;
    }

-- ---- looks

look_heads : (m : View) (word x : ℕ) → x ≡ slice_index m.words word → HasSameHeads m (after m (Load word x))
look_heads m word x found =
    let words : (i : ℕ) → slice_index (after m (Load word x)).words i ≡ slice_index m.words i = λ i. ap (λ (ws : List ℕ). slice_index ws i) (load_words m word x found) in
    record { lanes = refl; zones = refl; reserved = refl; described = λ c in_pool. words (descriptor_word m.lanes c); bitmaps = λ c in_pool run. words (chunk_word m.lanes c); root = words 64 }

looked_quietly : (m : View) (word x : ℕ) → FindsKnown m word x → (after m (Load word x)).locks ≡ m.locks → TellsNothing m (after m (Load word x))
looked_quietly m word x finds locks =
    let on = looked_once m word x finds in
    record { keeps = record { lanes = refl; zones = refl; pool = refl; lane = refl; entries = refl; known = on.remembers }; locks = locks; call = refl }

looked_known : (m : View) (word x : ℕ) → x ≡ slice_index m.words word → KeepsKnown m (after m (Load word x))
looked_known m word x found =
    let words : (i : ℕ) → slice_index (after m (Load word x)).words i ≡ slice_index m.words i = λ i. ap (λ (ws : List ℕ). slice_index ws i) (load_words m word x found) in
    record { known = λ i outside there. words i; recorded = λ i outside is. words i }

pub looks_keep : (locks : List HeldLock) (blocks : BlockLists) (n : ℕ) (v w : View) → Looks n v w → Keeps locks blocks v → Keeps locks blocks w
unfolding Looks
looks_keep locks blocks zero v w is keeps = subst (Keeps locks blocks) (sym is) keeps
looks_keep locks blocks (suc n) v w t keeps =
    let m : View = t.0 in
    let before : Keeps locks blocks m = looks_keep locks blocks n v m t.3 keeps in
    let there : View = after m (Load t.1 t.2) in
    subst (Keeps locks blocks) (sym t.6)
    (keeps_quiet m there (look_heads m t.1 t.2 (t.5.1 before.alone)) locks blocks before refl refl (same_blocks m there refl refl) refl refl
    (quietly_stays m there before.has_reserved (looked_quietly m t.1 t.2 t.5.0 (ap (λ (u : View). u.locks) (sym t.6) ∙ t.7)) (looked_known m t.1 t.2 (t.5.1 before.alone))))
