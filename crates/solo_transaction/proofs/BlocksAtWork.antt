-- What a transaction of a lane that works alone freed lies under its locks, each object once, and is not the root; and its log has room for the entries of the blocks of
-- all that it made and freed, which the lane may enter.
use Rattle.std.proofs.Common.{◌≡◌, ◌≢◌, ℕ, ◌+◌, ◌≤◌, Contains, List, [], length, map, None, slice_index, ap, subst, arith}
use Rattle.std.specs.Prelude.{nat_eq}
use Rattle.std.specs.List.{IsDistinct}
use Rattle.std.proofs.lemmas.List.{length-map}
use Rattle.std.proofs.lemmas.List.Elements.{All-append, All-contains}
use Rattle.pm_header.specs.declared.header.Header.{Header}
use Rattle.pm_image.specs.HeapFaults.{heap_fault}
use Rattle.pm_objects.specs.declared.history.TxErr.TheVariants as error
use Rattle.pm_objects.specs.declared.pool.PoolView.{PoolView}
use Rattle.solo_model.specs.Actions.{none_pending}
use Rattle.solo_model.specs.declared.stage.Stage.TheVariants as model_stage
use Rattle.solo_redo.specs.Entering.{EntersHeap}
use Rattle.solo_view.specs.Steps.{Step}
use Rattle.solo_view.specs.View.{Lock, View}
use Rattle.solo_world.specs.Lanes.{lock_of as view_lock}
use Rattle.solo_world.specs.Opening.{Opening}
use Rattle.solo_world.specs.declared.lane.Lane.{Lane}
use Rattle.solo_crash.proofs.AloneCourse.{StandsAlone}
use Rattle.solo_crash.proofs.CallWords.{as_many_entries}
use Rattle.solo_crash.proofs.Includes.{made_member}
use Rattle.solo_crash.specs.Alone.{WorksAlone}
use Rattle.solo_crash.specs.CallBlocks.{NewObject, blocks_in}
use Rattle.solo_crash.specs.OpenCall.{ComesTo}
use Rattle.solo_crash.specs.Pending.{pending_before, published_in, told_in}
use Rattle.solo_crash.specs.Reserved.{root_in}
use Rattle.solo_epoch.proofs.CallPools.{call_comes, call_has_no_fault}
use Rattle.solo_epoch.proofs.GainedObjects.{stood}
use Rattle.solo_epoch.proofs.HeldApart.{opening_has_no_fault}
use Rattle.solo_epoch.proofs.StandingPools.{reached, words_behind}
use Rattle.solo_made.specs.declared.objects.Freed.{Freed}
use Rattle.solo_made.specs.declared.objects.Made.{Made}
use Rattle.solo_made.specs.Entries.{entry_freeing, entry_making}
use Rattle.solo_made.specs.Made.{BlockLists, new_of}
use Rattle.solo_transaction.proofs.BlockChanges.{FreesAll, MakesAll, frees_all, frees_so, makes_all, makes_so}
use Rattle.solo_transaction.proofs.FreeReplies.{freed_is_no_root}
use Rattle.solo_transaction.proofs.Frees.{root_there}
use Rattle.solo_transaction.proofs.ModelEntries.{HasRoomLeft, runs_room, named_before, sets_named_once}
use Rattle.solo_transaction.specs.AtWork.{HasBlock, IsAtWorkWith, IsHeldFreed, IsUnderLock, LiesInReserved}
use Rattle.solo_transaction.specs.Committing.{MayPublishBlocks}

module _ {M : Type 0} (o : Opening) (at : M → View → Type 0) (lane : Lane M) (blocks : BlockLists) (header : Header) (pool : PoolView) (start v : View) (steps : List Step) (works : WorksAlone o header pool start steps v)
    (is : IsAtWorkWith o at lane blocks v) where
  s : StandsAlone o header pool v
  s = stood o header pool start v steps works

  abbrev comes : ComesTo v (words_behind o header pool v s) header (reached o header pool v s).last lane.level model_stage.Work error.None
  comes = call_comes o header pool v s is.work.working.is_open lane.level model_stage.Work error.None is.work.under_way is.borne_out

  no_fault : heap_fault (slice_index v.words) o.lanes o.zones ≡ None
  no_fault = call_has_no_fault o header pool v s is.work.working.is_open lane.level model_stage.Work error.None is.work.under_way is.borne_out

  left : HasRoomLeft comes.tx
  left = runs_room (told_in v) (reached o header pool v s).last (pending_before v) comes.tx (named_before none_pending v.entries (sets_named_once [])) comes.runs

  -- each is freed once
  pub freed_once : IsDistinct nat_eq (blocks_in v).freed
  freed_once = subst (IsDistinct nat_eq) comes.tracks.freed left.once

  -- and there is room
  pub entries_fit : length (published_in v) + (length blocks.freed + length blocks.made) ≤ 63
  entries_fit =
      let room = left.room in
      let so_far = as_many_entries v (words_behind o header pool v s) header (reached o header pool v s).last lane.level comes in
      let made = ap (λ (ns : List NewObject). length ns) is.lists.made in let made_long = length-map blocks.made new_of in
      let freed = ap (λ (offs : List ℕ). length offs) is.lists.freed in let freed_long = length-map blocks.freed (λ (f : Freed). f.off) in
      omega (arith, room, so_far, made, made_long, freed, freed_long)

  -- ---- where it lies

  pub freed_under : (f : Freed) → Contains blocks.freed f → IsUnderLock v f.off f.lines
  freed_under f there =
      let held : HasBlock lane.locks.items f.off f.lines = All-contains (IsHeldFreed lane.locks.items) blocks.freed f is.freed_held there in
      record {
        lock = view_lock held.lock;
        held = subst (λ (ls : List Lock). Contains ls (view_lock held.lock)) is.work.seen.locks (made_member view_lock lane.locks.items held.lock held.held);
        write = held.write;
        block = held.block;
        place = held.place;
      }

  pub freed_not_root : (f : Freed) → Contains blocks.freed f → slice_index v.words 64 ≢ f.off
  freed_not_root f there same =
      let place = (freed_under f there).place in
      let listed : Contains (blocks_in v).freed f.off = subst (λ (offs : List ℕ). Contains offs f.off) is.lists.freed (made_member (λ (g : Freed). g.off) blocks.freed f there) in
      freed_is_no_root v (root_in (slice_index v.words)) (reached o header pool v s).last (pending_before v) comes.tx f.off comes.runs is.borne_out.root listed
      (root_there (slice_index v.words) f.off (omega (arith, place)) same)

  pub made_lies : (m : Made) → Contains blocks.made m → LiesInReserved v (new_of m)
  made_lies m there = is.within (new_of m) (subst (λ (ns : List NewObject). Contains ns (new_of m)) is.lists.made (made_member new_of blocks.made m there))

  -- ---- so the lane may enter the entries

  frees : FreesAll v blocks.freed
  frees = frees_all v blocks.freed (λ f there. frees_so o header pool v s is.alone (opening_has_no_fault o header pool start v steps works) no_fault f (freed_under f there) (freed_not_root f there))

  makes : MakesAll v blocks.made
  makes = makes_all v blocks.made (λ m there. makes_so o header pool v s is.alone (opening_has_no_fault o header pool start v steps works) no_fault m (made_lies m there))

  pub may_publish_blocks : MayPublishBlocks v blocks
  may_publish_blocks = record {
    freed = frees.in_pool;
    made = makes.in_pool;
    enters = All-append (EntersHeap v) (map (entry_freeing v.lanes) blocks.freed) (map (entry_making v.lanes) blocks.made) frees.enters makes.enters;
    few = entries_fit;
  }
