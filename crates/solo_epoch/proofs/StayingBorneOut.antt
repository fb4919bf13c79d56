-- What a lane has bears out what its call told of the heap, from the call's begin on, behind each operation that allocates nothing, and where bytes are written into what is reserved.
use Rattle.std.proofs.Common.{◌≡◌, ℕ, All, List, [], ◌++◌, slice_index, Option, None, sym, ap, ◌∙◌, subst, arith}
use Rattle.std.proofs.lemmas.List.Elements.{All-nil}
use Rattle.pm_header.specs.declared.header.Header.{Header}
use Rattle.pm_objects.specs.declared.calls.Operation.{Operation}
use Rattle.pm_objects.specs.declared.calls.Operation.TheVariants.{Begin}
use Rattle.pm_objects.specs.declared.calls.Want.{Want}
use Rattle.pm_objects.specs.declared.history.Value.{Value}
use Rattle.pm_objects.specs.declared.ids.Oid.{Oid}
use Rattle.pm_objects.specs.declared.pool.PoolView.{PoolView}
use Rattle.solo_view.specs.Steps.{Step}
use Rattle.solo_view.specs.View.{View}
use Rattle.solo_world.specs.Opening.{Opening}
use Rattle.solo_crash.specs.Alone.{WorksAlone}
use Rattle.solo_crash.specs.CallBlocks.{CallBlocks, LeavesReserved, TellsOfRoot, allocated_in, allocated_told, blocks_in, blocks_told, no_blocks, reserved_in}
use Rattle.solo_crash.specs.Operations.{BeginsCall, KeepsLane, Tells}
use Rattle.solo_crash.specs.Pending.{pending_before, pending_in}
use Rattle.solo_crash.specs.Reserved.{IsBorneOut, IsReservedFor, LiesFree, root_in}
use Rattle.solo_crash.specs.Reserving.{HasReserved, WritesReserved}
use Rattle.solo_crash.proofs.BornePuts.{borne_put}
use Rattle.solo_crash.proofs.CallBlocks.{first_agrees}
use Rattle.solo_crash.proofs.LyingStill.{bitmaps_within}
use Rattle.solo_crash.proofs.StillReserved.{HasSameHeads, borne_told}
use Rattle.solo_epoch.specs.Allocating.{HasSameDescriptors}
use Rattle.solo_epoch.proofs.GainedObjects.{stood}
use Rattle.solo_epoch.proofs.PutDescriptors.{put_describes}

pub begun_borne_out : (v : View) (wants : List Want) → BeginsCall v wants → All (IsReservedFor v) (reserved_in v) → IsBorneOut v
unfolding allocated_told blocks_told
begun_borne_out v wants begins pending =
    let none : allocated_in v ≡ [] = ap (allocated_told (pending_before v)) begins.call in
    let none_made : blocks_in v ≡ no_blocks = ap (blocks_told (pending_before v) no_blocks) begins.call in
    record {
      made = subst (λ (b : CallBlocks). All (IsReservedFor v) (b.made ++ b.dropped)) (sym none_made) (All-nil (IsReservedFor v));
      pending = pending;
      free = subst (All (LiesFree v)) (sym none) (All-nil (LiesFree v));
      root = first_agrees v (Begin wants) None begins.call (root_in (slice_index v.words)) tt;
    }

-- the root's word is the opening's
pub root_stands : (o : Opening) (header : Header) (pool : PoolView) (start v : View) (steps : List Step) → WorksAlone o header pool start steps v → slice_index v.words 64 ≡ slice_index o.words 64
root_stands o header pool start v steps works = (stood o header pool start v steps works).goes.front 64 (omega arith)

-- the same is reserved, and the words tell the same of blocks: within one world the bitmap of a run is the same where the chunk is described so
pub same_heads : (o : Opening) (header : Header) (pool : PoolView) (start v w : View) (steps more : List Step) → WorksAlone o header pool start steps v → WorksAlone o header pool start more w → KeepsLane v w
    → w.reserved ≡ v.reserved → HasSameDescriptors v w → HasSameHeads v w
same_heads o header pool start v w steps more works on lane reserved same = record {
  lanes = lane.lanes;
  zones = lane.zones;
  reserved = reserved;
  described = same;
  bitmaps = λ c in_pool run. bitmaps_within o header pool start v w steps more works on lane.lanes lane.zones c in_pool (same c in_pool) run;
  root = root_stands o header pool start w more on ∙ sym (root_stands o header pool start v steps works);
}

pub told_borne_out : (o : Opening) (header : Header) (pool : PoolView) (start v w : View) (steps more : List Step) (op : Operation) (reply : Option Value) → WorksAlone o header pool start steps v
    → WorksAlone o header pool start more w → Tells v w op reply → LeavesReserved op reply (pending_in v) → TellsOfRoot (root_in (slice_index v.words)) op reply (pending_in v) → w.reserved ≡ v.reserved
    → HasSameDescriptors v w → IsBorneOut v → IsBorneOut w
told_borne_out o header pool start v w steps more op reply works on tells none root reserved same =
    borne_told v w (same_heads o header pool start v w steps more works on tells.keeps reserved same) op reply tells.keeps.entries tells.call none root

-- bytes that are written into what is reserved lie in it
pub put_borne_out : (o : Opening) (header : Header) (pool : PoolView) (start v w : View) (steps more : List Step) (id : Oid) (off : ℕ) (bytes : List ℕ) → WorksAlone o header pool start steps v
    → WorksAlone o header pool start more w → HasReserved v → WritesReserved v w id off bytes → w.reserved ≡ v.reserved → IsBorneOut v → IsBorneOut w
put_borne_out o header pool start v w steps more id off bytes works on has writes reserved borne =
    let described : HasSameDescriptors v w = put_describes o header pool start v steps works w id off bytes has borne.pending writes in
    borne_put v w id off bytes (same_heads o header pool start v w steps more works on writes.tells.keeps reserved described) has writes borne
