-- Where a new object was made in a memory of one lane that may be seen as one view, to which the steps led that made it.
use Rattle.std.proofs.Common.{◌≡◌, ℕ, ◌≤◌, Option, refl, subst, sym}
use Rattle.std.specs.Option.{ForSome}
use Rattle.pm_image.specs.declared.block.Block.{Block}
use Rattle.pm_layout.specs.Sizes.{class_of}
use Rattle.solo_memory.specs.Solo.{Sees, Solo}
use Rattle.solo_view.specs.View.{View}
use Rattle.solo_view.specs.Views.{after_all}
use Rattle.solo_alloc.specs.NewObjects.{HasNewObject, fills_block}
use Rattle.solo_alloc.proofs.SomeRoom.{room_then, room_there, room_view}
use Rattle.solo_epoch.specs.Allocating.{LeavesObject}

pub object_leaves : (m : Solo) (v : View) (size kind : ℕ) (block : Block) → HasNewObject (Sees m) v size kind block → LeavesObject m v size kind block
object_leaves m v size kind block has =
    let filled : View → View = λ w. after_all w (fills_block block kind size w) in
    let u : View = filled (room_view (λ w. Sees m (filled w)) v (class_of size) block has) in
    let seen : Sees m u = room_there (λ w. Sees m (filled w)) v (class_of size) block has in
    record {
      view = u;
      seen = seen;
      makes = record {
        made = room_then (λ w. Sees m (filled w)) v (λ w. filled w ≡ u) (class_of size) block has refl;
        within = subst (λ (stop : Option ℕ). ForSome stop (λ s. u.calls ≤ s)) (sym seen.stop) seen.within;
      };
    }
