-- An object that a lane makes within a call, where it works alone, and that the call may tell (docs/MODEL.md, "From call to call").
use Rattle.std.specs.Prelude.{◌≡◌, ℕ, ◌+◌, ◌*◌, ◌<◌, ◌≤◌, true, IsTrue, is_some, slice_index, All, Contains, List, ◌++◌, Some}
use Rattle.std.specs.Option.{ForSome}
use Rattle.pm_header.specs.declared.header.Header.{Header}
use Rattle.pm_layout.specs.declared.shape.Shape.{Shape}
use Rattle.pm_image.specs.declared.block.Block.{Block}
use Rattle.pm_image.specs.Blocks.{descriptor_word}
use Rattle.solo_memory.specs.Solo.{Sees, Solo}
use Rattle.solo_model.specs.declared.stage.Stage.TheVariants as stage
use Rattle.pm_objects.specs.declared.calls.Operation.TheVariants.{Alloc}
use Rattle.pm_objects.specs.declared.history.TxErr.TheVariants as error
use Rattle.pm_objects.specs.declared.history.Value.TheVariants.{Offset}
use Rattle.pm_objects.specs.declared.pool.PoolView.{PoolView}
use Rattle.solo_view.specs.Steps.{Step}
use Rattle.solo_view.specs.Steps.Step.{Tell}
use Rattle.solo_view.specs.View.{Lock, View}
use Rattle.solo_view.specs.Views.{after}
use Rattle.solo_world.specs.Opening.{Opening}
use Rattle.solo_crash.specs.Alone.{WorksAlone}
use Rattle.solo_crash.specs.CallBlocks.{NewObject, is_freed_in}
use Rattle.solo_crash.specs.OpenCall.{IsUnderWay}
use Rattle.solo_crash.specs.Reserved.{IsBorneOut}
use Rattle.solo_alloc.specs.NewObjects.{CanMakeObject, HasNewObject}

-- ---- the object

-- The steps by which `new_object` makes an object of this size and type in the block led from the one view to the other, and passed no stop number.
pub record MakesObject (v u : View) (size kind : ℕ) (block : Block) : Type 0 where
  pub made : HasNewObject (λ w. w ≡ u) v size kind block
  pub within : ForSome u.stop (λ stop. u.calls ≤ stop)

-- a memory of one lane may be seen as a view to which these steps led
pub record LeavesObject (m : Solo) (v : View) (size kind : ℕ) (block : Block) : Type 0 where
  pub view : View
  pub seen : Sees m view
  pub makes : MakesObject v view size kind block

-- the object in the block, behind the block's first line of 64 bytes
abbrev pub object_in_block : Block → ℕ → ℕ → NewObject
object_in_block block size kind = record { off = block.place + 64; kind = kind; size = size }

-- the view once the call has told the object by its offset
abbrev pub with_object_told : View → NewObject → View
with_object_told u n = after u (Tell (Alloc n.size n.kind) (Some (Offset n.off)))

-- ---- the call

-- the lane holds the lock of the object at the offset, and found its block
pub record IsFoundAt (v : View) (off : ℕ) : Type 0 where
  pub lock : Lock
  pub lines : ℕ
  pub held : Contains v.locks lock
  pub found : lock.block ≡ Some lines
  pub place : off ≡ 64 * lock.line + 64

-- so it does with each object that the open call found and freed: no lock is given back before the call's end
abbrev pub HasLockedFreed : View → Type 0
HasLockedFreed v = (off : ℕ) → is_freed_in v off ≡ true → IsFoundAt v off

-- each chunk of the pool is described by the one view's words as by the other's
abbrev pub HasSameDescriptors : View → View → Type 0
HasSameDescriptors v w = (chunk : ℕ) → chunk < 64 * v.zones → slice_index w.words (descriptor_word v.lanes chunk) ≡ slice_index v.words (descriptor_word v.lanes chunk)

-- The lane works alone with a call under way at this level, and may make an object in a pool of this shape. What it has bears out what the call told of the heap.
-- Under each of its locks it found a block; and of each object that the call found and freed it has the lock.
pub record IsCallAlone (o : Opening) (header : Header) (pool : PoolView) (start : View) (steps : List Step) (v : View) (shape : Shape) (level : ℕ) : Type 0 where
  pub works : WorksAlone o header pool start steps v
  pub can : CanMakeObject v shape
  pub under_way : IsUnderWay v level stage.Work error.None
  pub borne_out : IsBorneOut v
  pub locked : All (λ (l : Lock). IsTrue (is_some l.block)) v.locks
  pub freed : HasLockedFreed v

-- so it does some steps later, at this view
pub record IsCallAloneStill (o : Opening) (header : Header) (pool : PoolView) (start : View) (steps : List Step) (w : View) (shape : Shape) (level : ℕ) : Type 0 where
  pub more : List Step
  pub alone : IsCallAlone o header pool start (steps ++ more) w shape level
