-- The objects of pending actions under locks that the lane holds: which actions pass an end, and which can be performed.
use Rattle.std.proofs.Common.{◌≡◌, ℕ, Bool, ◌+◌, ◌*◌, ◌<◌, ◌≤◌, true, false, List, length, get_or, slice_index, subst, arith}
use Rattle.std.specs.List.{All, Any, Contains, list_any}
use Rattle.std.proofs.lemmas.Bool.{le-ltb, lt-ltb}
use Rattle.std.proofs.lemmas.List.Folds.{list_any_none, list_any-from_Any}
use Rattle.pm_objects.specs.declared.ids.Oid.{Oid}
use Rattle.pm_image.specs.declared.block.Block.{Block}
use Rattle.pm_image.specs.Blocks.{blocks}
use Rattle.pm_image.specs.Contents.{size_in}
use Rattle.solo_model.specs.Actions.{Action, object_of, passes_object}
use Rattle.solo_model.specs.Actions.Action.{SetWord}
use Rattle.solo_model.specs.Bytes.{bytes_of}
use Rattle.solo_model.specs.Transaction.{Transaction}
use Rattle.solo_view.specs.View.{View}
use Rattle.solo_crash.specs.OnActions.{CanSet, PassesObject}
use Rattle.solo_crash.specs.OpenCall.{call_words}
use Rattle.solo_crash.specs.Operations.{HasRange, IsHeld, PassesEnd}
use Rattle.solo_crash.specs.Performing.{CanPerform}
use Rattle.solo_crash.proofs.CallWords.{IsObjectOf}

-- the lane finds each object that it holds among the transaction's, where its offset is one of these, in words that have the sizes from before
pub record FindsObjects (v : View) (w : ℕ → ℕ) (tx : Transaction) (These : ℕ → Type 0) : Type 0 where
  pub under : (id : Oid) (write : Bool) → These id.off → (held : IsHeld v id write) → Contains v.known (8 * held.lock.line + 1) → IsObjectOf v w tx id held.lock.line
  pub sizes : (block : Block) → Contains (blocks w v.lanes v.zones) block → size_in (call_words v w) block ≡ size_in w block

module _ (v : View) (w : ℕ → ℕ) (tx : Transaction) (These : ℕ → Type 0) (finds : FindsObjects v w tx These) where
  abbrev IsThese : Action → Type 0
  IsThese a = These (object_of a).off

  -- what can be set passes no end
  pub set_is_inside : (a : Action) → IsThese a → CanSet v a → passes_object tx.pool.objects a ≡ false
  set_is_inside (SetWord id off value) of can =
      let has : HasRange v id off 8 true = can.0 in
      let long = (finds.under id true of has.object has.size_known).long in
      let inside : off + 8 ≤ slice_index v.words (8 * has.object.lock.line + 1) = has.inside in
      le-ltb (length (bytes_of tx.pool.objects id.off)) (off + 8) (omega (arith, long, inside))

  pub none_passes_end : (actions : List Action) → All IsThese actions → All (CanSet v) actions → list_any (passes_object tx.pool.objects) actions ≡ false
  none_passes_end actions of each =
      list_any_none (passes_object tx.pool.objects) actions (λ k d inside. set_is_inside (get_or actions k d) (of k d inside) (each k d inside))

  -- what passes an end as the lane knows it does
  pub is_outside : (a : Action) → IsThese a → PassesObject v a → passes_object tx.pool.objects a ≡ true
  is_outside (SetWord id off value) of passes =
      let ends : PassesEnd v id off 8 true = passes in
      let long = (finds.under id true of ends.object ends.size_known).long in
      let outside : slice_index v.words (8 * ends.object.lock.line + 1) < off + 8 = ends.outside in
      lt-ltb (length (bytes_of tx.pool.objects id.off)) (off + 8) (omega (arith, long, outside))

  pub one_passes_end : (actions : List Action) → All IsThese actions → Any (PassesObject v) actions → list_any (passes_object tx.pool.objects) actions ≡ true
  one_passes_end actions of (k, a, inside, at, passes) =
      list_any-from_Any (passes_object tx.pool.objects) actions (k, a, inside, at, is_outside a (subst IsThese at (of k a inside)) passes)

  -- what can be set can be performed
  pub set_performs : (a : Action) → IsThese a → CanSet v a → CanPerform w v.lanes v.zones a
  set_performs (SetWord id off value) of can =
      let has : HasRange v id off 8 true = can.0 in
      let object : IsObjectOf v w tx id has.object.lock.line = finds.under id true of has.object has.size_known in
      let inside : off + 8 ≤ slice_index v.words (8 * has.object.lock.line + 1) = has.inside in
      let now = object.size in
      let before = finds.sizes object.block object.was_there in
      record {
        block = object.block;
        is_there = object.was_there;
        begins = object.offset;
        inside = omega (arith, now, before, inside);
        whole = can.1;
      }

  pub all_perform : (actions : List Action) → All IsThese actions → All (CanSet v) actions → All (CanPerform w v.lanes v.zones) actions
  all_perform actions of each k d inside = set_performs (get_or actions k d) (of k d inside) (each k d inside)

-- the lane holds the object of an action that it can set
pub set_is_held : (v : View) (a : Action) → CanSet v a → IsHeld v (object_of a) true
set_is_held v (SetWord id off value) can = can.0.object
