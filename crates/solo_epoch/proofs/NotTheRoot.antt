-- An object that a call of a lane alone made is not the pool's root: the root stands in a block of the words, and the object in none of these.
use Rattle.std.proofs.Common.{◌≡◌, ◌≢◌, ⊎_elim, ℕ, ◌+◌, ◌*◌, ◌≤◌, ◌++◌, Bool, true, false, cond, not, eqb, eqb-true, Contains, List, slice_index, None, Some, refl, sym, ap, ◌∙◌, arith}
use Rattle.std.specs.List.{list_any}
use Rattle.std.proofs.lemmas.Bool.{false≢true}
use Rattle.std.proofs.lemmas.List.Elements.{All-contains, Contains-append_left}
use Rattle.std.proofs.lemmas.List.Folds.{Any-from_list_any}
use Rattle.std.proofs.lemmas.Option.{none-some}
use Rattle.pm_header.specs.declared.header.Header.{Header}
use Rattle.pm_image.specs.declared.block.Block.{Block}
use Rattle.pm_image.specs.Blocks.{blocks}
use Rattle.pm_image.specs.Contents.{offset_in}
use Rattle.pm_image.specs.HeapFaults.{bad_root, heap_fault}
use Rattle.pm_image.proofs.Pools.{no_bad_root, no_root_fault}
use Rattle.pm_objects.specs.declared.ids.Oid.{Oid}
use Rattle.pm_objects.specs.declared.pool.PoolView.{PoolView}
use Rattle.solo_view.specs.Steps.{Step}
use Rattle.solo_view.specs.View.{View}
use Rattle.solo_world.specs.Opening.{Opening}
use Rattle.solo_crash.specs.Alone.{WorksAlone}
use Rattle.solo_crash.specs.CallBlocks.{NewObject, block_of, blocks_in}
use Rattle.solo_crash.specs.Operations.{IsMade}
use Rattle.solo_crash.specs.Reserved.{IsBorneOut, IsReservedFor, root_in}
use Rattle.solo_epoch.proofs.GainedObjects.{stood}
use Rattle.solo_epoch.proofs.HeldApart.{block_has_lines, opening_apart, opening_has_lines, opening_has_no_fault}
use Rattle.solo_epoch.proofs.StayingBorneOut.{root_stands}

-- where words without a fault have a root, a block begins 64 bytes before it
root_block : (w : ℕ → ℕ) (lanes zones off : ℕ) → heap_fault w lanes zones ≡ None → root_in w ≡ Some off → (b : Block) × (Contains (blocks w lanes zones) b × (offset_in b ≡ off))
unfolding bad_root
root_block w lanes zones off none is = at (eqb (w 64) 0) is (no_bad_root w (blocks w lanes zones) (no_root_fault w lanes zones none)) where
  found : (some : Bool) → list_any (λ block. eqb (offset_in block) (w 64)) (blocks w lanes zones) ≡ some → not some ≡ false → w 64 ≡ off → (b : Block) × (Contains (blocks w lanes zones) b × (offset_in b ≡ off))
  found false any good same = absurd (false≢true (sym good))
  found true any good same = let t = Any-from_list_any (λ (block : Block). eqb (offset_in block) (w 64)) (blocks w lanes zones) any in (t.1, ((t.0, t.2, t.3), eqb-true (offset_in t.1) (w 64) t.4 ∙ same))

  at : (zero : Bool) → cond zero None (Some (w 64)) ≡ Some off → cond zero false (not (list_any (λ block. eqb (offset_in block) (w 64)) (blocks w lanes zones))) ≡ false → (b : Block) × (Contains (blocks w lanes zones) b × (offset_in b ≡ off))
  at true root good = absurd (none-some off root)
  at false root good = found (list_any (λ block. eqb (offset_in block) (w 64)) (blocks w lanes zones)) refl good cc

module _ (o : Opening) (header : Header) (pool : PoolView) (start v : View) (steps : List Step) (works : WorksAlone o header pool start steps v) where
  reserved_is_no_root : (n : NewObject) → IsReservedFor v n → root_in (slice_index v.words) ≢ Some n.off
  reserved_is_no_root n reserved is =
      let none = opening_has_no_fault o header pool start v steps works in
      let s = stood o header pool start v steps works in
      let same : root_in (slice_index o.words) ≡ root_in (slice_index v.words) = ap (λ i. cond (eqb i 0) None (Some i)) (sym (root_stands o header pool start v steps works)) in
      let t = root_block (slice_index o.words) o.lanes o.zones n.off none (same ∙ is) in
      let b : Block = t.0 in
      let there : Contains (blocks (slice_index o.words) o.lanes o.zones) b = t.1.0 in
      let place : b.place + 64 ≡ n.off = t.1.1 in
      let lines = opening_has_lines o header pool v s none b there in
      let lines_too = block_has_lines n in
      ⊎_elim
      (λ (before : (block_of n).place + 64 * (block_of n).lines ≤ b.place). absurd (omega (arith, before, lines_too, place)))
      (λ (behind : b.place + 64 * b.lines ≤ (block_of n).place). absurd (omega (arith, behind, lines, place)))
      (opening_apart o header pool v s none n reserved b there)

  pub made_is_no_root : (id : Oid) → IsBorneOut v → IsMade v id → root_in (slice_index v.words) ≢ Some id.off
  made_is_no_root id borne_out made is =
      let there : Contains ((blocks_in v).made ++ (blocks_in v).dropped) made.new = Contains-append_left (blocks_in v).made (blocks_in v).dropped made.new made.has in
      reserved_is_no_root made.new (All-contains (IsReservedFor v) ((blocks_in v).made ++ (blocks_in v).dropped) made.new borne_out.made there) (is ∙ ap (λ off. Some off) made.place)
