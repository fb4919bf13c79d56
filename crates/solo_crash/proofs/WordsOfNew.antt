-- Which words actions set: those in an object of a block are none of a block that lies apart.
use Rattle.std.proofs.Common.{◌≡◌, inl, inr, ℕ, ◌+◌, ◌*◌, ◌%◌, ◌≤◌, None, arith}
use Rattle.std.proofs.lemmas.Grind.{div_ceil_times}
use Rattle.pm_layout.specs.Sizes.{class_of, lines_for}
use Rattle.pm_objects.specs.Pool.{block_lines}
use Rattle.pm_image.specs.declared.block.Block.{Block}
use Rattle.pm_image.specs.Contents.{data_words, size_in}
use Rattle.pm_image.specs.HeapFaults.{heap_fault}
use Rattle.pm_image.proofs.FaultFree.{block_good}
use Rattle.pm_image.proofs.HeapWords.{object_fits}
use Rattle.pm_image.proofs.Rooms.{lines_needed}
use Rattle.solo_model.specs.Actions.{Action}
use Rattle.solo_model.specs.Actions.Action.{SetWord}
use Rattle.solo_view.specs.View.{View}
use Rattle.solo_crash.specs.CallBlocks.{block_of}
use Rattle.solo_crash.specs.HeapChanges.{AreDisjoint}
use Rattle.solo_crash.specs.NewObjects.{IsWordOf}
use Rattle.solo_crash.specs.OpenCall.{LiesInNew}
use Rattle.solo_crash.specs.Performing.{entry_for, CanPerform}
use Rattle.solo_crash.proofs.ObjectBytes.{begins_word}

-- blocks that lie apart have no word in common
pub words_apart : (a b : Block) (i : ℕ) → AreDisjoint a b → IsWordOf a i → IsWordOf b i → ⊥
words_apart a b i (inl before) one other = let to = one.to in let from = other.from in omega (arith, before, to, from)
words_apart a b i (inr behind) one other = let to = other.to in let from = one.from in omega (arith, behind, to, from)

-- the word of an action that can be performed is one of its block's
pub performed_word : (w : ℕ → ℕ) (lanes zones : ℕ) → heap_fault w lanes zones ≡ None → (a : Action) → (can : CanPerform w lanes zones a) → IsWordOf can.block (entry_for a).word
performed_word w lanes zones none (SetWord id off value) can =
    let fits : 8 + data_words (size_in w can.block) ≤ 8 * can.block.lines = object_fits w can.block (block_good w lanes zones can.block none can.is_there) in
    let word : can.block.place % 8 ≡ 0 = begins_word w lanes zones can.block can.is_there in
    let begins = can.begins in let inside = can.inside in
    record { from = omega (arith, word, begins); to = omega (arith, fits, word, begins, inside) }

-- and so is that of an action in an object that the call made
pub new_word : (v : View) (a : Action) → (lies : LiesInNew v a) → IsWordOf (block_of lies.new) (entry_for a).word
new_word v (SetWord id off value) lies =
    let size : ℕ = lies.new.size in
    let needed : lines_for size ≤ block_lines (class_of size) = lines_needed size in
    let lines = div_ceil_times size 64 (omega arith) in
    let begins = lies.begins in let behind = lies.behind in let inside = lies.inside in
    record { from = omega (arith, begins, behind); to = omega (arith, needed, lines, begins, behind, inside) }
