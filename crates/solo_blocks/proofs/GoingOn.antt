-- A lane of the tests that reserved a block is at work still.
use Rattle.std.proofs.Common.{◌≡◌, Result, Ok, Err, IfOk, sym, subst}
use Rattle.pm_image.specs.declared.block.Block.{Block}
use Rattle.pm_layout.specs.declared.shape.Shape.{Shape}
use Rattle.solo_memory.specs.Solo.{Sees, Solo}
use Rattle.solo_blocks.specs.declared.making.NoBlock.{NoBlock}
use Rattle.solo_blocks.specs.NewRuns.{MayGoOn}
use Rattle.solo_blocks.specs.Tests.{IsAtWork}

pub work_goes_on : (new : Solo) (shape other : Shape) → other ≡ shape → (result : Result Block NoBlock) → MayGoOn (Sees new) shape result → IfOk result (λ _. IsAtWork new other)
work_goes_on new shape other same (Ok block) next = subst (IsAtWork new) (sym same) (record { view = next.0; sees = next.1.0; may = next.1.1 })
work_goes_on new shape other same (Err why) next = tt
