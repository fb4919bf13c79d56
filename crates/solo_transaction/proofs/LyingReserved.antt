-- What a lane that works alone has of a block that it reserved.
use Rattle.std.proofs.Common.{⊎_elim, inl, inr, List}
use Rattle.solo_crash.specs.Alone.{WorksAlone}
use Rattle.solo_crash.specs.CallBlocks.{NewObject}
use Rattle.solo_crash.specs.Reserved.{IsReservedFor, IsReservedInChunks, IsReservedInRun}
use Rattle.solo_epoch.proofs.PutDescriptors.{lies_whole}
use Rattle.pm_header.specs.declared.header.Header.{Header}
use Rattle.pm_objects.specs.declared.pool.PoolView.{PoolView}
use Rattle.solo_view.specs.Steps.{Step}
use Rattle.solo_view.specs.View.{View}
use Rattle.solo_world.specs.Opening.{Opening}
use Rattle.solo_transaction.specs.AtWork.{LiesInReserved}

-- what a lane that works alone has of a block it has whole
pub lies_in_reserved : (o : Opening) (header : Header) (pool : PoolView) (start : View) (steps : List Step) (v : View) → WorksAlone o header pool start steps v → (n : NewObject) → IsReservedFor v n → LiesInReserved v n
lies_in_reserved o header pool start steps v works n = ⊎_elim
    (λ (run : IsReservedInRun v n). inl (run, lies_whole o header pool start v steps works n run))
    (λ (has : IsReservedInChunks v n). inr has)
