use Rattle.std.proofs.Common.{ℕ, List, sym, subst}
use Rattle.pm_recover.specs.Recovery.{IsRecovered}
use Rattle.pm_reopen.specs.Running.{words_left}
use Rattle.pm_reopen.proofs.WholeRecovery.{one_recovered, whole_recovers}
use Rattle.pm_reopen.proofs.laws.whole_recovery_leaves_the_recovered_image.Goals as goal

pub returns : goal.returns
returns c = λ image after pool words means.
    let so : IsRecovered image (words_left image pool.lanes) pool.lanes = whole_recovers image pool words means in (
      λ same. subst (λ (ws : List ℕ). IsRecovered image ws pool.lanes) (sym same) so,
      λ is. one_recovered image after (words_left image pool.lanes) pool.lanes is so,
    )
