-- What the recovery of an image comes to, with a stop number and without one.
use Rattle.std.proofs.Common.{◌≡◌, ℕ, List, length, Option, None, Some, ap, subst, sym}
use Rattle.pm_objects.specs.declared.pool.PoolView.{PoolView}
use Rattle.pm_image.specs.Means.{IsMeaning}
use Rattle.pm_recover.specs.Recovery.{HasMeaning, IsRecovered}
use Rattle.pm_reopen.specs.Ends.{end_of}
use Rattle.pm_reopen.specs.Plan.{plan}
use Rattle.pm_reopen.specs.Premise.{HasNoTornClearing, IsRecoverable}
use Rattle.pm_reopen.specs.Running.{IsLeft, words_left}
use Rattle.pm_reopen.specs.declared.end.RecoverEnd.{RecoverEnd}
use Rattle.pm_reopen.specs.declared.end.RecoverEnd.TheVariants.{Whole}
use Rattle.pm_commands.specs.Recovered.{IsRecovery}

pub with_stop : (image left : List ℕ) (asked : Option ℕ) (stop keep : ℕ) (end : RecoverEnd) → HasMeaning image → asked ≡ Some stop
    → ((pool : PoolView) → IsMeaning image pool → end ≡ end_of (length (plan image pool.lanes)) stop)
    → ((pool : PoolView) → IsMeaning image pool → IsLeft image pool.lanes stop keep left)
    → ((pool : PoolView) (calls : ℕ) → IsMeaning image pool → end ≡ Whole calls → IsRecovered image left pool.lanes × IsRecoverable left pool)
    → ((pool : PoolView) → IsMeaning image pool → HasNoTornClearing image pool.lanes → IsRecoverable left pool)
    → IsRecovery image asked keep end left
with_stop image left asked stop keep end means is ends left_is whole again =
    subst (λ (o : Option ℕ). IsRecovery image o keep end left) (sym is)
    (record {
      pool = means.0;
      means = means.1;
      ends = ends means.0 means.1;
      is_left = left_is means.0 means.1;
      whole = λ calls so. whole means.0 calls means.1 so;
      again = again means.0 means.1;
    })

pub without_stop : (image left : List ℕ) (asked : Option ℕ) (keep calls : ℕ) → HasMeaning image → asked ≡ None
    → ((pool : PoolView) → IsMeaning image pool → calls ≡ length (plan image pool.lanes))
    → ((pool : PoolView) → IsMeaning image pool → left ≡ words_left image pool.lanes)
    → ((pool : PoolView) → IsMeaning image pool → IsRecovered image left pool.lanes)
    → ((pool : PoolView) → IsMeaning image pool → IsRecoverable left pool)
    → IsRecovery image asked keep (Whole calls) left
without_stop image left asked keep calls means is all made recovered again =
    subst (λ (o : Option ℕ). IsRecovery image o keep (Whole calls) left) (sym is)
    (record {
      pool = means.0;
      means = means.1;
      ends = ap Whole (all means.0 means.1);
      is_left = made means.0 means.1;
      whole = λ calls so. (recovered means.0 means.1, again means.0 means.1);
      again = λ torn. again means.0 means.1;
    })
