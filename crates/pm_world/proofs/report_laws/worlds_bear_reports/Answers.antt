use Rattle.std.proofs.Common.{◌≡◌, ℕ, ◌<◌, ⊎_elim}
use Rattle.pm_view.specs.Counts.{IsAtStop}
use Rattle.pm_world.specs.Memory.{StopWord}
use Rattle.pm_world.proofs.report_laws.worlds_bear_reports.Goals as goal

pub returns-clause-numbers : goal.returns-clause-numbers
returns-clause-numbers c = λ o mem views g x. x.counter_room

pub returns-clause-stop : goal.returns-clause-stop
returns-clause-stop c = λ o mem views g x set. ⊎_elim (λ (e : mem StopWord ≡ 0). absurd (set e))
    (λ (e : (k : ℕ) × (k < o.lanes) × IsAtStop (views k)). e) x.stop_word

pub returns-clause-occupancy : goal.returns-clause-occupancy
returns-clause-occupancy c = λ o mem views g x a in_pool. x.bits.occ a in_pool
