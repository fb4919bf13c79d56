-- What stays along the steps that lead from one view to another.
use Rattle.std.proofs.Common.{◌≡◌, List, sym, subst, ◌∙◌}
use Rattle.solo_crash.proofs.Leading.{leads_end}
use Rattle.solo_crash.specs.Leading.{Leads}
use Rattle.solo_view.proofs.SameLane.{same_lane-after_all}
use Rattle.solo_view.specs.Constants.{IsSameLane}
use Rattle.solo_view.specs.Founds.{IsAlone}
use Rattle.solo_view.specs.Steps.{Step}
use Rattle.solo_view.specs.View.{View}

-- the lane
pub same_along : (v w : View) (steps : List Step) → Leads v steps w → IsSameLane v w
same_along v w steps leads = subst (IsSameLane v) (sym (leads_end v w steps leads)) (same_lane-after_all v steps)

pub lane_along : (v w : View) (steps : List Step) → Leads v steps w → v.lane ≡ 0 → w.lane ≡ 0
lane_along v w steps leads lane = (same_along v w steps leads).lane ∙ lane

-- that it is alone
pub alone_along : (v w : View) (steps : List Step) → Leads v steps w → IsAlone v → IsAlone w
alone_along v w steps leads alone = (same_along v w steps leads).table ∙ alone
