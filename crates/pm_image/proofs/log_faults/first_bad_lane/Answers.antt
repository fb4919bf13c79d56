use Rattle.std.proofs.Common.{not, refl, sym, ◌∙◌, ap, arith}
use Rattle.pm_image.specs.LogFaults.{good_lane}
use Rattle.pm_image.proofs.Firsts.{none_more, first_there, none_at_end}
use Rattle.pm_image.proofs.log_faults.first_bad_lane.Goals as goal

pub loop-lane-init : goal.loop-lane-init
loop-lane-init c = refl

pub loop-lane-preserved : goal.loop-lane-preserved
loop-lane-preserved c =
    none_more ((λ lane. not (good_lane c.args.image.now lane))) c.loop-lane.lane c.loop-lane.invariant (ap not (sym c.is_good_lane.ensures ∙ c.if-not-is_good_lane.false))

pub returns-then-not-is_good_lane : goal.returns-then-not-is_good_lane
returns-then-not-is_good_lane c = sym (first_there ((λ lane. not (good_lane c.args.image.now lane))) (c.args.lanes) c.loop-lane.lane (omega arith) c.loop-lane.invariant (ap not (sym c.is_good_lane.ensures ∙ c.if-not-is_good_lane.true)))

pub returns : goal.returns
returns c = sym (none_at_end ((λ lane. not (good_lane c.args.image.now lane))) (c.args.lanes) c.loop-lane.lane (omega arith) c.loop-lane.invariant)
