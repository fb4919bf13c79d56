use Rattle.std.proofs.Common.{◌≡◌, ◌+◌, ℕ, ◌∙◌, subst, arith}
use Rattle.std.specs.List.{flat_map, range_with_len}
use Rattle.pm_reopen.specs.Plan.{lane_plan, plan}
use Rattle.pm_reopen.specs.Running.{Makes}
use Rattle.pm_reopen.proofs.Counting.{makes_long}
use Rattle.pm_reopen.proofs.Inside.{fewer_sound, fewer_targets}
use Rattle.pm_reopen.proofs.Making.{makes_none, parts_halt, parts_made, ran_error}
use Rattle.pm_reopen.proofs.lane.recover_lanes.Goals as goal

pub loop-lane-init : goal.loop-lane-init
loop-lane-init c = record { made = makes_none c.args.mem.now; drained = c.requires.drained }

pub recover_lane-requires-clause-sound : goal.recover_lane-requires-clause-sound
recover_lane-requires-clause-sound c = fewer_sound c.args.image.now c.args.lanes (c.loop-lane.lane + 1) c.requires.sound (omega arith)

pub recover_lane-requires-clause-targets : goal.recover_lane-requires-clause-targets
recover_lane-requires-clause-targets c = fewer_targets c.args.image.now c.args.lanes (c.loop-lane.lane + 1) c.requires.targets (omega arith)

pub recover_lane-requires-clause-words : goal.recover_lane-requires-clause-words
recover_lane-requires-clause-words c =
    makes_long c.args.mem.now c.loop-lane.mem (flat_map (lane_plan c.args.image.now) (range_with_len 0 c.loop-lane.lane)) c.loop-lane.invariant.made ∙ c.requires.words

pub recover_lane-requires-clause-drained : goal.recover_lane-requires-clause-drained
recover_lane-requires-clause-drained c = c.loop-lane.invariant.drained

pub returns-in_err-recover_lane-clause-made : goal.returns-in_err-recover_lane-clause-made
unfolding plan
returns-in_err-recover_lane-clause-made c =
    ran_error c.args.mem.now c.recover_lane.new.mem (plan c.args.image.now c.args.lanes) c.from_residual.result c.from_residual.ensures.0
    (parts_halt (lane_plan c.args.image.now) c.args.mem.now c.loop-lane.mem c.recover_lane.new.mem c.loop-lane.lane c.args.lanes c.loop-lane-test.true c.loop-lane.invariant.made c.in_err-recover_lane.ensures.made)

pub loop-lane-preserved : goal.loop-lane-preserved
loop-lane-preserved c = record {
  made = parts_made (lane_plan c.args.image.now) c.args.mem.now c.loop-lane.mem c.recover_lane.new.mem c.loop-lane.lane c.loop-lane.invariant.made c.in_ok-recover_lane.ensures.made;
  drained = c.in_ok-recover_lane.ensures.drained;
}

pub returns-clause-drained : goal.returns-clause-drained
returns-clause-drained c = c.loop-lane.invariant.drained

pub returns-clause-made : goal.returns-clause-made
unfolding plan
returns-clause-made c =
    let end : c.loop-lane.lane ≡ c.args.lanes = omega arith in
    subst (λ (n : ℕ). Makes c.args.mem.now c.loop-lane.mem (flat_map (lane_plan c.args.image.now) (range_with_len 0 n))) end c.loop-lane.invariant.made
