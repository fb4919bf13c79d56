use Rattle.std.proofs.Common.{◌++◌, ◌/◌, length, ◌∙◌, arith}
use Rattle.pm_reopen.specs.Plan.{cleared, lane_plan, log_end, persisted, strays, writes}
use Rattle.pm_reopen.proofs.Counting.{makes_long}
use Rattle.pm_reopen.proofs.Draining.{cleared_drains}
use Rattle.pm_reopen.proofs.Making.{halts_after, halts_before, makes_then, ran_error}
use Rattle.pm_reopen.proofs.lane.recover_lane.Goals as goal

pub clear_strays-requires-clause-lanes : goal.clear_strays-requires-clause-lanes
clear_strays-requires-clause-lanes c = c.requires.sound.has_lanes

pub clear_strays-requires-clause-generation : goal.clear_strays-requires-clause-generation
clear_strays-requires-clause-generation c = c.requires.sound.last_generation c.args.lane (omega arith)

pub clear_strays-requires-clause-words : goal.clear_strays-requires-clause-words
clear_strays-requires-clause-words c =
    makes_long c.args.mem.now c.restore_lane.new.mem (persisted (length c.args.image.now / 8) (writes c.args.image.now c.args.lane)) c.in_ok-restore_lane.ensures.made ∙ c.requires.words

pub retire_lane-requires-clause-words : goal.retire_lane-requires-clause-words
retire_lane-requires-clause-words c =
    makes_long c.restore_lane.new.mem c.clear_strays.new.mem (cleared c.args.lane (strays c.args.image.now c.args.lane)) c.in_ok-clear_strays.ensures
    ∙ makes_long c.args.mem.now c.restore_lane.new.mem (persisted (length c.args.image.now / 8) (writes c.args.image.now c.args.lane)) c.in_ok-restore_lane.ensures.made ∙ c.requires.words

pub retire_lane-requires-clause-drained : goal.retire_lane-requires-clause-drained
retire_lane-requires-clause-drained c =
    cleared_drains c.restore_lane.new.mem c.clear_strays.new.mem c.args.lane (strays c.args.image.now c.args.lane) c.in_ok-restore_lane.ensures.drained c.in_ok-clear_strays.ensures

pub returns-in_err-restore_lane-clause-made : goal.returns-in_err-restore_lane-clause-made
unfolding lane_plan
returns-in_err-restore_lane-clause-made c =
    ran_error c.args.mem.now c.restore_lane.new.mem (lane_plan c.args.image.now c.args.lane) c.from_residual.result c.from_residual.ensures.0
    (halts_before c.args.mem.now c.restore_lane.new.mem (persisted (length c.args.image.now / 8) (writes c.args.image.now c.args.lane))
    (cleared c.args.lane (strays c.args.image.now c.args.lane) ++ persisted (length c.args.image.now / 8) (log_end c.args.image.now c.args.lane)) c.in_err-restore_lane.ensures.made)

pub returns-in_err-clear_strays-clause-made : goal.returns-in_err-clear_strays-clause-made
unfolding lane_plan
returns-in_err-clear_strays-clause-made c =
    ran_error c.args.mem.now c.clear_strays.new.mem (lane_plan c.args.image.now c.args.lane) c.from_residual-in_err-clear_strays.result c.from_residual-in_err-clear_strays.ensures.0
    (halts_after c.args.mem.now c.restore_lane.new.mem c.clear_strays.new.mem (persisted (length c.args.image.now / 8) (writes c.args.image.now c.args.lane))
    (cleared c.args.lane (strays c.args.image.now c.args.lane) ++ persisted (length c.args.image.now / 8) (log_end c.args.image.now c.args.lane)) c.in_ok-restore_lane.ensures.made
    (halts_before c.restore_lane.new.mem c.clear_strays.new.mem (cleared c.args.lane (strays c.args.image.now c.args.lane)) (persisted (length c.args.image.now / 8) (log_end c.args.image.now c.args.lane)) c.in_err-clear_strays.ensures))

pub returns-in_err-retire_lane-clause-made : goal.returns-in_err-retire_lane-clause-made
unfolding lane_plan
returns-in_err-retire_lane-clause-made c =
    ran_error c.args.mem.now c.retire_lane.new.mem (lane_plan c.args.image.now c.args.lane) c.from_residual-in_err-retire_lane.result c.from_residual-in_err-retire_lane.ensures.0
    (halts_after c.args.mem.now c.restore_lane.new.mem c.retire_lane.new.mem (persisted (length c.args.image.now / 8) (writes c.args.image.now c.args.lane))
    (cleared c.args.lane (strays c.args.image.now c.args.lane) ++ persisted (length c.args.image.now / 8) (log_end c.args.image.now c.args.lane)) c.in_ok-restore_lane.ensures.made
    (halts_after c.restore_lane.new.mem c.clear_strays.new.mem c.retire_lane.new.mem (cleared c.args.lane (strays c.args.image.now c.args.lane)) (persisted (length c.args.image.now / 8) (log_end c.args.image.now c.args.lane)) c.in_ok-clear_strays.ensures
    c.in_err-retire_lane.ensures.made))

pub returns-clause-made : goal.returns-clause-made
unfolding lane_plan
returns-clause-made c =
    makes_then c.args.mem.now c.restore_lane.new.mem c.retire_lane.new.mem (persisted (length c.args.image.now / 8) (writes c.args.image.now c.args.lane))
    (cleared c.args.lane (strays c.args.image.now c.args.lane) ++ persisted (length c.args.image.now / 8) (log_end c.args.image.now c.args.lane)) c.in_ok-restore_lane.ensures.made
    (makes_then c.restore_lane.new.mem c.clear_strays.new.mem c.retire_lane.new.mem (cleared c.args.lane (strays c.args.image.now c.args.lane)) (persisted (length c.args.image.now / 8) (log_end c.args.image.now c.args.lane)) c.in_ok-clear_strays.ensures
    c.in_ok-retire_lane.ensures.made)
