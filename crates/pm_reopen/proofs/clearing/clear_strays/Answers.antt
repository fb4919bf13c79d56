use Rattle.std.proofs.Common.{subst}
use Rattle.std.specs.List.{flat_map}
use Rattle.pm_reopen.specs.Plan.{cleared, cleared_slot, drained, strays}
use Rattle.pm_reopen.specs.Running.{Halts, Makes}
use Rattle.pm_reopen.proofs.Draining.{drain_part}
use Rattle.pm_reopen.proofs.Making.{halts_after, halts_before, makes_then, ran_error}
use Rattle.pm_reopen.proofs.clearing.clear_strays.Goals as goal

pub returns-in_err-clear_slots : goal.returns-in_err-clear_slots
returns-in_err-clear_slots c =
    ran_error c.args.mem.now c.clear_slots.new.mem (cleared c.args.lane (strays c.args.image.now c.args.lane)) c.from_residual.result c.from_residual.ensures.0
    (halts_before c.args.mem.now c.clear_slots.new.mem (flat_map (cleared_slot c.args.lane) (strays c.args.image.now c.args.lane)) (drained (strays c.args.image.now c.args.lane)) c.in_err-clear_slots.ensures)

pub returns-in_err-drain_changes : goal.returns-in_err-drain_changes
returns-in_err-drain_changes c =
    ran_error c.args.mem.now c.drain_changes.new.mem (cleared c.args.lane (strays c.args.image.now c.args.lane)) c.from_residual-in_err-drain_changes.result c.from_residual-in_err-drain_changes.ensures.0
    (halts_after c.args.mem.now c.clear_slots.new.mem c.drain_changes.new.mem (flat_map (cleared_slot c.args.lane) (strays c.args.image.now c.args.lane)) (drained (strays c.args.image.now c.args.lane)) c.in_ok-clear_slots.ensures
    (subst (Halts c.clear_slots.new.mem c.drain_changes.new.mem) (drain_part c.args.mem.now c.clear_slots.new.mem c.args.lane (strays c.args.image.now c.args.lane) c.requires.drained c.in_ok-clear_slots.ensures) c.in_err-drain_changes.ensures))

pub returns : goal.returns
returns c =
    makes_then c.args.mem.now c.clear_slots.new.mem c.drain_changes.new.mem (flat_map (cleared_slot c.args.lane) (strays c.args.image.now c.args.lane)) (drained (strays c.args.image.now c.args.lane)) c.in_ok-clear_slots.ensures
    (subst (Makes c.clear_slots.new.mem c.drain_changes.new.mem) (drain_part c.args.mem.now c.clear_slots.new.mem c.args.lane (strays c.args.image.now c.args.lane) c.requires.drained c.in_ok-clear_slots.ensures) c.in_ok-drain_changes.ensures)
