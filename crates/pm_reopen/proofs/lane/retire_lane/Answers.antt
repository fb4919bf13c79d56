use Rattle.std.proofs.Common.{◌/◌, length, map, subst}
use Rattle.pm_reopen.specs.Plan.{log_end, persisted, written_back}
use Rattle.pm_reopen.specs.Plan.MemoryCall.{Change}
use Rattle.pm_reopen.specs.Running.{Halts, Makes}
use Rattle.pm_reopen.proofs.Draining.{back_drains}
use Rattle.pm_reopen.proofs.Inside.{end_inside}
use Rattle.pm_reopen.proofs.Making.{halts_after, halts_before, makes_then, ran_error}
use Rattle.pm_reopen.proofs.Unflushed.{changes_unflushed}
use Rattle.pm_reopen.proofs.lane.retire_lane.Goals as goal

pub returns-in_err-end_log-clause-made : goal.returns-in_err-end_log-clause-made
returns-in_err-end_log-clause-made c =
    ran_error c.args.mem.now c.end_log.new.mem (persisted (length c.args.image.now / 8) (log_end c.args.image.now c.args.lane)) c.from_residual.result c.from_residual.ensures.0
    (halts_before c.args.mem.now c.end_log.new.mem (map Change (log_end c.args.image.now c.args.lane)) (written_back (length c.args.image.now / 8) (log_end c.args.image.now c.args.lane)) c.in_err-end_log.ensures)

pub returns-in_err-write_back-clause-made : goal.returns-in_err-write_back-clause-made
returns-in_err-write_back-clause-made c =
    let is = changes_unflushed c.args.mem.now c.end_log.new.mem (log_end c.args.image.now c.args.lane) c.requires.drained c.in_ok-end_log.ensures in
    ran_error c.args.mem.now c.write_back.new.mem (persisted (length c.args.image.now / 8) (log_end c.args.image.now c.args.lane)) c.from_residual-in_err-write_back.result c.from_residual-in_err-write_back.ensures.0
    (halts_after c.args.mem.now c.end_log.new.mem c.write_back.new.mem (map Change (log_end c.args.image.now c.args.lane)) (written_back (length c.args.image.now / 8) (log_end c.args.image.now c.args.lane)) c.in_ok-end_log.ensures
    (subst (λ n. Halts c.end_log.new.mem c.write_back.new.mem (written_back (n / 8) (log_end c.args.image.now c.args.lane))) c.len-lines.ensures (c.in_err-write_back.ensures (log_end c.args.image.now c.args.lane) is)))

pub returns-clause-made : goal.returns-clause-made
returns-clause-made c =
    let is = changes_unflushed c.args.mem.now c.end_log.new.mem (log_end c.args.image.now c.args.lane) c.requires.drained c.in_ok-end_log.ensures in
    makes_then c.args.mem.now c.end_log.new.mem c.write_back.new.mem (map Change (log_end c.args.image.now c.args.lane)) (written_back (length c.args.image.now / 8) (log_end c.args.image.now c.args.lane)) c.in_ok-end_log.ensures
    (subst (λ n. Makes c.end_log.new.mem c.write_back.new.mem (written_back (n / 8) (log_end c.args.image.now c.args.lane))) c.len-lines.ensures (c.in_ok-write_back.ensures (log_end c.args.image.now c.args.lane) is))

pub returns-clause-drained : goal.returns-clause-drained
returns-clause-drained c =
    let is = changes_unflushed c.args.mem.now c.end_log.new.mem (log_end c.args.image.now c.args.lane) c.requires.drained c.in_ok-end_log.ensures in
    back_drains c.end_log.new.mem c.write_back.new.mem (length c.args.image.now / 8) (log_end c.args.image.now c.args.lane) is
    (end_inside c.args.image.now c.args.lane c.requires.sound c.requires.lines) (subst (λ n. Makes c.end_log.new.mem c.write_back.new.mem (written_back (n / 8) (log_end c.args.image.now c.args.lane))) c.len-lines.ensures (c.in_ok-write_back.ensures (log_end c.args.image.now c.args.lane) is))
