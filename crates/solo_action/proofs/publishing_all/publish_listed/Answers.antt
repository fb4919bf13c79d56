use Rattle.std.proofs.Common.{inl, inr, ⊎_elim, refl, rules, Err}
use Rattle.solo_redo.specs.Sequences.{logs}
use Rattle.solo_tx.proofs.Committed.{on_err, on_err_so}
use Rattle.solo_tx.proofs.Undoing.{settle_ready}
use Rattle.solo_world.proofs.Sequencing.{runs_err, runs_then}
use Rattle.solo_world.specs.Sequences.{settles}
use Rattle.solo_action.proofs.LoggedSteps.{may_publish_settled, stops_decided}
use Rattle.solo_action.proofs.publishing_all.publish_listed.Goals as goal

pub settle-requires : goal.settle-requires
settle-requires g c = let may = c.requires.may in settle_ready (g.M.LaneMem.at c.args.lane.now.memory) may.0 may.1.0

pub publish_log-requires : goal.publish_log-requires
publish_log-requires g c =
    let may = c.requires.may in
    record { may = may_publish_settled (g.M.LaneMem.at c.args.lane.now.memory) (g.M.LaneMem.at c.settle.new.mem) may.0 may.1.0 c.args.lane.now.entries.items may.1.1 c.in_ok-settle.ensures }

pub returns-in_err-settle-clause-stops : goal.returns-in_err-settle-clause-stops
returns-in_err-settle-clause-stops g c =
    let stopped = c.in_err-settle.field-0.0 in
    on_err _ c.from_residual.result
    (inl (refl, (stopped, runs_err (Unit {0}) (g.M.LaneMem.at c.args.lane.now.memory) (g.M.LaneMem.at c.settle.new.mem) settles (logs c.args.lane.now.entries.items) stopped (Err stopped) (search rules) c.in_err-settle.ensures)))

pub returns-clause-stops : goal.returns-clause-stops
returns-clause-stops g c =
    let old = g.M.LaneMem.at c.args.lane.now.memory in
    let mid = g.M.LaneMem.at c.settle.new.mem in
    let new = g.M.LaneMem.at c.publish_log.new.lane.memory in
    on_err_so _ _ c.publish_log.result
    (⊎_elim
    (λ first. inl (first.0, (first.1.0, runs_then old mid new settles (logs c.args.lane.now.entries.items) tt (Err first.1.0) c.in_ok-settle.ensures first.1.1)))
    (λ behind. inr (behind.0, stops_decided old mid new c.args.lane.now.entries.items _ c.publish_log.new.lane.last c.in_ok-settle.ensures behind.1)))
    c.publish_log.ensures.stops
