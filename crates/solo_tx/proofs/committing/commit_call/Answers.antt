use Rattle.std.proofs.Common.{inl, inr, ⊎_elim, refl, rules, Err}
use Rattle.solo_world.proofs.Sequencing.{runs_err, runs_then}
use Rattle.solo_world.specs.Sequences.{settles}
use Rattle.solo_tx.specs.Sequences.{logs_listed}
use Rattle.solo_tx.proofs.Deciding.{stops_drawn}
use Rattle.solo_tx.proofs.Undoing.{settle_ready}
use Rattle.solo_tx.proofs.CommitSteps.{decidable}
use Rattle.solo_tx.proofs.Committed.{on_err, on_err_so}
use Rattle.solo_tx.proofs.committing.commit_call.Goals as goal

pub settle-requires : goal.settle-requires
settle-requires g c = let may = c.requires.may in settle_ready (g.M.LaneMem.at c.args.lane.now.memory) may.0 may.1.0.memory

pub decide_all-requires : goal.decide_all-requires
decide_all-requires g c =
    let may = c.requires.may in
    record { decidable = decidable g.M.LaneMem.at c.args.lane.now may.0 may.1.0 may.1.1 may.1.2 (g.M.LaneMem.at c.settle.new.mem) c.in_ok-settle.ensures }

pub returns-in_err-settle-clause-stops : goal.returns-in_err-settle-clause-stops
returns-in_err-settle-clause-stops g c =
    let stopped = c.in_err-settle.field-0.0 in
    on_err _ c.from_residual.result
    (inl (refl, (stopped, runs_err (Unit {0}) (g.M.LaneMem.at c.args.lane.now.memory) (g.M.LaneMem.at c.settle.new.mem) settles (logs_listed c.args.lane.now.entries.items) stopped (Err stopped) (search rules) c.in_err-settle.ensures)))

pub returns-clause-stops : goal.returns-clause-stops
returns-clause-stops g c =
    let old = g.M.LaneMem.at c.args.lane.now.memory in
    let mid = g.M.LaneMem.at c.settle.new.mem in
    let new = g.M.LaneMem.at c.decide_all.new.lane.memory in
    on_err_so _ _ c.decide_all.result
    (⊎_elim
    (λ first. inl (first.0, (first.1.0, runs_then old mid new settles (logs_listed c.args.lane.now.entries.items) tt (Err first.1.0) c.in_ok-settle.ensures first.1.1)))
    (λ behind. inr (
      behind.0,
      stops_drawn old mid new c.args.lane.now.records.items c.args.lane.now.entries.items c.decide_all.new.lane.last c.in_ok-settle.ensures behind.1,
    )))
    c.decide_all.ensures.stops
