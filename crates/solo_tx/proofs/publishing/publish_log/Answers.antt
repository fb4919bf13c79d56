use Rattle.std.proofs.Common.{List, None, OnErr, Some, ap, inr, sym, subst, ◌∙◌, rules}
use Rattle.pm_record.specs.declared.redo.Redo.{Redo}
use Rattle.solo_redo.specs.Sequences.{logs, performs}
use Rattle.solo_world.proofs.Sequencing.{runs_err}
use Rattle.solo_world.specs.Sequences.{IsReady, Runs, in_turn}
use Rattle.solo_world.specs.declared.lane.Lane.{Lane}
use Rattle.solo_tx.proofs.Committed.{on_err_so}
use Rattle.solo_tx.proofs.PublishLog.{log_ready, may_end, may_perform, may_place, published, stops_published}
use Rattle.solo_tx.specs.Publishing.{StopsPublished}
use Rattle.solo_tx.specs.Sequences.{ends_call, performs_logged, publishes}
use Rattle.solo_tx.proofs.publishing.publish_log.Goals as goal

pub write_log-requires-clause-ready : goal.write_log-requires-clause-ready
write_log-requires-clause-ready g c = log_ready (g.M.LaneMem.at c.args.lane.now.memory) c.args.lane.now.entries.items c.requires.may

pub returns-in_err-write_log-clause-ran : goal.returns-in_err-write_log-clause-ran
unfolding publishes
returns-in_err-write_log-clause-ran g c =
    runs_err _ (g.M.LaneMem.at c.args.lane.now.memory) (g.M.LaneMem.at c.write_log.new.lane.memory) (logs c.args.lane.now.entries.items)
    (in_turn (ends_call c.args.operation.now None c.write_log.new.lane.last) (performs_logged c.args.lane.now.entries.items)) c.in_err-write_log.field-0.0 c.from_residual.result (search rules) c.in_err-write_log.ensures.ran

pub end_call-requires : goal.end_call-requires
end_call-requires g c =
    record { ready = may_end (g.M.LaneMem.at c.args.lane.now.memory) c.args.lane.now.entries.items c.requires.may (g.M.LaneMem.at c.write_log.new.lane.memory) c.in_ok-write_log.field-0 c.in_ok-write_log.ensures.ran c.args.operation.now }

pub perform-requires-clause-area : goal.perform-requires-clause-area
perform-requires-clause-area g c =
    may_place (g.M.LaneMem.at c.args.lane.now.memory) c.args.lane.now.entries.items c.requires.may (g.M.LaneMem.at c.write_log.new.lane.memory) c.in_ok-write_log.field-0 c.in_ok-write_log.ensures.ran c.args.operation.now
    (g.M.LaneMem.at c.end_call.new.lane.memory) c.end_call.new.lane.last c.end_call.ensures.made

pub perform-requires-clause-ready : goal.perform-requires-clause-ready
perform-requires-clause-ready g c =
    subst (λ (all : List Redo). IsReady (g.M.LaneMem.at c.end_call.new.lane.memory) (performs all)) (sym (ap (λ (lane : Lane g.row.M.Denot). lane.entries.items) c.end_call.ensures.else_same))
    (may_perform (g.M.LaneMem.at c.args.lane.now.memory) c.args.lane.now.entries.items c.requires.may (g.M.LaneMem.at c.write_log.new.lane.memory) c.in_ok-write_log.field-0 c.in_ok-write_log.ensures.ran c.args.operation.now
    (g.M.LaneMem.at c.end_call.new.lane.memory) c.end_call.new.lane.last c.end_call.ensures.made c.write_log.new.lane.entries.items c.in_ok-write_log.ensures.listed)

pub returns-clause-ran : goal.returns-clause-ran
returns-clause-ran g c =
    let old = g.M.LaneMem.at c.args.lane.now.memory in
    let new = g.M.LaneMem.at c.perform.new.lane.memory in
    let behind = g.M.LaneMem.at c.end_call.new.lane.memory in
    subst (λ n. Runs old new (publishes c.args.lane.now.entries.items c.args.operation.now n) c.perform.result) (sym (ap (λ (lane : Lane g.row.M.Denot). lane.last) c.perform.ensures.else_same))
    (published old (g.M.LaneMem.at c.write_log.new.lane.memory) behind new c.args.lane.now.entries.items c.write_log.new.lane.entries.items c.args.operation.now c.end_call.new.lane.last c.in_ok-write_log.field-0 c.in_ok-write_log.ensures.ran c.in_ok-write_log.ensures.listed c.end_call.ensures.made c.perform.result
    (subst (λ (all : List Redo). Runs behind new (performs all) c.perform.result) (ap (λ (lane : Lane g.row.M.Denot). lane.entries.items) c.end_call.ensures.else_same) c.perform.ensures.ran))

pub returns-clause-stops : goal.returns-clause-stops
returns-clause-stops g c =
    let old = g.M.LaneMem.at c.args.lane.now.memory in
    let new = g.M.LaneMem.at c.perform.new.lane.memory in
    let behind = g.M.LaneMem.at c.end_call.new.lane.memory in
    let last = ap (λ (lane : Lane g.row.M.Denot). lane.last) c.perform.ensures.else_same in
    on_err_so _ _ c.perform.result
    (λ stops. inr (ap (λ (lane : Lane g.row.M.Denot). lane.drawn) c.perform.ensures.else_same ∙ (c.end_call.ensures.drawn ∙ ap Some (sym last)), stops))
    (subst (λ n. OnErr c.perform.result (StopsPublished old new c.args.lane.now.entries.items c.args.operation.now n)) (sym last)
    (stops_published old (g.M.LaneMem.at c.write_log.new.lane.memory) behind new c.args.lane.now.entries.items c.write_log.new.lane.entries.items c.args.operation.now c.end_call.new.lane.last c.in_ok-write_log.field-0 c.in_ok-write_log.ensures.ran c.in_ok-write_log.ensures.listed c.end_call.ensures.made c.perform.result
    (subst (λ (all : List Redo). Runs behind new (performs all) c.perform.result) (ap (λ (lane : Lane g.row.M.Denot). lane.entries.items) c.end_call.ensures.else_same) c.perform.ensures.ran)))
