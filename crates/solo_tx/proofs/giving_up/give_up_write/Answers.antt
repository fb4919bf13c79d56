use Rattle.std.proofs.Common.{Err, Ok, Some, ap, sym, subst, ◌∙◌, rules}
use Rattle.pm_objects.specs.declared.calls.Operation.TheVariants.{Write}
use Rattle.pm_objects.specs.declared.history.TxErr.TheVariants as error
use Rattle.pm_objects.specs.declared.history.Value.TheVariants.{Refused}
use Rattle.solo_world.proofs.Sequencing.{runs_err, runs_then}
use Rattle.solo_world.specs.declared.lane.Lane.{Lane}
use Rattle.solo_tx.proofs.Committed.{on_err}
use Rattle.solo_tx.proofs.GivenUp.{end_ready_for_any, given_up, stopped_giving_up}
use Rattle.solo_world.specs.declared.lane.Stage.TheVariants as stage
use Rattle.solo_tx.specs.Ending.{IsEndedBy}
use Rattle.solo_tx.specs.Sequences.{ends_call, gives_up, takes_back}
use Rattle.solo_tx.proofs.giving_up.give_up_write.Goals as goal

pub end_write-requires : goal.end_write-requires
end_write-requires g c =
    let is = c.requires.at_work in
    record { ready = end_ready_for_any g.M.LaneMem.at c.args.lane.now is.0 is.1.0 is.1.1 (Write c.args.id c.args.off c.args.bytes.now) (Some (Refused c.args.why)) (g.M.LaneMem.at c.undo_call.new.lane.memory) c.in_ok-undo_call.ensures.made }

pub returns-in_err-undo_call-clause-stops : goal.returns-in_err-undo_call-clause-stops
unfolding gives_up
returns-in_err-undo_call-clause-stops g c =
    let spans = c.args.lane.now.records.items in
    let s = c.in_err-undo_call.ensures.stops in
    let same = c.in_err-undo_call.ensures.stopped_lane in
    on_err _ c.from_residual.result
    (λ o v is why.
    stopped_giving_up g.M.LaneMem.at c.args.lane.now o v is (Write c.args.id c.args.off c.args.bytes.now) (Some (Refused c.args.why)) (error.Refused c.args.why) why c.undo_call.new.lane s.0
    (runs_err (Unit {0}) (g.M.LaneMem.at c.args.lane.now.memory) (g.M.LaneMem.at c.undo_call.new.lane.memory) (takes_back spans) (ends_call (Write c.args.id c.args.off c.args.bytes.now) (Some (Refused c.args.why)) c.undo_call.new.lane.last) s.0 (Err s.0) (search rules) s.1)
    (ap (λ (lane : Lane g.row.M.Denot). lane.stopped) same) (ap (λ (lane : Lane g.row.M.Denot). lane.drawn) same))

pub returns-clause-ended : goal.returns-clause-ended
unfolding gives_up
returns-clause-ended g c o v is why =
    let spans = c.args.lane.now.records.items in
    let last = c.end_write.new.lane.last in
    let ended = c.end_write.ensures.else_same in
    let undone = c.in_ok-undo_call.ensures.lane in
    subst (λ (lane : Lane g.row.M.Denot). IsEndedBy g.M.LaneMem.at lane v (gives_up spans (Write c.args.id c.args.off c.args.bytes.now) (Some (Refused c.args.why)) lane.last) (Write c.args.id c.args.off c.args.bytes.now) (Some (Refused c.args.why))) (sym c.leave_work.ensures.else_same)
    (given_up g.M.LaneMem.at c.args.lane.now o v is (Write c.args.id c.args.off c.args.bytes.now) (Some (Refused c.args.why)) (error.Refused c.args.why) why (record c.end_write.new.lane { entries = c.leave_work.new.lane.entries; stage = stage.OnAbort; error = (error.Refused c.args.why) })
    (runs_then (g.M.LaneMem.at c.args.lane.now.memory) (g.M.LaneMem.at c.undo_call.new.lane.memory) (g.M.LaneMem.at c.end_write.new.lane.memory) (takes_back spans) (ends_call (Write c.args.id c.args.off c.args.bytes.now) (Some (Refused c.args.why)) last) tt (Ok tt) c.in_ok-undo_call.ensures.made c.end_write.ensures.made)
    (ap (λ (lane : Lane g.row.M.Denot). lane.locks.items) ended ∙ ap (λ (lane : Lane g.row.M.Denot). lane.locks.items) undone) (ap (λ (lane : Lane g.row.M.Denot). lane.records.items) ended ∙ c.in_ok-undo_call.ensures.none) c.leave_work.ensures.unlisted
    c.end_write.ensures.drawn (record { pool = ap (λ (lane : Lane g.row.M.Denot). lane.pool) ended ∙ ap (λ (lane : Lane g.row.M.Denot). lane.pool) undone; shape = ap (λ (lane : Lane g.row.M.Denot). lane.shape) ended ∙ ap (λ (lane : Lane g.row.M.Denot). lane.shape) undone }) (ap (λ (lane : Lane g.row.M.Denot). lane.stopped) ended ∙ ap (λ (lane : Lane g.row.M.Denot). lane.stopped) undone))
