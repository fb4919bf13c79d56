use Rattle.std.proofs.Common.{List, [], OnErr, ap, subst, sym}
use Rattle.solo_world.specs.Sequences.{IsReady, Runs}
use Rattle.solo_world.specs.declared.lane.Lane.{Lane}
use Rattle.solo_world.specs.declared.lane.Span.{Span}
use Rattle.solo_tx.specs.Ending.{StopsEnded}
use Rattle.solo_tx.specs.Sequences.{retires_any}
use Rattle.solo_tx.proofs.Deciding.{ended_area, may_end, may_retire, stops_ended}
use Rattle.solo_tx.proofs.committing.decide.Goals as goal

pub end_call-requires : goal.end_call-requires
end_call-requires g c = record { ready = may_end (g.M.LaneMem.at c.args.lane.now.memory) c.args.lane.now.records.items c.requires.decidable }

pub retire_any-requires-clause-area : goal.retire_any-requires-clause-area
retire_any-requires-clause-area g c =
    ended_area (g.M.LaneMem.at c.args.lane.now.memory) c.args.lane.now.records.items c.requires.decidable (g.M.LaneMem.at c.end_call.new.lane.memory) c.end_call.new.lane.last c.end_call.ensures.made

pub retire_any-requires-clause-ready : goal.retire_any-requires-clause-ready
retire_any-requires-clause-ready g c =
    subst (λ (spans : List Span). IsReady (g.M.LaneMem.at c.end_call.new.lane.memory) (retires_any spans)) (sym (ap (λ (lane : Lane g.row.M.Denot). lane.records.items) c.end_call.ensures.else_same))
    (may_retire (g.M.LaneMem.at c.args.lane.now.memory) c.args.lane.now.records.items c.requires.decidable (g.M.LaneMem.at c.end_call.new.lane.memory) c.end_call.new.lane.last c.end_call.ensures.made)

pub returns-clause-stops : goal.returns-clause-stops
returns-clause-stops g c =
    let old = g.M.LaneMem.at c.args.lane.now.memory in
    let mid = g.M.LaneMem.at c.end_call.new.lane.memory in
    let new = g.M.LaneMem.at c.retire_any.new.lane.memory in
    subst (λ n. OnErr c.retire_any.result (StopsEnded old new c.args.lane.now.records.items [] n)) (sym (ap (λ (lane : Lane g.row.M.Denot). lane.last) c.retire_any.ensures.else_same))
    (stops_ended old mid new c.args.lane.now.records.items c.end_call.new.lane.last c.retire_any.result c.end_call.ensures.made
    (subst (λ (spans : List Span). Runs mid new (retires_any spans) c.retire_any.result) (ap (λ (lane : Lane g.row.M.Denot). lane.records.items) c.end_call.ensures.else_same) c.retire_any.ensures.ran))
