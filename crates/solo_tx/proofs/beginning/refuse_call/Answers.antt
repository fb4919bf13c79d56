use Rattle.std.proofs.Common.{ap, refl, subst, sym, true}
use Rattle.pm_objects.specs.declared.history.TxErr.TheVariants as error
use Rattle.solo_world.specs.declared.lane.Lane.{Lane}
use Rattle.solo_world.specs.declared.lane.Stage.TheVariants as stage
use Rattle.solo_tx.proofs.RefusedBegins.{refusal_ready, refused, stopped_refusing}
use Rattle.solo_tx.proofs.Undoing.{settle_ready}
use Rattle.solo_tx.specs.Begins.{HasStoppedRefused}
use Rattle.solo_tx.proofs.beginning.refuse_call.Goals as goal

pub settle-requires : goal.settle-requires
settle-requires g c = let is = c.requires.begun in settle_ready (g.M.LaneMem.at c.args.lane.now.memory) is.0 is.1.seen.memory

pub end_begin-requires : goal.end_begin-requires
end_begin-requires g c = let is = c.requires.begun in record { ready = refusal_ready g.M.LaneMem.at c.args.lane.now is.0 is.1 c.args.wants.now c.args.why (g.M.LaneMem.at c.settle.new.mem) c.in-Ok.ensures }

pub returns-in-Ok-clause-refused : goal.returns-in-Ok-clause-refused
returns-in-Ok-clause-refused g c goes v is reason =
    let same = c.end_begin.ensures.else_same in
    refused g.M.LaneMem.at c.args.lane.now v is c.args.wants.now c.args.why reason (record c.end_begin.new.lane { level = 1; stage = stage.OnAbort; error = error.Refused c.args.why }) (g.M.LaneMem.at c.settle.new.mem) c.in-Ok.ensures
    c.end_begin.ensures.made (ap (λ (lane : Lane g.row.M.Denot). lane.locks.items) same) (ap (λ (lane : Lane g.row.M.Denot). lane.records.items) same) (ap (λ (lane : Lane g.row.M.Denot). lane.entries) same) c.end_begin.ensures.drawn
    (record { pool = ap (λ (lane : Lane g.row.M.Denot). lane.pool) same; shape = ap (λ (lane : Lane g.row.M.Denot). lane.shape) same }) (ap (λ (lane : Lane g.row.M.Denot). lane.stopped) same)

pub returns-in-Err-clause-stops : goal.returns-in-Err-clause-stops
returns-in-Err-clause-stops g c may stopped v is reason =
    subst (λ (lane : Lane g.row.M.Denot). HasStoppedRefused g.M.LaneMem.at lane v c.args.wants.now) (sym c.stop.ensures.lane)
    (stopped_refusing g.M.LaneMem.at c.args.lane.now v is c.args.wants.now c.args.why reason (record c.args.lane.now { memory = c.settle.new.mem; stopped = true }) c.in-Err.field-0 c.in-Err.ensures refl refl)
