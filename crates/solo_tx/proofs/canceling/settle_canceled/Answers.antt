use Rattle.std.proofs.Common.{None, Ok, rules}
use Rattle.pm_objects.specs.declared.calls.Operation.TheVariants.{Cancel}
use Rattle.solo_view.specs.Steps.Step.{Tell}
use Rattle.solo_world.proofs.Sequencing.{allowed_one, ready_first, ready_then, runs_err, runs_then}
use Rattle.solo_world.specs.Sequences.{one, settles}
use Rattle.solo_tx.proofs.Telling.{runs_made}
use Rattle.solo_tx.specs.Actions.{cancels}
use Rattle.solo_tx.proofs.canceling.settle_canceled.Goals as goal

pub settle-requires : goal.settle-requires
unfolding cancels
settle-requires g c = ready_first (g.M.LaneMem.at c.args.mem.now) settles (one (Tell Cancel None)) c.requires.ready

pub returns-in_err-settle : goal.returns-in_err-settle
unfolding cancels
returns-in_err-settle g c = record {
  ran = runs_err (Unit {0}) (g.M.LaneMem.at c.args.mem.now) (g.M.LaneMem.at c.settle.new.mem) settles (one (Tell Cancel None)) c.in_err-settle.field-0.0 c.from_residual.result (search rules) c.in_err-settle.ensures;
}

pub tell-requires : goal.tell-requires
unfolding cancels
tell-requires g c =
    let t = allowed_one (g.M.LaneMem.at c.settle.new.mem) (Tell Cancel None) (ready_then (g.M.LaneMem.at c.args.mem.now) (g.M.LaneMem.at c.settle.new.mem) settles (one (Tell Cancel None)) tt c.requires.ready c.in_ok-settle.ensures) in
    g.met.M.LawfulMem.meets c.settle.new.mem t.0 (Tell Cancel None) t.1.0 t.1.1

pub returns : goal.returns
unfolding cancels
returns g c = record {
  ran = runs_then (g.M.LaneMem.at c.args.mem.now) (g.M.LaneMem.at c.settle.new.mem) (g.M.LaneMem.at c.tell.new.self) settles (one (Tell Cancel None)) tt (Ok tt) c.in_ok-settle.ensures (runs_made (g.M.LaneMem.at c.settle.new.mem) (g.M.LaneMem.at c.tell.new.self) (Tell Cancel None) c.tell.ensures);
}
