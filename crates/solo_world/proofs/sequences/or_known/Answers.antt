use Rattle.solo_view.specs.Steps.Step.{Or}
use Rattle.solo_world.proofs.Sequencing.{may_or, ran_or, stopped_in}
use Rattle.solo_world.proofs.sequences.or_known.Goals as goal

pub or-requires : goal.or-requires
or-requires g c = λ found.
    let r = may_or (g.M.LaneMem.at c.args.mem.now) c.args.word c.args.bits c.requires in
    g.met.M.LawfulMem.meets c.args.mem.now r.0 (Or c.args.word c.args.bits found) r.1.0 r.1.1

pub returns-in-Ok : goal.returns-in-Ok
returns-in-Ok g c = ran_or (g.M.LaneMem.at c.args.mem.now) (g.M.LaneMem.at c.or.new.self) c.args.word c.args.bits c.in-Ok.field-0 c.in-Ok.ensures

pub returns-in-Err : goal.returns-in-Err
returns-in-Err g c = stopped_in (g.M.LaneMem.at c.args.mem.now) (g.M.LaneMem.at c.or.new.self) c.args.word (Or c.args.word c.args.bits) c.in-Err.stopped (λ found. tt) c.in-Err.ensures
