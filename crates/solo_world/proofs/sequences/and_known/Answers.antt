use Rattle.solo_view.specs.Steps.Step.{And}
use Rattle.solo_world.proofs.Sequencing.{may_and, ran_and, stopped_in}
use Rattle.solo_world.proofs.sequences.and_known.Goals as goal

pub and-requires : goal.and-requires
and-requires g c = λ found.
    let r = may_and (g.M.LaneMem.at c.args.mem.now) c.args.word c.args.bits c.requires in
    g.met.M.LawfulMem.meets c.args.mem.now r.0 (And c.args.word c.args.bits found) r.1.0 r.1.1

pub returns-in-Ok : goal.returns-in-Ok
returns-in-Ok g c = ran_and (g.M.LaneMem.at c.args.mem.now) (g.M.LaneMem.at c.and.new.self) c.args.word c.args.bits c.in-Ok.field-0 c.in-Ok.ensures

pub returns-in-Err : goal.returns-in-Err
returns-in-Err g c = stopped_in (g.M.LaneMem.at c.args.mem.now) (g.M.LaneMem.at c.and.new.self) c.args.word (And c.args.word c.args.bits) c.in-Err.stopped (λ found. tt) c.in-Err.ensures
