use Rattle.std.proofs.Common.{sym, subst}
use Rattle.solo_memory.specs.Runs.{Made}
use Rattle.solo_view.specs.Steps.{Step}
use Rattle.solo_world.specs.Lawful.{Allowed}
use Rattle.solo_runs.proofs.GivenBack.{vacates, vacates_its_bit}
use Rattle.solo_runs.proofs.giving.give_back.Goals as goal

pub vacate-requires : goal.vacate-requires
vacate-requires g c =
    let r = c.requires in
    let b = r.1.1 in
    g.met.M.LawfulMem.meets c.args.lane.now.memory r.0 (vacates c.args.block.place c.args.block.lines) r.1.0
    (subst (Allowed r.0) (sym (vacates_its_bit r.0.lanes b.chunk b.index c.args.block b.in_run b.is_block)) b.may)

pub returns-clause-given : goal.returns-clause-given
returns-clause-given g c chunk index inside is =
    subst (λ (s : Step). Made (g.M.LaneMem.at c.args.lane.now.memory) (g.M.LaneMem.at c.vacate.new.self) s) (vacates_its_bit c.args.lane.now.shape.lanes chunk index c.args.block inside is) c.vacate.ensures
