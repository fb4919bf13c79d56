use Rattle.std.proofs.Common.{refl, arith}
use Rattle.solo_view.specs.Steps.Step.{Load}
use Rattle.solo_transaction.proofs.AtWork.{looks_at_root}
use Rattle.solo_transaction.proofs.freeing.load_root.Goals as goal

pub load-requires : goal.load-requires
load-requires g c found =
    let r = c.requires.at_work in
    let is = r.1.1.1 in
    let inside = is.work.working.area.inside in
    g.met.M.LawfulMem.meets c.args.lane.now.memory r.1.1.0 (Load 64 found) is.work.seen.memory (omega (arith, inside))

pub returns-clause-looked : goal.returns-clause-looked
returns-clause-looked g c blocks o v is =
    let made = c.load.ensures v is.work.seen.memory in
    looks_at_root o g.M.LaneMem.at c.args.lane.now _ v c.load.result
    (record { pool = refl; shape = refl; locks = refl; entries = refl; level = refl; stage = refl; error = refl; drawn = refl; last = refl; stopped = refl }) refl blocks is (made.1, made.2) made.0
