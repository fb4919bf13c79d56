use Rattle.pm_redo.proofs.Engines.{seal_ready, sealed_lane}
use Rattle.pm_redo.proofs.seals.seal.Goals as goal

pub write_seal-requires : goal.write_seal-requires
write_seal-requires g c = seal_ready g.M.LaneMem.at c.args.lane.now c.lane.result c.lane.ensures
    c.word_of_seal-word.result c.word_of_seal-word.ensures c.len.result c.len.ensures.value
    c.requires

pub returns : goal.returns
returns g c = sealed_lane g.M.LaneMem.at c.args.lane.now c.lane.result c.lane.ensures
    c.word_of_seal-word.result c.word_of_seal-word.ensures c.len.result c.len.ensures.value
    c.write_seal.new.mem c.write_seal.result c.write_seal.ensures
