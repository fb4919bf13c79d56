use Rattle.pm_view.specs.Steps.Step.{Load}
use Rattle.pm_world.proofs.FirstLooks.{looked, looks_first, looks_second, seal_within}
use Rattle.pm_world.proofs.lane.look_at_log.Goals as goal

pub see-requires : goal.see-requires
see-requires g c = let fixed = c.requires.0 in let generation = c.requires.1 in let u = c.requires.2 in let n = c.lane-lane.ensures _ u.seen in
    let first = looks_first g.M.LaneMem.at g.M.LaneMem.may g.met.M.LawfulMem.grants c.args.memory.now c.see-generation.new.self c.args.shape c.lane-lane.result c.word_of_generation.result c.see-generation.result fixed generation
    (record { made = c.see-generation.ensures.made; world = c.see-generation.ensures.world }) c.word_of_generation.ensures n u in
    λ x. g.met.M.LawfulMem.meets c.see-generation.new.self (looked fixed generation) (Load c.word_of_seal.result x) first.1 (seal_within c.args.shape fixed c.lane-lane.result c.word_of_seal.result c.word_of_seal.ensures n u.shape u.lane)

pub returns : goal.returns
returns g c = λ fixed generation u. let n = c.lane-lane.ensures _ u.seen in
    let first = looks_first g.M.LaneMem.at g.M.LaneMem.may g.met.M.LawfulMem.grants c.args.memory.now c.see-generation.new.self c.args.shape c.lane-lane.result c.word_of_generation.result c.see-generation.result fixed generation
    (record { made = c.see-generation.ensures.made; world = c.see-generation.ensures.world }) c.word_of_generation.ensures n u in (
      first.0,
      looks_second g.M.LaneMem.at g.M.LaneMem.may g.met.M.LawfulMem.grants c.see-generation.new.self c.see.new.self c.args.shape c.lane-lane.result c.word_of_seal.result c.see.result fixed generation
          (record { made = c.see.ensures.made; world = c.see.ensures.world }) c.word_of_seal.ensures n u.shape u.lane first.1,
    )
