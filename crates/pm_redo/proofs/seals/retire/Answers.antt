use Rattle.std.proofs.Common.{refl}
use Rattle.pm_redo.proofs.Engines.{clear_ready, cleared_err, cleared_ok}
use Rattle.pm_redo.proofs.seals.retire.Goals as goal

pub write_seal-requires : goal.write_seal-requires
write_seal-requires g c = clear_ready g.M.LaneMem.at c.args.lane.now c.lane.result c.lane.ensures
    c.word_of_seal-word.result c.word_of_seal-word.ensures c.requires

pub returns-in_err-write_seal : goal.returns-in_err-write_seal
returns-in_err-write_seal g c = cleared_err g.M.LaneMem.at c.args.lane.now c.lane.result
    c.lane.ensures c.word_of_seal-word.result c.word_of_seal-word.ensures c.write_seal.new.mem
    (Unit {0}) c.in_err-write_seal.field-0.0 c.from_residual.result c.from_residual.ensures.0
    c.in_err-write_seal.ensures

pub returns : goal.returns
returns g c =
    cleared_ok g.M.LaneMem.at c.args.lane.now c.lane.result c.lane.ensures
    c.word_of_seal-word.result c.word_of_seal-word.ensures c.write_seal.new.mem
    (record c.args.lane.now {
      memory = c.write_seal.new.mem;
      log = record c.args.lane.now.log { records = c.clear-2.new.self };
      entries = c.clear.new.self;
    }) c.in_ok-write_seal.ensures refl c.clear.ensures
    c.clear-2.ensures
