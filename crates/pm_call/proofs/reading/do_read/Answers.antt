use Rattle.std.proofs.Common.{length, Some}
use Rattle.pm_objects.specs.declared.calls.Operation.TheVariants.{Read}
use Rattle.pm_objects.specs.declared.history.Value.TheVariants.{Bytes}
use Rattle.pm_view.specs.Steps.Step.{Tell}
use Rattle.pm_call.proofs.ReadBytes.{read_acted, read_tell}
use Rattle.pm_call.proofs.reading.do_read.Goals as goal

pub tell-requires : goal.tell-requires
tell-requires g c =
    let t = read_tell g.M.LaneMem.at c.args.lane.now c.read_words.new.lane c.args.id c.args.off (length c.args.into.now) c.read_words.new.into c.requires c.read_words.ensures.read in
    g.met.M.LawfulMem.meets c.read_words.new.lane.memory t.0 (Tell (Read c.args.id c.args.off (length c.args.into.now)) (Some (Bytes c.read_words.new.into))) t.1 t.2

pub returns-clause-did : goal.returns-clause-did
returns-clause-did g c =
    read_acted g.M.LaneMem.at c.args.lane.now c.read_words.new.lane c.args.id c.args.off (length c.args.into.now) c.read_words.new.into g.M.LaneMem.may g.met.M.LawfulMem.grants c.tell.new.self c.read_words.ensures.read c.tell.ensures
