use Rattle.pm_redo.proofs.PerformedLane.{apply_next, clear_next, performed, stopped_applying, stopped_sealing}
use Rattle.pm_redo.proofs.effects.perform.Goals as goal

pub returns-in_err-seal : goal.returns-in_err-seal
returns-in_err-seal g c = stopped_sealing g.M.LaneMem.at c.args.lane.now c.seal.new.lane
    c.in_err-seal.field-0.0 c.from_residual.result c.from_residual.ensures.0 c.in_err-seal.ensures

pub apply_all-requires : goal.apply_all-requires
apply_all-requires g c =
    apply_next g.M.LaneMem.at c.args.lane.now c.seal.new.lane c.in_ok-seal.ensures c.requires

pub returns-in_err-apply_all : goal.returns-in_err-apply_all
returns-in_err-apply_all g c = stopped_applying g.M.LaneMem.at c.args.lane.now c.seal.new.lane
    c.in_ok-seal.ensures c.apply_all.new.lane c.in_err-apply_all.field-0.0
    c.from_residual-in_err-apply_all.result c.from_residual-in_err-apply_all.ensures.0
    c.in_err-apply_all.ensures

pub retire-requires : goal.retire-requires
retire-requires g c = clear_next g.M.LaneMem.at c.args.lane.now c.seal.new.lane c.in_ok-seal.ensures
    c.apply_all.new.lane c.in_ok-apply_all.ensures c.requires

pub returns : goal.returns
returns g c = performed g.M.LaneMem.at c.args.lane.now c.seal.new.lane c.in_ok-seal.ensures
    c.apply_all.new.lane c.in_ok-apply_all.ensures c.retire.new.lane c.retire.result
    c.retire.ensures
