use Rattle.std.specs.Option.{option_map}
use Rattle.pm_world.specs.Lent.{operation_of, value_of}
use Rattle.pm_call.proofs.RollbackLanes.{back_stands, gave_err, gave_ok, may_end}
use Rattle.pm_call.proofs.rollback.give_up.Goals as goal

pub take_back-requires : goal.take_back-requires
take_back-requires g c = back_stands g.M.LaneMem.at c.args.lane.now (operation_of c.args.told) (option_map value_of c.args.reply) c.requires

pub returns-in_err-take_back : goal.returns-in_err-take_back
returns-in_err-take_back g c = gave_err g.M.LaneMem.at c.args.lane.now (operation_of c.args.told) (option_map value_of c.args.reply) c.take_back.new.lane c.args.error c.in_err-take_back.field-0.0 c.from_residual.result c.from_residual.ensures.0 c.in_err-take_back.ensures

pub end_call-requires : goal.end_call-requires
end_call-requires g c = may_end g.M.LaneMem.at c.args.lane.now (operation_of c.args.told) (option_map value_of c.args.reply) c.take_back.new.lane c.requires c.in_ok-take_back.ensures

pub returns : goal.returns
returns g c = gave_ok g.M.LaneMem.at c.args.lane.now (operation_of c.args.told) (option_map value_of c.args.reply) c.take_back.new.lane c.end_call.new.lane c.args.error c.end_call.result c.in_ok-take_back.ensures c.end_call.ensures.made c.end_call.ensures.fields
