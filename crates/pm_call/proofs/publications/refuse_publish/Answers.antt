use Rattle.pm_call.proofs.RefusedPublishes.{may_give_refused, may_tell, refused_so}
use Rattle.pm_call.proofs.publications.refuse_publish.Goals as goal

pub end_outside-requires : goal.end_outside-requires
end_outside-requires g c = may_tell g.M.LaneMem.at c.args.lane.now c.args.why c.requires

pub give_back-requires : goal.give_back-requires
give_back-requires g c = may_give_refused g.M.LaneMem.at c.args.lane.now c.args.why c.end_outside.new.lane c.end_outside.result c.end_outside.ensures.made c.end_outside.ensures.fields c.requires

pub returns : goal.returns
returns g c = refused_so g.M.LaneMem.at c.args.lane.now c.args.why c.end_outside.new.lane c.end_outside.result c.end_outside.ensures.made c.end_outside.ensures.fields c.give_back.new.lane c.give_back.ensures
