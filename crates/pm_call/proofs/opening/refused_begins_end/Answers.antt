use Rattle.pm_call.proofs.RefusedBegins.{refused_begins_are_past, refused_begins_end}
use Rattle.pm_call.proofs.opening.refused_begins_end.Goals as goal

pub returns-clause-ended : goal.returns-clause-ended
returns-clause-ended g c = refused_begins_end

pub returns-clause-past : goal.returns-clause-past
returns-clause-past g c = refused_begins_are_past g.M.LaneMem.at
