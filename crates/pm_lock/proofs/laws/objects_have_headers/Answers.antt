use Rattle.pm_lock.proofs.CanBegin.{has_header}
use Rattle.pm_lock.proofs.laws.objects_have_headers.Goals as goal

pub returns : goal.returns
returns c sh pool line id is = has_header sh pool line id is
