use Rattle.std.proofs.Common.{sym, subst}
use Rattle.pm_memory.specs.Changes.{IsLeastUnflushed}
use Rattle.pm_reopen.proofs.Unflushed.{least_is}
use Rattle.pm_reopen.proofs.writing.is_changed.Goals as goal

pub returns-in-Some : goal.returns-in-Some
returns-in-Some c = least_is c.args.mem.now.changes c.in-Some.least c.args.line (subst (IsLeastUnflushed c.args.mem.now.changes) c.in-Some.is c.unflushed.ensures.least) c.requires

pub returns-in-None : goal.returns-in-None
returns-in-None c = sym (subst (IsLeastUnflushed c.args.mem.now.changes) c.in-None.is c.unflushed.ensures.least c.args.line)
