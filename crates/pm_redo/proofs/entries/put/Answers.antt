use Rattle.std.proofs.Common.{refl, arith}
use Rattle.pm_redo.specs.Calls.{HasPut}
use Rattle.pm_redo.proofs.entries.put.Goals as goal

pub returns-then-len-ge-REDO_ENTRIES : goal.returns-then-len-ge-REDO_ENTRIES
unfolding HasPut
returns-then-len-ge-REDO_ENTRIES g c = (omega arith, refl)

pub returns : goal.returns
unfolding HasPut
returns g c = (omega arith, c.push.ensures.items, refl)
