use Rattle.std.proofs.Common.{◌≡◌, false, length}
use Rattle.pm_world.specs.LaneFields.{Standing, Works}
use Rattle.pm_call.specs.At.{At}
use Rattle.pm_call.specs.Did.{After}
use Rattle.pm_call.specs.Ranges.{HasRange}
use Rattle.pm_call.proofs.ReadBytes.{HasReadFirst}
use Rattle.pm_call.proofs.reading.read_words.Given as goal

-- the first so many words were looked at, and their bytes copied
abbrev pub invariant-loop-i : goal.invariant-loop-i
invariant-loop-i g l = record {
  as_long : length l.into ≡ length l.fn.into;
  read : (s : Standing) → Works g.M.LaneMem.at l.fn.lane s → At s → HasRange s l.fn.id l.off (length l.fn.into) false → After s (HasReadFirst g.M.LaneMem.at l.lane l.fn.id l.off (length l.fn.into) l.i l.into);
}
