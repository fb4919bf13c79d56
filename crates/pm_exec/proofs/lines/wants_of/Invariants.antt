use Rattle.std.proofs.Common.{◌≡◌, map, take}
use Rattle.std.specs.Vec.{vec_capacity}
use Rattle.pm_calls.specs.Calls.{want_of}
use Rattle.pm_exec.proofs.lines.wants_of.Given as goal

-- the room has the first so many locks
abbrev pub invariant-loop-want : goal.invariant-loop-want
invariant-loop-want l =
    (l.room.items ≡ map (want_of l.names) (take l.want-index l.wants))
    × (vec_capacity l.room ≡ vec_capacity l.fn.room)
