use Rattle.std.proofs.Common.{◌≡◌, ◌+◌, ◌++◌, length, map, take}
use Rattle.solo_model.specs.Actions.{wants_for}
use Rattle.solo_pending.specs.Pending.{sets_of}
use Rattle.solo_action.proofs.WantedObjects.{want_of}
use Rattle.solo_action.proofs.holding.wants_of.Given as goal

-- the first so many that are to be freed are wanted
abbrev pub invariant-loop-i : goal.invariant-loop-i
invariant-loop-i l = (length l.wants ≡ 63) × (take l.i l.wants ≡ map want_of (take l.i l.frees))

-- and behind all of these the first so many that are to be set
abbrev pub invariant-loop-j : goal.invariant-loop-j
invariant-loop-j l = (length l.wants ≡ 63) × (take (length l.frees + l.j) l.wants ≡ map want_of l.frees ++ wants_for (sets_of (take l.j l.sets)))
