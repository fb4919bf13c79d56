-- What each step of a lane does to the memory, and what it is answered.
use Rattle.std.specs.Prelude.{◌≡◌, ◌≢◌, ℕ, ◌+◌, not, true, false, ◌==◌, Some, None, bit_and, bit_or}
use Rattle.pm_view.specs.LockWords.{with_writer, with_reader, with_raised, without_lane}
use Rattle.std.specs.Int.{bit_not, w64}
use Rattle.pm_view.specs.Steps.{Step}
use Rattle.pm_view.specs.Steps.Step.{Load, Store, Or, And, Flush, Drain, TakeWrite, TakeRead, Raise, Give, ZoneTry, ZoneGive, Occupied, Occupy, Vacate, Draw, NumberSeen, StopSeen, SetStop, Tell}
use Rattle.pm_world.specs.Memory.{Memory, PoolWord, LockWord, ZoneLock, CommitCounter, StopWord, occ_at, IsSame, IsSameBut, Becomes}

-- the step of the lane takes the memory from old to new
abbrev pub Moves : ℕ → Step → Memory → Memory → Type 0
Moves lane (Load w found) old new = IsSame old new × (found ≡ old (PoolWord w))
Moves lane (Store w x) old new = Becomes (PoolWord w) x old new
Moves lane (Or w bits found) old new = Becomes (PoolWord w) (bit_or found bits) old new × (found ≡ old (PoolWord w))
Moves lane (And w bits found) old new = Becomes (PoolWord w) (bit_and found bits) old new × (found ≡ old (PoolWord w))
Moves lane (Flush line) old new = IsSame old new
Moves lane Drain old new = IsSame old new
Moves lane (TakeWrite line true) old new = IsSameBut (LockWord line) old new × (with_writer lane (old (LockWord line)) ≡ Some (new (LockWord line)))
Moves lane (TakeWrite line false) old new = IsSame old new × (with_writer lane (old (LockWord line)) ≡ None)
Moves lane (TakeRead line true) old new = IsSameBut (LockWord line) old new × (with_reader lane (old (LockWord line)) ≡ Some (new (LockWord line)))
Moves lane (TakeRead line false) old new = IsSame old new × (with_reader lane (old (LockWord line)) ≡ None)
Moves lane (Raise line true) old new = IsSameBut (LockWord line) old new × (with_raised lane (old (LockWord line)) ≡ Some (new (LockWord line)))
Moves lane (Raise line false) old new = IsSame old new × (with_raised lane (old (LockWord line)) ≡ None)
Moves lane (Give line) old new = Becomes (LockWord line) (without_lane lane (old (LockWord line))) old new
Moves lane (ZoneTry zone true) old new = Becomes (ZoneLock zone) (lane + 1) old new × (old (ZoneLock zone) ≡ 0)
Moves lane (ZoneTry zone false) old new = IsSame old new × (old (ZoneLock zone) ≢ 0)
Moves lane (ZoneGive zone) old new = Becomes (ZoneLock zone) 0 old new
Moves lane (Occupied at found) old new = IsSame old new × (found ≡ old (occ_at at))
Moves lane (Occupy at bits true) old new = Becomes (occ_at at) (bit_or (old (occ_at at)) bits) old new × (bit_and (old (occ_at at)) bits ≡ 0)
Moves lane (Occupy at bits false) old new = IsSame old new × (bit_and (old (occ_at at)) bits ≢ 0)
Moves lane (Vacate at bits) old new = Becomes (occ_at at) (bit_and (old (occ_at at)) (bit_not w64 bits)) old new
Moves lane (Draw n) old new = Becomes CommitCounter (n + 1) old new × (n ≡ old CommitCounter)
Moves lane (NumberSeen n) old new = IsSame old new × (n ≡ old CommitCounter)
Moves lane (StopSeen set) old new = IsSame old new × (set ≡ not (old StopWord == 0))
Moves lane SetStop old new = Becomes StopWord 1 old new
Moves lane (Tell operation reply) old new = IsSame old new
