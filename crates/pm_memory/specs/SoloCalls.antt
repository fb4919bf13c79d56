-- What each call makes of the memory of one lane, and what it replies.
use Rattle.std.specs.Prelude.{◌≡◌, ◌≢◌, ℕ, ◌+◌, true, false, slice_index, bit_and, bit_or}
use Rattle.std.specs.Int.{bit_not, w64}
use Rattle.pm_view.specs.LockWords.{reader_bit, writer_bit, without_lane}
use Rattle.pm_view.specs.declared.occ.Occ.{Occ}
use Rattle.pm_view.specs.Steps.{Step}
use Rattle.pm_view.specs.Steps.Step.{Load, Store, Or, And, Flush, Drain, TakeWrite, TakeRead, Raise, Give, ZoneTry, ZoneGive, Occupied, Occupy, Vacate, Draw, NumberSeen, StopSeen, SetStop, Tell}
use Rattle.pm_memory.specs.Solo.{Solo, after_store, after_or, after_and, after_flush, after_drain, says_stopped, occ_word, with_occ, with_lock, with_zone_lock}

-- an occupancy word
abbrev pub occ_in : Solo → Occ → ℕ
occ_in m at = occ_word m.runs m.zones at

-- THE CALL WITH THIS REPLY turns one memory into the other
abbrev pub Calls : Step → Solo → Solo → Type 0
Calls (Load w found) old new = (new ≡ old) × (found ≡ slice_index old.words w)
Calls (Store w x) old new = new ≡ after_store old w x
Calls (Or w bits found) old new = (new ≡ after_or old w bits) × (found ≡ slice_index old.words w)
Calls (And w bits found) old new = (new ≡ after_and old w bits) × (found ≡ slice_index old.words w)
Calls (Flush line) old new = new ≡ after_flush old line
Calls Drain old new = new ≡ after_drain old
Calls (TakeWrite line won) old new = (new ≡ with_lock old line (writer_bit 0)) × (won ≡ true)
Calls (TakeRead line won) old new = (new ≡ with_lock old line (reader_bit 0)) × (won ≡ true)
Calls (Raise line won) old new = (new ≡ with_lock old line (writer_bit 0)) × (won ≡ true)
Calls (Give line) old new = new ≡ with_lock old line (without_lane 0 (slice_index old.locks line))
Calls (ZoneTry zone won) old new = (new ≡ with_zone_lock old zone true) × (won ≡ true)
Calls (ZoneGive zone) old new = new ≡ with_zone_lock old zone false
Calls (Occupied at found) old new = (new ≡ old) × (found ≡ occ_in old at)
Calls (Occupy at bits true) old new = (new ≡ with_occ old at (bit_or (occ_in old at) bits)) × (bit_and (occ_in old at) bits ≡ 0)
Calls (Occupy at bits false) old new = (new ≡ old) × (bit_and (occ_in old at) bits ≢ 0)
Calls (Vacate at bits) old new = new ≡ with_occ old at (bit_and (occ_in old at) (bit_not w64 bits))
Calls (Draw n) old new = (new ≡ record old { number = old.number + 1 }) × (n ≡ old.number)
Calls (NumberSeen n) old new = (new ≡ old) × (n ≡ old.number)
Calls (StopSeen said) old new = (new ≡ old) × (said ≡ old.stopped)
Calls SetStop old new = new ≡ says_stopped old
Calls (Tell operation reply) old new = new ≡ old
