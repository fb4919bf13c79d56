-- EVERY KIND OF STEP KEEPS THE WORLD.
use Rattle.pm_view.specs.Steps.{Step}
use Rattle.pm_view.specs.Steps.Step.{Load, Store, Or, And, Flush, Drain, TakeWrite, TakeRead, Raise, Give, ZoneTry, ZoneGive, Occupied, Occupy, Vacate, Draw, NumberSeen, StopSeen, SetStop, Tell}
use Rattle.pm_world.specs.Laws.{Keeps}
use Rattle.pm_world.proofs.StepChunks as step_chunks
use Rattle.pm_world.proofs.StepDrain as step_drain
use Rattle.pm_world.proofs.StepDraw as step_draw
use Rattle.pm_world.proofs.StepFlush as step_flush
use Rattle.pm_world.proofs.StepLearn as step_learn
use Rattle.pm_world.proofs.StepLocks as step_locks
use Rattle.pm_world.proofs.StepMark as step_mark
use Rattle.pm_world.proofs.StepNumber as step_number
use Rattle.pm_world.proofs.StepOccupies as step_occupies
use Rattle.pm_world.proofs.StepPlain as step_plain
use Rattle.pm_world.proofs.StepShared as step_shared
use Rattle.pm_world.proofs.StepVacate as step_vacate
use Rattle.pm_world.proofs.StepZones as step_zones
use Rattle.pm_world.proofs.StoreWord as store_word

pub every_step : (s : Step) → Keeps s
every_step (Load w found) = step_learn.load_keeps w found
every_step (Store w x) = step_shared.store_from (record { idle = store_word.fill_word; chunk = store_word.store_word; descriptor = step_mark.store_mark }) w x
every_step (Or w bits found) = step_shared.or_keeps w bits found
every_step (And w bits found) = step_shared.and_keeps w bits found
every_step (Flush line) = step_flush.flush_keeps line
every_step Drain = step_drain.drain_keeps
every_step (TakeWrite line won) = step_locks.takes_write line won
every_step (TakeRead line won) = step_locks.takes_read line won
every_step (Raise line won) = step_locks.raised line won
every_step (Give line) = step_locks.gave_back line
every_step (ZoneTry zone won) = step_zones.zone_tried zone won
every_step (ZoneGive zone) = step_zones.zone_given zone
every_step (Occupied at found) = step_occupies.occupied at found
every_step (Occupy at bits won) = step_chunks.occupy_keeps at bits won
every_step (Vacate at bits) = step_vacate.vacate_keeps at bits
every_step (Draw n) = step_draw.draw n
every_step (NumberSeen n) = step_number.number_seen n
every_step (StopSeen stopped) = step_plain.stop_seen stopped
every_step SetStop = step_zones.set_stop
every_step (Tell operation reply) = step_plain.told operation reply
