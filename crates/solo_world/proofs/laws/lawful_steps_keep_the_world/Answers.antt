use Rattle.solo_world.proofs.StepChange.{clears, sets}
use Rattle.solo_world.proofs.StepDrain.{drains}
use Rattle.solo_world.proofs.StepDraw.{draws}
use Rattle.solo_world.proofs.StepFlush.{flushes}
use Rattle.solo_world.proofs.StepGive.{gives}
use Rattle.solo_world.proofs.StepHeap.{gives_zone_back, occupies, sees_occupancy, tries_zone, vacates}
use Rattle.solo_world.proofs.StepLoad.{loads}
use Rattle.solo_world.proofs.StepSeen.{sees_numbers, sees_stops, tells}
use Rattle.solo_world.proofs.StepSetStop.{sets_stop}
use Rattle.solo_world.proofs.StepStore.{stores}
use Rattle.solo_world.proofs.StepTake.{takes_read, takes_write}
use Rattle.solo_world.proofs.laws.lawful_steps_keep_the_world.Goals as goal

pub returns : goal.returns
returns c = record {
  load = loads;
  store = stores;
  or = sets;
  and = clears;
  flush = flushes;
  drain = drains;
  take_write = takes_write;
  take_read = takes_read;
  give = gives;
  zone_try = tries_zone;
  zone_give = gives_zone_back;
  occupied = sees_occupancy;
  occupy = occupies;
  vacate = vacates;
  draw = draws;
  number_seen = sees_numbers;
  stop_seen = sees_stops;
  set_stop = sets_stop;
  tell = tells;
}
