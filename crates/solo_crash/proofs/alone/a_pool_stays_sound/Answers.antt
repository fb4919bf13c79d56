use Rattle.solo_crash.proofs.SoundPools.{blocks_as_they_stand, runs_as_they_stand, sound_as_it_stands}
use Rattle.solo_crash.proofs.alone.a_pool_stays_sound.Goals as goal

pub returns : goal.returns
returns c = record { sound = sound_as_it_stands; blocks = blocks_as_they_stand; new_runs = runs_as_they_stand }
