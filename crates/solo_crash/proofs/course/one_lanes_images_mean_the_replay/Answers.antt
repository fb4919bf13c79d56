use Rattle.solo_crash.proofs.KeptEntries.{between_ended, between_meant, ended_kept, replay_held, replay_meant}
use Rattle.solo_crash.proofs.course.one_lanes_images_mean_the_replay.Goals as goal

pub returns : goal.returns
returns c = record { replay = replay_held; meaning = replay_meant; ended = ended_kept; between = λ o k header pool steps m image first begins course. between_meant o first.memory first.views k header pool steps m image first begins course; between_ended = λ o k header pool steps m image first begins course. between_ended o first.memory first.views k header pool steps m image first begins course }
