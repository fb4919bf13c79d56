use Rattle.solo_crash.proofs.CleanWords.{clean_words_hold, clean_words_sound, world_begins}
use Rattle.solo_crash.proofs.course.a_recovered_pool_opens_a_world.Goals as goal

pub returns : goal.returns
returns c = record { sound = clean_words_sound; holds = clean_words_hold; world = λ o memory views header pool holds clean. world_begins o header pool holds clean memory views }
