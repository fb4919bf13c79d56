use Rattle.solo_memory.specs.Solo.{Sees}
use Rattle.solo_lock.proofs.TakenAll.{taken_unfound}
use Rattle.solo_lock.proofs.tests.take_and_give_back.Goals as goal

pub give_back-requires : goal.give_back-requires
give_back-requires c =
    let r = c.requires.begun in
    let t = c.take_all.ensures.taken c.if-not-take_all.false r.0 r.1 in
    record { held = (t.view, taken_unfound Sees c.take_all.new.lane r.0 c.as_slice.result.now t) }
