use Rattle.std.proofs.Common.{List, sym, subst, ◌∙◌}
use Rattle.solo_memory.specs.Solo.{Sees}
use Rattle.solo_world.specs.declared.lane.HeldLock.{HeldLock}
use Rattle.solo_lock.proofs.FoundObjects.{taken_lines}
use Rattle.solo_lock.specs.Finding.{HasLines}
use Rattle.solo_lock.proofs.tests.hold.Goals as goal

pub find_objects-requires-clause-lines : goal.find_objects-requires-clause-lines
find_objects-requires-clause-lines c =
    let r = c.requires.begun in
    let t = c.take_all.ensures.taken c.if-not-take_all.false r.0 r.1 in (
      t.view,
      (
        t.begun,
        subst (λ (plan : List HeldLock). HasLines t.view plan) (c.as_slice.ensures.value ∙ sym c.as_slice-2.ensures.value) (taken_lines Sees c.take_all.new.lane r.0 c.as_slice.result.now t),
      ),
    )
