use Rattle.std.proofs.Common.{refl}
use Rattle.pm_view.specs.Steps.Step.{Load, NumberSeen}
use Rattle.pm_view.specs.Views.{after}
use Rattle.pm_world.proofs.TestLanes.{gave_lock, can_take, can_give, can_see, took, gave, saw, opened}
use Rattle.pm_world.proofs.tests.a_lane_steps_on_its_memory.Goals as goal

pub take_write-won-requires : goal.take_write-won-requires
take_write-won-requires g c = λ won. can_take c.in_ok-shape.shape c.in_ok-lane.lane won (c.in_ok-lane.ensures 7)

pub give-requires : goal.give-requires
give-requires g c = let sh = c.in_ok-shape.shape in
    can_give sh c.take_write-won.new.self (took sh c.in_ok-lane.lane c.take_write-won.new.self
    c.take_write-won.result (c.in_ok-lane.ensures 7) c.take_write-won.ensures)

pub see-generation-requires : goal.see-generation-requires
see-generation-requires g c = let sh = c.in_ok-shape.shape in
    let taken = took sh c.in_ok-lane.lane c.take_write-won.new.self c.take_write-won.result
    (c.in_ok-lane.ensures 7) c.take_write-won.ensures in
    λ found. can_see sh c.give.new.self c.word_of_generation.result found
    c.word_of_generation.ensures (gave sh c.take_write-won.new.self c.give.new.self taken
    c.give.ensures)

pub tell_write-requires : goal.tell_write-requires
tell_write-requires g c = let sh = c.in_ok-shape.shape in
    let taken = took sh c.in_ok-lane.lane c.take_write-won.new.self c.take_write-won.result
    (c.in_ok-lane.ensures 7) c.take_write-won.ensures in
    let free = gave sh c.take_write-won.new.self c.give.new.self taken c.give.ensures in
    let looked = saw sh c.give.new.self c.see-generation.new.self c.word_of_generation.result
    c.see-generation.result c.word_of_generation.ensures free c.see-generation.ensures.made in (
      after (after (gave_lock sh) (Load c.word_of_generation.result c.see-generation.result))
          (NumberSeen c.number_seen-drawn.result),
      opened sh c.see-generation.new.self c.number_seen-drawn.new.self c.word_of_generation.result
          c.see-generation.result c.number_seen-drawn.result looked c.number_seen-drawn.ensures,
      refl,
    )
