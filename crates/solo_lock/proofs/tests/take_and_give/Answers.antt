use Rattle.std.proofs.Common.{◌+◌, ◌*◌, ◌<◌, List, true, arith, sym, subst}
use Rattle.solo_memory.specs.Solo.{Sees}
use Rattle.solo_world.specs.Sequences.{IsReady}
use Rattle.solo_world.specs.declared.lane.HeldLock.{HeldLock}
use Rattle.solo_lock.proofs.Starting.{line_is_free, one_ready}
use Rattle.solo_lock.specs.Locking.{gives}
use Rattle.solo_lock.specs.Tests.{Begins}
use Rattle.solo_lock.proofs.tests.take_and_give.Goals as goal

pub give_all-requires : goal.give_all-requires
give_all-requires c =
    let is : Begins c.args.lane.now = record { begun = c.requires.begun; free = c.requires.free } in
    let new = c.take_line-won.new.lane in
    let some_lanes = c.args.lane.now.shape.lanes_from in
    let some_zones = c.args.lane.now.shape.zones_from in
    let low : 256 < 64 + 128 * c.args.lane.now.shape.lanes + 4160 * c.args.lane.now.shape.zones = omega (arith, some_lanes, some_zones) in
    subst (λ (locks : List HeldLock). IsReady (Sees new.memory) (gives locks)) (sym c.as_slice.ensures.value)
    (one_ready c.args.lane.now new is 256 low true c.take_line-won.result (c.take_line-won.ensures.taken is.begun.0 is.begun.1 (line_is_free c.args.lane.now new is 256 low)))
