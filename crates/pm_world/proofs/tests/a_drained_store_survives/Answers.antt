use Rattle.std.proofs.Common.{ℕ}
use Rattle.pm_world.proofs.TestLanes.{begins, can_look, can_store, can_flush, can_drain, can_store_again}
use Rattle.pm_world.proofs.TestLanes.{did_store, did_flush, did_drain}
use Rattle.pm_world.proofs.tests.a_drained_store_survives.Goals as goal

pub see-requires : goal.see-requires
see-requires g c = λ found. can_look c.in_ok-shape.shape c.in_ok-lane.lane
    c.word_of_generation-generation.result found c.word_of_generation-generation.ensures (c.in_ok-lane.ensures 7)

pub store-stored-requires : goal.store-stored-requires
store-stored-requires g c =
    let sh = c.in_ok-shape.shape in let n : ℕ = c.number_seen.result in
    let w : ℕ = c.word_of_generation-generation.result in let at = c.word_of_generation-generation.ensures in
    let s2 = begins sh n w c.see.result at c.in_ok-lane.lane c.see.new.self c.number_seen.new.self
    (c.in_ok-lane.ensures 7) c.see.ensures.made c.see.ensures.world c.number_seen.ensures in
    can_store sh n w at c.number_seen.new.self s2

pub flush-flushed-requires : goal.flush-flushed-requires
flush-flushed-requires g c =
    let sh = c.in_ok-shape.shape in let n : ℕ = c.number_seen.result in
    let w : ℕ = c.word_of_generation-generation.result in let at = c.word_of_generation-generation.ensures in
    let s2 = begins sh n w c.see.result at c.in_ok-lane.lane c.see.new.self c.number_seen.new.self
    (c.in_ok-lane.ensures 7) c.see.ensures.made c.see.ensures.world c.number_seen.ensures in
    let s3 = did_store sh n w at c.number_seen.new.self c.store-stored.new.self
    c.store-stored.result s2 c.store-stored.ensures in
    can_flush sh n w at c.store-stored.new.self s3

pub drain-drained-requires : goal.drain-drained-requires
drain-drained-requires g c =
    let sh = c.in_ok-shape.shape in let n : ℕ = c.number_seen.result in
    let w : ℕ = c.word_of_generation-generation.result in let at = c.word_of_generation-generation.ensures in
    let s2 = begins sh n w c.see.result at c.in_ok-lane.lane c.see.new.self c.number_seen.new.self
    (c.in_ok-lane.ensures 7) c.see.ensures.made c.see.ensures.world c.number_seen.ensures in
    let s3 = did_store sh n w at c.number_seen.new.self c.store-stored.new.self
    c.store-stored.result s2 c.store-stored.ensures in
    let s4 = did_flush sh n w at c.store-stored.new.self c.flush-flushed.new.self
    c.flush-flushed.result s3 c.flush-flushed.ensures in
    can_drain sh n w at c.flush-flushed.new.self s4

pub store-stopped-requires : goal.store-stopped-requires
store-stopped-requires g c =
    let sh = c.in_ok-shape.shape in let n : ℕ = c.number_seen.result in
    let w : ℕ = c.word_of_generation-generation.result in let at = c.word_of_generation-generation.ensures in
    let s2 = begins sh n w c.see.result at c.in_ok-lane.lane c.see.new.self c.number_seen.new.self
    (c.in_ok-lane.ensures 7) c.see.ensures.made c.see.ensures.world c.number_seen.ensures in
    let s3 = did_store sh n w at c.number_seen.new.self c.store-stored.new.self
    c.store-stored.result s2 c.store-stored.ensures in
    let s4 = did_flush sh n w at c.store-stored.new.self c.flush-flushed.new.self
    c.flush-flushed.result s3 c.flush-flushed.ensures in
    let s5 = did_drain sh n w at c.flush-flushed.new.self c.drain-drained.new.self
    c.drain-drained.result s4 c.drain-drained.ensures in
    can_store_again sh n w at c.drain-drained.new.self s5
