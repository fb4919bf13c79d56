use Rattle.std.proofs.Common.{arith}
use Rattle.pm_lane_bench.proofs.Fillings.{may_store, stored, may_flush, marked, may_drain, emptied_all}
use Rattle.pm_lane_bench.proofs.lane.store_round.Goals as goal

pub store-requires : goal.store-requires
store-requires g c = let l = c.loop-value-test.true in may_store c.loop-value.lane c.loop-value.value c.loop-value.value l (omega (arith, l)) c.loop-value.invariant

pub loop-value-preserved : goal.loop-value-preserved
loop-value-preserved g c = stored c.loop-value.lane c.store.new.self c.loop-value.value c.loop-value.value c.loop-value.invariant c.in_ok-store.ensures

pub flush-requires : goal.flush-requires
flush-requires g c = let l = c.loop-value-test.false in may_flush c.loop-value.lane c.loop-value.value (omega (arith, l)) c.loop-value.invariant

pub drain-requires : goal.drain-requires
drain-requires g c = let l = c.loop-value-test.false in may_drain c.flush.new.self (marked c.loop-value.lane c.flush.new.self c.loop-value.value (omega (arith, l)) c.loop-value.invariant c.in_ok-flush.ensures)

pub returns : goal.returns
returns g c = let l = c.loop-value-test.false in emptied_all c.flush.new.self c.drain.new.self (marked c.loop-value.lane c.flush.new.self c.loop-value.value (omega (arith, l)) c.loop-value.invariant c.in_ok-flush.ensures) c.in_ok-drain.ensures
