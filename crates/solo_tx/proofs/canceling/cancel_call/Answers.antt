use Rattle.std.proofs.Common.{refl}
use Rattle.solo_tx.proofs.ActionsAtWork.{cancel_ready, has_canceled, stopped_canceling}
use Rattle.solo_tx.proofs.Telling.{is_ready, was_made}
use Rattle.solo_tx.specs.Actions.{cancels}
use Rattle.solo_tx.proofs.canceling.cancel_call.Goals as goal

pub settle_canceled-requires : goal.settle_canceled-requires
settle_canceled-requires g c = let is = c.requires.at_work in record { ready = is_ready (g.M.LaneMem.at c.args.lane.now.memory) cancels is.1.0 is.1.1.seen.memory (cancel_ready is.1.0 is.1.1.working) }

pub returns-in-Ok-clause-done : goal.returns-in-Ok-clause-done
returns-in-Ok-clause-done g c o v work =
    has_canceled v work.working o g.M.LaneMem.at c.args.lane.now _ work
    (record { pool = refl; shape = refl; locks = refl; entries = refl; level = refl; stage = refl; error = refl; drawn = refl; last = refl; stopped = refl }) refl
    (was_made (g.M.LaneMem.at c.args.lane.now.memory) (g.M.LaneMem.at c.settle_canceled.new.mem) cancels tt c.in-Ok.ensures.ran v work.seen.memory (cancel_ready v work.working))

pub returns-in-Err-clause-stops : goal.returns-in-Err-clause-stops
returns-in-Err-clause-stops g c o v work = stopped_canceling v work.working o g.M.LaneMem.at c.args.lane.now _ work refl refl c.in-Err.field-0 c.in-Err.ensures.ran
