-- What a lane has reserved where no transaction is open, or one is over: docs/MODEL.md, "From call to call".
use Rattle.std.specs.Prelude.{All, map}
use Rattle.solo_crash.specs.CallBlocks.{reserved_object}
use Rattle.solo_crash.specs.Pending.{pending_before}
use Rattle.solo_crash.specs.Reserving.{HasReserved}
use Rattle.solo_epoch.specs.Reserving.{with_next_call}
use Rattle.solo_view.specs.View.{View}
use Rattle.solo_transaction.specs.AtWork.{LiesInReserved}

-- the lane's call is over: what is pending that is reserved stands in its words as the next call begins, in blocks that it reserved
pub record StandsAtRest (v : View) : Type 0 where
  pub stands : HasReserved (with_next_call v)
  pub within : All (LiesInReserved v) (map reserved_object (pending_before v).reserved)
