-- WHAT IS KNOWN OF THE CALLS THAT LINES MAKE, in one record: how each turns its lane's history, where it
-- leaves its lane in its transactions, and whether it may take a number before the lane stops in it.
use Rattle.pm_view.specs.View.{View}
use Rattle.pm_call.specs.Positions as positions
use Rattle.pm_tx.specs.Standing as tx
use Rattle.pm_tx.specs.Positions as tx_moves
use Rattle.pm_action.specs.Standing as action
use Rattle.pm_action.specs.Positions as action_moves

pub record CallsAreKnown {M : Type 0} (at : M → View → Type 0) : Type 0 where
  pub begin_ : tx.BeginsTurn at
  pub begin_moves : tx_moves.BeginsMove at
  pub lock : tx.LocksTurn at
  pub lock_moves : tx_moves.LocksMove at
  pub add : tx.AddsTurn at
  pub add_moves : tx_moves.AddsMove at
  pub write : tx.WritesTurn at
  pub write_moves : tx_moves.WritesMove at
  pub read : tx.ReadsTurn at
  pub read_moves : tx_moves.ReadsMove at
  pub increment : tx.IncrementsTurn at
  pub increment_moves : tx_moves.IncrementsMove at
  pub publish_inside : tx.PublishesTurn at
  pub publish_inside_moves : tx_moves.PublishesMove at
  pub commit : tx.CommitsTurn at
  pub commit_moves : tx_moves.CommitsMove at
  pub abort : tx.AbortsTurn at
  pub abort_moves : tx_moves.AbortsMove at
  pub end : tx.EndsTurn at
  pub end_moves : tx_moves.EndsMove at
  pub end_returns : tx_moves.EndsReturnTheError at
  pub set : action.SetsTurn at
  pub set_moves : action_moves.SetsStay at
  pub cancel : action.CancelsTurn at
  pub cancel_moves : action_moves.CancelsMove at
  pub publish : action.PublishesTurn at
  pub publish_moves : action_moves.PublishesStay at
  pub working : positions.WorkingLanesMayWork at
  pub resting : positions.RestingLanesMayBegin at
  pub aborted : positions.AbortedLanesMayEnd at
  pub committed : positions.CommittedLanesMayEnd at
