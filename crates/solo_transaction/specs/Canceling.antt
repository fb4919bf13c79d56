-- What is pending given up in a transaction (pmemobj_cancel(3)): what it leaves: docs/MODEL.md, "Transactions that make objects".
use Rattle.std.specs.Prelude.{◌≡◌, ◌↔◌, ℕ, ◌<◌, true, List, [], ◌∷◌, ◌++◌, map, None}
use Rattle.solo_crash.specs.Alone.{WorksAlone}
use Rattle.solo_crash.specs.CallBlocks.{block_of, reserved_in}
use Rattle.solo_crash.specs.Pending.{pending_in}
use Rattle.solo_epoch.specs.GivingBack.{gives_back}
use Rattle.pm_header.specs.declared.header.Header.{Header}
use Rattle.solo_lock.specs.Leading.{DrawEnded}
use Rattle.solo_made.specs.Made.{BlockLists}
use Rattle.solo_model.specs.Actions.{none_pending}
use Rattle.pm_objects.specs.declared.calls.Operation.TheVariants.{Cancel}
use Rattle.pm_objects.specs.declared.pool.PoolView.{PoolView}
use Rattle.solo_pending.specs.AllPending.{IsPendingAs}
use Rattle.solo_pending.specs.declared.pending.PendingActions.{PendingActions}
use Rattle.solo_reclaim.specs.KeptBlocks.{IsKeptBit}
use Rattle.solo_tx.specs.Actions.{cancels}
use Rattle.solo_view.specs.Steps.{Step}
use Rattle.solo_view.specs.View.{View}
use Rattle.solo_view.specs.Views.{after_all, reserves}
use Rattle.solo_view.specs.declared.occ.Occ.{Occ}
use Rattle.solo_world.specs.Opening.{Opening}
use Rattle.solo_world.specs.Sequences.{Ready, Sequence, by_view, in_turn}
use Rattle.solo_world.specs.declared.lane.Lane.{Lane}
use Rattle.solo_transaction.specs.AtWork.{IsAtWorkWith}

-- the block of each object that was reserved and pending at the view is given back
abbrev pub gives_pending : View → Sequence
gives_pending v w = gives_back w.lanes (reserved_in v)

-- all that is undrained is made persistent, and the cancel is told; then what was reserved is given back
unfoldable pub cancels_pending : Sequence
cancels_pending = by_view (λ v. in_turn cancels (gives_pending v))

-- the view behind them
abbrev pub given_up_view : View → View
given_up_view v = after_all v (cancels_pending v)

-- the lane works alone, at work in a transaction with these lists, and this is what it has pending
pub record CancelsAlone {M : Type 0} (o : Opening) (header : Header) (pool : PoolView) (start : View) (steps : List Step) (at : M → View → Type 0) (lane : Lane M) (blocks : BlockLists) (pending : PendingActions) (v : View) : Type 0 where
  pub works : WorksAlone o header pool start steps v
  pub work : IsAtWorkWith o at lane blocks v
  pub listed : IsPendingAs pending (pending_in v)

-- so it does, in some world
abbrev pub MayCancel : {M : Type 0} → (M → View → Type 0) → Lane M → BlockLists → PendingActions → Type 0
MayCancel at lane blocks pending =
    (o : Opening) × (header : Header) × (pool : PoolView) × (start : View) × (steps : List Step) × (v : View) × CancelsAlone o header pool start steps at lane blocks pending v

-- From the view before, the lane gave up all that was pending, and is at work still with these lists. No word changed, nothing is undrained, and no number was drawn. Of
-- the heap it has reserved what it had but for the blocks of what was pending: each may be reserved again at once.
pub record HasCanceledWith {M : Type 0} (o : Opening) (at : M → View → Type 0) (lane : Lane M) (blocks : BlockLists) (v : View) : Type 0 where
  pub ready : Ready v (cancels_pending v)
  pub draws : DrawEnded v (cancels_pending v)
  pub works : IsAtWorkWith o at lane blocks (given_up_view v)
  pub none : pending_in (given_up_view v) ≡ none_pending
  pub words : (given_up_view v).words ≡ v.words
  pub records : (given_up_view v).log.records ≡ v.log.records
  pub drained : (given_up_view v).changes ≡ []
  pub call : (given_up_view v).call ≡ v.call ++ record { operation = Cancel; reply = None } ∷ []
  pub entries : (given_up_view v).entries ≡ v.entries
  pub left : (word : Occ) (bit : ℕ) → bit < 64
      → (reserves (given_up_view v) word bit ≡ true) ↔ ((reserves v word bit ≡ true) × ¬ IsKeptBit v.lanes (map block_of (reserved_in v)) word bit)
