-- WHAT A HISTORY MEANS: the calls that are kept, one whole call after another.
use Rattle.std.specs.Prelude.{ℕ, zero, suc, ◌<◌, ◌==◌, ◌&&◌, Bool, cond, List, [], ◌∷◌, ◌++◌}
use Rattle.std.specs.List.{AllZip}
use Rattle.pm_header.specs.declared.header.Header.{Header}
use Rattle.pm_objects.specs.declared.pool.PoolView.{PoolView}
use Rattle.pm_model.specs.CallStep.{CallRun}
use Rattle.pm_model.specs.History.{opened}
use Rattle.pm_model.specs.Names.{Replays}
use Rattle.pm_model.specs.Pending.{Pending, none_pending}
use Rattle.pm_view.specs.View.{View}
use Rattle.pm_world.specs.World.{Opening, Past}
use Rattle.pm_crash.specs.Calls.{Fact, IsRunOf, pending_after, state_of}
use Rattle.pm_crash.specs.Footprints.{kept_bits}
use Rattle.pm_crash.specs.Spelled.{Holds}

-- the calls that are kept of the first n, in their order
abbrev pub kept_calls : (ℕ → Bool) → (ℕ → View) → ℕ → List View
kept_calls keep drew zero = []
kept_calls keep drew (suc n) =
    cond (keep n) (kept_calls keep drew n ++ drew n ∷ []) (kept_calls keep drew n)

-- what they leave pending for each lane
abbrev pub kept_pending : (ℕ → Bool) → (ℕ → View) → ℕ → ℕ → Pending
kept_pending keep drew zero k = none_pending
kept_pending keep drew (suc n) k =
    let p = kept_pending keep drew n k in
    cond (keep n && (k == (drew n).fixed.lane)) (pending_after (drew n).call p) p

-- the calls of these views, one whole call after another, lead from the one pool to the other, with
-- this pending
pub record Replay (pool : PoolView) (calls : List View) (last : PoolView) (pending : ℕ → Pending)
    : Type 0 where
  pub runs : List CallRun
  pub are : AllZip IsRunOf calls runs
  pub replays : Replays (opened pool) runs (state_of last pending)

-- THE BITS AFTER THE FIRST n CALLS HOLD THE REPLAY of those that are kept
pub record HoldsReplay (o : Opening) (g : Past) (keep : ℕ → Bool) (n : ℕ) (header : Header)
    (pool : PoolView) : Type 0 where
  pub last : PoolView
  pub holds : Holds o.shape g.geo.class (kept_bits o g keep n) header last
  pub replay : Replay pool (kept_calls keep g.drew n) last (kept_pending keep g.drew n)

-- each call has its fact
abbrev pub HasFacts : Past → Type 0
HasFacts g = (n : ℕ) → n < g.length → Fact (g.drew n)
