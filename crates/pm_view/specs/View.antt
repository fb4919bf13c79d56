-- What one lane knows of the memory and of itself: plain data, in parts.
use Rattle.std.specs.Prelude.{ℕ, zero, suc, Bool, ◌==◌, List, [], Option, None}
use Rattle.pm_layout.specs.declared.shape.Shape.{Shape}
use Rattle.pm_objects.specs.declared.calls.Operation.{Operation}
use Rattle.pm_objects.specs.declared.history.Value.{Value}
use Rattle.pm_view.specs.declared.occ.Occ.{Occ}
use Rattle.pm_view.specs.Changes.{Undrained}
use Rattle.pm_view.specs.Claims.{Claim}
use Rattle.pm_view.specs.Log.{Log, Idle, new_log}
use Rattle.pm_view.specs.Steps.{Step}

-- what stays: the pool's shape and id, the lane's number, its stop number, and how many lanes run
pub record Constants : Type 0 where
  pub shape : Shape
  pub pool : ℕ
  pub lane : ℕ
  pub stop : Option ℕ
  pub lanes : ℕ

-- an occupancy word with the value that the lane last saw or made
pub record Seen : Type 0 where
  pub at : Occ
  pub bits : ℕ

-- an operation with its reply
pub record Told : Type 0 where
  pub operation : Operation
  pub reply : Option Value

-- a call that took a number: an entry of the history, with what its lane had taken, found and
-- logged as it took it, and what its steps had told, the latest first
pub record Numbered : Type 0 where
  pub number : ℕ
  pub call : List Told
  pub claims : List Claim
  pub log : Log
  pub seen : List Step

pub record View : Type 0 where
  pub fixed : Constants
  -- what it took, found, knows and gave up, the latest first
  pub claims : List Claim
  -- the occupancy words that it saw or changed, and the zones whose lock it holds, the latest first
  pub occupancy : List Seen
  pub zones : List ℕ
  -- its undrained changes, and the counted calls that it made, the latest first
  pub changes : List Undrained
  pub calls : List Step
  pub log : Log
  -- the open call: what its steps told that is no value of a word, the latest first; its operations with their replies; its number
  pub seen : List Step
  pub call : List Told
  pub number : Option ℕ
  -- its entries of the history, the latest first, and its pending actions: what was reserved, is to be freed, or is to be set; and those that the open call published
  pub entries : List Numbered
  pub actions : List Told
  pub published : List Told

-- the entry of a lane of this view that takes a number: so many were drawn before it
abbrev pub entry_drawn : ℕ → View → Numbered
entry_drawn n v = record { number = suc n; call = v.call; claims = v.claims; log = v.log; seen = v.seen }

-- one lane runs
abbrev pub runs_one : View → Bool
runs_one v = v.fixed.lanes == 1

-- the view of a lane of which nothing was asked, with this generation
abbrev pub idle : Constants → ℕ → View
idle fixed generation = record {
  fixed = fixed;
  claims = [];
  occupancy = [];
  zones = [];
  changes = [];
  calls = [];
  log = new_log Idle generation;
  seen = [];
  call = [];
  number = None;
  entries = [];
  actions = [];
  published = [];
}
