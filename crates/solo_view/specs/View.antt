-- What one lane knows of the memory and of itself.
use Rattle.std.specs.Prelude.{ℕ, Bool, List, [], Option, None}
use Rattle.pm_objects.specs.declared.calls.Operation.{Operation}
use Rattle.pm_objects.specs.declared.history.Value.{Value}
use Rattle.solo_view.specs.declared.change.Change.{Change}
use Rattle.solo_view.specs.declared.occ.Occ.{Occ}
use Rattle.solo_view.specs.Log.{Log, no_log}
use Rattle.solo_view.specs.Log.Phase.{Idle}
use Rattle.solo_view.specs.Steps.{Step}

-- a held lock
pub record Lock : Type 0 where
  -- the line that it is of
  pub line : ℕ
  -- held for writing, or for reading alone
  pub write : Bool
  -- the lines of the allocated block that was found to begin at the line, or none
  pub block : Option ℕ

-- blocks of one occupancy word
pub record Taken : Type 0 where
  pub at : Occ
  pub bits : ℕ

-- an operation with its reply
pub record Told : Type 0 where
  pub operation : Operation
  pub reply : Option Value

-- a call that drew a number: an entry of the history
pub record Numbered : Type 0 where
  pub number : ℕ
  pub call : List Told

pub record View : Type 0 where
  -- what stays: the pool's shape and id, the lane's number, its stop number, and the table that it is of, as numbers
  pub lanes : ℕ
  pub zones : ℕ
  pub pool : ℕ
  pub lane : ℕ
  pub stop : Option ℕ
  pub table : List ℕ
  -- the pool's words as the lane last found or left them, and which of them count
  pub words : List ℕ
  pub known : List ℕ
  -- the occupancy words as the lane last found or left them: those of runs by their page, and those of zones by their number
  pub run_words : List ℕ
  pub zone_words : List ℕ
  -- its undrained changes, the oldest first, and how many counted calls it made
  pub changes : List Change
  pub calls : ℕ
  pub log : Log
  -- the locks that it holds, marks among them, and the zones whose lock it holds
  pub locks : List Lock
  pub zone_locks : List ℕ
  -- blocks that it reserved, and blocks that it freed
  pub reserved : List Taken
  pub freed : List Taken
  -- the steps of this call that told it something, in order
  pub seen : List Step
  -- the operations of the open call with their replies, and the number that it drew
  pub call : List Told
  pub number : Option ℕ
  -- the chunks of its new objects so far, counting 1 for a block of a run
  pub chunks : ℕ
  -- its entries of the history, and its pending actions: what was reserved, is to be freed, or is to be set
  pub entries : List Numbered
  pub actions : List Told

-- the view of nobody
abbrev pub blank : View
blank = record {
  lanes = 0;
  zones = 0;
  pool = 0;
  lane = 0;
  stop = None;
  table = [];
  words = [];
  known = [];
  run_words = [];
  zone_words = [];
  changes = [];
  calls = 0;
  log = no_log Idle;
  locks = [];
  zone_locks = [];
  reserved = [];
  freed = [];
  seen = [];
  call = [];
  number = None;
  chunks = 0;
  entries = [];
  actions = [];
}
