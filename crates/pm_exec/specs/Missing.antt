-- WHY A CALL WAS REFUSED AS NoObject, by the entries of a history: an object that it names did not stand
-- when its lane looked.
use Rattle.std.specs.Prelude.{◌≡◌, ◌≢◌, ◌⊎◌, ℕ, ◌<◌, ◌≤◌, Contains, List, [], ◌∷◌, length, map, slice_index_or, Some}
use Rattle.pm_model.specs.History.{IsMissedBefore}
use Rattle.pm_objects.specs.declared.calls.Operation.{Operation}
use Rattle.pm_objects.specs.declared.calls.Operation.TheVariants as operation
use Rattle.pm_objects.specs.declared.calls.Want.{Want}
use Rattle.pm_objects.specs.declared.history.Entry.{Entry}
use Rattle.pm_objects.specs.declared.ids.Oid.{Oid}
use Rattle.pm_objects.specs.declared.pool.PoolView.{PoolView}
use Rattle.pm_objects.specs.declared.refusal.Refusal.TheVariants.{NoObject}
use Rattle.pm_exec.specs.Answers.{refused_as}

-- the objects that an operation of the words that lanes run names
abbrev pub ids_of : Operation → List Oid
ids_of (operation.Begin wants) = map (λ (want : Want). want.id) wants
ids_of (operation.Lock want) = want.id ∷ []
ids_of (operation.AddRange id off len) = id ∷ []
ids_of (operation.Write id off bytes) = id ∷ []
ids_of (operation.Read id off len) = id ∷ []
ids_of (operation.Increment id off by) = id ∷ []
ids_of (operation.SetValue id off value) = id ∷ []
ids_of op = []

-- an operation of the call names the object, or one of an earlier call of its lane does: a word that
-- was asked for then may be published now
pub record IsNamed (entries : List Entry) (call : ℕ) (e : Entry) (id : Oid) : Type 0 where
  pub by : ℕ
  pub earlier : by ≤ call
  pub of_lane : (slice_index_or entries by e).call.lane ≡ e.call.lane
  pub operation : Operation
  pub among : Contains (slice_index_or entries by e).call.operations operation
  pub names : Contains (ids_of operation) id

-- THE CAUSE OF NoObject for an entry, call `call` of the history: an object that it names is of
-- another pool; or, after the entries up to some number, not below that of the lane's entry before,
-- no object stood there
pub record HasMissed (pool : PoolView) (entries : List Entry) (call : ℕ) (e : Entry) : Type 0 where
  pub id : Oid
  pub named : IsNamed entries call e id
  pub why : (id.pool ≢ pool.id) ⊎ IsMissedBefore pool entries e id.off

-- each entry that was refused so has its cause
abbrev pub MissesHaveCauses : PoolView → List Entry → Type 0
MissesHaveCauses pool entries = (call : ℕ) (d : Entry) → call < length entries
    → refused_as (slice_index_or entries call d).fate ≡ Some NoObject
    → HasMissed pool entries call (slice_index_or entries call d)
