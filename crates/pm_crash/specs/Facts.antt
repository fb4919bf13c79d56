-- FROM A CALL'S EFFECT TO ITS FACT: what a crate of calls has to show of one call, block by block.
use Rattle.std.specs.Prelude.{◌≡◌, ◌≢◌, ◌⊎◌, ℕ, ◌+◌, ◌*◌, ◌<◌, true, false, Contains, List, [], ◌∷◌, Option, None, Some}
use Rattle.pm_header.specs.declared.header.Header.{Header}
use Rattle.pm_objects.specs.declared.calls.Operation.{Operation}
use Rattle.pm_objects.specs.declared.calls.Want.{Want}
use Rattle.pm_objects.specs.declared.history.Value.TheVariants.{Refused}
use Rattle.pm_objects.specs.declared.pool.PoolView.{PoolView}
use Rattle.pm_objects.specs.declared.ids.Oid.{Oid}
use Rattle.pm_objects.specs.declared.refusal.Refusal.TheVariants.{Busy, NoObject}
use Rattle.pm_model.specs.CallStep.{CallRun, CallStep, State}
use Rattle.pm_model.specs.Inside.{wants_of}
use Rattle.pm_model.specs.Items.{Item, Items, plain_pool}
use Rattle.pm_model.specs.Pending.{Pending}
use Rattle.pm_model.specs.Transaction.{is_gone}
use Rattle.pm_view.specs.Places.{Block, Place, RootWord}
use Rattle.pm_view.specs.Steps.{Step}
use Rattle.pm_view.specs.Steps.Step.{Draw}
use Rattle.pm_view.specs.View.{View, Constants, Numbered, Told, idle}
use Rattle.pm_view.specs.Views.{after}
use Rattle.pm_world.specs.Causes.{drawn_by, was_refused}
use Rattle.pm_world.specs.Memory.{Memory}
use Rattle.pm_world.specs.World.{Opening, Views, Past, World}
use Rattle.pm_world.specs.States.{State as Bits, Diff, after_diff, diff, given}
use Rattle.pm_world.specs.Sights.{call_in}
use Rattle.pm_crash.specs.Answers.{NoObjectAt, ReportCauses}
use Rattle.pm_crash.specs.Calls.{Fact, IsRunOf, StepsFrom, pending_of, pending_then, state_of}
use Rattle.pm_crash.specs.Footprints.{MayPrecede, Footprints}
use Rattle.pm_crash.specs.Freshness.{root_told}
use Rattle.pm_crash.specs.HeapChanges.{ChangesHeap}
use Rattle.pm_crash.specs.Missed.{ClassesStayKnown, SawEmptyRun, WhyNoObject, ids_named, lists_before}
use Rattle.pm_crash.specs.Replayed.{HasFacts}
use Rattle.pm_crash.specs.Objects.{StandsIn, is_allocated, item_of, offset_of}
use Rattle.pm_crash.specs.Spelled.{Holds, number}

-- what the call changes, and the bits after it
abbrev pub change_of : View → Diff
change_of v = diff (call_in v)

abbrev pub bits_after : View → Bits → Bits
bits_after v s = after_diff (change_of v) s

-- the state that the call leaves, with these items: its root is what the root word says then
abbrev pub state_with : View → Bits → PoolView → (ℕ → Pending) → Items → State
state_with v s pool pending items = record {
  pool = record (plain_pool pool) { items = items; root = root_told (number (bits_after v s RootWord)) };
  pending = pending_then v pending;
}

-- THE CALL'S EFFECT, from bits that hold a pool: it changes a heap; in its blocks stand these items
-- then, each in one; and to them leads the model's call, with the replies that the lane gave
pub record HasEffect (v : View) (class : ℕ → ℕ) (s : Bits) (pool : PoolView)
    (pending : ℕ → Pending) : Type 0 where
  pub changes : ChangesHeap v.fixed.shape class s (change_of v)
  pub items : Items
  pub has : (B : Block) → is_allocated v.fixed.shape (bits_after v s) B ≡ true
      → items (offset_of v.fixed.shape class (bits_after v s) B)
      ≡ Some (item_of v.fixed.shape class (bits_after v s) B)
  pub stands : (off : ℕ) (item : Item) → items off ≡ Some item
      → StandsIn v.fixed.shape class (bits_after v s) off item
  pub run : CallRun
  pub is_run : IsRunOf v run
  pub steps : CallStep (state_of pool pending) run (state_with v s pool pending items)

-- so the call is a step
abbrev pub EffectsAreSteps : Type 0
EffectsAreSteps = (v : View) (class : ℕ → ℕ) (s : Bits) (header : Header) (pool : PoolView)
    (pending : ℕ → Pending) → Holds v.fixed.shape class s header pool
    → HasEffect v class s pool pending → StepsFrom v class s header pool pending

-- and where it has its effect from all bits that may precede it, it has its fact
abbrev pub EffectsAreFacts : Type 0
EffectsAreFacts = (v : View)
    → ((class : ℕ → ℕ) (s : Bits) (header : Header) (pool : PoolView) (pending : ℕ → Pending)
    → MayPrecede class v s → Holds v.fixed.shape class s header pool
    → header.id ≡ v.fixed.pool → pending v.fixed.lane ≡ pending_of v.entries
    → HasEffect v class s pool pending)
    → Fact v

-- A CALL THAT CHANGES NOTHING is a step where the model's call leaves the pool as it is
abbrev pub QuietCallsAreSteps : Type 0
QuietCallsAreSteps = (v : View) (class : ℕ → ℕ) (s : Bits) (header : Header) (pool : PoolView)
    (pending : ℕ → Pending) (run : CallRun) → Holds v.fixed.shape class s header pool
    → ((p : Place) (b : ℕ) → given (change_of v p b) ≡ false) → IsRunOf v run
    → CallStep (state_of pool pending) run
    (record { pool = plain_pool pool; pending = pending_then v pending })
    → StepsFrom v class s header pool pending

-- ---- A CALL THAT ENDED AS Busy

-- the last operation of some
abbrev pub last_or : Told → Option Told → Option Told
last_or t None = Some t
last_or t (Some later) = Some later

abbrev pub last_of : List Told → Option Told
last_of [] = None
last_of (t ∷ told) = last_or t (last_of told)

-- the lock of an object that is wanted was tried, and the try was refused. The lock is that of the
-- line before the object
pub record WasTried (wants : List Want) (seen : List Step) : Type 0 where
  pub want : Want
  pub among : Contains wants want
  pub line : ℕ
  pub before : want.id.off ≡ 64 * line + 64
  pub refused : was_refused line seen ≡ true

-- where the last operation of a call was told as Busy, a lock that it wants was tried so in the call
abbrev pub BusyWasTried : List Told → List Step → Type 0
BusyWasTried call seen = (op : Operation)
    → last_of call ≡ Some (record { operation = op; reply = Some (Refused Busy) })
    → WasTried (wants_of op) seen

-- where it was recorded as NoObject, the call's lane saw why
abbrev pub MissWasSeen : View → Type 0
MissWasSeen v = (op : Operation)
    → last_of v.call ≡ Some (record { operation = op; reply = Some (Refused NoObject) })
    → WhyNoObject v op

-- ---- THE ENTRIES OF A LANE HAVE THEIR FACTS

-- an entry with those before it, as a view: what its call rested on, changed and told
abbrev pub view_drawn : Constants → Numbered → List Numbered → View
view_drawn fixed e earlier = record (idle fixed e.log.generation) {
  claims = e.claims;
  log = e.log;
  call = e.call;
  entries = earlier;
}

unfoldable pub EntriesHaveFacts : Constants → List Numbered → Type 0
EntriesHaveFacts fixed [] = Unit {0}
EntriesHaveFacts fixed (e ∷ earlier) =
    (Fact (view_drawn fixed e earlier) × BusyWasTried e.call e.seen
    × MissWasSeen (view_drawn fixed e earlier)) × EntriesHaveFacts fixed earlier

abbrev pub HaveFacts : View → Type 0
HaveFacts v = EntriesHaveFacts v.fixed v.entries

-- A CALL THAT HAS ITS FACT as it takes its number leaves a lane whose entries have theirs
abbrev pub DrawsKeepFacts : Type 0
DrawsKeepFacts = (v : View) (n : ℕ) → Fact v → BusyWasTried v.call v.seen → MissWasSeen v
    → HaveFacts v → HaveFacts (after v (Draw n))

-- SO THE CALLS OF A HISTORY HAVE THEIR FACTS where the entries of each lane's view do
abbrev pub HistoriesHaveFacts : Type 0
HistoriesHaveFacts = (o : Opening) (id : ℕ) (mem : Memory) (views : Views) (g : Past)
    → World o mem views g → Footprints o id views g
    → ((k : ℕ) → k < o.lanes → HaveFacts (views k)) → HasFacts g

-- and those of its calls that ended as Busy had tried a lock
abbrev pub HistoriesTriedLocks : Type 0
HistoriesTriedLocks = (o : Opening) (mem : Memory) (views : Views) (g : Past)
    → World o mem views g → ((k : ℕ) → k < o.lanes → HaveFacts (views k))
    → (n : ℕ) → n < g.length → BusyWasTried (g.drew n).call (g.drew n).seen

-- ---- THE CALLS OF A HISTORY THAT ENDED AS NoObject

-- their lanes saw why
abbrev pub HistoriesSawMisses : Type 0
HistoriesSawMisses = (o : Opening) (id : ℕ) (mem : Memory) (views : Views) (g : Past)
    → World o mem views g → Footprints o id views g
    → ((k : ℕ) → k < o.lanes → HaveFacts (views k))
    → (n : ℕ) → n < g.length → MissWasSeen (g.drew n)

-- WHY NO OBJECT WITH THIS ID was there, for call n of the history in a pool with id `pool`: it is of
-- another pool; or after some number, not before the lane's last, no object stood at its offset; or
-- its lane saw an empty run; or the call itself freed it
abbrev pub NoneWasThere : Opening → ℕ → Past → ℕ → Oid → Type 0
NoneWasThere o pool g n id = (id.pool ≢ pool)
    ⊎ (NoObjectAt o g (drawn_by g n) n id.off
    ⊎ (SawEmptyRun (g.drew n).claims ⊎ (is_gone (lists_before (g.drew n)) id.off ≡ true)))

-- so it is of an object that the call's last operation names
pub record HasNoObjectCause (o : Opening) (pool : ℕ) (g : Past) (n : ℕ) (op : Operation)
    : Type 0 where
  pub id : Oid
  pub named : Contains (ids_named (lists_before (g.drew n)).pending op) id
  pub why : NoneWasThere o pool g n id

-- EACH SUCH CALL HAS ITS CAUSE; or what was pending asked something of an object to be freed already
abbrev pub NoObjectsHaveCauses : Type 0
NoObjectsHaveCauses = (o : Opening) (pool : ℕ) (mem : Memory) (views : Views) (g : Past)
    → World o mem views g → Footprints o pool views g → ReportCauses o mem views g
    → ((k : ℕ) → k < o.lanes → ClassesStayKnown (views k))
    → ((k : ℕ) → k < o.lanes → HaveFacts (views k))
    → (n : ℕ) (op : Operation) → n < g.length
    → last_of (g.drew n).call ≡ Some (record { operation = op; reply = Some (Refused NoObject) })
    → HasNoObjectCause o pool g n op ⊎ ((lists_before (g.drew n)).pending.late ≡ true)
