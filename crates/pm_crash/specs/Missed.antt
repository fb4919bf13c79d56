-- A CALL THAT ENDED AS NoObject: which object its last operation names was not there, as the lane saw
-- it by the time that it took its number.
use Rattle.std.specs.Prelude.{◌≡◌, ◌≢◌, ◌⊎◌, ℕ, ◌/◌, ◌<◌, ◌==◌, ◌&&◌, Bool, true, false, Contains, List, [], ◌∷◌, ◌++◌, map}
use Rattle.pm_layout.specs.declared.shape.Shape.{Shape}
use Rattle.pm_model.specs.Pending.{Pending, SetWord}
use Rattle.pm_model.specs.Places.{can_begin}
use Rattle.pm_model.specs.Transaction.{Transaction, idle, is_gone}
use Rattle.pm_objects.specs.declared.calls.Operation.{Operation}
use Rattle.pm_objects.specs.declared.calls.Operation.TheVariants.{Begin, Lock, AddRange, Write, Read, Increment, Free, Publish}
use Rattle.pm_objects.specs.declared.calls.Want.{Want}
use Rattle.pm_objects.specs.declared.ids.Oid.{Oid}
use Rattle.pm_view.specs.Claims.{Claim, SawDescriptor, class, is_run}
use Rattle.pm_view.specs.Places.{Block}
use Rattle.pm_view.specs.View.{Constants, Numbered, Told, View}
use Rattle.pm_world.specs.Causes.{times_missed}
use Rattle.pm_world.specs.Opens.{idle_views}
use Rattle.pm_world.specs.Runs.{IsRun, IsWorld, LaneStep, Moment}
use Rattle.pm_world.specs.World.{Opening}
use Rattle.pm_crash.specs.Answers.{has_block, offset_by}
use Rattle.pm_crash.specs.Calls.{pending_of}
use Rattle.pm_crash.specs.OpenRuns.{after_told, no_pool}

-- ---- WHAT THE OPERATION FOUND

-- the objects that an operation names; a publish names those that are pending
abbrev pub ids_named : Pending → Operation → List Oid
ids_named p (Begin wants) = map (λ (want : Want). want.id) wants
ids_named p (Lock want) = want.id ∷ []
ids_named p (AddRange id at len) = id ∷ []
ids_named p (Write id at bytes) = id ∷ []
ids_named p (Read id at len) = id ∷ []
ids_named p (Increment id at by) = id ∷ []
ids_named p (Free id) = id ∷ []
ids_named p Publish = p.frees ++ map (λ (a : SetWord). a.id) p.sets
ids_named p op = []

-- the operations of a call before the last
abbrev pub before_last : List Told → List Told
before_last [] = []
before_last (t ∷ []) = []
before_last (t ∷ next ∷ told) = t ∷ before_last (next ∷ told)

-- the transaction's lists after these, by what they replied
abbrev pub lists_before : View → Transaction
lists_before v = after_told (before_last v.call) (idle no_pool (pending_of v.entries))

-- ---- BLOCKS THAT THE CALL MISSED

-- the call of these claims missed the block: more often than its lane had as it took the numbers
-- of these entries
pub record MissedBlock (sh : Shape) (entries : List Numbered) (claims : List Claim)
    (B : Block) : Type 0 where
  pub some : 0 < times_missed sh B claims
  pub since : (e : Numbered) → Contains entries e
      → times_missed sh B e.claims < times_missed sh B claims

-- each block with this offset, whatever the classes of the runs are that the lane does not know
abbrev pub MissedOffset : View → ℕ → Type 0
MissedOffset v off = (classes : ℕ → ℕ)
    → ((c : ℕ) → class v.claims c ≢ 0 → classes c ≡ class v.claims c)
    → (B : Block) → has_block v.fixed.shape classes B ≡ true
    → offset_by v.fixed.shape classes B ≡ off
    → MissedBlock v.fixed.shape v.entries v.claims B

-- a descriptor was seen of a run of blocks without lines, as no pool without a fault has one
pub record SawEmptyRun (claims : List Claim) : Type 0 where
  pub chunk : ℕ
  pub descriptor : ℕ
  pub saw : Contains claims (SawDescriptor chunk descriptor)
  pub run : is_run descriptor ≡ true
  pub empty : descriptor / 256 ≡ 0

-- NO OBJECT WAS FOUND AT THE OFFSET: each of its blocks was missed, or an empty run was seen
abbrev pub FoundNone : View → ℕ → Type 0
FoundNone v off = MissedOffset v off ⊎ SawEmptyRun v.claims

-- ---- WHY NoObject

-- the id has the form of an object's in the pool
abbrev pub is_placed : Shape → ℕ → Oid → Bool
is_placed sh pool id = id.pool == pool && can_begin sh.lanes sh.zones id.off

-- an object that the operation names has no place, or none was found there, or the transaction
-- itself freed it
pub record LacksObject (v : View) (op : Operation) : Type 0 where
  pub id : Oid
  pub named : Contains (ids_named (lists_before v).pending op) id
  pub why : (is_placed v.fixed.shape v.fixed.pool id ≡ false)
      ⊎ (FoundNone v id.off ⊎ (is_gone (lists_before v) id.off ≡ true))

-- or what is pending asks something of an object that is to be freed already
abbrev pub WhyNoObject : View → Operation → Type 0
WhyNoObject v op = LacksObject v op ⊎ ((lists_before v).pending.late ≡ true)

-- ---- THE CLASSES OF RUNS THAT A CALL KNEW its lane knows still
abbrev pub ClassesStayKnown : View → Type 0
ClassesStayKnown v = (e : Numbered) → Contains v.entries e
    → (c : ℕ) → class e.claims c ≢ 0 → class v.claims c ≡ class e.claims c

-- so it is in every run from an opening, of any lanes in any order
abbrev pub RunsKeepClassesKnown : Type 0
RunsKeepClassesKnown = (o : Opening) (fixed : ℕ → Constants) (generation : ℕ → ℕ)
    (turns : List LaneStep) (old new : Moment)
    → IsWorld o old → old.views ≡ idle_views fixed generation → IsRun o old turns new
    → (k : ℕ) → ClassesStayKnown (new.views k)
