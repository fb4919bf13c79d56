-- A LANE AT WORK AGAINST THE PLAIN MODEL: from whatever bits are before its call, as far as it
-- knows them, and whatever pool they hold, what it told leads the model to one transaction; and
-- the copy of the objects in it is what stands in the bits as the call has made them so far.
use Rattle.std.specs.Prelude.{◌≡◌, ◌⊎◌, ℕ, ◌+◌, ◌-◌, ◌*◌, ◌/◌, ◌%◌, ◌^◌, ◌<◌, ◌≤◌, nat_le, nat_lt, ◌==◌, ◌&&◌, ◌||◌, Bool, true, false, if◌then◌else◌, List, [], ◌∷◌, ◌++◌, map, Option, None, Some}
use Rattle.std.specs.List.{list_any}
use Rattle.pm_header.specs.declared.header.Header.{Header}
use Rattle.pm_layout.specs.Areas.{page_words}
use Rattle.pm_layout.specs.declared.shape.Shape.{Shape}
use Rattle.pm_objects.specs.declared.calls.Operation.{Operation}
use Rattle.pm_objects.specs.declared.calls.Operation.TheVariants.{Alloc, Publish}
use Rattle.pm_objects.specs.declared.history.Value.{Value}
use Rattle.pm_objects.specs.declared.history.Value.TheVariants.{Offset}
use Rattle.pm_objects.specs.declared.pool.PoolView.{PoolView}
use Rattle.pm_model.specs.Blocks.{Block as Placed}
use Rattle.pm_model.specs.Inside.{Ran, Replies, after, is_kept_by}
use Rattle.pm_model.specs.Items.{Items, PlainPool, plain_pool}
use Rattle.pm_model.specs.Pending.{Pending, blocks_reserved}
use Rattle.pm_model.specs.Transaction.{Transaction, idle, is_working}
use Rattle.pm_view.specs.Claims.{class, first, header_in, span}
use Rattle.pm_view.specs.Entries.{Entry}
use Rattle.pm_view.specs.Places.{Place, InRun, InHuge, Block, Small, Big}
use Rattle.pm_view.specs.Changes.{Undrained}
use Rattle.pm_view.specs.Steps.{Step}
use Rattle.pm_view.specs.Steps.Step.{Tell}
use Rattle.pm_view.specs.View.{Seen, Told, View}
use Rattle.pm_view.specs.Views as views
use Rattle.pm_world.specs.BlockLines.{OwnHas}
use Rattle.pm_world.specs.Lanes.{sees}
use Rattle.pm_world.specs.Memory.{bit}
use Rattle.pm_world.specs.Sights.{call_of, is_recorded, sight_of}
use Rattle.pm_world.specs.States.{State, Call, Diff, after_diff, diff, size_at}
use Rattle.pm_crash.specs.Calls.{pending_after, pending_of, pending_with, told_by}
use Rattle.pm_crash.specs.Footprints.{MayPrecedeBut, bit_before, geometry_of, has_found, has_own, is_run_to}
use Rattle.pm_crash.specs.Objects.{is_allocated, lines_of}
use Rattle.pm_crash.specs.OpenRuns.{AreReplies, after_told, no_pool, on_pool}
use Rattle.pm_crash.specs.Roots.{saw_root}
use Rattle.pm_crash.specs.Scenes.{IsScene}
use Rattle.pm_crash.specs.Spelled.{Holds, words_by}

-- ---- THE TRANSACTION

-- the lane's lists as the model has them: level and stage, locks and records, what the call made
-- and freed, what is pending and what is to be set. They follow from what it told
abbrev pub lists_of : View → Transaction
lists_of v = after_told v.call (idle no_pool (pending_of v.entries))

-- THE TRANSACTION OF THESE LISTS, on a pool and a copy of its objects
abbrev pub tx_with : View → PlainPool → Items → Transaction
tx_with v before copy = on_pool before copy (lists_of v)

-- the copy that its operations make of a pool's objects
abbrev pub copy_of : View → PlainPool → Items
copy_of v pool = (after_told v.call (idle pool (pending_of v.entries))).items

-- ---- THE BITS

-- what the call makes final, where these are its entries so far: of blocks that it makes and frees
abbrev pub open_call : View → List Entry → Call
open_call v entries = call_of v.fixed.shape v.claims (record v.log { entries = entries })

abbrev pub change_so_far : View → List Entry → Diff
change_so_far v entries = diff (open_call v entries)

-- the bits as the call has made them
abbrev pub bits_now : View → List Entry → State → State
bits_now v entries s = after_diff (change_so_far v entries) s

-- these items stand in the blocks of the bits, and nothing else does
abbrev pub StandIn : Shape → (ℕ → ℕ) → State → Items → Type 0
StandIn sh classes s items =
    IsScene (is_allocated sh s) (lines_of sh classes s) (words_by sh classes s) items

-- ---- BLOCKS OF ITS OWN that are to be objects

-- the blocks that an operation makes objects of, or is to: it stays so to the end of the call
abbrev pub made_by : Operation → Option Value → Pending → List Placed
made_by (Alloc size kind) (Some (Offset off)) p = record { off = off; size = size } ∷ []
made_by Publish reply p = blocks_reserved p
made_by op reply p = []

unfoldable pub made_after : List Told → Pending → List Placed
made_after [] p = []
made_after (t ∷ told) p =
    made_by t.operation t.reply p ++ made_after told (pending_with t.operation t.reply p)

-- those that the call made; and those that are reserved, if what is pending is to be published
abbrev pub blocks_kept : Bool → View → List Placed
blocks_kept kept v = made_after v.call (pending_of v.entries)
    ++ (if kept then blocks_reserved (pending_after v.call (pending_of v.entries)) else [])

-- the offset of the object that may stand in a block, as the lane knows
abbrev pub known_offset : View → Block → ℕ
known_offset v B = 64 * header_in v.fixed.shape v.claims B + 64

abbrev pub is_kept_block : View → Bool → Block → Bool
is_kept_block v kept B = has_own v B
    && list_any (λ (b : Placed). b.off == known_offset v B) (blocks_kept kept v)

-- the bits may be those before the call: what the lane found, recorded and knows is so, and these
-- of its blocks are free
abbrev pub Agrees : (ℕ → ℕ) → View → Bool → State → Type 0
Agrees classes v kept s = MayPrecedeBut classes v (is_kept_block v kept) s

-- ---- THE SIMULATION

-- WHAT THE CALL CAME TO, from bits that hold a pool, and if what is pending is published or not
pub record Came (v : View) (entries : List Entry) (kept : Bool) (classes : ℕ → ℕ) (s : State)
    (pool : PlainPool) : Type 0 where
  -- its operations reply as the model says
  pub runs : List Ran
  pub told : map told_by runs ≡ v.call
  pub replies : AreReplies kept (idle pool (pending_of v.entries)) runs
  -- and the copy stands in the bits as the call has made them
  pub stands : StandIn v.fixed.shape classes (bits_now v entries s) (copy_of v pool)

-- SO IT IS FROM WHATEVER BITS the lane agrees with
pub record Sim (v : View) (entries : List Entry) : Type 0 where
  pub come : (kept : Bool) (classes : ℕ → ℕ) (s : State) (header : Header) (pool : PoolView)
      → Agrees classes v kept s → Holds v.fixed.shape classes s header pool
      → header.id ≡ v.fixed.pool → Came v entries kept classes s (plain_pool pool)

-- ---- HOW IT GOES ON, with no bits in it

-- the lane sees the bit, whatever the bits before are
abbrev pub sees_at : View → Place → ℕ → Bool
sees_at v p b = sees (geometry_of v) (λ q e. false) (sight_of v).hold p b

-- both know the place as of one block
abbrev pub IsSamePlace : View → View → Place → Type 0
IsSamePlace v next (InRun c w) = class next.claims c ≡ class v.claims c
IsSamePlace v next (InHuge c w) =
    first next.fixed.shape next.claims c ≡ first v.fixed.shape v.claims c
IsSamePlace v next p = Unit {0}

-- THE LANE KNOWS THAT A PLACE IS AN OBJECT'S, whether it recorded the place or not: it knows the
-- size of the object, which has the place's line
abbrev pub size_place : View → Place → Place
size_place v (InRun c w) = size_at (class v.claims c) c ((w / 8 - 1) / class v.claims c)
size_place v (InHuge c w) = InHuge (first v.fixed.shape v.claims c) 1
size_place v p = p

abbrev pub object_line : View → Place → ℕ
object_line v (InRun c w) = (w / 8 - 1) % class v.claims c
object_line v (InHuge c w) = 64 * (c - first v.fixed.shape v.claims c) + w / 8
object_line v p = 0

-- it is a word of a run's block, or of a huge block that has its first chunk
abbrev pub is_of_block : View → Place → Bool
is_of_block v (InRun c w) = is_run_to v c && (nat_le 8 w && nat_lt w page_words)
is_of_block v (InHuge c w) = nat_lt w page_words
    && (first v.fixed.shape v.claims (first v.fixed.shape v.claims c)
    == first v.fixed.shape v.claims c)
is_of_block v p = false

pub record IsInObject (v : View) (p : Place) : Type 0 where
  pub of_block : is_of_block v p ≡ true
  pub size : ℕ
  pub small : size < 2 ^ 64
  pub has_line : object_line v p ≤ (size + 63) / 64
  pub sees : (b : ℕ) → sees_at v (size_place v p) b ≡ true
  pub sized : (b : ℕ) → b < 64 → bit_before v (size_place v p) b ≡ Some (bit size b)

-- THE LANE KNOWS NO LESS of the bits before its call
pub record Grows (v : View) (kept : Bool) (next : View) (kept' : Bool) : Type 0 where
  pub found : (B : Block) → has_found v B ≡ true → has_found next B ≡ true
  pub spans : (f : ℕ) → has_found v (Big f) ≡ true
      → span next.fixed.shape next.claims f ≡ span v.fixed.shape v.claims f
  pub class : (c i : ℕ) → (has_found v (Small c i) || is_kept_block v kept (Small c i)) ≡ true
      → Rattle.pm_view.specs.Claims.class next.claims c ≡ Rattle.pm_view.specs.Claims.class v.claims c
  pub own : (B : Block) → is_kept_block v kept B ≡ true → is_kept_block next kept' B ≡ true
  pub lines : (B : Block) (line : ℕ) → is_kept_block v kept B ≡ true
      → OwnHas v.fixed.shape (sight_of v).hold (geometry_of v) B line
      → OwnHas next.fixed.shape (sight_of next).hold (geometry_of next) B line
  pub sees : (p : Place) (b : ℕ) → sees_at v p b ≡ true
      → (sees_at next p b ≡ true) × IsSamePlace v next p
  -- a recorded place is so still, or known to be an object's
  pub recorded : (p : Place) (b : ℕ) → sees_at v p b ≡ true → is_recorded v.log.records p ≡ true
      → (is_recorded next.log.records p ≡ true) ⊎ IsInObject next p
  pub knows : (p : Place) (b : ℕ) (y : Bool) → sees_at v p b ≡ true → bit_before v p b ≡ Some y
      → bit_before next p b ≡ Some y
  pub roots : (line value : ℕ) → saw_root v.fixed.shape v.claims line value ≡ true
      → saw_root next.fixed.shape next.claims line value ≡ true

-- THE BITS AS THE CALL HAS MADE THEM STAY: each is changed alike, or is recorded now and as it was
pub record IsAsBefore (next : View) (p : Place) (b : ℕ) (y : Bool) : Type 0 where
  pub sees : sees_at next p b ≡ true
  pub recorded : is_recorded next.log.records p ≡ true
  pub before : bit_before next p b ≡ Some y

abbrev pub SameBits : View → List Entry → View → List Entry → Type 0
SameBits v entries next entries' = (p : Place) (b : ℕ)
    → (change_so_far next entries' p b ≡ change_so_far v entries p b)
    ⊎ ((y : Bool) × (change_so_far v entries p b ≡ None)
    × (change_so_far next entries' p b ≡ Some y) × IsAsBefore next p b y)

-- the lane's call is the same, or has one operation more
pub record KeepsEntries (v next : View) : Type 0 where
  pub fixed : next.fixed ≡ v.fixed
  pub entries : next.entries ≡ v.entries

pub record Tells (v next : View) (ran : Ran) : Type 0 where
  pub keeps : KeepsEntries v next
  pub call : next.call ≡ v.call ++ told_by ran ∷ []

-- an operation may come: the first, or one that finds the transaction at work
abbrev pub MayTell : View → Type 0
MayTell v = (v.call ≡ []) ⊎ (is_working (lists_of v).stage ≡ true)

-- what an operation owes with the bits in it: it replies as the model says, and what the model's
-- operation makes of the copy stands in the bits then
pub record LeadsOn (v : View) (entries : List Entry) (next : View) (entries' : List Entry) (ran : Ran)
    (kept : Bool) (classes : ℕ → ℕ) (s : State) (pool : PlainPool) : Type 0 where
  pub replies : Replies (tx_with v pool (copy_of v pool)) ran kept
  pub stands : StandIn next.fixed.shape classes (bits_now next entries' s)
      (after ran (tx_with v pool (copy_of v pool))).items

-- ---- THE LAWS

-- A CALL BEGINS where nothing is told or recorded
abbrev pub SimBegins : Type 0
SimBegins = (v : View) → v.call ≡ [] → v.log.records ≡ [] → Sim v []

-- A LANE THAT TELLS NOTHING, knows no less and leaves the bits goes on so
abbrev pub SimStays : Type 0
SimStays = (v next : View) (entries entries' : List Entry) → Sim v entries
    → KeepsEntries v next → next.call ≡ v.call → ((kept : Bool) → Grows v kept next kept)
    → SameBits v entries next entries' → Sim next entries'

-- ONE MORE OPERATION
abbrev pub SimGoesOn : Type 0
SimGoesOn = (v next : View) (entries entries' : List Entry) (ran : Ran) → Sim v entries
    → Tells v next ran → MayTell v
    → ((kept : Bool) → Grows v (is_kept_by ran.operation kept) next kept)
    → ((kept : Bool) (classes : ℕ → ℕ) (s : State) (header : Header) (pool : PoolView)
    → Agrees classes next kept s → Holds next.fixed.shape classes s header pool
    → header.id ≡ next.fixed.pool
    → Came v entries (is_kept_by ran.operation kept) classes s (plain_pool pool)
    → LeadsOn v entries next entries' ran kept classes s (plain_pool pool))
    → Sim next entries'

-- AN OPERATION THAT IS TOLD leaves what the lane knows, and its blocks that are to be objects
abbrev pub TellsGrow : Type 0
TellsGrow = (v : View) (op : Operation) (reply : Option Value) (kept : Bool)
    → Grows v (is_kept_by op kept) (views.after v (Tell op reply)) kept

-- WHAT GROWS TWICE GROWS: so it is along any steps
abbrev pub GrowthsCompose : Type 0
GrowthsCompose = (v mid next : View) (kept between kept' : Bool) → Grows v kept mid between
    → Grows mid between next kept' → Grows v kept next kept'

-- A STEP THAT TEACHES NOTHING OF BITS: flushes, tries that fail, zones' locks, occupancy words,
-- numbers and stop words seen. It changes no claim, no record and nothing that was told
abbrev pub SimIsKept : Type 0
SimIsKept = (v : View) (entries : List Entry) (changes : List Undrained) (calls : List Step)
    (occupancy : List Seen) (zones : List ℕ) (seen : List Step) → Sim v entries
    → Sim (record v {
      changes = changes;
      calls = calls;
      occupancy = occupancy;
      zones = zones;
      seen = seen;
    }) entries
