-- OPERATIONS THAT MAKE, RESERVE AND FREE OBJECTS: what each owes, with no bits in it.
use Rattle.std.specs.Prelude.{◌≡◌, ℕ, ◌+◌, ◌*◌, ◌%◌, ◌≤◌, Bool, true, false, List, [], ◌∷◌, map, Option, None, Some}
use Rattle.pm_layout.specs.Sizes.{class_of}
use Rattle.pm_objects.specs.Pool.{block_lines}
use Rattle.pm_objects.specs.declared.calls.Operation.TheVariants.{Alloc, Free, Publish, Reserve}
use Rattle.pm_objects.specs.declared.history.Value.TheVariants.{Offset}
use Rattle.pm_objects.specs.declared.ids.Oid.{Oid}
use Rattle.pm_model.specs.Blocks.{Block as Placed, are_covered, covers}
use Rattle.pm_model.specs.Inside.{Ran, is_kept_by, taken_by}
use Rattle.pm_model.specs.Items.{freed_item, made_item, new_item}
use Rattle.pm_model.specs.Pending.{Reservation, blocks_reserved, item_reserved}
use Rattle.pm_model.specs.Places.{CanHold}
use Rattle.pm_view.specs.Entries.{Entry}
use Rattle.pm_view.specs.Places.{Block, Big}
use Rattle.pm_view.specs.View.{View}
use Rattle.pm_world.specs.Lanes.{is_occupancy}
use Rattle.pm_crash.specs.Looked.{refusal_by, words_in}
use Rattle.pm_crash.specs.OwnBlocks.{own_span}
use Rattle.pm_crash.specs.Sim.{Grows, MayTell, SameBits, Sim, Tells, is_kept_block, known_offset, lists_of}
use Rattle.pm_crash.specs.SimBlocks.{ChangesObjects, New, Old}
use Rattle.pm_crash.specs.SimOps.{LookedAt}

-- a huge block's chunks lie in one zone
abbrev pub IsInZone : View → Block → Type 0
IsInZone v (Big f) = f % 64 + own_span v f ≤ 64
IsInZone v B = Unit {0}

-- THE LANE HAS A BLOCK for an object of this size at this offset, none of whose lines is one of these
-- blocks'
pub record HasBlockFor (v : View) (kept : Bool) (taken : List Placed) (b : Placed) : Type 0 where
  pub block : Block
  pub own : is_kept_block v kept block ≡ true
  pub inside : is_occupancy v.fixed.shape block ≡ true
  pub at : known_offset v block ≡ b.off
  pub lines : 8 * block_lines (class_of b.size) ≡ words_in v block
  pub zone : IsInZone v block
  pub others : (l : ℕ) → covers b l ≡ true → are_covered taken l ≡ false

-- and for several, one after another
unfoldable pub HaveBlocksFor : View → Bool → List Placed → List Placed → Type 0
HaveBlocksFor v kept taken [] = Unit {0}
HaveBlocksFor v kept taken (b ∷ blocks) =
    HasBlockFor v kept taken b × HaveBlocksFor v kept (b ∷ taken) blocks

-- ---- FREE

pub record IsFreeing (v : View) (entries : List Entry) (next : View) (entries' : List Entry)
    (root : Option ℕ) (ran : Ran) : Type 0 where
  pub id : Oid
  pub frees : ran.operation ≡ Free id
  pub replied : ran.reply ≡ None
  pub looks : LookedAt v entries root ran.operation
  pub unrefused : refusal_by ran.seen v root ran.operation ≡ None
  pub block : Block
  pub changes : ChangesObjects v entries next entries' (record { block = block; off = id.off } ∷ []) []

abbrev pub SimFrees : Type 0
SimFrees = (v next : View) (entries entries' : List Entry) (root : Option ℕ) (ran : Ran)
    → Sim v entries → Tells v next ran → MayTell v
    → ((kept : Bool) → Grows v (is_kept_by ran.operation kept) next kept)
    → IsFreeing v entries next entries' root ran → Sim next entries'

-- ---- ALLOC

pub record IsAllocation (v : View) (entries : List Entry) (next : View) (entries' : List Entry)
    (root : Option ℕ) (ran : Ran) : Type 0 where
  pub size : ℕ
  pub kind : ℕ
  pub off : ℕ
  pub allocates : ran.operation ≡ Alloc size kind
  pub replied : ran.reply ≡ Some (Offset off)
  pub looks : LookedAt v entries root ran.operation
  pub unrefused : refusal_by ran.seen v root ran.operation ≡ None
  pub can : CanHold v.fixed.shape.lanes v.fixed.shape.zones (class_of size) off
  pub room : (kept : Bool) → HasBlockFor next kept (taken_by (lists_of v)) (record { off = off; size = size })
  pub block : Block
  pub changes : ChangesObjects v entries next entries' []
      (record { block = block; off = off; item = new_item kind size None } ∷ [])

abbrev pub SimAllocates : Type 0
SimAllocates = (v next : View) (entries entries' : List Entry) (root : Option ℕ) (ran : Ran)
    → Sim v entries → Tells v next ran → MayTell v
    → ((kept : Bool) → Grows v (is_kept_by ran.operation kept) next kept)
    → IsAllocation v entries next entries' root ran → Sim next entries'

-- ---- RESERVE: the block is to be free only if what is pending is published

pub record IsReservation (v : View) (entries : List Entry) (next : View) (entries' : List Entry)
    (root : Option ℕ) (ran : Ran) : Type 0 where
  pub size : ℕ
  pub kind : ℕ
  pub off : ℕ
  pub reserves : ran.operation ≡ Reserve size kind
  pub replied : ran.reply ≡ Some (Offset off)
  pub looks : LookedAt v entries root ran.operation
  pub unrefused : refusal_by ran.seen v root ran.operation ≡ None
  pub can : CanHold v.fixed.shape.lanes v.fixed.shape.zones (class_of size) off
  pub room : HasBlockFor next true (taken_by (lists_of v)) (record { off = off; size = size })
  pub same : SameBits v entries next entries'

abbrev pub SimReserves : Type 0
SimReserves = (v next : View) (entries entries' : List Entry) (root : Option ℕ) (ran : Ran)
    → Sim v entries → Tells v next ran → MayTell v
    → ((kept : Bool) → Grows v (is_kept_by ran.operation kept) next kept)
    → IsReservation v entries next entries' root ran → Sim next entries'

-- ---- PUBLISH: what is to be freed goes, and what is reserved comes

pub record IsPublication (v : View) (entries : List Entry) (next : View) (entries' : List Entry)
    (root : Option ℕ) (ran : Ran) : Type 0 where
  pub publishes : ran.operation ≡ Publish
  pub replied : ran.reply ≡ None
  pub looks : LookedAt v entries root ran.operation
  pub unrefused : refusal_by ran.seen v root ran.operation ≡ None
  pub rooms : (kept : Bool)
      → HaveBlocksFor next kept (lists_of v).made (blocks_reserved (lists_of v).pending)
  pub olds : List Old
  pub news : List New
  pub freed : map (λ (o : Old). freed_item o.off) olds
      ≡ map (λ (id : Oid). freed_item id.off) (lists_of v).pending.frees
  pub made : map (λ (n : New). made_item n.off n.item) news
      ≡ map (λ (r : Reservation). made_item r.off (item_reserved r)) (lists_of v).pending.reserved
  pub changes : ChangesObjects v entries next entries' olds news

abbrev pub SimPublishes : Type 0
SimPublishes = (v next : View) (entries entries' : List Entry) (root : Option ℕ) (ran : Ran)
    → Sim v entries → Tells v next ran → MayTell v
    → ((kept : Bool) → Grows v (is_kept_by ran.operation kept) next kept)
    → IsPublication v entries next entries' root ran → Sim next entries'
