-- The parts of a call: the objects that it locks, the root word, and the blocks that it makes,
-- reserves or frees.
use Rattle.std.specs.Prelude.{◌&&◌, ◌||◌, Bool, true, false, if◌then◌else◌, List, [], ◌∷◌, ◌++◌, Option, Some}
use Rattle.std.specs.List.{flat_map, list_all}
use Rattle.std.specs.Option.{option_map_or}
use Rattle.pm_objects.specs.declared.calls.Operation.{Operation}
use Rattle.pm_objects.specs.declared.calls.Operation.TheVariants.{Begin, Lock, Alloc, Free, Reserve, Publish, Root, RootSize}
use Rattle.pm_objects.specs.declared.calls.Want.{Want}
use Rattle.pm_objects.specs.declared.history.Value.{Value}
use Rattle.pm_objects.specs.declared.history.Value.TheVariants.{Refused}
use Rattle.pm_objects.specs.declared.ids.Oid.{Oid}
use Rattle.pm_model.specs.Blocks.{Block, blocks_at}
use Rattle.pm_model.specs.Pending.{blocks_reserved}
use Rattle.pm_model.specs.Transaction.{Transaction, wants_of_old}
use Rattle.pm_model.specs.Refusals.{first_of}
use Rattle.pm_model.specs.Inside.{Ran, after, is_kept}
use Rattle.pm_model.specs.Outside.{Outside, early_tests, is_found, offs_freed, offset_in, size_made, wants_named, wants_then}

pub record Parts : Type 0 where
  -- the objects that it locks and finds, for writing or for reading alone
  pub locks : List Want
  -- the root word, by the lock of line 0
  pub reads_root : Bool
  pub writes_root : Bool
  -- the blocks that it makes, reserves or frees
  pub blocks : List Block

abbrev pub no_parts : Parts
no_parts = record { locks = []; reads_root = false; writes_root = false; blocks = [] }

abbrev pub joined : Parts → Parts → Parts
joined a b =
    record {
      locks = a.locks ++ b.locks;
      reads_root = a.reads_root || b.reads_root;
      writes_root = a.writes_root || b.writes_root;
      blocks = a.blocks ++ b.blocks;
    }

abbrev pub of_locks : List Want → Parts
of_locks wants = record no_parts { locks = wants }

abbrev pub of_blocks : List Block → Parts
of_blocks blocks = record no_parts { blocks = blocks }

-- ---- of a transaction

-- the part that an operation adds. A refused one adds none, and a reservation that the call
-- itself cancels is in none
abbrev pub part_by : Transaction → Operation → Bool → Option Value → Parts
part_by tx op kept (Some (Refused r)) = no_parts
part_by tx (Begin wants) kept reply = of_locks (wants_of_old tx wants)
part_by tx (Lock want) kept reply = of_locks (wants_of_old tx (want ∷ []))
part_by tx (Alloc size kind) kept reply =
    of_blocks (record { off = offset_in reply; size = size } ∷ [])
part_by tx (Reserve size kind) kept reply =
    if kept then of_blocks (record { off = offset_in reply; size = size } ∷ []) else no_parts
part_by tx (Free id) kept reply = of_blocks (blocks_at tx.items id.off)
part_by tx Publish kept reply =
    of_blocks (blocks_reserved tx.pending
    ++ flat_map (λ (id : Oid). blocks_at tx.items id.off) tx.pending.frees)
part_by tx op kept reply = no_parts

abbrev pub part_of : Transaction → Ran → Bool → Parts
part_of tx ran kept = part_by tx ran.operation kept ran.reply

unfoldable pub parts_inside : Transaction → List Ran → Parts
parts_inside tx [] = no_parts
parts_inside tx (ran ∷ rest) =
    joined (part_of tx ran (is_kept rest)) (parts_inside (after ran tx) rest)

-- ---- of a call outside of a transaction

-- it comes to its locks, and finds each object that it names
abbrev pub is_under_locks : Outside → Ran → Bool
is_under_locks s ran =
    option_map_or (λ r. false) (first_of (early_tests ran.seen s.pool s.pending ran.operation)) true
    && list_all (is_found ran.seen s.pool) (wants_named s.pending ran.operation)

abbrev pub reads_root_word : Operation → Bool
reads_root_word RootSize = true
reads_root_word op = false

abbrev pub writes_root_word : Operation → Bool
writes_root_word (Root size) = true
writes_root_word op = false

-- the block that it makes or reserves, and those of what it frees or publishes
abbrev pub blocks_made : Outside → Operation → Option Value → List Block
blocks_made s Publish reply = blocks_reserved s.pending
blocks_made s op reply =
    option_map_or (λ size. record { off = offset_in reply; size = size }
    ∷ []) (size_made s.pool op) []

abbrev pub blocks_outside : Outside → Operation → Option Value → List Block
blocks_outside s op (Some (Refused r)) = []
blocks_outside s op reply =
    blocks_made s op reply ++ flat_map (blocks_at s.pool.items) (offs_freed s.pool s.pending op)

abbrev pub parts_outside : Outside → Ran → Parts
parts_outside s ran =
    if is_under_locks s ran
    then record {
      locks = wants_named s.pending ran.operation ++ wants_then ran.seen s.pool ran.operation;
      reads_root = reads_root_word ran.operation;
      writes_root = writes_root_word ran.operation;
      blocks = blocks_outside s ran.operation ran.reply;
    }
    else no_parts
