-- Small pools for worked examples.
use Rattle.std.specs.Prelude.{ℕ, false, [], ◌∷◌, ◌++◌, Option, Some, None}
use Rattle.pm_objects.specs.declared.calls.Operation.{Operation}
use Rattle.pm_objects.specs.declared.calls.Operation.TheVariants.{Begin, Alloc, Commit}
use Rattle.pm_objects.specs.declared.history.Value.{Value}
use Rattle.pm_objects.specs.declared.history.Value.TheVariants.{Offset}
use Rattle.pm_objects.specs.declared.ids.Oid.{Oid}
use Rattle.pm_objects.specs.declared.pool.PoolView.{PoolView}
use Rattle.pm_model.specs.Items.{Items, PlainPool, edited, made_item, new_item, number_bytes, plain_pool}
use Rattle.pm_model.specs.Pending.{none_pending, want_to_write}
use Rattle.pm_model.specs.Transaction.{Transaction, begun, idle}
use Rattle.pm_model.specs.Refusals.{Seen}
use Rattle.pm_model.specs.Inside.{after_reply}
use Rattle.pm_model.specs.CallStep.{CallRun, State}
use Rattle.pm_model.specs.Outside.{Outside, after_reply_outside}

-- Pool 7 of one lane and one zone. The root at 16512 has eight bytes, of the number 5, and one
-- member, the object at 16640. The one at 16768 is in no list, and that at 16896 holds its id
abbrev pub sample_view : PoolView
sample_view = record {
  id = 7;
  name = 100 ∷ [];
  lanes = 1;
  zones = 1;
  objects = (16512, record { kind = 0; bytes = number_bytes 5; members = 16640 ∷ [] })
      ∷ (16640, record { kind = 1; bytes = 1 ∷ 2 ∷ []; members = [] })
      ∷ (16768, record { kind = 2; bytes = 3 ∷ 4 ∷ []; members = [] })
      ∷ (16896, record { kind = 3; bytes = number_bytes 7 ++ number_bytes 16768; members = [] })
      ∷ [];
  root = Some 16512;
}

abbrev pub sample : PlainPool
sample = plain_pool sample_view

abbrev pub id_at : ℕ → Oid
id_at off = record { pool = 7; off = off }

abbrev pub null_id : Oid
null_id = record { pool = 0; off = 0 }

abbrev pub root_id : Oid
root_id = id_at 16512

-- a lane that saw nothing of other lanes
abbrev pub unhindered : Seen
unhindered = record { spent = false; busy = false; missing = []; full = false; room = 8 }

-- a transaction at work: it holds the root to write
abbrev pub at_work : Transaction
at_work = begun (want_to_write root_id ∷ []) (idle sample none_pending)

-- one that holds all to write
abbrev pub with_all : Transaction
with_all =
    begun (want_to_write root_id ∷ want_to_write (id_at 16640) ∷ want_to_write (id_at 16768)
    ∷ []) (idle sample none_pending)

abbrev pub outside : Outside
outside = record { pool = sample; pending = none_pending }

-- what an operation leaves that replies this
abbrev pub inside_after : Operation → Option Value → Transaction → Transaction
inside_after op reply tx = after_reply op reply tx

abbrev pub items_after : Operation → Option Value → Items
items_after op reply = (after_reply_outside op reply outside).pool.items

-- ---- a whole call

-- the pool without objects
abbrev pub empty : PlainPool
empty = plain_pool (record sample_view { objects = []; root = None })

abbrev pub idle_lanes : State
idle_lanes = record { pool = empty; pending = λ lane. none_pending }

-- begin, an allocation of 64 bytes of type 9, commit
abbrev pub allocating : CallRun
allocating = record {
  lane = 0;
  operations = record { operation = Begin []; seen = unhindered; reply = None }
      ∷ record { operation = Alloc 64 9; seen = unhindered; reply = Some (Offset 16512) }
      ∷ record { operation = Commit; seen = unhindered; reply = None } ∷ [];
  parts = record {
    locks = [];
    reads_root = false;
    writes_root = false;
    blocks = record { off = 16512; size = 64 } ∷ [];
  };
}

abbrev pub with_one_object : PlainPool
with_one_object =
    record empty { items = edited (made_item 16512 (new_item 9 64 None)) empty.items }

abbrev pub after_allocating : State
after_allocating = record { pool = with_one_object; pending = λ lane. none_pending }
