-- All that a lane has pending, as its lists have it and as the plain model does.
use Rattle.std.specs.Prelude.{◌≡◌, ℕ, ◌+◌, ◌%◌, ◌≤◌, All, length, map, nat_eq}
use Rattle.std.specs.List.{IsDistinct}
use Rattle.solo_crash.specs.CallBlocks.{NewObject}
use Rattle.solo_model.specs.Actions.{Pending, Reservation, max_actions, pending_count}
use Rattle.solo_pending.specs.Pending.{sets_of}
use Rattle.solo_pending.specs.declared.actions.SetAction.{SetAction}
use Rattle.solo_pending.specs.declared.pending.PendingActions.{PendingActions}
use Rattle.solo_pending.specs.declared.pending.Reserved.{Reserved}

-- a reservation as a list has it: its bytes are in the pool's words
abbrev pub reserved_as : Reservation → Reserved
reserved_as r = record { off = r.off; kind = r.kind; size = length r.bytes }

-- the new object that a list's reservation is to become
abbrev pub object_of : Reserved → NewObject
object_of r = record { off = r.off; kind = r.kind; size = r.size }

-- so many actions are listed, of whatever kind
abbrev pub count_in : PendingActions → ℕ
count_in list = length list.frees.items + length list.reserved.items + length list.sets.items

-- the lists have what is pending, kind by kind, each in its order, and no more than may be
pub record IsPendingAs (list : PendingActions) (p : Pending) : Type 0 where
  pub sets : sets_of list.sets.items ≡ p.sets
  -- each word that is to be set begins at a multiple of eight bytes
  pub aligned : All (λ (a : SetAction). a.off % 8 ≡ 0) list.sets.items
  pub frees : list.frees.items ≡ p.frees
  pub reserved : list.reserved.items ≡ map reserved_as p.reserved
  -- one of them was asked for of an object that was to be freed already
  pub late : list.late ≡ p.late
  pub few : pending_count p ≤ max_actions

-- no two objects are reserved at one offset
abbrev pub AreReservedOnce : Pending → Type 0
AreReservedOnce p = IsDistinct nat_eq (map (λ (r : Reservation). r.off) p.reserved)
