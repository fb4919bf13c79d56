-- Blocks of what is reserved are given back one after another: the next may be, and then it is given back too.
use Rattle.std.proofs.Common.{◌≡◌, ℕ, ◌+◌, ◌<◌, ◌≤◌, List, [], ◌∷◌, ◌++◌, drop, get_or, length, map, take, sym, ap, ◌∙◌, subst, arith}
use Rattle.std.proofs.lemmas.List.{drop_more, get_or-map, length-map, map-append, take-append-drop, take_all, take_more}
use Rattle.std.proofs.lemmas.Simd.{map-map}
use Rattle.solo_crash.specs.CallBlocks.{NewObject, block_of, reserved_object}
use Rattle.solo_blocks.specs.Giving.{vacates_block}
use Rattle.solo_epoch.specs.GivingBack.{MayGiveObjectBack, with_given_back}
use Rattle.solo_epoch.proofs.GivenAll.{one_more}
use Rattle.solo_epoch.proofs.GivenBlocks.{beside}
use Rattle.pm_layout.specs.declared.shape.Shape.{Shape}
use Rattle.solo_memory.specs.Runs.{Made}
use Rattle.solo_model.specs.Actions.{Pending}
use Rattle.solo_pending.specs.AllPending.{IsPendingAs, object_of, reserved_as}
use Rattle.solo_pending.specs.declared.pending.PendingActions.{PendingActions}
use Rattle.solo_pending.specs.declared.pending.Reserved.{Reserved}
use Rattle.solo_view.specs.View.{View}
use Rattle.solo_view.specs.Views.{after}
use Rattle.solo_world.specs.Lanes.{IsSeenAs}
use Rattle.solo_world.specs.declared.lane.Lane.{Lane}
use Rattle.solo_transaction.specs.GivingInTurn.{MayGiveInTurn}

abbrev pub none_there : Reserved
none_there = record { off = 0; kind = 0; size = 0 }

module _ (reserved : List Reserved) (i : ℕ) (low : i < length reserved) where
  abbrev one : Reserved
  one = get_or reserved i none_there

  abbrev given : List NewObject
  given = map object_of (take i reserved)

  abbrev rest : List NewObject
  rest = map object_of (drop (i + 1) reserved)

  in_parts : map object_of reserved ≡ given ++ object_of one ∷ rest
  in_parts = ap (map object_of) (sym (take-append-drop i reserved) ∙ ap (λ (rs : List Reserved). take i reserved ++ rs) (drop_more reserved i none_there low)) ∙ map-append object_of (take i reserved) (one ∷ drop (i + 1) reserved)

  next_given : map object_of (take (i + 1) reserved) ≡ given ++ object_of one ∷ []
  next_given = ap (map object_of) (take_more reserved i none_there low) ∙ map-append object_of (take i reserved) (one ∷ [])

  -- the next block may be given back
  module _ (v : View) (shape : Shape) (may : MayGiveInTurn v shape (map object_of reserved)) where
    pub next_may : MayGiveObjectBack (with_given_back v given) shape (object_of one)
    next_may = may.each given rest (object_of one) in_parts

    there : get_or (map object_of reserved) i (object_of none_there) ≡ object_of one
    there = get_or-map object_of reserved i none_there (object_of none_there) low

    mapped : i < length (map object_of reserved)
    mapped = let n = length-map reserved object_of in omega (arith, n, low)

    pub next_behind : 64 ≤ one.off
    next_behind = subst (λ (n : NewObject). 64 ≤ n.off) there (may.behind i (object_of none_there) mapped)

    pub next_most : one.size ≤ 262080
    next_most = subst (λ (n : NewObject). n.size ≤ 262080) there (may.most i (object_of none_there) mapped)

  -- and once it is, one more is
  pub next_made : (old new : View → Type 0) (v : View) (lanes : ℕ) → v.lanes ≡ lanes → old (with_given_back v given) → Made old new (vacates_block lanes (block_of (object_of one))) → new (with_given_back v (map object_of (take (i + 1) reserved)))
  next_made old new v lanes same there made =
      subst new (sym (ap (with_given_back v) next_given ∙ one_more v given (object_of one)))
      (made' (with_given_back v given) there) where
        made' : (w : View) → old w → new (after w (vacates_block v.lanes (block_of (object_of one))))
        made' w is = (subst (λ (n : ℕ). Made old new (vacates_block n (block_of (object_of one)))) (sym same) made w is).0

-- at the end all of them are
pub all_taken : (reserved : List Reserved) (i : ℕ) → length reserved ≤ i → map object_of (take i reserved) ≡ map object_of reserved
all_taken reserved i up = ap (map object_of) (take_all i reserved up)

-- the memory of a lane alone became another, and again
pub memory_again : {M : Type 0} (old mid new : Lane M) → mid ≡ record old { memory = mid.memory } → new ≡ record mid { memory = new.memory } → new ≡ record old { memory = new.memory }
memory_again {M} old mid new first second = second ∙ ap (λ (l : Lane M). record l { memory = new.memory }) first

-- the objects of a list, and of what is reserved
pub objects_listed : (list : PendingActions) (pending : Pending) → IsPendingAs list pending → map object_of list.reserved.items ≡ map reserved_object pending.reserved
objects_listed list pending is = ap (map object_of) is.reserved ∙ map-map object_of reserved_as pending.reserved

-- the lane's memory became another, at a view that has given blocks back
pub seen_given : {M : Type 0} (at : M → View → Type 0) (lane new : Lane M) (y x : View) → IsSeenAs at lane y → x ≡ beside y x → new ≡ record lane { memory = new.memory } → at new.memory x → IsSeenAs at new x
seen_given {M} at lane new y x seen is same there =
    subst (λ (l : Lane M). IsSeenAs at l x) (sym same) (subst (IsSeenAs at (record lane { memory = new.memory })) (sym is) (record {
      memory = subst (at new.memory) is there;
      pool = seen.pool;
      shape = record { lanes = seen.shape.lanes; zones = seen.shape.zones; size = seen.shape.size };
      locks = seen.locks;
      records = seen.records;
      drawn = seen.drawn;
      last = seen.last;
    }))
