-- The blocks of what a lane has reserved, as its list of what is pending has it: they are those that the lane keeps as its transaction ends.
use Rattle.std.proofs.Common.{◌≡◌, ⊎_elim, ℕ, ◌+◌, ◌*◌, ◌/◌, ◌%◌, ◌<◌, ◌≤◌, All, List, [], ◌∷◌, ◌++◌, get_or, length, map, take, min, refl, sym, ap, ◌∙◌, subst, arith}
use Rattle.std.proofs.lemmas.Grind.{div_ceil_times}
use Rattle.std.proofs.lemmas.List.Elements.{All-get_or}
use Rattle.std.proofs.lemmas.List.{get_or-map, length-map, map-append, take_all, take_more}
use Rattle.solo_crash.specs.CallBlocks.{NewObject, block_of, reserved_object}
use Rattle.solo_crash.specs.Pending.{pending_before}
use Rattle.solo_crash.specs.Reserved.{IsReservedInChunks, IsReservedInRun}
use Rattle.pm_image.proofs.Rooms.{lines_needed, run_fits}
use Rattle.pm_image.specs.declared.block.Block.{Block}
use Rattle.pm_layout.specs.Sizes.{blocks_of, class_of, lines_for}
use Rattle.solo_model.specs.Actions.{Pending, Reservation}
use Rattle.pm_objects.specs.Pool.{block_lines}
use Rattle.solo_pending.specs.AllPending.{IsPendingAs, object_of, reserved_as}
use Rattle.solo_pending.specs.declared.pending.PendingActions.{PendingActions}
use Rattle.solo_pending.specs.declared.pending.Reserved.{Reserved}
use Rattle.solo_transaction.specs.AtWork.{LiesInReserved}
use Rattle.solo_transaction.specs.Resting.{StandsAtRest}
use Rattle.solo_view.specs.View.{View}
use Rattle.solo_transaction.proofs.GivenInTurn.{objects_listed}

-- an object whose block is no longer than a zone's chunks is no longer than an object may be
small_in : (n : NewObject) → (block_of n).lines ≤ 4096 → n.size ≤ 262080
small_in n few =
    let needed : lines_for n.size ≤ block_lines (class_of n.size) = lines_needed n.size in
    let fits : n.size ≤ (n.size / 64 + min 1 (n.size % 64)) * 64 = (div_ceil_times n.size 64 (omega arith)).0 in
    omega (arith, needed, fits, few)

-- the block of what lies in what a lane reserved lies behind the lanes' areas, and in one zone
module _ (v : View) (n : NewObject) where
  lies_behind : LiesInReserved v n → 64 ≤ n.off
  lies_behind lies = ⊎_elim
      (λ (run : (r : IsReservedInRun v n) × (r.index < blocks_of r.lines)). let place = ap (λ (b : Block). b.place) run.0.is_block in omega (arith, place))
      (λ (chunks : IsReservedInChunks v n). let place = ap (λ (b : Block). b.place) chunks.is_block in omega (arith, place)) lies

  lies_small : LiesInReserved v n → n.size ≤ 262080
  lies_small lies = ⊎_elim
      (λ (run : (r : IsReservedInRun v n) × (r.index < blocks_of r.lines)).
      let lines = ap (λ (b : Block). b.lines) run.0.is_block in let fits = run_fits run.0.lines run.0.index run.1 in small_in n (omega (arith, lines, fits)))
      (λ (chunks : IsReservedInChunks v n). let lines = ap (λ (b : Block). b.lines) chunks.is_block in let fits = chunks.fits in small_in n (omega (arith, lines, fits))) lies

abbrev pub none_there : Reserved
none_there = record { off = 0; kind = 0; size = 0 }

module _ (list : PendingActions) (v : View) (stands : StandsAtRest v) (is : IsPendingAs list (pending_before v)) (items : List Reserved) (same : items ≡ list.reserved.items) (i : ℕ) (low : i < length items) where
  abbrev one : Reserved
  one = get_or items i none_there

  next_lies : LiesInReserved v (object_of one)
  next_lies =
      subst (LiesInReserved v) (get_or-map object_of items i none_there (object_of none_there) low)
      (All-get_or (LiesInReserved v) (map object_of items) i (object_of none_there) (let n = length-map items object_of in omega (arith, n, low))
      (subst (All (LiesInReserved v)) (sym (ap (map object_of) same ∙ objects_listed list (pending_before v) is)) stands.within))

  -- the block of the next may be computed
  pub next_behind : 64 ≤ one.off
  next_behind = lies_behind v (object_of one) next_lies

  pub next_small : one.size ≤ 262080
  next_small = lies_small v (object_of one) next_lies

-- ---- those of the first so many

pub one_more : (list : List Reserved) (i : ℕ) → i < length list → map block_of (map object_of (take i list)) ++ block_of (object_of (get_or list i none_there)) ∷ [] ≡ map block_of (map object_of (take (i + 1) list))
one_more list i low = sym (ap (λ (rs : List Reserved). map block_of (map object_of rs)) (take_more list i none_there low)
    ∙ (ap (map block_of) (map-append object_of (take i list) (get_or list i none_there ∷ [])) ∙ map-append block_of (map object_of (take i list)) (object_of (get_or list i none_there) ∷ [])))

-- at the end all of them
pub all_blocks : (list : PendingActions) (p : Pending) (i : ℕ) → length list.reserved.items ≤ i → IsPendingAs list p → map block_of (map object_of (take i list.reserved.items)) ≡ map block_of (map reserved_object p.reserved)
all_blocks list p i up is = ap (λ (rs : List Reserved). map block_of (map object_of rs)) (take_all i list.reserved.items up) ∙ ap (map block_of) (objects_listed list p is)
