-- A new object may stand, by the plain model, where no object of the pool before a call, nor one that the call made or dropped, stands in its way.
use Rattle.std.proofs.Common.{◌≡◌, ◌≢◌, ◌⊎◌, ⊎_elim, ℕ, zero, suc, ◌+◌, ◌-◌, ◌*◌, ◌<◌, ◌≤◌, Bool, true, false, cond, eqb, List, [], ◌∷◌, ◌++◌, drop, get_or, length, map, Some, None, refl, sym, ◌∙◌, ap, subst, arith}
use Rattle.std.specs.List.{All, Contains}
use Rattle.std.specs.List.Sorted.{IsStrictlyIncreasing}
use Rattle.std.proofs.lemmas.Bool.{cases_Bool, eq-eqb, eqb-true, ne_eqb}
use Rattle.std.proofs.lemmas.List.{length-map}
use Rattle.std.proofs.lemmas.List.Elements.{All-append, All-cons, All-head, All-nil, All-tail, Contains-append_left, Contains-append_right}
use Rattle.std.proofs.lemmas.Option.{same_Some}
use Rattle.std.proofs.lemmas.List.Folds.{Any-from_list_any}
use Rattle.pm_header.specs.declared.header.Header.{Header}
use Rattle.pm_layout.specs.Sizes.{class_of}
use Rattle.pm_objects.specs.Pool.{Objects, block_lines, object_at, offsets}
use Rattle.pm_objects.specs.declared.history.TxErr.TheVariants as error
use Rattle.pm_objects.specs.declared.pool.Object.{Object}
use Rattle.pm_objects.specs.declared.pool.PoolView.{PoolView}
use Rattle.pm_image.specs.Blocks.{blocks}
use Rattle.pm_image.specs.Contents.{bytes_in, offset_in}
use Rattle.pm_image.specs.declared.block.Block.{Block}
use Rattle.pm_image.proofs.Members.{first_member, later_member}
use Rattle.solo_model.specs.declared.stage.Stage.TheVariants as stage
use Rattle.solo_model.specs.Actions.{Pending}
use Rattle.solo_model.specs.Answers.{IsBeside, IsBesideReserved, IsNewPlace}
use Rattle.solo_model.specs.Places.{CanHold}
use Rattle.solo_model.proofs.Blocks.{has_lines}
use Rattle.solo_model.proofs.Objects.{rising_tail}
use Rattle.solo_view.specs.View.{View}
use Rattle.solo_crash.specs.CallBlocks.{NewObject, block_of, blocks_in, is_at, is_freed_in, is_made_in, object_made}
use Rattle.solo_crash.specs.Held.{HoldsPool, object_of}
use Rattle.solo_crash.specs.HeapChanges.{AreDisjoint}
use Rattle.solo_crash.specs.OpenCall.{ComesTo, IsUnderWay, call_words, place_and_size}
use Rattle.solo_crash.proofs.CallWords.{same_lanes, same_zones}
use Rattle.solo_crash.proofs.Continued.{two_same}
use Rattle.solo_crash.proofs.ObjectsOfBlocks.{block_is_there, object_is_there}
use Rattle.solo_crash.specs.Pending.{pending_in}

-- ---- objects of a list in rising offsets

-- each is behind the first
first_is_least : (a : ℕ) (xs : List ℕ) (k : ℕ) → IsStrictlyIncreasing (a ∷ xs) → k < length xs → a < get_or xs k 0
first_is_least a [] k rising inside = absurd (omega (arith, inside))
first_is_least a (x ∷ xs) zero rising inside = rising 0 (omega arith)
first_is_least a (x ∷ xs) (suc k) rising inside =
    let first : a < x = rising 0 (omega arith) in
    let later = first_is_least x xs k (rising_tail a (x ∷ xs) rising) (omega (arith, inside)) in
    omega (arith, first, later)

-- so at its offset each stands
pub stands_there : (objects : Objects) (k : ℕ) (d : ℕ × Object) → IsStrictlyIncreasing (offsets objects) → k < length objects → object_at objects (get_or objects k d).0 ≡ Some (get_or objects k d).1
stands_there [] k d rising inside = absurd (omega (arith, inside))
stands_there (e ∷ es) zero d rising inside = ap (λ (b : Bool). cond b (Some e.1) (object_at es e.0)) (eq-eqb e.0 e.0 refl)
stands_there (e ∷ es) (suc k) d rising inside =
    let near : k < length es = omega (arith, inside) in
    let less = first_is_least e.0 (offsets es) k rising (let long = length-map es (λ (x : ℕ × Object). x.0) in omega (arith, near, long)) in
    let at : get_or (offsets es) k 0 ≡ (get_or es k d).0 = offset_at es k d near in
    ap (λ (b : Bool). cond b (Some e.1) (object_at es (get_or es k d).0)) (ne_eqb e.0 (get_or es k d).0 (λ same. omega (arith, same, less, at)))
    ∙ stands_there es k d (rising_tail e.0 (offsets es) rising) near where
      offset_at : (xs : Objects) (j : ℕ) (c : ℕ × Object) → j < length xs → get_or (offsets xs) j 0 ≡ (get_or xs j c).0
      offset_at [] j c low = absurd (omega (arith, low))
      offset_at (x ∷ xs) zero c low = refl
      offset_at (x ∷ xs) (suc j) c low = offset_at xs j c (omega (arith, low))

-- what all have, the one at an offset has
pub found_has : (P : ℕ × Object → Type 0) (objects : Objects) (off : ℕ) (object : Object) → All P objects → object_at objects off ≡ Some object → P (off, object)
found_has P [] off object all is = absurd (let clash : None ≡ Some object = is in cc)
found_has P (e ∷ es) off object all is = go (eqb e.0 off) refl is (found_has P es off object (All-tail P e es all)) where
  go : (t : Bool) → eqb e.0 off ≡ t → cond t (Some e.1) (object_at es off) ≡ Some object → (object_at es off ≡ Some object → P (off, object)) → P (off, object)
  go true here found rest =
      let same : e.1 ≡ object = cc in
      subst (λ (o : ℕ). P (o, object)) (eqb-true e.0 off here) (subst (λ (x : Object). P (e.0, x)) same (All-head P e es all))
  go false other found rest = rest found

-- ---- blocks that lie apart

pub apart_offsets : (n m : NewObject) → 64 ≤ n.off → AreDisjoint (block_of n) (block_of m) → m.off ≢ n.off
apart_offsets n m behind apart same =
    let lines = has_lines n.size in let lines_too = has_lines m.size in
    ⊎_elim
    (λ (before : n.off - 64 + 64 * block_lines (class_of n.size) ≤ m.off - 64). omega (arith, before, lines, same, behind))
    (λ (after : m.off - 64 + 64 * block_lines (class_of m.size) ≤ n.off - 64). omega (arith, after, lines_too, same, behind))
    apart

-- an object of so many bytes at the offset lies beside
pub beside_place : (n m : NewObject) (entry : ℕ × Object) → AreDisjoint (block_of n) (block_of m) → place_and_size entry ≡ (m.off, m.size) → IsBeside n.size n.off entry
beside_place n m entry apart same =
    subst (λ (p : ℕ × ℕ). (n.off - 64 + 64 * block_lines (class_of n.size) ≤ p.0 - 64) ⊎ (p.0 - 64 + 64 * block_lines (class_of p.1) ≤ n.off - 64)) (sym same) apart

-- those that the call dropped lie beside where each of these does
pub all_beside : (n : NewObject) (dropped : Objects) (news : List NewObject) → map place_and_size dropped ≡ map (λ (m : NewObject). (m.off, m.size)) news
    → ((m : NewObject) → Contains news m → AreDisjoint (block_of n) (block_of m)) → All (IsBeside n.size n.off) dropped
all_beside n [] news same apart = All-nil (IsBeside n.size n.off)
all_beside n (e ∷ es) [] same apart = let long : length (map place_and_size (e ∷ es)) ≡ 0 = ap (λ (xs : List (ℕ × ℕ)). length xs) same in absurd (omega (arith, long))
all_beside n (e ∷ es) (m ∷ news) same apart =
    let here : place_and_size e ≡ (m.off, m.size) = ap (λ (xs : List (ℕ × ℕ)). get_or xs 0 (0, 0)) same in
    let rest : map place_and_size es ≡ map (λ (x : NewObject). (x.off, x.size)) news = ap (drop 1) same in
    All-cons (IsBeside n.size n.off) e es (beside_place n m e (apart m (first_member m news)) here) (all_beside n es news rest (λ x there. apart x (later_member m news x there)))

-- ---- the place of a new object

module _ (v : View) (n : NewObject) (level : ℕ) (under_way : IsUnderWay v level stage.Work error.None)
    (apart_made : (m : NewObject) → Contains ((blocks_in v).made ++ (blocks_in v).dropped) m → AreDisjoint (block_of n) (block_of m)) (w : ℕ → ℕ) (header : Header) (pool : PoolView)
    (holds : HoldsPool w v.lanes v.zones header pool) (beside_before : All (IsBeside n.size n.off) pool.objects) (c : ComesTo v w header pool level stage.Work error.None) where
  -- nor of what the words hold now
  pub beside_base : (off : ℕ) (object : Object) → object_at c.base.objects off ≡ Some object → IsBeside n.size n.off (off, object)
  beside_base off object is =
      let found = block_is_there (call_words v w) v.lanes v.zones off header c.base object c.holds is in
      let was : Contains (blocks w v.lanes v.zones) found.block = subst (λ (bs : List Block). Contains bs found.block) c.blocks_stay found.is_there in
      let there = object_is_there (call_words v w) v.lanes v.zones header c.base found.block c.holds found.is_there in
      let before = object_is_there w v.lanes v.zones header pool found.block holds was in
      let size = c.sizes_stay found.block was in
      let long : length (bytes_in (call_words v w) found.block) ≡ length (bytes_in w found.block) = let a = there.size in let b = before.size in omega (arith, a, b, size) in
      let beside : IsBeside n.size n.off (offset_in found.block, object_of w v.lanes v.zones found.block) = found_has (IsBeside n.size n.off) pool.objects (offset_in found.block) (object_of w v.lanes v.zones found.block) beside_before before.found in
      subst (λ (p : ℕ × ℕ). (n.off - 64 + 64 * block_lines (class_of n.size) ≤ p.0 - 64) ⊎ (p.0 - 64 + 64 * block_lines (class_of p.1) ≤ n.off - 64))
      (λ j. (sym found.is_offset j, (sym long ∙ ap (λ (x : Object). length x.bytes) (sym found.is_object)) j)) beside

  beside_now : (off : ℕ) (object : Object) → object_at c.tx.pool.objects off ≡ Some object → IsBeside n.size n.off (off, object)
  beside_now off object is = ⊎_elim
      (λ (made : is_made_in v off ≡ true).
      let t = Any-from_list_any (is_at off) (blocks_in v).made made in
      let there : Contains (blocks_in v).made t.1 = (t.0, t.2, t.3) in
      let at : t.1.off ≡ off = eqb-true t.1.off off t.4 in
      let same : Some (object_made v t.1) ≡ Some object = sym (c.changed.new t.1 there) ∙ ap (object_at c.tx.pool.objects) at ∙ is in
      let is_object : object_made v t.1 ≡ object = same_Some (object_made v t.1) object same in
      beside_place n t.1 (off, object) (apart_made t.1 (Contains-append_left (blocks_in v).made (blocks_in v).dropped t.1 there))
      (λ j. (sym at j, (ap (λ (x : Object). length x.bytes) (sym is_object) ∙ (under_way.has.each t.1 there).long) j)))
      (λ (not_made : is_made_in v off ≡ false). ⊎_elim
      (λ (freed : is_freed_in v off ≡ true). absurd (let clash : None ≡ Some object = sym (c.changed.gone off freed) ∙ is in cc))
      (λ (kept : is_freed_in v off ≡ false). beside_base off object (sym (c.changed.others off not_made kept) ∙ is))
      (cases_Bool (is_freed_in v off)))
      (cases_Bool (is_made_in v off))

  pub beside_all : All (IsBeside n.size n.off) c.tx.pool.objects
  beside_all k d inside =
      let e : ℕ × Object = get_or c.tx.pool.objects k d in
      beside_now e.0 e.1 (stands_there c.tx.pool.objects k d c.changed.rising inside)

  beside_dropped : All (IsBeside n.size n.off) c.tx.dropped
  beside_dropped = all_beside n c.tx.dropped (blocks_in v).dropped c.tracks.dropped
      (λ m there. apart_made m (Contains-append_right (blocks_in v).made (blocks_in v).dropped m there))

  pub new_place : CanHold v.lanes v.zones (class_of n.size) n.off → All (IsBesideReserved n.size n.off) (pending_in v).reserved → IsNewPlace c.tx n.size n.off
  new_place place unreserved = record {
    begins = two_same (λ (lanes zones : ℕ). CanHold lanes zones (class_of n.size) n.off) v.lanes c.tx.pool.lanes v.zones c.tx.pool.zones
        (sym (same_lanes v w header c.base c.tx c.holds c.changed)) (sym (same_zones v w header c.base c.tx c.holds c.changed)) place;
    apart = All-append (IsBeside n.size n.off) (c.tx.before.objects ++ c.tx.pool.objects) c.tx.dropped
        (All-append (IsBeside n.size n.off) c.tx.before.objects c.tx.pool.objects (subst (λ (p : PoolView). All (IsBeside n.size n.off) p.objects) (sym c.before) beside_before) beside_all)
        beside_dropped;
    unreserved = subst (λ (p : Pending). All (IsBesideReserved n.size n.off) p.reserved) (sym c.actions) unreserved;
  }
