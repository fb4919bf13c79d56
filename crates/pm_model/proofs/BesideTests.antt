-- A call outside of a transaction over other objects is refused alike and replies alike, where they are
-- the same at what it touches.
use Rattle.std.proofs.Common.{◌≡◌, ℕ, ◌+◌, List, [], ◌∷◌, map, length, Bool, true, false, not, cond, leb, ltb, ◌&&◌, ◌||◌, Option, Some, None, refl, sym, ◌∙◌, ap, subst, arith, take, replicate, min, ◌-◌, length-append, length-take}
use Rattle.std.proofs.lemmas.List.{length-replicate}
use Rattle.std.specs.Option.{option_map_or}
use Rattle.std.proofs.lemmas.Bool.{false≢true}
use Rattle.pm_layout.specs.Sizes.{usable}
use Rattle.pm_objects.specs.declared.calls.Dest.{Dest}
use Rattle.pm_objects.specs.declared.calls.Operation.{Operation}
use Rattle.pm_objects.specs.declared.calls.Operation.TheVariants.{Publish, AllocTo, ReallocAt, FreeAt, UsableSize, TypeNumber, Insert, InsertNew, Remove, MoveTo, Members, Root, RootSize}
use Rattle.pm_objects.specs.declared.calls.Want.{Want}
use Rattle.pm_objects.specs.declared.history.Value.{Value}
use Rattle.pm_objects.specs.declared.history.Value.TheVariants.{Offset, Number}
use Rattle.pm_objects.specs.declared.history.Value.TheVariants as replied
use Rattle.pm_objects.specs.declared.ids.Oid.{Oid}
use Rattle.pm_objects.specs.declared.refusal.Refusal.TheVariants as refusal
use Rattle.pm_model.specs.Items.{Item, Items, PlainPool, bytes_of, is_among, is_root, members_of, number_at, resized_item, size_of}
use Rattle.pm_model.specs.Blocks.{item_covers}
use Rattle.pm_model.specs.Places.{has_place}
use Rattle.pm_model.specs.Pending.{Pending, SetWord, passes_object, want_to_write, wants_pending}
use Rattle.pm_model.specs.Refusals.{Seen, Test, is_listed}
use Rattle.pm_model.specs.Outside.{id_in, is_beside_none, is_busy, is_found, is_null, late_tests, root_grows, size_made, taken_out, target_tests, value_outside, want_root, want_target, wants_named, wants_then}
use Rattle.pm_model.proofs.Lists.{Each, SameTests, each_left, each_right, each_unmap, each_weaker, same_any, same_append, same_tests}
use Rattle.pm_model.proofs.Fitting.{WithinT, listed_as, size_as}

unfoldable pub bytes_as : Option Item → List ℕ
bytes_as o = option_map_or (λ (i : Item). i.bytes) o []

unfoldable pub members_as : Option Item → List ℕ
members_as o = option_map_or (λ (i : Item). i.members) o []

-- the id that a destination in an item holds
unfoldable pub id_as : Dest → Option Item → Oid
unfolding bytes_as
id_as dest o =
    record { pool = number_at dest.off (bytes_as o); off = number_at (dest.off + 8) (bytes_as o) }

named_and : (n x y : Bool) → (n ≡ true → x ≡ y) → (n && x) ≡ (n && y)
named_and true x y same = same refl
named_and false x y same = refl

resized_by : (size n front back : ℕ) → front ≡ min size n → back ≡ size - n → front + back ≡ size
resized_by size n front back one other = omega arith

pub resized_length : (kind size : ℕ) (bytes : List ℕ)
    → length (resized_item kind size bytes).bytes ≡ size
resized_length kind size bytes =
    length-append (take size bytes) (replicate (size - length bytes) 0)
    ∙ resized_by size (length bytes) (length (take size bytes))
    (length (replicate (size - length bytes) 0)) (length-take size bytes)
    (length-replicate (size - length bytes) 0)

module _ (here : PlainPool) (I : Items) (R : Option ℕ) (T W B : ℕ → Bool)
    (wt : (x : ℕ) → W x ≡ true → T x ≡ true)
    (same : (x : ℕ) → T x ≡ true → I x ≡ here.items x)
    (roots : (x : ℕ) → T x ≡ true → is_root R x ≡ is_root here.root x)
    (lines : (l x : ℕ) → B l ≡ true → item_covers x (I x) l ≡ item_covers x (here.items x) l)
    (seen : Seen) (p : Pending) where
  abbrev there : PlainPool
  there = record here { items = I; root = R }

  abbrev Asked : List Want → Type 0
  Asked wants = Each (WithinT T W) wants

  -- the root word is the same where it is looked at
  abbrev RootSame : Operation → Type 0
  RootSame (Root size) = R ≡ here.root
  RootSame RootSize = R ≡ here.root
  RootSame op = Unit {0}

  -- ---- what a destination names

  pub id_there : (dest : Dest) → T dest.id.off ≡ true → id_in I dest ≡ id_in here.items dest
  unfolding id_as bytes_as
  id_there dest t = ap (id_as dest) (same dest.id.off t)

  -- the tests of a named object, by its id
  rows : Dest → Oid → Bool → Bool → List Test
  rows dest id rooted listed =
      (refusal.NoObject, not (is_null id) && not (has_place here id))
      ∷ (refusal.Busy, not (is_null id) && is_busy seen dest id)
      ∷ (refusal.NoObject, not (is_null id) && is_among seen.missing id.off)
      ∷ (refusal.RootKept, not (is_null id) && rooted)
      ∷ (refusal.Listed, not (is_null id) && listed) ∷ []

  pub target_in : (dest : Dest) (id : Oid)
      → Asked (cond (not (is_null id)
      && (has_place here id && not (is_among seen.missing id.off))
      && not (is_busy seen dest id)) (want_to_write id ∷ []) [])
      → not (is_null id) ≡ true → (not (is_null id) && not (has_place here id)) ≡ false
      → (not (is_null id) && is_busy seen dest id) ≡ false
      → (not (is_null id) && is_among seen.missing id.off) ≡ false → W id.off ≡ true
  target_in dest id asked = by (not (is_null id)) (has_place here id) (is_busy seen dest id)
      (is_among seen.missing id.off) asked where
        by : (n h b m : Bool)
            → Asked (cond (n && (h && not m) && not b) (want_to_write id ∷ []) []) → n ≡ true
            → (n && not h) ≡ false → (n && b) ≡ false → (n && m) ≡ false → W id.off ≡ true
        by true true false false asked n a c d = asked.0.1 refl
        by true true true m asked n a c d = absurd (false≢true (sym c))
        by true true false true asked n a c d = absurd (false≢true (sym d))
        by true false b m asked n a c d = absurd (false≢true (sym a))
        by false h b m asked n a c d = absurd (false≢true n)

  target_there : (dest : Dest) → T dest.id.off ≡ true → Asked (want_target seen here dest)
      → SameTests (target_tests seen there dest) (target_tests seen here dest)
  unfolding rows listed_as
  target_there dest t asked =
      let id : Oid = id_in here.items dest in
      subst (λ (other : Oid). SameTests
      (rows dest other (is_root R other.off) (is_listed I other.off))
      (rows dest id (is_root here.root id.off) (is_listed here.items id.off)))
      (sym (id_there dest t)) (
        refl,
        refl,
        λ a. (
          refl,
          refl,
          λ b. (
            refl,
            refl,
            λ c. (
              refl,
              named_and (not (is_null id)) (is_root R id.off) (is_root here.root id.off)
                  (λ n. roots id.off (wt id.off (target_in dest id asked n a b c))),
              λ d. (
                refl,
                named_and (not (is_null id)) (is_listed I id.off)
                    (is_listed here.items id.off)
                    (λ n. ap listed_as (same id.off
                    (wt id.off (target_in dest id asked n a b c)))),
                λ e. tt,
              ),
            ),
          ),
        ),
      )

  -- ---- what is read under the locks

  range_at : (off end : ℕ) → T off ≡ true
      → ltb (size_of I off) end ≡ ltb (size_of here.items off) end
  unfolding size_as
  range_at off end t = ap (λ (o : Option Item). ltb (size_as o) end) (same off t)

  pub members_at : (off : ℕ) → T off ≡ true → members_of I off ≡ members_of here.items off
  unfolding members_as
  members_at off t = ap members_as (same off t)

  pub bytes_there : (off : ℕ) → T off ≡ true → bytes_of I off ≡ bytes_of here.items off
  unfolding bytes_as
  bytes_there off t = ap bytes_as (same off t)

  grows_by : (size : ℕ) (root : Option ℕ)
      → Asked (option_map_or
      (λ off. record { id = record { pool = here.id; off = off }; write = true } ∷ []) root [])
      → option_map_or (λ off. ltb (size_of I off) size) root true ≡ option_map_or
      (λ off. ltb (size_of here.items off) size) root true
  grows_by size None asked = refl
  grows_by size (Some off) asked = range_at off size asked.0.0

  pub grows_there : (size : ℕ) → R ≡ here.root → Asked (want_root here true)
      → root_grows there size ≡ root_grows here size
  grows_there size e asked = ap
      (λ (r : Option ℕ). option_map_or (λ off. ltb (size_of I off) size) r true) e
      ∙ grows_by size here.root asked

  listed_by : (root : Option ℕ)
      → Asked (option_map_or
      (λ off. record { id = record { pool = here.id; off = off }; write = true } ∷ []) root [])
      → option_map_or (is_listed I) root false ≡ option_map_or (is_listed here.items) root false
  unfolding listed_as
  listed_by None asked = refl
  listed_by (Some off) asked = ap listed_as (same off asked.0.0)

  pub pending_frees : Asked (wants_pending p) → Each (λ (id : Oid). W id.off ≡ true) p.frees
  pending_frees asked = each_weaker (λ (id : Oid). WithinT T W (want_to_write id))
      (λ (id : Oid). W id.off ≡ true) p.frees (λ id w. w.1 refl)
      (each_unmap (WithinT T W) want_to_write p.frees
      (each_left (WithinT T W) (map want_to_write p.frees)
      (map (λ (a : SetWord). want_to_write a.id) p.sets) asked))

  pub pending_sets : Asked (wants_pending p) → Each (λ (a : SetWord). W a.id.off ≡ true) p.sets
  pending_sets asked = each_weaker (λ (a : SetWord). WithinT T W (want_to_write a.id))
      (λ (a : SetWord). W a.id.off ≡ true) p.sets (λ a w. w.1 refl)
      (each_unmap (WithinT T W) (λ (a : SetWord). want_to_write a.id) p.sets
      (each_right (WithinT T W) (map want_to_write p.frees)
      (map (λ (a : SetWord). want_to_write a.id) p.sets) asked))

  pub late_there : (op : Operation) → Asked (wants_named p op) → Asked (wants_then seen here op)
      → RootSame op → SameTests (late_tests seen there p op) (late_tests seen here p op)
  unfolding listed_as size_as
  late_there Publish named more root =
      let frees = pending_frees named in (
        refl,
        refl,
        λ a. (
          refl,
          same_any (λ (id : Oid). is_root R id.off)
              (λ (id : Oid). is_root here.root id.off) p.frees
              (each_weaker (λ (id : Oid). W id.off ≡ true)
              (λ (id : Oid). is_root R id.off ≡ is_root here.root id.off) p.frees
              (λ id w. roots id.off (wt id.off w)) frees),
          λ b. (
            refl,
            same_any (λ (id : Oid). is_listed I id.off)
                (λ (id : Oid). is_listed here.items id.off) p.frees
                (each_weaker (λ (id : Oid). W id.off ≡ true)
                (λ (id : Oid). is_listed I id.off ≡ is_listed here.items id.off) p.frees
                (λ id w. ap listed_as (same id.off (wt id.off w))) frees),
            λ c. (
              refl,
              same_any (passes_object I) (passes_object here.items) p.sets
                  (each_weaker (λ (a : SetWord). W a.id.off ≡ true)
                  (λ (a : SetWord). passes_object I a ≡ passes_object here.items a) p.sets
                  (λ a w. ap (λ (o : Option Item). ltb (size_as o) (a.off + 8))
                  (same a.id.off (wt a.id.off w))) (pending_sets named)),
              λ d. tt,
            ),
          ),
        ),
      )
  late_there (AllocTo dest size kind) named more root = (
    refl,
    range_at dest.id.off (dest.off + 16) named.0.0,
    λ a. (refl, refl, λ b. tt),
  )
  late_there (ReallocAt dest size kind) named more root = (
    refl,
    range_at dest.id.off (dest.off + 16) named.0.0,
    λ a.
        same_append (target_tests seen there dest) (target_tests seen here dest)
        ((refusal.NoSpace, leb 1 size && seen.full) ∷ []) (target_there dest named.0.0 more),
  )
  late_there (FreeAt dest) named more root = (
    refl,
    range_at dest.id.off (dest.off + 16) named.0.0,
    λ a. target_there dest named.0.0 more,
  )
  late_there (Insert head at id) named more root = (
    refl,
    ap (is_beside_none at) (members_at head.off named.0.0),
    λ a. (
      refl,
      ap (λ (o : Option Item). option_map_or (λ (h : ℕ). true)
          (option_map_or (λ (i : Item). i.list) o None) false) (same id.off named.1.0.0),
      λ b. tt,
    ),
  )
  late_there (InsertNew head at size kind) named more root = (
    refl,
    ap (is_beside_none at) (members_at head.off named.0.0),
    λ a. (refl, refl, λ b. tt),
  )
  late_there (Remove head id free) named more root = (
    refl,
    ap (λ (b : Bool). free && b) (roots id.off named.1.0.0),
    λ a. (
      refl,
      ap (λ (ms : List ℕ). not (is_among ms id.off)) (members_at head.off named.0.0),
      λ b. (
        refl,
        ap (λ (ms : List ℕ). free && leb 1 (length ms))
            (members_at id.off named.1.0.0),
        λ c. tt,
      ),
    ),
  )
  late_there (MoveTo head new_head at id) named more root = (
    refl,
    (λ i. not (is_among (members_at head.off named.0.0 i) id.off)
        || is_beside_none at (taken_out id.off (members_at new_head.off named.1.0.0 i))),
    λ a. tt,
  )
  late_there (Members head) named more root = (
    (λ i. refusal.Short (length (members_at head.off named.0.0 i))),
    ap (λ (ms : List ℕ). ltb seen.room (length ms)) (members_at head.off named.0.0),
    λ a. tt,
  )
  late_there (Root size) named more root =
      let grows = grows_there size root more in
      let listed = ap (λ (r : Option ℕ). option_map_or (is_listed I) r false) root
      ∙ listed_by here.root more in
      (refl, (λ i. grows i && listed i), λ a. (refl, (λ i. grows i && seen.full), λ b. tt))
  late_there op named more root = same_tests (late_tests seen here p op)

  -- ---- what it locks then, makes and replies

  pub then_there : (op : Operation) → Asked (wants_named p op) → RootSame op
      → wants_then seen there op ≡ wants_then seen here op
  then_there (ReallocAt dest size kind) named root = target_wants dest (named.0.0) where
    target_wants : (d : Dest) → T d.id.off ≡ true
        → want_target seen there d ≡ want_target seen here d
    target_wants d t = ap
        (λ (id : Oid). cond (not (is_null id) && is_found seen here (want_to_write id)
        && not (is_busy seen d id)) (want_to_write id ∷ []) []) (id_there d t)
  then_there (FreeAt dest) named root =
      ap (λ (id : Oid). cond
      (not (is_null id) && is_found seen here (want_to_write id)
      && not (is_busy seen dest id)) (want_to_write id ∷ []) []) (id_there dest named.0.0)
  then_there (Root size) named root = ap
      (λ (r : Option ℕ). option_map_or
      (λ off. record { id = record { pool = here.id; off = off }; write = true } ∷ []) r []) root
  then_there RootSize named root = ap
      (λ (r : Option ℕ). option_map_or
      (λ off. record { id = record { pool = here.id; off = off }; write = false } ∷ []) r []) root
  then_there op named root = refl

  pub size_there : (op : Operation) → Asked (wants_then seen here op) → RootSame op
      → size_made there op ≡ size_made here op
  size_there (Root size) more root = ap (λ (b : Bool). cond b (Some size) None)
      (grows_there size root more)
  size_there op more root = refl

  root_size_by : (root : Option ℕ)
      → Asked (option_map_or
      (λ off. record { id = record { pool = here.id; off = off }; write = false } ∷ []) root [])
      → option_map_or (size_of I) root 0 ≡ option_map_or (size_of here.items) root 0
  unfolding size_as
  root_size_by None asked = refl
  root_size_by (Some off) asked = ap size_as (same off asked.0.0)

  pub value_there : (op : Operation) → Asked (wants_named p op) → Asked (wants_then seen here op)
      → RootSame op → value_outside there op ≡ value_outside here op
  unfolding size_as
  value_there (UsableSize id) named more root = ap
      (λ (o : Option Item). let v : Option Value = Some (Number (usable (size_as o))) in v)
      (same id.off named.0.0)
  value_there (TypeNumber id) named more root = ap
      (λ (o : Option Item). let v : Option Value = Some
      (Number (option_map_or (λ (i : Item). i.kind) o 0)) in v) (same id.off named.0.0)
  value_there (Members head) named more root = ap
      (λ (ms : List ℕ). let v : Option Value = Some (replied.Members ms) in v)
      (members_at head.off named.0.0)
  value_there (Root size) named more root = ap
      (λ (r : Option ℕ). let v : Option Value = Some
      (Offset (option_map_or (λ (off : ℕ). off) r 0)) in v) root
  value_there RootSize named more root =
      ap (λ (n : ℕ). let v : Option Value = Some (Number n) in v)
      (ap (λ (r : Option ℕ). option_map_or (size_of I) r 0) root ∙ root_size_by here.root more)
  value_there op named more root = refl
