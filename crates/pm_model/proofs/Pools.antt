-- A pool that an image means is sound.
use Rattle.std.proofs.Common.{◌≡◌, ⊎_elim, ℕ, suc, ◌+◌, ◌-◌, ◌*◌, ◌/◌, ◌<◌, ◌≤◌, List, [], ◌∷◌, ◌++◌, length, get_or, Bool, true, false, cond, eqb, leb, ltb, ◌||◌, Option, Some, None, IsSome, IfSome, is_some, refl, sym, ◌∙◌, ap, subst, arith}
use Rattle.std.specs.Option.{option_map, option_map_or}
use Rattle.std.specs.List.{AllByRecursion, IsDistinct, find}
use Rattle.std.specs.List.Sorted.{IsStrictlyIncreasing}
use Rattle.std.proofs.lemmas.Bool.{and_from, and_parts, eq-eqb, eqb-true, false≢true, le-leb, leb-true, ltb-true, or_cases, or_left, or_parts, or_right}
use Rattle.pm_layout.specs.Sizes.{class_of}
use Rattle.pm_objects.specs.Pool.{IsPool, Objects, all_members, block_end, block_lines, object_at, offsets}
use Rattle.pm_objects.specs.declared.pool.Object.{Object}
use Rattle.pm_objects.specs.declared.pool.PoolView.{PoolView}
use Rattle.pm_model.specs.Items.{Item, head_of, is_among, item_of, items_of, list_of, members_of}
use Rattle.pm_model.specs.Blocks.{covers, item_covers}
use Rattle.pm_model.specs.Refusals.{is_size}
use Rattle.pm_model.specs.Sound.{AreOnce, IsSound}
use Rattle.pm_model.proofs.Known.{absent, rising_tail}
use Rattle.pm_model.proofs.Lists.{Each, any_append, any_from, each_of_all, each_weaker}

-- ---- what is found at an offset

-- what holds of each entry holds of what is found
found : (P : ℕ × Object → Type 0) (objects : Objects) → Each P objects → (x : ℕ) (o : Object)
    → object_at objects x ≡ Some o → P (x, o)
found P [] each x o is = absurd (let no : ⊥ = cc in no)
found P (e ∷ objects) each x o is = by (eqb e.0 x) refl is (found P objects each.1 x o) where
  by : (b : Bool) → eqb e.0 x ≡ b → cond b (Some e.1) (object_at objects x) ≡ Some o
      → (object_at objects x ≡ Some o → P (x, o)) → P (x, o)
  by true t is later = let same : e.1 ≡ o = cc in
      subst P (λ i. (eqb-true e.0 x t i, same i)) each.0
  by false f is later = later is

item_from : (objects : Objects) (x : ℕ) (i : Item) → items_of objects x ≡ Some i → (o : Object)
    × (object_at objects x ≡ Some o) × (o.bytes ≡ i.bytes)
item_from objects x i is = by (object_at objects x) refl where
  by : (q : Option Object) → object_at objects x ≡ q → (o : Object)
      × (object_at objects x ≡ Some o) × (o.bytes ≡ i.bytes)
  by None at = absurd (let bad : None ≡ Some i = ap
      (λ (q : Option Object). option_map (item_of (head_of objects x)) q) (sym at) ∙ is in
      let no : ⊥ = cc in no)
  by (Some o) at =
      let both : Some (item_of (head_of objects x) o) ≡ Some i = ap
      (λ (q : Option Object). option_map (item_of (head_of objects x)) q) (sym at) ∙ is in
      let same : item_of (head_of objects x) o ≡ i = cc in
      (o, at, ap (λ (j : Item). j.bytes) same)

-- ---- blocks lie one after another

abbrev Lie : ℕ → Objects → Type 0
Lie from [] = Unit {0}
Lie from (e ∷ es) = (from ≤ e.0 - 64) × Lie (block_end e) es

abbrev AreApart : Objects → Type 0
AreApart objects = (k : ℕ) (d : ℕ × Object) → k + 1 < length objects
    → block_end (get_or objects k d) ≤ (get_or objects (k + 1) d).0 - 64

apart_tail : (e : ℕ × Object) (es : Objects) → AreApart (e ∷ es) → AreApart es
apart_tail e es apart k d inside =
    let next : suc k + 1 ≡ suc (k + 1) = omega arith in
    subst (λ (n : ℕ). block_end (get_or es k d) ≤ (get_or (e ∷ es) n d).0 - 64) next
    (apart (suc k) d (omega arith))

lie_behind : (e : ℕ × Object) (es : Objects) → AreApart (e ∷ es) → Lie (block_end e) es
lie_behind e [] apart = tt
lie_behind e (f ∷ es) apart =
    (apart 0 e (omega arith), lie_behind f es (apart_tail e (f ∷ es) apart))

lie_from_apart : (objects : Objects) → AreApart objects → Lie 0 objects
lie_from_apart [] apart = tt
lie_from_apart (e ∷ es) apart = (omega arith, lie_behind e es apart)

-- each of them begins there or later
each_behind : (from first : ℕ) (es : Objects) → from ≤ first → Lie first es
    → Each (λ (f : ℕ × Object). from ≤ f.0 - 64) es
each_behind from first [] less lie = tt
each_behind from first (f ∷ es) less lie =
    let start : first ≤ f.0 - 64 = lie.0 in
    (omega arith, each_behind from (block_end f) es (omega arith) lie.1)

abbrev at_block : ℕ → ℕ → ℕ → Bool
at_block off size l = covers (record { off = off; size = size }) l

no_line : (a b n m l : ℕ) → a - 64 + 64 * n ≤ b - 64 → a / 64 - 1 ≤ l → l < a / 64 - 1 + n
    → b / 64 - 1 ≤ l → ⊥
no_line a b n m l behind one two three = omega arith

disjoint : (x y : ℕ) (size other l : ℕ) → x - 64 + 64 * block_lines (class_of size) ≤ y - 64
    → at_block x size l ≡ true → at_block y other l ≡ true → ⊥
disjoint x y size other l behind a b =
    let p = and_parts (leb (x / 64 - 1) l) (ltb l (x / 64 - 1 + block_lines (class_of size))) a in
    let q = and_parts (leb (y / 64 - 1) l) (ltb l (y / 64 - 1 + block_lines (class_of other))) b in
    no_line x y (block_lines (class_of size)) 0 l behind (leb-true (x / 64 - 1) l p.0)
    (ltb-true l (x / 64 - 1 + block_lines (class_of size)) p.1) (leb-true (y / 64 - 1) l q.0)

one_block : (from : ℕ) (objects : Objects) → Lie from objects → (x y l : ℕ) (o q : Object)
    → object_at objects x ≡ Some o → object_at objects y ≡ Some q
    → at_block x (length o.bytes) l ≡ true → at_block y (length q.bytes) l ≡ true → x ≡ y
one_block from [] lie x y l o q at_x at_y a b = absurd (let no : ⊥ = cc in no)
one_block from (e ∷ es) lie x y l o q at_x at_y a b = by (eqb e.0 x)
    (eqb e.0 y) refl refl at_x at_y (one_block (block_end e) es lie.1 x y l o q) where
      later : (z : ℕ) (r : Object) → object_at es z ≡ Some r → block_end e ≤ z - 64
      later z r is = found (λ (f : ℕ × Object). block_end e ≤ f.0 - 64) es
          (each_behind (block_end e) (block_end e) es (omega arith) lie.1) z r is

      by : (b1 b2 : Bool) → eqb e.0 x ≡ b1 → eqb e.0 y ≡ b2
          → cond b1 (Some e.1) (object_at es x) ≡ Some o → cond b2 (Some e.1) (object_at es y) ≡ Some q
          → (object_at es x ≡ Some o → object_at es y ≡ Some q
          → at_block x (length o.bytes) l ≡ true → at_block y (length q.bytes) l ≡ true
          → x ≡ y) → x ≡ y
      by true true t u is_x is_y rest = sym (eqb-true e.0 x t) ∙ eqb-true e.0 y u
      by true false t u is_x is_y rest =
          let same : e.1 ≡ o = cc in
          let start : block_end e ≤ y - 64 = later y q is_y in
          absurd (disjoint x y (length o.bytes) (length q.bytes) l
          (subst (λ (f : ℕ × Object). block_end f ≤ y - 64)
          (λ i. (eqb-true e.0 x t i, same i)) start) a b)
      by false true t u is_x is_y rest =
          let same : e.1 ≡ q = cc in
          let start : block_end e ≤ x - 64 = later x o is_x in
          absurd (disjoint y x (length q.bytes) (length o.bytes) l
          (subst (λ (f : ℕ × Object). block_end f ≤ x - 64)
          (λ i. (eqb-true e.0 y u i, same i)) start) b a)
      by false false t u is_x is_y rest = rest is_x is_y a b

covers_from_item : (objects : Objects) (x l : ℕ) → item_covers x (items_of objects x) l ≡ true
    → (o : Object) × (object_at objects x ≡ Some o) × (at_block x (length o.bytes) l ≡ true)
covers_from_item objects x l c = by (object_at objects x) refl where
  by : (q : Option Object) → object_at objects x ≡ q → (o : Object)
      × (object_at objects x ≡ Some o) × (at_block x (length o.bytes) l ≡ true)
  by None at = absurd (false≢true
      (ap (λ (q : Option Object). item_covers x (option_map (item_of (head_of objects x)) q) l)
      (sym at) ∙ c))
  by (Some o) at = (
    o,
    at,
    ap (λ (q : Option Object). item_covers x (option_map (item_of (head_of objects x)) q) l)
        (sym at) ∙ c,
  )

-- ---- members

not_among : (n : ℕ) (ms : List ℕ) → AllByRecursion (λ m. eqb n m ≡ false) ms
    → is_among ms n ≡ false
not_among n [] all = refl
not_among n (m ∷ ms) all = (λ i. flipped i || not_among n ms all.1 i) where
  flipped : eqb m n ≡ false
  flipped = by (eqb m n) refl where
    by : (b : Bool) → eqb m n ≡ b → b ≡ false
    by true e = absurd (false≢true (sym all.0 ∙ eq-eqb n m (sym (eqb-true m n e))))
    by false e = refl

once_of : (ms : List ℕ) → IsDistinct (λ a b. eqb a b) ms → AreOnce ms
unfolding IsDistinct
once_of [] distinct = tt
once_of (m ∷ ms) distinct = (not_among m ms distinct.0, once_of ms distinct.1)

once_left : (xs ys : List ℕ) → AreOnce (xs ++ ys) → AreOnce xs
once_left [] ys once = tt
once_left (a ∷ xs) ys once = (
  (or_parts (is_among xs a) (is_among ys a)
      (sym (any_append (λ o. eqb o a) xs ys) ∙ once.0)).0,
  once_left xs ys once.1,
)

once_right : (xs ys : List ℕ) → AreOnce (xs ++ ys) → AreOnce ys
once_right [] ys once = once
once_right (a ∷ xs) ys once = once_right xs ys once.1

-- a number of the one is none of the other
once_apart : (xs ys : List ℕ) (n : ℕ) → AreOnce (xs ++ ys) → is_among xs n ≡ true
    → is_among ys n ≡ true → ⊥
once_apart [] ys n once a b = false≢true a
once_apart (m ∷ xs) ys n once a b = ⊎_elim
    (λ (t : eqb m n ≡ true). false≢true
    (sym (or_parts (is_among xs m) (is_among ys m)
    (sym (any_append (λ o. eqb o m) xs ys) ∙ once.0)).1
    ∙ (ap (is_among ys) (eqb-true m n t) ∙ b)))
    (λ (u : is_among xs n ≡ true). once_apart xs ys n once.1 u b)
    (or_cases (eqb m n) (is_among xs n) a)

-- the members of what is found are among all
among_all : (objects : Objects) (head off : ℕ) (o : Object) → object_at objects head ≡ Some o
    → is_among o.members off ≡ true → is_among (all_members objects) off ≡ true
among_all [] head off o is m = absurd (let no : ⊥ = cc in no)
among_all (e ∷ es) head off o is m = any_append (λ n. eqb n off) e.1.members (all_members es)
    ∙ by (eqb e.0 head) is (among_all es head off o) where
      by : (b : Bool) → cond b (Some e.1) (object_at es head) ≡ Some o
          → (object_at es head ≡ Some o → is_among o.members off ≡ true
          → is_among (all_members es) off ≡ true)
          → (is_among e.1.members off || is_among (all_members es) off) ≡ true
      by true is later = let same : e.1 ≡ o = cc in
          or_left (is_among e.1.members off) (is_among (all_members es) off)
          (ap (λ (q : Object). is_among q.members off) same ∙ m)
      by false is later = or_right (is_among e.1.members off) (is_among (all_members es) off)
          (later is m)

-- a member's head is that of the list
head_is : (objects : Objects) (head off : ℕ) (o : Object) → AreOnce (all_members objects)
    → object_at objects head ≡ Some o → is_among o.members off ≡ true
    → head_of objects off ≡ Some head
head_is [] head off o once is m = absurd (let no : ⊥ = cc in no)
head_is (e ∷ es) head off o once is m =
    by (is_among e.1.members off) (eqb e.0 head) refl refl is
    (head_is es head off o (once_right e.1.members (all_members es) once)) where
      by : (a b : Bool) → is_among e.1.members off ≡ a → eqb e.0 head ≡ b
          → cond b (Some e.1) (object_at es head) ≡ Some o
          → (object_at es head ≡ Some o → is_among o.members off ≡ true
          → head_of es off ≡ Some head)
          → option_map (λ (f : ℕ × Object). f.0)
          (cond a (Some e) (find
          (λ (f : ℕ × Object). is_among f.1.members off) es)) ≡ Some head
      by true true a b is later = ap Some (eqb-true e.0 head b)
      by true false a b is later = absurd
          (once_apart e.1.members (all_members es) off once a (among_all es head off o is m))
      by false true a b is later = let same : e.1 ≡ o = cc in
          absurd (false≢true (sym a ∙ (ap (λ (q : Object). is_among q.members off) same ∙ m)))
      by false false a b is later = later is m

-- and the other way round
head_has : (objects : Objects) (head off : ℕ) → IsStrictlyIncreasing (offsets objects)
    → head_of objects off ≡ Some head
    → (o : Object) × (object_at objects head ≡ Some o) × (is_among o.members off ≡ true)
head_has [] head off rising is = absurd (let no : ⊥ = cc in no)
head_has (e ∷ es) head off rising is = by (is_among e.1.members off) refl is
    (head_has es head off (rising_tail e.0 (offsets es) rising)) where
      by : (a : Bool) → is_among e.1.members off ≡ a
          → option_map (λ (f : ℕ × Object). f.0)
          (cond a (Some e) (find (λ (f : ℕ × Object). is_among f.1.members off) es)) ≡ Some head
          → (head_of es off ≡ Some head → (o : Object) × (object_at es head ≡ Some o)
          × (is_among o.members off ≡ true))
          → (o : Object) × (object_at (e ∷ es) head ≡ Some o) × (is_among o.members off ≡ true)
      by true a is later = let same : e.0 ≡ head = cc in
          (e.1, ap (λ (b : Bool). cond b (Some e.1) (object_at es head)) (eq-eqb e.0 head same), a)
      by false a is later =
          let l = later is in
          let other : (b : Bool) → eqb e.0 head ≡ b
          → cond b (Some e.1) (object_at es head) ≡ Some l.0 = λ b. elim b as
          (λ (c : Bool). eqb e.0 head ≡ c → cond c (Some e.1) (object_at es head) ≡ Some l.0) [
            | true ↦ λ t. absurd (let none : object_at es head ≡ None = absent es e.0 head rising
                (let same : e.0 ≡ head = eqb-true e.0 head t in omega arith) in
                let bad : None ≡ Some l.0 = sym none ∙ l.1 in let no : ⊥ = cc in no)
            | false ↦ λ f. l.1
          ] in
          (l.0, other (eqb e.0 head) refl, l.2)

members_once : (objects : Objects) (head : ℕ) → AreOnce (all_members objects)
    → AreOnce (option_map_or (λ (o : Object). o.members) (object_at objects head) [])
members_once [] head once = tt
members_once (e ∷ es) head once =
    by (eqb e.0 head) (members_once es head (once_right e.1.members (all_members es) once)) where
      by : (b : Bool) → AreOnce (option_map_or (λ (o : Object). o.members) (object_at es head) [])
          → AreOnce (option_map_or (λ (o : Object). o.members)
          (cond b (Some e.1) (object_at es head)) [])
      by true later = once_left e.1.members (all_members es) once
      by false later = later

-- ---- the pool

members_at : (objects : Objects) (head : ℕ)
    → members_of (items_of objects) head ≡ option_map_or (λ (o : Object). o.members)
    (object_at objects head) []
members_at objects head = by (object_at objects head) where
  by : (q : Option Object)
      → option_map_or (λ (i : Item). i.members)
      (option_map (item_of (head_of objects head)) q) [] ≡ option_map_or
      (λ (o : Object). o.members) q []
  by None = refl
  by (Some o) = refl

list_at : (objects : Objects) (off : ℕ) (o : Object) → object_at objects off ≡ Some o
    → list_of (items_of objects) off ≡ head_of objects off
list_at objects off o is = ap
    (λ (q : Option Object). option_map_or (λ (i : Item). i.list)
    (option_map (item_of (head_of objects off)) q) None) is

-- a member is an object
member_there : (objects : Objects) (off : ℕ) → (ms : List ℕ)
    → Each (λ (m : ℕ). IsSome (object_at objects m)) ms → is_among ms off ≡ true → (o : Object)
    × (object_at objects off ≡ Some o)
member_there objects off ms there m =
    by (object_at objects off) refl (any_from (IsSome (object_at objects off)) (λ n. eqb n off) ms
    (each_weaker (λ (n : ℕ). IsSome (object_at objects n))
    (λ (n : ℕ). eqb n off ≡ true → IsSome (object_at objects off)) ms
    (λ n some e. subst (λ (x : ℕ). IsSome (object_at objects x))
    (eqb-true n off e) some) there) m) where
      by : (q : Option Object) → object_at objects off ≡ q → IsSome (object_at objects off)
          → (o : Object) × (object_at objects off ≡ Some o)
      by None at some = absurd (false≢true (ap is_some (sym at) ∙ some))
      by (Some o) at some = (o, at)

pub pool_sound : (v : PoolView) → IsPool v → IsSound (items_of v.objects) v.root
pool_sound v pool = record {
  sizes = λ x i is. size x i (item_from v.objects x i is);
  apart = λ x y l a b.
      let p = covers_from_item v.objects x l a in
      let q = covers_from_item v.objects y l b in
      one_block 0 v.objects (lie_from_apart v.objects pool.apart) x y l p.0 q.0 p.1 q.1 p.2 q.2;
  linked = λ head off m. linked head off (object_at v.objects head) refl
      (ap (λ (l : List ℕ). is_among l off) (sym (members_at v.objects head)) ∙ m);
  listed = λ head off e. listed head off (object_at v.objects off) refl e;
  once = λ head. subst AreOnce (sym (members_at v.objects head))
      (members_once v.objects head once);
  root_there = root v.root pool.root_there;
} where
  once : AreOnce (all_members v.objects)
  once = once_of (all_members v.objects) pool.members_once

  size : (x : ℕ) (i : Item) → (o : Object) × (object_at v.objects x ≡ Some o)
      × (o.bytes ≡ i.bytes) → is_size (length i.bytes) ≡ true
  size x i f =
      let fits : (1 ≤ length f.0.bytes) × (length f.0.bytes ≤ 262080) =
      found (λ (e : ℕ × Object). (1 ≤ length e.1.bytes) × (length e.1.bytes ≤ 262080)) v.objects
      (each_of_all (λ (e : ℕ × Object). (1 ≤ length e.1.bytes)
      × (length e.1.bytes ≤ 262080)) v.objects pool.sizes) x f.0 f.1 in
      subst (λ (bytes : List ℕ). is_size (length bytes) ≡ true) f.2
      (and_from (leb 1 (length f.0.bytes)) (leb (length f.0.bytes) 262080)
      (le-leb 1 (length f.0.bytes) fits.0) (le-leb (length f.0.bytes) 262080 fits.1))

  linked : (head off : ℕ) (q : Option Object) → object_at v.objects head ≡ q
      → is_among (option_map_or (λ (o : Object). o.members)
      (object_at v.objects head) []) off ≡ true
      → list_of (items_of v.objects) off ≡ Some head
  linked head off None at m = absurd
      (false≢true (ap (λ (q : Option Object). is_among
      (option_map_or (λ (o : Object). o.members) q []) off) (sym at) ∙ m))
  linked head off (Some o) at m =
      let in_o : is_among o.members off ≡ true = ap
      (λ (q : Option Object). is_among (option_map_or (λ (r : Object). r.members) q []) off)
      (sym at) ∙ m in
      let there = member_there v.objects off (all_members v.objects)
      (each_of_all (λ (n : ℕ). IsSome (object_at v.objects n))
      (all_members v.objects) pool.members_there) (among_all v.objects head off o at in_o) in
      list_at v.objects off there.0 there.1 ∙ head_is v.objects head off o once at in_o

  listed : (head off : ℕ) (q : Option Object) → object_at v.objects off ≡ q
      → list_of (items_of v.objects) off ≡ Some head
      → is_among (members_of (items_of v.objects) head) off ≡ true
  listed head off None at e =
      absurd (let bad : None ≡ Some head = ap
      (λ (q : Option Object). option_map_or (λ (i : Item). i.list)
      (option_map (item_of (head_of v.objects off)) q) None) (sym at) ∙ e in
      let no : ⊥ = cc in no)
  listed head off (Some o) at e =
      let has = head_has v.objects head off pool.rising (sym (list_at v.objects off o at) ∙ e) in
      ap (λ (l : List ℕ). is_among l off) (members_at v.objects head)
      ∙ (ap (λ (q : Option Object). is_among
      (option_map_or (λ (r : Object). r.members) q []) off) has.1 ∙ has.2)

  root : (r : Option ℕ) → IfSome r (λ off. IsSome (object_at v.objects off))
      → IfSome r (λ off. IsSome (items_of v.objects off))
  root None there = tt
  root (Some off) there = by (object_at v.objects off) there where
    by : (q : Option Object) → IsSome q → IsSome (option_map (item_of (head_of v.objects off)) q)
    by None some = absurd (false≢true some)
    by (Some o) some = refl
