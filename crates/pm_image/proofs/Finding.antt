-- The first record that covers a word, in one lane and over all.
use Rattle.std.proofs.Common.{◌≡◌, ℕ, zero, suc, ◌+◌, ◌-◌, ◌<◌, Bool, true, false, cond, eqb, List, [], ◌∷◌, ◌++◌, Option, Some, None, refl, ◌∙◌, ap, arith, append-nil}
use Rattle.std.specs.List.{filter, filter_map, cons_option, flat_map, find, range_with_len}
use Rattle.std.specs.Option.{option_or, option_and_then, option_map}
use Rattle.std.proofs.lemmas.List.Folds.{find-append}
use Rattle.std.proofs.lemmas.Grind.{flat_map-append}
use Rattle.std.proofs.lemmas.List.Elements.{filter-append}
use Rattle.pm_record.specs.Undo.{undo_of}
use Rattle.pm_record.specs.declared.undo.Undo.{Undo}
use Rattle.pm_image.specs.Logs.{records, undo_slot, generation}
use Rattle.pm_image.specs.Steps.{valid_record}

pub range_split : (a m r : ℕ) → range_with_len a (m + r) ≡ range_with_len a m ++ range_with_len (a + m) r
range_split a zero r =
    let none : 0 + r ≡ r = omega arith in
    let same : a ≡ a + 0 = omega arith in
    ap (range_with_len a) none ∙ ap (λ (k : ℕ). range_with_len k r) same
range_split a (suc m) r =
    let next : suc m + r ≡ suc (m + r) = omega arith in
    let place : a + 1 + m ≡ a + suc m = omega arith in
    ap (range_with_len a) next ∙ ap (λ (ks : List ℕ). a ∷ ks) (range_split (a + 1) m r ∙ ap (λ (k : ℕ). range_with_len (a + 1) m ++ range_with_len k r) place)

-- the parts for the numbers up to k, and those behind
parts_split : {X : Type 0} (f : ℕ → List X) (k r : ℕ) → flat_map f (range_with_len 0 (k + suc r)) ≡ flat_map f (range_with_len 0 k) ++ (f k ++ flat_map f (range_with_len (k + 1) r))
parts_split f k r =
    let at : 0 + k ≡ k = omega arith in
    ap (flat_map f) (range_split 0 k (suc r)) ∙ flat_map-append f (range_with_len 0 k) (range_with_len (0 + k) (suc r))
    ∙ ap (λ (j : ℕ). flat_map f (range_with_len 0 k) ++ flat_map f (range_with_len j (suc r))) at

-- found in part k, and in none before
pub find_there : {X : Type 0} (p : X → Bool) (f : ℕ → List X) (n k : ℕ) (x : X) → k < n → find p (flat_map f (range_with_len 0 k)) ≡ None → find p (f k) ≡ Some x → find p (flat_map f (range_with_len 0 n)) ≡ Some x
find_there {X = X} p f n k x inside before here =
    let r : ℕ = n - k - 1 in
    let whole : n ≡ k + suc r = omega arith in
    ap (λ (m : ℕ). find p (flat_map f (range_with_len 0 m))) whole ∙ ap (find p) (parts_split f k r)
    ∙ find-append p (flat_map f (range_with_len 0 k)) (f k ++ flat_map f (range_with_len (k + 1) r))
    ∙ ap (λ (o : Option X). option_or o (find p (f k ++ flat_map f (range_with_len (k + 1) r)))) before
    ∙ find-append p (f k) (flat_map f (range_with_len (k + 1) r))
    ∙ ap (λ (o : Option X). option_or o (find p (flat_map f (range_with_len (k + 1) r)))) here

-- found neither before nor in part k
pub find_nowhere : {X : Type 0} (p : X → Bool) (f : ℕ → List X) (k : ℕ) → find p (flat_map f (range_with_len 0 k)) ≡ None → find p (f k) ≡ None → find p (flat_map f (range_with_len 0 (k + 1))) ≡ None
find_nowhere {X = X} p f k before here =
    let one : k + 1 ≡ k + suc 0 = refl in
    ap (λ (m : ℕ). find p (flat_map f (range_with_len 0 m))) one ∙ ap (find p) (parts_split f k 0)
    ∙ find-append p (flat_map f (range_with_len 0 k)) (f k ++ [])
    ∙ ap (λ (o : Option X). option_or o (find p (f k ++ []))) before
    ∙ ap (find p) (append-nil (f k)) ∙ here

-- the valid records of one slot: one at most
abbrev pub slot_records : List ℕ → ℕ → ℕ → List Undo
slot_records image lane i = filter (λ u. eqb u.generation (generation image lane)) (cons_option (undo_of (undo_slot image lane i)) [])

by_slot : {X Y : Type 0} (p : Y → Bool) (h : X → Option Y) (xs : List X) → filter p (filter_map h xs) ≡ flat_map (λ x. filter p (cons_option (h x) [])) xs
by_slot p h [] = refl
by_slot {X = X} {Y = Y} p h (x ∷ xs) =
    let one : (o : Option Y) (ys : List Y) → cons_option o ys ≡ cons_option o [] ++ ys = λ o ys. elim o as (λ (k : Option Y). cons_option k ys ≡ cons_option k [] ++ ys) [ None ↦ refl | Some y ↦ refl ] in
    ap (filter p) (one (h x) (filter_map h xs)) ∙ filter-append p (cons_option (h x) []) (filter_map h xs)
    ∙ ap (λ (ys : List Y). filter p (cons_option (h x) []) ++ ys) (by_slot p h xs)

pub records_by_slot : (image : List ℕ) (lane : ℕ) → records image lane ≡ flat_map (slot_records image lane) (range_with_len 0 64)
unfolding records
records_by_slot image lane = by_slot (λ u. eqb u.generation (generation image lane)) (λ i. undo_of (undo_slot image lane i)) (range_with_len 0 64)

found_of : (p : Undo → Bool) (x u : Undo) (b : Bool) → cond b (Some x) None ≡ Some u → find p (cond b (x ∷ []) []) ≡ cond (p u) (Some u) None
found_of p x u true is = let same : x ≡ u = cc in ap (λ (y : Undo). cond (p y) (Some y) None) same
found_of p x u false is = absurd cc

empty_of : (p : Undo → Bool) (x : Undo) (b : Bool) → cond b (Some x) None ≡ None → find p (cond b (x ∷ []) []) ≡ None
empty_of p x true is = absurd cc
empty_of p x false is = refl

found_in : (p own : Undo → Bool) (r : Option Undo) (u : Undo) → option_and_then (λ x. cond (own x) (Some x) None) r ≡ Some u → find p (filter own (cons_option r [])) ≡ cond (p u) (Some u) None
found_in p own None u is = absurd cc
found_in p own (Some x) u is = found_of p x u (own x) is

empty_in : (p own : Undo → Bool) (r : Option Undo) → option_and_then (λ x. cond (own x) (Some x) None) r ≡ None → find p (filter own (cons_option r [])) ≡ None
empty_in p own None is = refl
empty_in p own (Some x) is = empty_of p x (own x) is

-- what is found in a slot, by what its valid record is
pub slot_found : (p : Undo → Bool) (image : List ℕ) (lane i : ℕ) (u : Undo) → valid_record image lane i ≡ Some u → find p (slot_records image lane i) ≡ cond (p u) (Some u) None
slot_found p image lane i u is = found_in p (λ x. eqb x.generation (generation image lane)) (undo_of (undo_slot image lane i)) u is

pub slot_empty : (p : Undo → Bool) (image : List ℕ) (lane i : ℕ) → valid_record image lane i ≡ None → find p (slot_records image lane i) ≡ None
slot_empty p image lane i is = empty_in p (λ x. eqb x.generation (generation image lane)) (undo_of (undo_slot image lane i)) is

-- found through what is made of it: the same, whole
pub find_there_made : {X Y : Type 0} (p : X → Bool) (f : ℕ → List X) (h : X → Y) (n k : ℕ) (y : Y) → k < n → find p (flat_map f (range_with_len 0 k)) ≡ None → option_map h (find p (f k)) ≡ Some y
    → option_map h (find p (flat_map f (range_with_len 0 n))) ≡ Some y
find_there_made {X = X} {Y = Y} p f h n k y inside before here = go (find p (f k)) refl here where
  go : (o : Option X) → find p (f k) ≡ o → option_map h o ≡ Some y → option_map h (find p (flat_map f (range_with_len 0 n))) ≡ Some y
  go None same is = absurd cc
  go (Some x) same is = ap (option_map h) (find_there p f n k x inside before same) ∙ is

-- nothing is made of nothing alone
pub found_nothing : {X Y : Type 0} (h : X → Y) (o : Option X) → option_map h o ≡ None → o ≡ None
found_nothing h None is = refl
found_nothing h (Some x) is = absurd cc
