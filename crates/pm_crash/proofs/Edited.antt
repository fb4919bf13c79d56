-- The items after a difference are those before with some gone and some made.
use Rattle.std.proofs.Common.{◌≡◌, ◌≢◌, ◌⊎◌, ⊎_elim, inl, inr, ℕ, ◌==◌, true, false, List, [], ◌∷◌, ◌++◌, map, Option, Some, None, refl, sym, ◌∙◌, ap}
use Rattle.std.specs.List.{Contains}
use Rattle.std.proofs.lemmas.Bool.{both_ways, cases_Bool, cases_eq, cond-false, cond-true, eq-eqb, eqb-true, ne_eqb}
use Rattle.pm_layout.specs.declared.shape.Shape.{Shape}
use Rattle.pm_header.specs.declared.header.Header.{Header}
use Rattle.pm_objects.specs.declared.pool.PoolView.{PoolView}
use Rattle.pm_image.proofs.Members.{first_member, later_member, member_cases, no_member}
use Rattle.pm_model.specs.Items.{Edit, Item, Items, all_edited, edited, freed_item, made_item, plain_pool}
use Rattle.pm_view.specs.Entries.{turn}
use Rattle.pm_view.specs.Places.{Block, Small, Big, Root}
use Rattle.pm_world.specs.Lanes.{is_occupancy}
use Rattle.pm_world.specs.States.{State, Diff, after_diff, given, over}
use Rattle.pm_world.proofs.Replays.{over_none}
use Rattle.pm_crash.specs.Edits.{BlocksAreEdits, IsBase, ListsBlocks, edits_by}
use Rattle.pm_crash.specs.HeapChanges.{ChangesHeap, Frees, Makes}
use Rattle.pm_crash.specs.Objects.{IsGoodHeap, StandsIn, is_allocated, item_of, offset_of}
use Rattle.pm_crash.specs.Spelled.{Holds}
use Rattle.pm_crash.proofs.ChangedHeaps.{blocks_change, occupancy_of, option_cases}
use Rattle.pm_crash.proofs.GoodBits.{held_good}
use Rattle.pm_crash.proofs.ItemsOfBits.{offsets_tell}
use Rattle.pm_crash.proofs.Told.{items_told}

-- ---- EDITS ONE AFTER ANOTHER

pub edits_append : (xs ys : List Edit) (items : Items) → all_edited (xs ++ ys) items ≡ all_edited ys (all_edited xs items)
unfolding all_edited
edits_append [] ys items = refl
edits_append (e ∷ xs) ys items = edits_append xs ys (edited e items)

module _ (at : Block → ℕ) where
  -- one of them is there, or none
  pub find_at : (xs : List Block) (off : ℕ) → ((B : Block) × Contains xs B × (at B ≡ off)) ⊎ ((B : Block) → Contains xs B → at B ≢ off)
  find_at [] off = inr (λ B t e. no_member B t)
  find_at (x ∷ xs) off = ⊎_elim
      (λ (e : at x ≡ off). inl (x, first_member x xs, e))
      (λ (ne : at x ≢ off). ⊎_elim
      (λ (y : (B : Block) × Contains xs B × (at B ≡ off)). inl (y.0, later_member x xs y.0 y.1, y.2))
      (λ (n : (B : Block) → Contains xs B → at B ≢ off). inr (λ B t. ⊎_elim (λ (q : x ≡ B). λ e. ne (ap at q ∙ e)) (λ (l : Contains xs B). n B l) (member_cases x xs B t)))
      (find_at xs off))
      (cases_eq (at x) off)

  abbrev frees : List Block → List Edit
  frees xs = map (λ (B : Block). freed_item (at B)) xs

  freed_stays : (xs : List Block) (items : Items) (off : ℕ) → items off ≡ None → all_edited (frees xs) items off ≡ None
  unfolding all_edited
  freed_stays [] items off e = e
  freed_stays (x ∷ xs) items off e = freed_stays xs (edited (freed_item (at x)) items) off (⊎_elim
      (λ (t : (at x == off) ≡ true). cond-true (at x == off) None (items off) t)
      (λ (t : (at x == off) ≡ false). cond-false (at x == off) None (items off) t ∙ e)
      (cases_Bool (at x == off)))

  pub freed_gone : (xs : List Block) (items : Items) (off : ℕ) (B : Block) → Contains xs B → at B ≡ off → all_edited (frees xs) items off ≡ None
  unfolding all_edited
  freed_gone [] items off B t e = absurd (no_member B t)
  freed_gone (x ∷ xs) items off B t e = ⊎_elim
      (λ (q : x ≡ B). freed_stays xs (edited (freed_item (at x)) items) off (cond-true (at x == off) None (items off) (eq-eqb (at x) off (ap at q ∙ e))))
      (λ (l : Contains xs B). freed_gone xs (edited (freed_item (at x)) items) off B l e)
      (member_cases x xs B t)

  pub freed_away : (xs : List Block) (items : Items) (off : ℕ) → ((B : Block) → Contains xs B → at B ≢ off) → all_edited (frees xs) items off ≡ items off
  unfolding all_edited
  freed_away [] items off n = refl
  freed_away (x ∷ xs) items off n = freed_away xs (edited (freed_item (at x)) items) off (λ B t. n B (later_member x xs B t))
      ∙ cond-false (at x == off) None (items off) (ne_eqb (at x) off (n x (first_member x xs)))

  module _ (it : Block → Item) where
    abbrev makes : List Block → List Edit
    makes xs = map (λ (B : Block). made_item (at B) (it B)) xs

    made_stays : (xs : List Block) (items : Items) (off : ℕ) (i : Item) → items off ≡ Some i → ((B : Block) → Contains xs B → at B ≡ off → it B ≡ i) → all_edited (makes xs) items off ≡ Some i
    unfolding all_edited
    made_stays [] items off i e same = e
    made_stays (x ∷ xs) items off i e same = made_stays xs (edited (made_item (at x) (it x)) items) off i (⊎_elim
        (λ (t : (at x == off) ≡ true). cond-true (at x == off) (Some (it x)) (items off) t ∙ ap (λ (j : Item). Some j) (same x (first_member x xs) (eqb-true (at x) off t)))
        (λ (t : (at x == off) ≡ false). cond-false (at x == off) (Some (it x)) (items off) t ∙ e)
        (cases_Bool (at x == off)))
        (λ B t q. same B (later_member x xs B t) q)

    pub made_there : (xs : List Block) (items : Items) (off : ℕ) (B : Block) → Contains xs B → at B ≡ off → ((C : Block) → Contains xs C → at C ≡ off → it C ≡ it B) → all_edited (makes xs) items off ≡ Some (it B)
    unfolding all_edited
    made_there [] items off B t e same = absurd (no_member B t)
    made_there (x ∷ xs) items off B t e same = ⊎_elim
        (λ (q : x ≡ B). made_stays xs (edited (made_item (at x) (it x)) items) off (it B)
        (cond-true (at x == off) (Some (it x)) (items off) (eq-eqb (at x) off (ap at q ∙ e)) ∙ ap (λ C. Some (it C)) q)
        (λ C c p. same C (later_member x xs C c) p))
        (λ (l : Contains xs B). made_there xs (edited (made_item (at x) (it x)) items) off B l e (λ C c p. same C (later_member x xs C c) p))
        (member_cases x xs B t)

    pub made_away : (xs : List Block) (items : Items) (off : ℕ) → ((B : Block) → Contains xs B → at B ≢ off) → all_edited (makes xs) items off ≡ items off
    unfolding all_edited
    made_away [] items off n = refl
    made_away (x ∷ xs) items off n = made_away xs (edited (made_item (at x) (it x)) items) off (λ B t. n B (later_member x xs B t))
        ∙ cond-false (at x == off) (Some (it x)) (items off) (ne_eqb (at x) off (n x (first_member x xs)))

-- ---- THE ITEMS AFTER A DIFFERENCE

same_some : {A : Type 0} → (a b : A) → Some a ≡ Some b → a ≡ b
same_some {A = A} a b e = ap (λ (z : Option A). Rattle.std.specs.Prelude.unwrap_or z a) e

module _ (sh : Shape) (class : ℕ → ℕ) (s : State) (d : Diff) (header : Header) (pool pool' : PoolView) (base : Items) (freed made : List Block)
    (holds : Holds sh class s header pool) (changes : ChangesHeap sh class s d) (after : Holds sh class (after_diff d s) header pool')
    (lists : ListsBlocks sh s d freed made) (is_base : IsBase sh class s d base) where
  abbrev s' : State
  s' = after_diff d s

  good : IsGoodHeap sh class s
  good = held_good sh class s header pool holds

  abbrev place : Block → ℕ
  place B = offset_of sh class s B

  abbrev place' : Block → ℕ
  place' B = offset_of sh class s' B

  abbrev it : Block → Item
  it B = item_of sh class s' B

  same_place : (B : Block) → place' B ≡ place B
  same_place (Small c i) = refl
  same_place (Big f) = refl
  same_place Root = refl

  now : (B : Block) → is_occupancy sh B ≡ true → is_allocated sh s' B ≡ over (turn d B) (is_allocated sh s B)
  now B o = blocks_change sh class s d changes.blocks changes.descriptors good B o

  there_after : (B : Block) → Contains made B → is_allocated sh s' B ≡ true
  there_after B t = let y = lists.is_made B t in now B y.0 ∙ ap (λ a. over a (is_allocated sh s B)) y.1

  still : (B : Block) → is_allocated sh s B ≡ true → given (turn d B) ≡ false → is_allocated sh s' B ≡ true
  still B a q = now B (occupancy_of sh class s d changes.blocks changes.descriptors good B s a) ∙ (over_none (turn d B) (is_allocated sh s B) q ∙ a)

  abbrev gone : Items
  gone = all_edited (map (λ (B : Block). freed_item (place B)) freed) base

  abbrev new : Items
  new = all_edited (map (λ (B : Block). made_item (place' B) (it B)) made) gone

  made_has : (B : Block) → Contains made B → new (place' B) ≡ Some (it B)
  made_has B t = made_there place' it made gone (place' B) B t refl
      (λ C c e. ap it (offsets_tell sh class s' header pool' after C B (there_after C c) (there_after B t) e))

  stay_has : (B : Block) → is_allocated sh s B ≡ true → given (turn d B) ≡ false → new (place' B) ≡ Some (it B)
  stay_has B a q =
      made_away place' it made gone (place' B) (λ C c e. not_made C c
      (offsets_tell sh class s' header pool' after C B (there_after C c) (still B a q) e))
      ∙ (freed_away place freed base (place' B) (λ C c e. not_freed C c
      (offsets_tell sh class s header pool holds C B (lists.is_freed C c).0 a (e ∙ same_place B)))
      ∙ (ap base (same_place B) ∙ is_base.stays B a q))
    where
      not_made : (C : Block) → Contains made C → C ≡ B → ⊥
      not_made C c e = both_ways (given (turn d B)) q (ap given (sym (ap (turn d) e) ∙ (lists.is_made C c).1))

      not_freed : (C : Block) → Contains freed C → C ≡ B → ⊥
      not_freed C c e = both_ways (given (turn d B)) q (ap given (sym (ap (turn d) e) ∙ (lists.is_freed C c).1))

  has : (B : Block) → is_allocated sh s' B ≡ true → new (place' B) ≡ Some (it B)
  has B b = let o = occupancy_of sh class s d changes.blocks changes.descriptors good B s' b in ⊎_elim
      (λ (q : given (turn d B) ≡ false). stay_has B (sym (over_none (turn d B) (is_allocated sh s B) q) ∙ (sym (now B o) ∙ b)) q)
      (λ q. ⊎_elim
      (λ (m : Makes d B). made_has B (lists.makes B o m))
      (λ (f : Frees d B). absurd (both_ways false refl (sym (now B o ∙ ap (λ a. over a (is_allocated sh s B)) f) ∙ b))) q)
      (option_cases (turn d B))

  stands : (off : ℕ) (item : Item) → new off ≡ Some item → StandsIn sh class s' off item
  stands off item e = ⊎_elim
      (λ (y : (B : Block) × Contains made B × (place' B ≡ off)). record {
        block = y.0;
        allocated = there_after y.0 y.1;
        at = sym y.2;
        is = same_some item (it y.0) (sym e ∙ (ap new (sym y.2) ∙ made_has y.0 y.1));
      })
      (λ (n : (B : Block) → Contains made B → place' B ≢ off).
      let away = made_away place' it made gone off n in ⊎_elim
      (λ (y : (B : Block) × Contains freed B × (place B ≡ off)). absurd (none_some item (sym (freed_gone place freed base off y.0 y.1 y.2) ∙ (sym away ∙ e))))
      (λ (m : (B : Block) → Contains freed B → place B ≢ off).
      let was : base off ≡ Some item = sym (freed_away place freed base off m) ∙ (sym away ∙ e) in
      let y = is_base.only off item was in
      let q = no_turn y.0 y.1 n m (sym y.2) in
      record {
        block = y.0;
        allocated = still y.0 y.1 q;
        at = y.2 ∙ sym (same_place y.0);
        is = same_some item (it y.0) (sym was ∙ (ap base y.2 ∙ is_base.stays y.0 y.1 q));
      })
      (find_at place freed off))
      (find_at place' made off)
    where
      none_some : (i : Item) → None ≡ Some i → ⊥
      none_some i q = cc

      no_turn : (B : Block) → is_allocated sh s B ≡ true → ((C : Block) → Contains made C → place' C ≢ off) → ((C : Block) → Contains freed C → place C ≢ off) → place B ≡ off
          → given (turn d B) ≡ false
      no_turn B a n m q = ⊎_elim
          (λ (z : given (turn d B) ≡ false). z)
          (λ z. ⊎_elim
          (λ (y : Makes d B). absurd (n B (lists.makes B (occupancy_of sh class s d changes.blocks changes.descriptors good B s a) y) (same_place B ∙ q)))
          (λ (y : Frees d B). absurd (m B (lists.frees B a y) q)) z)
          (option_cases (turn d B))

  pub edits : (off : ℕ) → (plain_pool pool').items off ≡ all_edited (edits_by sh class s d freed made) base off
  edits off = items_told sh class s' header pool' new after has stands off
      ∙ sym (ap (λ (i : Items). i off) (edits_append (map (λ (B : Block). freed_item (place B)) freed) (map (λ (B : Block). made_item (place' B) (it B)) made) base))

pub blocks_are_edits : BlocksAreEdits
blocks_are_edits sh class s d header pool pool' base freed made holds changes after lists is_base off =
    edits sh class s d header pool pool' base freed made holds changes after lists is_base off
