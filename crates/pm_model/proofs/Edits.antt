-- Changes of items, over items that are others where nothing is looked at.
use Rattle.std.proofs.Common.{◌≡◌, ⊎_elim, ◌⊎◌, ℕ, ◌+◌, ◌-◌, List, [], ◌∷◌, ◌++◌, length, take, drop, min, Bool, true, false, cond, eqb, Option, Some, None, refl, sym, ◌∙◌, ap, subst, arith, length-append, length-take, length-drop}
use Rattle.std.specs.Option.{option_map_or}
use Rattle.std.proofs.lemmas.Bool.{cases_Bool, eqb-true, false≢true, false_from_ne_true}
use Rattle.pm_model.specs.Items.{Edit, Item, Items, all_edited, edited, freed_item, in_list, put_bytes, put_into, with_members}
use Rattle.pm_model.specs.Blocks.{Block, blocks_at, covers, item_covers}
use Rattle.pm_model.proofs.Lists.{Each}

-- items that are the first where T says so, and the second elsewhere
abbrev pub mixed : (ℕ → Bool) → Items → Items → Items
mixed T there items x = cond (T x) (items x) (there x)

pub mixed_in : (T : ℕ → Bool) (there items : Items) (x : ℕ) → T x ≡ true
    → mixed T there items x ≡ items x
mixed_in T there items x t = ap (λ (b : Bool). cond b (items x) (there x)) t

pub mixed_out : (T : ℕ → Bool) (there items : Items) (x : ℕ) → T x ≡ false
    → mixed T there items x ≡ there x
mixed_out T there items x f = ap (λ (b : Bool). cond b (items x) (there x)) f

-- mixed with what is the same where T says so they are the others
pub mixed_same : (T : ℕ → Bool) (there items : Items)
    → ((x : ℕ) → T x ≡ true → there x ≡ items x) → mixed T there items ≡ there
mixed_same T there items same = λ i x. at x i where
  at : (x : ℕ) → mixed T there items x ≡ there x
  at x = ⊎_elim (λ (t : T x ≡ true). mixed_in T there items x t ∙ sym (same x t))
      (λ (f : T x ≡ false). mixed_out T there items x f) (cases_Bool (T x))

-- a test that tells two numbers apart
pub apart_by : (T : ℕ → Bool) (a b : ℕ) → T a ≡ true → T b ≡ false → eqb a b ≡ false
apart_by T a b t f =
    false_from_ne_true (eqb a b) (λ e. false≢true (sym f ∙ (ap T (sym (eqb-true a b e)) ∙ t)))

-- a change inside of T
pub edited_mixed : (T : ℕ → Bool) (there : Items) (e : Edit) (items : Items) → T e.off ≡ true
    → edited e (mixed T there items) ≡ mixed T there (edited e items)
edited_mixed T there e items inside = λ i x. at x i where
  at : (x : ℕ) → edited e (mixed T there items) x ≡ mixed T there (edited e items) x
  at x = ⊎_elim
      (λ (t : T x ≡ true). ap (λ (o : Option Item). cond (eqb e.off x) (e.change o) o)
      (mixed_in T there items x t) ∙ sym (mixed_in T there (edited e items) x t))
      (λ (f : T x ≡ false). ap
      (λ (b : Bool). cond b (e.change (mixed T there items x)) (mixed T there items x))
      (apart_by T e.off x inside f)
      ∙ (mixed_out T there items x f ∙ sym (mixed_out T there (edited e items) x f)))
      (cases_Bool (T x))

abbrev pub Inside : (ℕ → Bool) → List Edit → Type 0
Inside T edits = Each (λ (e : Edit). T e.off ≡ true) edits

pub all_edited_mixed : (T : ℕ → Bool) (there : Items) (edits : List Edit) (items : Items)
    → Inside T edits
    → all_edited edits (mixed T there items) ≡ mixed T there (all_edited edits items)
unfolding all_edited
all_edited_mixed T there [] items inside = refl
all_edited_mixed T there (e ∷ edits) items inside =
    ap (all_edited edits) (edited_mixed T there e items inside.0)
    ∙ all_edited_mixed T there edits (edited e items) inside.1

-- an item outside stays
pub edited_keeps : (W : ℕ → Bool) (e : Edit) (items : Items) (x : ℕ) → W x ≡ false
    → W e.off ≡ true → edited e items x ≡ items x
edited_keeps W e items x out inside =
    ap (λ (b : Bool). cond b (e.change (items x)) (items x)) (apart_by W e.off x inside out)

pub all_edited_keeps : (W : ℕ → Bool) (edits : List Edit) (items : Items) (x : ℕ) → W x ≡ false
    → Inside W edits → all_edited edits items x ≡ items x
unfolding all_edited
all_edited_keeps W [] items x out inside = refl
all_edited_keeps W (e ∷ edits) items x out inside = all_edited_keeps W edits
    (edited e items) x out inside.1 ∙ edited_keeps W e items x out inside.0

-- ---- lines

-- the change leaves which lines an item has
abbrev pub KeepsLines : Edit → Type 0
KeepsLines e = (l : ℕ) (o : Option Item) → item_covers e.off (e.change o) l ≡ item_covers e.off o l

-- or concerns lines of the blocks alone: none beside them is one of the item's at first, or after
-- it
abbrev pub InLines : (ℕ → Bool) → Items → Edit → Type 0
InLines B first e = (l : ℕ) → B l ≡ false → (item_covers e.off (first e.off) l ≡ false)
    × ((o : Option Item) → item_covers e.off (e.change o) l ≡ false)

abbrev pub FitsLines : (ℕ → Bool) → Items → Edit → Type 0
FitsLines B first e = KeepsLines e ⊎ InLines B first e

-- beside the blocks the items have the lines that they had at first
abbrev pub HasLines : (ℕ → Bool) → Items → Items → Type 0
HasLines B first items = (l x : ℕ) → B l ≡ false
    → item_covers x (items x) l ≡ item_covers x (first x) l

pub edited_lines : (B : ℕ → Bool) (first : Items) (e : Edit) (items : Items)
    → FitsLines B first e → HasLines B first items → HasLines B first (edited e items)
edited_lines B first e items fits has l x out = by (eqb e.off x) refl where
  here : e.off ≡ x → item_covers e.off (e.change (items e.off)) l ≡ item_covers e.off
      (first e.off) l
  here same = ⊎_elim (λ (k : KeepsLines e). k l (items e.off) ∙ has l e.off out)
      (λ (i : InLines B first e). (i l out).1 (items e.off) ∙ sym (i l out).0) fits

  by : (b : Bool) → eqb e.off x ≡ b
      → item_covers x (cond b (e.change (items x)) (items x)) l ≡ item_covers x (first x) l
  by true t = let same : e.off ≡ x = eqb-true e.off x t in
      subst (λ (y : ℕ). item_covers y (e.change (items y)) l ≡ item_covers y (first y) l) same
      (here same)
  by false f = has l x out

pub all_edited_lines : (B : ℕ → Bool) (first : Items) (edits : List Edit) (items : Items)
    → Each (FitsLines B first) edits → HasLines B first items
    → HasLines B first (all_edited edits items)
unfolding all_edited
all_edited_lines B first [] items fits has = has
all_edited_lines B first (e ∷ edits) items fits has = all_edited_lines B first edits
    (edited e items) fits.1 (edited_lines B first e items fits.0 has)

kept_length : (n a k d whole : ℕ) → a ≡ min whole n → d ≡ n - (whole + k) → min n (a + k + d) ≡ n
kept_length n a k d whole front back = omega arith

pub put_length : (at : ℕ) (new bytes : List ℕ) → length (put_bytes at new bytes) ≡ length bytes
put_length at new bytes =
    length-take (length bytes) (take at bytes ++ new ++ drop (at + length new) bytes)
    ∙ (ap (min (length bytes)) (length-append (take at bytes ++ new) (drop (at + length new) bytes)
    ∙ ap (λ (n : ℕ). n + length (drop (at + length new) bytes))
    (length-append (take at bytes) new))
    ∙ kept_length (length bytes) (length (take at bytes)) (length new)
    (length (drop (at + length new) bytes)) at (length-take at bytes)
    (length-drop (at + length new) bytes))

pub put_keeps_lines : (off at : ℕ) (new : List ℕ) → KeepsLines (put_into off at new)
put_keeps_lines off at new l None = refl
put_keeps_lines off at new l (Some i) =
    ap (λ (n : ℕ). covers (record { off = off; size = n }) l) (put_length at new i.bytes)

pub members_keep_lines : (off : ℕ) (members : List ℕ) → KeepsLines (with_members off members)
members_keep_lines off members l None = refl
members_keep_lines off members l (Some i) = refl

pub list_keeps_lines : (off : ℕ) (head : Option ℕ) → KeepsLines (in_list off head)
list_keeps_lines off head l None = refl
list_keeps_lines off head l (Some i) = refl

-- what is freed has the lines of its block alone
pub freed_in_lines : (B : ℕ → Bool) (first items : Items) (off : ℕ) → HasLines B first items
    → Each (λ (b : Block). (l : ℕ) → covers b l ≡ true → B l ≡ true) (blocks_at items off)
    → InLines B first (freed_item off)
freed_in_lines B first items off has blocks l out =
    (sym (has l off out) ∙ by (items off) blocks, λ o. refl) where
      by : (o : Option Item)
          → Each (λ (b : Block). (m : ℕ) → covers b m ≡ true → B m ≡ true)
          (option_map_or (λ (i : Item). record { off = off; size = length i.bytes } ∷ []) o [])
          → item_covers off o l ≡ false
      by None inside = refl
      by (Some i) inside = false_from_ne_true
          (covers (record { off = off; size = length i.bytes }) l)
          (λ c. false≢true (sym out ∙ inside.0 l c))
