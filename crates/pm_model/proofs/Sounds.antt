-- Changes of items that leave a pool sound.
use Rattle.std.proofs.Common.{◌≡◌, ⊎_elim, ◌⊎◌, inl, inr, ℕ, List, [], ◌∷◌, length, Bool, true, false, cond, eqb, Option, Some, None, IsSome, IfSome, refl, sym, ◌∙◌, ap, subst}
use Rattle.std.specs.Option.{option_map, option_map_or}
use Rattle.std.proofs.lemmas.Bool.{cases_Bool, eq-eqb, eqb-true, false≢true}
use Rattle.pm_model.specs.Items.{Edit, Item, Items, all_edited, edited, freed_item, in_list, is_among, is_root, list_of, made_item, members_of, put_bytes, put_into, with_members}
use Rattle.pm_model.specs.Blocks.{covers, item_covers}
use Rattle.pm_model.specs.Refusals.{is_size}
use Rattle.pm_model.specs.Sound.{AreOnce, IsSound}
use Rattle.pm_model.proofs.Edits.{put_length}

abbrev pub length_in : Option Item → Option ℕ
length_in o = option_map (λ (i : Item). length i.bytes) o

abbrev pub members_in : Option Item → List ℕ
members_in o = option_map_or (λ (i : Item). i.members) o []

abbrev pub list_in : Option Item → Option ℕ
list_in o = option_map_or (λ (i : Item). i.list) o None

-- a change that a reading does not see, and one that gives it a value
pub same_under : {A : Type 0} (g : Option Item → A) (f : Item → Item)
    → ((i : Item) → g (Some (f i)) ≡ g (Some i)) → (b : Bool) (o : Option Item)
    → g (cond b (option_map f o) o) ≡ g o
same_under g f same true None = refl
same_under g f same true (Some i) = same i
same_under g f same false o = refl

set_under : {A : Type 0} (g : Option Item → A) (f : Item → Item) (v : A)
    → ((i : Item) → g (Some (f i)) ≡ v) → (b : Bool) (o : Option Item) → (b ≡ true → IsSome o)
    → g (cond b (option_map f o) o) ≡ cond b v (g o)
set_under g f v is true None some = absurd (false≢true (some refl))
set_under g f v is true (Some i) some = is i
set_under g f v is false o some = refl

-- ---- what follows from sizes alone

sizes_from : (items items' : Items) → ((x : ℕ) → length_in (items' x) ≡ length_in (items x))
    → ((x : ℕ) (i : Item) → items x ≡ Some i → is_size (length i.bytes) ≡ true)
    → (x : ℕ) (i : Item) → items' x ≡ Some i → is_size (length i.bytes) ≡ true
sizes_from items items' same sizes x i is =
    by (items x) refl (sym (same x) ∙ ap length_in is) where
      by : (o : Option Item) → items x ≡ o → length_in (items x) ≡ Some (length i.bytes)
          → is_size (length i.bytes) ≡ true
      by None at e = absurd
          (let bad : None ≡ Some (length i.bytes) = ap length_in (sym at) ∙ e in let no : ⊥ = cc in no)
      by (Some j) at e =
          let both : Some (length j.bytes) ≡ Some (length i.bytes) = ap length_in (sym at) ∙ e in
          let n : length j.bytes ≡ length i.bytes = cc in
          subst (λ (k : ℕ). is_size k ≡ true) n (sizes x j at)

as_length : (x l : ℕ) (o : Option Item)
    → item_covers x o l ≡ option_map_or (λ k. covers (record { off = x; size = k }) l)
    (length_in o) false
as_length x l None = refl
as_length x l (Some i) = refl

pub covers_same : (x l : ℕ) (o p : Option Item) → length_in o ≡ length_in p
    → item_covers x o l ≡ item_covers x p l
covers_same x l o p same =
    as_length x l o ∙ (ap
    (λ (n : Option ℕ). option_map_or
    (λ k. covers (record { off = x; size = k }) l) n false) same ∙ sym (as_length x l p))

pub some_same : (o p : Option Item) → length_in o ≡ length_in p → IsSome p → IsSome o
some_same (Some i) p same some = refl
some_same None (Some j) same some =
    absurd (let bad : None ≡ Some (length j.bytes) = same in let no : ⊥ = cc in no)
some_same None None same some = some

roots_from : (items items' : Items) → (root : Option ℕ)
    → ((x : ℕ) → IsSome (items x) → is_root root x ≡ true → IsSome (items' x))
    → IfSome root (λ off. IsSome (items off)) → IfSome root (λ off. IsSome (items' off))
roots_from items items' None from there = tt
roots_from items items' (Some off) from there = from off there (eq-eqb off off refl)

-- items that differ in bytes alone, and not in their number
pub alike_sound : (items items' : Items) (root : Option ℕ)
    → ((x : ℕ) → length_in (items' x) ≡ length_in (items x))
    → ((x : ℕ) → members_of items' x ≡ members_of items x)
    → ((x : ℕ) → list_of items' x ≡ list_of items x) → IsSound items root → IsSound items' root
alike_sound items items' root lengths members lists sound = record {
  sizes = sizes_from items items' lengths sound.sizes;
  apart = λ x y l a b. sound.apart x y l
      (sym (covers_same x l (items' x) (items x) (lengths x)) ∙ a)
      (sym (covers_same y l (items' y) (items y) (lengths y)) ∙ b);
  linked = λ head off m. lists off
      ∙ sound.linked head off (ap (λ (ms : List ℕ). is_among ms off) (sym (members head)) ∙ m);
  listed = λ head off e. ap (λ (ms : List ℕ). is_among ms off) (members head)
      ∙ sound.listed head off (sym (lists off) ∙ e);
  once = λ head. subst AreOnce (sym (members head)) (sound.once head);
  root_there = roots_from items items' root
      (λ x some is. some_same (items' x) (items x) (lengths x) some) sound.root_there;
}

pub put_sound : (off at : ℕ) (new : List ℕ) (items : Items) (root : Option ℕ)
    → IsSound items root → IsSound (edited (put_into off at new) items) root
put_sound off at new items root sound =
    let f : Item → Item = λ i. record i { bytes = put_bytes at new i.bytes } in
    alike_sound items (edited (put_into off at new) items) root
    (λ x. same_under length_in f (λ i. ap Some (put_length at new i.bytes)) (eqb off x) (items x))
    (λ x. same_under members_in f (λ i. refl) (eqb off x) (items x))
    (λ x. same_under list_in f (λ i. refl) (eqb off x) (items x)) sound

-- ---- an object that is freed, or comes to be

pub freed_sound : (off : ℕ) (items : Items) (root : Option ℕ) → list_of items off ≡ None
    → members_of items off ≡ [] → is_root root off ≡ false → IsSound items root
    → IsSound (edited (freed_item off) items) root
freed_sound off items root unlisted none kept sound = record {
  sizes = λ x i is. sound.sizes x i (was x i is);
  apart = λ x y l a b. sound.apart x y l (less x l a) (less y l b);
  linked = λ head o m. linked head o m (cases_Bool (eqb off head)) (cases_Bool (eqb off o));
  listed = λ head o e. listed head o e (cases_Bool (eqb off head)) (cases_Bool (eqb off o));
  once = λ head. ⊎_elim
      (λ (t : eqb off head ≡ true). subst AreOnce (sym (ap members_in (at_off head t))) tt)
      (λ (f : eqb off head ≡ false). subst AreOnce (sym (ap members_in (else head f)))
      (sound.once head)) (cases_Bool (eqb off head));
  root_there = roots_from items after root stays sound.root_there;
} where
  after : Items
  after = edited (freed_item off) items

  at_off : (x : ℕ) → eqb off x ≡ true → edited (freed_item off) items x ≡ None
  at_off x e = ap (λ (b : Bool). cond b None (items x)) e

  else : (x : ℕ) → eqb off x ≡ false → edited (freed_item off) items x ≡ items x
  else x e = ap (λ (b : Bool). cond b None (items x)) e

  was : (x : ℕ) (i : Item) → edited (freed_item off) items x ≡ Some i → items x ≡ Some i
  was x i is = ⊎_elim
      (λ (t : eqb off x ≡ true). absurd
      (let bad : None ≡ Some i = sym (at_off x t) ∙ is in let no : ⊥ = cc in no))
      (λ (f : eqb off x ≡ false). sym (else x f) ∙ is) (cases_Bool (eqb off x))

  less : (x l : ℕ) → item_covers x (edited (freed_item off) items x) l ≡ true
      → item_covers x (items x) l ≡ true
  less x l e = ⊎_elim
      (λ (t : eqb off x ≡ true). absurd
      (false≢true (ap (λ (o : Option Item). item_covers x o l) (sym (at_off x t)) ∙ e)))
      (λ (f : eqb off x ≡ false). ap (λ (o : Option Item). item_covers x o l) (sym (else x f))
      ∙ e) (cases_Bool (eqb off x))

  linked : (head o : ℕ) → is_among (members_of (edited (freed_item off) items) head) o ≡ true
      → (eqb off head ≡ true) ⊎ (eqb off head ≡ false) → (eqb off o ≡ true) ⊎ (eqb off o ≡ false)
      → list_of (edited (freed_item off) items) o ≡ Some head
  linked head o m (inl t) either = absurd
      (false≢true (ap (λ (p : Option Item). is_among (members_in p) o) (sym (at_off head t)) ∙ m))
  linked head o m (inr f) (inl t) =
      let l : list_of items o ≡ Some head = sound.linked head o
      (ap (λ (p : Option Item). is_among (members_in p) o) (sym (else head f)) ∙ m) in
      absurd (let bad : None ≡ Some head = sym unlisted
      ∙ (ap (list_of items) (eqb-true off o t) ∙ l) in let no : ⊥ = cc in no)
  linked head o m (inr f) (inr g) = ap list_in (else o g)
      ∙ sound.linked head o
      (ap (λ (p : Option Item). is_among (members_in p) o) (sym (else head f)) ∙ m)

  listed : (head o : ℕ) → list_of (edited (freed_item off) items) o ≡ Some head
      → (eqb off head ≡ true) ⊎ (eqb off head ≡ false) → (eqb off o ≡ true) ⊎ (eqb off o ≡ false)
      → is_among (members_of (edited (freed_item off) items) head) o ≡ true
  listed head o e either (inl t) = absurd
      (let bad : None ≡ Some head = ap list_in (sym (at_off o t)) ∙ e in let no : ⊥ = cc in no)
  listed head o e (inl t) (inr g) =
      let m : is_among (members_of items head) o ≡ true = sound.listed head o
      (ap list_in (sym (else o g)) ∙ e) in
      absurd (false≢true (ap (λ (ms : List ℕ). is_among ms o) (sym none)
      ∙ (ap (λ (h : ℕ). is_among (members_of items h) o) (eqb-true off head t) ∙ m)))
  listed head o e (inr f) (inr g) =
      ap (λ (p : Option Item). is_among (members_in p) o) (else head f)
      ∙ sound.listed head o (ap list_in (sym (else o g)) ∙ e)

  stays : (x : ℕ) → IsSome (items x) → is_root root x ≡ true
      → IsSome (edited (freed_item off) items x)
  stays x some is = ⊎_elim
      (λ (t : eqb off x ≡ true). absurd
      (false≢true (sym kept ∙ (ap (is_root root) (eqb-true off x t) ∙ is))))
      (λ (f : eqb off x ≡ false). subst (λ (o : Option Item). IsSome o) (sym (else x f)) some)
      (cases_Bool (eqb off x))

pub made_sound : (off : ℕ) (item : Item) (items : Items) (root : Option ℕ) → items off ≡ None
    → item.members ≡ [] → item.list ≡ None → is_size (length item.bytes) ≡ true
    → ((x l : ℕ) → covers (record { off = off; size = length item.bytes }) l ≡ true
    → item_covers x (items x) l ≡ false) → IsSound items root
    → IsSound (edited (made_item off item) items) root
made_sound off item items root empty alone unlisted size free sound = record {
  sizes = λ x i is. ⊎_elim
      (λ (t : eqb off x ≡ true). let both : Some item ≡ Some i = sym (at_off x t) ∙ is in
      let e : item ≡ i = cc in subst (λ (j : Item). is_size (length j.bytes) ≡ true) e size)
      (λ (f : eqb off x ≡ false). sound.sizes x i (sym (else x f) ∙ is)) (cases_Bool (eqb off x));
  apart = λ x y l a b. apart x y l a b (cases_Bool (eqb off x)) (cases_Bool (eqb off y));
  linked = λ head o m. linked head o m (cases_Bool (eqb off head)) (cases_Bool (eqb off o));
  listed = λ head o e. listed head o e (cases_Bool (eqb off head)) (cases_Bool (eqb off o));
  once = λ head. ⊎_elim
      (λ (t : eqb off head ≡ true). subst AreOnce (sym (ap members_in (at_off head t) ∙ alone)) tt)
      (λ (f : eqb off head ≡ false). subst AreOnce (sym (ap members_in (else head f)))
      (sound.once head)) (cases_Bool (eqb off head));
  root_there = roots_from items (edited (made_item off item) items) root
      (λ x some is. ⊎_elim (λ (t : eqb off x ≡ true). subst (λ (o : Option Item). IsSome o)
      (sym (at_off x t)) refl)
      (λ (f : eqb off x ≡ false). subst (λ (o : Option Item). IsSome o) (sym (else x f)) some)
      (cases_Bool (eqb off x))) sound.root_there;
} where
  at_off : (x : ℕ) → eqb off x ≡ true → edited (made_item off item) items x ≡ Some item
  at_off x e = ap (λ (b : Bool). cond b (Some item) (items x)) e

  else : (x : ℕ) → eqb off x ≡ false → edited (made_item off item) items x ≡ items x
  else x e = ap (λ (b : Bool). cond b (Some item) (items x)) e

  new : (x l : ℕ) → eqb off x ≡ true
      → item_covers x (edited (made_item off item) items x) l ≡ true
      → covers (record { off = off; size = length item.bytes }) l ≡ true
  new x l t a = ap (λ (y : ℕ). covers (record { off = y; size = length item.bytes }) l)
      (eqb-true off x t) ∙ (ap (λ (o : Option Item). item_covers x o l) (sym (at_off x t)) ∙ a)

  old : (x l : ℕ) → eqb off x ≡ false
      → item_covers x (edited (made_item off item) items x) l ≡ true
      → item_covers x (items x) l ≡ true
  old x l f a = ap (λ (o : Option Item). item_covers x o l) (sym (else x f)) ∙ a

  apart : (x y l : ℕ) → item_covers x (edited (made_item off item) items x) l ≡ true
      → item_covers y (edited (made_item off item) items y) l ≡ true
      → (eqb off x ≡ true) ⊎ (eqb off x ≡ false) → (eqb off y ≡ true) ⊎ (eqb off y ≡ false) → x ≡ y
  apart x y l a b (inl t) (inl u) = sym (eqb-true off x t) ∙ eqb-true off y u
  apart x y l a b (inl t) (inr g) = absurd
      (false≢true (sym (free y l (new x l t a)) ∙ old y l g b))
  apart x y l a b (inr f) (inl u) = absurd
      (false≢true (sym (free x l (new y l u b)) ∙ old x l f a))
  apart x y l a b (inr f) (inr g) = sound.apart x y l (old x l f a) (old y l g b)

  linked : (head o : ℕ)
      → is_among (members_of (edited (made_item off item) items) head) o ≡ true
      → (eqb off head ≡ true) ⊎ (eqb off head ≡ false) → (eqb off o ≡ true) ⊎ (eqb off o ≡ false)
      → list_of (edited (made_item off item) items) o ≡ Some head
  linked head o m (inl t) either =
      absurd (false≢true (ap (λ (ms : List ℕ). is_among ms o) (sym alone)
      ∙ (ap (λ (p : Option Item). is_among (members_in p) o) (sym (at_off head t)) ∙ m)))
  linked head o m (inr f) (inl t) =
      let l : list_of items o ≡ Some head = sound.linked head o
      (ap (λ (p : Option Item). is_among (members_in p) o) (sym (else head f)) ∙ m) in
      absurd (let bad : None ≡ Some head = sym (ap list_in empty)
      ∙ (ap (list_of items) (eqb-true off o t) ∙ l) in let no : ⊥ = cc in no)
  linked head o m (inr f) (inr g) = ap list_in (else o g)
      ∙ sound.linked head o
      (ap (λ (p : Option Item). is_among (members_in p) o) (sym (else head f)) ∙ m)

  listed : (head o : ℕ) → list_of (edited (made_item off item) items) o ≡ Some head
      → (eqb off head ≡ true) ⊎ (eqb off head ≡ false) → (eqb off o ≡ true) ⊎ (eqb off o ≡ false)
      → is_among (members_of (edited (made_item off item) items) head) o ≡ true
  listed head o e either (inl t) = absurd
      (let bad : None ≡ Some head = sym unlisted ∙ (ap list_in (sym (at_off o t)) ∙ e) in
      let no : ⊥ = cc in no)
  listed head o e (inl t) (inr g) =
      let m : is_among (members_of items head) o ≡ true = sound.listed head o
      (ap list_in (sym (else o g)) ∙ e) in
      absurd (false≢true (ap (λ (p : Option Item). is_among (members_in p) o) (sym empty)
      ∙ (ap (λ (h : ℕ). is_among (members_of items h) o) (eqb-true off head t) ∙ m)))
  listed head o e (inr f) (inr g) =
      ap (λ (p : Option Item). is_among (members_in p) o) (else head f)
      ∙ sound.listed head o (ap list_in (sym (else o g)) ∙ e)

-- ---- an object that comes into a list, or goes out of it

abbrev pub linked_in : ℕ → List ℕ → ℕ → Option ℕ → List Edit
linked_in head ms off list = with_members head ms ∷ in_list off list ∷ []

pub relinked_sound : (head off : ℕ) (ms : List ℕ) (joins : Bool) (items : Items)
    (root : Option ℕ) → IsSome (items head) → IsSome (items off)
    → list_of items off ≡ cond joins None (Some head)
    → ((x : ℕ) → is_among ms x ≡ cond (eqb off x) joins
    (is_among (members_of items head) x)) → AreOnce ms → IsSound items root
    → IsSound (all_edited (linked_in head ms off (cond joins (Some head) None)) items) root
unfolding all_edited
relinked_sound head off ms joins items root head_there off_there was among once sound = record {
  sizes = sizes_from items after lengths sound.sizes;
  apart = λ x y l a b. sound.apart x y l
      (sym (covers_same x l (after x) (items x) (lengths x)) ∙ a)
      (sym (covers_same y l (after y) (items y) (lengths y)) ∙ b);
  linked = λ h x m. linked h x m (cases_Bool (eqb head h)) (cases_Bool (eqb off x));
  listed = λ h x e. listed h x e (cases_Bool (eqb head h)) (cases_Bool (eqb off x));
  once = λ h. ⊎_elim (λ (t : eqb head h ≡ true). subst AreOnce (sym (members_here h t)) once)
      (λ (f : eqb head h ≡ false). subst AreOnce (sym (members_else h f)) (sound.once h))
      (cases_Bool (eqb head h));
  root_there = roots_from items after root
      (λ x some is. some_same (after x) (items x) (lengths x) some) sound.root_there;
} where
  new : Option ℕ
  new = cond joins (Some head) None

  set_members : Item → Item
  set_members i = record i { members = ms }

  set_list : Item → Item
  set_list i = record i { list = cond joins (Some head) None }

  between : ℕ → Option Item
  between x = cond (eqb head x) (option_map (λ (i : Item). record i { members = ms }) (items x))
      (items x)

  after : Items
  after x = cond (eqb off x)
      (option_map (λ (i : Item). record i { list = cond joins (Some head) None }) (between x))
      (between x)

  lengths : (x : ℕ) → length_in (after x) ≡ length_in (items x)
  lengths x = same_under length_in
      (λ (i : Item). record i { list = cond joins (Some head) None }) (λ i. refl) (eqb off x)
      (between x)
      ∙ same_under length_in (λ (i : Item). record i { members = ms }) (λ i. refl) (eqb head x)
      (items x)

  members_at : (x : ℕ) → members_in (after x) ≡ cond (eqb head x) ms (members_of items x)
  members_at x = same_under members_in
      (λ (i : Item). record i { list = cond joins (Some head) None }) (λ i. refl) (eqb off x)
      (between x)
      ∙ set_under members_in (λ (i : Item). record i { members = ms }) ms (λ i. refl)
      (eqb head x) (items x)
      (λ e. subst (λ (y : ℕ). IsSome (items y)) (eqb-true head x e) head_there)

  list_at : (x : ℕ)
      → list_in (after x) ≡ cond (eqb off x) (cond joins (Some head) None) (list_of items x)
  list_at x = set_under list_in (λ (i : Item). record i { list = cond joins (Some head) None })
      (cond joins (Some head) None) (λ i. refl) (eqb off x) (between x)
      (λ e. some_same (between x) (items x)
      (same_under length_in (λ (i : Item). record i { members = ms }) (λ i. refl)
      (eqb head x) (items x))
      (subst (λ (y : ℕ). IsSome (items y)) (eqb-true off x e) off_there))
      ∙ ap (λ (o : Option ℕ). cond (eqb off x) (cond joins (Some head) None) o)
      (same_under list_in (λ (i : Item). record i { members = ms }) (λ i. refl) (eqb head x)
      (items x))

  members_here : (h : ℕ) → eqb head h ≡ true → members_in (after h) ≡ ms
  members_here h t = members_at h ∙ ap (λ (b : Bool). cond b ms (members_of items h)) t

  members_else : (h : ℕ) → eqb head h ≡ false → members_in (after h) ≡ members_of items h
  members_else h f = members_at h ∙ ap (λ (b : Bool). cond b ms (members_of items h)) f

  list_here : (x : ℕ) → eqb off x ≡ true → list_in (after x) ≡ cond joins (Some head) None
  list_here x t = list_at x
      ∙ ap (λ (b : Bool). cond b (cond joins (Some head) None) (list_of items x)) t

  list_else : (x : ℕ) → eqb off x ≡ false → list_in (after x) ≡ list_of items x
  list_else x f = list_at x
      ∙ ap (λ (b : Bool). cond b (cond joins (Some head) None) (list_of items x)) f

  -- the object itself: it was in no other list
  joined : (j : Bool) → joins ≡ j → (h : ℕ) → eqb head h ≡ true → j ≡ true
      → cond j (Some head) None ≡ Some h
  joined true is h t e = ap Some (eqb-true head h t)
  joined false is h t e = absurd (false≢true e)

  other_list : (j : Bool) → list_of items off ≡ cond j None (Some head) → (h : ℕ)
      → eqb head h ≡ false → list_of items off ≡ Some h → ⊥
  other_list true is h f e = let bad : None ≡ Some h = sym is ∙ e in let no : ⊥ = cc in no
  other_list false is h f e =
      let both : Some head ≡ Some h = sym is ∙ e in let same : head ≡ h = cc in
      false≢true (sym f ∙ eq-eqb head h same)

  own_list : (j : Bool) → (h : ℕ) → cond j (Some head) None ≡ Some h → (j ≡ true) × (head ≡ h)
  own_list true h e = (refl, (let same : head ≡ h = cc in same))
  own_list false h e = absurd (let bad : None ≡ Some h = e in let no : ⊥ = cc in no)

  linked : (h x : ℕ) → is_among (members_in (after h)) x ≡ true → (eqb head h ≡ true)
      ⊎ (eqb head h ≡ false) → (eqb off x ≡ true) ⊎ (eqb off x ≡ false)
      → list_in (after x) ≡ Some h
  linked h x m (inl t) (inl u) =
      let j : joins ≡ true = ap (λ (b : Bool). cond b joins (is_among (members_of items head) x))
      (sym u) ∙ (sym (among x)
      ∙ (ap (λ (l : List ℕ). is_among l x) (sym (members_here h t)) ∙ m)) in
      list_here x u ∙ joined joins refl h t j
  linked h x m (inl t) (inr g) =
      let old : is_among (members_of items head) x ≡ true =
      ap (λ (b : Bool). cond b joins (is_among (members_of items head) x)) (sym g)
      ∙ (sym (among x) ∙ (ap (λ (l : List ℕ). is_among l x) (sym (members_here h t)) ∙ m)) in
      list_else x g ∙ (sound.linked head x old ∙ ap Some (eqb-true head h t))
  linked h x m (inr f) (inl u) =
      let l : list_of items x ≡ Some h = sound.linked h x
      (ap (λ (l : List ℕ). is_among l x) (sym (members_else h f)) ∙ m) in
      absurd (other_list joins was h f (ap (list_of items) (eqb-true off x u) ∙ l))
  linked h x m (inr f) (inr g) = list_else x g
      ∙ sound.linked h x (ap (λ (l : List ℕ). is_among l x) (sym (members_else h f)) ∙ m)

  listed : (h x : ℕ) → list_in (after x) ≡ Some h → (eqb head h ≡ true) ⊎ (eqb head h ≡ false)
      → (eqb off x ≡ true) ⊎ (eqb off x ≡ false) → is_among (members_in (after h)) x ≡ true
  listed h x e (inl t) (inl u) =
      let own : (joins ≡ true) × (head ≡ h) = own_list joins h (sym (list_here x u) ∙ e) in
      ap (λ (l : List ℕ). is_among l x) (members_here h t)
      ∙ (among x ∙ (ap (λ (b : Bool). cond b joins (is_among (members_of items head) x)) u
      ∙ own.0))
  listed h x e (inr f) (inl u) =
      let own : (joins ≡ true) × (head ≡ h) = own_list joins h (sym (list_here x u) ∙ e) in
      absurd (false≢true (sym f ∙ eq-eqb head h own.1))
  listed h x e (inl t) (inr g) =
      let old : is_among (members_of items head) x ≡ true = ap
      (λ (y : ℕ). is_among (members_of items y) x) (eqb-true head h t)
      ∙ sound.listed h x (sym (list_else x g) ∙ e) in
      ap (λ (l : List ℕ). is_among l x) (members_here h t)
      ∙ (among x ∙ (ap (λ (b : Bool). cond b joins (is_among (members_of items head) x)) g
      ∙ old))
  listed h x e (inr f) (inr g) = ap (λ (l : List ℕ). is_among l x) (members_else h f)
      ∙ sound.listed h x (sym (list_else x g) ∙ e)

-- what stands in a list, and which members a head has, after that
pub relinked_members : (head off : ℕ) (ms : List ℕ) (list : Option ℕ) (items : Items)
    → IsSome (items head) → (x : ℕ)
    → members_of (all_edited (linked_in head ms off list) items) x ≡ cond (eqb head x) ms
    (members_of items x)
unfolding all_edited
relinked_members head off ms list items there x =
    same_under members_in (λ (i : Item). record i { list = list }) (λ i. refl) (eqb off x)
    (cond (eqb head x) (option_map (λ (i : Item). record i { members = ms }) (items x))
    (items x))
    ∙ set_under members_in (λ (i : Item). record i { members = ms }) ms (λ i. refl) (eqb head x)
    (items x) (λ e. subst (λ (y : ℕ). IsSome (items y)) (eqb-true head x e) there)

pub relinked_lengths : (head off : ℕ) (ms : List ℕ) (list : Option ℕ) (items : Items) (x : ℕ)
    → length_in (all_edited (linked_in head ms off list) items x) ≡ length_in (items x)
unfolding all_edited
relinked_lengths head off ms list items x =
    same_under length_in (λ (i : Item). record i { list = list }) (λ i. refl) (eqb off x)
    (cond (eqb head x) (option_map (λ (i : Item). record i { members = ms }) (items x))
    (items x))
    ∙ same_under length_in (λ (i : Item). record i { members = ms }) (λ i. refl) (eqb head x)
    (items x)

pub relinked_list : (head off : ℕ) (ms : List ℕ) (list : Option ℕ) (items : Items)
    → IsSome (items off) → (x : ℕ)
    → list_of (all_edited (linked_in head ms off list) items) x ≡ cond (eqb off x) list
    (list_of items x)
unfolding all_edited
relinked_list head off ms list items there x =
    let between : Option Item = cond (eqb head x)
    (option_map (λ (i : Item). record i { members = ms }) (items x)) (items x) in
    set_under list_in (λ (i : Item). record i { list = list }) list (λ i. refl) (eqb off x) between
    (λ e. some_same between (items x)
    (same_under length_in (λ (i : Item). record i { members = ms }) (λ i. refl) (eqb head x)
    (items x)) (subst (λ (y : ℕ). IsSome (items y)) (eqb-true off x e) there))
    ∙ ap (λ (o : Option ℕ). cond (eqb off x) list o)
    (same_under list_in (λ (i : Item). record i { members = ms }) (λ i. refl) (eqb head x)
    (items x))

-- another root
pub with_root : (items : Items) (root other : Option ℕ)
    → IfSome other (λ off. IsSome (items off)) → IsSound items root → IsSound items other
with_root items root other there sound =
    record {
      sizes = sound.sizes;
      apart = sound.apart;
      linked = sound.linked;
      listed = sound.listed;
      once = sound.once;
      root_there = there;
    }
