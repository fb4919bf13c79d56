-- A lane's entries as an image has them, of words, say of each place what they say of places: a word has no entry in its other use that gives the bit.
use Rattle.std.proofs.Common.{◌≡◌, ◌≢◌, ℕ, zero, suc, ◌+◌, ◌*◌, ◌<◌, ◌⊎◌, inl, inr, ⊎_elim, Bool, true, false, cond, eqb, All, List, [], ◌∷◌, ◌++◌, map, slice_get, IfSome, refl, sym, ap, ◌∙◌, subst, arith, eq-eqb, ne_eqb, Option, None, Some}
use Rattle.std.proofs.lemmas.Bool.{cases_eq, cases_Bool, both_ways}
use Rattle.std.proofs.lemmas.List.Elements.{All-head, All-tail}
use Rattle.std.proofs.lemmas.Option.{none-some, same_Some}
use Rattle.pm_record.specs.declared.redo.Op.{Op}
use Rattle.pm_record.specs.declared.redo.Op.TheVariants.{Set}
use Rattle.pm_layout.specs.declared.shape.Shape.{Shape}
use Rattle.pm_layout.specs.Areas.{word_of_generation}
use Rattle.pm_view.specs.Places.{Place, InRun, InHuge, Descr, RootWord, twin, same_place, word_of, is_place}
use Rattle.pm_view.specs.Claims.{is_run}
use Rattle.pm_view.specs.Entries.{Entry, Redo, given_bit, op_bit, first_of_two, latest, with_redo, redos}
use Rattle.pm_view.specs.Log.{Log}
use Rattle.pm_world.specs.States.{given, cell}
use Rattle.pm_world.specs.Logs.{IsEntryAt, EntryOf, AreWhole, ends_with}
use Rattle.pm_world.proofs.PlacesAt.{same_place_true}
use Rattle.pm_world.proofs.Basics.{none_of, same_place_refl}
use Rattle.pm_world.proofs.WordsApart.{one_cell, no_area}
use Rattle.pm_world.proofs.Frame.{some_first, fresh_given}
use Rattle.pm_world.proofs.RecoveredBits.{entry_bit, of_word, SetsWord, given_small}
use Rattle.pm_world.proofs.ImageLogs.{redo_at}

-- ---- the two uses of a word

abbrev kind : Place → ℕ
kind (InRun c w) = 0
kind (InHuge c w) = 1
kind (Descr c) = 2
kind RootWord = 3

use_cases : (p q : Place) → cell p ≡ cell q → (q ≡ p) ⊎ (q ≡ twin p)
use_cases (InRun c w) (InRun d v) e = inl (sym e)
use_cases (InRun c w) (InHuge d v) e = inr (ap twin (sym e))
use_cases (InRun c w) (Descr d) e = absurd (let z = ap kind e in omega arith)
use_cases (InRun c w) RootWord e = absurd (let z = ap kind e in omega arith)
use_cases (InHuge c w) (InRun d v) e = inr (sym e)
use_cases (InHuge c w) (InHuge d v) e = inl (ap twin (sym e))
use_cases (InHuge c w) (Descr d) e = absurd (let z = ap kind e in omega arith)
use_cases (InHuge c w) RootWord e = absurd (let z = ap kind e in omega arith)
use_cases (Descr c) (InRun d v) e = absurd (let z = ap kind e in omega arith)
use_cases (Descr c) (InHuge d v) e = absurd (let z = ap kind e in omega arith)
use_cases (Descr c) (Descr d) e = inl (sym e)
use_cases (Descr c) RootWord e = absurd (let z = ap kind e in omega arith)
use_cases RootWord (InRun d v) e = absurd (let z = ap kind e in omega arith)
use_cases RootWord (InHuge d v) e = absurd (let z = ap kind e in omega arith)
use_cases RootWord (Descr d) e = absurd (let z = ap kind e in omega arith)
use_cases RootWord RootWord e = inl refl

-- ---- a list of entries

pub all_get : {A : Type 0} → (P : A → Type 0) (xs : List A) (i : ℕ) (y : A) → All P xs → slice_get xs i ≡ Some y → P y
all_get P [] i y a e = absurd (none-some y e)
all_get P (z ∷ xs) zero y a e = subst P (same_Some z y e) (All-head P z xs a)
all_get P (z ∷ xs) (suc i) y a e = all_get P xs i y (All-tail P z xs a) e

pub last_or : {A : Type 0} → (front : List A) (f y : A) (i : ℕ) → slice_get (front ++ f ∷ []) i ≡ Some y → (slice_get front i ≡ Some y) ⊎ (y ≡ f)
last_or [] f y zero e = inr (sym (same_Some f y e))
last_or [] f y (suc i) e = absurd (none-some y e)
last_or (z ∷ front) f y zero e = inl e
last_or (z ∷ front) f y (suc i) e = last_or front f y i e

pub given_or : (c d : Option Bool) → given (first_of_two c d) ≡ false → (given c ≡ false) × (given d ≡ false)
given_or None d e = (refl, e)
given_or (Some y) d e = absurd (both_ways true e refl)

module _ (sh : Shape) (lane : ℕ) (ink : lane < sh.lanes) where
  -- an entry is of a place, or of the lane's generation
  abbrev pub Stands : Option Place → Entry → Type 0
  Stands None e = e.word ≡ word_of_generation sh lane
  Stands (Some q) e = (is_place sh q ≡ true) × (word_of sh q ≡ e.word) × EntryOf q e.op e.value

  abbrev pub AllStand : List Entry → Type 0
  AllStand [] = Unit {0}
  AllStand (e ∷ t) = Stands e.place e × AllStand t

  all_stand : (es : List Entry) → ((i : ℕ) (e : Entry) → slice_get es i ≡ Some e → Stands e.place e) → AllStand es
  all_stand [] h = tt
  all_stand (e ∷ t) h = (h 0 e refl, all_stand t (λ i d q. h (suc i) d q))

  -- those of a log are
  pub log_stands : (l : Log) → AreWhole sh lane l → ((i : ℕ) (e : Entry) → IsEntryAt l i e → IfSome e.place (λ q. (is_place sh q ≡ true) × (word_of sh q ≡ e.word) × EntryOf q e.op e.value)) → AllStand l.entries
  log_stands l whole pairs = all_stand l.entries (λ i e at. go e e.place refl i at (pairs i e at))
    where
      go : (e : Entry) (d : Option Place) → e.place ≡ d → (i : ℕ) → slice_get l.entries i ≡ Some e → IfSome d (λ q. (is_place sh q ≡ true) × (word_of sh q ≡ e.word) × EntryOf q e.op e.value) → Stands d e
      go e None is i at t = ⊎_elim (λ (q : slice_get whole.front i ≡ Some e). absurd (all_get (λ (y : Entry). y.place ≢ None) whole.front i e whole.placed q is))
          (λ (q : e ≡ ends_with sh lane l.generation). ap (λ (y : Entry). y.word) q) (last_or whole.front (ends_with sh lane l.generation) e i (sym (ap (λ es. slice_get es i) whole.are) ∙ at))
      go e (Some q) is i at t = t

  -- a place that is the entry's word
  pub of_place : (p q : Place) → is_place sh p ≡ true → is_place sh q ≡ true → word_of sh q ≡ word_of sh p → (q ≡ p) ⊎ (q ≡ twin p)
  of_place p q a b e = use_cases p q (one_cell sh p q a b (sym e))

  same_words : (u w : ℕ) → u ≢ w → eqb (8 * u) (8 * w) ≡ false
  same_words u w ne = ne_eqb (8 * u) (8 * w) (λ e. ne (omega arith))

  -- ONE ENTRY says of the place's word what it says of the place
  one_bit : (p : Place) (b : ℕ) (e : Entry) (rest : List Redo) (d : Option Place) → is_place sh p ≡ true → Stands d e → (twin p ≡ p) ⊎ (given (latest (with_redo d e rest) (twin p) b) ≡ false)
      → (x : Option Bool) → x ≡ latest rest p b → first_of_two x (cond (eqb (8 * e.word) (8 * word_of sh p)) (given_bit e.op e.value b) None) ≡ latest (with_redo d e rest) p b
  one_bit p b e rest None a s h x q = ap (λ t. first_of_two x (cond t (given_bit e.op e.value b) None)) (same_words e.word (word_of sh p) (λ z. let m : word_of sh p ≡ word_of_generation sh lane + 0 = omega arith in no_area sh p lane 0 ink (omega arith) a m)) ∙ (nothing x ∙ q)
    where
      nothing : (y : Option Bool) → first_of_two y None ≡ y
      nothing None = refl
      nothing (Some z) = refl
  one_bit p b e rest (Some r) a s h x q = ap (λ y. first_of_two y (cond (eqb (8 * e.word) (8 * word_of sh p)) (given_bit e.op e.value b) None)) q ∙ ap (first_of_two (latest rest p b)) (⊎_elim
      (λ (z : same_place r p ≡ true). let is = same_place_true r p z in ap (λ t. cond t (given_bit e.op e.value b) None) (eq-eqb (8 * e.word) (8 * word_of sh p) (ap (λ n. 8 * n) (sym s.1 ∙ ap (word_of sh) is)) ∙ sym z))
      (λ (z : same_place r p ≡ false). ⊎_elim (λ (w : e.word ≡ word_of sh p). twin_case z (of_place p r a s.0 (s.1 ∙ w)) h)
      (λ (w : e.word ≢ word_of sh p). ap (λ t. cond t (given_bit e.op e.value b) None) (same_words e.word (word_of sh p) w ∙ sym z)) (cases_eq e.word (word_of sh p))) (cases_Bool (same_place r p)))
    where
      both_none : (s t : Bool) (y : Option Bool) → y ≡ None → cond s y None ≡ cond t y None
      both_none true true y e = refl
      both_none true false y e = e
      both_none false true y e = sym e
      both_none false false y e = refl

      twin_case : same_place r p ≡ false → (r ≡ p) ⊎ (r ≡ twin p) → (twin p ≡ p) ⊎ (given (first_of_two (latest rest (twin p) b) (cond (same_place r (twin p)) (given_bit e.op e.value b) None)) ≡ false)
          → cond (eqb (8 * e.word) (8 * word_of sh p)) (given_bit e.op e.value b) None ≡ cond (same_place r p) (given_bit e.op e.value b) None
      twin_case z (inl is) h = absurd (both_ways (same_place r p) z (ap (λ y. same_place y p) is ∙ same_place_refl p))
      twin_case z (inr is) (inl single) = absurd (both_ways (same_place r p) z (ap (λ y. same_place y p) (is ∙ single) ∙ same_place_refl p))
      twin_case z (inr is) (inr none_) = both_none (eqb (8 * e.word) (8 * word_of sh p)) (same_place r p) (given_bit e.op e.value b)
          (none_of (given_bit e.op e.value b) (sym (ap (λ t. given (cond t (given_bit e.op e.value b) None)) (ap (λ y. same_place y (twin p)) is ∙ same_place_refl (twin p))) ∙ (given_or (latest rest (twin p) b) (cond (same_place r (twin p)) (given_bit e.op e.value b) None) none_).1))

  front_clear : (d : Option Place) (e : Entry) (rest : List Redo) (p : Place) (b : ℕ) → given (latest (with_redo d e rest) p b) ≡ false → given (latest rest p b) ≡ false
  front_clear None e rest p b h = h
  front_clear (Some r) e rest p b h = (given_or (latest rest p b) (cond (same_place r p) (given_bit e.op e.value b) None) h).0

  -- ALL OF THEM
  pub entry_bits : (es : List Entry) (p : Place) (b : ℕ) → AllStand es → is_place sh p ≡ true → (twin p ≡ p) ⊎ (given (latest (redos es) (twin p) b) ≡ false) → entry_bit (map redo_at es) (word_of sh p) b ≡ latest (redos es) p b
  entry_bits [] p b s a h = refl
  entry_bits (e ∷ t) p b s a h = one_bit p b e (redos t) e.place a s.0 h (entry_bit (map redo_at t) (word_of sh p) b)
      (entry_bits t p b s.1 a (⊎_elim (λ (q : twin p ≡ p). inl q) (λ (q : given (latest (with_redo e.place e (redos t)) (twin p) b) ≡ false). inr (front_clear e.place e (redos t) (twin p) b q)) h))

  -- entries of a descriptor's word set it
  pub sets_descriptor : (es : List Entry) (c : ℕ) → AllStand es → is_place sh (Descr c) ≡ true → SetsWord (word_of sh (Descr c)) (map redo_at es)
  sets_descriptor [] c s a = tt
  sets_descriptor (e ∷ t) c s a = (λ q. go e.place s.0 (let m : e.word ≡ word_of sh (Descr c) = omega arith in m), sets_descriptor t c s.1 a)
    where
      go : (d : Option Place) → Stands d e → e.word ≡ word_of sh (Descr c) → (e.op ≡ Set) × (is_run e.value ≡ false)
      go None st q = absurd (no_area sh (Descr c) lane 0 ink (omega arith) a (let m : word_of sh (Descr c) ≡ word_of_generation sh lane + 0 = omega arith in m))
      go (Some r) st q = let is : r ≡ Descr c = ⊎_elim (λ (z : r ≡ Descr c). z) (λ (z : r ≡ Descr c). z) (of_place (Descr c) r a st.0 (st.1 ∙ q)) in subst (λ y. EntryOf y e.op e.value) is st.2

  -- an entry of a place's word gives some bit of it, in one of its uses
  abbrev pub Enters : List Redo → ℕ → Type 0
  Enters rs w = (q : Place) × (b : ℕ) × (is_place sh q ≡ true) × (word_of sh q ≡ w) × (b < 64) × (given (latest rs q b) ≡ true)

  some_bit : (q : Place) (op : Op) (x : ℕ) → EntryOf q op x → (b : ℕ) × (b < 64) × (given (given_bit op x b) ≡ true)
  some_bit (InRun c w) op x t = t
  some_bit (InHuge c w) op x t = t
  some_bit (Descr c) op x t = (0, omega arith, ap given (given_small op x 0 (omega arith) ∙ ap (λ o. op_bit o x 0) t.0))
  some_bit RootWord op x t = t

  pub entered : (es : List Entry) (p : Place) → AllStand es → is_place sh p ≡ true → of_word (word_of sh p) (map redo_at es) ≢ [] → Enters (redos es) (word_of sh p)
  entered [] p s a ne = absurd (ne refl)
  entered (e ∷ t) p s a ne = ⊎_elim (λ (q : e.word ≡ word_of sh p). here e.place s.0 q)
      (λ (q : e.word ≢ word_of sh p). later e.place (entered t p s.1 a (λ z. ne (ap (λ y. cond y (redo_at e ∷ of_word (word_of sh p) (map redo_at t)) (of_word (word_of sh p) (map redo_at t))) (same_words e.word (word_of sh p) q) ∙ z)))) (cases_eq e.word (word_of sh p))
    where
      here : (d : Option Place) → Stands d e → e.word ≡ word_of sh p → Enters (with_redo d e (redos t)) (word_of sh p)
      here None st q = absurd (no_area sh p lane 0 ink (omega arith) a (let m : word_of sh p ≡ word_of_generation sh lane + 0 = omega arith in m))
      here (Some r) st q = let z = some_bit r e.op e.value st.2 in (r, z.0, st.0, st.1 ∙ q, z.1, fresh_given (latest (redos t) r z.0) (cond (same_place r r) (given_bit e.op e.value z.0) None) (ap (λ y. given (cond y (given_bit e.op e.value z.0) None)) (same_place_refl r) ∙ z.2))

      later : (d : Option Place) → Enters (redos t) (word_of sh p) → Enters (with_redo d e (redos t)) (word_of sh p)
      later None y = y
      later (Some r) y = (y.0, y.1, y.2, y.3, y.4, some_first (latest (redos t) y.0 y.1) (cond (same_place r y.0) (given_bit e.op e.value y.1) None) y.5)
