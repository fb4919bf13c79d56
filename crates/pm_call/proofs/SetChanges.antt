-- WHAT A LOG OF PUBLISHED WORDS CHANGES: each word that is set has the value that the last of its settings gives it, and no other bit is another.
use Rattle.std.proofs.Common.{◌≡◌, ◌≢◌, ℕ, zero, suc, ◌+◌, ◌-◌, ◌*◌, ◌/◌, ◌^◌, ◌<◌, nat_lt, Bool, true, false, Contains, List, [], ◌∷◌, ◌++◌, map, length, take, drop, slice_index_or, refl, sym, ap, ◌∙◌, subst, arith, Option, None, Some}
use Rattle.std.specs.List.{AllByRecursion}
use Rattle.std.proofs.lemmas.Bool.{and_from, and_parts, both_ways, cond-true, cond-false, lt-ltb, ltb-true}
use Rattle.std.proofs.lemmas.Option.{same_Some}
use Rattle.pm_layout.specs.declared.shape.Shape.{Shape}
use Rattle.pm_words.specs.Words.{bytes_of, patched, word_at}
use Rattle.pm_model.specs.Items.{number_bytes}
use Rattle.pm_model.specs.Pending.{SetWord}
use Rattle.pm_record.specs.declared.redo.Op.TheVariants as op
use Rattle.pm_view.specs.Entries.{Redo, delta, first_of_two, given_bit, latest, redos, turn, with_redo}
use Rattle.pm_view.specs.Places.{Place, InRun, Descr, RootWord, Block, Small, Big, Root, same_place, word_of}
use Rattle.pm_view.specs.View.{View}
use Rattle.pm_world.specs.LaneFields.{Standing}
use Rattle.pm_world.specs.Lawful.{place_in}
use Rattle.pm_world.specs.Logs.{ends_with}
use Rattle.pm_world.specs.Memory.{bit}
use Rattle.pm_world.specs.States.{given}
use Rattle.pm_world.proofs.Basics.{same_place_refl}
use Rattle.pm_world.proofs.PlacesAt.{same_place_true}
use Rattle.pm_crash.specs.Looked.{word_place}
use Rattle.pm_crash.specs.SimCommits.{IsSetIn, Setting, index_of, is_word_set, set_all, set_one}
use Rattle.pm_crash.specs.Writes.{written_word}
use Rattle.pm_crash.proofs.SimWrites.{not_bitmap, not_descriptor}
use Rattle.pm_redo.specs.Entries.{logged_entry}
use Rattle.pm_call.specs.At.{IsAt, MaySet, set_entry}
use Rattle.pm_call.proofs.SetEntries.{set_at}

-- ---- eight bytes of a number are the number
digits : (x : ℕ) (rest : List ℕ) → x < 2 ^ 64 → word_at (number_bytes x ++ rest) 0 ≡ x
unfolding word_at
digits x rest small = omega (arith, small)

whole_word : (place i x value : ℕ) → place ≡ 8 * i → value < 2 ^ 64 → written_word place (number_bytes value) i x ≡ value
unfolding patched
whole_word place i x value at small =
    (λ k. patched ((let e : place - 8 * i ≡ 0 = omega (arith, at) in e) k) (take (8 - (let e : place - 8 * i ≡ 0 = omega (arith, at) in e) k) (drop ((let e : 8 * i - place ≡ 0 = omega (arith, at) in e) k) (number_bytes value))) x)
    ∙ digits value (drop 8 (bytes_of (x ∷ []))) small

-- ---- the first of some
first_then : {A : Type 0} (a c d : Option A) → first_of_two (first_of_two a c) d ≡ first_of_two a (first_of_two c d)
first_then None c d = refl
first_then (Some x) c d = refl

pub first_alone : {A : Type 0} (o x y z : Option A) → given o ≡ true → first_of_two o x ≡ z → first_of_two o y ≡ z
first_alone None x y z e same = absurd (both_ways false refl e)
first_alone (Some a) x y z e same = same

first_given : {A : Type 0} (a c : Option A) → given a ≡ true → given (first_of_two a c) ≡ true
first_given None c e = absurd (both_ways false refl e)
first_given (Some x) c e = refl

second_given : {A : Type 0} (a c : Option A) → given c ≡ true → given (first_of_two a c) ≡ true
second_given None c e = e
second_given (Some x) c e = refl

module _ (s : Standing) (level : ℕ) (at : IsAt s level) where
  abbrev v : View
  v = s.view

  abbrev sh : Shape
  sh = s.view.fixed.shape

  -- ---- a word that is set, as its entry and as its setting
  abbrev pub place_set : (a : SetWord) → MaySet s a → Place
  place_set a may = word_place s.view (set_at s level at a may).block (8 + a.off / 8)

  abbrev pub set_redo : (a : SetWord) → MaySet s a → Redo
  set_redo a may = record { place = place_set a may; op = op.Set; value = a.value }

  abbrev pub setting : (a : SetWord) → MaySet s a → Setting
  setting a may = record { set = a; block = Some (set_at s level at a may).block }

  abbrev pub set_redos : (sets : List SetWord) → AllByRecursion (MaySet s) sets → List Redo
  set_redos [] all = []
  set_redos (a ∷ sets) all = set_redo a all.0 ∷ set_redos sets all.1

  abbrev pub settings_of : (sets : List SetWord) → AllByRecursion (MaySet s) sets → List Setting
  settings_of [] all = []
  settings_of (a ∷ sets) all = setting a all.0 ∷ settings_of sets all.1

  pub are_sets : (sets : List SetWord) (all : AllByRecursion (MaySet s) sets) → map (λ (p : Setting). p.set) (settings_of sets all) ≡ sets
  are_sets [] all = refl
  are_sets (a ∷ sets) all = ap (λ t. a ∷ t) (are_sets sets all.1)

  pub redos_are : (lane generation : ℕ) (sets : List SetWord) (all : AllByRecursion (MaySet s) sets) → redos (map (logged_entry s.view) (map set_entry sets) ++ ends_with s.view.fixed.shape lane generation ∷ []) ≡ set_redos sets all
  redos_are lane generation [] all = refl
  redos_are lane generation (a ∷ sets) all =
      ap (λ o. with_redo o (logged_entry s.view (set_entry a)) (redos (map (logged_entry s.view) (map set_entry sets) ++ ends_with s.view.fixed.shape lane generation ∷ []))) (set_at s level at a all.0).use_
      ∙ ap (λ t. set_redo a all.0 ∷ t) (redos_are lane generation sets all.1)

  -- the word of an entry is whole
  aligned : (a : SetWord) (may : MaySet s a) → a.id.off + a.off ≡ 8 * ((a.id.off + a.off) / 8)
  aligned a may = let h = (set_at s level at a may).at in let e = may.aligned in omega (arith, h, e)

  pub is_set_by : (a : SetWord) (may : MaySet s a) (i : ℕ) → (a.id.off + a.off) / 8 ≡ i → is_word_set i (setting a may) ≡ true
  is_set_by a may i e = let w = aligned a may in and_from (nat_lt (8 * i) (a.id.off + a.off + 8)) (nat_lt (a.id.off + a.off) (8 * i + 8)) (lt-ltb (8 * i) (a.id.off + a.off + 8) (omega (arith, e, w))) (lt-ltb (a.id.off + a.off) (8 * i + 8) (omega (arith, e, w)))

  pub set_by : (a : SetWord) (may : MaySet s a) (i : ℕ) → is_word_set i (setting a may) ≡ true → (a.id.off + a.off) / 8 ≡ i
  set_by a may i e =
      let t = and_parts (nat_lt (8 * i) (a.id.off + a.off + 8)) (nat_lt (a.id.off + a.off) (8 * i + 8)) e in
      let w = aligned a may in let lo = ltb-true (8 * i) (a.id.off + a.off + 8) t.0 in let hi = ltb-true (a.id.off + a.off) (8 * i + 8) t.1 in omega (arith, w, lo, hi)

  -- ---- one entry, of a word of this number
  one_word : (a : SetWord) (may : MaySet s a) (q : Place) (i b x : ℕ) → place_in s.view i ≡ Some q → word_of s.view.fixed.shape q ≡ i → b < 64
      → first_of_two (delta (set_redo a may) q b) (Some (bit x b)) ≡ Some (bit (set_one i (setting a may) x) b)
  one_word a may q i b x use_ number few = by (same_place (place_set a may) q) refl
    where
      by : (c : Bool) → same_place (place_set a may) q ≡ c → first_of_two (delta (set_redo a may) q b) (Some (bit x b)) ≡ Some (bit (set_one i (setting a may) x) b)
      by true e =
          let n : (a.id.off + a.off) / 8 ≡ i = sym (set_at s level at a may).number ∙ (ap (word_of s.view.fixed.shape) (same_place_true (place_set a may) q e) ∙ number) in
          let w = aligned a may in
          ap (λ o. first_of_two o (Some (bit x b))) (cond-true (same_place (place_set a may) q) (given_bit op.Set a.value b) None e ∙ cond-true (nat_lt b 64) _ None (lt-ltb b 64 few))
          ∙ ap (λ z. Some (bit z b)) (sym (cond-true (is_word_set i (setting a may)) (written_word (a.id.off + a.off) (number_bytes a.value) i x) x (is_set_by a may i n)
          ∙ whole_word (a.id.off + a.off) i x a.value (omega (arith, w, n)) may.small))
      by false e =
          let none : is_word_set i (setting a may) ≡ false = Rattle.std.proofs.lemmas.Bool.false_from_ne_true (is_word_set i (setting a may)) (λ y.
          let n = set_by a may i y in
          let same : place_set a may ≡ q = same_Some (place_set a may) q (sym (set_at s level at a may).use_ ∙ (ap (place_in s.view) n ∙ use_)) in
          both_ways (same_place (place_set a may) q) e (ap (λ p. same_place p q) same ∙ same_place_refl q)) in
          ap (λ o. first_of_two o (Some (bit x b))) (cond-false (same_place (place_set a may) q) (given_bit op.Set a.value b) None e)
          ∙ ap (λ z. Some (bit z b)) (sym (cond-false (is_word_set i (setting a may)) (written_word (a.id.off + a.off) (number_bytes a.value) i x) x none))

  -- and all of them
  pub all_words : (sets : List SetWord) (all : AllByRecursion (MaySet s) sets) (q : Place) (i b x : ℕ) → place_in s.view i ≡ Some q → word_of s.view.fixed.shape q ≡ i → b < 64
      → first_of_two (latest (set_redos sets all) q b) (Some (bit x b)) ≡ Some (bit (set_all i (settings_of sets all) x) b)
  unfolding set_all
  all_words [] all q i b x use_ number few = refl
  all_words (a ∷ sets) all q i b x use_ number few =
      first_then (latest (set_redos sets all.1) q b) (delta (set_redo a all.0) q b) (Some (bit x b))
      ∙ (ap (first_of_two (latest (set_redos sets all.1) q b)) (one_word a all.0 q i b x use_ number few)
      ∙ all_words sets all.1 q i b (set_one i (setting a all.0) x) use_ number few)

  -- ---- a setting among them
  pub record IsMember (sets : List SetWord) (all : AllByRecursion (MaySet s) sets) (y : Setting) : Type 0 where
    pub set : SetWord
    pub may : MaySet s set
    pub is : y ≡ setting set may
    pub gives : (b : ℕ) → b < 64 → given (latest (set_redos sets all) (place_set set may) b) ≡ true

  gives_itself : (a : SetWord) (may : MaySet s a) (b : ℕ) → b < 64 → given (delta (set_redo a may) (place_set a may) b) ≡ true
  gives_itself a may b few = ap given (cond-true (same_place (place_set a may) (place_set a may)) (given_bit op.Set a.value b) None (same_place_refl (place_set a may)) ∙ cond-true (nat_lt b 64) _ None (lt-ltb b 64 few))

  member_at : (sets : List SetWord) (all : AllByRecursion (MaySet s) sets) (k : ℕ) (d : Setting) → k < length (settings_of sets all) → IsMember sets all (slice_index_or (settings_of sets all) k d)
  member_at [] all k d low = absurd (omega (arith, low))
  member_at (a ∷ sets) all zero d low = record { set = a; may = all.0; is = refl; gives = λ b few. second_given (latest (set_redos sets all.1) (place_set a all.0) b) (delta (set_redo a all.0) (place_set a all.0) b) (gives_itself a all.0 b few) }
  member_at (a ∷ sets) all (suc k) d low = let m = member_at sets all.1 k d (omega (arith, low)) in
      record { set = m.set; may = m.may; is = m.is; gives = λ b few. first_given (latest (set_redos sets all.1) (place_set m.set m.may) b) (delta (set_redo a all.0) (place_set m.set m.may) b) (m.gives b few) }

  pub member : (sets : List SetWord) (all : AllByRecursion (MaySet s) sets) (y : Setting) → Contains (settings_of sets all) y → IsMember sets all y
  member sets all y c = subst (IsMember sets all) c.2 (member_at sets all c.0 y c.1)

  -- ---- a place that none of them is of
  abbrev pub spot_in : Option Block → ℕ → Place
  spot_in None k = RootWord
  spot_in (Some B) k = word_place s.view B k

  abbrev pub spot : Setting → Place
  spot y = spot_in y.block (8 + y.set.off / 8)

  pub none_at : (sets : List SetWord) (all : AllByRecursion (MaySet s) sets) (q : Place) (b : ℕ) → ((y : Setting) → Contains (settings_of sets all) y → spot y ≢ q) → latest (set_redos sets all) q b ≡ None
  none_at [] all q b far = refl
  none_at (a ∷ sets) all q b far =
      ap (λ o. first_of_two o (delta (set_redo a all.0) q b)) (none_at sets all.1 q b (λ y c. far y (suc c.0, (let l = c.1 in omega (arith, l)), c.2)))
      ∙ cond-false (same_place (place_set a all.0) q) (given_bit op.Set a.value b) None (Rattle.std.proofs.lemmas.Bool.false_from_ne_true (same_place (place_set a all.0) q) (λ e. far (setting a all.0) (0, omega arith, refl) (same_place_true (place_set a all.0) q e)))

  -- ---- no block is made or freed by them
  pub no_turn_of : (sets : List SetWord) (all : AllByRecursion (MaySet s) sets) (B : Block) → turn (latest (set_redos sets all)) B ≡ None
  no_turn_of sets all (Small c i) = none_at sets all (InRun c 0) i (λ y among e. let m = member sets all y among in not_bitmap s.view (set_at s level at m.set m.may).block c (8 + m.set.off / 8) (sym (sym (ap spot m.is) ∙ e)))
  no_turn_of sets all (Big f) = none_at sets all (Descr f) 1 (λ y among e. let m = member sets all y among in not_descriptor s.view (set_at s level at m.set m.may).block f (8 + m.set.off / 8) (sym (sym (ap spot m.is) ∙ e)))
  no_turn_of sets all Root = refl

  -- ---- where a setting's word is
  pub record IsLocated (sets : List SetWord) (all : AllByRecursion (MaySet s) sets) (B : Block) (i : ℕ) : Type 0 where
    pub set : SetWord
    pub may : MaySet s set
    pub block : B ≡ (set_at s level at set may).block
    pub index : index_of s.view B i ≡ 8 + set.off / 8
    pub number : (set.id.off + set.off) / 8 ≡ i
    pub gives : (b : ℕ) → b < 64 → given (latest (set_redos sets all) (place_set set may) b) ≡ true

  pub located : (sets : List SetWord) (all : AllByRecursion (MaySet s) sets) (B : Block) (i : ℕ) → IsSetIn (settings_of sets all) B i → IsLocated sets all B i
  located sets all B i is =
      let m = member sets all is.setting is.among in
      let number = set_by m.set m.may i (sym (ap (is_word_set i) m.is) ∙ is.covers) in
      let block : B ≡ (set_at s level at m.set m.may).block = sym (same_Some (set_at s level at m.set m.may).block B (sym (ap (λ (y : Setting). y.block) m.is) ∙ is.block)) in
      let h = (set_at s level at m.set m.may).at in let e = m.may.aligned in record {
        set = m.set;
        may = m.may;
        block = block;
        index = ap (λ C. index_of s.view C i) block ∙ omega (arith, h, e, number);
        number = number;
        gives = m.gives;
      }
