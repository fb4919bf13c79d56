-- AN ENTRY IS STORED, or ORed or ANDed, in its word: what it makes of the bits of places.
use Rattle.std.specs.Prelude.{bit_and, bit_or, min, max}
use Rattle.std.specs.Int.{bit_at, bit_not, w64}
use Rattle.std.proofs.Common.{◌≡◌, ◌≢◌, ℕ, ◌^◌, ◌<◌, ◌≤◌, ◌⊎◌, inl, inr, ⊎_elim, nat_lt, Bool, true, false, cond, not, ◌==◌, ◌&&◌, refl, sym, ap, ◌∙◌, subst, arith, eq-eqb, ne_eqb, Option, None, Some}
use Rattle.std.proofs.lemmas.Bool.{cases_eq, cases_Bool, cases_lt, both_ways, eqb-true, ltb-true, lt-ltb, cond-true, cond-false, false_from_ne_true}
use Rattle.std.proofs.lemmas.Nat.Bits.{bit_at_and, bit_at_or, bit_at_not, bit_at-lt}
use Rattle.pm_layout.specs.declared.shape.Shape.{Shape}
use Rattle.pm_layout.specs.Chunks.{word_of_descriptor}
use Rattle.pm_record.specs.declared.redo.Op.{Op}
use Rattle.pm_record.specs.declared.redo.Op.TheVariants.{Set, Or, And}
use Rattle.pm_view.specs.Bits.{all_bits}
use Rattle.pm_view.specs.Claims.{is_run}
use Rattle.pm_view.specs.Entries.{Redo, given_bit, op_bit, delta}
use Rattle.pm_view.specs.Places.{Place, InRun, InHuge, Descr, RootWord, twin, same_place, word_of, is_place}
use Rattle.pm_world.specs.States.{given, over, cell, read, put1}
use Rattle.pm_world.specs.Logs.{EntryOf}
use Rattle.pm_world.specs.Memory.{bit, huge_told, bits_of}
use Rattle.pm_world.proofs.Basics.{and_false}
use Rattle.pm_world.proofs.Applies.{AppliedAt}
use Rattle.pm_world.proofs.Cells.{bits_else}
use Rattle.pm_world.proofs.PlacesAt.{same_place_true}
use Rattle.pm_world.proofs.Replays.{put1_here}
use Rattle.pm_world.proofs.StepDrain.{high_bit}
use Rattle.pm_world.proofs.WordsApart.{one_cell}

-- ---- words
abbrev pub made_word : Op → ℕ → ℕ → ℕ
made_word Set value old = value
made_word Or value old = bit_or old value
made_word And value old = bit_and old value

abbrev pub mask_of : Op → ℕ → ℕ
mask_of Set value = all_bits
mask_of Or value = value
mask_of And value = bit_not w64 value

two_bit : (x b : ℕ) → bit x b ≡ false → bit_at x b ≡ 0
two_bit x b e = let l = bit_at-lt x b in let z : bit_at x b ≢ 1 = λ q. both_ways (bit x b) e (eq-eqb (bit_at x b) 1 q) in omega arith

one_bit : (x b : ℕ) → bit x b ≡ true → bit_at x b ≡ 1
one_bit x b e = eqb-true (bit_at x b) 1 e

op_low : (op : Op) (value old b : ℕ) → bit (made_word op value old) b ≡ over (op_bit op value b) (bit old b)
op_low Set value old b = refl
op_low Or value old b = ap (λ z. z == 1) (bit_at_or old value b) ∙ go (bit value b) refl
  where
    go : (t : Bool) → bit value b ≡ t → (max (bit_at old b) (bit_at value b) == 1) ≡ over (cond t (Some true) None) (bit old b)
    go true e = let l = bit_at-lt old b in let z = one_bit value b e in eq-eqb (max (bit_at old b) (bit_at value b)) 1 (omega arith)
    go false e = let z = two_bit value b e in let q : max (bit_at old b) (bit_at value b) ≡ bit_at old b = omega arith in ap (λ y. y == 1) q
op_low And value old b = ap (λ z. z == 1) (bit_at_and old value b) ∙ go (bit value b) refl
  where
    go : (t : Bool) → bit value b ≡ t → (min (bit_at old b) (bit_at value b) == 1) ≡ over (cond t None (Some false)) (bit old b)
    go true e = let l = bit_at-lt old b in let z = one_bit value b e in let q : min (bit_at old b) (bit_at value b) ≡ bit_at old b = omega arith in ap (λ y. y == 1) q
    go false e = let z = two_bit value b e in ne_eqb (min (bit_at old b) (bit_at value b)) 1 (λ q. omega arith)

-- the word that an operation makes, bit by bit
pub op_bits : (op : Op) (value old b : ℕ) → made_word op value old < 2 ^ 64 → old < 2 ^ 64 → bit (made_word op value old) b ≡ over (given_bit op value b) (bit old b)
op_bits op value old b l m = ⊎_elim (λ (q : b < 64). op_low op value old b ∙ ap (λ d. over d (bit old b)) (sym (cond-true (nat_lt b 64) (op_bit op value b) None (lt-ltb b 64 q))))
    (λ (q : 64 ≤ b). high_bit (made_word op value old) b l q ∙ (sym (high_bit old b m q) ∙ ap (λ d. over d (bit old b)) (sym (none_above op value b q)))) (cases_lt b 64)
  where
    none_above : (op : Op) (value b : ℕ) → 64 ≤ b → given_bit op value b ≡ None
    none_above op value b q = cond-false (nat_lt b 64) (op_bit op value b) None (false_from_ne_true (nat_lt b 64) (λ z. let y = ltb-true b 64 z in omega arith))

-- the bits under its mask are given
pub mask_given : (op : Op) (value b : ℕ) → value < 2 ^ 64 → bit (mask_of op value) b ≡ true → given (given_bit op value b) ≡ true
mask_given op value b l e = ⊎_elim (λ (q : b < 64). ap given (cond-true (nat_lt b 64) (op_bit op value b) None (lt-ltb b 64 q)) ∙ low op e q) (λ (q : 64 ≤ b). absurd (both_ways (bit (mask_of op value) b) (high_bit (mask_of op value) b (small op) q) e)) (cases_lt b 64)
  where
    small : (op : Op) → mask_of op value < 2 ^ 64
    small Set = omega arith
    small Or = l
    small And = omega arith

    low : (op : Op) → bit (mask_of op value) b ≡ true → b < 64 → given (op_bit op value b) ≡ true
    low Set e q = refl
    low Or e q = ap given (cond-true (bit value b) (Some true) None e)
    low And e q = ap given (cond-false (bit value b) None (Some false) (false_from_ne_true (bit value b) (λ z. let y = bit_at_not w64 value b l q in let u = one_bit value b z in let v = one_bit (bit_not w64 value) b e in omega arith)))

-- ---- places in one word
abbrev pub kind : Place → ℕ
kind (InRun c w) = 0
kind (InHuge c w) = 1
kind (Descr c) = 2
kind RootWord = 3

abbrev pub OneWord : Place → Place → Type 0
OneWord p q = (p ≡ q) ⊎ ((p ≡ twin q) × (same_place q p ≡ false))

pub same_cell : (p q : Place) → cell p ≡ cell q → OneWord p q
same_cell (InRun c w) (InRun d v) e = inl e
same_cell (InRun c w) (InHuge d v) e = inr (e, refl)
same_cell (InRun c w) (Descr d) e = absurd (let z = ap kind e in omega arith)
same_cell (InRun c w) RootWord e = absurd (let z = ap kind e in omega arith)
same_cell (InHuge c w) (InRun d v) e = inr (ap twin e, refl)
same_cell (InHuge c w) (InHuge d v) e = inl (ap twin e)
same_cell (InHuge c w) (Descr d) e = absurd (let z = ap kind e in omega arith)
same_cell (InHuge c w) RootWord e = absurd (let z = ap kind e in omega arith)
same_cell (Descr c) (InRun d v) e = absurd (let z = ap kind e in omega arith)
same_cell (Descr c) (InHuge d v) e = absurd (let z = ap kind e in omega arith)
same_cell (Descr c) (Descr d) e = inl e
same_cell (Descr c) RootWord e = absurd (let z = ap kind e in omega arith)
same_cell RootWord (InRun d v) e = absurd (let z = ap kind e in omega arith)
same_cell RootWord (InHuge d v) e = absurd (let z = ap kind e in omega arith)
same_cell RootWord (Descr d) e = absurd (let z = ap kind e in omega arith)
same_cell RootWord RootWord e = inl e

abbrev pub is_descr : Place → Bool
is_descr (InRun c w) = false
is_descr (InHuge c w) = false
is_descr (Descr c) = true
is_descr RootWord = false

module _ (sh : Shape) (words : ℕ → ℕ) where
  pub read_in : (p : Place) (b : ℕ) → is_place sh p ≡ true → is_descr p ≡ false → read (bits_of sh words) p b ≡ bit (words (word_of sh p)) b
  read_in (InRun c w) b e d = ap (λ t. t && bit (words (word_of sh (InRun c w))) b) e
  read_in (InHuge c w) b e d = ap (λ t. t && bit (words (word_of sh (InHuge c w))) b) e
  read_in (Descr c) b e d = absurd (both_ways true d refl)
  read_in RootWord b e d = refl

  pub read_descr : (c b : ℕ) → is_place sh (Descr c) ≡ true → read (bits_of sh words) (Descr c) b ≡ huge_told (words (word_of_descriptor sh c)) b
  read_descr c b e = ap (λ t. t && huge_told (words (word_of_descriptor sh c)) b) e

  pub read_out : (p : Place) (b : ℕ) → is_place sh p ≡ false → read (bits_of sh words) p b ≡ false
  read_out (InRun c w) b e = ap (λ t. t && bit (words (word_of sh (InRun c w))) b) e
  read_out (InHuge c w) b e = ap (λ t. t && bit (words (word_of sh (InHuge c w))) b) e
  read_out (Descr c) b e = ap (λ t. t && huge_told (words (word_of_descriptor sh c)) b) e
  read_out RootWord b e = absurd (both_ways true e refl)

-- ---- THE ENTRY IS APPLIED to its word, which is this place
module _ (sh : Shape) (words : ℕ → ℕ) (w : ℕ) (e : Redo) (here : is_place sh e.place ≡ true) (word : word_of sh e.place ≡ w) (gives : EntryOf e.place e.op e.value) (small : made_word e.op e.value (words w) < 2 ^ 64) (was : words w < 2 ^ 64) where
  abbrev pub new_words : ℕ → ℕ
  new_words = put1 words w (made_word e.op e.value (words w))

  pub one_word : (p : Place) → is_place sh p ≡ true → word_of sh p ≡ w → OneWord p e.place
  one_word p a q = same_cell p e.place (one_cell sh p e.place a here (q ∙ sym word))

  pub word_now : (p : Place) → word_of sh p ≡ w → new_words (word_of sh p) ≡ made_word e.op e.value (words w)
  word_now p q = ap new_words q ∙ put1_here words w (made_word e.op e.value (words w))

  pub read_else : (p : Place) (b : ℕ) → word_of sh p ≢ w → read (bits_of sh new_words) p b ≡ read (bits_of sh words) p b
  read_else p b ne = bits_else sh words w (made_word e.op e.value (words w)) p b ne

  value_at : (p : Place) (b : ℕ) → is_place sh p ≡ true → word_of sh p ≡ w → read (bits_of sh new_words) p b ≡ over (given_bit e.op e.value b) (read (bits_of sh words) p b)
  value_at p b a q = go p (is_descr p) refl a q
    where
      plain : (p : Place) → is_place sh p ≡ true → word_of sh p ≡ w → is_descr p ≡ false → read (bits_of sh new_words) p b ≡ over (given_bit e.op e.value b) (read (bits_of sh words) p b)
      plain p a q d = read_in sh new_words p b a d ∙ (ap (λ y. bit y b) (word_now p q) ∙ (op_bits e.op e.value (words w) b small was ∙ ap (over (given_bit e.op e.value b)) (ap (λ i. bit (words i) b) (sym q) ∙ sym (read_in sh words p b a d))))

      descr : (c : ℕ) → is_place sh (Descr c) ≡ true → word_of sh (Descr c) ≡ w → (e.op ≡ Set) × (is_run e.value ≡ false) → read (bits_of sh new_words) (Descr c) b ≡ over (given_bit e.op e.value b) (read (bits_of sh words) (Descr c) b)
      descr c a q s = let made : made_word e.op e.value (words w) ≡ e.value = ap (λ o. made_word o e.value (words w)) s.0 in
          let now : read (bits_of sh new_words) (Descr c) b ≡ bit e.value b = read_descr sh new_words c b a ∙ (ap (λ y. huge_told y b) (word_now (Descr c) q ∙ made) ∙ ap (λ t. not t && bit e.value b) s.1) in
          now ∙ ⊎_elim (λ (l : b < 64). ap (λ d. over d (read (bits_of sh words) (Descr c) b)) (sym (ap (λ o. given_bit o e.value b) s.0 ∙ cond-true (nat_lt b 64) (Some (bit e.value b)) None (lt-ltb b 64 l))))
          (λ (l : 64 ≤ b). high_bit e.value b (subst (λ y. y < 2 ^ 64) made small) l ∙ (sym (read_descr sh words c b a ∙ (ap (λ t. not (is_run (words (word_of_descriptor sh c))) && t) (high_bit (words (word_of_descriptor sh c)) b (subst (λ i. words i < 2 ^ 64) (sym q) was) l) ∙ and_false (not (is_run (words (word_of_descriptor sh c))))))
          ∙ ap (λ d. over d (read (bits_of sh words) (Descr c) b)) (sym (cond-false (nat_lt b 64) (op_bit e.op e.value b) None (false_from_ne_true (nat_lt b 64) (λ z. let y = ltb-true b 64 z in omega arith)))))) (cases_lt b 64)

      go : (p : Place) (t : Bool) → is_descr p ≡ t → is_place sh p ≡ true → word_of sh p ≡ w → read (bits_of sh new_words) p b ≡ over (given_bit e.op e.value b) (read (bits_of sh words) p b)
      go (InRun c u) t d a q = plain (InRun c u) a q refl
      go (InHuge c u) t d a q = plain (InHuge c u) a q refl
      go (Descr c) t d a q = descr c a q (sets e.place gives (one_word (Descr c) a q))
        where
          sets : (r : Place) → EntryOf r e.op e.value → OneWord (Descr c) r → (e.op ≡ Set) × (is_run e.value ≡ false)
          sets (InRun d v) s o = ⊎_elim (λ (z : Descr c ≡ InRun d v). absurd (let y = ap kind z in omega arith)) (λ (z : (Descr c ≡ InHuge d v) × (same_place (InRun d v) (Descr c) ≡ false)). absurd (let y = ap kind z.0 in omega arith)) o
          sets (InHuge d v) s o = ⊎_elim (λ (z : Descr c ≡ InHuge d v). absurd (let y = ap kind z in omega arith)) (λ (z : (Descr c ≡ InRun d v) × (same_place (InHuge d v) (Descr c) ≡ false)). absurd (let y = ap kind z.0 in omega arith)) o
          sets (Descr d) s o = s
          sets RootWord s o = ⊎_elim (λ (z : Descr c ≡ RootWord). absurd (let y = ap kind z in omega arith)) (λ (z : (Descr c ≡ RootWord) × (same_place RootWord (Descr c) ≡ false)). absurd (let y = ap kind z.0 in omega arith)) o
      go RootWord t d a q = plain RootWord a q refl

  delta_else : (p : Place) (b : ℕ) → (e.place ≡ p → ⊥) → delta e p b ≡ None
  delta_else p b ne = cond-false (same_place e.place p) (given_bit e.op e.value b) None (false_from_ne_true (same_place e.place p) (λ q. ne (same_place_true e.place p q)))

  delta_none : (p : Place) (b : ℕ) → given_bit e.op e.value b ≡ None → delta e p b ≡ None
  delta_none p b n = go (same_place e.place p) n
    where
      go : (t : Bool) → given_bit e.op e.value b ≡ None → cond t (given_bit e.op e.value b) None ≡ None
      go true n = n
      go false n = refl

  -- WHAT IT MAKES OF EACH BIT
  pub applied_at : (p : Place) (b : ℕ) → AppliedAt (read (bits_of sh words) p b) (read (bits_of sh new_words) p b) e p b
  applied_at p b = ⊎_elim (λ (a : is_place sh p ≡ true). ⊎_elim (λ (q : word_of sh p ≡ w). at a q (given_bit e.op e.value b) refl) (λ (ne : word_of sh p ≢ w). inl (read_else p b ne, delta_else p b (λ z. ne (ap (word_of sh) (sym z) ∙ word)))) (cases_eq (word_of sh p) w))
      (λ (a : is_place sh p ≡ false). inl (read_out sh new_words p b a ∙ sym (read_out sh words p b a), delta_else p b (λ z. both_ways (is_place sh p) a (ap (is_place sh) (sym z) ∙ here)))) (cases_Bool (is_place sh p))
    where
      at : is_place sh p ≡ true → word_of sh p ≡ w → (d : Option Bool) → given_bit e.op e.value b ≡ d → AppliedAt (read (bits_of sh words) p b) (read (bits_of sh new_words) p b) e p b
      at a q None n = inl (value_at p b a q ∙ ap (λ d. over d (read (bits_of sh words) p b)) n, delta_none p b n)
      at a q (Some y) n = ⊎_elim (λ (z : p ≡ e.place). inr (inl (y, n, value_at p b a q ∙ ap (λ d. over d (read (bits_of sh words) p b)) n, z))) (λ (z : (p ≡ twin e.place) × (same_place e.place p ≡ false)). inr (inr (ap given n, z.0, z.1))) (one_word p a q)
