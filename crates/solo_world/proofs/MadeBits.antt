-- What entries make of a word, bit by bit, and that an OR and an AND do to a word of 64 bits what their entries say.
use Rattle.std.proofs.Common.{◌≡◌, ◌≢◌, ℕ, ◌-◌, ◌^◌, ◌<◌, ◌≤◌, ⊎_elim, eqb, Bool, true, false, ◌&&◌, min, max, bit_and, bit_or, All, List, [], ◌∷◌, refl, sym, ap, ◌∙◌, arith, eq-eqb}
use Rattle.std.specs.Int.{bit_at, bit_not, w64}
use Rattle.std.proofs.lemmas.Bool.{cases_Bool, cases_eq, cases_lt, cond-true, cond-false, eqb-true, or_cases, or_parts, false≢true, false_from_ne_true}
use Rattle.std.proofs.lemmas.List.Elements.{All-head, All-tail}
use Rattle.std.proofs.lemmas.Nat.{and_le_r, or_lt}
use Rattle.std.proofs.lemmas.Nat.Bits.{bit_at_and, bit_at_or, bit_at_not, bit_at_ones, bit_at-zero, bit_at-lt, bit_at_above, same_from_bits}
use Rattle.pm_record.specs.declared.redo.Op.{Op}
use Rattle.pm_record.specs.declared.redo.Op.TheVariants.{Set, Or, And}
use Rattle.solo_view.specs.Bits.{with_bits}
use Rattle.solo_view.specs.Log.{Final}
use Rattle.solo_world.specs.Entries.{AgreeBeside, final_by, is_bit_entered, is_entered}
use Rattle.solo_world.specs.History.{made_final}

-- the entry's mask is a word, and no bit lies outside of it
pub record IsMasked (f : Final) : Type 0 where
  pub mask : f.mask < 2 ^ 64
  pub within : (i : ℕ) → i < 64 → bit_at f.mask i ≡ 0 → bit_at f.bits i ≡ 0

pub masked_by : (op : Op) (w x : ℕ) → (op ≢ Set → x < 2 ^ 64) → IsMasked (final_by op w x)
masked_by Set w x low = record { mask = omega arith; within = λ i small none. let one = bit_at_ones 64 i small in omega arith }
masked_by Or w x low = record { mask = low (λ sets. absurd cc); within = λ i small none. none }
masked_by And w x low = record { mask = omega arith; within = λ i small none. bit_at-zero i }

-- a bit of the mask is that of the bits, and any other stays
pub bit_at-with_bits : (mask bits x i : ℕ) → mask < 2 ^ 64 → i < 64 → bit_at (with_bits mask bits x) i ≡ max (min (bit_at x i) (1 - bit_at mask i)) (bit_at bits i)
bit_at-with_bits mask bits x i low small =
    let outer = bit_at_or (bit_and x (bit_not w64 mask)) bits i in
    let inner = bit_at_and x (bit_not w64 mask) i in
    let free = bit_at_not w64 mask i low small in
    omega arith

pub with_bits-lt : (mask bits x : ℕ) → bits < 2 ^ 64 → with_bits mask bits x < 2 ^ 64
with_bits-lt mask bits x low = or_lt 64 (bit_and x (bit_not w64 mask)) bits (let least = and_le_r x (bit_not w64 mask) in omega arith) low

-- an OR is what its entry makes of a word of 64 bits
pub or_makes : (bits found : ℕ) → bits < 2 ^ 64 → found < 2 ^ 64 → bit_or found bits ≡ with_bits bits bits found
or_makes bits found low small = same_from_bits (bit_or found bits) (with_bits bits bits found) (λ i.
    let outer = bit_at_or found bits i in
    ⊎_elim (λ (within : i < 64). let made = bit_at-with_bits bits bits found i low within in let one = bit_at-lt bits i in let two = bit_at-lt found i in omega arith)
    (λ (above : 64 ≤ i).
    let none = bit_at_above found 64 i small above in
    let made = bit_at_or (bit_and found (bit_not w64 bits)) bits i in
    let inner = bit_at_and found (bit_not w64 bits) i in
    omega arith)
    (cases_lt i 64))

-- and an AND is
pub and_makes : (bits found : ℕ) → bits < 2 ^ 64 → bit_and found bits ≡ with_bits (bit_not w64 bits) 0 found
and_makes bits found low = same_from_bits (bit_and found bits) (with_bits (bit_not w64 bits) 0 found) (λ i.
    let outer = bit_at_and found bits i in
    let zeroth = bit_at-zero i in
    let same : bit_not w64 (bit_not w64 bits) ≡ bits = omega arith in
    let made = bit_at_or (bit_and found (bit_not w64 (bit_not w64 bits))) 0 i in
    let inner = bit_at_and found (bit_not w64 (bit_not w64 bits)) i in
    let inside = ap (λ n. bit_at n i) same in
    omega arith)

-- words that agree beside the entry are made the same
pub with_bits-same : (mask bits x y : ℕ) → mask < 2 ^ 64 → ((i : ℕ) → i < 64 → bit_at mask i ≡ 0 → bit_at x i ≡ bit_at y i) → with_bits mask bits x ≡ with_bits mask bits y
with_bits-same mask bits x y low agree = same_from_bits (with_bits mask bits x) (with_bits mask bits y) (λ i.
    ⊎_elim (λ (within : i < 64).
    let one = bit_at-with_bits mask bits x i low within in
    let two = bit_at-with_bits mask bits y i low within in
    let bound = bit_at-lt mask i in
    ⊎_elim (λ (none : bit_at mask i ≡ 0). let same = agree i within none in omega arith)
    (λ (some : bit_at mask i ≢ 0). omega arith) (cases_eq (bit_at mask i) 0))
    (λ (above : 64 ≤ i).
    let none = bit_at_above (bit_not w64 mask) 64 i (omega arith) above in
    let one = bit_at_or (bit_and x (bit_not w64 mask)) bits i in
    let two = bit_at_or (bit_and y (bit_not w64 mask)) bits i in
    let one_inner = bit_at_and x (bit_not w64 mask) i in
    let two_inner = bit_at_and y (bit_not w64 mask) i in
    omega arith)
    (cases_lt i 64))

-- a bit that none of these is of is none of the first's, nor of the others'
beside_first : (f : Final) (entries : List Final) (w i : ℕ) → f.word ≡ w → is_bit_entered (f ∷ entries) w i ≡ false → bit_at f.mask i ≡ 0
beside_first f entries w i here beside =
    let t = or_parts (eqb f.word w && eqb (bit_at f.mask i) 1) (is_bit_entered entries w i) beside in
    let bound = bit_at-lt f.mask i in
    ⊎_elim (λ (none : bit_at f.mask i ≡ 0). none)
    (λ (some : bit_at f.mask i ≢ 0). let one : bit_at f.mask i ≡ 1 = omega arith in
    absurd (false≢true (sym t.0 ∙ ((λ j. eq-eqb f.word w here j && eqb (bit_at f.mask i) 1) ∙ eq-eqb (bit_at f.mask i) 1 one))))
    (cases_eq (bit_at f.mask i) 0)

beside_others : (f : Final) (entries : List Final) (w i : ℕ) → is_bit_entered (f ∷ entries) w i ≡ false → is_bit_entered entries w i ≡ false
beside_others f entries w i beside = (or_parts (eqb f.word w && eqb (bit_at f.mask i) 1) (is_bit_entered entries w i) beside).1

-- a bit that the others are not of, and the first is not of
beside_both : (f : Final) (entries : List Final) (w i : ℕ) → is_bit_entered entries w i ≡ false → (f.word ≡ w → bit_at f.mask i ≡ 0) → is_bit_entered (f ∷ entries) w i ≡ false
beside_both f entries w i others first =
    false_from_ne_true (is_bit_entered (f ∷ entries) w i) (λ e. ⊎_elim
    (λ (here : (eqb f.word w && eqb (bit_at f.mask i) 1) ≡ true).
    let t = parts (eqb f.word w) (eqb (bit_at f.mask i) 1) here in
    let none = first (eqb-true f.word w t.0) in let one = eqb-true (bit_at f.mask i) 1 t.1 in absurd (omega arith))
    (λ (later : is_bit_entered entries w i ≡ true). false≢true (sym others ∙ later))
    (or_cases (eqb f.word w && eqb (bit_at f.mask i) 1) (is_bit_entered entries w i) e)) where
      parts : (a b : Bool) → (a && b) ≡ true → (a ≡ true) × (b ≡ true)
      parts true b e = (refl, e)
      parts false b e = absurd (false≢true e)

-- what entries of the word make of it is said by the bits beside them
pub made_final-agree : (entries : List Final) (w x y : ℕ) → All IsMasked entries → is_entered entries w ≡ true → AgreeBeside entries w x y → made_final entries w x ≡ made_final entries w y
unfolding made_final
made_final-agree [] w x y masked e agree = absurd (false≢true e)
made_final-agree (f ∷ entries) w x y masked e agree =
    let first = All-head IsMasked f entries masked in
    let rest = All-tail IsMasked f entries masked in
    ⊎_elim
    (λ (here : eqb f.word w ≡ true).
    let of = eqb-true f.word w here in
    let x' : ℕ = with_bits f.mask f.bits x in
    let y' : ℕ = with_bits f.mask f.bits y in
    ap (made_final entries w) (cond-true _ _ _ here)
    ∙ (⊎_elim
    (λ (again : is_entered entries w ≡ true).
    made_final-agree entries w x' y' rest again (λ i small others.
    let one = bit_at-with_bits f.mask f.bits x i first.mask small in
    let two = bit_at-with_bits f.mask f.bits y i first.mask small in
    let bound = bit_at-lt f.mask i in
    ⊎_elim (λ (none : bit_at f.mask i ≡ 0). let same = agree i small (beside_both f entries w i others (λ here'. none)) in omega arith)
    (λ (some : bit_at f.mask i ≢ 0). omega arith) (cases_eq (bit_at f.mask i) 0)))
    (λ (never : is_entered entries w ≡ false).
    ap (made_final entries w) (with_bits-same f.mask f.bits x y first.mask (λ i small none. agree i small (beside_both f entries w i (unentered entries w i never) (λ here'. none)))))
    (cases_Bool (is_entered entries w))
    ∙ sym (ap (made_final entries w) (cond-true _ _ _ here))))
    (λ (other : eqb f.word w ≡ false).
    let later : is_entered entries w ≡ true = ⊎_elim (λ (h : eqb f.word w ≡ true). absurd (false≢true (sym other ∙ h))) (λ (l : is_entered entries w ≡ true). l) (or_cases (eqb f.word w) (is_entered entries w) e) in
    ap (made_final entries w) (cond-false _ _ _ other)
    ∙ (made_final-agree entries w x y rest later (λ i small others. agree i small (beside_both f entries w i others (λ here. absurd (false≢true (sym other ∙ eq-eqb f.word w here)))))
    ∙ sym (ap (made_final entries w) (cond-false _ _ _ other))))
    (cases_Bool (eqb f.word w)) where
      -- no entry is of the word, so none is of a bit of it
      unentered : (fs : List Final) (u i : ℕ) → is_entered fs u ≡ false → is_bit_entered fs u i ≡ false
      unentered [] u i none = refl
      unentered (g ∷ fs) u i none =
          let t = or_parts (eqb g.word u) (is_entered fs u) none in
          beside_both g fs u i (unentered fs u i t.1) (λ here. absurd (false≢true (sym t.0 ∙ eq-eqb g.word u here)))

-- and those bits stay
pub made_final-beside : (entries : List Final) (w x : ℕ) → All IsMasked entries → AgreeBeside entries w (made_final entries w x) x
unfolding made_final
made_final-beside [] w x masked i small beside = refl
made_final-beside (f ∷ entries) w x masked i small beside =
    let first = All-head IsMasked f entries masked in
    let rest = All-tail IsMasked f entries masked in
    let others = beside_others f entries w i beside in
    ⊎_elim
    (λ (here : eqb f.word w ≡ true).
    let none = beside_first f entries w i (eqb-true f.word w here) beside in
    let made = bit_at-with_bits f.mask f.bits x i first.mask small in
    let clear = first.within i small none in
    let bound = bit_at-lt x i in
    ap (λ n. bit_at (made_final entries w n) i) (cond-true _ _ _ here) ∙ (made_final-beside entries w (with_bits f.mask f.bits x) rest i small others ∙ (let e : bit_at (with_bits f.mask f.bits x) i ≡ bit_at x i = omega arith in e)))
    (λ (other : eqb f.word w ≡ false). ap (λ n. bit_at (made_final entries w n) i) (cond-false _ _ _ other) ∙ made_final-beside entries w x rest i small others)
    (cases_Bool (eqb f.word w))
