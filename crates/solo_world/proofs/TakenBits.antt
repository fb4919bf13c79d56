-- What is left of a word of which changes of some bits were taken back.
use Rattle.std.proofs.Common.{◌≡◌, ℕ, zero, suc, ◌^◌, ◌<◌, eqb, true, false, ◌&&◌, All, List, [], ◌∷◌, drop, refl, sym, ap, ◌∙◌, arith}
use Rattle.std.specs.Int.{bit_at}
use Rattle.std.proofs.lemmas.Bool.{or_parts}
use Rattle.std.proofs.lemmas.List.Elements.{All-head, All-tail, All-drop}
use Rattle.std.proofs.lemmas.Nat.Bits.{bit_at-lt}
use Rattle.solo_view.specs.declared.change.Change.{Change}
use Rattle.solo_view.specs.Log.{Final}
use Rattle.solo_view.specs.Survivors.{all_taken_back}
use Rattle.solo_view.specs.View.{View}
use Rattle.solo_world.specs.Entries.{AgreeBeside, applied_in, is_bit_entered, is_or_entered}
use Rattle.solo_world.specs.Fits.{IsOfEntries, RedoneWord}
use Rattle.solo_world.specs.Memory.{Memory}
use Rattle.solo_world.specs.Memory.Location.{PoolWord}
use Rattle.solo_world.proofs.MadeBits.{IsMasked, bit_at-with_bits, made_final-beside, with_bits-lt}

-- the change is of the word, and of bits of it that these entries are of
abbrev pub IsOfWord : List Final → ℕ → Change → Type 0
IsOfWord entries w c = (c.word ≡ w) × IsOfEntries entries c

-- the bits beside the entries are what they were
pub left_beside : (entries : List Final) (w x : ℕ) (lost : List Change) → All (IsOfWord entries w) lost → AgreeBeside entries w (all_taken_back lost x) x
left_beside entries w x [] all i small beside = refl
left_beside entries w x (c ∷ lost) all i small beside =
    let first = All-head (IsOfWord entries w) c lost all in
    let clear = first.1.bits i small (ap (λ u. is_bit_entered entries u i) first.0 ∙ beside) in
    let later = left_beside entries w x lost (All-tail (IsOfWord entries w) c lost all) i small beside in
    let made = bit_at-with_bits c.mask c.old (all_taken_back lost x) i first.1.mask small in
    let bound = bit_at-lt (all_taken_back lost x) i in
    let none = clear.0 in let before = clear.1 in
    omega arith

-- and a word of 64 bits is one still
pub left_small : (entries : List Final) (w x : ℕ) (lost : List Change) → is_or_entered entries w ≡ true → x < 2 ^ 64 → All (IsOfWord entries w) lost → all_taken_back lost x < 2 ^ 64
left_small entries w x [] part small all = small
left_small entries w x (c ∷ lost) part small all =
    let first = All-head (IsOfWord entries w) c lost all in
    with_bits-lt c.mask c.old (all_taken_back lost x) (first.1.small (ap (is_or_entered entries) first.0 ∙ part))

-- a bit that no entry is of is of none of the last ones
dropped_beside : (entries : List Final) (n w i : ℕ) → is_bit_entered entries w i ≡ false → is_bit_entered (drop n entries) w i ≡ false
dropped_beside entries zero w i beside = beside
dropped_beside [] (suc n) w i beside = beside
dropped_beside (f ∷ entries) (suc n) w i beside = dropped_beside entries n w i (or_parts (eqb f.word w && eqb (bit_at f.mask i) 1) (is_bit_entered entries w i) beside).1

-- a word that is redone has the bits beside the entries that it is to have
pub redone_beside : (mem : Memory) (settled : ℕ → ℕ) (v : View) (w : ℕ) → All IsMasked v.log.entries → RedoneWord mem settled v w → AgreeBeside v.log.entries w (mem (PoolWord w)) (settled w)
redone_beside mem settled v w masked redone i small beside =
    let n : ℕ = applied_in v.log.phase v in
    sym (made_final-beside (drop n v.log.entries) w (mem (PoolWord w)) (All-drop IsMasked n v.log.entries masked) i small (dropped_beside v.log.entries n w i beside)) ∙ ap (λ x. bit_at x i) redone.rest
