-- Entries applied to a word that has some of them already.
use Rattle.std.proofs.Common.{◌≡◌, ⊎_elim, ℕ, zero, suc, ◌^◌, ◌<◌, ◌≤◌, All, List, [], ◌∷◌, take, refl, sym, ◌∙◌, arith}
use Rattle.std.specs.Int.{bit_at}
use Rattle.std.specs.Int.Bits.{and_lt}
use Rattle.std.proofs.lemmas.Bool.{cases_lt}
use Rattle.std.proofs.lemmas.Nat.{or_lt}
use Rattle.std.proofs.lemmas.Nat.Bits.{bit_at-lt, same_from_bits_below}
use Rattle.std.proofs.lemmas.List.Elements.{All-head, All-tail}
use Rattle.pm_record.specs.Redo.{applied, outcome, redo_mask}
use Rattle.pm_record.specs.declared.redo.Op.{Op}
use Rattle.pm_record.specs.declared.redo.Op.TheVariants as op
use Rattle.pm_record.specs.declared.redo.Redo.{Redo}
use Rattle.pm_record.proofs.Applying.{inside, outside}
use Rattle.pm_image.specs.Logs.{all_applied}

abbrev pub IsWord : Redo → Type 0
IsWord e = e.value < 2 ^ 64

-- none of the entries has the bit
unfoldable pub IsClear : List Redo → ℕ → Type 0
IsClear [] i = Unit {0}
IsClear (e ∷ es) i = (bit_at (redo_mask e) i ≡ 0) × IsClear es i

-- the words agree on bits that no entry has
abbrev pub AgreeBeside : List Redo → ℕ → ℕ → Type 0
AgreeBeside es x y = (i : ℕ) → i < 64 → IsClear es i → bit_at x i ≡ bit_at y i

outcome_fits : (o : Op) (value word : ℕ) → value < 2 ^ 64 → word < 2 ^ 64 → outcome o value word < 2 ^ 64
outcome_fits op.Set value word fits whole = fits
outcome_fits op.Or value word fits whole = or_lt 64 word value whole fits
outcome_fits op.And value word fits whole = and_lt 64 word value whole fits

pub applied_fits : (es : List Redo) (x : ℕ) → All IsWord es → x < 2 ^ 64 → all_applied es x < 2 ^ 64
applied_fits [] x all fits = fits
applied_fits (e ∷ es) x all fits = applied_fits es (applied e x) (All-tail IsWord e es all) (outcome_fits e.op e.value x (All-head IsWord e es all) fits)

pub same_applied : (es : List Redo) (x y : ℕ) → All IsWord es → x < 2 ^ 64 → y < 2 ^ 64 → AgreeBeside es x y → all_applied es x ≡ all_applied es y
unfolding IsClear
same_applied [] x y all x_fits y_fits agree = same_from_bits_below 64 x y x_fits y_fits (λ i low. agree i low tt)
same_applied (e ∷ es) x y all x_fits y_fits agree =
    let fits : e.value < 2 ^ 64 = All-head IsWord e es all in
    same_applied es (applied e x) (applied e y) (All-tail IsWord e es all) (outcome_fits e.op e.value x fits x_fits) (outcome_fits e.op e.value y fits y_fits)
    (λ i low clear. ⊎_elim
    (λ (none : bit_at (redo_mask e) i < 1).
    let zero_is : bit_at (redo_mask e) i ≡ 0 = omega (arith, none) in
    outside e x (applied e x) refl fits i low zero_is ∙ agree i low (zero_is, clear) ∙ sym (outside e y (applied e y) refl fits i low zero_is))
    (λ (some : 1 ≤ bit_at (redo_mask e) i).
    let bound = bit_at-lt (redo_mask e) i in
    let one_is : bit_at (redo_mask e) i ≡ 1 = omega (arith, some, bound) in
    inside e x (applied e x) refl fits i low one_is ∙ sym (inside e y (applied e y) refl fits i low one_is))
    (cases_lt (bit_at (redo_mask e) i) 1))

-- the first of them change no bit that none of them has
first_beside : (es : List Redo) (k x i : ℕ) → All IsWord es → i < 64 → IsClear es i → bit_at (all_applied (take k es) x) i ≡ bit_at x i
unfolding IsClear
first_beside es zero x i all low clear = refl
first_beside [] (suc k) x i all low clear = refl
first_beside (e ∷ es) (suc k) x i all low clear =
    first_beside es k (applied e x) i (All-tail IsWord e es all) low clear.1 ∙ outside e x (applied e x) refl (All-head IsWord e es all) i low clear.0

All-take : (es : List Redo) (k : ℕ) → All IsWord es → All IsWord (take k es)
All-take es k all = Rattle.std.proofs.lemmas.List.Elements.All-take IsWord k es all

-- so they may be applied to a word that has the first of them
pub applied_again : (es : List Redo) (k x : ℕ) → All IsWord es → x < 2 ^ 64 → all_applied es (all_applied (take k es) x) ≡ all_applied es x
applied_again es k x all fits =
    same_applied es (all_applied (take k es) x) x all (applied_fits (take k es) x (All-take es k all) fits) fits (λ i low clear. first_beside es k x i all low clear)
