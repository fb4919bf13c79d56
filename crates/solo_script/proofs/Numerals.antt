-- What std's `parse` gives of a numeral.
use Rattle.std.proofs.Common.{◌≡◌, ℕ, ◌^◌, ◌<◌, ◌&&◌, Bool, true, false, cond, ltb, List, [], ◌∷◌, length, nat_le, Some, None, Result, Ok, Err, refl, sym, ◌∙◌, ap, rules}
use Rattle.std.proofs.lemmas.Bool.{false≢true, lt-ltb, ltb-true}
use Rattle.std.proofs.lemmas.Str.Parse.{IsNumeralModel, numerals_by_value, parse_digits}
use Rattle.std.specs.Char.{is_ascii_digit}
use Rattle.std.specs.List.{list_all}
use Rattle.std.specs.Result.{result_ok, OkIff}
use Rattle.std.specs.Str.{all_ascii_digits}
use Rattle.std.specs.Str.Parse.{digits_value, ParsesUnsigned}
use Rattle.solo_script.specs.Numbers.{is_numeral, number_of}

pub list_all-digits : (text : List ℕ) → list_all is_ascii_digit text ≡ all_ascii_digits text
list_all-digits [] = refl
list_all-digits (c ∷ cs) = ap (λ (b : Bool). is_ascii_digit c && b) (list_all-digits cs)

and_parts : (s t : Bool) → (s && t) ≡ true → (s ≡ true) × (t ≡ true)
and_parts true t h = (refl, h)
and_parts false t h = absurd (false≢true h)

numerals : IsNumeralModel (λ ds. all_ascii_digits ds ≡ true) (digits_value 10)
numerals = numerals_by_value _ (search rules)

-- a text that is no numeral writes no number
pub number_of-not : (text : List ℕ) → is_numeral text ≡ false → None ≡ number_of text
unfolding number_of
number_of-not text other = ap (λ (b : Bool). cond (b && ltb (digits_value 10 text) (2 ^ 64)) (Some (digits_value 10 text)) None) (sym other)

read : {E : Type 0} (r : Result ℕ E) (b : Bool) (n : ℕ) → OkIff r (n < 2 ^ 64) n → b ≡ ltb n (2 ^ 64) → result_ok r ≡ cond b (Some n) None
read (Ok x) b n fits test = ap Some fits.1 ∙ ap (λ (t : Bool). cond t (Some n) None) (sym (test ∙ lt-ltb n (2 ^ 64) fits.0))
read (Err e) true n large test = absurd (large (ltb-true n (2 ^ 64) (sym test)))
read (Err e) false n large test = refl

small : {E : Type 0} (r : Result ℕ E) (n : ℕ) (text : List ℕ) → 0 < length text → OkIff r ((0 < length text) × (n < 2 ^ 64)) n → OkIff r (n < 2 ^ 64) n
small (Ok x) n text some fits = (fits.0.1, fits.1)
small (Err e) n text some large = λ h. large (some, h)

-- what `parse` gives of a numeral is the number that it writes
pub number_of-parsed : {E : Type 0} (text : List ℕ) (r : Result ℕ E) → ParsesUnsigned 64 10 text r → is_numeral text ≡ true → result_ok r ≡ number_of text
unfolding number_of
number_of-parsed text r parsed numeral =
    let value : ℕ = digits_value 10 text in
    let digits = (and_parts (ltb 0 (length text) && nat_le (length text) 20) (all_ascii_digits text) numeral) in
    let some : 0 < length text = ltb-true 0 (length text) (and_parts (ltb 0 (length text)) (nat_le (length text) 20) digits.0).0 in
    read r (ltb value (2 ^ 64)) value (small r value text some (parse_digits numerals 64 text r parsed digits.1)) refl
    ∙ ap (λ (b : Bool). cond (b && ltb value (2 ^ 64)) (Some value) None) (sym numeral)
