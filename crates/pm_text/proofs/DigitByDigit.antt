-- Digits appended one after the other: a number's in decimal, and two hexadecimal ones for each byte.
use Rattle.std.proofs.Common.{◌≡◌, ℕ, ◌+◌, ◌/◌, ◌%◌, ◌^◌, ◌<◌, ◌≤◌, List, [], ◌∷◌, ◌++◌, length, take, get_or, sym, ◌∙◌, ap, arith, append_assoc, append-nil}
use Rattle.std.specs.Fmt.{decimal}
use Rattle.std.proofs.lemmas.Fmt.{decimal_digit, decimal_step}
use Rattle.std.proofs.lemmas.List.{take_more}
use Rattle.std.proofs.lemmas.Grind.{flat_map-append}
use Rattle.pm_text.specs.Dump.{hex_digit, hex_of}

-- a number of one digit
pub one_digit : (text front after : List ℕ) (n digit : ℕ) → n < 10 → front ≡ text → digit ≡ 48 + n % 10 → after ≡ front ++ digit ∷ [] → after ≡ text ++ decimal n
one_digit text front after n digit small front_is is appended =
    let same : digit ≡ 48 + n = omega arith in
    appended ∙ ap (λ (d : ℕ). front ++ d ∷ []) same ∙ ap (λ (xs : List ℕ). xs ++ (48 + n) ∷ []) front_is ∙ ap (λ (ds : List ℕ). text ++ ds) (sym (decimal_digit n small))

-- the last digit behind those of the front
pub last_digit : (text front after : List ℕ) (n digit : ℕ) → 10 ≤ n → n < 2 ^ 64 → front ≡ text ++ decimal (n / 10) → digit ≡ 48 + n % 10 → after ≡ front ++ digit ∷ [] → after ≡ text ++ decimal n
last_digit text front after n digit large fits front_is is appended =
    appended ∙ ap (λ (d : ℕ). front ++ d ∷ []) is ∙ ap (λ (xs : List ℕ). xs ++ (48 + n % 10) ∷ []) front_is
    ∙ append_assoc text (decimal (n / 10)) ((48 + n % 10) ∷ []) ∙ ap (λ (ds : List ℕ). text ++ ds) (sym (decimal_step n large fits))

-- no bytes
pub hex_of_none : (text : List ℕ) → text ≡ text ++ hex_of []
unfolding hex_of
hex_of_none text = sym (append-nil text)

-- one byte more
pub hex_of_more : (text front after bytes : List ℕ) (i high low : ℕ) → i < length bytes → front ≡ text ++ hex_of (take i bytes) → high ≡ hex_digit (get_or bytes i 0 / 16) → low ≡ hex_digit (get_or bytes i 0 % 16)
    → after ≡ front ++ high ∷ low ∷ [] → after ≡ text ++ hex_of (take (i + 1) bytes)
unfolding hex_of
hex_of_more text front after bytes i high low inside front_is high_is low_is after_is =
    let two : ℕ → List ℕ = λ b. hex_digit (b / 16) ∷ hex_digit (b % 16) ∷ [] in
    let byte : ℕ = get_or bytes i 0 in
    let whole : hex_of (take (i + 1) bytes) ≡ hex_of (take i bytes) ++ two byte =
    ap hex_of (take_more bytes i 0 inside) ∙ flat_map-append two (take i bytes) (byte ∷ []) ∙ ap (λ (xs : List ℕ). hex_of (take i bytes) ++ xs) (append-nil (two byte)) in
    after_is ∙ ap (λ (d : ℕ). front ++ d ∷ low ∷ []) high_is ∙ ap (λ (d : ℕ). front ++ hex_digit (byte / 16) ∷ d ∷ []) low_is ∙ ap (λ (xs : List ℕ). xs ++ two byte) front_is
    ∙ append_assoc text (hex_of (take i bytes)) (two byte) ∙ ap (λ (xs : List ℕ). text ++ xs) (sym whole)
