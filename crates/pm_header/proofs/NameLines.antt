-- A name is the front of its line, up to the first zero.
use Rattle.std.proofs.Common.{◌≡◌, ◌≢◌, ℕ, ◌-◌, ◌%◌, ◌<◌, ◌≤◌, List, length, take, get_or, replicate, inl, inr, refl, sym, ◌∙◌, ap, arith, length-append}
use Rattle.std.proofs.lemmas.Bool.{cases_lt, cases_eq}
use Rattle.std.proofs.lemmas.List.{get_or-replicate, get_or_past, length-replicate, take_at}
use Rattle.std.proofs.Math.ListN.{get_or-append}
use Rattle.std.proofs.Math.Seq.{get_or-append_right}
use Rattle.pm_words.specs.Words.{bytes_of}
use Rattle.pm_words.proofs.Reading.{bytes_of-words_of}
use Rattle.pm_header.specs.Name.{IsName, IsNameByte, name_bytes}
use Rattle.pm_header.specs.Spelling.{name_line}

pub length-name_bytes : (name : List ℕ) → IsName name → length (name_bytes name) ≡ 64
length-name_bytes name is = let whole = length-append name (replicate (64 - length name) 0) in let zeros : length {A = ℕ} (replicate (64 - length name) 0) ≡ 64 - length name = length-replicate (64 - length name) 0 in omega (arith, whole, zeros, is.short)

zeros_are_zero : (n k : ℕ) → get_or {A = ℕ} (replicate n 0) k 0 ≡ 0
zeros_are_zero n k = elim (cases_lt k n) [
  | inl inside ↦ get_or-replicate n k 0 0 inside
  | inr past ↦ get_or_past (replicate n 0) k 0 (let long : length {A = ℕ} (replicate n 0) ≡ n = length-replicate n 0 in omega arith)
]

-- behind the name stands a zero
pub zero_behind : (name : List ℕ) → IsName name → get_or (name_bytes name) (length name) 0 ≡ 0
zero_behind name is =
    let at : 0 ≡ length name - length name = omega arith in
    let room : 0 < 64 - length name = omega (arith, is.short) in
    get_or-append_right name (replicate (64 - length name) 0) (length name) 0 (omega arith)
    ∙ ap (λ (k : ℕ). get_or (replicate (64 - length name) 0) k 0) (sym at) ∙ get_or-replicate (64 - length name) 0 0 0 room

-- no byte of it is a zero
pub name_before : (name : List ℕ) (k : ℕ) → IsName name → k < length name → get_or (name_bytes name) k 0 ≢ 0
name_before name k is inside is_zero =
    let byte : IsNameByte (get_or name k 0) = is.bytes k 0 inside in
    let same : get_or (name_bytes name) k 0 ≡ get_or name k 0 = get_or-append name (replicate (64 - length name) 0) 0 k inside in
    omega (arith, byte.0, same, is_zero)

-- the front of a name's line, up to the first zero, is the name
pub front_of_name : (name line : List ℕ) (n : ℕ) → IsName name → line ≡ name_bytes name → n ≤ length line → ((k : ℕ) → k < n → get_or line k 0 ≢ 0) → (n < length line → get_or line n 0 ≡ 0) → take n line ≡ name
front_of_name name line n is spelled within before zero =
    let long : length line ≡ 64 = ap (λ (xs : List ℕ). length xs) spelled ∙ length-name_bytes name is in
    let short : length name ≤ 63 = is.short in
    let here : n ≡ length name = elim (cases_lt n (length name)) [
      | inl below ↦ absurd (name_before name n is below (ap (λ (xs : List ℕ). get_or xs n 0) (sym spelled) ∙ zero (omega arith)))
      | inr above ↦ elim (cases_eq n (length name)) [
        | inl same ↦ same
        | inr other ↦ absurd (before (length name) (omega arith) (ap (λ (xs : List ℕ). get_or xs (length name) 0) spelled ∙ zero_behind name is))
      ]
    ] in
    ap (λ (k : ℕ). take k line) here ∙ ap (take (length name)) spelled ∙ take_at name (replicate (64 - length name) 0) (length name) refl

name_fits : (name : List ℕ) (k : ℕ) → IsName name → get_or (name_bytes name) k 0 < 256
name_fits name k is = elim (cases_lt k (length name)) [
  | inl inside ↦
      let byte : IsNameByte (get_or name k 0) = is.bytes k 0 inside in
      let same : get_or (name_bytes name) k 0 ≡ get_or name k 0 = get_or-append name (replicate (64 - length name) 0) 0 k inside in
      omega (arith, byte.1, same)
  | inr behind ↦
      let there : get_or (name_bytes name) k 0 ≡ get_or (replicate (64 - length name) 0) (k - length name) 0 = get_or-append_right name (replicate (64 - length name) 0) k 0 behind in
      let zero : get_or (replicate (64 - length name) 0) (k - length name) 0 ≡ 0 = zeros_are_zero (64 - length name) (k - length name) in
      omega (arith, there, zero)
]

-- the words of a name's line lead back to its bytes
pub bytes_of_name : (name : List ℕ) → IsName name → bytes_of (name_line name) ≡ name_bytes name
bytes_of_name name is =
    let long : length (name_bytes name) ≡ 64 = length-name_bytes name is in
    bytes_of-words_of (name_bytes name) (λ k. name_fits name k is) (ap (λ (n : ℕ). n % 8) long)
