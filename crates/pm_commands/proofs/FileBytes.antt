-- The bytes of an image, line by line.
use Rattle.std.proofs.Common.{◌≡◌, ℕ, ◌+◌, ◌-◌, ◌*◌, List, ◌++◌, take, drop, ◌∙◌, ap, arith, take-add}
use Rattle.std.specs.List.{slice_range}
use Rattle.pm_words.specs.Words.{bytes_of}
use Rattle.pm_words.proofs.Reading.{bytes_of-append}

pub bytes_of_more : (image : List ℕ) (i : ℕ) → bytes_of (take (8 * (i + 1)) image) ≡ bytes_of (take (8 * i) image) ++ bytes_of (slice_range image (8 * i) (8 * i + 8))
bytes_of_more image i =
    let split : take (8 * (i + 1)) image ≡ take (8 * i) image ++ slice_range image (8 * i) (8 * i + 8) =
    (let far : 8 * (i + 1) ≡ 8 * i + 8 = omega arith in
    let eight : 8 ≡ 8 * i + 8 - 8 * i = omega arith in
    ap (λ (n : ℕ). take n image) far ∙ take-add (8 * i) 8 image ∙ ap (λ (n : ℕ). take (8 * i) image ++ take n (drop (8 * i) image)) eight) in
    ap bytes_of split ∙ bytes_of-append (take (8 * i) image) (slice_range image (8 * i) (8 * i + 8))
