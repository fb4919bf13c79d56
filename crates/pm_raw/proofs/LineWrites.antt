-- What an image holds after a write of one of its lines.
use Rattle.std.proofs.Common.{◌≡◌, ℕ, ◌+◌, ◌-◌, ◌*◌, ◌<◌, ◌≤◌, List, ◌++◌, length, take, drop, slice_range, slice_set, arith, sym, ap, ◌∙◌}
use Rattle.std.proofs.lemmas.List.{length-append, length-take, length-take-le, length-drop, length-set, take_all, take-append-drop, drop-drop, set-append_left, set-append_right, append_assoc}
use Rattle.pm_raw.specs.Line.{with_line}

-- eight words are the whole line, and the words before and after it stay
pub with_line_is : (image : List ℕ) (i : ℕ) (words : List ℕ) → length words ≡ 8 → 8 * i + 8 ≤ length image
    → with_line image i words ≡ take (8 * i) image ++ words ++ drop (8 * i + 8) image
unfolding with_line
with_line_is image i words eight within = grind (arith, take_all, length-append, length-take, length-drop)

-- a write of a line keeps the number of words
pub length_with_line : (image : List ℕ) (i : ℕ) (words : List ℕ) → length (with_line image i words) ≡ length image
unfolding with_line
length_with_line image i words = grind (arith, length-append, length-take, length-drop)

-- a list with the element after n + j others changed, cut before and after the m elements from n on
set_within : (xs : List ℕ) (n m j y : ℕ) → n + m ≤ length xs → j < m
    → take n xs ++ slice_set (take m (drop n xs)) j y ++ drop (n + m) xs ≡ slice_set xs (n + j) y
set_within xs n m j y within inside =
    let front = take n xs in let middle = take m (drop n xs) in let back = drop m (drop n xs) in
    let front_long : length front ≡ n = length-take-le n xs (omega arith) in
    let middle_long : length middle ≡ m = length-take-le m (drop n xs) (omega (arith, length-drop n xs)) in
    let same_place : n + j - n ≡ j = omega arith in
    let cut : xs ≡ front ++ (middle ++ back) = sym (take-append-drop n xs) ∙ ap (λ l. front ++ l) (sym (take-append-drop m (drop n xs))) in
    append_assoc front (slice_set middle j y) (drop (n + m) xs)
    ∙ ap (λ l. front ++ (slice_set middle j y ++ l)) (sym (drop-drop m n xs))
    ∙ ap (λ l. front ++ l) (sym (set-append_left middle back j y (omega arith)))
    ∙ ap (λ k. front ++ slice_set (middle ++ back) k y) (sym same_place)
    ∙ sym (set-append_right front (middle ++ back) n (n + j) y front_long (omega arith))
    ∙ ap (λ l. slice_set l (n + j) y) (sym cut)

-- a line with one word changed is the image with that word changed
pub with_line_set : (image : List ℕ) (i j value : ℕ) → 8 * i + 8 ≤ length image → j < 8
    → with_line image i (slice_set (slice_range image (8 * i) (8 * i + 8)) j value) ≡ slice_set image (8 * i + j) value
with_line_set image i j value within in_line =
    let eight : 8 * i + 8 - 8 * i ≡ 8 = omega arith in
    let line = slice_range image (8 * i) (8 * i + 8) in
    let line_long : length line ≡ 8 = omega (arith, length-take (8 * i + 8 - 8 * i) (drop (8 * i) image), length-drop (8 * i) image) in
    with_line_is image i (slice_set line j value) (length-set line j value ∙ line_long) within
    ∙ ap (λ n. take (8 * i) image ++ slice_set (take n (drop (8 * i) image)) j value ++ drop (8 * i + 8) image) eight
    ∙ set_within image (8 * i) 8 j value within in_line
