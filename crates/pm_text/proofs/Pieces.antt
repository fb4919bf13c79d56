-- Bytes cut into pieces of 16, and the lines of the pieces.
use Rattle.std.proofs.Common.{◌≡◌, ℕ, zero, suc, ◌+◌, ◌-◌, ◌*◌, ◌<◌, min, List, [], ◌∷◌, ◌++◌, length, take, drop, sym, ◌∙◌, ap, arith, append_assoc, append-nil, length-drop}
use Rattle.std.specs.Int.{div_ceil}
use Rattle.std.specs.List.{flat_map, range_with_len}
use Rattle.std.proofs.lemmas.List.{take_min, drop_min, take_at, drop_at, drop-drop}
use Rattle.std.proofs.lemmas.Grind.{div_ceil_times, flat_map-append}
use Rattle.pm_text.specs.Dump.{piece, line_of_piece, data_line, data_lines}

-- k pieces were cut from the front, none of them beyond the end
pub record IsCut (bytes rest : List ℕ) (k : ℕ) : Type 0 where
  pub rest_is : rest ≡ drop (16 * k) bytes
  pub needed : 16 * k < length bytes + 16

-- where something is left, the next piece begins inside
inside : (bytes rest : List ℕ) (k : ℕ) → IsCut bytes rest k → 0 < length rest → 16 * k < length bytes
inside bytes rest k cut some = omega (arith, ap (λ (xs : List ℕ). length xs) cut.rest_is, length-drop (16 * k) bytes)

-- what is cut off next is piece k
pub piece_cut : (bytes rest cut_off after : List ℕ) (k : ℕ) → IsCut bytes rest k → rest ≡ cut_off ++ after → length cut_off ≡ min 16 (length rest) → cut_off ≡ piece bytes k
unfolding piece
piece_cut bytes rest cut_off after k cut split long =
    sym (take_at cut_off after (min 16 (length rest)) long) ∙ ap (take (min 16 (length rest))) (sym split) ∙ take_min 16 rest ∙ ap (take 16) cut.rest_is

-- and it is one piece more
pub cut_more : (bytes rest cut_off after : List ℕ) (k next : ℕ) → IsCut bytes rest k → rest ≡ cut_off ++ after → length cut_off ≡ min 16 (length rest) → 0 < length rest → next ≡ k + 1 → IsCut bytes after next
cut_more bytes rest cut_off after k next cut split long some is =
    let place : 16 * k + 16 ≡ 16 * next = omega arith in
    record {
      rest_is = sym (drop_at cut_off after (min 16 (length rest)) long) ∙ ap (drop (min 16 (length rest))) (sym split) ∙ drop_min 16 rest ∙ ap (drop 16) cut.rest_is ∙ drop-drop 16 (16 * k) bytes
          ∙ ap (λ (n : ℕ). drop n bytes) place;
      needed = omega (arith, inside bytes rest k cut some);
    }

-- where nothing is left, all pieces were cut
pub cut_all : (bytes rest : List ℕ) (k : ℕ) → IsCut bytes rest k → length rest ≡ 0 → k ≡ div_ceil (length bytes) 16
cut_all bytes rest k cut none =
    let behind : length bytes - 16 * k ≡ 0 = sym (length-drop (16 * k) bytes) ∙ ap (λ (xs : List ℕ). length xs) (sym cut.rest_is) ∙ none in
    let bounds = div_ceil_times (length bytes) 16 (omega arith) in
    omega (arith, behind, bounds.0, bounds.1, cut.needed)

range_more : (a k : ℕ) → range_with_len a (k + 1) ≡ range_with_len a k ++ (a + k) ∷ []
range_more a zero = let same : a ≡ a + 0 = omega arith in ap (λ (n : ℕ). n ∷ []) same
range_more a (suc k) =
    let next : suc k + 1 ≡ suc (k + 1) = omega arith in
    let place : a + 1 + k ≡ a + suc k = omega arith in
    ap (range_with_len a) next ∙ ap (λ (ns : List ℕ). a ∷ ns) (range_more (a + 1) k ∙ ap (λ (n : ℕ). range_with_len (a + 1) k ++ n ∷ []) place)

flat_map_range_more : (f : ℕ → List ℕ) (k : ℕ) → flat_map f (range_with_len 0 k) ++ f k ≡ flat_map f (range_with_len 0 (k + 1))
flat_map_range_more f k =
    let at : 0 + k ≡ k = omega arith in
    sym (ap (flat_map f) (range_more 0 k) ∙ flat_map-append f (range_with_len 0 k) ((0 + k) ∷ []) ∙ ap (λ (xs : List ℕ). flat_map f (range_with_len 0 k) ++ xs) (append-nil (f (0 + k)))
    ∙ ap (λ (n : ℕ). flat_map f (range_with_len 0 k) ++ f n) at)

-- the lines of the first k pieces, and one more
pub lines_more : (text front after bytes cut_off : List ℕ) (k number next : ℕ) → cut_off ≡ piece bytes k → front ≡ text ++ flat_map (data_line bytes) (range_with_len 0 k) → number ≡ k → next ≡ k + 1
    → after ≡ front ++ line_of_piece (16 * number) cut_off → after ≡ text ++ flat_map (data_line bytes) (range_with_len 0 next)
lines_more text front after bytes cut_off k number next is front_is same next_is after_is =
    after_is ∙ ap (λ (n : ℕ). front ++ line_of_piece (16 * n) cut_off) same ∙ ap (λ (xs : List ℕ). front ++ line_of_piece (16 * k) xs) is ∙ ap (λ (xs : List ℕ). xs ++ data_line bytes k) front_is
    ∙ append_assoc text (flat_map (data_line bytes) (range_with_len 0 k)) (data_line bytes k)
    ∙ ap (λ (xs : List ℕ). text ++ xs) (flat_map_range_more (data_line bytes) k) ∙ ap (λ (n : ℕ). text ++ flat_map (data_line bytes) (range_with_len 0 n)) (sym next_is)

-- the lines of the pieces that were needed are those of all
pub lines_all : (text after bytes rest : List ℕ) (k : ℕ) → IsCut bytes rest k → length rest ≡ 0 → after ≡ text ++ flat_map (data_line bytes) (range_with_len 0 k) → after ≡ text ++ data_lines bytes
unfolding data_lines
lines_all text after bytes rest k cut none lines = lines ∙ ap (λ (n : ℕ). text ++ flat_map (data_line bytes) (range_with_len 0 n)) (cut_all bytes rest k cut none)
