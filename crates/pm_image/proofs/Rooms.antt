-- The room of blocks: an object's words fit its block's lines, and the blocks of a run fit its chunk.
use Rattle.std.proofs.Common.{◌≡◌, ℕ, suc, ◌+◌, ◌*◌, ◌<◌, ◌≤◌, Bool, true, false, cond, eqb, leb, ◌&&◌, List, [], ◌∷◌, Option, Some, None, refl, sym, ◌∙◌, ap, arith}
use Rattle.std.specs.List.{find, list_all}
use Rattle.std.specs.Option.{option_map_or}
use Rattle.std.specs.Int.{div_ceil}
use Rattle.std.proofs.lemmas.Bool.{false≢true, eqb-true, leb-true}
use Rattle.std.proofs.lemmas.Grind.{div_ceil_times}
use Rattle.std.proofs.Math.Nat.{mul-le-mul_left, mul-suc}
use Rattle.pm_layout.specs.Sizes.{blocks_by_class, blocks_of, class_of, classes, lines_for}
use Rattle.pm_layout.specs.declared.class.Class.TheVariants.{Lines, Chunks}
use Rattle.pm_objects.specs.Pool.{block_lines}
use Rattle.pm_image.specs.Contents.{data_words}

-- what is found passes the test, and each test that all pass
found_passes : {X : Type 0} (p : X → Bool) (xs : List X) (x : X) → find p xs ≡ Some x → p x ≡ true
found_passes p [] x is = absurd cc
found_passes {X = X} p (y ∷ ys) x is = go (p y) refl is (found_passes p ys x) where
  go : (b : Bool) → p y ≡ b → cond b (Some y) (find p ys) ≡ Some x → (find p ys ≡ Some x → p x ≡ true) → p x ≡ true
  go true passes found later = let same : y ≡ x = cc in ap p (sym same) ∙ passes
  go false fails found later = later found

found_of_all : {X : Type 0} (p q : X → Bool) (xs : List X) (x : X) → list_all q xs ≡ true → find p xs ≡ Some x → q x ≡ true
found_of_all p q [] x all is = absurd cc
found_of_all {X = X} p q (y ∷ ys) x all is = go (p y) (q y) refl all is (found_of_all p q ys x) where
  go : (b t : Bool) → q y ≡ t → (t && list_all q ys) ≡ true → cond b (Some y) (find p ys) ≡ Some x → (list_all q ys ≡ true → find p ys ≡ Some x → q x ≡ true) → q x ≡ true
  go true true passes rest found later = let same : y ≡ x = cc in ap q (sym same) ∙ passes
  go false true passes rest found later = later rest found
  go b false fails rest found later = absurd (false≢true rest)

-- the lines of an object's block are as many as it needs
need_held : (need : ℕ) (class : Option ℕ) → ((lines : ℕ) → class ≡ Some lines → need ≤ lines) → need ≤ block_lines (option_map_or Lines class (Chunks (div_ceil need 64)))
need_held need None held = let chunks = div_ceil_times need 64 (omega arith) in omega arith
need_held need (Some lines) held = held lines refl

pub lines_needed : (size : ℕ) → lines_for size ≤ block_lines (class_of size)
lines_needed size =
    need_held (lines_for size) (find (λ lines. leb (lines_for size) lines) classes) (λ lines is.
    leb-true (lines_for size) lines (found_passes (λ k. leb (lines_for size) k) classes lines is))

-- the header line's words and those of the bytes
pub words_fit : (size lines : ℕ) → lines_for size ≤ lines → 8 + data_words size ≤ 8 * lines
words_fit size lines held =
    let words = div_ceil_times size 8 (omega arith) in
    let bytes = div_ceil_times size 64 (omega arith) in
    omega arith

-- the blocks of a run and its bitmap's line
fits_table : (lines k : ℕ) (entry : Option (ℕ × ℕ)) → ((e : ℕ × ℕ) → entry ≡ Some e → (e.0 ≡ lines) × (1 + e.0 * e.1 ≤ 64)) → k < option_map_or (λ e. e.1) entry 0 → 1 + lines * k + lines ≤ 64
fits_table lines k None holds inside = absurd (omega arith)
fits_table lines k (Some e) holds inside =
    let table : (e.0 ≡ lines) × (1 + e.0 * e.1 ≤ 64) = holds e refl in
    let all : e.0 * e.1 ≡ lines * e.1 = ap (λ (n : ℕ). n * e.1) table.0 in
    let bound : 1 + e.0 * e.1 ≤ 64 = table.1 in
    let within : suc k ≤ e.1 = inside in
    let more : lines * suc k ≤ lines * e.1 = mul-le-mul_left lines within in
    let last : lines * suc k ≡ lines * k + lines = mul-suc lines k in
    omega arith

pub run_fits : (lines k : ℕ) → k < blocks_of lines → 1 + lines * k + lines ≤ 64
run_fits lines k inside =
    fits_table lines k (find (λ e. eqb e.0 lines) blocks_by_class) (λ e is. (
      eqb-true e.0 lines (found_passes (λ x. eqb x.0 lines) blocks_by_class e is),
      leb-true (1 + e.0 * e.1) 64 (found_of_all (λ x. eqb x.0 lines) (λ x. leb (1 + x.0 * x.1) 64) blocks_by_class e refl is),
    )) inside
