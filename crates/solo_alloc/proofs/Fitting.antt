-- What an object takes has a class, or whole chunks.
use Rattle.std.proofs.Common.{ℕ, ◌<◌, ◌≤◌, Bool, true, false, cond, All, IfSome, List, [], ◌∷◌, Option, Some, None, find, leb, lit<, arith}
use Rattle.std.specs.Int.{div_ceil}
use Rattle.std.specs.Option.{option_map_or}
use Rattle.std.proofs.lemmas.List.Elements.{All-cons, All-head, All-nil, All-tail}
use Rattle.pm_layout.specs.Sizes.{IfChunks, IfLines, blocks_of, class_of, classes, lines_for}
use Rattle.pm_layout.specs.declared.class.Class.{Class}
use Rattle.pm_layout.specs.declared.class.Class.TheVariants.{Chunks, Lines}

-- a class has blocks, and whole chunks are one at least
pub record IsClass (class : Class) : Type 0 where
  pub lines : IfLines class (λ lines. 0 < blocks_of lines)
  pub chunks : IfChunks class (λ chunks. 1 ≤ chunks)

found_has : (p : ℕ → Bool) (xs : List ℕ) → All (λ n. 0 < blocks_of n) xs → IfSome (find p xs) (λ n. 0 < blocks_of n)
found_has p [] all = tt
found_has p (x ∷ xs) all = at (p x) (All-head (λ n. 0 < blocks_of n) x xs all) (found_has p xs (All-tail (λ n. 0 < blocks_of n) x xs all)) where
  at : (b : Bool) → 0 < blocks_of x → IfSome (find p xs) (λ n. 0 < blocks_of n) → IfSome (cond b (Some x) (find p xs)) (λ n. 0 < blocks_of n)
  at true here rest = here
  at false here rest = rest

class_from : (found : Option ℕ) (chunks : ℕ) → IfSome found (λ n. 0 < blocks_of n) → 1 ≤ chunks → IsClass (option_map_or Lines found (Chunks chunks))
class_from None chunks has some = record { lines = tt; chunks = some }
class_from (Some lines) chunks has some = record { lines = has; chunks = tt }

all_have : All (λ n. 0 < blocks_of n) classes
all_have =
    let more = All-cons (λ n. 0 < blocks_of n) in
    more 2 (3 ∷ 4 ∷ 5 ∷ 7 ∷ 9 ∷ 15 ∷ 31 ∷ []) (lit< tt) (more 3 (4 ∷ 5 ∷ 7 ∷ 9 ∷ 15 ∷ 31 ∷ []) (lit< tt) (more 4 (5 ∷ 7 ∷ 9 ∷ 15 ∷ 31 ∷ []) (lit< tt) (more 5 (7 ∷ 9 ∷ 15 ∷ 31 ∷ []) (lit< tt) (more 7 (9 ∷ 15 ∷ 31 ∷ []) (lit< tt) (more 9 (15 ∷ 31 ∷ []) (lit< tt) (more 15 (31 ∷ []) (lit< tt) (more 31 ([]) (lit< tt) (All-nil (λ n. 0 < blocks_of n)))))))))

some_chunks : (lines : ℕ) → 1 ≤ lines → 1 ≤ div_ceil lines 64
some_chunks lines some = grind arith

pub class_fits : (size : ℕ) → IsClass (class_of size)
class_fits size =
    let need : ℕ = lines_for size in
    class_from (find (λ lines. leb need lines) classes) (div_ceil need 64) (found_has (λ lines. leb need lines) classes all_have) (some_chunks need (omega arith))
