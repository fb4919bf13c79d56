-- The blocks of objects lie one after another: still so with one more that is apart from each, and without one.
use Rattle.std.proofs.Common.{◌≡◌, ◌≢◌, ⊎_elim, ℕ, zero, suc, ◌+◌, ◌-◌, ◌*◌, ◌<◌, ◌≤◌, All, Bool, true, false, not, cond, eqb, ltb, leb, List, [], ◌∷◌, ◌++◌, length, get_or, Option, Some, None, refl, sym, ◌∙◌, ap, subst, arith, ne_eqb}
use Rattle.std.specs.Int.{div_ceil}
use Rattle.std.specs.List.{find}
use Rattle.std.specs.Option.{option_map_or}
use Rattle.std.proofs.lemmas.Bool.{leb-true, ltb-false, ltb-true}
use Rattle.std.proofs.lemmas.Grind.{div_ceil_times}
use Rattle.std.proofs.lemmas.List.Elements.{All-cons, All-head, All-nil, All-tail}
use Rattle.pm_layout.specs.Sizes.{class_of, classes, lines_for}
use Rattle.pm_layout.specs.declared.class.Class.TheVariants.{Lines, Chunks}
use Rattle.pm_objects.specs.Pool.{Objects, block_end, block_lines, object_at}
use Rattle.pm_objects.specs.declared.pool.Object.{Object}
use Rattle.solo_model.specs.Answers.{IsBeside}
use Rattle.solo_model.specs.NewObjects.{with_object, without_object}

-- a block has a line at least
found_line : (need : ℕ) (sizes : List ℕ) (lines : ℕ) → find (λ k. leb need k) sizes ≡ Some lines → need ≤ lines
found_line need [] lines is = absurd cc
found_line need (k ∷ sizes) lines is = go (leb need k) refl is (found_line need sizes lines) where
  go : (t : Bool) → leb need k ≡ t → cond t (Some k) (find (λ n. leb need n) sizes) ≡ Some lines → (find (λ n. leb need n) sizes ≡ Some lines → need ≤ lines) → need ≤ lines
  go true fits found later = let same : k ≡ lines = cc in subst (λ (n : ℕ). need ≤ n) same (leb-true need k fits)
  go false fails found later = later found

some_lines : (need : ℕ) (class : Option ℕ) → 1 ≤ need → ((lines : ℕ) → class ≡ Some lines → need ≤ lines) → 1 ≤ block_lines (option_map_or Lines class (Chunks (div_ceil need 64)))
some_lines need None some held = let chunks = div_ceil_times need 64 (omega arith) in omega arith
some_lines need (Some lines) some held = let enough : need ≤ lines = held lines refl in omega arith

pub has_lines : (size : ℕ) → 1 ≤ block_lines (class_of size)
has_lines size = some_lines (lines_for size) (find (λ lines. leb (lines_for size) lines) classes) (omega arith) (found_line (lines_for size) classes)

-- what is beside a new block is at another offset
beside_else : (size off : ℕ) (entry : ℕ × Object) → IsBeside size off entry → entry.0 ≢ off
beside_else size off entry beside same =
    let new : 1 ≤ block_lines (class_of size) = has_lines size in
    let old : 1 ≤ block_lines (class_of (length entry.1.bytes)) = has_lines (length entry.1.bytes) in
    ⊎_elim
    (λ (before : off - 64 + 64 * block_lines (class_of size) ≤ entry.0 - 64). omega arith)
    (λ (behind : block_end entry ≤ off - 64). omega arith)
    beside

pub none_beside : (size off : ℕ) (objects : Objects) → All (IsBeside size off) objects → object_at objects off ≡ None
none_beside size off [] beside = refl
none_beside size off (e ∷ es) beside =
    ap (λ (b : Bool). cond b (Some e.1) (object_at es off)) (ne_eqb e.0 off (beside_else size off e (All-head (IsBeside size off) e es beside)))
    ∙ none_beside size off es (All-tail (IsBeside size off) e es beside)

pub All-parts : {A : Type 0} (P : A → Type 0) (xs ys : List A) → All P (xs ++ ys) → All P xs × All P ys
All-parts P [] ys all = (All-nil P, all)
All-parts P (x ∷ xs) ys all =
    let rest : All P xs × All P ys = All-parts P xs ys (All-tail P x (xs ++ ys) all) in
    (All-cons P x xs (All-head P x (xs ++ ys) all) rest.0, rest.1)

-- the blocks lie one after another from a place on
abbrev pub Lie : ℕ → Objects → Type 0
Lie from [] = Unit {0}
Lie from (e ∷ es) = (from ≤ e.0 - 64) × Lie (block_end e) es

lie_earlier : (from earlier : ℕ) (objects : Objects) → earlier ≤ from → Lie from objects → Lie earlier objects
lie_earlier from earlier [] less lie = tt
lie_earlier from earlier (e ∷ es) less lie = (let first : from ≤ e.0 - 64 = lie.0 in omega arith, lie.1)

-- as a pool says it of neighbours
abbrev pub AreApart : Objects → Type 0
AreApart objects = (k : ℕ) (d : ℕ × Object) → k + 1 < length objects → block_end (get_or objects k d) ≤ (get_or objects (k + 1) d).0 - 64

pub apart_from_lie : (from : ℕ) (objects : Objects) → Lie from objects → AreApart objects
apart_from_lie from [] lie k d inside = absurd (omega arith)
apart_from_lie from (e ∷ []) lie k d inside = absurd (omega arith)
apart_from_lie from (e ∷ f ∷ es) lie zero d inside = lie.1.0
apart_from_lie from (e ∷ f ∷ es) lie (suc k) d inside =
    let next : suc k + 1 ≡ suc (k + 1) = omega arith in
    subst (λ (n : ℕ). block_end (get_or (f ∷ es) k d) ≤ (get_or (e ∷ f ∷ es) n d).0 - 64) (sym next)
    (apart_from_lie (block_end e) (f ∷ es) lie.1 k d (omega arith))

apart_tail : (e : ℕ × Object) (es : Objects) → AreApart (e ∷ es) → AreApart es
apart_tail e es apart k d inside =
    let next : suc k + 1 ≡ suc (k + 1) = omega arith in
    subst (λ (n : ℕ). block_end (get_or es k d) ≤ (get_or (e ∷ es) n d).0 - 64) next (apart (suc k) d (omega arith))

lie_behind : (e : ℕ × Object) (es : Objects) → AreApart (e ∷ es) → Lie (block_end e) es
lie_behind e [] apart = tt
lie_behind e (f ∷ es) apart = (apart 0 e (omega arith), lie_behind f es (apart_tail e (f ∷ es) apart))

pub lie_from_apart : (objects : Objects) → AreApart objects → Lie 0 objects
lie_from_apart [] apart = tt
lie_from_apart (e ∷ es) apart = (omega arith, lie_behind e es apart)

-- with one more
pub lie_with : (from off : ℕ) (object : Object) (objects : Objects) → from ≤ off - 64 → All (IsBeside (length object.bytes) off) objects → Lie from objects → Lie from (with_object off object objects)
unfolding with_object
lie_with from off object [] behind beside lie = (behind, tt)
lie_with from off object (e ∷ es) behind beside lie =
    go (ltb off e.0) refl (All-head (IsBeside (length object.bytes) off) e es beside)
    (λ next. lie_with (block_end e) off object es next (All-tail (IsBeside (length object.bytes) off) e es beside) lie.1) where
      new : 1 ≤ block_lines (class_of (length object.bytes))
      new = has_lines (length object.bytes)

      old : 1 ≤ block_lines (class_of (length e.1.bytes))
      old = has_lines (length e.1.bytes)

      go : (t : Bool) → ltb off e.0 ≡ t → IsBeside (length object.bytes) off e → (block_end e ≤ off - 64 → Lie (block_end e) (with_object off object es))
          → Lie from (cond t ((off, object) ∷ e ∷ es) (e ∷ with_object off object es))
      go true is apart rest =
          let less : off < e.0 = ltb-true off e.0 is in
          let lines : 1 ≤ block_lines (class_of (length e.1.bytes)) = old in
          (behind, (⊎_elim (λ (before : off - 64 + 64 * block_lines (class_of (length object.bytes)) ≤ e.0 - 64). before) (λ (after : block_end e ≤ off - 64). absurd (omega arith)) apart, lie.1))
      go false is apart rest =
          let most : e.0 ≤ off = ltb-false off e.0 is in
          let lines : 1 ≤ block_lines (class_of (length object.bytes)) = new in
          (lie.0, rest (⊎_elim (λ (before : off - 64 + 64 * block_lines (class_of (length object.bytes)) ≤ e.0 - 64). absurd (omega arith)) (λ (after : block_end e ≤ off - 64). after) apart))

-- and without one
pub lie_without : (from off : ℕ) (objects : Objects) → Lie from objects → Lie from (without_object off objects)
unfolding without_object
lie_without from off [] lie = tt
lie_without from off (e ∷ es) lie = go (not (eqb e.0 off)) (lie_without (block_end e) off es lie.1) where
  go : (t : Bool) → Lie (block_end e) (without_object off es) → Lie from (cond t (e ∷ without_object off es) (without_object off es))
  go true rest = (lie.0, rest)
  go false rest = let first : from ≤ e.0 - 64 = lie.0 in lie_earlier (block_end e) from (without_object off es) (omega arith) rest
