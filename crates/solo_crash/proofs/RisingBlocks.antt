-- Blocks in rising places are told by their members; and what one block more among them, or one less, makes of the list.
use Rattle.std.proofs.Common.{◌≡◌, ◌≢◌, ◌⊎◌, ⊎_elim, inl, inr, ℕ, ◌+◌, ◌*◌, ◌≤◌, Bool, true, false, not, cond, eqb, ltb, List, [], ◌∷◌, refl, sym, ◌∙◌, ap, subst, arith}
use Rattle.std.specs.List.{Contains}
use Rattle.std.proofs.lemmas.Bool.{eq-eqb, false≢true, ltb-false, ltb-true, ne_eqb}
use Rattle.pm_image.specs.declared.block.Block.{Block}
use Rattle.pm_image.proofs.Members.{first_member, later_member, member_cases, member_kept, no_member}
use Rattle.pm_image.proofs.Ordered.{Rise}
use Rattle.solo_crash.specs.HeapChanges.{AreDisjoint}
use Rattle.solo_crash.specs.NewObjects.{with_block, without_block}
use Rattle.solo_crash.proofs.Apart.{rise_member}
use Rattle.solo_crash.proofs.Includes.{kept_member, kept_passes}

-- each of two rising lists has the first block of the other: these are the same
same_first : (x y : Block) (xs ys : List Block) → Rise (x.place + 64 * x.lines) xs → Rise (y.place + 64 * y.lines) ys → 1 ≤ x.lines → 1 ≤ y.lines → Contains (y ∷ ys) x → Contains (x ∷ xs) y → x ≡ y
same_first x y xs ys rise other_rise some other_some there back = ⊎_elim
    (λ (same : y ≡ x). sym same)
    (λ (later : Contains ys x). ⊎_elim
    (λ (same : x ≡ y). same)
    (λ (behind : Contains xs y).
    let after = rise_member (y.place + 64 * y.lines) ys x other_rise later in
    let before = rise_member (x.place + 64 * x.lines) xs y rise behind in
    absurd (omega arith))
    (member_cases x xs y back))
    (member_cases y ys x there)

-- and a block behind the first of the one is behind that of the other
behind_first : (x y b : Block) (xs ys : List Block) → x ≡ y → Rise (x.place + 64 * x.lines) xs → 1 ≤ x.lines → Contains xs b → Contains (y ∷ ys) b → Contains ys b
behind_first x y b xs ys first rise some there among = ⊎_elim
    (λ (here : y ≡ b).
    let behind = rise_member (x.place + 64 * x.lines) xs b rise there in
    let same : x.place ≡ b.place = ap (λ (c : Block). c.place) (first ∙ here) in
    absurd (omega arith))
    (λ (later : Contains ys b). later)
    (member_cases y ys b among)

-- so with the same members they are the same list
pub same_by_members : (from start : ℕ) (xs ys : List Block) → Rise from xs → Rise start ys → ((b : Block) → Contains xs b → 1 ≤ b.lines) → ((b : Block) → Contains ys b → 1 ≤ b.lines)
    → ((b : Block) → Contains xs b → Contains ys b) → ((b : Block) → Contains ys b → Contains xs b) → xs ≡ ys
same_by_members from start [] [] rise other_rise lines other_lines to back = refl
same_by_members from start [] (y ∷ ys) rise other_rise lines other_lines to back = absurd (no_member y (back y (first_member y ys)))
same_by_members from start (x ∷ xs) [] rise other_rise lines other_lines to back = absurd (no_member x (to x (first_member x xs)))
same_by_members from start (x ∷ xs) (y ∷ ys) rise other_rise lines other_lines to back =
    let some : 1 ≤ x.lines = lines x (first_member x xs) in
    let other_some : 1 ≤ y.lines = other_lines y (first_member y ys) in
    let first : x ≡ y = same_first x y xs ys rise.1 other_rise.1 some other_some (to x (first_member x xs)) (back y (first_member y ys)) in
    let rest : xs ≡ ys = same_by_members (x.place + 64 * x.lines) (y.place + 64 * y.lines) xs ys rise.1 other_rise.1
    (λ b there. lines b (later_member x xs b there))
    (λ b there. other_lines b (later_member y ys b there))
    (λ b there. behind_first x y b xs ys first rise.1 some there (to b (later_member x xs b there)))
    (λ b there. behind_first y x b ys xs (sym first) other_rise.1 other_some there (back b (later_member y ys b there))) in
    (λ j. first j ∷ rest j)

-- a list with one block more has it, and what it had
pub with_has : (block : Block) (bs : List Block) → Contains (with_block block bs) block
unfolding with_block
with_has block [] = first_member block []
with_has block (b ∷ bs) = go (ltb block.place b.place) (with_has block bs) where
  go : (t : Bool) → Contains (with_block block bs) block → Contains (cond t (block ∷ b ∷ bs) (b ∷ with_block block bs)) block
  go true rest = first_member block (b ∷ bs)
  go false rest = later_member b (with_block block bs) block rest

pub with_keeps : (block b : Block) (bs : List Block) → Contains bs b → Contains (with_block block bs) b
unfolding with_block
with_keeps block b [] there = absurd (no_member b there)
with_keeps block b (c ∷ bs) there = go (ltb block.place c.place) (with_keeps block b bs) where
  go : (t : Bool) → (Contains bs b → Contains (with_block block bs) b) → Contains (cond t (block ∷ c ∷ bs) (c ∷ with_block block bs)) b
  go true rest = later_member block (c ∷ bs) b there
  go false rest = ⊎_elim
      (λ (here : c ≡ b). subst (Contains (c ∷ with_block block bs)) here (first_member c (with_block block bs)))
      (λ (later : Contains bs b). later_member c (with_block block bs) b (rest later))
      (member_cases c bs b there)

-- and nothing else
pub with_only : (block b : Block) (bs : List Block) → Contains (with_block block bs) b → (b ≡ block) ⊎ Contains bs b
unfolding with_block
with_only block b [] there = ⊎_elim (λ (here : block ≡ b). inl (sym here)) (λ (later : Contains [] b). absurd (no_member b later)) (member_cases block [] b there)
with_only block b (c ∷ bs) there = go (ltb block.place c.place) there (with_only block b bs) where
  go : (t : Bool) → Contains (cond t (block ∷ c ∷ bs) (c ∷ with_block block bs)) b → (Contains (with_block block bs) b → (b ≡ block) ⊎ Contains bs b) → (b ≡ block) ⊎ Contains (c ∷ bs) b
  go true among rest = ⊎_elim (λ (here : block ≡ b). inl (sym here)) (λ (later : Contains (c ∷ bs) b). inr later) (member_cases block (c ∷ bs) b among)
  go false among rest = ⊎_elim
      (λ (here : c ≡ b). inr (subst (Contains (c ∷ bs)) here (first_member c bs)))
      (λ (later : Contains (with_block block bs) b). ⊎_elim (λ (same : b ≡ block). inl same) (λ (old : Contains bs b). inr (later_member c bs b old)) (rest later))
      (member_cases c (with_block block bs) b among)

-- it rises where the block lies apart from the others
pub with_rises : (from : ℕ) (block : Block) (bs : List Block) → Rise from bs → from ≤ block.place → 1 ≤ block.lines → ((b : Block) → Contains bs b → 1 ≤ b.lines) → ((b : Block) → Contains bs b → AreDisjoint block b) → Rise from (with_block block bs)
unfolding with_block
with_rises from block [] rise behind some lines disjoint = (behind, tt)
with_rises from block (b ∷ bs) rise behind some lines disjoint = go (ltb block.place b.place) refl (disjoint b (first_member b bs)) (with_rises (b.place + 64 * b.lines) block bs rise.1) where
  first_lines : 1 ≤ b.lines
  first_lines = lines b (first_member b bs)

  go : (t : Bool) → ltb block.place b.place ≡ t → AreDisjoint block b
      → (b.place + 64 * b.lines ≤ block.place → 1 ≤ block.lines → ((c : Block) → Contains bs c → 1 ≤ c.lines) → ((c : Block) → Contains bs c → AreDisjoint block c) → Rise (b.place + 64 * b.lines) (with_block block bs))
      → Rise from (cond t (block ∷ b ∷ bs) (b ∷ with_block block bs))
  go true before (inl ends) rest = (behind, (ends, rise.1))
  go true before (inr ends) rest = let less = ltb-true block.place b.place before in let some_lines = first_lines in absurd (omega arith)
  go false after (inl ends) rest = let more = ltb-false block.place b.place after in absurd (omega arith)
  go false after (inr ends) rest = (rise.0, rest ends some (λ c there. lines c (later_member b bs c there)) (λ c there. disjoint c (later_member b bs c there)))

-- a list without the block at a place has what stands elsewhere, and rises as it did
pub without_keeps : (place : ℕ) (b : Block) (bs : List Block) → Contains bs b → b.place ≢ place → Contains (without_block place bs) b
unfolding without_block
without_keeps place b bs there elsewhere = kept_member (λ (c : Block). not (eqb c.place place)) bs b there (ap not (ne_eqb b.place place elsewhere))

pub without_only : (place : ℕ) (b : Block) (bs : List Block) → Contains (without_block place bs) b → Contains bs b × (b.place ≢ place)
unfolding without_block
without_only place b bs there = (
  member_kept (λ (c : Block). not (eqb c.place place)) bs b there,
  λ same. false≢true (sym (ap not (eq-eqb b.place place same)) ∙ kept_passes (λ (c : Block). not (eqb c.place place)) bs b there),
)

rises_lower : (before from : ℕ) (bs : List Block) → before ≤ from → Rise from bs → Rise before bs
rises_lower before from [] less rise = tt
rises_lower before from (b ∷ bs) less rise = let first : from ≤ b.place = rise.0 in (omega arith, rise.1)

pub without_rises : (from place : ℕ) (bs : List Block) → Rise from bs → Rise from (without_block place bs)
unfolding without_block
without_rises from place [] rise = tt
without_rises from place (b ∷ bs) rise = go (not (eqb b.place place)) (without_rises (b.place + 64 * b.lines) place bs rise.1) where
  kept : List Block
  kept = without_block place bs

  go : (t : Bool) → Rise (b.place + 64 * b.lines) kept → Rise from (cond t (b ∷ kept) kept)
  go true rest = (rise.0, rest)
  go false rest = let first : from ≤ b.place = rise.0 in rises_lower from (b.place + 64 * b.lines) kept (omega arith) rest
