-- What an image has is what was there, or what a change of some lane found.
use Rattle.std.proofs.Common.{◌≡◌, ◌⊎◌, inl, inr, ⊎_elim, ℕ, suc, ◌<◌, List, [], ◌∷◌, drop, length, slice_index, refl, sym, ap, ◌∙◌, subst, arith}
use Rattle.std.specs.Int.{bit_at}
use Rattle.std.specs.List.{All, Any}
use Rattle.std.proofs.lemmas.List.{drop_all, nil_from_length}
use Rattle.std.proofs.lemmas.List.Elements.{All-head, All-tail}
use Rattle.solo_view.specs.declared.change.Change.{Change}
use Rattle.solo_view.specs.Changes.{IsFormed, changes_of}
use Rattle.solo_view.specs.Survivors.{all_taken_back, survivor}
use Rattle.solo_view.proofs.Finding.{survivor-bit}
use Rattle.solo_memory.specs.Survivors.{Choice, IsImage, survivor_of_all}

-- one of the lane's changes of the word that are of the bit found it as it is in x
abbrev FoundBy : ℕ → ℕ → ℕ → List Change → Type 0
FoundBy w i x changes = Any (λ (c : Change). (bit_at c.mask i ≡ 1) × (bit_at x i ≡ bit_at c.old i)) (changes_of w changes)

-- the same with another word that has the bit as well
found_also : (w i x y : ℕ) (changes : List Change) → bit_at y i ≡ bit_at x i → FoundBy w i x changes → FoundBy w i y changes
found_also w i x y changes same some = (some.0, some.1, some.2, some.3, (some.4.0, same ∙ some.4.1))

survivor_of_all-bit : (choice : Choice) (lane : ℕ) (lanes : List (List Change)) (w x i : ℕ) → All (All IsFormed) lanes → i < 64
    → (bit_at (survivor_of_all choice lane lanes w x) i ≡ bit_at x i) ⊎ Any (FoundBy w i (survivor_of_all choice lane lanes w x)) lanes
survivor_of_all-bit choice lane [] w x i formed low = inl refl
survivor_of_all-bit choice lane (changes ∷ lanes) w x i formed low =
    let first : ℕ = survivor (choice lane w) changes w x in
    let last : ℕ = survivor_of_all choice (suc lane) lanes w first in
    ⊎_elim
    (λ (stays : bit_at last i ≡ bit_at first i). ⊎_elim (λ (same : bit_at first i ≡ bit_at x i). inl (stays ∙ same)) (λ (some : FoundBy w i first changes). inr (0, changes, omega arith, refl, found_also w i first last changes stays some))
    (survivor-bit changes w (choice lane w) x i (All-head (All IsFormed) changes lanes formed) low))
    (λ (some : Any (FoundBy w i last) lanes). inr (suc some.0, some.1, omega (arith, some.2), some.3, some.4))
    (survivor_of_all-bit choice (suc lane) lanes w first i (All-tail (All IsFormed) changes lanes formed) low)

pub image-bit : (choice : Choice) (words image : List ℕ) (lanes : List (List Change)) (w i : ℕ) → IsImage choice words lanes image → All (All IsFormed) lanes → w < length words → i < 64
    → (bit_at (slice_index image w) i ≡ bit_at (slice_index words w) i) ⊎ Any (FoundBy w i (slice_index image w)) lanes
image-bit choice words image lanes w i is formed inside low =
    subst (λ x. (bit_at x i ≡ bit_at (slice_index words w) i) ⊎ Any (FoundBy w i x) lanes) (sym (is.each w inside)) (survivor_of_all-bit choice 0 lanes w (slice_index words w) i formed low)

survivor_of_all-untouched : (choice : Choice) (lane : ℕ) (lanes : List (List Change)) (w x : ℕ) → All (λ (changes : List Change). length (changes_of w changes) ≡ 0) lanes → survivor_of_all choice lane lanes w x ≡ x
survivor_of_all-untouched choice lane [] w x none = refl
survivor_of_all-untouched choice lane (changes ∷ lanes) w x none =
    let no_change : changes_of w changes ≡ [] = nil_from_length (changes_of w changes) (All-head (λ (cs : List Change). length (changes_of w cs) ≡ 0) changes lanes none) in
    let first : survivor (choice lane w) changes w x ≡ x = ap (λ (cs : List Change). all_taken_back (drop (choice lane w) cs) x) no_change ∙ ap (λ (cs : List Change). all_taken_back cs x) (drop_all (choice lane w) [] (omega arith)) in
    survivor_of_all-untouched choice (suc lane) lanes w (survivor (choice lane w) changes w x) (All-tail (λ (cs : List Change). length (changes_of w cs) ≡ 0) changes lanes none) ∙ first

pub image-untouched : (choice : Choice) (words image : List ℕ) (lanes : List (List Change)) (w : ℕ) → IsImage choice words lanes image → All (λ (changes : List Change). length (changes_of w changes) ≡ 0) lanes → w < length words → slice_index image w ≡ slice_index words w
image-untouched choice words image lanes w is none inside = is.each w inside ∙ survivor_of_all-untouched choice 0 lanes w (slice_index words w) none
