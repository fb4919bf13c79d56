-- What taking a change back does to a word, and what an image has: what was there, or what a
-- change of some lane found.
use Rattle.std.proofs.Common.{◌≡◌, ⊎_elim, ℕ, ◌-◌, ◌^◌, ◌<◌, cond, eqb, min, max, bit_and, sym, ap, ◌∙◌, arith, eq-eqb, ne_eqb, ◌≢◌, ◌⊎◌, inl, inr, suc, zero, bit_or, List, [], ◌∷◌, drop, Some, refl, length, slice_index, subst, ◌++◌, Bool, true}
use Rattle.std.specs.Int.{bit_at, bit_not, w64}
use Rattle.std.specs.Int.Bits.{and_zero_l, and_zero_r, or_zero_l}
use Rattle.std.proofs.lemmas.Bool.{cases_eq, cond-true, cond-false, eqb-true}
use Rattle.std.proofs.lemmas.Nat.Bits.{bit_at_and, bit_at_or, bit_at_not, bit_at-lt, same_from_bits}
use Rattle.pm_view.specs.declared.change.Change.{Change}
use Rattle.pm_view.specs.Changes.{IsFormed, or_change, and_change, taken_back}
use Rattle.std.specs.List.{All, Any, slice_get, Contains}
use Rattle.std.proofs.lemmas.List.Elements.{All-head, All-tail, All-drop, All-filter, All-nil, All-append, All-weaker, All-contains_itself, filter_passes}
use Rattle.pm_view.specs.Bits.{all_bits, with_bits}
use Rattle.pm_memory.specs.Changes.{changes_of}
use Rattle.pm_memory.specs.Survivors.{all_taken_back, survivor, Choice, IsImage, survivor_of_all, IsTakenFrom}
use Rattle.std.proofs.lemmas.List.{drop_all, nil_from_length}

-- a mask twice is the mask once
pub masked_again : (bits mask : ℕ) → bit_and (bit_and bits mask) mask ≡ bit_and bits mask
masked_again bits mask = same_from_bits (bit_and (bit_and bits mask) mask) (bit_and bits mask) (λ i. let outer = bit_at_and (bit_and bits mask) mask i in let inner = bit_at_and bits mask i in omega arith)

pub masked_itself : (mask : ℕ) → bit_and mask mask ≡ mask
masked_itself mask = same_from_bits (bit_and mask mask) mask (λ i. let both = bit_at_and mask mask i in omega arith)

pub or_formed : (w bits found : ℕ) → bits < 2 ^ 64 → IsFormed (or_change w bits found)
or_formed w bits found small = record { mask = small; old = masked_again found bits; new = masked_itself bits }

pub and_formed : (w bits found : ℕ) → IsFormed (and_change w bits found)
and_formed w bits found = record { mask = omega arith; old = masked_again found (bit_not w64 bits); new = and_zero_l (bit_not w64 bits) }

-- a bit of the mask is the old one, another stays
pub bit_at-taken_back : (c : Change) (word i : ℕ) → IsFormed c → i < 64 → bit_at (taken_back c word) i ≡ cond (eqb (bit_at c.mask i) 1) (bit_at c.old i) (bit_at word i)
bit_at-taken_back c word i formed low =
    let whole : bit_at (taken_back c word) i ≡ max (bit_at (bit_and word (bit_not w64 c.mask)) i) (bit_at c.old i) = bit_at_or (bit_and word (bit_not w64 c.mask)) c.old i in
    let rest : bit_at (bit_and word (bit_not w64 c.mask)) i ≡ min (bit_at word i) (bit_at (bit_not w64 c.mask) i) = bit_at_and word (bit_not w64 c.mask) i in
    let free : bit_at (bit_not w64 c.mask) i ≡ 1 - bit_at c.mask i = bit_at_not w64 c.mask i formed.mask low in
    let inside : bit_at c.old i ≡ min (bit_at c.old i) (bit_at c.mask i) = ap (λ n. bit_at n i) (sym formed.old) ∙ bit_at_and c.old c.mask i in
    let one = bit_at-lt c.mask i in
    let two = bit_at-lt word i in
    let three = bit_at-lt c.old i in
    ⊎_elim
    (λ (of : bit_at c.mask i ≡ 1). let e : bit_at (taken_back c word) i ≡ bit_at c.old i = omega arith in e ∙ sym (cond-true _ _ _ (eq-eqb (bit_at c.mask i) 1 of)))
    (λ (apart : bit_at c.mask i ≢ 1). let e : bit_at (taken_back c word) i ≡ bit_at word i = omega arith in e ∙ sym (cond-false _ _ _ (ne_eqb (bit_at c.mask i) 1 apart)))
    (cases_eq (bit_at c.mask i) 1)

-- a fact of some change of the rest is one of some change
any-more : (P : Change → Type 0) (c : Change) (changes : List Change) → Any P changes → Any P (c ∷ changes)
any-more P c changes some = (suc some.0, some.1, omega (arith, some.2), some.3, some.4)

any-first : (P : Change → Type 0) (c : Change) (changes : List Change) → P c → Any P (c ∷ changes)
any-first P c changes holds = (0, c, omega arith, refl, holds)

any-drop : (P : Change → Type 0) (kept : ℕ) (changes : List Change) → Any P (drop kept changes) → Any P changes
any-drop P zero changes some = some
any-drop P (suc kept) [] some = some
any-drop P (suc kept) (c ∷ changes) some = any-more P c changes (any-drop P kept changes some)

pub whole-taken_back : (c : Change) (word : ℕ) → c.mask ≡ all_bits → taken_back c word ≡ c.old
whole-taken_back c word whole = ap (λ m. with_bits m c.old word) whole ∙ (ap (λ n. bit_or n c.old) (and_zero_r word) ∙ or_zero_l c.old)

lost_of : (changes : List Change) (kept x : ℕ) (c : Change) → slice_get changes kept ≡ Some c → c.mask ≡ all_bits → all_taken_back (drop kept changes) x ≡ c.old
lost_of [] kept x c first whole = cc
lost_of (d ∷ changes) zero x c first whole = let same : d ≡ c = cc in ap (λ (e : Change). all_taken_back (e ∷ changes) x) same ∙ whole-taken_back c (all_taken_back changes x) whole
lost_of (d ∷ changes) (suc kept) x c first whole = lost_of changes kept x c first whole

pub survivor-lost : (changes : List Change) (w kept x : ℕ) (c : Change) → slice_get (changes_of w changes) kept ≡ Some c → c.mask ≡ all_bits → survivor kept changes w x ≡ c.old
survivor-lost changes w kept x c first whole = lost_of (changes_of w changes) kept x c first whole

all_taken_back-whole : (changes : List Change) (x : ℕ) → All (λ (c : Change). c.mask ≡ all_bits) changes → (all_taken_back changes x ≡ x) ⊎ Any (λ (c : Change). all_taken_back changes x ≡ c.old) changes
all_taken_back-whole [] x whole = inl refl
all_taken_back-whole (c ∷ changes) x whole = inr (any-first (λ (d : Change). all_taken_back (c ∷ changes) x ≡ d.old) c changes (whole-taken_back c (all_taken_back changes x) (All-head (λ (d : Change). d.mask ≡ all_bits) c changes whole)))

pub survivor-whole : (changes : List Change) (w kept x : ℕ) → All (λ (c : Change). c.mask ≡ all_bits) (changes_of w changes) → (survivor kept changes w x ≡ x) ⊎ Any (λ (c : Change). survivor kept changes w x ≡ c.old) (changes_of w changes)
survivor-whole changes w kept x whole =
    ⊎_elim inl (λ (some : Any (λ (c : Change). survivor kept changes w x ≡ c.old) (drop kept (changes_of w changes))). inr (any-drop (λ (c : Change). survivor kept changes w x ≡ c.old) kept (changes_of w changes) some))
    (all_taken_back-whole (drop kept (changes_of w changes)) x (All-drop (λ (c : Change). c.mask ≡ all_bits) kept (changes_of w changes) whole))

-- bit i of the word is that of x, or what one of the changes that are of it found
abbrev Finds : ℕ → ℕ → ℕ → List Change → Type 0
Finds i word x changes = (bit_at word i ≡ bit_at x i) ⊎ Any (λ (c : Change). (bit_at c.mask i ≡ 1) × (bit_at word i ≡ bit_at c.old i)) changes

all_taken_back-bit : (changes : List Change) (x i : ℕ) → All IsFormed changes → i < 64 → Finds i (all_taken_back changes x) x changes
all_taken_back-bit [] x i formed low = inl refl
all_taken_back-bit (c ∷ changes) x i formed low =
    let rest : ℕ = all_taken_back changes x in
    let bit = bit_at-taken_back c rest i (All-head IsFormed c changes formed) low in
    ⊎_elim
    (λ (of : bit_at c.mask i ≡ 1). inr (any-first (λ (d : Change). (bit_at d.mask i ≡ 1) × (bit_at (taken_back c rest) i ≡ bit_at d.old i)) c changes (of, bit ∙ cond-true _ _ _ (eq-eqb (bit_at c.mask i) 1 of))))
    (λ (apart : bit_at c.mask i ≢ 1).
    let same : bit_at (taken_back c rest) i ≡ bit_at rest i = bit ∙ cond-false _ _ _ (ne_eqb (bit_at c.mask i) 1 apart) in
    ⊎_elim (λ (stays : bit_at rest i ≡ bit_at x i). inl (same ∙ stays))
    (λ (some : Any (λ (d : Change). (bit_at d.mask i ≡ 1) × (bit_at rest i ≡ bit_at d.old i)) changes). inr (any-more (λ (d : Change). (bit_at d.mask i ≡ 1) × (bit_at (taken_back c rest) i ≡ bit_at d.old i)) c changes (some.0, some.1, some.2, some.3, (some.4.0, same ∙ some.4.1))))
    (all_taken_back-bit changes x i (All-tail IsFormed c changes formed) low))
    (cases_eq (bit_at c.mask i) 1)

pub survivor-bit : (changes : List Change) (w kept x i : ℕ) → All IsFormed changes → i < 64 → Finds i (survivor kept changes w x) x (changes_of w changes)
survivor-bit changes w kept x i formed low =
    ⊎_elim inl (λ (some : Any (λ (c : Change). (bit_at c.mask i ≡ 1) × (bit_at (survivor kept changes w x) i ≡ bit_at c.old i)) (drop kept (changes_of w changes))). inr (any-drop (λ (c : Change). (bit_at c.mask i ≡ 1) × (bit_at (survivor kept changes w x) i ≡ bit_at c.old i)) kept (changes_of w changes) some))
    (all_taken_back-bit (drop kept (changes_of w changes)) x i (All-drop IsFormed kept (changes_of w changes) (All-filter (λ (c : Change). eqb c.word w) IsFormed changes formed)) low)

-- one of the lane's changes of the word that are of the bit found it as it is in x
abbrev FoundBy : ℕ → ℕ → ℕ → List Change → Type 0
FoundBy w i x changes = Any (λ (c : Change). (bit_at c.mask i ≡ 1) × (bit_at x i ≡ bit_at c.old i)) (changes_of w changes)

-- the same with another word that has the bit as well
found_also : (w i x y : ℕ) (changes : List Change) → bit_at y i ≡ bit_at x i → FoundBy w i x changes → FoundBy w i y changes
found_also w i x y changes same some = (some.0, some.1, some.2, some.3, (some.4.0, same ∙ some.4.1))

survivor_of_all-bit : (choice : Choice) (lane : ℕ) (lanes : List (List Change)) (w x i : ℕ) → All (All IsFormed) lanes → i < 64
    → (bit_at (survivor_of_all choice lane lanes w x) i ≡ bit_at x i) ⊎ Any (FoundBy w i (survivor_of_all choice lane lanes w x)) lanes
survivor_of_all-bit choice lane [] w x i formed low = inl refl
survivor_of_all-bit choice lane (changes ∷ lanes) w x i formed low =
    let first : ℕ = survivor (choice lane w) changes w x in
    let last : ℕ = survivor_of_all choice (suc lane) lanes w first in
    ⊎_elim
    (λ (stays : bit_at last i ≡ bit_at first i). ⊎_elim (λ (same : bit_at first i ≡ bit_at x i). inl (stays ∙ same)) (λ (some : FoundBy w i first changes). inr (0, changes, omega arith, refl, found_also w i first last changes stays some))
    (survivor-bit changes w (choice lane w) x i (All-head (All IsFormed) changes lanes formed) low))
    (λ (some : Any (FoundBy w i last) lanes). inr (suc some.0, some.1, omega (arith, some.2), some.3, some.4))
    (survivor_of_all-bit choice (suc lane) lanes w first i (All-tail (All IsFormed) changes lanes formed) low)

pub image-bit : (choice : Choice) (words image : List ℕ) (lanes : List (List Change)) (w i : ℕ) → IsImage choice words lanes image → All (All IsFormed) lanes → w < length words → i < 64
    → (bit_at (slice_index image w) i ≡ bit_at (slice_index words w) i) ⊎ Any (FoundBy w i (slice_index image w)) lanes
image-bit choice words image lanes w i is formed inside low =
    subst (λ x. (bit_at x i ≡ bit_at (slice_index words w) i) ⊎ Any (FoundBy w i x) lanes) (sym (is.each w inside)) (survivor_of_all-bit choice 0 lanes w (slice_index words w) i formed low)

survivor_of_all-untouched : (choice : Choice) (lane : ℕ) (lanes : List (List Change)) (w x : ℕ) → All (λ (changes : List Change). length (changes_of w changes) ≡ 0) lanes → survivor_of_all choice lane lanes w x ≡ x
survivor_of_all-untouched choice lane [] w x none = refl
survivor_of_all-untouched choice lane (changes ∷ lanes) w x none =
    let no_change : changes_of w changes ≡ [] = nil_from_length (changes_of w changes) (All-head (λ (cs : List Change). length (changes_of w cs) ≡ 0) changes lanes none) in
    let first : survivor (choice lane w) changes w x ≡ x = ap (λ (cs : List Change). all_taken_back (drop (choice lane w) cs) x) no_change ∙ ap (λ (cs : List Change). all_taken_back cs x) (drop_all (choice lane w) [] (omega arith)) in
    survivor_of_all-untouched choice (suc lane) lanes w (survivor (choice lane w) changes w x) (All-tail (λ (cs : List Change). length (changes_of w cs) ≡ 0) changes lanes none) ∙ first

pub image-untouched : (choice : Choice) (words image : List ℕ) (lanes : List (List Change)) (w : ℕ) → IsImage choice words lanes image → All (λ (changes : List Change). length (changes_of w changes) ≡ 0) lanes → w < length words → slice_index image w ≡ slice_index words w
image-untouched choice words image lanes w is none inside = is.each w inside ∙ survivor_of_all-untouched choice 0 lanes w (slice_index words w) none

-- ---- an image has lost changes

all_taken_back-append : (lost more : List Change) (x : ℕ) → all_taken_back (lost ++ more) x ≡ all_taken_back lost (all_taken_back more x)
all_taken_back-append [] more x = refl
all_taken_back-append (c ∷ lost) more x = ap (taken_back c) (all_taken_back-append lost more x)

abbrev IsOfSome : List (List Change) → Change → Type 0
IsOfSome lanes c = Any (λ (changes : List Change). Contains changes c) lanes

of_later : (changes : List Change) (lanes : List (List Change)) (c : Change) → IsOfSome lanes c → IsOfSome (changes ∷ lanes) c
of_later changes lanes c some = (suc some.0, some.1, omega (arith, some.2), some.3, some.4)

survivor_of_all-taken : (choice : Choice) (lane : ℕ) (lanes : List (List Change)) (w x : ℕ) → IsTakenFrom lanes w x (survivor_of_all choice lane lanes w x)
survivor_of_all-taken choice lane [] w x = record { lost = []; of_word = All-nil (λ (c : Change). c.word ≡ w); of_lanes = All-nil (IsOfSome []); is = refl }
survivor_of_all-taken choice lane (changes ∷ lanes) w x =
    let kept : ℕ = choice lane w in
    let first : List Change = drop kept (changes_of w changes) in
    let rest = survivor_of_all-taken choice (suc lane) lanes w (survivor kept changes w x) in
    let test : Change → Bool = λ c. eqb c.word w in
    let passes : All (λ (c : Change). test c ≡ true) (changes_of w changes) = filter_passes test changes in
    let words : All (λ (c : Change). c.word ≡ w) first = All-drop (λ (c : Change). c.word ≡ w) kept (changes_of w changes) (All-weaker (λ (c : Change). test c ≡ true) (λ (c : Change). c.word ≡ w) (λ c is. eqb-true c.word w is) (changes_of w changes) passes) in
    let own : All (IsOfSome (changes ∷ lanes)) first =
    All-drop (IsOfSome (changes ∷ lanes)) kept (changes_of w changes) (All-filter test (IsOfSome (changes ∷ lanes)) changes (All-weaker (Contains changes) (IsOfSome (changes ∷ lanes)) (λ c among. (0, changes, omega arith, refl, among)) changes (All-contains_itself changes))) in
    record {
      lost = rest.lost ++ first;
      of_word = All-append (λ (c : Change). c.word ≡ w) rest.lost first rest.of_word words;
      of_lanes = All-append (IsOfSome (changes ∷ lanes)) rest.lost first (All-weaker (IsOfSome lanes) (IsOfSome (changes ∷ lanes)) (of_later changes lanes) rest.lost rest.of_lanes) own;
      is = rest.is ∙ sym (all_taken_back-append rest.lost first x);
    }

pub image-taken : (choice : Choice) (words image : List ℕ) (lanes : List (List Change)) (w : ℕ) → IsImage choice words lanes image → w < length words → IsTakenFrom lanes w (slice_index words w) (slice_index image w)
image-taken choice words image lanes w is inside = subst (λ x. IsTakenFrom lanes w (slice_index words w) x) (sym (is.each w inside)) (survivor_of_all-taken choice 0 lanes w (slice_index words w))
