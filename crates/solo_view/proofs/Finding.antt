-- What a survivor has is what was there, or what a change found.
use Rattle.std.proofs.Common.{◌≡◌, ◌≢◌, ◌⊎◌, inl, inr, ⊎_elim, ℕ, suc, zero, ◌<◌, bit_or, eqb, List, [], ◌∷◌, drop, Some, refl, ap, ◌∙◌, arith, eq-eqb, ne_eqb}
use Rattle.std.specs.Int.{bit_at}
use Rattle.std.specs.Int.Bits.{and_zero_r, or_zero_l}
use Rattle.std.specs.List.{All, Any, slice_get}
use Rattle.std.proofs.lemmas.Bool.{cases_eq, cond-true, cond-false}
use Rattle.std.proofs.lemmas.List.Elements.{All-head, All-tail, All-drop, All-filter}
use Rattle.solo_view.specs.declared.change.Change.{Change}
use Rattle.solo_view.specs.Bits.{all_bits, with_bits}
use Rattle.solo_view.specs.Changes.{IsFormed, taken_back, changes_of}
use Rattle.solo_view.specs.Survivors.{all_taken_back, survivor}
use Rattle.solo_view.proofs.Forming.{bit_at-taken_back}

-- a fact of some change of the rest is one of some change
any-more : (P : Change → Type 0) (c : Change) (changes : List Change) → Any P changes → Any P (c ∷ changes)
any-more P c changes some = (suc some.0, some.1, omega (arith, some.2), some.3, some.4)

any-first : (P : Change → Type 0) (c : Change) (changes : List Change) → P c → Any P (c ∷ changes)
any-first P c changes holds = (0, c, omega arith, refl, holds)

any-drop : (P : Change → Type 0) (kept : ℕ) (changes : List Change) → Any P (drop kept changes) → Any P changes
any-drop P zero changes some = some
any-drop P (suc kept) [] some = some
any-drop P (suc kept) (c ∷ changes) some = any-more P c changes (any-drop P kept changes some)

pub whole-taken_back : (c : Change) (word : ℕ) → c.mask ≡ all_bits → taken_back c word ≡ c.old
whole-taken_back c word whole = ap (λ m. with_bits m c.old word) whole ∙ (ap (λ n. bit_or n c.old) (and_zero_r word) ∙ or_zero_l c.old)

lost_of : (changes : List Change) (kept x : ℕ) (c : Change) → slice_get changes kept ≡ Some c → c.mask ≡ all_bits → all_taken_back (drop kept changes) x ≡ c.old
lost_of [] kept x c first whole = cc
lost_of (d ∷ changes) zero x c first whole = let same : d ≡ c = cc in ap (λ (e : Change). all_taken_back (e ∷ changes) x) same ∙ whole-taken_back c (all_taken_back changes x) whole
lost_of (d ∷ changes) (suc kept) x c first whole = lost_of changes kept x c first whole

pub survivor-lost : (changes : List Change) (w kept x : ℕ) (c : Change) → slice_get (changes_of w changes) kept ≡ Some c → c.mask ≡ all_bits → survivor kept changes w x ≡ c.old
survivor-lost changes w kept x c first whole = lost_of (changes_of w changes) kept x c first whole

all_taken_back-whole : (changes : List Change) (x : ℕ) → All (λ (c : Change). c.mask ≡ all_bits) changes → (all_taken_back changes x ≡ x) ⊎ Any (λ (c : Change). all_taken_back changes x ≡ c.old) changes
all_taken_back-whole [] x whole = inl refl
all_taken_back-whole (c ∷ changes) x whole = inr (any-first (λ (d : Change). all_taken_back (c ∷ changes) x ≡ d.old) c changes (whole-taken_back c (all_taken_back changes x) (All-head (λ (d : Change). d.mask ≡ all_bits) c changes whole)))

pub survivor-whole : (changes : List Change) (w kept x : ℕ) → All (λ (c : Change). c.mask ≡ all_bits) (changes_of w changes) → (survivor kept changes w x ≡ x) ⊎ Any (λ (c : Change). survivor kept changes w x ≡ c.old) (changes_of w changes)
survivor-whole changes w kept x whole =
    ⊎_elim inl (λ (some : Any (λ (c : Change). survivor kept changes w x ≡ c.old) (drop kept (changes_of w changes))). inr (any-drop (λ (c : Change). survivor kept changes w x ≡ c.old) kept (changes_of w changes) some))
    (all_taken_back-whole (drop kept (changes_of w changes)) x (All-drop (λ (c : Change). c.mask ≡ all_bits) kept (changes_of w changes) whole))

-- bit i of the word is that of x, or what one of the changes that are of it found
abbrev Finds : ℕ → ℕ → ℕ → List Change → Type 0
Finds i word x changes = (bit_at word i ≡ bit_at x i) ⊎ Any (λ (c : Change). (bit_at c.mask i ≡ 1) × (bit_at word i ≡ bit_at c.old i)) changes

all_taken_back-bit : (changes : List Change) (x i : ℕ) → All IsFormed changes → i < 64 → Finds i (all_taken_back changes x) x changes
all_taken_back-bit [] x i formed low = inl refl
all_taken_back-bit (c ∷ changes) x i formed low =
    let rest : ℕ = all_taken_back changes x in
    let bit = bit_at-taken_back c rest i (All-head IsFormed c changes formed) low in
    ⊎_elim
    (λ (of : bit_at c.mask i ≡ 1). inr (any-first (λ (d : Change). (bit_at d.mask i ≡ 1) × (bit_at (taken_back c rest) i ≡ bit_at d.old i)) c changes (of, bit ∙ cond-true _ _ _ (eq-eqb (bit_at c.mask i) 1 of))))
    (λ (apart : bit_at c.mask i ≢ 1).
    let same : bit_at (taken_back c rest) i ≡ bit_at rest i = bit ∙ cond-false _ _ _ (ne_eqb (bit_at c.mask i) 1 apart) in
    ⊎_elim (λ (stays : bit_at rest i ≡ bit_at x i). inl (same ∙ stays))
    (λ (some : Any (λ (d : Change). (bit_at d.mask i ≡ 1) × (bit_at rest i ≡ bit_at d.old i)) changes). inr (any-more (λ (d : Change). (bit_at d.mask i ≡ 1) × (bit_at (taken_back c rest) i ≡ bit_at d.old i)) c changes (some.0, some.1, some.2, some.3, (some.4.0, same ∙ some.4.1))))
    (all_taken_back-bit changes x i (All-tail IsFormed c changes formed) low))
    (cases_eq (bit_at c.mask i) 1)

pub survivor-bit : (changes : List Change) (w kept x i : ℕ) → All IsFormed changes → i < 64 → Finds i (survivor kept changes w x) x (changes_of w changes)
survivor-bit changes w kept x i formed low =
    ⊎_elim inl (λ (some : Any (λ (c : Change). (bit_at c.mask i ≡ 1) × (bit_at (survivor kept changes w x) i ≡ bit_at c.old i)) (drop kept (changes_of w changes))). inr (any-drop (λ (c : Change). (bit_at c.mask i ≡ 1) × (bit_at (survivor kept changes w x) i ≡ bit_at c.old i)) kept (changes_of w changes) some))
    (all_taken_back-bit (drop kept (changes_of w changes)) x i (All-drop IsFormed kept (changes_of w changes) (All-filter (λ (c : Change). eqb c.word w) IsFormed changes formed)) low)
