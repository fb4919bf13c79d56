-- Which word of a lane's area is which part.
use Rattle.std.proofs.Common.{◌≡◌, ℕ, ◌+◌, ◌-◌, Bool, true, false, cond, eqb, leb, ltb, ◌&&◌, refl, sym, ap, ◌∙◌, arith}
use Rattle.std.proofs.lemmas.Bool.{and_parts, eqb-true, leb-true, false≢true}
use Rattle.solo_view.specs.Area.{Part, area_word, is_in_area, part_in_area, part_of}
use Rattle.solo_view.specs.Area.Part.{GenerationWord, SealWord, EntryWord, SlotWord, OtherWord}

is_generation : Part → Bool
is_generation GenerationWord = true
is_generation SealWord = false
is_generation EntryWord = false
is_generation SlotWord = false
is_generation OtherWord = false

is_slot : Part → Bool
is_slot GenerationWord = false
is_slot SealWord = false
is_slot EntryWord = false
is_slot SlotWord = true
is_slot OtherWord = false

is_seal : Part → Bool
is_seal GenerationWord = false
is_seal SealWord = true
is_seal EntryWord = false
is_seal SlotWord = false
is_seal OtherWord = false

is_entry : Part → Bool
is_entry GenerationWord = false
is_entry SealWord = false
is_entry EntryWord = true
is_entry SlotWord = false
is_entry OtherWord = false

branch : (b : Bool) (p q : Part) (test : Part → Bool) → test (cond b p q) ≡ true → test q ≡ false → (b ≡ true) × (test p ≡ true)
branch true p q test e other = (refl, e)
branch false p q test e other = absurd (false≢true (sym other ∙ e))

past : (b : Bool) (p q : Part) (test : Part → Bool) → test (cond b p q) ≡ true → test p ≡ false → test q ≡ true
past true p q test e other = absurd (false≢true (sym other ∙ e))
past false p q test e other = e

no_generation : (seal entry slot : Bool) → is_generation (cond seal SealWord (cond entry EntryWord (cond slot SlotWord OtherWord))) ≡ false
unfolding is_generation
no_generation true entry slot = refl
no_generation false true slot = refl
no_generation false false true = refl
no_generation false false false = refl

pub generation_part : (lane w : ℕ) → part_of lane w ≡ GenerationWord → (is_in_area lane w ≡ true) × (w ≡ area_word lane)
unfolding is_generation
generation_part lane w e =
    let inside = branch (is_in_area lane w) (part_in_area (w - area_word lane)) OtherWord is_generation (ap is_generation e) refl in
    let zeroth = branch (eqb (w - area_word lane) 0) GenerationWord _ is_generation inside.1 (no_generation (eqb (w - area_word lane) 1) (leb 8 (w - area_word lane) && ltb (w - area_word lane) 136) (leb 136 (w - area_word lane) && ltb (w - area_word lane) 648)) in
    let offset = eqb-true (w - area_word lane) 0 zeroth.0 in
    let low = leb-true (area_word lane) w (and_parts (leb (area_word lane) w) (ltb w (area_word lane + 1024)) inside.0).0 in
    (inside.0, omega arith)

pub slot_part : (lane w : ℕ) → part_of lane w ≡ SlotWord → is_in_area lane w ≡ true
unfolding is_slot
slot_part lane w e = (branch (is_in_area lane w) (part_in_area (w - area_word lane)) OtherWord is_slot (ap is_slot e) refl).0

pub entry_part : (lane w : ℕ) → part_of lane w ≡ EntryWord → is_in_area lane w ≡ true
unfolding is_entry
entry_part lane w e = (branch (is_in_area lane w) (part_in_area (w - area_word lane)) OtherWord is_entry (ap is_entry e) refl).0

no_seal : (entry slot : Bool) → is_seal (cond entry EntryWord (cond slot SlotWord OtherWord)) ≡ false
unfolding is_seal
no_seal true slot = refl
no_seal false true = refl
no_seal false false = refl

pub seal_part : (lane w : ℕ) → part_of lane w ≡ SealWord → (is_in_area lane w ≡ true) × (w ≡ area_word lane + 1)
unfolding is_seal
seal_part lane w e =
    let offset : ℕ = w - area_word lane in
    let inside = branch (is_in_area lane w) (part_in_area offset) OtherWord is_seal (ap is_seal e) refl in
    let rest : Part = cond (leb 8 offset && ltb offset 136) EntryWord (cond (leb 136 offset && ltb offset 648) SlotWord OtherWord) in
    let later = past (eqb offset 0) GenerationWord (cond (eqb offset 1) SealWord rest) is_seal inside.1 refl in
    let first = branch (eqb offset 1) SealWord rest is_seal later (no_seal (leb 8 offset && ltb offset 136) (leb 136 offset && ltb offset 648)) in
    let is_one = eqb-true offset 1 first.0 in
    let low = leb-true (area_word lane) w (and_parts (leb (area_word lane) w) (ltb w (area_word lane + 1024)) inside.0).0 in
    (inside.0, omega arith)
