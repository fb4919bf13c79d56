-- What is left of blocks once all of these are taken out of them, bit by bit.
use Rattle.std.proofs.Common.{◌≡◌, ⊎_elim, ℕ, ◌^◌, ◌<◌, true, false, All, List, [], ◌∷◌, sym, ◌∙◌, subst, eqb}
use Rattle.std.specs.Int.{bit_at}
use Rattle.std.specs.List.{list_any}
use Rattle.std.proofs.lemmas.Bool.{and_parts, eqb-true, false≢true, or_cases, or_parts}
use Rattle.std.proofs.lemmas.List.Elements.{All-head, All-tail}
use Rattle.solo_view.specs.declared.occ.Occ.{Occ}
use Rattle.solo_view.specs.View.{Taken}
use Rattle.solo_view.specs.Views.{has_bit, is_same_occ, without_all, without_taken}
use Rattle.solo_world.proofs.Reserved.{bit_had, occ_same}
use Rattle.solo_world.proofs.Vacated.{vacated_after, vacated_all, vacated_before, vacated_gone, vacated_small}

-- these are bits of a word
abbrev pub IsWordOfBits : Taken → Type 0
IsWordOfBits t = t.bits < 2 ^ 64

-- a block that has the bit is of the occupancy word, and has it among its bits
pub has_parts : (at : Occ) (bit : ℕ) (t : Taken) → has_bit at bit t ≡ true → (at ≡ t.at) × (bit_at t.bits bit ≡ 1)
has_parts at bit t has =
    let both = and_parts (is_same_occ at t.at) (eqb (bit_at t.bits bit) 1) has in (occ_same at t.at both.0, eqb-true (bit_at t.bits bit) 1 both.1)

pub has_from : (at : Occ) (bit : ℕ) (t : Taken) → at ≡ t.at → bit_at t.bits bit ≡ 1 → has_bit at bit t ≡ true
has_from at bit t same set = subst (λ other. has_bit other bit t ≡ true) (sym same) (bit_had t bit set)

-- what is left was there before
pub left_before : (these blocks : List Taken) (at : Occ) (bit : ℕ) → All IsWordOfBits these → list_any (has_bit at bit) (without_all these blocks) ≡ true → list_any (has_bit at bit) blocks ≡ true
unfolding without_all
left_before [] blocks at bit small left = left
left_before (t ∷ these) blocks at bit small left =
    vacated_before t.at t.bits (All-head IsWordOfBits t these small) at bit blocks (left_before these (without_taken t.at t.bits blocks) at bit (All-tail IsWordOfBits t these small) left)

-- and what was there, and is none of these, is left
pub left_after : (these blocks : List Taken) (at : Occ) (bit : ℕ) → All IsWordOfBits these → bit < 64 → list_any (has_bit at bit) these ≡ false → list_any (has_bit at bit) blocks ≡ true
    → list_any (has_bit at bit) (without_all these blocks) ≡ true
unfolding without_all
left_after [] blocks at bit small low none there = there
left_after (t ∷ these) blocks at bit small low none there =
    let apart = or_parts (has_bit at bit t) (list_any (has_bit at bit) these) none in
    left_after these (without_taken t.at t.bits blocks) at bit (All-tail IsWordOfBits t these small) low apart.1
    (vacated_after t.at t.bits (All-head IsWordOfBits t these small) at bit blocks low (λ same set. false≢true (sym apart.0 ∙ has_from at bit t same set)) there)

-- of these none is
pub left_gone : (these blocks : List Taken) (at : Occ) (bit : ℕ) → All IsWordOfBits these → bit < 64 → list_any (has_bit at bit) these ≡ true → list_any (has_bit at bit) (without_all these blocks) ≡ true → ⊥
unfolding without_all
left_gone [] blocks at bit small low some left = false≢true some
left_gone (t ∷ these) blocks at bit small low some left =
    let rest = All-tail IsWordOfBits t these small in
    ⊎_elim
    (λ (here : has_bit at bit t ≡ true).
    let parts = has_parts at bit t here in
    vacated_gone t.at t.bits (All-head IsWordOfBits t these small) bit blocks low parts.1
    (subst (λ other. list_any (has_bit other bit) (without_taken t.at t.bits blocks) ≡ true) parts.0 (left_before these (without_taken t.at t.bits blocks) at bit rest left)))
    (λ (later : list_any (has_bit at bit) these ≡ true). left_gone these (without_taken t.at t.bits blocks) at bit rest low later left)
    (or_cases (has_bit at bit t) (list_any (has_bit at bit) these) some)

-- each block left is of an occupancy word that one was of, and its bits are a word's still
pub left_all : (P : Occ → Type 0) (these blocks : List Taken) → All IsWordOfBits these → All (λ (t : Taken). P t.at) blocks → All (λ (t : Taken). P t.at) (without_all these blocks)
unfolding without_all
left_all P [] blocks small all = all
left_all P (t ∷ these) blocks small all =
    left_all P these (without_taken t.at t.bits blocks) (All-tail IsWordOfBits t these small) (vacated_all t.at t.bits (All-head IsWordOfBits t these small) P blocks all)

pub left_small : (these blocks : List Taken) → All IsWordOfBits these → All IsWordOfBits blocks → All IsWordOfBits (without_all these blocks)
unfolding without_all
left_small [] blocks small all = all
left_small (t ∷ these) blocks small all =
    left_small these (without_taken t.at t.bits blocks) (All-tail IsWordOfBits t these small) (vacated_small t.at t.bits (All-head IsWordOfBits t these small) blocks all)
