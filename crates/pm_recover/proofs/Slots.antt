-- What the slots of a lane hold: records that are valid, older, or none.
use Rattle.std.proofs.Common.{◌≡◌, ℕ, ◌+◌, ◌*◌, ◌<◌, ◌≤◌, Bool, true, false, cond, eqb, ltb, List, [], ◌∷◌, length, slice_index, Option, None, Some, refl, sym, ◌∙◌, ap, arith}
use Rattle.std.specs.Option.{is_some, option_and_then, option_to_list}
use Rattle.std.proofs.lemmas.Bool.{eqb-true, eq-eqb, ne_eqb, false≢true, ltb-false, true_from_ne_false}
use Rattle.std.proofs.lemmas.Option.{cond_some}
use Rattle.pm_record.specs.Undo.{is_record, undo_in, undo_of}
use Rattle.pm_record.specs.declared.undo.Undo.{Undo}
use Rattle.pm_image.specs.Logs.{area_word, generation, generation_word, is_sealed, records, seal_word}
use Rattle.pm_image.specs.Steps.{valid_record}
use Rattle.pm_image.proofs.Gathering.{record_at, records_by_number}
use Rattle.pm_image.proofs.Unsealed.{not_sealed, nothing_in}
use Rattle.pm_recover.specs.Recovery.{has_record}
use Rattle.pm_recover.proofs.Parts.{empty_part}

-- the record, where it is of this generation
abbrev pub of_generation : ℕ → Option Undo → Option Undo
of_generation g o = option_and_then (λ u. cond (eqb u.generation g) (Some u) None) o

pub valid_parts : (g : ℕ) (o : Option Undo) (u : Undo) → of_generation g o ≡ Some u → (o ≡ Some u) × (u.generation ≡ g)
valid_parts g None u is = absurd cc
valid_parts g (Some x) u is =
    let parts = cond_some (eqb x.generation g) x u is in
    (ap Some parts.1, ap (λ (v : Undo). v.generation) (sym parts.1) ∙ eqb-true x.generation g parts.0)

pub not_valid : (g : ℕ) (o : Option Undo) → ((u : Undo) → o ≡ Some u → u.generation ≡ g → ⊥) → of_generation g o ≡ None
not_valid g None other = refl
not_valid g (Some x) other = ap (λ (b : Bool). cond b (Some x) None) (ne_eqb x.generation g (other x refl))

pub valid_if : (g : ℕ) (o : Option Undo) (u : Undo) → o ≡ Some u → u.generation ≡ g → of_generation g o ≡ Some u
valid_if g o u is same = ap (of_generation g) is ∙ ap (λ (b : Bool). cond b (Some u) None) (eq-eqb u.generation g same)

pub of_another : (g : ℕ) (o : Option Undo) (u : Undo) → of_generation g o ≡ None → o ≡ Some u → u.generation ≡ g → ⊥
of_another g o u none is same =
    let clash : None ≡ Some u = sym none ∙ valid_if g o u is same in
    absurd cc

-- a sealed lane has the generation of its last entry, and another the one of its area
pub generation_sealed : (image : List ℕ) (lane : ℕ) → is_sealed image lane ≡ true → generation image lane ≡ slice_index image (area_word lane + 7 + 2 * seal_word image lane)
generation_sealed image lane sealed = ap (λ (b : Bool). cond b (slice_index image (area_word lane + 7 + 2 * seal_word image lane)) (generation_word image lane)) sealed

pub generation_unsealed : (image : List ℕ) (lane : ℕ) → is_sealed image lane ≡ false → generation image lane ≡ generation_word image lane
generation_unsealed image lane unsealed = ap (λ (b : Bool). cond b (slice_index image (area_word lane + 7 + 2 * seal_word image lane)) (generation_word image lane)) unsealed

pub generation_stands : (image : List ℕ) (lane : ℕ) → seal_word image lane ≡ 0 → generation image lane ≡ generation_word image lane
generation_stands image lane none = generation_unsealed image lane (not_sealed image lane none)

nothing_listed : (o : Option Undo) → option_to_list o ≡ [] → o ≡ None
nothing_listed None is = refl
nothing_listed (Some u) is = absurd cc

-- no slot has a valid record exactly where there is none
pub no_records : (image : List ℕ) (lane : ℕ) → ((slot : ℕ) → slot < 64 → valid_record image lane slot ≡ None) → records image lane ≡ []
no_records image lane none = records_by_number image lane ∙ nothing_in (record_at image lane) 64 (λ slot inside. ap option_to_list (none slot inside))

pub no_record_in : (image : List ℕ) (lane slot : ℕ) → records image lane ≡ [] → slot < 64 → valid_record image lane slot ≡ None
no_record_in image lane slot none inside = nothing_listed (valid_record image lane slot) (empty_part (record_at image lane) 64 slot (sym (records_by_number image lane) ∙ none) inside)

none_counted : (us : List Undo) → ltb 0 (length us) ≡ false → us ≡ []
none_counted [] is = refl
none_counted (u ∷ us) is = let none : length (u ∷ us) ≤ 0 = ltb-false 0 (length (u ∷ us)) is in absurd (omega arith)

pub unrecorded : (image : List ℕ) (lane : ℕ) → records image lane ≡ [] → has_record image lane ≡ false
unfolding has_record
unrecorded image lane none = ap (λ (us : List Undo). ltb 0 (length us)) none

pub none_recorded : (image : List ℕ) (lane : ℕ) → has_record image lane ≡ false → records image lane ≡ []
unfolding has_record
none_recorded image lane is = none_counted (records image lane) is

-- a lane with a valid record in some slot has one
pub recorded : (image : List ℕ) (lane slot : ℕ) → slot < 64 → (valid_record image lane slot ≡ None → ⊥) → has_record image lane ≡ true
recorded image lane slot inside there = true_from_ne_false (has_record image lane) (λ is. there (no_record_in image lane slot (none_recorded image lane is) inside))

pub slot_recorded : (image : List ℕ) (lane slot : ℕ) (o : Option Undo) → slot < 64 → o ≡ valid_record image lane slot → is_some o ≡ true → has_record image lane ≡ true
slot_recorded image lane slot o inside is there = recorded image lane slot inside (λ none. false≢true (sym (ap is_some (is ∙ none)) ∙ there))

-- a slot reads as a record exactly where its sum is true
is_some_of : (b : Bool) (u : Undo) → is_some (cond b (Some u) None) ≡ b
is_some_of true u = refl
is_some_of false u = refl

pub sum_is : (slot : List ℕ) (o : Option Undo) (b : Bool) → o ≡ undo_of slot → is_some o ≡ b → is_record slot ≡ b
sum_is slot o b is reads = sym (is_some_of (is_record slot) (undo_in slot)) ∙ ap is_some (sym is) ∙ reads
