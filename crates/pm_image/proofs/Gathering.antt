-- The entries and the records of a lane, gathered one after the other.
use Rattle.std.proofs.Common.{◌≡◌, ℕ, ◌+◌, Bool, true, false, cond, eqb, List, [], ◌∷◌, ◌++◌, Option, Some, None, refl, sym, ◌∙◌, ap}
use Rattle.std.specs.List.{filter, filter_map, cons_option, flat_map, range_with_len}
use Rattle.std.specs.Option.{option_and_then, option_to_list}
use Rattle.std.proofs.lemmas.List.{append_assoc}
use Rattle.pm_record.specs.Redo.{redo_of}
use Rattle.pm_record.specs.Undo.{undo_of}
use Rattle.pm_record.specs.declared.redo.Redo.{Redo}
use Rattle.pm_record.specs.declared.undo.Undo.{Undo}
use Rattle.pm_image.specs.Logs.{entries, records, entry_pair, undo_slot, generation, is_sealed, seal_word}
use Rattle.pm_image.specs.Steps.{valid_record}
use Rattle.pm_image.proofs.Ranges.{parts_more}
use Rattle.pm_image.proofs.Redoing.{entries_sealed}
use Rattle.pm_image.proofs.Finding.{slot_records, records_by_slot}

-- the entry of this number, if its words are one
abbrev pub entry_at : List ℕ → ℕ → ℕ → List Redo
entry_at image lane i = option_to_list (redo_of (entry_pair image lane i))

-- the record of this slot, if it is a valid one
abbrev pub record_at : List ℕ → ℕ → ℕ → List Undo
record_at image lane i = option_to_list (valid_record image lane i)

-- one part more behind what was there
pub gathered_more : {X : Type 0} (f : ℕ → List X) (old before after : List X) (k : ℕ) → before ≡ old ++ flat_map f (range_with_len 0 k) → after ≡ before ++ f k
    → after ≡ old ++ flat_map f (range_with_len 0 (k + 1))
gathered_more {X = X} f old before after k was is =
    is ∙ ap (λ (xs : List X). xs ++ f k) was ∙ append_assoc old (flat_map f (range_with_len 0 k)) (f k) ∙ ap (λ (xs : List X). old ++ xs) (sym (parts_more f k))

-- a list of what is there, part by part
by_parts : {X : Type 0} (h : ℕ → Option X) (ks : List ℕ) → filter_map h ks ≡ flat_map (λ k. option_to_list (h k)) ks
by_parts h [] = refl
by_parts {X = X} h (k ∷ ks) = one (h k) ∙ ap (λ (xs : List X). option_to_list (h k) ++ xs) (by_parts h ks) where
  one : (o : Option X) → cons_option o (filter_map h ks) ≡ option_to_list o ++ filter_map h ks
  one None = refl
  one (Some x) = refl

pub entries_by_number : (image : List ℕ) (lane : ℕ) → is_sealed image lane ≡ true → entries image lane ≡ flat_map (entry_at image lane) (range_with_len 0 (seal_word image lane))
entries_by_number image lane sealed = sym (entries_sealed image lane sealed) ∙ by_parts (λ i. redo_of (entry_pair image lane i)) (range_with_len 0 (seal_word image lane))

own_or_none : (own : Undo → Bool) (o : Option Undo) → filter own (cons_option o []) ≡ option_to_list (option_and_then (λ x. cond (own x) (Some x) None) o)
own_or_none own None = refl
own_or_none own (Some x) = one (own x) where
  one : (b : Bool) → cond b (x ∷ []) [] ≡ option_to_list (cond b (Some x) None)
  one true = refl
  one false = refl

same_parts : {X : Type 0} (f g : ℕ → List X) (ks : List ℕ) → ((k : ℕ) → f k ≡ g k) → flat_map f ks ≡ flat_map g ks
same_parts {X = X} f g ks same = ap (λ (h : ℕ → List X). flat_map h ks) (λ i k. same k i)

pub records_by_number : (image : List ℕ) (lane : ℕ) → records image lane ≡ flat_map (record_at image lane) (range_with_len 0 64)
records_by_number image lane =
    records_by_slot image lane
    ∙ same_parts (slot_records image lane) (record_at image lane) (range_with_len 0 64) (λ k. own_or_none (λ u. eqb u.generation (generation image lane)) (undo_of (undo_slot image lane k)))
