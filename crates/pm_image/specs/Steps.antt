-- A recovered word while it is made, and what a reader of lanes asks of the image: for this crate's functions and for recovery's.
use Rattle.std.specs.Prelude.{◌≡◌, ◌⊎◌, ℕ, ◌+◌, ◌*◌, ◌<◌, ◌≤◌, ◌==◌, List, [], ◌∷◌, find, length, slice_index, Option, None, Some, unwrap_or, if◌then◌else◌, ⊤}
use Rattle.std.specs.Option.{option_and_then}
use Rattle.std.specs.List.{filter, filter_map}
use Rattle.pm_record.specs.Redo.{applied, redo_of}
use Rattle.pm_record.specs.Undo.{undo_of}
use Rattle.pm_record.specs.declared.redo.Redo.{Redo}
use Rattle.pm_record.specs.declared.undo.Undo.{Undo}
use Rattle.pm_image.specs.Logs.{undo_slot, generation, entry_pair, covers, recovered_by}
use Rattle.pm_image.specs.declared.fault.ImageFault.{ImageFault}
use Rattle.pm_image.specs.declared.fault.MeansFault.{MeansFault}
use Rattle.pm_image.specs.declared.fault.MeansFault.TheVariants.{Image, Memory}

-- the image has the areas of so many lanes, and is of a pool's length at most
pub record HasLanes (image : List ℕ) (lanes : ℕ) : Type 0 where
  pub lanes_fit : lanes ≤ 32
  pub areas : 512 + 1024 * lanes ≤ length image
  pub small : length image ≤ 1098240

-- the word after further entries, where nothing stands for no entry so far
unfoldable pub made : Option ℕ → List Redo → ℕ → Option ℕ
made so_far [] word = so_far
made so_far (e ∷ es) word = made (Some (applied e (unwrap_or so_far word))) es word

-- the record of the slot, where it is of the lane's generation
abbrev pub valid_record : List ℕ → ℕ → ℕ → Option Undo
valid_record image lane i = option_and_then (λ u. if u.generation == generation image lane then Some u else None) (undo_of (undo_slot image lane i))

-- entry i of a sealed lane, where it is one for the word at this place
abbrev pub entry_for : List ℕ → ℕ → ℕ → ℕ → List Redo
entry_for image lane i place = filter (λ e. e.place == place) (filter_map (λ k. redo_of (entry_pair image lane k)) (i ∷ []))

-- word i as these entries and records leave it
abbrev pub logged : List Redo → List Undo → List ℕ → ℕ → ℕ
logged es us image i = recovered_by (filter (λ e. e.place == 8 * i) es) (find (λ u. covers u (8 * i)) us) (8 * i) (slice_index image i)

-- from word `from` up to word `to` the words are as the logs leave them, and the others as they were
pub record AreRestored (es : List Redo) (us : List Undo) (image old new : List ℕ) (from to : ℕ) : Type 0 where
  pub as_long : length new ≡ length old
  pub inside : (i : ℕ) → i < length old → from ≤ i → i < to → slice_index new i ≡ logged es us image i
  pub outside : (i : ℕ) → (i < from) ⊎ (to ≤ i) → slice_index new i ≡ slice_index old i

-- word i is as all logs leave it, or as the image has it, where the entries and records looked at so far do not have it
abbrev pub IsAsLogged : List Redo → List Undo → List Redo → List Undo → List ℕ → List ℕ → ℕ → Type 0
IsAsLogged seen_entries seen_records es us image words i =
    ((filter (λ e. e.place == 8 * i) seen_entries ≡ []) × (find (λ u. covers u (8 * i)) seen_records ≡ None) × (slice_index words i ≡ slice_index image i))
    ⊎ (slice_index words i ≡ logged es us image i)

-- each word is
pub record AreAsLogged (seen_entries : List Redo) (seen_records : List Undo) (es : List Redo) (us : List Undo) (image words : List ℕ) : Type 0 where
  pub as_long : length words ≡ length image
  pub each : (i : ℕ) → i < length image → IsAsLogged seen_entries seen_records es us image words i

-- the fact for a fault of the image
abbrev pub IfImage : MeansFault → (ImageFault → Type 0) → Type 0
IfImage (Image found) P = P found
IfImage Memory P = ⊤

-- so many words are counted by the records that cover each, and by the entries for it
pub record AreMarks (us : List Undo) (es : List Redo) (words : ℕ) (record_marks entry_marks : List ℕ) : Type 0 where
  pub as_long : length record_marks ≡ words
  pub entries_as_long : length entry_marks ≡ words
  pub of_records : (i : ℕ) → i < words → slice_index record_marks i ≡ length (filter (λ u. covers u (8 * i)) us)
  pub of_entries : (i : ℕ) → i < words → slice_index entry_marks i ≡ length (filter (λ e. e.place == 8 * i) es)
