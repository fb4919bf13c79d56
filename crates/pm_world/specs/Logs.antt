-- How a lane's log, as its view has it, stands in its area of the pool: the generation, the seal, the entries in their pairs and the records in their slots.
use Rattle.std.specs.Prelude.{◌≡◌, ◌≢◌, ◌⊎◌, ℕ, suc, ◌+◌, ◌-◌, ◌*◌, ◌^◌, ◌<◌, ◌≤◌, Bool, true, false, cond, ◌==◌, All, Contains, List, [], ◌∷◌, ◌++◌, length, replicate, slice_get, slice_index, Option, None, Some, IfSome}
use Rattle.std.specs.Int.{bit_at}
use Rattle.pm_layout.specs.declared.shape.Shape.{Shape}
use Rattle.pm_layout.specs.Areas.{greatest_generation, undo_slots, slot_words, old_words, redo_entries, word_of_generation, line_of_slot}
use Rattle.pm_record.specs.Undo.{undo_of, undo_words}
use Rattle.pm_record.specs.declared.undo.Undo.{Undo}
use Rattle.pm_record.specs.declared.redo.Op.{Op}
use Rattle.pm_record.specs.declared.redo.Op.TheVariants.{Set}
use Rattle.pm_view.specs.Bits.{all_bits}
use Rattle.pm_view.specs.Changes.{Undrained}
use Rattle.pm_view.specs.Claims.{is_run}
use Rattle.pm_view.specs.Places.{Place, Descr, word_of, is_place, is_data, place_after}
use Rattle.pm_view.specs.Entries.{Entry, entry_head, given_bit}
use Rattle.pm_view.specs.Parts.{Part, GenerationPart, SealPart, EntryPart, SlotPart, DescriptorPart, OtherPart, part_of}
use Rattle.pm_view.specs.Log.{Phase, Idle, Open, Drawn, Sealing, Applying, Clearing, Retiring, Voiding, Recorded, Log, old_in, old_of}
use Rattle.pm_world.specs.States.{State, Diff, given}
use Rattle.pm_world.specs.Lanes.{is_decided}

-- the record stands in this slot, the entry in this pair
abbrev pub IsRecordAt : Log → ℕ → Recorded → Type 0
IsRecordAt l j r = slice_get l.records j ≡ Some r

abbrev pub IsEntryAt : Log → ℕ → Entry → Type 0
IsEntryAt l i e = slice_get l.entries i ≡ Some e

-- how a record of this generation stands in its slot
abbrev pub spelled : Shape → ℕ → Recorded → List ℕ
spelled sh generation r = undo_words (record { generation = generation; place = 8 * word_of sh r.place; count = length r.old; old = r.old ++ replicate (old_words sh - length r.old) 0 })

-- the entry that ends the generation of a call with entries: it comes last
abbrev pub ends_with : Shape → ℕ → ℕ → Entry
ends_with sh lane generation = record { word = word_of_generation sh lane; place = None; op = Set; value = generation + 1 }

-- the entries are of places of the pool, and after them comes the one that ends the generation
pub record AreWhole (sh : Shape) (lane : ℕ) (l : Log) : Type 0 where
  pub front : List Entry
  pub are : l.entries ≡ front ++ ends_with sh lane l.generation ∷ []
  pub placed : All (λ (e : Entry). e.place ≢ None) front

-- these are the last of the entries, and the one that ends the generation is among them as long as the next one is not stored
pub record AreLeft (sh : Shape) (lane : ℕ) (l : Log) (todo : List Entry) : Type 0 where
  pub done : List Entry
  pub are : l.entries ≡ done ++ todo
  pub ends : l.bumped ≡ true → All (λ (e : Entry). e.place ≢ None) todo
  pub to_end : l.bumped ≡ false → Contains todo (ends_with sh lane l.generation)

-- the words of a slot
abbrev pub slot_list : (ℕ → ℕ) → List ℕ
slot_list slot = slot 0 ∷ slot 1 ∷ slot 2 ∷ slot 3 ∷ slot 4 ∷ slot 5 ∷ slot 6 ∷ slot 7 ∷ []

-- how many slots have words of this generation, that of a record in the making among them
abbrev pub used_slots : Log → ℕ
used_slots l = length l.records + cond (length l.slot == 0) 0 1

-- the seal, by how far the call has come
abbrev pub seal_in : Phase → ℕ → ℕ
seal_in (Sealing n) count = count
seal_in (Applying todo) count = count
seal_in phase count = 0

-- is the next generation stored
abbrev pub BumpFits : Phase → Bool → Type 0
BumpFits (Applying todo) bumped = Unit {0}
BumpFits Clearing bumped = bumped ≡ true
BumpFits (Retiring n) bumped = bumped ≡ true
BumpFits Voiding bumped = bumped ≡ true
BumpFits phase bumped = bumped ≡ false

-- the change is of a whole word, which was x
abbrev pub WasWord : ℕ → ℕ → Option ℕ → Type 0
WasWord x mask old = (mask ≡ all_bits) × (old ≡ Some x)

abbrev pub IsOld : ℕ → Undrained → Type 0
IsOld x c = WasWord x c.mask c.old

-- an undrained change of the lane: of its area's words the log may grow; the seal and the generation are known as they were, and so is the descriptor of a
-- run that it makes; entries change descriptors whole; and of no other lane's area is any
abbrev pub AreaBits : Phase → ℕ → ℕ → Part → ℕ → Option ℕ → Type 0
AreaBits Open count generation SlotPart mask old = Unit {0}
AreaBits Open count generation EntryPart mask old = Unit {0}
AreaBits (Sealing n) count generation SealPart mask old = WasWord 0 mask old
AreaBits Clearing count generation SealPart mask old = WasWord count mask old
AreaBits (Applying todo) count generation GenerationPart mask old = WasWord generation mask old
AreaBits (Retiring n) count generation GenerationPart mask old = WasWord generation mask old
AreaBits Voiding count generation GenerationPart mask old = WasWord generation mask old
AreaBits Open count generation (DescriptorPart d) mask old = WasWord 0 mask old
AreaBits (Applying todo) count generation (DescriptorPart d) mask old = mask ≡ all_bits
AreaBits phase count generation GenerationPart mask old = ⊥
AreaBits phase count generation SealPart mask old = ⊥
AreaBits phase count generation EntryPart mask old = ⊥
AreaBits phase count generation SlotPart mask old = ⊥
AreaBits phase count generation (DescriptorPart d) mask old = ⊥
AreaBits phase count generation OtherPart mask old = ⊥
AreaBits phase count generation part mask old = Unit {0}

abbrev pub AreaChange : Phase → ℕ → ℕ → Part → Undrained → Type 0
AreaChange phase count generation part c = AreaBits phase count generation part c.mask c.old

-- every recorded word has its old value again
abbrev pub AreRestored : Diff → List Recorded → Type 0
AreRestored picture records = (p : Place) (x b : ℕ) → old_of records p ≡ Some x → picture p b ≡ Some (bit_at x b == 1)

-- by how far the call has come
abbrev pub PhaseFits : Shape → ℕ → Diff → Log → List Undrained → Phase → Type 0
PhaseFits sh lane picture l changes Idle = (l.records ≡ []) × (l.entries ≡ []) × (l.slot ≡ []) × (l.pair ≡ [])
PhaseFits sh lane picture l changes Open = (length l.slot < slot_words sh) × (length l.pair < 2)
PhaseFits sh lane picture l changes (Drawn n) = (changes ≡ []) × (l.slot ≡ []) × (l.pair ≡ [])
PhaseFits sh lane picture l changes (Sealing n) = AreWhole sh lane l × (l.slot ≡ []) × (l.pair ≡ [])
PhaseFits sh lane picture l changes (Applying todo) = AreWhole sh lane l × AreLeft sh lane l todo × (l.slot ≡ []) × (l.pair ≡ [])
PhaseFits sh lane picture l changes Clearing = AreWhole sh lane l × (l.slot ≡ []) × (l.pair ≡ [])
PhaseFits sh lane picture l changes (Retiring n) = (l.entries ≡ []) × (l.slot ≡ []) × (l.pair ≡ [])
PhaseFits sh lane picture l changes Voiding = (l.entries ≡ []) × (l.slot ≡ []) × (l.pair ≡ []) × AreRestored picture l.records

-- a recorded word: the lane owns it, and until the call is decided its old value is the settled one
abbrev pub OldFits : Bool → State → (Place → ℕ → Bool) → Place → ℕ → Type 0
OldFits done S owned p x = (b : ℕ) → (owned p b ≡ true) × (done ≡ false → S p b ≡ (bit_at x b == 1))

-- an entry of a place gives some bit of it, and that of a descriptor sets it, to none of a run
abbrev pub EntryOf : Place → Op → ℕ → Type 0
EntryOf (Descr c) how value = (how ≡ Set) × (is_run value ≡ false)
EntryOf p how value = (b : ℕ) × (b < 64) × (given (given_bit how value b) ≡ true)

-- the record's words are the pool's, one after another
abbrev pub AreInRow : Shape → Recorded → Type 0
AreInRow sh r = (i : ℕ) → i < length r.old → (is_place sh (place_after r.place i) ≡ true) × (word_of sh (place_after r.place i) ≡ word_of sh r.place + i)

-- THE LOG: `generation`, `seal`, `entry` and `slot` have the words of the lane's area
pub record LogFits (sh : Shape) (lane generation seal : ℕ) (entry slot : ℕ → ℕ → ℕ) (S : State) (owned : Place → ℕ → Bool) (picture : Diff) (l : Log) (changes : List Undrained) : Type 0 where
  pub first : 1 ≤ l.generation
  pub last : l.generation ≤ greatest_generation sh
  pub below : (l.bumped ≡ true) ⊎ ((1 ≤ used_slots l) ⊎ (1 ≤ length l.entries)) → l.generation < greatest_generation sh
  pub stored : generation ≡ cond l.bumped (suc l.generation) l.generation
  pub bump : BumpFits l.phase l.bumped
  pub sealed : seal ≡ seal_in l.phase (length l.entries)
  pub entries_most : length l.entries ≤ redo_entries sh
  pub records_most : used_slots l ≤ undo_slots sh
  -- entries stand in their pairs, each of the place that its word is; of the words stored of the next one too
  pub pairs : (i : ℕ) (e : Entry) → IsEntryAt l i e → (entry i 0 ≡ entry_head e) × (entry i 1 ≡ e.value) × (e.value < 2 ^ 64)
      × IfSome e.place (λ p. (is_place sh p ≡ true) × (word_of sh p ≡ e.word) × EntryOf p e.op e.value)
  pub pair_part : (i : ℕ) → i < length l.pair → entry (length l.entries) i ≡ slice_index l.pair i
  -- records stand in their slots, and no word has two; the other slots are of earlier generations
  pub records : (j : ℕ) (r : Recorded) → IsRecordAt l j r → ((i : ℕ) → i < slot_words sh → slot j i ≡ slice_index (spelled sh l.generation r) i) × (1 ≤ length r.old) × (length r.old ≤ old_words sh)
      × (is_place sh r.place ≡ true) × (is_data r.place ≡ true) × AreInRow sh r
  pub once : (j m : ℕ) (r q : Recorded) (p : Place) (x y : ℕ) → IsRecordAt l j r → IsRecordAt l m q → old_in r p ≡ Some x → old_in q p ≡ Some y → j ≡ m
  pub olds : (p : Place) (x : ℕ) → old_of l.records p ≡ Some x → OldFits (is_decided l.phase) S owned p x
  pub slot_part : (i : ℕ) → i < length l.slot → slot (length l.records) i ≡ slice_index l.slot i
  pub stale : (j : ℕ) (u : Undo) → used_slots l ≤ j → j < undo_slots sh → undo_of (slot_list (slot j)) ≡ Some u → u.generation < l.generation
  -- undrained changes of slots are of those that have words of this generation
  pub slot_changes : All (λ (c : Undrained). part_of sh lane c.word ≡ SlotPart → c.word < 8 * line_of_slot sh lane (used_slots l)) changes
  pub area_changes : All (λ (c : Undrained). AreaChange l.phase (length l.entries) l.generation (part_of sh lane c.word) c) changes
  pub phase : PhaseFits sh lane picture l changes l.phase
