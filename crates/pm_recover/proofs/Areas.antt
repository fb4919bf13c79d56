-- Images that agree on a lane's area say the same of its log.
use Rattle.std.proofs.Common.{◌≡◌, ℕ, ◌+◌, ◌*◌, ◌<◌, ◌≤◌, ◌&&◌, ◌||◌, Bool, true, false, not, cond, leb, ltb, List, length, slice_index, refl, sym, ◌∙◌, ap, arith}
use Rattle.std.specs.Option.{option_to_list}
use Rattle.pm_record.specs.Undo.{is_record, undo_of}
use Rattle.pm_record.specs.declared.undo.Undo.{Undo}
use Rattle.pm_image.specs.Logs.{area_word, generation, generation_word, is_sealed, records, seal_word, slot_line, undo_slot}
use Rattle.pm_image.specs.Steps.{valid_record}
use Rattle.pm_image.proofs.Gathering.{record_at, records_by_number}
use Rattle.pm_image.proofs.Local.{flat_map_same, slot_same}
use Rattle.pm_image.proofs.Redoing.{sealed_few}
use Rattle.pm_recover.specs.Recovery.{generation_after, has_record, has_torn_slot, is_raised}
use Rattle.pm_recover.proofs.Parts.{all_same}
use Rattle.pm_recover.proofs.Slots.{generation_sealed, generation_unsealed, of_generation}

-- two images agree on the lane's area behind its generation and its seal
pub record SameLog (one other : List ℕ) (lane : ℕ) : Type 0 where
  pub long : area_word (lane + 1) ≤ length one
  pub as_long : area_word (lane + 1) ≤ length other
  pub same : (i : ℕ) → area_word lane + 1 < i → i < area_word (lane + 1) → slice_index one i ≡ slice_index other i

-- and on these
pub record SameLane (one other : List ℕ) (lane : ℕ) : Type 0 where
  pub log : SameLog one other lane
  pub generation : generation_word one lane ≡ generation_word other lane
  pub seal : seal_word one lane ≡ seal_word other lane

pub same_slot : (one other : List ℕ) (lane slot : ℕ) → SameLog one other lane → slot < 64 → undo_slot one lane slot ≡ undo_slot other lane slot
same_slot one other lane slot agree inside =
    let long : area_word (lane + 1) ≤ length one = agree.long in
    let as_long : area_word (lane + 1) ≤ length other = agree.as_long in
    slot_same one other (8 * slot_line lane slot) (omega arith) (omega arith) (λ k from to. agree.same k (omega arith) (omega arith))

pub same_sealed : (one other : List ℕ) (lane : ℕ) → SameLane one other lane → is_sealed one lane ≡ is_sealed other lane
same_sealed one other lane agree = ap (λ (n : ℕ). leb 1 n && leb n 64) agree.seal

-- the last entry's value, where there is one
last_same : (one other : List ℕ) (lane : ℕ) → SameLane one other lane → is_sealed one lane ≡ true
    → slice_index one (area_word lane + 7 + 2 * seal_word one lane) ≡ slice_index other (area_word lane + 7 + 2 * seal_word other lane)
last_same one other lane agree sealed =
    let few : seal_word one lane ≤ 64 = sealed_few one lane sealed in
    agree.log.same (area_word lane + 7 + 2 * seal_word one lane) (omega arith) (omega arith)
    ∙ ap (λ (n : ℕ). slice_index other (area_word lane + 7 + 2 * n)) agree.seal

pub same_generation : (one other : List ℕ) (lane : ℕ) → SameLane one other lane → generation one lane ≡ generation other lane
same_generation one other lane agree = go (is_sealed one lane) refl where
  go : (b : Bool) → is_sealed one lane ≡ b → generation one lane ≡ generation other lane
  go true sealed =
      let also : is_sealed other lane ≡ true = sym (same_sealed one other lane agree) ∙ sealed in
      generation_sealed one lane sealed ∙ last_same one other lane agree sealed ∙ sym (generation_sealed other lane also)
  go false unsealed =
      let also : is_sealed other lane ≡ false = sym (same_sealed one other lane agree) ∙ unsealed in
      generation_unsealed one lane unsealed ∙ agree.generation ∙ sym (generation_unsealed other lane also)

pub same_valid : (one other : List ℕ) (lane slot : ℕ) → SameLane one other lane → slot < 64 → valid_record one lane slot ≡ valid_record other lane slot
same_valid one other lane slot agree inside =
    let slots : undo_slot one lane slot ≡ undo_slot other lane slot = same_slot one other lane slot agree.log inside in
    let generations : generation one lane ≡ generation other lane = same_generation one other lane agree in
    (λ j. of_generation (generations j) (undo_of (slots j)))

pub same_records : (one other : List ℕ) (lane : ℕ) → SameLane one other lane → records one lane ≡ records other lane
same_records one other lane agree =
    records_by_number one lane
    ∙ flat_map_same (record_at one lane) (record_at other lane) 0 64 (λ slot from to. ap option_to_list (same_valid one other lane slot agree (omega arith)))
    ∙ sym (records_by_number other lane)

pub same_torn : (one other : List ℕ) (lane : ℕ) → SameLog one other lane → has_torn_slot one lane ≡ has_torn_slot other lane
unfolding has_torn_slot
same_torn one other lane agree =
    ap not (all_same (λ slot. is_record (undo_slot one lane slot)) (λ slot. is_record (undo_slot other lane slot)) 64 (λ slot inside. ap is_record (same_slot one other lane slot agree inside)))

same_recorded : (one other : List ℕ) (lane : ℕ) → SameLane one other lane → has_record one lane ≡ has_record other lane
unfolding has_record
same_recorded one other lane agree = ap (λ (us : List Undo). ltb 0 (length us)) (same_records one other lane agree)

same_raised : (one other : List ℕ) (lane : ℕ) → SameLane one other lane → is_raised one lane ≡ is_raised other lane
unfolding is_raised
same_raised one other lane agree =
    let sealed : is_sealed one lane ≡ is_sealed other lane = same_sealed one other lane agree in
    let recorded : has_record one lane ≡ has_record other lane = same_recorded one other lane agree in
    let torn : has_torn_slot one lane ≡ has_torn_slot other lane = same_torn one other lane agree.log in
    let generations : generation one lane ≡ generation other lane = same_generation one other lane agree in
    (λ j. not (sealed j) && (recorded j || (ltb (generations j) 4611686018427387904 && torn j)))

pub same_after : (one other : List ℕ) (lane : ℕ) → SameLane one other lane → generation_after one lane ≡ generation_after other lane
same_after one other lane agree =
    let raised : is_raised one lane ≡ is_raised other lane = same_raised one other lane agree in
    let generations : generation one lane ≡ generation other lane = same_generation one other lane agree in
    (λ j. cond (raised j) (generations j + 1) (generations j))
