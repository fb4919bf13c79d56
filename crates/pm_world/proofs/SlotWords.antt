-- A word that is of a lane's undo slots is within them.
use Rattle.std.proofs.Common.{if◌then◌else◌, ◌≡◌, ℕ, ◌*◌, ◌/◌, ◌%◌, ◌<◌, ◌≤◌, nat_le, nat_lt, true, ◌==◌, subst}
use Rattle.std.proofs.lemmas.Bool.{and_parts, cond_both, leb-true, ltb-true}
use Rattle.pm_layout.specs.declared.shape.Shape.{Shape}
use Rattle.pm_layout.specs.Areas.{word_of_generation, word_of_seal, line_of_slot, undo_slots}
use Rattle.pm_layout.specs.Chunks.{is_chunk_page, chunk_at, is_descriptor_word, chunk_described, word_of_root}
use Rattle.pm_view.specs.Parts.{Part, GenerationPart, SealPart, EntryPart, SlotPart, RootPart, DescriptorPart, ChunkPart, OtherPart, is_entry_word, is_slot_word, part_of}

abbrev IsOfSlot : Shape → ℕ → ℕ → Part → Type 0
IsOfSlot sh lane w SlotPart = is_slot_word sh lane w ≡ true
IsOfSlot sh lane w part = Unit {0}

slot_word : (sh : Shape) (lane w : ℕ) → IsOfSlot sh lane w (part_of sh lane w)
slot_word sh lane w = let chunk = if is_chunk_page sh (w / 512) then ChunkPart (chunk_at sh (w / 512)) (w % 512) else OtherPart in let descr = if is_descriptor_word sh w then DescriptorPart (chunk_described sh w) else chunk in
    let pool = if w == word_of_root sh then RootPart else descr in let slot = if is_slot_word sh lane w then SlotPart else pool in let entry = if is_entry_word sh lane w then EntryPart else slot in let seal = if w == word_of_seal sh lane then SealPart else entry in
    cond_both (w == word_of_generation sh lane) GenerationPart seal (IsOfSlot sh lane w) (λ _. tt) (λ _. cond_both (w == word_of_seal sh lane) SealPart entry (IsOfSlot sh lane w) (λ _. tt)
    (λ _. cond_both (is_entry_word sh lane w) EntryPart slot (IsOfSlot sh lane w) (λ _. tt) (λ _. cond_both (is_slot_word sh lane w) SlotPart pool (IsOfSlot sh lane w) (λ e. e) (λ _. cond_both (w == word_of_root sh) RootPart descr (IsOfSlot sh lane w) (λ _. tt)
    (λ _. cond_both (is_descriptor_word sh w) (DescriptorPart (chunk_described sh w)) chunk (IsOfSlot sh lane w) (λ _. tt) (λ _. cond_both (is_chunk_page sh (w / 512)) (ChunkPart (chunk_at sh (w / 512)) (w % 512)) OtherPart (IsOfSlot sh lane w) (λ _. tt) (λ _. tt)))))))

pub slot_range : (sh : Shape) (lane w : ℕ) → part_of sh lane w ≡ SlotPart → (8 * line_of_slot sh lane 0 ≤ w) × (w < 8 * line_of_slot sh lane (undo_slots sh))
slot_range sh lane w e = let t = and_parts (nat_le (8 * line_of_slot sh lane 0) w) (nat_lt w (8 * line_of_slot sh lane (undo_slots sh))) (subst (IsOfSlot sh lane w) e (slot_word sh lane w)) in
    (leb-true (8 * line_of_slot sh lane 0) w t.0, ltb-true w (8 * line_of_slot sh lane (undo_slots sh)) t.1)
