-- What a word of the pool is to a lane.
use Rattle.std.specs.Prelude.{ℕ, zero, suc, ◌+◌, ◌*◌, ◌/◌, ◌%◌, nat_le, nat_lt, Bool, ◌==◌, ◌&&◌, if◌then◌else◌, Option, None, Some}
use Rattle.pm_layout.specs.declared.shape.Shape.{Shape}
use Rattle.pm_layout.specs.Areas.{page_words, undo_slots, redo_entries, word_of_generation, word_of_seal, word_of_entry, line_of_slot}
use Rattle.pm_layout.specs.Chunks.{is_chunk_page, chunk_at, is_descriptor_word, chunk_described, word_of_root}
use Rattle.pm_view.specs.Places.{Place, InRun, InHuge, Descr, RootWord}

pub data Part : Type 0 where
  -- the generation and the seal in the lane's own area, one of its redo entries' words, one of its undo slots' words
  GenerationPart : Part
  SealPart : Part
  EntryPart : Part
  SlotPart : Part
  -- the root's offset, the descriptor of a chunk, and a word of a chunk, 0 to 511
  RootPart : Part
  DescriptorPart : ℕ → Part
  ChunkPart : ℕ → ℕ → Part
  -- any other word
  OtherPart : Part

-- one of the lane's entries' words, one of its slots' words
abbrev pub is_entry_word : Shape → ℕ → ℕ → Bool
is_entry_word sh lane w = nat_le (word_of_entry sh lane 0) w && nat_lt w (word_of_entry sh lane (redo_entries sh))

abbrev pub is_slot_word : Shape → ℕ → ℕ → Bool
is_slot_word sh lane w = nat_le (8 * line_of_slot sh lane 0) w && nat_lt w (8 * line_of_slot sh lane (undo_slots sh))

-- what a word of the zones or the header page is
abbrev pub pool_part : Shape → ℕ → Part
pool_part sh w =
    if w == word_of_root sh then RootPart else
    if is_descriptor_word sh w then DescriptorPart (chunk_described sh w) else
    if is_chunk_page sh (w / page_words) then ChunkPart (chunk_at sh (w / page_words)) (w % page_words) else OtherPart

abbrev pub part_of : Shape → ℕ → ℕ → Part
part_of sh lane w =
    if w == word_of_generation sh lane then GenerationPart else
    if w == word_of_seal sh lane then SealPart else
    if is_entry_word sh lane w then EntryPart else
    if is_slot_word sh lane w then SlotPart else pool_part sh w

-- the place that a word is, where the chunk is a run of some class or none
abbrev pub chunk_place : ℕ → ℕ → ℕ → Place
chunk_place zero c w = InHuge c w
chunk_place (suc cl) c w = InRun c w

abbrev pub place_in : (ℕ → ℕ) → Part → Option Place
place_in class RootPart = Some RootWord
place_in class (DescriptorPart c) = Some (Descr c)
place_in class (ChunkPart c w) = Some (chunk_place (class c) c w)
place_in class part = None
