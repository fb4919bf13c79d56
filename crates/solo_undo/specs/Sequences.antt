-- The sequences of undo logging: docs/FORMAT.md, "Sequences".
use Rattle.std.specs.Prelude.{ℕ, ◌+◌, ◌/◌, List, [], ◌∷◌, length, map, slice_index, slice_index_or}
use Rattle.std.specs.List.{range_with_len}
use Rattle.pm_image.specs.Logs.{slot_line}
use Rattle.solo_view.specs.Area.{area_word}
use Rattle.solo_view.specs.Log.{Recorded}
use Rattle.solo_view.specs.Steps.Step.{Flush, Drain}
use Rattle.solo_view.specs.View.{View}
use Rattle.solo_world.specs.Records.{slot_word, spelled}
use Rattle.solo_world.specs.Sequences.{Sequence, nothing, one, in_turn, counted, by_view, by_lane, with_word, looks, stores, settles}
use Rattle.solo_world.specs.declared.lane.Span.{Span}
use Rattle.solo_undo.specs.Spans.{plan_of}

-- loads of so many consecutive words
unfoldable pub looks_from : ℕ → ℕ → Sequence
looks_from word count = counted (λ i. looks (word + i)) count

-- stores of consecutive words
unfoldable pub stores_from : ℕ → List ℕ → Sequence
stores_from word values = counted (λ i. stores (word + i) (slice_index values i)) (length values)

-- the span's words as the view has them
abbrev pub words_of_span : View → Span → List ℕ
words_of_span v s = map (slice_index v.words) (range_with_len s.word s.count)

abbrev pub recorded_in : View → Span → Recorded
recorded_in v s = record { word = s.word; old = words_of_span v s }

-- a slot's eight words are stored in order, and its line is flushed
unfoldable pub writes_slot : ℕ → ℕ → List ℕ → Sequence
writes_slot lane slot words = in_turn (stores_from (slot_word lane slot) words) (one (Flush (slot_line lane slot)))

-- a record of a span's present words is written in a slot
unfoldable pub writes_record : ℕ → ℕ → ℕ → Span → Sequence
writes_record lane generation slot s = by_view (λ v. in_turn (looks_from s.word s.count) (writes_slot lane slot (spelled generation (recorded_in v s))))

abbrev pub no_span : Span
no_span = record { word = 0; count = 0 }

abbrev pub span_at : List Span → ℕ → Span
span_at spans i = slice_index_or spans i no_span

-- records of some spans in consecutive slots
unfoldable pub writes_records : ℕ → ℕ → ℕ → List Span → Sequence
writes_records lane generation slot spans = counted (λ i. writes_record lane generation (slot + i) (span_at spans i)) (length spans)

-- the lane reads its generation, and goes on with its number and that
unfoldable pub with_generation : (ℕ → ℕ → Sequence) → Sequence
with_generation rest = by_lane (λ lane. with_word (area_word lane) (rest lane))

-- the records are written, and drained
unfoldable pub writes_all : ℕ → List Span → ℕ → ℕ → Sequence
writes_all slot spans lane generation = in_turn (writes_records lane generation slot spans) (one Drain)

-- records of some spans behind so many that there are
unfoldable pub logs : ℕ → List Span → Sequence
logs slot spans = with_generation (writes_all slot spans)

unfoldable pub logs_any : ℕ → List Span → Sequence
logs_any slot [] = nothing
logs_any slot (s ∷ spans) = logs slot (s ∷ spans)

-- the words of a range that have no record get one
unfoldable pub snapshots : List Span → ℕ → ℕ → Sequence
snapshots spans place len = logs_any (length spans) (plan_of spans place len)

-- word i of a record becomes what its slot says that it was
unfoldable pub restores_word : ℕ → ℕ → ℕ → ℕ → Sequence
restores_word lane slot word i = with_word (slot_word lane slot + 3 + i) (stores (word + i))

unfoldable pub restores_record : ℕ → ℕ → Span → Sequence
restores_record lane slot s = counted (restores_word lane slot s.word) s.count

-- every recorded word becomes what it was, in the order of the records
unfoldable pub puts_back : List Span → ℕ → Sequence
puts_back spans lane = counted (λ slot. restores_record lane slot (span_at spans slot)) (length spans)

-- and all of it is made persistent
unfoldable pub restores_all : List Span → ℕ → Sequence
restores_all spans lane = in_turn (puts_back spans lane) settles

unfoldable pub restores : List Span → Sequence
restores spans = by_lane (restores_all spans)

-- the line is flushed, and drained
unfoldable pub persists : ℕ → Sequence
persists line = in_turn (one (Flush line)) (one Drain)

-- the next generation is stored and made persistent
unfoldable pub ends_generation : ℕ → ℕ → Sequence
ends_generation lane generation = in_turn (stores (area_word lane) (generation + 1)) (persists (area_word lane / 8))

unfoldable pub retires : Sequence
retires = with_generation ends_generation
