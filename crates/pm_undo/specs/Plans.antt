-- THE PLANS OF UNDO LOGGING: docs/FORMAT.md, "Sequences".
use Rattle.std.specs.Prelude.{ℕ, zero, suc, ◌++◌, ◌+◌, ◌*◌, ◌/◌, List, [], ◌∷◌, length, map, take}
use Rattle.pm_layout.specs.declared.shape.Shape.{Shape}
use Rattle.pm_layout.specs.Areas.{word_of_generation, line_of_slot}
use Rattle.pm_view.specs.Steps.Step.{Flush, Drain}
use Rattle.pm_view.specs.View.{View}
use Rattle.pm_view.specs.Views.{after_all}
use Rattle.pm_undo.specs.declared.spans.Span.{Span}
use Rattle.pm_plan.specs.Plans.{Plan, known_word, nothing, one, in_turn, repeated, looks, stores, stores_from, persists, persists_all}
use Rattle.pm_world.specs.LaneFields.{padded}
use Rattle.pm_undo.specs.Records.{kept_by, kept_in, record_at, slot_of}
use Rattle.pm_undo.specs.Spans.{plan_of, span_at}
use Rattle.pm_world.specs.declared.lane.KeptRecord.{KeptRecord}

-- loads of so many consecutive words, and of the words of some spans
unfoldable pub looks_from : ℕ → ℕ → Plan
looks_from word count = repeated (λ i. looks (word + i)) count

unfoldable pub looks_first : List Span → ℕ → Plan
looks_first spans n = repeated (λ i. looks_from (span_at spans i).word (span_at spans i).count) n

unfoldable pub looks_at : List Span → Plan
looks_at spans = looks_first spans (length spans)

-- what they find
unfoldable pub looked_words : ℕ → ℕ → View → List ℕ
looked_words word zero v = []
looked_words word (suc n) v = looked_words word n v
    ++ known_word (after_all v (looks_from word n v)) (word + n) ∷ []

abbrev pub looked_span : Span → View → KeptRecord
looked_span s v = record {
  word = s.word;
  count = s.count;
  old =
      padded (looked_words s.word s.count v);
}

unfoldable pub looked_first : List Span → ℕ → View → List KeptRecord
looked_first spans zero v = []
looked_first spans (suc n) v = looked_first spans n v ++ looked_span (span_at spans n)
    (after_all v (looks_first spans n v)) ∷ []

-- ---- a snapshot

-- a slot's eight words are stored in order, and its line is flushed
unfoldable pub writes_slot : ℕ → List ℕ → Plan
writes_slot line words = in_turn (stores_from (8 * line) words) (one (Flush line))

abbrev pub writes_record : Shape → ℕ → ℕ → ℕ → KeptRecord → Plan
writes_record sh lane generation slot r = writes_slot (line_of_slot sh lane slot)
    (slot_of generation r)

-- records in consecutive slots
unfoldable pub writes_records : Shape → ℕ → ℕ → ℕ → List KeptRecord → Plan
writes_records sh lane generation slot records =
    repeated (λ i. writes_record sh lane generation (slot + i) (record_at records i))
    (length records)

-- and a drain, where there is any
unfoldable pub writes_all : Shape → ℕ → ℕ → ℕ → List KeptRecord → Plan
writes_all sh lane generation slot records =
    in_turn (writes_records sh lane generation slot records) (one Drain)

unfoldable pub logs : Shape → ℕ → ℕ → ℕ → List KeptRecord → Plan
logs sh lane generation slot [] = nothing
logs sh lane generation slot (r ∷ records) = writes_all sh lane generation slot (r ∷ records)

-- those of the lane itself
unfoldable pub logs_here : Shape → ℕ → ℕ → List KeptRecord → Plan
logs_here sh generation slot records v = logs sh v.fixed.lane generation slot records v

-- the words of these spans are looked at, and get records after those that there are
unfoldable pub records_all : List Span → Plan
records_all spans v = in_turn (looks_at spans) (logs_here v.fixed.shape v.log.generation
    (length v.log.records) (map (kept_in v) spans)) v

-- the words of a range that have no record get one
unfoldable pub snapshots : ℕ → ℕ → Plan
snapshots place len v = records_all (plan_of (kept_by v) place len) v

-- ---- putting back

-- the record's words become what they were
unfoldable pub restores_record : KeptRecord → Plan
restores_record r = stores_from r.word (take r.count r.old)

unfoldable pub puts_back : List KeptRecord → Plan
puts_back records = repeated (λ i. restores_record (record_at records i)) (length records)

-- every recorded word becomes what it was, in the order of the records, and all of it is made
-- persistent
unfoldable pub restores : Plan
restores v = in_turn (puts_back (kept_by v)) persists_all v

-- ---- ending the generation

-- the next generation is stored and made persistent
unfoldable pub ends_word : ℕ → ℕ → Plan
ends_word word generation = in_turn (stores word (generation + 1)) (persists (word / 8))

unfoldable pub retires : Plan
retires v = ends_word (word_of_generation v.fixed.shape v.fixed.lane) v.log.generation v
