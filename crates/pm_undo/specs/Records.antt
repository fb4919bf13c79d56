-- Undo records: as a lane's view has them, as the lane keeps them, and as a slot spells them.
use Rattle.std.specs.Prelude.{ℕ, ◌*◌, List, [], map, slice_index_or, unwrap_or}
use Rattle.std.specs.List.{range_with_len}
use Rattle.pm_record.specs.Undo.{undo_words}
use Rattle.pm_view.specs.Log.{Recorded}
use Rattle.pm_view.specs.Places.{RootWord}
use Rattle.pm_view.specs.View.{View}
use Rattle.pm_world.specs.Lawful.{place_in}
use Rattle.pm_world.specs.LaneFields.{Fields, kept_of, padded}
use Rattle.pm_undo.specs.declared.spans.Span.{Span}
use Rattle.pm_plan.specs.Plans.{known_word}
use Rattle.pm_world.specs.declared.lane.KeptRecord.{KeptRecord}

-- ---- the words of a span, as the lane knows them, and a record of them

abbrev pub words_of_span : View → Span → List ℕ
words_of_span v s = map (known_word v) (range_with_len s.word s.count)

abbrev pub recorded_in : View → Span → Recorded
recorded_in v s = record { place = unwrap_or (place_in v s.word) RootWord; old = words_of_span v s }

-- ---- as the lane keeps it

abbrev pub kept_in : View → Span → KeptRecord
kept_in v s = record { word = s.word; count = s.count; old = padded (words_of_span v s) }

abbrev pub no_record : KeptRecord
no_record = record { word = 0; count = 0; old = [] }

abbrev pub record_at : List KeptRecord → ℕ → KeptRecord
record_at records i = slice_index_or records i no_record

-- the words of its slot
abbrev pub slot_of : ℕ → KeptRecord → List ℕ
slot_of generation r =
    undo_words (record {
      generation = generation;
      place = 8 * r.word;
      count = r.count;
      old =
          r.old;
    })

-- the records that a lane with this view keeps
abbrev pub kept_by : View → List KeptRecord
kept_by v = map (kept_of v.fixed.shape) v.log.records

-- A LANE'S FIELDS with the log that a view has
abbrev pub with_log : View → Fields → Fields
with_log v f = record f {
  shape = v.fixed.shape;
  generation = v.log.generation;
  records =
      kept_by v;
}
