-- Which words a range still needs records for: docs/FORMAT.md, "Undo slots".
use Rattle.std.specs.Prelude.{◌≡◌, ℕ, ◌+◌, ◌^◌, ◌<◌, ◌≤◌, List, [], ◌∷◌, map, slice_index_or}
use Rattle.std.specs.List.{flat_map, range_with_len}
use Rattle.pm_model.specs.Transaction.{covered_words, new_words, records_of}
use Rattle.pm_world.specs.declared.lane.KeptRecord.{KeptRecord}
use Rattle.pm_undo.specs.declared.spans.Span.{Span}

-- the words of some records
unfoldable pub words_in : List KeptRecord → List ℕ
words_in records = flat_map (λ (r : KeptRecord). range_with_len r.word r.count) records

abbrev pub span_in : ℕ × ℕ → Span
span_in record_ = record { word = record_.0; count = record_.1 }

-- the records for those words of a range that have none yet: each of one to four consecutive ones
unfoldable pub spans_for : List KeptRecord → List ℕ → List Span
spans_for records words = map span_in (records_of (new_words (words_in records) words))

-- the records that a range of bytes still needs
unfoldable pub plan_of : List KeptRecord → ℕ → ℕ → List Span
plan_of records place len = spans_for records (covered_words place len)

-- these records are those of some words, in rising order
abbrev pub AreSpansOf : List Span → List ℕ → Type 0
AreSpansOf spans words = spans ≡ map span_in (records_of words)

-- a record of one to four words of a pool
pub record IsSpan (s : Span) : Type 0 where
  pub some : 1 ≤ s.count
  pub most : s.count ≤ 4
  pub low : s.word < 2 ^ 60

abbrev pub no_span : Span
no_span = record { word = 0; count = 0 }

abbrev pub span_at : List Span → ℕ → Span
span_at spans i = slice_index_or spans i no_span

-- each record begins past the end of the one before, and none before this word
abbrev pub ArePast : ℕ → List Span → Type 0
ArePast b [] = Unit {0}
ArePast b (s ∷ spans) = (b ≤ s.word) × ArePast (s.word + s.count) spans
