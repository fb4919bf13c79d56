-- The sequences of a transaction's reads, writes and ends: docs/FORMAT.md, "Sequences".
use Rattle.std.specs.Prelude.{ℕ, ◌+◌, ◌-◌, ◌/◌, ◌%◌, ◌==◌, if◌then◌else◌, List, [], ◌∷◌, ◌++◌, Option, None, length, slice_index}
use Rattle.pm_words.specs.Words.{bytes_of}
use Rattle.pm_objects.specs.declared.calls.Operation.{Operation}
use Rattle.pm_objects.specs.declared.calls.Operation.TheVariants.{Commit}
use Rattle.pm_objects.specs.declared.history.Value.{Value}
use Rattle.solo_crash.specs.Writes.{written_word}
use Rattle.pm_record.specs.declared.redo.Redo.{Redo}
use Rattle.solo_redo.specs.Entering.{ending}
use Rattle.solo_redo.specs.Sequences.{logs, performs}
use Rattle.solo_undo.specs.Sequences.{looks_from, restores, retires}
use Rattle.solo_view.specs.Area.{area_word}
use Rattle.solo_view.specs.Steps.Step.{Draw, NumberSeen, Tell}
use Rattle.solo_world.specs.Sequences.{Sequence, by_lane, counted, in_turn, looks, nothing, one, settles, stores, with_word}
use Rattle.solo_world.specs.declared.lane.Span.{Span}

-- how many words have some of so many bytes from a place on
abbrev pub word_count : ℕ → ℕ → ℕ
word_count place len = if len == 0 then 0 else (place + len - 1) / 8 + 1 - place / 8

-- a word is looked at, and stored with those of its bytes replaced that are among the bytes
unfoldable pub writes_word : ℕ → List ℕ → ℕ → Sequence
writes_word place bytes w = with_word w (λ x. stores w (written_word place bytes w x))

-- bytes are written from a place on: one store for each word that they cover, in rising place
unfoldable pub writes : ℕ → List ℕ → Sequence
writes place bytes = counted (λ i. writes_word place bytes (place / 8 + i)) (word_count place (length bytes))

-- so many bytes are read from a place on: a load of each word that has some of them
unfoldable pub reads : ℕ → ℕ → Sequence
reads place len = looks_from (place / 8) (word_count place len)

-- the byte at a place of the pool
abbrev pub byte_in : List ℕ → ℕ → ℕ
byte_in words place = slice_index (bytes_of (slice_index words (place / 8) ∷ [])) (place % 8)

-- every recorded word is put back, and then the records are ended
unfoldable pub undoes : List Span → Sequence
undoes spans = in_turn (restores spans) retires

-- what the call did is taken back: where it has no records there is nothing to put back, and all is made persistent
unfoldable pub takes_back : List Span → Sequence
takes_back [] = settles
takes_back (s ∷ spans) = undoes (s ∷ spans)

-- an operation is told with its reply, and the call draws this number
unfoldable pub ends_call : Operation → Option Value → ℕ → Sequence
ends_call operation reply n = in_turn (one (Tell operation reply)) (one (Draw n))

-- the call is taken back, and ends with this operation
unfoldable pub gives_up : List Span → Operation → Option Value → ℕ → Sequence
gives_up spans operation reply n = in_turn (takes_back spans) (ends_call operation reply n)

-- the records are ended, if there are any
unfoldable pub retires_any : List Span → Sequence
retires_any [] = nothing
retires_any (s ∷ spans) = retires

-- the commit is told, the call draws this number, and its records are ended
unfoldable pub decides : List Span → ℕ → Sequence
decides spans n = in_turn (ends_call Commit None n) (retires_any spans)

-- the logged entries are performed, with the one that ends the lane's generation behind them
unfoldable pub performs_logged : List Redo → Sequence
performs_logged entries v = performs (entries ++ ending v ∷ []) v

-- these entries are logged, the operation is told and the call draws this number, and then the log is performed
unfoldable pub publishes : List Redo → Operation → ℕ → Sequence
publishes entries operation n = in_turn (logs entries) (in_turn (ends_call operation None n) (performs_logged entries))

-- all is made persistent, and then these entries are published: outside of a transaction words may be undrained that the lane filled
unfoldable pub publishes_outside : List Redo → Operation → ℕ → Sequence
publishes_outside entries operation n = in_turn settles (publishes entries operation n)

-- the commit is told and the call draws this number: what it published is performed, or its records are ended
unfoldable pub decides_all : List Span → List Redo → ℕ → Sequence
decides_all spans [] n = decides spans n
decides_all spans (e ∷ entries) n = publishes (e ∷ entries) Commit n

-- all is made persistent, and then the call is decided
unfoldable pub commits : List Span → List Redo → ℕ → Sequence
commits spans entries n = in_turn settles (decides_all spans entries n)

-- what a commit makes before the call draws its number, once all is persistent: the entries are logged, if there are any
unfoldable pub logs_listed : List Redo → Sequence
logs_listed [] = nothing
logs_listed (e ∷ entries) = logs (e ∷ entries)

-- and what it makes behind the draw: the logged entries are performed, or, without any, the records are ended
unfoldable pub completes : List Span → List Redo → Sequence
completes spans [] = retires_any spans
completes spans (e ∷ entries) = performs_logged (e ∷ entries)

-- the lane looks at its generation
unfoldable pub sees_generation : Sequence
sees_generation = by_lane (λ lane. looks (area_word lane))

-- and then at how many numbers were drawn, which are so many
unfoldable pub starts : ℕ → Sequence
starts n = in_turn sees_generation (one (NumberSeen n))
