-- THE PLANS OF A TRANSACTION'S OPERATIONS on objects that it found, as functions of the lane's view before them: docs/FORMAT.md, "Sequences".
use Rattle.std.specs.Prelude.{ℕ, ◌+◌, ◌/◌, ◌%◌, ◌^◌, if◌then◌else◌, ◌==◌, List, [], ◌∷◌, length, Option, Some, None}
use Rattle.pm_objects.specs.declared.calls.Operation.{Operation}
use Rattle.pm_objects.specs.declared.calls.Operation.TheVariants.{AddRange, Cancel, Write, Read, Increment, Commit}
use Rattle.pm_objects.specs.declared.history.Value.{Value}
use Rattle.pm_objects.specs.declared.history.Value.TheVariants.{Bytes, Number}
use Rattle.pm_objects.specs.declared.ids.Oid.{Oid}
use Rattle.pm_model.specs.Items.{number_bytes, number_of}
use Rattle.pm_model.specs.Transaction.{covered_words}
use Rattle.pm_record.specs.declared.redo.Redo.{Redo}
use Rattle.pm_redo.specs.Plans.{performs, writes_log}
use Rattle.pm_view.specs.Steps.Step.{Draw, Tell}
use Rattle.pm_view.specs.View.{View}
use Rattle.pm_crash.specs.Looked.{bytes_seen}
use Rattle.pm_crash.specs.Writes.{written_word}
use Rattle.pm_plan.specs.Plans.{Plan, in_turn, known_word, looks, one, persists_all, repeated, stores}
use Rattle.pm_undo.specs.Plans.{restores, retires, snapshots}

-- an operation is told, with its reply
abbrev pub tells : Operation → Option Value → Plan
tells op reply = one (Tell op reply)

-- ---- a range is recorded
abbrev pub adds : Oid → ℕ → ℕ → Plan
adds id off len = in_turn (snapshots (id.off + off) len) (tells (AddRange id off len) None)

-- ---- bytes are written: each covered word in rising place is looked at, and stored with its bytes put in
unfoldable pub writes_word : ℕ → List ℕ → ℕ → Plan
writes_word place bytes w v = in_turn (looks w) (stores w (written_word place bytes w (known_word v w))) v

unfoldable pub writes_words : ℕ → List ℕ → Plan
writes_words place bytes = repeated (λ i. writes_word place bytes (place / 8 + i)) (length (covered_words place (length bytes)))

abbrev pub puts : Oid → ℕ → List ℕ → Plan
puts id off bytes = in_turn (writes_words (id.off + off) bytes) (tells (Write id off bytes) None)

-- ---- bytes are read: they are known
abbrev pub gets : Oid → ℕ → ℕ → Plan
gets id off len v = tells (Read id off len) (Some (Bytes (bytes_seen (known_word v) id.off off len))) v

-- ---- a number of eight bytes is incremented: its sum with another, modulo 2^64, is written, and
-- told
abbrev pub known_number : View → Oid → ℕ → ℕ
known_number v id off = number_of (bytes_seen (known_word v) id.off off 8)

abbrev pub known_sum : View → Oid → ℕ → ℕ → ℕ
known_sum v id off by = (known_number v id off + by) % 2 ^ 64

abbrev pub puts_sum : Oid → ℕ → ℕ → ℕ → Plan
puts_sum id off by sum =
    in_turn (writes_words (id.off + off) (number_bytes sum))
    (tells (Increment id off by) (Some (Number sum)))

abbrev pub increments : Oid → ℕ → ℕ → Plan
increments id off by v = puts_sum id off by (known_sum v id off by) v

-- ---- THE TRANSACTION IS GIVEN UP: recorded words become what they were, and their generation ends; else all is made persistent. Then it takes its number
abbrev pub takes_back : Plan
takes_back v = if length v.log.records == 0 then persists_all v else in_turn restores retires v

abbrev pub ends_call : Operation → Option Value → ℕ → Plan
ends_call op reply n = in_turn (tells op reply) (one (Draw n))

abbrev pub gives_up : Operation → Option Value → ℕ → Plan
gives_up op reply n = in_turn takes_back (ends_call op reply n)

-- ---- WHAT IS PENDING IS CANCELLED: all that is undrained is made persistent, and the operation is told
abbrev pub cancels : Plan
cancels = in_turn persists_all (tells Cancel None)

-- ---- A LEVEL IS COMMITTED: an inner one is only told
abbrev pub commits_inner : Plan
commits_inner = tells Commit None

-- the generation of a call with its number ends, where it has records
abbrev pub ends_records : Plan
ends_records v = if length v.log.records == 0 then [] else retires v

-- at the outermost level all is made persistent, and the call takes its number; then its records end. Entries are logged before the number is
-- taken, and performed after it, which ends the records too
abbrev pub performs_call : Operation → (ℕ → ℕ) → ℕ → Plan
performs_call op found n = in_turn (ends_call op None n) (performs found)

abbrev pub logs_entries : Operation → List Redo → (ℕ → ℕ) → ℕ → Plan
logs_entries op entries found n = in_turn (writes_log entries) (performs_call op found n)

abbrev pub finishes : List Redo → (ℕ → ℕ) → ℕ → Plan
finishes [] found n = in_turn (ends_call Commit None n) ends_records
finishes (e ∷ entries) found n = logs_entries Commit (e ∷ entries) found n

abbrev pub commits : List Redo → (ℕ → ℕ) → ℕ → Plan
commits entries found n = in_turn persists_all (finishes entries found n)
