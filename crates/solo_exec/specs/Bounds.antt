-- How many counted calls a run makes at most, by the text of its script: docs/FORMAT.md, "Sequences".
use Rattle.std.specs.Prelude.{◌≡◌, ℕ, zero, suc, ◌+◌, ◌*◌, ◌≤◌, List, length}
use Rattle.std.specs.List.{sum_by}
use Rattle.solo_crash.specs.OpenCall.{words_recorded}
use Rattle.solo_crash.specs.Operations.{entries_so_far}
use Rattle.solo_crash.specs.Walking.{Walks}
use Rattle.pm_layout.specs.Sizes.{class_of}
use Rattle.pm_objects.specs.Pool.{block_lines}
use Rattle.solo_script.specs.declared.script.ScriptId.{ScriptId}
use Rattle.solo_script.specs.declared.script.ScriptLine.{ScriptLine}
use Rattle.solo_script.specs.declared.script.ScriptOp.{ScriptOp}
use Rattle.solo_script.specs.declared.script.ScriptOp.TheVariants.{Begin, Add, Write, Read, Alloc, Free, Reserve, WriteReserved, DeferFree, Set, Publish, Cancel, Commit}
use Rattle.solo_tx.specs.Sequences.{word_count}
use Rattle.solo_view.specs.Counts.{drains_among, flushes_among, stores_among}
use Rattle.solo_view.specs.Steps.{Step}
use Rattle.solo_view.specs.View.{View}
use Rattle.solo_exec.specs.Calls.{id_of, call_lines}
use Rattle.solo_exec.specs.declared.calls.Names.{Names}

-- how many words a range covers
abbrev pub words_of_range : Names → ScriptId → ℕ → ℕ → ℕ
words_of_range names id off len = word_count ((id_of names id).off + off) len

-- how many stores a full redo log is good for: two for each of 64 entries, and one that applies it, and two of the seal
abbrev pub log_stores : ℕ
log_stores = 194

-- those that make an object of so many bytes: eight for each line of its block, and two where a run is made for it
abbrev pub making_stores : ℕ → ℕ
making_stores size = 8 * block_lines (class_of size) + 2

-- how many stores a line is good for: for each word that it adds the eight of a record, and one that puts the word back if the transaction is
-- given up; one for each word that it writes, into what is reserved too; those that make an object, be it only reserved; and for a publish, and for each line that
-- makes or frees an object at once, those of a full redo log, which its transaction performs once at most
abbrev pub most_stores : Names → ScriptOp → ℕ
most_stores names (Begin wants) = 0
most_stores names (Add id off len) = 9 * words_of_range names id off len
most_stores names (Write id off bytes) = words_of_range names id off (length bytes)
most_stores names (Read id off len) = 0
most_stores names (Alloc letter size kind) = making_stores size + log_stores
most_stores names (Free id) = log_stores
most_stores names (Reserve letter size kind) = making_stores size
most_stores names (WriteReserved id off bytes) = words_of_range names id off (length bytes)
most_stores names (DeferFree id) = 0
most_stores names (Set id off value) = 0
most_stores names Publish = log_stores
most_stores names Cancel = 0
most_stores names Commit = 0

-- those of some lines
abbrev pub stores_of_lines : Names → List ScriptLine → ℕ
stores_of_lines names lines = sum_by (λ (line : ScriptLine). most_stores names line.operation) lines

-- those of a call of these lines: one more, which ends its generation
abbrev pub stores_of_call : Names → List ScriptLine → ℕ
stores_of_call names lines = stores_of_lines names lines + 1

-- those of some calls
abbrev pub stores_of_calls : Names → List (List ScriptLine) → ℕ
stores_of_calls names calls = sum_by (stores_of_call names) calls

-- those of a script
abbrev pub stores_of_script : Names → List ScriptLine → ℕ
stores_of_script names script = stores_of_calls names (call_lines script)

-- how many words the view's records have
abbrev pub recorded_count : View → ℕ
recorded_count v = length (words_recorded v.log.records)

-- the stores of the redo log that performs so many entries besides the one that ends the generation, if any
abbrev pub logs_of : ℕ → ℕ
logs_of zero = 0
logs_of (suc n) = log_stores

-- those of the log that a transaction would perform by what it published, made and freed so far
abbrev pub log_due : View → ℕ
log_due v = logs_of (entries_so_far v)

-- the lane came from the one view to the other with at most so many stores
pub record IsWalked (v w : View) (most : ℕ) : Type 0 where
  pub steps : List Step
  pub walks : Walks v steps w
  pub stores : stores_among steps ≤ most

-- so it did, and with at most as many flushes, and drains. The counted calls that it made are these three
pub record IsBounded (v w : View) (most : ℕ) : Type 0 where
  pub steps : List Step
  pub walks : Walks v steps w
  pub stores : stores_among steps ≤ most
  pub flushes : flushes_among steps ≤ stores_among steps
  pub drains : drains_among steps ≤ stores_among steps
  pub calls : w.calls ≡ v.calls + (stores_among steps + flushes_among steps + drains_among steps)
