-- Undo records that a script may write, and what a power failure may leave of one in its slot (docs/MODEL.md, "Torn records").
use Rattle.std.specs.Prelude.{◌≡◌, ℕ, ◌+◌, ◌*◌, ◌<◌, ◌≤◌, List, [], ◌∷◌, ◌++◌, length, slice_index, Option}
use Rattle.solo_crash.specs.Alone.{IsTornMatch}
use Rattle.solo_crash.specs.Writes.{words_written}
use Rattle.pm_image.specs.Logs.{undo_slot}
use Rattle.pm_objects.specs.declared.history.Entry.{Entry}
use Rattle.pm_objects.specs.declared.pool.PoolView.{PoolView}
use Rattle.solo_script.specs.declared.script.ScriptLine.{ScriptLine}
use Rattle.solo_script.specs.declared.script.ScriptOp.{ScriptOp}
use Rattle.solo_script.specs.declared.script.ScriptOp.TheVariants.{Write}
use Rattle.solo_view.specs.Log.{Recorded}
use Rattle.solo_view.specs.View.{View}
use Rattle.solo_world.specs.Records.{generation_of, spelled}
use Rattle.solo_exec.specs.Calls.{id_of, names_of, call_lines}
use Rattle.solo_exec.specs.Course.{CallsMade}
use Rattle.solo_exec.specs.Openings.{first_view}
use Rattle.solo_exec.specs.declared.calls.Names.{Names}

-- what a line of a script makes of the words of a pool
abbrev pub words_by : Names → ScriptOp → (ℕ → ℕ) → ℕ → ℕ
words_by names (Write id off bytes) w = words_written ((id_of names id).off + off) bytes w
words_by names op w = w

-- what these lines make of them
unfoldable pub words_after : Names → List ScriptLine → (ℕ → ℕ) → ℕ → ℕ
words_after names [] w = w
words_after names (line ∷ lines) w = words_after names lines (words_by names line.operation w)

-- a record of one to four consecutive words of a pool of so many lanes and words, behind the lanes' areas, as these words are
pub record IsRecordOf (w : ℕ → ℕ) (lanes size : ℕ) (r : Recorded) : Type 0 where
  pub some : 1 ≤ length r.old
  pub most : length r.old ≤ 4
  pub behind : 512 + 1024 * lanes ≤ r.word
  pub inside : r.word + length r.old ≤ size
  pub old : (i : ℕ) → i < length r.old → slice_index r.old i ≡ w (r.word + i)

-- no record of words that some lines make of the pool at this view is torn in a slot of lane 0, over what the slot holds there, so that its
-- sum matches by chance
abbrev pub HasNoMatchAt : PoolView → List ScriptLine → View → Type 0
HasNoMatchAt pool lines b =
    (r : Recorded) (slot : ℕ) (torn : List ℕ) → IsRecordOf (words_after (names_of pool) lines (slice_index b.words)) pool.lanes (length b.words) r → slot < 64
    → ¬ IsTornMatch (undo_slot b.words 0 slot) (spelled (generation_of b) r) torn

-- nor is one of the pool's words, as they are somewhere in a transaction of the script, over what the transactions before it left in the slot
abbrev pub HasNoTornMatch : List ℕ → PoolView → List ScriptLine → Option ℕ → Type 0
HasNoTornMatch words pool script stop =
    (answered behind : List (List ScriptLine)) (call front rest : List ScriptLine) (history : List Entry) (b : View)
    → call_lines script ≡ answered ++ call ∷ behind → CallsMade (names_of pool) answered history (first_view pool words stop) b → call ≡ front ++ rest
    → HasNoMatchAt pool front b
