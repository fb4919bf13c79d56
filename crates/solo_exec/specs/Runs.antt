-- What a run of a script comes to: its history, how the lane ended, and the image that it leaves.
use Rattle.std.specs.Prelude.{◌≡◌, ◌≢◌, ℕ, ◌*◌, ◌<◌, ◌≤◌, nat_lt, true, All, List, [], ◌∷◌, ◌++◌, Option, Some, length, map, slice_index, slice_index_or, take}
use Rattle.solo_crash.specs.Alone.{BeginsAlone}
use Rattle.pm_header.specs.declared.header.Header.{Header}
use Rattle.pm_image.specs.Blocks.{blocks}
use Rattle.pm_image.specs.Contents.{offset_in}
use Rattle.pm_image.specs.Logs.{recovered_at}
use Rattle.pm_image.specs.Means.{IsMeaning}
use Rattle.solo_memory.specs.Keep.{IsKeptImage}
use Rattle.solo_model.specs.History.{IsHistory, ReplaysEntries, is_answered, is_lost, without_lost}
use Rattle.pm_objects.specs.Pool.{offsets}
use Rattle.pm_objects.specs.declared.history.Entry.{Entry}
use Rattle.pm_objects.specs.declared.pool.PoolView.{PoolView}
use Rattle.pm_recover.specs.Recovery.{IsRecovered}
use Rattle.solo_script.specs.declared.script.ScriptLine.{ScriptLine}
use Rattle.pm_text.specs.declared.report.LaneEnd.{LaneEnd}
use Rattle.pm_text.specs.declared.report.LaneEnd.TheVariants as end
use Rattle.solo_view.specs.View.{View}
use Rattle.solo_world.specs.Crash.{loses}
use Rattle.solo_exec.specs.Bounds.{IsBounded, stores_of_script}
use Rattle.solo_exec.specs.Calls.{names_of, script_calls, call_lines}
use Rattle.solo_exec.specs.Course.{CallsMade, ComesToEnd}
use Rattle.solo_exec.specs.Openings.{first_view, opening_of}
use Rattle.solo_exec.specs.Replies.{AreEntries, IsOpenEntryOf}

-- the history has the first of the script's calls, in order, and all of them where the lane ended; each was answered where the lane did not
-- stop; and where it did, it made as many counted calls as its stop number says
pub record IsHistoryOf (pool : PoolView) (script : List ScriptLine) (stop : Option ℕ) (history : List Entry) (ended : LaneEnd) : Type 0 where
  pub is_history : IsHistory history
  pub calls : map (λ (e : Entry). e.call) history ≡ take (length history) (script_calls pool script)
  pub whole : ended ≡ end.Ended → length history ≡ length (script_calls pool script)
  pub answered : ((calls : ℕ) → ended ≡ end.Stopped calls → ⊥) → All (λ (e : Entry). is_answered e.fate ≡ true) history
  pub at_stop : (calls : ℕ) → ended ≡ end.Stopped calls → stop ≡ Some calls

-- what is written means the pool to which the calls of the history lead that are not lost, one whole call after another; its header page is
-- that of the image read, but for the root's word, which is the recovered one; and its allocated blocks are those of its objects, in rising place
pub record LeavesReplay (image : List ℕ) (pool : PoolView) (history : List Entry) (written : List ℕ) : Type 0 where
  pub last : PoolView
  pub means : IsMeaning written last
  pub replays : ReplaysEntries pool (without_lost history) last
  pub page : (i : ℕ) → i < 512 → i ≢ 64 → slice_index written i ≡ slice_index image i
  pub root : slice_index written 64 ≡ recovered_at image pool.lanes 64
  pub blocks : map offset_in (blocks (recovered_at written last.lanes) last.lanes last.zones) ≡ offsets last.objects

-- the lane made the memory calls of the script's lines, one after another, up to its end: from the words that recovery left it came to a view
-- within its stop number, and what is written is the image that the keep number chooses of what was undrained there
pub record MakesCalls (words : List ℕ) (pool : PoolView) (script : List ScriptLine) (stop : Option ℕ) (keep : ℕ) (history : List Entry) (lane_end : LaneEnd) (written : List ℕ) : Type 0 where
  pub answered : List (List ScriptLine)
  pub behind : List (List ScriptLine)
  pub are : call_lines script ≡ answered ++ behind
  -- the calls that were answered have the first entries of the history, and the others follow
  pub ended : List Entry
  pub rest : List Entry
  pub are_ended : history ≡ ended ++ rest
  pub middle : View
  pub made : CallsMade (names_of pool) answered ended (first_view pool words stop) middle
  -- each entry has what its call told, as the lane made it
  pub told : AreEntries (names_of pool) answered ended middle.entries
  pub last : View
  pub ends : ComesToEnd (names_of pool) behind lane_end middle last
  -- and so has that of the call in which the lane stopped, if it drew a number
  pub unanswered : All (λ (e : Entry). IsOpenEntryOf (names_of pool) behind e middle last) rest
  pub within : (n : ℕ) → stop ≡ Some n → last.calls ≤ n
  pub image : IsKeptImage keep last.words (last.changes ∷ []) written
  -- the calls that drew a number are the history's, and those that were made whole are answered, and no other
  pub numbers : length history ≡ length last.entries
  pub fates : (k : ℕ) (d : Entry) → k < length history → is_answered (slice_index_or history k d).fate ≡ nat_lt k (length answered)
  -- no flush and no drain of its is idle, and it makes no more stores than the script is good for; so its counted calls are at most three times
  -- as many
  pub bound : IsBounded (first_view pool words stop) last (stores_of_script (names_of pool) script)
  pub few : last.calls ≤ 3 * stores_of_script (names_of pool) script
  -- where the run began with clean logs, a call is lost exactly where what is written lacks its deciding store
  pub losses : (header : Header) → BeginsAlone (opening_of pool words) header pool (first_view pool words stop) → All (λ (e : Entry). is_lost e.fate ≡ loses written last e.number) history

-- so it did from the words that recovery leaves of this image
pub record MakesCallsOf (image : List ℕ) (pool : PoolView) (script : List ScriptLine) (stop : Option ℕ) (keep : ℕ) (history : List Entry) (ended : LaneEnd) (written : List ℕ) : Type 0 where
  pub words : List ℕ
  pub recovered : IsRecovered image words pool.lanes
  pub makes : MakesCalls words pool script stop keep history ended written
