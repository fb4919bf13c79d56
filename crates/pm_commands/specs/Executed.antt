-- What a run of a script over pool files comes to: the theorem that the program is built for.
use Rattle.std.specs.Prelude.{◌≡◌, ◌⊎◌, ℕ, ◌%◌, ◌≤◌, All, List, [], ◌∷◌, length, Option, None, Some, string_bytes, ⊤}
use Rattle.pm_words.specs.Words.{bytes_of, words_of}
use Rattle.pm_calls.specs.Calls.{RunsOnLanes}
use Rattle.pm_exec.specs.Runs.{RanOnLanes}
use Rattle.pm_exec.specs.declared.outcome.Outcome.{Outcome}
use Rattle.pm_image.specs.Means.{IsMeaning}
use Rattle.pm_lanes.specs.Opens.{HasOtherLanes, HasOtherLayout}
use Rattle.pm_lanes.specs.declared.fault.OpenFault.{OpenFault}
use Rattle.pm_lanes.specs.declared.fault.OpenFault.TheVariants as lanes_fault
use Rattle.pm_objects.specs.declared.history.Entry.{Entry}
use Rattle.pm_objects.specs.declared.pool.PoolView.{PoolView}
use Rattle.pm_recover.specs.Recovery.{IsRecovered}
use Rattle.pm_options.specs.Words.{Exec}
use Rattle.pm_script.specs.Scripts.{IsScript}
use Rattle.pm_script.specs.Stops.{stop_of}
use Rattle.pm_script.specs.Words.{lines}
use Rattle.pm_script.specs.declared.script.Script.{Script}
use Rattle.pm_shelf.specs.Outside.{Adds, Held, IsWhole, MayAddPart}
use Rattle.pm_text.specs.Report.{report_text}
use Rattle.pm_text.specs.declared.report.LaneEnd.{LaneEnd}
use Rattle.std.specs.Borrow.{Bor}
use Rattle.solo_exec.specs.declared.outcome.OpenFault.{OpenFault as OneLaneFault}
use Rattle.solo_exec.specs.declared.outcome.OpenFault.TheVariants as opening
use Rattle.solo_exec.specs.Letters.{AreGiven, Offsets, resolved}
use Rattle.solo_exec.specs.Opening.{IsOpened}
use Rattle.solo_exec.specs.Runs.{IsHistoryOf, LeavesReplay, MakesCallsOf}
use Rattle.solo_exec.specs.Torn.{HasNoTornMatch}
use Rattle.solo_script.specs.declared.script.Script.{Script as OneLaneScript}
use Rattle.pm_commands.specs.LaneStops.{AreStopsFor}
use Rattle.pm_commands.specs.PoolFiles.{BytesFail, BytesMean, limit}
use Rattle.pm_commands.specs.Ways.{HasWay, IsOneLane, IsOnLanes, IsScriptFault}
use Rattle.pm_commands.specs.declared.failure.Failure.{Failure}
use Rattle.pm_commands.specs.declared.failure.Failure.TheVariants.{Faulty, OtherLayout, FewerLanes, BadScript, NoMemory}

-- the bytes of the longest script
abbrev pub script_limit : ℕ
script_limit = 1048576

-- ---- A SINGLE LANE RUNS IT

-- after how many counted calls lane 0 stops, if it does
abbrev pub stop : Exec → Option ℕ
stop e = stop_of 0 e.stops

-- a script's run on the pool of these bytes leaves these bytes and this text: the report of a history of the script's calls. Lane 0 made the
-- memory calls of the script's lines, one after another, up to its end, and what is left is the image that the keep number chooses of what was
-- undrained there. It stands for what was read after those of the calls that are not lost, one whole call after another. Taken for granted
-- there: no torn record's sum matches by chance. A letter of the script stands for the offset that its line gave
pub record IsRunOfOneLane (source script_text : List ℕ) (e : Exec) (written text : List ℕ) : Type 0 where
  pub in_words : length source % 8 ≡ 0
  pub script : OneLaneScript
  pub is_script : IsOneLane (lines script_text) script
  pub opened : IsOpened (words_of source) e.layout script.lanes
  pub image : List ℕ
  pub is_image : written ≡ bytes_of image
  pub history : List Entry
  pub end : LaneEnd
  pub is_report : text ≡ report_text history (end ∷ [])
  pub given : Offsets
  pub are_given : AreGiven history end given
  pub calls : (pool : PoolView) → IsMeaning (words_of source) pool → IsHistoryOf pool (resolved given script.lines) (stop e) history end
  pub made : (pool : PoolView) → IsMeaning (words_of source) pool → MakesCallsOf (words_of source) pool (resolved given script.lines) (stop e) e.keep history end image
  pub replay : (pool : PoolView) → IsMeaning (words_of source) pool
      → ((words : List ℕ) → IsRecovered (words_of source) words pool.lanes → HasNoTornMatch words pool (resolved given script.lines) (stop e))
      → LeavesReplay (words_of source) pool history image

-- ---- LANES RUN IT, each in a thread of its own: the headline. The text is the report of what they did, each up to its stop number, and the
-- bytes are those of the image that is left: pm_exec specs/Runs.antt
pub record IsRunOfLanes (source script_text : List ℕ) (e : Exec) (written text : List ℕ) : Type 0 where
  pub in_words : length source % 8 ≡ 0
  pub script : Script
  pub is_script : IsScript (lines script_text) script
  pub runs : All RunsOnLanes script.lines
  pub stops : List (Option ℕ)
  pub are_stops : AreStopsFor e.stops stops
  pub outcome : Outcome
  pub ran : RanOnLanes (words_of source) e.layout script stops e.keep outcome
  pub is_image : written ≡ bytes_of outcome.image.items
  pub is_report : text ≡ report_text outcome.entries.items outcome.lanes.items

-- ---- THE RUN OF A SCRIPT, the one way or the other
abbrev pub IsRunOver : List ℕ → List ℕ → Exec → List ℕ → List ℕ → Type 0
IsRunOver source script_text e written text =
    IsRunOfOneLane source script_text e written text ⊎ IsRunOfLanes source script_text e written text

-- so it does with what the shelf holds under the names of the pool and the script
pub record IsRunOf (held : Option Held) (e : Exec) (written text : List ℕ) : Type 0 where
  pub source : List ℕ
  pub whole : IsWhole held e.pool limit source
  pub script_text : List ℕ
  pub whole_script : IsWhole held e.script script_limit script_text
  pub run : IsRunOver source script_text e written text

-- the new name is as it was, or new with a front of the bytes that such a run leaves; every other name is as it was
pub record AddsPartOfRun (e : Exec) (held after : Option Held) : Type 0 where
  pub written : List ℕ
  pub text : List ℕ
  pub run : IsRunOf held e written text
  pub part : MayAddPart held after e.out written

-- the shelf is as it was, or has a part of a run more
abbrev pub MayAddRun : Exec → Option Held → Option Held → Type 0
MayAddRun e held after = (after ≡ held) ⊎ AddsPartOfRun e held after

-- status 0 of `exec`: the script was run on the pool, what is left stands under its new name, and this is the report
pub record IsExecuted (e : Exec) (held after : Option Held) (text : List ℕ) : Type 0 where
  pub written : List ℕ
  pub added : Adds held after e.out written
  pub run : IsRunOf held e written text

-- the script runs on a pool of so many lanes: a single lane runs it, or it has no more lanes
abbrev pub MayRunOn : List (List ℕ) → ℕ → Type 0
MayRunOn lines lanes = ((script : OneLaneScript) × IsOneLane lines script)
    ⊎ ((script : Script) × IsOnLanes lines script × (script.lanes ≤ lanes))

-- a run is possible: the names have a pool of the layout and a script that runs on it, and the new name is not there
pub record CanRun (held : Held) (e : Exec) : Type 0 where
  pub source : List ℕ
  pub pool_there : held e.pool ≡ Some source
  pub pool : PoolView
  pub means : BytesMean source pool
  pub named : pool.name ≡ e.layout
  pub script_text : List ℕ
  pub script_there : held e.script ≡ Some script_text
  pub short : length script_text ≤ script_limit
  pub runs : MayRunOn (lines script_text) pool.lanes
  pub absent : held e.out ≡ None

-- ---- WHY A SCRIPT WAS NOT RUN

-- the bytes are a pool of this layout name, and another was asked for
pub record AreOfOtherLayout (source : List ℕ) (e : Exec) (kept : List ℕ) : Type 0 where
  pub in_words : length source % 8 ≡ 0
  pub other : HasOtherLayout (words_of source) e.layout kept

-- the bytes are a pool of the layout name that was asked for, and the text is a script of more lanes than it has
pub record AreOfFewerLanes (source script_text : List ℕ) (e : Exec) (asked kept : ℕ) : Type 0 where
  pub in_words : length source % 8 ≡ 0
  pub script : Script
  pub is_script : IsOnLanes (lines script_text) script
  pub asked_for : asked ≡ script.lanes
  pub fewer : HasOtherLanes (words_of source) e.layout asked kept

-- a line of it is refused; else the pool has a fault; else it has another layout name; else it has too few lanes
abbrev pub IsRunFault : List ℕ → List ℕ → Exec → Failure → Type 0
IsRunFault source script_text e (BadScript bad) = IsScriptFault (lines script_text) (BadScript bad)
IsRunFault source script_text e (Faulty found) = HasWay (lines script_text) × BytesFail source found
IsRunFault source script_text e (OtherLayout asked kept) = HasWay (lines script_text) × (asked.now ≡ e.layout) × AreOfOtherLayout source e kept
IsRunFault source script_text e (FewerLanes asked kept) = AreOfFewerLanes source script_text e asked kept
IsRunFault source script_text e NoMemory = ⊤
IsRunFault source script_text e failure = ⊥

-- the failure that a pool is that was not opened for a single lane
abbrev pub open_failure : Bor (List ℕ) → OneLaneFault → Failure
open_failure asked (opening.Image found) = Faulty found
open_failure asked (opening.Layout kept) = OtherLayout asked kept
open_failure asked (opening.Lanes wanted kept) = FewerLanes wanted kept
open_failure asked (opening.Memory e) = NoMemory

-- and for lanes
abbrev pub lanes_failure : OpenFault → Failure
lanes_failure (lanes_fault.Image found) = Faulty found
lanes_failure (lanes_fault.Layout asked kept) = OtherLayout asked (string_bytes kept)
lanes_failure (lanes_fault.Lanes asked kept) = FewerLanes asked kept
lanes_failure lanes_fault.Memory = NoMemory
