-- What opening and running an image comes to, said of the bytes of files.
use Rattle.std.proofs.Common.{◌≡◌, ℕ, ◌%◌, ◌<◌, ◌≤◌, List, [], ◌∷◌, length, inl, inr, Option, Result, Ok, Err, IfErr, IfOk, arith, sym, ap, subst, ◌∙◌}
use Rattle.std.specs.Borrow.{Bor}
use Rattle.std.specs.Prelude.{string_bytes}
use Rattle.pm_words.specs.Words.{bytes_of, words_of}
use Rattle.solo_exec.specs.declared.outcome.OpenFault.{OpenFault as OneLaneFault}
use Rattle.solo_exec.specs.declared.outcome.OpenFault.TheVariants as opening
use Rattle.solo_exec.specs.Opening.{IsOpenCause, IsOpened}
use Rattle.solo_exec.specs.Letters.{AreGiven, Offsets, resolved}
use Rattle.solo_exec.specs.Runs.{IsHistoryOf, LeavesReplay, MakesCallsOf}
use Rattle.solo_exec.specs.Torn.{HasNoTornMatch}
use Rattle.pm_exec.specs.Runs.{RanOnLanes}
use Rattle.pm_exec.specs.declared.outcome.Outcome.{Outcome}
use Rattle.pm_image.specs.Means.{IsImageFault, IsMeaning}
use Rattle.pm_image.specs.Steps.{IfImage}
use Rattle.pm_image.specs.declared.fault.MeansFault.{MeansFault}
use Rattle.pm_image.specs.declared.fault.MeansFault.TheVariants as means_fault
use Rattle.pm_lanes.specs.Opens.{HasOtherLanes, HasOtherLayout, IsOpenCause as IsLanesCause}
use Rattle.pm_lanes.specs.declared.fault.OpenFault.{OpenFault}
use Rattle.pm_lanes.specs.declared.fault.OpenFault.TheVariants as lanes_fault
use Rattle.pm_objects.specs.declared.history.Entry.{Entry}
use Rattle.pm_objects.specs.declared.pool.PoolView.{PoolView}
use Rattle.pm_recover.specs.Recovery.{IsRecovered}
use Rattle.pm_script.specs.Words.{lines}
use Rattle.pm_script.specs.declared.script.Script.{Script}
use Rattle.solo_script.specs.declared.script.Script.{Script as OneLaneScript}
use Rattle.solo_script.specs.declared.script.ScriptLine.{ScriptLine as OneLaneLine}
use Rattle.pm_text.specs.Report.{report_text}
use Rattle.pm_text.specs.declared.report.LaneEnd.{LaneEnd}
use Rattle.pm_options.specs.Words.{Exec}
use Rattle.pm_commands.specs.Executed.{IsRunFault, IsRunOver, lanes_failure, open_failure, stop}
use Rattle.pm_commands.specs.Failures.{failure_of}
use Rattle.pm_commands.specs.LaneStops.{AreStopsFor}
use Rattle.pm_commands.specs.PoolFiles.{BytesFail}
use Rattle.pm_commands.specs.Ways.{HasWay, IsOneLane, IsOnLanes, IsWay}
use Rattle.pm_commands.specs.declared.failure.Failure.{Failure}
use Rattle.pm_commands.specs.declared.failure.Failure.TheVariants.{NoMemory}
use Rattle.pm_commands.specs.declared.ways.Way.{Way}
use Rattle.pm_commands.specs.declared.ways.Way.TheVariants as way

has_way : (script_text : List ℕ) (found : Way) → IsWay (lines script_text) found → HasWay (lines script_text)
has_way script_text (way.OneLane script) is = inl (script, is)
has_way script_text (way.Lanes script) is = inr (script, is)

-- bytes that are no image are not run
pub no_image : (source script_text : List ℕ) (e : Exec) (found : Way) (fault : MeansFault)
    → IsWay (lines script_text) found → IfImage fault (BytesFail source) → IsRunFault source script_text e (failure_of fault)
no_image source script_text e found (means_fault.Image wrong) is fails = (has_way script_text found is, fails)
no_image source script_text e found means_fault.Memory is fails = tt

-- a pool that was not opened for a single lane is not run
pub not_opened : (source script_text : List ℕ) (e : Exec) (image : List ℕ) (script : OneLaneScript) (asked : Bor (List ℕ)) (fault : OneLaneFault)
    → length source % 8 ≡ 0 → image ≡ words_of source → IsOneLane (lines script_text) script → asked.now ≡ e.layout
    → IsOpenCause image e.layout script.lanes fault → IsRunFault source script_text e (open_failure asked fault)
not_opened source script_text e image script asked (opening.Image found) in_words is is_script same cause = (inl (script, is_script), inr (in_words, subst (λ (ws : List ℕ). IsImageFault ws found) is cause))
not_opened source script_text e image script asked (opening.Layout kept) in_words is is_script same cause = (
  inl (script, is_script),
  same,
  record { in_words = in_words; other = record { pool = cause.pool; means = subst (λ (ws : List ℕ). IsMeaning ws cause.pool) is cause.means; named = cause.named; other = cause.other } },
)
not_opened source script_text e image script asked (opening.Lanes wanted kept) in_words is is_script same cause =
    let few : script.lanes ≤ 1 = is_script.1 in
    let asked_for : wanted ≡ script.lanes = cause.0 in
    let one : kept ≡ 1 = cause.1.kept_so in
    let more : kept < wanted = cause.1.more in
    absurd (omega arith)
not_opened source script_text e image script asked (opening.Memory error) in_words is is_script same cause = tt

-- nor one that was not opened for lanes
pub not_opened_for_lanes : (source script_text : List ℕ) (e : Exec) (image : List ℕ) (script : Script) (fault : OpenFault)
    → length source % 8 ≡ 0 → image ≡ words_of source → IsOnLanes (lines script_text) script
    → IsLanesCause image e.layout script.lanes fault → IsRunFault source script_text e (lanes_failure fault)
not_opened_for_lanes source script_text e image script (lanes_fault.Image found) in_words is is_script cause = (inr (script, is_script), inr (in_words, subst (λ (ws : List ℕ). IsImageFault ws found) is cause))
not_opened_for_lanes source script_text e image script (lanes_fault.Layout asked kept) in_words is is_script cause =
    (inr (script, is_script), cause.0, record { in_words = in_words; other = subst (λ (ws : List ℕ). HasOtherLayout ws e.layout (string_bytes kept)) is cause.1 })
not_opened_for_lanes source script_text e image script (lanes_fault.Lanes asked kept) in_words is is_script cause = record {
  in_words = in_words;
  script = script;
  is_script = is_script;
  asked_for = cause.0;
  fewer = subst (λ (ws : List ℕ). HasOtherLanes ws e.layout asked kept) is cause.1;
}
not_opened_for_lanes source script_text e image script lanes_fault.Memory in_words is is_script cause = tt

-- what is taken for granted of torn records, of the words of a pool
abbrev HasNoTorn : List ℕ → PoolView → List OneLaneLine → Option ℕ → Type 0
HasNoTorn image pool lines calls = (words : List ℕ) → IsRecovered image words pool.lanes → HasNoTornMatch words pool lines calls

-- the run of a single lane, with the bytes and the report that it left
pub one_lane_left : {L E : Type 0} (bytes text : L → List ℕ) (result : Result L E) (source script_text : List ℕ) (e : Exec) (image written : List ℕ) (script : OneLaneScript) (history : List Entry) (end : LaneEnd) (given : Offsets)
    (words : List ℕ) (entries : List Entry) (stopped : Option ℕ)
    → stopped ≡ stop e
    → length source % 8 ≡ 0 → image ≡ words_of source → IsOneLane (lines script_text) script → IsOpened image e.layout script.lanes
    → AreGiven history end given
    → ((pool : PoolView) → IsMeaning image pool → IsHistoryOf pool (resolved given script.lines) stopped history end)
    → ((pool : PoolView) → IsMeaning image pool → MakesCallsOf image pool (resolved given script.lines) stopped e.keep history end written)
    → ((pool : PoolView) → IsMeaning image pool → HasNoTorn image pool (resolved given script.lines) stopped → LeavesReplay image pool history written)
    → words ≡ written → entries ≡ history
    → IfOk result (λ l. bytes l ≡ bytes_of words) → IfOk result (λ l. text l ≡ report_text entries (end ∷ []))
    → IfOk result (λ l. IsRunOver source script_text e (bytes l) (text l))
one_lane_left bytes text (Ok l) source script_text e image written script history end given words entries stopped same in_words is is_script opened are_given calls made replay words_are entries_are is_image is_report = inl (record {
  in_words = in_words;
  script = script;
  is_script = is_script;
  opened = subst (λ (ws : List ℕ). IsOpened ws e.layout script.lanes) is opened;
  image = written;
  is_image = is_image ∙ ap bytes_of words_are;
  history = history;
  end = end;
  is_report = is_report ∙ ap (λ (es : List Entry). report_text es (end ∷ [])) entries_are;
  given = given;
  are_given = are_given;
  calls = subst (λ (calls : Option ℕ). (pool : PoolView) → IsMeaning (words_of source) pool → IsHistoryOf pool (resolved given script.lines) calls history end) same
      (subst (λ (ws : List ℕ). (pool : PoolView) → IsMeaning ws pool → IsHistoryOf pool (resolved given script.lines) stopped history end) is calls);
  made = subst (λ (calls : Option ℕ). (pool : PoolView) → IsMeaning (words_of source) pool → MakesCallsOf (words_of source) pool (resolved given script.lines) calls e.keep history end written) same
      (subst (λ (ws : List ℕ). (pool : PoolView) → IsMeaning ws pool → MakesCallsOf ws pool (resolved given script.lines) stopped e.keep history end written) is made);
  replay = subst (λ (calls : Option ℕ). (pool : PoolView) → IsMeaning (words_of source) pool → HasNoTorn (words_of source) pool (resolved given script.lines) calls → LeavesReplay (words_of source) pool history written) same
      (subst (λ (ws : List ℕ). (pool : PoolView) → IsMeaning ws pool → HasNoTorn ws pool (resolved given script.lines) stopped → LeavesReplay ws pool history written) is replay);
})
one_lane_left bytes text (Err f) source script_text e image written script history end given words entries stopped same in_words is is_script opened are_given calls made replay words_are entries_are is_image is_report = tt

-- the run of lanes, with the bytes and the report that it left
pub lanes_left : {L E : Type 0} (bytes text : L → List ℕ) (result : Result L E) (source script_text : List ℕ) (e : Exec) (image : List ℕ) (script : Script) (stops : List (Option ℕ)) (out : Outcome)
    (words : List ℕ) (entries : List Entry) (ends : List LaneEnd)
    → length source % 8 ≡ 0 → image ≡ words_of source → IsOnLanes (lines script_text) script → AreStopsFor e.stops stops
    → RanOnLanes image e.layout script stops e.keep out → words ≡ out.image.items → entries ≡ out.entries.items → ends ≡ out.lanes.items
    → IfOk result (λ l. bytes l ≡ bytes_of words) → IfOk result (λ l. text l ≡ report_text entries ends)
    → IfOk result (λ l. IsRunOver source script_text e (bytes l) (text l))
lanes_left bytes text (Ok l) source script_text e image script stops out words entries ends in_words is is_script are_stops ran words_are entries_are ends_are is_image is_report = inr (record {
  in_words = in_words;
  script = script;
  is_script = is_script.is_script;
  runs = is_script.runs;
  stops = stops;
  are_stops = are_stops;
  outcome = out;
  ran = subst (λ (ws : List ℕ). RanOnLanes ws e.layout script stops e.keep out) is ran;
  is_image = is_image ∙ ap bytes_of words_are;
  is_report = is_report ∙ (λ i. report_text (entries_are i) (ends_are i));
})
lanes_left bytes text (Err f) source script_text e image script stops out words entries ends in_words is is_script are_stops ran words_are entries_are ends_are is_image is_report = tt

-- nothing is left where there is no memory
pub no_memory_left : {L : Type 0} (result : Result L Failure) (source script_text : List ℕ) (e : Exec) → IfErr result (λ failure. failure ≡ NoMemory) → IfErr result (IsRunFault source script_text e)
no_memory_left (Ok l) source script_text e is = tt
no_memory_left (Err f) source script_text e is = subst (IsRunFault source script_text e) (sym is) tt
