-- The text of a run: the calls of its history, and how each lane ended (docs/COMMANDS.md, "Reports").
use Rattle.std.specs.Prelude.{ℕ, List, [], ◌∷◌, ◌++◌, codes, Option, None, Some}
use Rattle.std.specs.Fmt.{decimal}
use Rattle.std.specs.List.{enumerate_from, flat_map}
use Rattle.pm_objects.specs.declared.history.Entry.{Entry}
use Rattle.pm_objects.specs.declared.history.Fate.{Fate}
use Rattle.pm_objects.specs.declared.history.Fate.TheVariants as fate
use Rattle.pm_objects.specs.declared.history.Value.{Value}
use Rattle.pm_objects.specs.declared.history.Value.TheVariants as value
use Rattle.pm_objects.specs.Texts.{error_text, refusal_text}
use Rattle.pm_text.specs.Dump.{hex_of}
use Rattle.pm_text.specs.declared.report.LaneEnd.{LaneEnd}
use Rattle.pm_text.specs.declared.report.LaneEnd.TheVariants as end

-- what became of a call, and for one that was aborted the line that did it
abbrev pub fate_text : Fate → ℕ → List ℕ
fate_text fate.Done at = codes "done"
fate_text fate.Kept at = codes "kept"
fate_text fate.Lost at = codes "lost"
fate_text (fate.Aborted why) at = codes "aborted " ++ (error_text why ++ (codes " at " ++ decimal at))
fate_text (fate.Refused refusal) at = codes "refused " ++ refusal_text refusal

-- members' offsets with commas between them, or `none`
abbrev pub members_text : List ℕ → List ℕ
members_text [] = codes "none"
members_text (off ∷ offs) = decimal off ++ flat_map (λ member. codes "," ++ decimal member) offs

abbrev pub value_text : Value → List ℕ
value_text (value.Offset off) = decimal off
value_text (value.Number number) = decimal number
value_text (value.Bytes bytes) = hex_of bytes
value_text (value.Members offs) = members_text offs
value_text (value.Refused refusal) = refusal_text refusal

-- a line that gave a value
abbrev pub value_part : ℕ × Value → List ℕ
value_part given = codes " " ++ (decimal given.0 ++ (codes "=" ++ value_text given.1))

-- the offset that the word `root` stood for, where the call has it; of a lost call it is not said
abbrev pub root_part : Fate → Option ℕ → List ℕ
root_part fate.Lost root = []
root_part f None = []
root_part f (Some off) = codes " root=" ++ decimal off

-- a call's number, lane, and its first and last line
abbrev pub entry_head : Entry → List ℕ
entry_head e = decimal e.number ++ codes " lane " ++ decimal e.call.lane ++ codes " lines " ++ decimal e.call.first ++ codes "-" ++ decimal e.call.last ++ codes " "

-- a call of the history
unfoldable pub entry_line : Entry → List ℕ
entry_line e = entry_head e ++ fate_text e.fate e.reply.at ++ root_part e.fate e.call.root ++ flat_map value_part e.reply.values ++ codes "\n"

abbrev pub stopped_text : ℕ → List ℕ
stopped_text calls = codes " stopped after " ++ decimal calls ++ codes " calls\n"

abbrev pub spent_text : ℕ → List ℕ
spent_text line = codes " spent at line " ++ decimal line ++ codes "\n"

abbrev pub end_text : LaneEnd → List ℕ
end_text end.Ended = codes " ended\n"
end_text (end.Stopped calls) = stopped_text calls
end_text (end.Spent line) = spent_text line

-- how a lane ended
abbrev pub end_line : ℕ × LaneEnd → List ℕ
end_line lane = codes "lane " ++ (decimal lane.0 ++ end_text lane.1)

-- all that is printed of a run
unfoldable pub report_text : List Entry → List LaneEnd → List ℕ
report_text entries ends = flat_map entry_line entries ++ flat_map end_line (enumerate_from 0 ends)
