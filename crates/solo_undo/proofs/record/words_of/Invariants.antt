use Rattle.std.proofs.Common.{◌≡◌, ◌++◌, ◌-◌, map, replicate, slice_index}
use Rattle.std.specs.List.{range_with_len}
use Rattle.solo_view.specs.View.{View}
use Rattle.solo_world.specs.Sequences.{IsMade, Ready}
use Rattle.solo_undo.specs.Sequences.{looks_from}
use Rattle.solo_undo.proofs.Looking.{all_looks}
use Rattle.solo_undo.proofs.record.words_of.Given as goal

-- the first so many words are found as the view had them
abbrev pub invariant-loop-i : goal.invariant-loop-i
invariant-loop-i g l = record {
  made : IsMade (g.M.LaneMem.at l.fn.mem) (g.M.LaneMem.at l.mem) (all_looks l.span.word l.i);
  found : (v : View) → g.M.LaneMem.at l.fn.mem v → Ready v (looks_from l.span.word l.span.count v) → l.words ≡ map (slice_index v.words) (range_with_len l.span.word l.i) ++ replicate (4 - l.i) 0;
}
