use Rattle.std.proofs.Common.{◌≡◌, ◌+◌, ◌++◌, ◌-◌, replicate}
use Rattle.pm_view.specs.View.{View}
use Rattle.pm_plan.specs.Plans.{IsMade, Ready, looks, repeated}
use Rattle.pm_undo.specs.Plans.{looked_words, looks_from}
use Rattle.pm_undo.proofs.reading.read_span.Given as goal

-- the first so many words are looked at, and found as they were known
abbrev pub invariant-loop-i : goal.invariant-loop-i
invariant-loop-i g l = record {
  made : IsMade (g.M.LaneMem.at l.fn.mem) (g.M.LaneMem.at l.mem) (repeated (λ i. looks (l.span.word + i)) l.i);
  found : (v : View) → g.M.LaneMem.at l.fn.mem v → Ready v (looks_from l.span.word l.span.count v) → l.old ≡ looked_words l.span.word l.i v ++ replicate (4 - l.i) 0;
}
