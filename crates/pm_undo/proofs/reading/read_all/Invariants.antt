use Rattle.std.proofs.Common.{◌≡◌, length}
use Rattle.pm_view.specs.View.{View}
use Rattle.pm_plan.specs.Plans.{IsMade, Ready, repeated}
use Rattle.pm_undo.specs.Plans.{looked_first, looks_at, looks_from}
use Rattle.pm_undo.specs.Spans.{span_at}
use Rattle.pm_undo.proofs.reading.read_all.Given as goal

-- the first so many spans are looked at, and found as they were known
abbrev pub invariant-loop-span : goal.invariant-loop-span
invariant-loop-span g l = record {
  made : IsMade (g.M.LaneMem.at l.fn.mem) (g.M.LaneMem.at l.mem) (repeated (λ i. looks_from (span_at l.spans i).word (span_at l.spans i).count) l.span-index);
  found : (v : View) → g.M.LaneMem.at l.fn.mem v → Ready v (looks_at l.spans v) → l.kept.items ≡ looked_first l.spans l.span-index v;
  many : length l.kept.items ≡ l.span-index;
}
