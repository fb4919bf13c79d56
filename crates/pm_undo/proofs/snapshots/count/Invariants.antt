use Rattle.std.proofs.Common.{◌≡◌, ◌*◌, ◌≤◌, take, sum_by}
use Rattle.pm_undo.specs.declared.spans.Span.{Span}
use Rattle.pm_undo.proofs.snapshots.count.Given as goal

-- the words of the records looked at
abbrev pub invariant-loop-span : goal.invariant-loop-span
invariant-loop-span l = record { is : l.count ≡ sum_by (λ (s : Span). s.count) (take l.span-index l.spans); few : l.count ≤ 4 * l.span-index }
