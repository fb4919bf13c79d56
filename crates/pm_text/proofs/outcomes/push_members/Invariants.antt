use Rattle.std.proofs.Common.{◌≡◌, ◌++◌, take, codes}
use Rattle.std.specs.Fmt.{decimal}
use Rattle.std.specs.List.{flat_map}
use Rattle.pm_text.proofs.outcomes.push_members.Given as goal

abbrev pub invariant-loop-off : goal.invariant-loop-off
invariant-loop-off l = l.out.items ≡ l.initial.out.items ++ flat_map (λ member. codes "," ++ decimal member) (take l.off-index l.others)
